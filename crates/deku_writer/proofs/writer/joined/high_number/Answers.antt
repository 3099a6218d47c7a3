use Rattle.std.proofs.Common.{◌<◌, ◌^◌, ◌∙◌, ap, rules}
use Rattle.deku_stream.specs.Bits.{bits_of}
use Rattle.deku_writer.proofs.Joined.{high_word, short_word, front_shifted, high_below, high_even, fits_word}
use Rattle.deku_writer.proofs.writer.joined.high_number.Goals as goal

pub returns-then-n-lt8-clause-bits : goal.returns-then-n-lt8-clause-bits
returns-then-n-lt8-clause-bits c = short_word c.args.n c.args.word c.requires.most c.requires.inside c.if-n-lt8.true

pub returns-then-behind-eq0-clause-inside : goal.returns-then-behind-eq0-clause-inside
returns-then-behind-eq0-clause-inside c =
    let wide : c.swap_bytes.result < 2 ^ 64 = search rules in
    rw (high_even c.args.n c.args.word c.swap_bytes.result c.requires.most c.requires.inside wide c.if-behind-eq0.true)
    (high_below c.args.n c.args.word c.swap_bytes.result c.requires.most c.requires.inside wide)

pub returns-then-behind-eq0-clause-bits : goal.returns-then-behind-eq0-clause-bits
returns-then-behind-eq0-clause-bits c =
    let wide : c.swap_bytes.result < 2 ^ 64 = search rules in
    ap (bits_of c.args.n) (high_even c.args.n c.args.word c.swap_bytes.result c.requires.most c.requires.inside wide c.if-behind-eq0.true)
    ∙ rw c.swap_bytes.ensures (high_word c.args.n c.args.word c.requires.most c.requires.inside)

pub overflow_add-result : goal.overflow_add-result
overflow_add-result c =
    let wide : c.swap_bytes.result < 2 ^ 64 = search rules in
    let b = high_below c.args.n c.args.word c.swap_bytes.result c.requires.most c.requires.inside wide in
    rw (front_shifted c.args.n c.args.word c.swap_bytes.result c.requires.most c.requires.inside wide) (record { fits = fits_word _ c.args.n b c.requires.most })

pub returns-clause-inside : goal.returns-clause-inside
returns-clause-inside c =
    let wide : c.swap_bytes.result < 2 ^ 64 = search rules in
    rw (front_shifted c.args.n c.args.word c.swap_bytes.result c.requires.most c.requires.inside wide)
    (high_below c.args.n c.args.word c.swap_bytes.result c.requires.most c.requires.inside wide)

pub returns-clause-bits : goal.returns-clause-bits
returns-clause-bits c =
    let wide : c.swap_bytes.result < 2 ^ 64 = search rules in
    rw (front_shifted c.args.n c.args.word c.swap_bytes.result c.requires.most c.requires.inside wide, c.swap_bytes.ensures)
    (high_word c.args.n c.args.word c.requires.most c.requires.inside)

pub returns-then-n-lt8-clause-inside : goal.returns-then-n-lt8-clause-inside
returns-then-n-lt8-clause-inside c = search rules

pub overflow_mul-front : goal.overflow_mul-front
overflow_mul-front c = search rules

pub overflow_sub-front : goal.overflow_sub-front
overflow_sub-front c = search rules

pub overflow_shr-front : goal.overflow_shr-front
overflow_shr-front c = search rules

pub overflow_shl-result : goal.overflow_shl-result
overflow_shl-result c = search rules

pub overflow_mul-result : goal.overflow_mul-result
overflow_mul-result c = search rules

pub overflow_shr-result : goal.overflow_shr-result
overflow_shr-result c = search rules

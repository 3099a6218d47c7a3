use Rattle.std.proofs.lemmas.Result.{err_from_is_err_and}
use Rattle.std.proofs.Common.{◌≡◌, length, Ok, Err, ap, sym, ◌∙◌, arith}
use Rattle.deku_bits.specs.Pieces.{laid_out}
use Rattle.deku_num.specs.declared.ctx.Endian.TheVariants.{Big}
use Rattle.deku_callers.proofs.Headers.{Word, word_lies}
use Rattle.deku_callers.proofs.Counting.{laid_from, same_number, made, first_is, rest_is}
use Rattle.deku_callers.proofs.counted.numbers_of.Goals as goal

pub returns : goal.returns
returns c = λ ns few is.
    let laid = laid_from c.length_law.ensures Word 16 word_lies ns is.numbers.0 is.numbers.1 (omega (arith, few)) in
    let many = first_is c.in-Some.first.now c.args.bytes.now is.behind (length ns) c.in-Some.ensures.cases.0 is.is in
    let behind = rest_is c.in-Some.rest.now c.args.bytes.now is.behind (length ns) c.in-Some.ensures.cases.1 is.is in
    made Word (λ x y. x ≡ y) same_number _ (c.counted_law.ensures.back Big) (λ xs v. v.items ≡ xs) _ _ _ _ ns laid.0 c.in-Some.rest.now c.new_count.ensures many (behind ∙ is.numbers.2 ∙ ap laid_out (sym laid.1))
    (Ok (c.in_ok-_bits._bits, c.in_ok-_bits.numbers)) c.in_ok-_bits.ensures

pub returns-in_err-_bits : goal.returns-in_err-_bits
returns-in_err-_bits c =
    λ ns few is.
    let laid = laid_from c.length_law.ensures Word 16 word_lies ns is.numbers.0 is.numbers.1 (omega (arith, few)) in
    let many = first_is c.in-Some.first.now c.args.bytes.now is.behind (length ns) c.in-Some.ensures.cases.0 is.is in
    let behind = rest_is c.in-Some.rest.now c.args.bytes.now is.behind (length ns) c.in-Some.ensures.cases.1 is.is in
    let k = err_from_is_err_and c.from_residual.result c.from_residual.ensures.1 in
    rw (k.1, k.2) (made Word (λ x y. x ≡ y) same_number _ (c.counted_law.ensures.back Big) (λ xs v. v.items ≡ xs) _ _ _ _ ns laid.0 c.in-Some.rest.now c.new_count.ensures many (behind ∙ is.numbers.2 ∙ ap laid_out (sym laid.1))
    (Err c.in_err-_bits.field-0.0) c.in_err-_bits.ensures)

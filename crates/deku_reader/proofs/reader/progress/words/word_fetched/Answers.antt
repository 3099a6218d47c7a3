use Rattle.std.proofs.Common.{◌≡◌, ◌++◌, ◌∙◌, ℕ, length, take, drop, replicate, refl, sym, ap, arith}
use Rattle.std.proofs.lemmas.List.{length-take, length-replicate, take-append-drop}
use Rattle.deku_stream.specs.Bits.{groups}
use Rattle.deku_reader.proofs.WordsRead.{word_gathered}
use Rattle.deku_reader.proofs.reader.progress.words.word_fetched.Goals as goal

pub returns-in-Err-clause-ended : goal.returns-in-Err-clause-ended
returns-in-Err-clause-ended g c =
    let k = c.div_ceil-needed.result in
    let width : length (take k (replicate {A = ℕ} 16 0)) ≡ k = simp (length-take, length-replicate) (omega arith) in
    rw c.kind.ensures (λ eof. c.in-Err.ensures.ended eof c.args.count (omega (arith, width)))

pub counted-requires : goal.counted-requires
counted-requires g c =
    let known = g.R.Source.known in
    let k = c.div_ceil-needed.result in
    let width : length (take k (replicate {A = ℕ} 16 0)) ≡ k = simp (length-take, length-replicate) (omega arith) in
    rw c.len.ensures.value (sym ((word_gathered c.args.order c.args.window.now c.fetch_behind.new.window c.gathered-rest.result.1 (known c.args.source.now).remaining (known c.fetch_behind.new.source).remaining c.args.count k (groups c.args.count)
    c.fetch_behind.new.dst (take (groups c.args.count) c.gathered-rest.result.0) (omega arith) (omega arith) c.in-Ok.ensures.short (omega arith) (omega arith) refl (omega (arith, width))
    (c.in-Ok.ensures.moved c.args.order) (rw c.copy.ensures at c.gathered-rest.ensures.groups)).1))

pub returns-in-Ok-clause-short : goal.returns-in-Ok-clause-short
returns-in-Ok-clause-short g c =
    let known = g.R.Source.known in
    let k = c.div_ceil-needed.result in
    let width : length (take k (replicate {A = ℕ} 16 0)) ≡ k = simp (length-take, length-replicate) (omega arith) in
    omega (
      arith,
      ap length c.counted.ensures,
      (word_gathered c.args.order c.args.window.now c.fetch_behind.new.window c.gathered-rest.result.1 (known c.args.source.now).remaining (known c.fetch_behind.new.source).remaining c.args.count k (groups c.args.count)
          c.fetch_behind.new.dst (take (groups c.args.count) c.gathered-rest.result.0) (omega arith) (omega arith) c.in-Ok.ensures.short (omega arith) (omega arith) refl (omega (arith, width))
          (c.in-Ok.ensures.moved c.args.order) (rw c.copy.ensures at c.gathered-rest.ensures.groups)).1,
    )

pub returns-in-Ok-clause-moved : goal.returns-in-Ok-clause-moved
returns-in-Ok-clause-moved g c =
    let known = g.R.Source.known in
    let k = c.div_ceil-needed.result in
    let m = groups c.args.count in
    let bytes = c.gathered-rest.result.0 in
    let width : length (take k (replicate {A = ℕ} 16 0)) ≡ k = simp (length-take, length-replicate) (omega arith) in
    let whole : bytes ≡ take m bytes ++ drop m (c.fetch_behind.new.dst ++ drop k (replicate 16 0)) = sym (take-append-drop m bytes) ∙ ap (λ ys. take m bytes ++ ys) c.gathered-rest.ensures.behind in
    rw (c.from_le_bytes.ensures, whole, c.counted.ensures)
    ((word_gathered c.args.order c.args.window.now c.fetch_behind.new.window c.gathered-rest.result.1 (known c.args.source.now).remaining (known c.fetch_behind.new.source).remaining c.args.count k m
    c.fetch_behind.new.dst (take m bytes) (omega arith) (omega arith) c.in-Ok.ensures.short (omega arith) (omega arith) refl (omega (arith, width))
    (c.in-Ok.ensures.moved c.args.order) (rw c.copy.ensures at c.gathered-rest.ensures.groups)).0)

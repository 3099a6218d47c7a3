use Rattle.std.proofs.Common.{◌≡◌, ℕ, ◌+◌, ◌-◌, ◌*◌, ◌%◌, ◌^◌, ◌<◌, ◌≤◌, get_or, length, length-set, slice_set, bit_and, refl, ap, sym, ◌∙◌, inl, inr, ⊎_elim, arith}
use Rattle.std.proofs.lemmas.List.{get_or-set_same, get_or-set_other}
use Rattle.std.proofs.lemmas.Nat.{le_or_l, le_or_r}
use Rattle.deku_fields.specs.declared.list.Number.TheVariants.{Unsigned}
use Rattle.deku_plan.proofs.Laying.{no_more}
use Rattle.deku_plan.proofs.Blocks.{earlier_or_last, low_fits, same_number, added}
use Rattle.deku_plan.proofs.block.join_field.Goals as goal

pub loop-row-preserved : goal.loop-row-preserved
loop-row-preserved c =
    let l = c.loop-row in
    let at : ℕ = c.args.first + l.row in
    let word = c.in-Some.word in
    let more = c.in-Some.others in
    let x : ℕ = (get_or l.words at 0 + word * c.args.part.scale % 2 ^ 64) % 2 ^ 64 in
    let inside : at < length l.words = omega (arith, l.invariant.0, c.requires.room) in
    let old : get_or l.words at 0 ≡ get_or c.args.words.now at 0 = l.invariant.1 at (inr (omega arith)) in (
      length-set l.words at x ∙ l.invariant.0,
      λ j out. get_or-set_other l.words at j x 0 (λ e. absurd (omega (arith, e, out)))
          ∙ l.invariant.1 j (⊎_elim (λ (h : j < c.args.first). inl h) (λ (h : c.args.first + (l.row + 1) ≤ j). inr (omega (arith, h))) out),
      λ r n below is none.
          let both = no_more l.high more none in
          ⊎_elim
          (λ (earlier : r < l.row).
          get_or-set_other l.words at (c.args.first + r) x 0 (λ e. absurd (omega (arith, e, earlier))) ∙ l.invariant.2 r n earlier is both.0)
          (λ (e : r ≡ l.row).
          let same : word ≡ n = same_number (get_or c.args.values.now (l.row * c.args.stride) (Unsigned 0)) word n (c.in-Some.ensures both.1) (ap (λ i. get_or c.args.values.now (i * c.args.stride) (Unsigned 0)) (sym e) ∙ is) in
          let set : get_or (slice_set l.words at x) (c.args.first + r) 0 ≡ x =
          ap (λ i. get_or (slice_set l.words at x) (c.args.first + i) 0) e ∙ get_or-set_same l.words at x 0 inside in
          let sum = added (get_or l.words at 0) x n c.args.part.scale word same refl in
          set ∙ sum ∙ ap (λ w. (w + n * c.args.part.scale) % 2 ^ 64) (old ∙ ap (λ i. get_or c.args.words.now (c.args.first + i) 0) (sym e)))
          (earlier_or_last r l.row below),
      λ none r below.
          let both = no_more l.high more none in
          ⊎_elim
          (λ (earlier : r < l.row).
          let found = l.invariant.3 both.0 r earlier in
          (found.0, found.1, let h = le_or_l l.low word in omega (arith, h, found.2)))
          (λ (e : r ≡ l.row). (
            word,
            ap (λ i. get_or c.args.values.now (i * c.args.stride) (Unsigned 0)) e ∙ c.in-Some.ensures both.1,
            le_or_r l.low word,
          ))
          (earlier_or_last r l.row below),
    )

pub returns-clause-fitting : goal.returns-clause-fitting
returns-clause-fitting c = λ none r below.
    let l = c.loop-row in
    let both = no_more l.high (bit_and l.low (2 ^ 64 - 1 - c.args.step.mask)) none in
    let found = l.invariant.3 both.0 r (omega (arith, below)) in
    low_fits (get_or c.args.values.now (r * c.args.stride) (Unsigned 0)) found.0 l.low c.args.step.mask c.args.step.width found.1 found.2 (omega arith) c.requires.short.few c.requires.short.mask both.1

pub returns-clause-words : goal.returns-clause-words
returns-clause-words c = λ none r n below is.
    let l = c.loop-row in
    let both = no_more l.high (bit_and l.low (2 ^ 64 - 1 - c.args.step.mask)) none in
    l.invariant.2 r n (omega (arith, below)) is both.0

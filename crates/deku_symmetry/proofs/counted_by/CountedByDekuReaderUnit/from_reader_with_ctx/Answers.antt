use Rattle.std.proofs.Common.{Ok, Err, rules, ◌≡◌, Result}
use Rattle.std.specs.Result.{IsOkAnd, MatchResult}
use Rattle.std.proofs.lemmas.Result.{MatchResult-weaker}
use Rattle.deku_bits.specs.declared.error.DekuError.{DekuError}
use Rattle.deku_bits.specs.Devices.{Health}
use Rattle.deku_bits.specs.Standings.{Standing}
use Rattle.deku_bits.specs.Outcomes.{Meaning, Mapped, Outcome}
use Rattle.deku.proofs.Joining.{passed_on, mapped_ok, mapped_err, first_refused, then_on}
use Rattle.deku_symmetry.proofs.counted_by.CountedByDekuReaderUnit.from_reader_with_ctx.Goals as goal

-- What `map` makes of a result, if its function returns h of each value.
mapped_as : {A V W : Type 0} (h : V → W) {m : Meaning A V} {s : Standing A} {f : Health} (r : Result V DekuError) (q : Result W DekuError) {u : Standing A} {g : Health}
    → MatchResult r (λ v. IsOkAnd q (λ w. w ≡ h v)) (λ e. q ≡ Err e) → Outcome m s f r u g → Outcome (Mapped h m) s f q u g
mapped_as h (Ok v) (Ok w) c o = rw c (mapped_ok h o)
mapped_as h (Ok v) (Err e) c o = absurd c
mapped_as h (Err e) q c o = rw c (mapped_err h o)

ok_weaker : {W E : Type 0} (q : Result W E) {P Q : W → Type 0} → IsOkAnd q P → ((w : W) → P w → Q w) → IsOkAnd q Q
ok_weaker (Ok w) p f = f w p
ok_weaker (Err e) p f = absurd p

pub returns-in_err-head-clause-reads : goal.returns-in_err-head-clause-reads
returns-in_err-head-clause-reads g c = passed_on _ c.from_residual.ensures.1 (first_refused c.in_err-head.ensures.reads)

pub returns-clause-reads : goal.returns-clause-reads
returns-clause-reads g c =
    then_on c.in_ok-head.ensures.reads (mapped_as (λ xs. record { head = c.in_ok-head.head; items = xs; count = record {} }) c.read_counted.result c.map.result
    (MatchResult-weaker c.read_counted.result c.map.ensures.cases (λ v k. ok_weaker c.map.result k (λ w p. search rules)) (λ e p. p)) (rw c.count.ensures at c.read_counted.ensures.reads))

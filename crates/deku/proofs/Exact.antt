-- Meanings that leave no choice, one after the other.
use Rattle.std.proofs.Common.{◌≡◌, ℕ, ◌+◌, ◌<◌, ◌^◌, Result, Ok, Err, Some, refl, ap, ◌∙◌, inl, inr, arith}
use Rattle.deku_bits.specs.declared.ctx.Order.{Order}
use Rattle.deku_bits.specs.Streams.{Stream, Has, taken, left}
use Rattle.deku_bits.specs.Standings.{Standing, Going}
use Rattle.deku_bits.specs.Outcomes.{Meaning, Mapped, Value, Refusal}
use Rattle.deku_bits.specs.ReaderCalls.{TakesBits}
use Rattle.deku_num.specs.declared.kind.NumberType.{NumberType}
use Rattle.deku_num.specs.declared.ctx.Layout.{Layout}
use Rattle.deku_num.specs.Numbers.{width, value, IsAllowed}
use Rattle.deku_num.specs.NumberCalls.{Refused, Passed, ReadsNumber}
use Rattle.deku_meanings.specs.Composing.{Answer, Answered, Then, Second, First}
use Rattle.deku.specs.Giving.{Gives}

-- what two equal returns hold is equal
pub ok_is : {V E : Type 0} (v x : V) → ◌≡◌ {A = Result V E} (Ok v) (Ok x) → v ≡ x
ok_is v x e = cc

-- bits are taken where there are as many
pub takes_gives : (o : Order) (n : ℕ) (S : Stream) (c : ℕ) → c + n < 2 ^ 64 → Has n S → Gives (TakesBits o n) (Going (Some S) c) (taken o n S) (Going (Some (left o n S)) (c + n))
takes_gives o n S c room enough r u (inl p) = absurd (omega arith)
takes_gives o n S c room enough r u (inr (a, inl p)) = (p.1, p.2)
takes_gives o n S c room enough r u (inr (a, inr p)) = absurd (omega arith)

pub mapped_gives : {A V W : Type 0} (h : V → W) (m : Meaning A V) (s : Standing A) (x : V) (t : Standing A) → Gives m s x t → Gives (Mapped h m) s (h x) t
mapped_gives h m s x t g r u (Value v p e) = let d = g (Ok v) u p in (e ∙ ap Ok (ap h (ok_is v x d.0)), d.1)
mapped_gives h m s x t g r u (Refusal e p q) = let d = (g (Err e) u p).0 in absurd (cc)

pub then_gives : {A V W : Type 0} (m : Meaning A V) (k : V → Meaning A W) (s : Standing A) (x : V) (t : Standing A) (y : W) (z : Standing A)
    → Gives m s x t → Gives (k x) t y z → Gives (Then m k) s y z
then_gives m k s x t y z g h r u (Second v w p q) = let d = g (Ok v) w p in h r u (rw (← ok_is v x d.0, ← d.1) q)
then_gives m k s x t y z g h r u (First e p q) = let d = (g (Err e) u p).0 in absurd (cc)

pub answer_gives : {A V : Type 0} (v : V) (s : Standing A) → Gives (Answer v) s v s
answer_gives v s r u Answered = (refl, refl)

-- a number is read where its layout is not refused and the stream has its bits
pub number_gives : (t : NumberType) (l : Layout) (S : Stream) (c : ℕ) → IsAllowed t l → c + width t l < 2 ^ 64 → Has (width t l) S
    → Gives (ReadsNumber t l) (Going (Some S) c) (value t l (taken l.order (width t l) S)) (Going (Some (left l.order (width t l) S)) (c + width t l))
number_gives t l S c ok room enough r u (Refused b (x, inl p, y, z)) = absurd (omega (arith, ok.within))
number_gives t l S c ok room enough r u (Refused b (x, inr p, y, z)) = absurd (p.1 ok.even)
number_gives t l S c ok room enough r u (Passed p) = mapped_gives (value t l) (TakesBits l.order (width t l)) _ _ _ (takes_gives l.order (width t l) S c room enough) r u p.1

-- Words of values, and of two of them.
use Rattle.std.proofs.Common.{◌≡◌, ℕ, ◌<◌, Bool, true, false, List, ◌++◌, length, Option, Some, None, Ok, ℤ, refl, sym, ap, ◌∙◌, subst, arith}
use Rattle.std.specs.Option.{IfSome}
use Rattle.deku_bits.specs.declared.ctx.Order.{Order}
use Rattle.deku_bits.specs.declared.ctx.Order.TheVariants.{Msb0, Lsb0}
use Rattle.deku_bits.specs.declared.writer.Writer.{Writer}
use Rattle.deku_bits.specs.Devices.{KnownSink}
use Rattle.deku_bits.specs.Bits.{bits_of, facing, shown}
use Rattle.deku_bits.specs.Standings.{Standing, Output}
use Rattle.deku_bits.specs.Outcomes.{Meaning, Quiet}
use Rattle.deku_bits.specs.WriterCalls.{Writes, WritesBits}
use Rattle.deku_bits.proofs.Handing.{meant}
use Rattle.deku_bits.proofs.Binary.{length-bits_of, length-facing}
use Rattle.deku_num.specs.declared.ctx.Layout.{Layout}
use Rattle.deku_num.specs.declared.kind.NumberType.{NumberType}
use Rattle.deku_num.specs.Numbers.{number, value, width, with_sign, IsAllowed, IsFieldOf}
use Rattle.deku_num.specs.NumberCalls.{WritesNumber, Passed}
use Rattle.deku_meanings.specs.Composing.{Both, Second}
use Rattle.deku_writing.specs.declared.words.Word.{Word}
use Rattle.deku_writing.specs.Words.{IsWriteOf, IsWord, IsWordOf, IsJoined, WroteWord, WroteOne, word_list}
use Rattle.deku_writing.proofs.WritingTwo.{follows, written_two}

length-word_list : (o : Order) (w : Word) → length (word_list o w) ≡ w.bits
length-word_list o w = length-facing o (bits_of w.bits w.number) ∙ length-bits_of w.bits w.number

-- the word of two values, one after the other
pub both_joined : {m n : Meaning Output (Unit {0})} (o : Order) (a b w : Word) → IsWordOf m o a → IsWordOf n o b → IsJoined o a b w → IsWordOf (Both m n) o w
both_joined {m} {n} o a b w p q j = record {
  word = j.word;
  writes = λ fits s u h writes.
      let x : List Bool = word_list o a in
      let y : List Bool = word_list o b in
      let some : 0 < length x = rw (length-word_list o a) p.word.some in
      let two = written_two o x y s u some h (subst (λ z. WritesBits o (shown o z) false s (Ok tt) u) j.list writes) in
      let both = j.fits fits in
      Second tt two.0 (p.writes both.0 s two.0 h two.1) (q.writes both.1 two.0 u two.3 two.2);
}

pub maybe_joined : {m n : Meaning Output (Unit {0})} (o : Order) (a b : Word) (r : Option Word) → IsWordOf m o a → IsWordOf n o b → IfSome r (λ w. IsJoined o a b w) → IfSome r (λ w. IsWordOf (Both m n) o w)
maybe_joined o a b (Some w) p q j = both_joined o a b w p q j
maybe_joined o a b None p q j = tt

-- the word that was written
one_word : {W : Type 0} {m : Meaning Output (Unit {0})} (known : W → KnownSink) (o : Order) (w : Word) (old new : Writer W) → IsWordOf m o w → WroteWord known o w old new → Writes known m old (Ok tt) new
one_word known o w old new p q =
    let d = meant q.writes in
    Quiet (p.writes q.fits _ _ (follows o (known old.sink) old.state q.follows) d.0) d.1

pub one_written : {W : Type 0} {m : Meaning Output (Unit {0})} (known : W → KnownSink) (high low : Option Word) (old new : Writer W) → IfSome high (λ w. IsWordOf m Msb0 w) → IfSome low (λ w. IsWordOf m Lsb0 w)
    → WroteOne known high low old new → Writes known m old (Ok tt) new
one_written known (Some w) low old new p q one = one_word known Msb0 w old new p one
one_written known None (Some w) old new p q one = one_word known Lsb0 w old new q one
one_written known None None old new p q one = absurd one

-- the word of a field, of which the number without a sign is k
pub field_word : (t : NumberType) (l : Layout) (o : Order) (v : ℤ) (k : ℕ) (w : Word) → IsWord w → w.bits ≡ width t l → l.order ≡ o → IsAllowed t l
    → k ≡ number l.endian o (word_list o w) → (w.fits ≡ true → with_sign t.signed w.bits k ≡ v) → IsWordOf (WritesNumber t l v) o w
unfolding value
field_word t l o v k w word wide order ok is worth = record {
  word = word;
  writes = λ fits s u h writes.
      let x : List Bool = word_list o w in
      let long : length x ≡ w.bits = length-word_list o w in
      let field : IsFieldOf t l v x = record {
        wide = long ∙ wide;
        worth = ap (λ i. with_sign t.signed i (number l.endian l.order x)) long ∙ ap (λ p. with_sign t.signed w.bits (number l.endian p x)) order ∙ ap (with_sign t.signed w.bits) (sym is) ∙ worth fits;
      } in
      Passed (Passed (ok, (x, field, subst (λ p. WritesBits p (shown p x) false s (Ok tt) u) (sym order) writes)));
}

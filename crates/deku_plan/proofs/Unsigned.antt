-- Numbers of fields in `Msb0` without a sign.
use Rattle.std.proofs.Common.{ℕ, ◌^◌, ◌<◌, ◌≡◌, Bool, List, length, ◌∙◌, sym, subst, refl}
use Rattle.deku_bits.specs.declared.ctx.Order.TheVariants.{Msb0}
use Rattle.deku_bits.specs.Bits.{bin, bits_of, word_of}
use Rattle.deku_bits.proofs.Binary.{length-bits_of}
use Rattle.deku_num.specs.declared.ctx.Endian.TheVariants.{Little, Big}
use Rattle.deku_num.specs.Numbers.{number}
use Rattle.deku_num.proofs.Carrying.{high_number}
use Rattle.deku_num.proofs.Turned.{word_below, word_is}

pub big_is : (s : List Bool) → number Big Msb0 s ≡ bin s
unfolding number
big_is s = refl

-- what a number is turned to, if that is the word of all bits that have the number
pub turned_is : (n w k : ℕ) → ((s : List Bool) → length s ≡ w → n ≡ number Big Msb0 s → k ≡ word_of Msb0 s) → (s : List Bool) → length s ≡ w → n ≡ bin s → k ≡ number Little Msb0 s
turned_is n w k h s l e = h s l (e ∙ sym (big_is s)) ∙ word_is Msb0 s

pub turned_below : (n w k : ℕ) → n < 2 ^ w → ((s : List Bool) → length s ≡ w → n ≡ number Big Msb0 s → k ≡ word_of Msb0 s) → k < 2 ^ w
turned_below n w k small h =
    let s : List Bool = bits_of w n in
    let long : length s ≡ w = length-bits_of w n in
    let is : k ≡ word_of Msb0 s = h s long (high_number w n small) in
    rw is (subst (λ x. word_of Msb0 s < 2 ^ x) long (word_below Msb0 s))

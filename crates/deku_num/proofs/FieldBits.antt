-- One list alone is worth a value; and in whole bytes its number is the value modulo two to the width.
use Rattle.std.proofs.Common.{ℕ, ◌%◌, ◌^◌, ◌<◌, ◌≡◌, Bool, true, false, List, length, ℤ, ap, ap₂, sym, ◌∙◌, arith, mod-eq_of_lt}
use Rattle.deku_num.specs.declared.kind.NumberType.{NumberType}
use Rattle.deku_num.specs.declared.ctx.Layout.{Layout}
use Rattle.deku_num.specs.Numbers.{width, IsAllowed, number, with_sign, value, IsFieldOf}
use Rattle.deku_num.specs.NumberLaws.{residue}
use Rattle.deku_num.proofs.Chunked.{within}
use Rattle.deku_num.proofs.Ranges.{below_type}
use Rattle.deku_num.proofs.Values.{field_law}
use Rattle.deku_num.proofs.Listing.{residue-with_sign}

-- one list is worth v
pub one_list : (t : NumberType) (l : Layout) (v : ℤ) (r s : List Bool) → IsAllowed t l → IsFieldOf t l v r → IsFieldOf t l v s → r ≡ s
one_list t l v r s ok p q = (field_law t l ok v).1 r s p q

-- a number of n bits with its sign, or without, is what it was modulo two to the power of n
pub residue-worth : (b : Bool) (n m : ℕ) → m < 2 ^ n → residue (with_sign b n m) n ≡ m
residue-worth false n m h = mod-eq_of_lt h
residue-worth true n m h = residue-with_sign n m h

-- in whole bytes a list that is worth v has the number of v modulo two to the width
pub whole_number : (t : NumberType) (l : Layout) (v : ℤ) (s : List Bool) → width t l % 8 ≡ 0 → IsFieldOf t l v s → number l.endian l.order s ≡ residue v (width t l)
unfolding value
whole_number t l v s even f =
    let n : ℕ = width t l in
    let m : ℕ = number l.endian l.order s in
    let low : m < 2 ^ n = below_type l.endian l.order n n m even (omega arith) (rw (f.wide) at (within l.endian l.order s)) in
    sym (residue-worth t.signed n m low) ∙ ap (λ x. residue x n) (ap (λ k. with_sign t.signed k m) (sym f.wide) ∙ f.worth)

-- in whole bytes a list of the width that has the number of v modulo two to the width is worth that number with its sign
pub whole_list : (t : NumberType) (l : Layout) (v : ℤ) (s : List Bool) → length s ≡ width t l → number l.endian l.order s ≡ residue v (width t l)
    → IsFieldOf t l (with_sign t.signed (width t l) (residue v (width t l))) s
unfolding value
whole_list t l v s wide e = record { wide = wide; worth = ap₂ (λ n m. with_sign t.signed n m) wide e }

-- The worked examples of vectors that are written, call after call.
use Rattle.std.proofs.Common.{ℕ, ◌+◌, ◌*◌, ◌<◌, ◌^◌, Bool, false, List, [], ◌∷◌, length, ℤ, pos, Some, None, Ok, refl, arith, inl, inr}
use Rattle.deku_bits.specs.declared.ctx.Order.TheVariants.{Msb0}
use Rattle.deku_bits.specs.Bits.{bits_of, shown}
use Rattle.deku_bits.specs.Writers.{Pending, Nothing, Held, append, finalized, padded}
use Rattle.deku_bits.specs.Standings.{Going, Output}
use Rattle.deku_bits.specs.WriterCalls.{Took, Finalizes}
use Rattle.deku_num.specs.declared.kind.NumberType.{NumberType}
use Rattle.deku_num.specs.declared.ctx.Layout.{Layout}
use Rattle.deku_num.specs.declared.ctx.Size.TheVariants.{Bits}
use Rattle.deku_num.specs.Numbers.{byte, IsAllowed, IsFieldOf, number, value}
use Rattle.deku_num.specs.NumberCalls.{Passed, WritesNumber}
use Rattle.deku_num.specs.Rows.{big_msb}
use Rattle.deku_meanings.specs.Composing.{Answered, Second}
use Rattle.deku.specs.Rows.{VectorRows}

-- a sink that grows took these bytes, and these bits are pending
abbrev gave : List ℕ → Pending → Output
gave bytes pending = record { taken = Some bytes; room = None; pending = pending }

-- a number is written as its list
one : (t : NumberType) (l : Layout) (v : ℤ) (bits : List Bool) (before after : Output) (c : ℕ) → IsAllowed t l → IsFieldOf t l v bits
    → Took (append l.order (shown l.order bits) before.pending) before after
    → c + 8 * length (append l.order (shown l.order bits) before.pending).bytes < 2 ^ 64
    → WritesNumber t l v false (Going before c) (Ok tt) (Going after (c + 8 * length (append l.order (shown l.order bits) before.pending).bytes))
one t l v bits before after c a is took fits = Passed (Passed (a, (bits, is, inr (fits, inl (after, took, refl, refl)))))

-- the padding
last : (before after : Output) (c : ℕ) → Took (finalized before.pending) before after → c + 8 * length (finalized before.pending).bytes < 2 ^ 64
    → Finalizes false (Going before c) (Ok tt) (Going after (c + 8 * length (finalized before.pending).bytes))
last before after c took fits = inr (fits, inl (after, took, refl, refl))

pub vector_rows : VectorRows
unfolding bits_of shown append padded number value
vector_rows = record {
  halves = record {
    before = gave [] Nothing;
    after = gave (0x69 ∷ []) Nothing;
    count = 0;
    count_after = 8;
    nothing = refl;
    none = refl;
    written = Second tt (Going (gave (0x69 ∷ []) Nothing) 8)
        (Second tt (Going (gave [] (Held Msb0 (bits_of 4 6))) 0)
        (one byte (big_msb (Bits 4)) (pos 6) (bits_of 4 6) (gave [] Nothing) (gave [] (Held Msb0 (bits_of 4 6))) 0
        (record { within = omega arith; even = refl }) (record { wide = refl; worth = refl }) (record { taken = refl; room = tt; pending = refl }) (omega arith))
        (Second tt (Going (gave (0x69 ∷ []) Nothing) 8)
        (one byte (big_msb (Bits 4)) (pos 9) (bits_of 4 9) (gave [] (Held Msb0 (bits_of 4 6))) (gave (0x69 ∷ []) Nothing) 0
        (record { within = omega arith; even = refl }) (record { wide = refl; worth = refl }) (record { taken = refl; room = tt; pending = refl }) (omega arith))
        Answered))
        (last (gave (0x69 ∷ []) Nothing) (gave (0x69 ∷ []) Nothing) 8 (record { taken = refl; room = tt; pending = refl }) (omega arith));
    taken = refl;
  };
  three_bits = record {
    before = gave [] Nothing;
    after = gave (0xA0 ∷ []) Nothing;
    count = 0;
    count_after = 8;
    nothing = refl;
    none = refl;
    written = Second tt (Going (gave [] (Held Msb0 (bits_of 3 5))) 0)
        (Second tt (Going (gave [] (Held Msb0 (bits_of 3 5))) 0)
        (one byte (big_msb (Bits 3)) (pos 5) (bits_of 3 5) (gave [] Nothing) (gave [] (Held Msb0 (bits_of 3 5))) 0
        (record { within = omega arith; even = refl }) (record { wide = refl; worth = refl }) (record { taken = refl; room = tt; pending = refl }) (omega arith))
        Answered)
        (last (gave [] (Held Msb0 (bits_of 3 5))) (gave (0xA0 ∷ []) Nothing) 0 (record { taken = refl; room = tt; pending = refl }) (omega arith));
    taken = refl;
  };
}

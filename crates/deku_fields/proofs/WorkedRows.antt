-- The worked examples of lists of fields, by computation or by the law of fields.
use Rattle.std.proofs.Common.{ℕ, ◌%◌, ◌≡◌, ◌≤◌, Bool, true, List, [], ◌∷◌, length, map, ℤ, pos, refl, sym, ap, ◌∙◌, arith, inl, inr, ⊎_elim, All}
use Rattle.std.proofs.lemmas.Int.{ints}
use Rattle.std.proofs.lemmas.List.Elements.{All-nil, All-cons}
use Rattle.deku_bits.specs.declared.ctx.Order.TheVariants.{Msb0, Lsb0}
use Rattle.deku_bits.specs.Bits.{bits_of, byte_bits, shown}
use Rattle.deku_bits.specs.Streams.{Stream, fresh, taken, left}
use Rattle.deku_bits.specs.Pieces.{Piece, piece, laid_out}
use Rattle.deku_bits.specs.Writers.{append, padded}
use Rattle.deku_bits.specs.Symmetry.{packed, appended}
use Rattle.deku_bits.specs.Rows.{stream}
use Rattle.deku_num.specs.Numbers.{number, value}
use Rattle.deku_num.specs.NumberLaws.{InRange}
use Rattle.deku_num.specs.Rows.{Places, AreAllowed, pieces_taken}
use Rattle.deku_num.proofs.Values.{field_law}
use Rattle.deku_num.proofs.WorkedRows.{plain, allowed_all}
use Rattle.deku_fields.specs.declared.list.Number.{Number}
use Rattle.deku_fields.specs.declared.list.Field.{Field}
use Rattle.deku_fields.specs.declared.list.Item.{Item}
use Rattle.deku_fields.specs.Items.{IsNumber, number_type, field_width, IsWorth, IsPieceOf, IsFitting, ArePieces, LaysOut, AlignedFields, ReadsValues, fields_of, values_of}
use Rattle.deku_fields.specs.Rows.{BothWays, ListRows, PromiseRows, TurnedRows, MisfitRows, CutRows, word_items}
use Rattle.deku_fields.proofs.FieldLists.{layout_law}

-- the types and layouts of items
abbrev places : List Item → Places
places items = map (λ i. (number_type i.field.kind, i.field.layout)) items

-- bits that are worth a number
worth : {f : Field} {s : List Bool} {n : Number} → length s ≡ field_width f → IsNumber (number_type f.kind).signed (value (number_type f.kind) f.layout s) n → IsWorth f s n
worth w v = record { wide = w; worth = v }

-- the piece of an item
here : {i : Item} {p : Piece} → p.order ≡ i.field.layout.order → length p.bits ≡ field_width i.field
    → IsNumber (number_type i.field.kind).signed (value (number_type i.field.kind) i.field.layout p.bits) i.value → IsPieceOf i p
here o w v = record { same_order = o; worth = worth w v }

-- items that have pieces, under layouts that are not refused, fit
fitting_all : (items : List Item) (ps : List Piece) → AreAllowed (places items) → ArePieces items ps → All IsFitting items
fitting_all [] [] a p = All-nil IsFitting
fitting_all [] (q ∷ qs) a p = absurd p
fitting_all (i ∷ is) [] a p = absurd p
fitting_all (i ∷ is) (q ∷ qs) a p =
    All-cons IsFitting i is (record { allowed = a.0; bits = q.bits; worth = p.0.worth }) (fitting_all is qs a.1 p.1)

-- a row of both ways, with the pieces that the fields take from the bytes
both_ways : {items : List Item} {bytes : List ℕ} → plain (places items) ≡ true → AlignedFields (fields_of items)
    → ArePieces items (pieces_taken (places items) (fresh bytes))
    → bytes ≡ laid_out (pieces_taken (places items) (fresh bytes)) → bytes ≡ packed (pieces_taken (places items) (fresh bytes))
    → (T : Stream) → ReadsValues (fields_of items) (fresh bytes) (values_of items) T → T.bytes ≡ [] → BothWays items bytes
both_ways {items} {bytes} p a are l w T r t =
    let ps : List Piece = pieces_taken (places items) (fresh bytes) in
    record {
      fitting = fitting_all items ps (allowed_all (places items) p) are;
      aligned = a;
      laid = record { pieces = ps; are = are; is = l };
      written = record { pieces = ps; are = are; is = w };
      rest = T;
      read = r;
      touched = t;
    }

-- an item does not fit whose number is an integer out of range
misfit : (i : Item) (v : ℤ) → ((w : ℤ) → IsNumber (number_type i.field.kind).signed w i.value → w ≡ v)
    → (InRange (number_type i.field.kind).signed i.field.layout.endian i.field.layout.order (field_width i.field) v → ⊥) → IsFitting i → ⊥
misfit i v same outside f =
    outside ((field_law (number_type i.field.kind) i.field.layout f.allowed v).0.0
    (f.bits, record { wide = f.worth.wide; worth = same (value (number_type i.field.kind) i.field.layout f.bits) f.worth.worth }))

pub list_rows : ListRows
unfolding bits_of byte_bits shown taken left append padded appended laid_out number value
list_rows = record {
  nothing = both_ways refl tt
      tt
      refl refl (fresh [])
      refl refl;
  three_bits = both_ways refl (inl refl, tt)
      (here refl refl refl, tt)
      refl refl (stream (bits_of 5 0) [])
      (omega arith, worth refl refl, refl) refl;
  three_signed = both_ways refl (inl refl, tt)
      (here refl refl refl, tt)
      refl refl (stream (bits_of 5 0) [])
      (omega arith, worth refl refl, refl) refl;
  twelve_signed = both_ways refl (inl refl, tt)
      (here refl refl refl, tt)
      refl refl (stream (bits_of 4 0) [])
      (omega arith, worth refl refl, refl) refl;
  minus_two = both_ways refl (inl refl, tt)
      (here refl refl refl, tt)
      refl refl (fresh [])
      (omega arith, worth refl refl, refl) refl;
  thirteen_bits = both_ways refl (inl refl, tt)
      (here refl refl refl, tt)
      refl refl (stream (bits_of 3 0) [])
      (omega arith, worth refl refl, refl) refl;
  thirteen_greatest = both_ways refl (inl refl, tt)
      (here refl refl refl, tt)
      refl refl (stream (bits_of 3 0) [])
      (omega arith, worth refl refl, refl) refl;
  halves_and_word = both_ways refl (inl refl, (inr refl, (inl refl, tt)))
      (here refl refl refl, (here refl refl refl, (here refl refl refl, tt)))
      refl refl (fresh [])
      (omega arith, worth refl refl, (omega arith, worth refl refl, (omega arith, worth refl refl, refl))) refl;
  thirteen_and_three = both_ways refl (inl refl, (inr refl, tt))
      (here refl refl refl, (here refl refl refl, tt))
      refl refl (fresh [])
      (omega arith, worth refl refl, (omega arith, worth refl refl, refl)) refl;
  word_inside = both_ways refl (inl refl, (inr refl, (inr refl, tt)))
      (here refl refl refl, (here refl refl refl, (here refl refl refl, tt)))
      refl refl (fresh [])
      (omega arith, worth refl refl, (omega arith, worth refl refl, (omega arith, worth refl refl, refl))) refl;
  wide_inside = both_ways refl (inl refl, (inr refl, tt))
      (here refl refl refl, (here refl refl refl, tt))
      refl refl (stream (bits_of 5 0) [])
      (omega arith, worth refl refl, (omega arith, worth refl refl, refl)) refl;
  two_orders = both_ways refl (inl refl, (inr refl, (inl refl, (inl refl, (inr refl, (inr refl, (inr refl, tt)))))))
      (here refl refl refl, (here refl refl refl, (here refl refl refl, (here refl refl refl, (here refl refl refl, (here refl refl refl, (here refl refl refl, tt)))))))
      refl refl (fresh [])
      (omega arith, worth refl refl, (omega arith, worth refl refl, (omega arith, worth refl refl, (omega arith, worth refl refl, (omega arith, worth refl refl, (omega arith, worth refl refl, (omega arith, worth refl refl, refl))))))) refl;
  token_frame = both_ways refl (inl refl, (inr refl, (inl refl, tt)))
      (here refl refl refl, (here refl refl refl, (here refl refl refl, tt)))
      refl refl (fresh [])
      (omega arith, worth refl refl, (omega arith, worth refl refl, (omega arith, worth refl refl, refl))) refl;
  pair_frame = both_ways refl (inl refl, (inr refl, (inl refl, (inr refl, tt))))
      (here refl refl refl, (here refl refl refl, (here refl refl refl, (here refl refl refl, tt))))
      refl refl (fresh [])
      (omega arith, worth refl refl, (omega arith, worth refl refl, (omega arith, worth refl refl, (omega arith, worth refl refl, refl)))) refl;
}

pub promise_rows : PromiseRows
promise_rows =
    let row : BothWays word_items (0x69 ∷ 0xC0 ∷ 0xFE ∷ []) = list_rows.halves_and_word in
    let same : (bytes : List ℕ) → LaysOut word_items bytes → bytes ≡ 0x69 ∷ 0xC0 ∷ 0xFE ∷ [] = λ bytes l.
    let law = layout_law word_items row.fitting in
    law.2 bytes l ∙ sym (law.2 (0x69 ∷ 0xC0 ∷ 0xFE ∷ []) row.laid) in
    record {
      begins = record { of_fields = refl; fitting = row.fitting; aligned = row.aligned; written = 0x69 ∷ 0xC0 ∷ 0xFE ∷ []; laid = row.laid; begins = refl };
      writable = record { fitting = row.fitting; aligned = row.aligned; laid = row.laid; none = refl; room = omega arith; countable = omega arith };
      countable = λ bytes l. let n : length bytes ≡ 3 = ap length (same bytes l) in omega (arith, n);
    }

pub turned_rows : TurnedRows
unfolding bits_of byte_bits shown taken left append padded appended laid_out number value
turned_rows = record {
  unaligned = λ a. ⊎_elim (λ (h : 3 % 8 ≡ 0). absurd (omega arith)) (λ (h : Lsb0 ≡ Msb0). absurd (cc h)) (a.1.0);
  written = record { pieces = piece Msb0 (bits_of 3 5) ∷ piece Lsb0 (bits_of 9 257) ∷ []; are = (here refl refl refl, (here refl refl refl, tt)); is = refl };
  read = (omega arith, worth refl refl, (omega arith, worth refl refl, refl));
}

pub misfit_rows : MisfitRows
misfit_rows = record {
  four_bits = misfit _ (pos 16) (λ w e. e) (λ h. omega (arith, ints, h));
  one_byte = misfit _ (pos 300) (λ w e. e) (λ h. omega (arith, ints, h));
  three_signed = misfit _ (pos 4) (λ w e. e) (λ h. omega (arith, ints, h));
  thirteen_bits = misfit _ (pos 0x1020) (λ w e. e) (λ h. omega (arith, ints, h));
  two_bytes = misfit _ (pos 16909060) (λ w e. e) (λ h. omega (arith, ints, h));
  other_number = λ f. f.worth.worth;
  nine_bits = λ f. let h : 9 ≤ 8 = f.allowed.within in omega arith;
  signed_thirteen = λ f. ⊎_elim (λ (h : 13 ≤ 8). absurd (omega arith)) (λ (h : 13 % 8 ≡ 0). absurd (omega arith)) f.allowed.even;
}

pub cut_rows : CutRows
unfolding bits_of number value
cut_rows = record {
  two_bytes = record { kind = (refl, (772, refl, omega arith)); left = record { fits = (bits_of 16 772, record { wide = refl; worth = refl }); same = refl } };
  one_byte = record { kind = (refl, (omega (arith, ints), omega (arith, ints))); left = record { fits = (bits_of 8 44, record { wide = refl; worth = refl }); same = refl } };
  below_zero = record { kind = (refl, (omega (arith, ints), omega (arith, ints))); left = record { fits = (bits_of 8 200, record { wide = refl; worth = refl }); same = refl } };
  byte = record { kind = (refl, (0xAB, refl, omega arith)); left = refl };
}

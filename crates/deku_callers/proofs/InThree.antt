-- Lists of fields in three calls: from the laws that public calls ensure.
use Rattle.std.proofs.Common.{◌≡◌, ◌⊎◌, ℕ, zero, suc, ◌+◌, ◌*◌, ◌<◌, ◌^◌, Bool, false, List, [], ◌∷◌, ◌++◌, flat_map, length, map, drop, All, Option, None, Some, Result, Ok, Err, IsErrAnd, refl, ap, sym, ◌∙◌, subst, inl, inr, arith, append-nil}
use Rattle.std.specs.Global.{Vec}
use Rattle.std.specs.Io.KnownBytes.{Appends}
use Rattle.std.specs.declared.io.ErrorKind.TheVariants.{OutOfMemory}
use Rattle.deku_bits.specs.declared.error.DekuError.{DekuError}
use Rattle.deku_bits.specs.declared.error.DekuError.TheVariants.{Io}
use Rattle.deku_bits.specs.Pieces.{total}
use Rattle.deku_bits.specs.Streams.{Stream, fresh, normal}
use Rattle.deku_bits.specs.Writers.{Pending}
use Rattle.deku_bits.specs.Devices.{KnownSink, Whole, GoesOnward, bytes_before}
use Rattle.deku_bits.specs.Standings.{Standing, Going, Stopped, Output, reader_state, writer_state}
use Rattle.deku_bits.specs.Outcomes.{Value, Refusal}
use Rattle.deku_bits.specs.ReaderCalls.{Ending}
use Rattle.deku_bits.specs.WriterCalls.{Finalizes}
use Rattle.deku_bits.proofs.WholeLaws.{holds}
use Rattle.deku.specs.Composing.{Then, Second, First, Both, Answered}
use Rattle.deku.specs.Wholes.{in_memory}
use Rattle.deku_fields.specs.declared.list.Number.{Number}
use Rattle.deku_fields.specs.declared.list.Field.{Field}
use Rattle.deku_fields.specs.declared.list.Item.{Item}
use Rattle.deku_fields.specs.Items.{IsFitting, AlignedFields, LaysOut, field_shape, fields_of, values_of}
use Rattle.deku_fields.specs.ListCalls.{ReadsFields, ReadsList, WritesItems}
use Rattle.deku_fields.specs.Cuts.{Looking, ReadsParts, ReadPartsLaw}
use Rattle.deku_fields.specs.Headline.{LayoutLaw}
use Rattle.deku_fields.specs.Promise.{Begins, IsCountable, ReadBackLaw, PaddedLaw}
use Rattle.deku_callers.specs.InThree.{ReadsInThree}

-- what a `?` hands on
pub handed : {V : Type 0} (P : Result V DekuError → Type 0) (r : Result V DekuError) (e : DekuError) → IsErrAnd r (λ x. x ≡ e) → P (Err e) → P r
handed P (Ok v) e same p = absurd same
handed P (Err x) e same p = subst (λ y. P (Err y)) (sym same) p

-- ---- reading
-- a reader over bytes of which nothing is read
pub starts : (bytes : List ℕ) (remaining : Option (List ℕ)) (state : Standing (List Bool)) → remaining ≡ Some bytes → state ≡ Going [] 0 → reader_state remaining state ≡ Going (Some (fresh bytes)) 0
unfolding normal
starts bytes remaining state e f = rw (e, f) refl

values_are : (x y : List Number) → ◌≡◌ {A = Result (List Number) DekuError} (Ok x) (Ok y) → x ≡ y
values_are x y e = cc

-- values that are returned are those of fields that were read
got : (fs : List Field) (s u : Standing (Option Stream)) (ns : List Number) → ReadsList fs false s (Ok ns) u → ReadsFields fs false s (Ok ns) u
got fs s u ns (inl p) = let other = p.1 in absurd (cc)
got fs s u ns (inr m) = m

-- after a look fields are read, or no memory is found
looked : (fs : List Field) (s u : Standing (Option Stream)) (r : Result (List Number) DekuError) → Then Ending (λ _. ReadsList fs) false s r u
    → (r ≡ Err (Io OutOfMemory)) ⊎ Looking 1 (ReadsFields fs) false s r u
looked fs s u r (Second end t look (inl p)) = inl p.1
looked fs s u r (Second end t look (inr m)) = inr (Second end t look m)
looked fs s u r (First e look is) = inr (First e look is)

module _ (parts_law : ReadPartsLaw) (back : ReadBackLaw) (fs gs hs : List Field) (bytes : List ℕ) (start : Standing (Option Stream)) (begin : start ≡ Going (Some (fresh bytes)) 0) where
  abbrev all : List Field
  all = fs ++ (gs ++ hs)

  abbrev parts : List (ℕ × List Field)
  parts = (0, fs) ∷ (1, gs) ∷ (1, hs) ∷ []

  -- what three calls answer that read before bytes that begin with what items lay out
  answer : (items : List Item) (after : List ℕ) → Begins all items bytes after → total (map field_shape all) < 2 ^ 64 → (r : Result (List Number) DekuError) (u : Standing (Option Stream))
      → ReadsParts parts false start r u → r ≡ Ok (values_of items)
  answer items after b room r u m =
      let joined : flat_map (λ p. p.1) parts ≡ all = ap (λ x. fs ++ (gs ++ x)) (append-nil hs) in
      let from : ReadsParts parts false (Going (Some (fresh bytes)) 0) r u = subst (λ s. ReadsParts parts false s r u) begin m in
      let whole : ReadsFields all false (Going (Some (fresh bytes)) 0) r u = subst (λ x. ReadsFields x false (Going (Some (fresh bytes)) 0) r u) joined (parts_law parts (fresh bytes) 0 r u from) in
      (back all r (Going (Some (fresh bytes)) 0) u whole items bytes after 0 b refl (omega (arith, room))).0

  -- so none of them is refused
  none_refused : (items : List Item) (after : List ℕ) → Begins all items bytes after → total (map field_shape all) < 2 ^ 64 → (e : DekuError) (u : Standing (Option Stream))
      → ReadsParts parts false start (Err e) u → e ≡ Io OutOfMemory
  none_refused items after b room e u m = let other = answer items after b room (Err e) u m in absurd (cc)

  pub all_read : (v : Vec Number × Vec Number × Vec Number) (s t u : Standing (Option Stream)) → ReadsList fs false start (Ok v.0.items) s
      → Then Ending (λ _. ReadsList gs) false s (Ok v.1.items) t → Then Ending (λ _. ReadsList hs) false t (Ok v.2.items) u → ReadsInThree all bytes (Ok v)
  all_read v s t u one two three items after b room =
      let first : ReadsFields fs false start (Ok v.0.items) s = got fs start s v.0.items one in
      elim (looked gs s t (Ok v.1.items) two) [
        | inl other ↦ absurd (cc)
        | inr second ↦ elim (looked hs t u (Ok v.2.items) three) [
          | inl other ↦ absurd (cc)
          | inr third ↦
              let last : ReadsParts ((1, hs) ∷ []) false t (Ok (v.2.items ++ [])) u = Second v.2.items u third (Value [] Answered refl) in
              let rest : ReadsParts ((1, gs) ∷ (1, hs) ∷ []) false s (Ok (v.1.items ++ (v.2.items ++ []))) u = Second v.1.items t second (Value (v.2.items ++ []) last refl) in
              let is = answer items after b room (Ok (v.0.items ++ (v.1.items ++ (v.2.items ++ [])))) u (Second v.0.items s first (Value (v.1.items ++ (v.2.items ++ [])) rest refl)) in
              ap (λ x. v.0.items ++ (v.1.items ++ x)) (sym (append-nil v.2.items)) ∙ values_are _ (values_of items) is
        ]
      ]

  pub first_refused : (e : DekuError) (u : Standing (Option Stream)) → ReadsList fs false start (Err e) u → ReadsInThree all bytes (Err e)
  first_refused e u (inl p) items after b room = let is = p.1 in cc
  first_refused e u (inr m) items after b room = none_refused items after b room e u (First e m refl)

  pub second_refused : (ns : List Number) (s : Standing (Option Stream)) (e : DekuError) (u : Standing (Option Stream)) → ReadsList fs false start (Ok ns) s
      → Then Ending (λ _. ReadsList gs) false s (Err e) u → ReadsInThree all bytes (Err e)
  second_refused ns s e u one two items after b room = elim (looked gs s u (Err e) two) [
    | inl is ↦ cc
    | inr m ↦ none_refused items after b room e u (Second ns s (got fs start s ns one) (Refusal e (First e m refl) refl))
  ]

  pub third_refused : (ns ms : List Number) (s t : Standing (Option Stream)) (e : DekuError) (u : Standing (Option Stream)) → ReadsList fs false start (Ok ns) s
      → Then Ending (λ _. ReadsList gs) false s (Ok ms) t → Then Ending (λ _. ReadsList hs) false t (Err e) u → ReadsInThree all bytes (Err e)
  third_refused ns ms s t e u one two three items after b room = elim (looked gs s t (Ok ms) two) [
    | inl other ↦ absurd (cc)
    | inr second ↦ elim (looked hs t u (Err e) three) [
      | inl is ↦ cc
      | inr m ↦ none_refused items after b room e u (Second ns s (got fs start s ns one) (Refusal e (Second ms t second (Refusal e (First e m refl) refl)) refl))
    ]
  ]

-- ---- writing
appended : (bytes : List ℕ) (t : Option (List ℕ)) → Appends (Some []) t bytes → t ≡ Some bytes
appended bytes None g = absurd g
appended bytes (Some ys) g = ap Some g

-- what a sink reports that it took is where its writer is
tells : (known : KnownSink) (state : Standing Pending) (after : Output) (c : ℕ) → writer_state known state ≡ Going after c → known.taken ≡ after.taken
tells known (Stopped p e d) after c is = absurd (cc)
tells known (Going pending d) after c is = cc

nothing_behind : (n : ℕ) → ◌≡◌ {A = List ℕ} (drop n []) []
nothing_behind zero = refl
nothing_behind (suc n) = refl

module _ (layout : LayoutLaw) (padded : PaddedLaw) (items : List Item) (fitting : All IsFitting items) (aligned : AlignedFields (fields_of items)) (small : IsCountable items) where
  -- items that are written from nothing and padded are what they lay out, as the sink reports
  pub laid : (start : Standing Output) (known : KnownSink) (state : Standing Pending) → start ≡ Going in_memory 0
      → Both (WritesItems items) Finalizes false start (Ok tt) (writer_state known state) → (bytes : List ℕ) × LaysOut items bytes × (known.taken ≡ Some bytes)
  laid start known state begin m =
      let l = layout items fitting in
      let room : 0 + 8 * length l.0 < 2 ^ 64 = omega (arith, small l.0 l.1) in
      let from = subst (λ s. Both (WritesItems items) Finalizes false s (Ok tt) (writer_state known state)) begin m in
      elim (padded items l.0 in_memory 0 (Ok tt) (writer_state known state) (record { fitting = fitting; aligned = aligned; laid = l.1; none = refl; room = tt; countable = room }) from) [
        | inl p ↦ (l.0, l.1, tells known state p.1.0 _ p.1.2 ∙ appended l.0 p.1.0.taken p.1.1.taken)
        | inr other ↦ absurd (cc)
      ]

  -- a refusal is of memory
  pub unlaid : (start : Standing Output) (e : DekuError) (u : Standing Output) → start ≡ Going in_memory 0 → Both (WritesItems items) Finalizes false start (Err e) u → e ≡ Io OutOfMemory
  unlaid start e u begin m =
      let l = layout items fitting in
      let room : 0 + 8 * length l.0 < 2 ^ 64 = omega (arith, small l.0 l.1) in
      let from = subst (λ s. Both (WritesItems items) Finalizes false s (Err e) u) begin m in
      elim (padded items l.0 in_memory 0 (Err e) u (record { fitting = fitting; aligned = aligned; laid = l.1; none = refl; room = tt; countable = room }) from) [
        | inl p ↦ let other = p.0 in absurd (cc)
        | inr is ↦ cc
      ]

-- a vector that was empty holds what its sink took
pub held : (w v : Whole) (bytes : List ℕ) → w.bytes ≡ [] → GoesOnward (Some w) (Some v) → bytes_before v.place v.bytes ≡ Some bytes → v.bytes ≡ bytes
held w v bytes empty on known = holds w v bytes on known ∙ ap (λ x. bytes ++ drop (length bytes) x) empty ∙ ap (λ x. bytes ++ x) (nothing_behind (length bytes)) ∙ append-nil bytes

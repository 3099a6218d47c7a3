-- Numbers of one layout, written one after the other and read back.
use Rattle.std.proofs.Common.{◌≡◌, ◌⊎◌, ℕ, zero, suc, ◌+◌, ◌*◌, ◌<◌, ◌≤◌, ◌^◌, false, List, [], ◌∷◌, ◌++◌, length, map, Option, Some, Result, Ok, Err, ℤ, refl, ap, sym, ◌∙◌, subst, inl, inr, arith, append-nil, length-append}
use Rattle.std.specs.List.{All, AllZip}
use Rattle.std.specs.Io.KnownBytes.{Appends}
use Rattle.std.proofs.KnownBytes.{Appends-nil}
use Rattle.std.proofs.lemmas.List.Elements.{All-head, All-tail}
use Rattle.std.specs.declared.io.ErrorKind.TheVariants.{OutOfMemory}
use Rattle.deku_bits.specs.declared.ctx.Order.{Order}
use Rattle.deku_bits.specs.declared.error.DekuError.{DekuError}
use Rattle.deku_bits.specs.declared.error.DekuError.TheVariants.{Io}
use Rattle.deku_bits.specs.Bits.{shown}
use Rattle.deku_bits.specs.Streams.{Stream, Has, taken, left, fresh}
use Rattle.deku_bits.specs.Pieces.{Piece, piece, shape, AlignedFrom, Aligned, laid_out}
use Rattle.deku_bits.specs.Writers.{Written, append, padded, finalized}
use Rattle.deku_bits.specs.Symmetry.{followed, appended, packed, Takes}
use Rattle.deku_bits.specs.Standings.{Standing, Going, Output}
use Rattle.deku_bits.specs.WriterCalls.{WritesBits, Finalizes}
use Rattle.deku_bits.proofs.Gives.{Shrinks-none}
use Rattle.deku_bits.proofs.Reading.{read_law}
use Rattle.deku_bits.proofs.Writing.{write_law}
use Rattle.deku_num.specs.declared.kind.NumberType.{NumberType}
use Rattle.deku_num.specs.declared.ctx.Layout.{Layout}
use Rattle.deku_num.specs.Numbers.{width, value, Fits, IsAllowed, IsFieldOf}
use Rattle.deku_num.specs.NumberCalls.{Refused, Passed, ReadsNumber, WritesNumber}
use Rattle.deku_num.proofs.FieldBits.{one_list}
use Rattle.deku_meanings.specs.Composing.{Answered, Second, First}
use Rattle.deku_writing.specs.Composing.{WritesEach}
use Rattle.deku_reading.specs.Lists as lists
use Rattle.deku_reading.specs.Lists.{AnswersEach, Runs, Until, Stored}
use Rattle.deku_reading.specs.Limits.{ReadsCount}
use Rattle.deku.specs.VectorLaws.{GivesBytes}
use Rattle.deku.proofs.Emitting.{Wrote, Done, Lacking, Full, emitted, followed_wrote}
use Rattle.deku.proofs.Exact.{ok_is, number_gives}

module _ (t : NumberType) (l : Layout) (ok : IsAllowed t l) where
  -- the pieces of numbers
  abbrev pub ArePiecesOf : List ℤ → List Piece → Type 0
  ArePiecesOf vs ps = AllZip (λ v p. (p.order ≡ l.order) × IsFieldOf t l v p.bits) vs ps

  pieces_of : (vs : List ℤ) → All (Fits t l) vs → (ps : List Piece) × ArePiecesOf vs ps
  pieces_of [] h = ([], tt)
  pieces_of (v ∷ vs) h =
      let f = All-head (Fits t l) v vs h in
      let rest = pieces_of vs (All-tail (Fits t l) v vs h) in
      (piece l.order f.0 ∷ rest.0, ((refl, f.1), rest.1))

  -- pieces of one order are aligned
  in_step : (n : ℕ) (vs : List ℤ) (ps : List Piece) → ArePiecesOf vs ps → AlignedFrom n l.order (map shape ps)
  in_step n [] [] a = tt
  in_step n [] (p ∷ ps) a = absurd a
  in_step n (v ∷ vs) [] a = absurd a
  in_step n (v ∷ vs) (p ∷ ps) a = step (λ k. in_step k vs ps a.1) (length p.bits)
    where
      step : ((k : ℕ) → AlignedFrom k l.order (map shape ps)) → (w : ℕ) → AlignedFrom n l.order ((p.order, w) ∷ map shape ps)
      step go zero = go n
      step go (suc w) = (inr (a.0.0), subst (λ o. AlignedFrom (n + suc w) o (map shape ps)) (sym a.0.0) (go (n + suc w)))

  from_start : (vs : List ℤ) (ps : List Piece) (o : Order) → ArePiecesOf vs ps → AlignedFrom 0 o (map shape ps)
  from_start [] [] o a = tt
  from_start [] (p ∷ ps) o a = absurd a
  from_start (v ∷ vs) [] o a = absurd a
  from_start (v ∷ vs) (p ∷ ps) o a = step (from_start vs ps o a.1) (length p.bits)
    where
      step : AlignedFrom 0 o (map shape ps) → (w : ℕ) → AlignedFrom 0 o ((p.order, w) ∷ map shape ps)
      step go zero = go
      step go (suc w) = (inl refl, subst (λ x. AlignedFrom (0 + suc w) x (map shape ps)) (sym a.0.0) (in_step (0 + suc w) vs ps a.1))

  -- ---- writing
  number_wrote : (v : ℤ) (p : Piece) → p.order ≡ l.order → IsFieldOf t l v p.bits → (out : Output) (c : ℕ) (r : Result (Unit {0}) DekuError) (u : Standing Output)
      → WritesNumber t l v false (Going out c) r u → Wrote (append p.order (shown p.order p.bits) out.pending) out c r u
  number_wrote v p o f out c r u (Refused b (x, inl q, y, z)) = absurd (omega (arith, q.0, ok.within))
  number_wrote v p o f out c r u (Refused b (x, inr q, y, z)) = absurd (q.1 ok.even)
  number_wrote v p o f out c r u (Passed (Refused b q)) = absurd (q.0 p.bits f)
  number_wrote v p o f out c r u (Passed (Passed q)) =
      let same : q.1.0 ≡ p.bits = one_list t l v q.1.0 p.bits ok q.1.1 f in
      let bits : WritesBits l.order (shown l.order p.bits) false (Going out c) r u = subst (λ s. WritesBits l.order (shown l.order s) false (Going out c) r u) same q.1.2 in
      subst (λ x. Wrote (append x (shown x p.bits) out.pending) out c r u) (sym o) (emitted (append l.order (shown l.order p.bits)) out c r u bits)

  numbers_wrote : (vs : List ℤ) (ps : List Piece) → ArePiecesOf vs ps → (out : Output) (c : ℕ) (r : Result (Unit {0}) DekuError) (u : Standing Output)
      → WritesEach (WritesNumber t l) vs false (Going out c) r u → Wrote (appended ps out.pending) out c r u
  unfolding appended
  numbers_wrote [] [] a out c r u Answered =
      let n : c ≡ c + 8 * 0 = omega arith in
      Done out (record { taken = Appends-nil out.taken; room = Shrinks-none out.room; pending = refl }) refl (ap (λ x. Going out x) n)
  numbers_wrote [] (p ∷ ps) a out c r u w = absurd a
  numbers_wrote (v ∷ vs) [] a out c r u w = absurd a
  numbers_wrote (v ∷ vs) (p ∷ ps) a out c r u w =
      followed_wrote (append p.order (shown p.order p.bits) out.pending) (appended ps) out c (WritesNumber t l v) (λ _. WritesEach (WritesNumber t l) vs) r u
      (λ x y m. number_wrote v p a.0.0 a.0.1 out c x y m)
      (λ mid d x y m. numbers_wrote vs ps a.1 mid d x y m)
      w

  -- what was given to a sink that had taken nothing
  appends_is : (old new : Option (List ℕ)) (xs bytes : List ℕ) → old ≡ Some [] → new ≡ Some bytes → Appends old new xs → bytes ≡ xs
  appends_is old new xs bytes e f h = let k : Appends (Some []) (Some bytes) xs = rw (e, f) at h in k

  given : (vs : List ℤ) (ps : List Piece) (bytes : List ℕ) → ArePiecesOf vs ps → GivesBytes (WritesEach (WritesNumber t l) vs) bytes → bytes ≡ packed ps
  given vs ps bytes a g = is both
    where
      w : Written
      w = followed (appended ps g.before.pending) finalized

      both : Wrote w g.before g.count (Ok tt) (Going g.after g.count_after)
      both = followed_wrote (appended ps g.before.pending) finalized g.before g.count (WritesEach (WritesNumber t l) vs) (λ _. Finalizes) (Ok tt) (Going g.after g.count_after)
          (λ x y n. numbers_wrote vs ps a g.before g.count x y n)
          (λ mid e x y n. emitted finalized mid e x y n) g.written

      is : Wrote w g.before g.count (Ok tt) (Going g.after g.count_after) → bytes ≡ packed ps
      is (Done end k e f) =
          let same : g.after ≡ end = cc in
          appends_is g.before.taken g.after.taken w.bytes bytes (g.none) (g.taken) (subst (λ x. Appends g.before.taken x.taken w.bytes) (sym same) k.taken)
          ∙ ap (λ P. (appended ps P).bytes ++ padded (appended ps P).pending) (g.nothing)
      is (Lacking kind k e) = absurd (cc)
      is (Full x k e) = absurd (cc)

  -- ---- reading
  -- what items that were read in turn are
  record TakenTo (vs : List ℤ) (ps : List Piece) (T : Stream) (xs : List ℤ) (u : Standing (Option Stream)) : Type 0 where
    values : List ℤ
    rest : List Piece
    at : Stream
    count : ℕ
    split : vs ≡ xs ++ values
    are : ArePiecesOf values rest
    takes : Takes rest at T
    stands : u ≡ Going (Some at) count
    room : count + length values * width t l < 2 ^ 64

  -- the next number is read as it is
  next_is : (v : ℤ) (p : Piece) (ps : List Piece) (S T : Stream) (c : ℕ) (x : ℤ) (y : Standing (Option Stream)) → (p.order ≡ l.order) × IsFieldOf t l v p.bits → c + width t l < 2 ^ 64
      → Takes (p ∷ ps) S T → ReadsNumber t l false (Going (Some S) c) (Ok x) y
      → (x ≡ v) × ((next : Stream) × Takes ps next T × (y ≡ Going (Some next) (c + width t l)))
  next_is v p ps S T c x y a room takes m =
      let n : ℕ = width t l in
      let has : Has n S = subst (λ k. Has k S) (a.1.wide) takes.0 in
      let gives = number_gives t l S c ok room has (Ok x) y m in
      let bits : taken l.order n S ≡ p.bits = subst (λ o. taken o n S ≡ p.bits) (a.0) (subst (λ k. taken p.order k S ≡ p.bits) (a.1.wide) takes.1) in
      let next : Takes ps (left l.order n S) T = subst (λ o. Takes ps (left o n S) T) (a.0) (subst (λ k. Takes ps (left p.order k S) T) (a.1.wide) takes.2) in
      (ok_is x _ gives.0 ∙ ap (value t l) bits ∙ a.1.worth, (left l.order n S, next, gives.1))

  taken_in_turn : (vs : List ℤ) (ps : List Piece) (S T : Stream) (c : ℕ) (xs : List ℤ) (u : Standing (Option Stream)) → ArePiecesOf vs ps → Takes ps S T
      → c + length vs * width t l < 2 ^ 64 → length xs ≤ length vs → AnswersEach (Stored (ReadsNumber t l)) xs (Going (Some S) c) u → TakenTo vs ps T xs u
  taken_in_turn vs ps S T c [] u a takes room less turn = record { values = vs; rest = ps; at = S; count = c; split = refl; are = a; takes = takes; stands = turn; room = room }
  taken_in_turn [] ps S T c (x ∷ xs) u a takes room less turn = absurd (omega (arith, less))
  taken_in_turn (v ∷ vs) [] S T c (x ∷ xs) u a takes room less turn = absurd a
  taken_in_turn (v ∷ vs) (p ∷ ps) S T c (x ∷ xs) u a takes room less (y, stored, turn) =
      on (λ S d takes room turn. taken_in_turn vs ps S T d xs u a.1 takes room (omega (arith, less)) turn) stored
    where
      n : ℕ
      n = width t l

      on : ((S : Stream) (d : ℕ) → Takes ps S T → d + length vs * width t l < 2 ^ 64 → AnswersEach (Stored (ReadsNumber t l)) xs (Going (Some S) d) u → TakenTo vs ps T xs u)
          → Stored (ReadsNumber t l) false (Going (Some S) c) (Ok x) y → TakenTo (v ∷ vs) (p ∷ ps) T (x ∷ xs) u
      on go (First e m q) = absurd (cc)
      on go (Second w z m (Refused b none)) = let d = none.0 in absurd (cc)
      on go (Second w z m (Passed Answered)) =
          let here : c + n < 2 ^ 64 = omega (arith, room) in
          let it = next_is v p ps S T c x y a.0 here takes m in
          let after : c + n + length vs * n < 2 ^ 64 = omega (arith, room) in
          let others = go it.1.0 (c + n) it.1.1 after (subst (λ k. AnswersEach (Stored (ReadsNumber t l)) xs k u) it.1.2 turn) in
          record {
            values = others.values;
            rest = others.rest;
            at = others.at;
            count = others.count;
            split = ap (λ k. k ∷ vs) (sym it.0) ∙ ap (λ ks. x ∷ ks) others.split;
            are = others.are;
            takes = others.takes;
            stands = others.stands;
            room = others.room;
          }

  -- nothing is left of a list that is as long
  all_of : (vs xs ws : List ℤ) → vs ≡ xs ++ ws → length xs ≡ length vs → vs ≡ xs
  all_of vs xs [] e h = e ∙ append-nil xs
  all_of vs xs (w ∷ ws) e h = absurd (omega (arith, h, ap length e, length-append xs (w ∷ ws)))

  some_left : (vs xs ws : List ℤ) → vs ≡ xs ++ ws → length xs < length vs → 0 < length ws
  some_left vs xs ws e h = omega (arith, h, ap length e, length-append xs ws)

  refused_for_memory : (vs : List ℤ) (ps : List Piece) (T S : Stream) (c : ℕ) (e : DekuError) (u : Standing (Option Stream)) → ArePiecesOf vs ps → Takes ps S T → 0 < length vs
      → c + length vs * width t l < 2 ^ 64 → Stored (ReadsNumber t l) false (Going (Some S) c) (Err e) u → e ≡ Io OutOfMemory
  refused_for_memory [] ps T S c e u a takes some room m = absurd (omega (arith, some))
  refused_for_memory (v ∷ vs) [] T S c e u a takes some room m = absurd a
  refused_for_memory (v ∷ vs) (p ∷ ps) T S c e u a takes some room (First x m q) =
      let has : Has (width t l) S = subst (λ k. Has k S) (a.0.1.wide) takes.0 in
      let gives = number_gives t l S c ok (omega (arith, room)) has (Err x) u m in
      let no : Err x ≡ Ok _ = gives.0 in absurd (cc)
  refused_for_memory (v ∷ vs) (p ∷ ps) T S c e u a takes some room (Second w z m (Refused b none)) = let d = none.0 in cc
  refused_for_memory (v ∷ vs) (p ∷ ps) T S c e u a takes some room (Second w z m (Passed put)) = elim put [ ]

  read_back : (vs : List ℤ) (ps : List Piece) (S T : Stream) (c : ℕ) (r : Result (List ℤ) DekuError) (u : Standing (Option Stream)) → ArePiecesOf vs ps → Takes ps S T
      → c + length vs * width t l < 2 ^ 64 → ReadsCount (length vs) (ReadsNumber t l) false (Going (Some S) c) r u → (r ≡ Ok vs) ⊎ (r ≡ Err (Io OutOfMemory))
  read_back vs ps S T c r u a takes room (Until xs turn long b e) =
      let it = taken_in_turn vs ps S T c xs u a takes room (omega (arith, long)) turn in
      inl (e ∙ ap (λ k. Ok k) (sym (all_of vs xs it.values (it.split) long)))
  read_back vs ps S T c r u a takes room (lists.NextRefused xs y e turn less m q) =
      let it = taken_in_turn vs ps S T c xs y a takes room (omega (arith, less)) turn in
      let none = refused_for_memory it.values it.rest T it.at it.count e u (it.are) (it.takes) (some_left vs xs it.values (it.split) less) (it.room)
      (subst (λ k. Stored (ReadsNumber t l) false k (Err e) u) (it.stands) m) in
      inr (q ∙ ap (λ k. Err k) none)

-- numbers that are written under one layout are read with a count of as many, or no memory is found
pub vector_law : (t : NumberType) (l : Layout) (vs : List ℤ) (bytes behind : List ℕ) (c : ℕ) (r : Result (List ℤ) DekuError) (u : Standing (Option Stream))
    → IsAllowed t l → All (Fits t l) vs → GivesBytes (WritesEach (WritesNumber t l) vs) bytes → c + length vs * width t l < 2 ^ 64
    → ReadsCount (length vs) (ReadsNumber t l) false (Going (Some (fresh (bytes ++ behind))) c) r u → (r ≡ Ok vs) ⊎ (r ≡ Err (Io OutOfMemory))
vector_law t l vs bytes behind c r u ok fit given_bytes room m =
    let ps = pieces_of t l ok vs fit in
    let aligned : Aligned (map shape ps.0) = from_start t l ok vs ps.0 _ ps.1 in
    let is : bytes ≡ laid_out ps.0 = given t l ok vs ps.0 bytes ps.1 given_bytes ∙ write_law ps.0 aligned in
    let reads = read_law ps.0 behind aligned in
    read_back t l ok vs ps.0 (fresh (laid_out ps.0 ++ behind)) reads.0 c r u ps.1 reads.1 room
    (subst (λ k. ReadsCount (length vs) (ReadsNumber t l) false (Going (Some (fresh (k ++ behind))) c) r u) is m)

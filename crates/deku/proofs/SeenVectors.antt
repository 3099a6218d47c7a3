-- Vectors of a type whose values stand for integers, written and read back.
use Rattle.std.proofs.Common.{◌≡◌, ◌⊎◌, ℕ, ◌+◌, ◌*◌, ◌<◌, ◌^◌, Bool, false, List, [], ◌∷◌, ◌++◌, length, map, Option, Some, Result, Ok, Err, ℤ, pos, refl, ap, ap₂, sym, ◌∙◌, subst, inl, inr, arith}
use Rattle.std.specs.Prelude.{MatchResult}
use Rattle.std.specs.List.{All}
use Rattle.std.specs.Global.{Vec}
use Rattle.std.proofs.lemmas.List.Elements.{All-cons, All-head, All-nil, All-tail}
use Rattle.std.specs.declared.io.ErrorKind.TheVariants.{OutOfMemory}
use Rattle.deku_bits.specs.declared.error.DekuError.{DekuError}
use Rattle.deku_bits.specs.declared.error.DekuError.TheVariants.{Io}
use Rattle.deku_bits.specs.Streams.{Stream, fresh}
use Rattle.deku_bits.specs.Standings.{Standing, Going, Output}
use Rattle.deku_bits.specs.Outcomes.{Meaning}
use Rattle.deku_num.specs.declared.kind.NumberType.{NumberType}
use Rattle.deku_num.specs.declared.ctx.Layout.{Layout}
use Rattle.deku_num.specs.Numbers.{width, Fits, IsAllowed}
use Rattle.deku_num.specs.NumberCalls.{Checked, Refused, Passed, ReadsNumber, ReadsUnsigned, WritesNumber}
use Rattle.deku_meanings.specs.Composing.{Answer, Answered, Second, First}
use Rattle.deku_meanings.specs.Shapes.{LacksMemory}
use Rattle.deku_writing.specs.Composing.{WritesEach}
use Rattle.deku_reading.specs.Lists as lists
use Rattle.deku_reading.specs.Lists.{AnswersEach, Stored, Until, on_value}
use Rattle.deku_reading.specs.Limits.{ReadsCount, MappedBy, ValueBy, RefusalBy}
use Rattle.deku.specs.VectorLaws.{GivesBytes, ReadsAsWritten}
use Rattle.deku.proofs.Exact.{ok_is}
use Rattle.deku.proofs.Vectors.{vector_law}

length-mapped : {V : Type 0} (h : V → ℤ) (vs : List V) → length (map h vs) ≡ length vs
length-mapped h [] = refl
length-mapped h (v ∷ vs) = let more = length-mapped h vs in omega (arith, more)

module _ {V : Type 0} (t : NumberType) (l : Layout) (h : V → ℤ) (m : Meaning (Option Stream) V)
    (one : (v w : V) → h v ≡ h w → v ≡ w)
    (same : (b : Bool) (s : Standing (Option Stream)) (r : Result V DekuError) (u : Standing (Option Stream)) → m b s r u → ReadsNumber t l b s (on_value h r) u) where
  -- ---- reading
  stored_seen : (b : Bool) (s : Standing (Option Stream)) (r : Result V DekuError) (u : Standing (Option Stream)) → Stored m b s r u → Stored (ReadsNumber t l) b s (on_value h r) u
  stored_seen b s r u (Second v w p q) = Second (h v) w (same false s (Ok v) w p) (placed v b w r u q)
    where
      placed : (v : V) (b : Bool) (w : Standing (Option Stream)) (r : Result V DekuError) (u : Standing (Option Stream)) → Checked LacksMemory (Answer v) b w r u → Checked LacksMemory (Answer (h v)) b w (on_value h r) u
      placed v b w r u (Refused quiet none) = Refused quiet (ap (on_value h) none.0, none.1)
      placed v b w r u (Passed Answered) = Passed Answered
  stored_seen b s r u (First e p k) = First e (same b s (Err e) u p) (ap (on_value h) k)

  turn_seen : (vs : List V) (s u : Standing (Option Stream)) → AnswersEach (Stored m) vs s u → AnswersEach (Stored (ReadsNumber t l)) (map h vs) s u
  turn_seen [] s u e = e
  turn_seen (v ∷ vs) s u (w, first, others) = (w, stored_seen false s (Ok v) w first, turn_seen vs w u others)

  count_seen : (n : ℕ) (b : Bool) (s : Standing (Option Stream)) (r : Result (List V) DekuError) (u : Standing (Option Stream)) → ReadsCount n m b s r u
      → ReadsCount n (ReadsNumber t l) b s (on_value (map h) r) u
  count_seen n b s r u (Until vs turn long quiet e) = Until (map h vs) (turn_seen vs s u turn) (length-mapped h vs ∙ long) quiet (ap (on_value (map h)) e)
  count_seen n b s r u (lists.NextRefused vs w e turn less refused k) =
      lists.NextRefused (map h vs) w e (turn_seen vs s w turn) (omega (arith, less, length-mapped h vs)) (stored_seen b w (Err e) u refused) (ap (on_value (map h)) k)

  -- ---- writing
  each_seen : (vs : List V) (b : Bool) (s : Standing Output) (r : Result (Unit {0}) DekuError) (u : Standing Output) → WritesEach (λ x. WritesNumber t l (h x)) vs b s r u
      → WritesEach (WritesNumber t l) (map h vs) b s r u
  each_seen [] b s r u w = w
  each_seen (v ∷ vs) b s r u (Second x w p q) = Second x w p (each_seen vs b w r u q)
  each_seen (v ∷ vs) b s r u (First e p k) = First e p k

  gives_seen : (vs : List V) (bytes : List ℕ) → GivesBytes (WritesEach (λ x. WritesNumber t l (h x)) vs) bytes → GivesBytes (WritesEach (WritesNumber t l) (map h vs)) bytes
  gives_seen vs bytes g = elim g.written [
    | Second x w p q ↦ record {
      before = g.before;
      after = g.after;
      count = g.count;
      count_after = g.count_after;
      nothing = g.nothing;
      none = g.none;
      written = Second x w (each_seen vs false (Going g.before g.count) (Ok x) w p) q;
      taken = g.taken;
    }
    | First e p k ↦ absurd (cc)
  ]

  fits_seen : (vs : List V) → All (λ x. Fits t l (h x)) vs → All (Fits t l) (map h vs)
  fits_seen [] a = All-nil (Fits t l)
  fits_seen (v ∷ vs) a = All-cons (Fits t l) (h v) (map h vs) (All-head (λ x. Fits t l (h x)) v vs a) (fits_seen vs (All-tail (λ x. Fits t l (h x)) v vs a))

  heads : (x y : ℤ) (xs ys : List ℤ) → x ∷ xs ≡ y ∷ ys → x ≡ y
  heads x y xs ys e = cc

  tails : (x y : ℤ) (xs ys : List ℤ) → x ∷ xs ≡ y ∷ ys → xs ≡ ys
  tails x y xs ys e = cc

  values_one : (vs ws : List V) → map h vs ≡ map h ws → vs ≡ ws
  values_one [] [] e = refl
  values_one [] (w ∷ ws) e = absurd (cc)
  values_one (v ∷ vs) [] e = absurd (cc)
  values_one (v ∷ vs) (w ∷ ws) e = ap₂ (λ x y. x ∷ y) (one v w (heads _ _ (map h vs) (map h ws) e)) (values_one vs ws (tails (h v) (h w) _ _ e))

  -- ---- both
  found : (v : Vec V) (bytes behind : List ℕ) (c : ℕ) (r : Result (List V) DekuError) (u : Standing (Option Stream)) → IsAllowed t l → All (λ x. Fits t l (h x)) v.items
      → GivesBytes (WritesEach (λ x. WritesNumber t l (h x)) v.items) bytes → c + length v.items * width t l < 2 ^ 64
      → ReadsCount (length v.items) m false (Going (Some (fresh (bytes ++ behind))) c) r u → MatchResult r (λ xs. xs ≡ v.items) (λ e. e ≡ Io OutOfMemory)
  found v bytes behind c r u ok fits gives room reads = answer r law
    where
      long : length (map h v.items) ≡ length v.items
      long = length-mapped h v.items

      law : (on_value (map h) r ≡ Ok (map h v.items)) ⊎ (on_value (map h) r ≡ Err (Io OutOfMemory))
      law = vector_law t l (map h v.items) bytes behind c (on_value (map h) r) u ok (fits_seen v.items fits) (gives_seen v.items bytes gives)
          (subst (λ k. c + k * width t l < 2 ^ 64) (sym long) room)
          (subst (λ k. ReadsCount k (ReadsNumber t l) false (Going (Some (fresh (bytes ++ behind))) c) (on_value (map h) r) u) (sym long)
          (count_seen (length v.items) false (Going (Some (fresh (bytes ++ behind))) c) r u reads))

      answer : (r : Result (List V) DekuError) → (on_value (map h) r ≡ Ok (map h v.items)) ⊎ (on_value (map h) r ≡ Err (Io OutOfMemory)) → MatchResult r (λ xs. xs ≡ v.items) (λ e. e ≡ Io OutOfMemory)
      answer (Ok xs) (inl e) = values_one xs v.items (ok_is (map h xs) (map h v.items) e)
      answer (Ok xs) (inr e) = absurd (cc)
      answer (Err x) (inl e) = absurd (cc)
      answer (Err x) (inr e) = cc

  pub read_as_written : ReadsAsWritten t l h (λ n. MappedBy (λ xs v. v.items ≡ xs) (ReadsCount n m)) (λ v. WritesEach (λ x. WritesNumber t l (h x)) v.items)
  read_as_written v bytes behind c (Err x) u ok fits gives room (ValueBy xs w p is k) = absurd (cc)
  read_as_written v bytes behind c (Ok w) u ok fits gives room (RefusalBy e p k) = absurd (cc)
  read_as_written v bytes behind c (Err x) u ok fits gives room (RefusalBy e p k) = let d = found v bytes behind c (Err e) u ok fits gives room p in refused e x k d
    where
      refused : (e x : DekuError) → ◌≡◌ {A = Result (Vec V) DekuError} (Err x) (Err e) → e ≡ Io OutOfMemory → x ≡ Io OutOfMemory
      refused e x k d = cc
  read_as_written v bytes behind c (Ok y) u ok fits gives room (ValueBy xs w p is k) = ap (λ z. z.items) (ok_is y w k) ∙ is ∙ found v bytes behind c (Ok xs) u ok fits gives room p

-- ---- numbers without a sign
pub unsigned_one : (m n : ℕ) → pos m ≡ pos n → m ≡ n
unsigned_one m n e = cc

pub unsigned_seen : (t : NumberType) (l : Layout) (b : Bool) (s : Standing (Option Stream)) (r : Result ℕ DekuError) (u : Standing (Option Stream)) → ReadsUnsigned t l b s r u → ReadsNumber t l b s (on_value pos r) u
unsigned_seen t l b s (Ok n) u m = m
unsigned_seen t l b s (Err e) u m = m

-- ---- numbers with a sign
pub signed_one : (m n : ℤ) → m ≡ n → m ≡ n
signed_one m n e = e

pub signed_seen : (t : NumberType) (l : Layout) (b : Bool) (s : Standing (Option Stream)) (r : Result ℤ DekuError) (u : Standing (Option Stream)) → ReadsNumber t l b s r u → ReadsNumber t l b s (on_value (λ v. v) r) u
signed_seen t l b s (Ok n) u m = m
signed_seen t l b s (Err e) u m = m

-- Records, read one after the other: what is known on the way.
use Rattle.std.proofs.Common.{◌≡◌, ℕ, suc, ◌+◌, ◌-◌, ◌<◌, ◌≤◌, Result, Ok, Err, Option, List, [], ◌++◌, length, take, refl, ap, sym, subst, arith, append_assoc, append-nil}
use Rattle.std.proofs.lemmas.List.{take_all}
use Rattle.std.proofs.lemmas.Slice.{take-put_mid}
use borrow.Rule.Slice.PartMut.{put_mid}
use Rattle.deku_bits.specs.declared.error.DekuError.{DekuError}
use Rattle.deku_bits.specs.Streams.{Stream}
use Rattle.deku_bits.specs.Devices.{Health}
use Rattle.deku_bits.specs.Standings.{Standing}
use Rattle.deku_bits.specs.Outcomes.{Outcome}
use Rattle.deku.proofs.Joining.{answered}
use Rattle.deku_fields.specs.declared.list.Number.{Number}
use Rattle.deku_fields.specs.declared.list.Field.{Field}
use Rattle.deku_fields.specs.ListCalls.{ReadsFields}
use Rattle.deku_fields.specs.Cuts.{joined}
use Rattle.deku_fields.proofs.Cuts.{read_calls}
use Rattle.deku_plan.specs.Records.{records}

-- the records from the i-th on may follow: the values of those before it are ns
abbrev pub Follows : List Field → ℕ → ℕ → List Number → Standing (Option Stream) → Health → Standing (Option Stream) → Health → Type 0
Follows fs count i ns s0 f0 s f = (r : Result (List Number) DekuError) (u : Standing (Option Stream)) (h : Health)
    → Outcome (ReadsFields (records (count - i) fs)) s f r u h → Outcome (ReadsFields (records count fs)) s0 f0 (joined ns r) u h

pub follows_first : (fs : List Field) (count : ℕ) (out : List Number) (s : Standing (Option Stream)) (f : Health) → Follows fs count 0 (take 0 out) s f s f
follows_first fs count out s f (Ok ns) u h o = let all : count - 0 ≡ count = omega arith in subst (λ k. Outcome (ReadsFields (records k fs)) s f (Ok ns) u h) all o
follows_first fs count out s f (Err e) u h o = let all : count - 0 ≡ count = omega arith in subst (λ k. Outcome (ReadsFields (records k fs)) s f (Err e) u h) all o

joined_on : (ns ms : List Number) (r : Result (List Number) DekuError) → joined ns (joined ms r) ≡ joined (ns ++ ms) r
joined_on ns ms (Ok ks) = ap Ok (sym (append_assoc ns ms ks))
joined_on ns ms (Err e) = refl

pub joins_more : (fs : List Field) (count i : ℕ) (ns ms : List Number) (s0 : Standing (Option Stream)) (f0 : Health) (s : Standing (Option Stream)) (f : Health) (t : Standing (Option Stream)) (g : Health)
    → i < count → Follows fs count i ns s0 f0 s f → Outcome (ReadsFields fs) s f (Ok ms) t g → Follows fs count (i + 1) (ns ++ ms) s0 f0 t g
joins_more fs count i ns ms s0 f0 s f t g l k o r u h p =
    let next : count - i ≡ suc (count - (i + 1)) = omega (arith, l) in
    let both : Outcome (ReadsFields (records (count - i) fs)) s f (joined ms r) u h =
    subst (λ x. Outcome (ReadsFields (records x fs)) s f (joined ms r) u h) (sym next) (read_calls.both fs (records (count - (i + 1)) fs) s t u f g h ms r o p) in
    subst (λ x. Outcome (ReadsFields (records count fs)) s0 f0 x u h) (joined_on ns ms r) (k (joined ms r) u h both)

-- the values of one record more, put into their places
pub follows_more : (fs : List Field) (count i place next k : ℕ) (out ms : List Number) (s0 : Standing (Option Stream)) (f0 : Health) (s : Standing (Option Stream)) (f : Health) (t : Standing (Option Stream)) (g : Health)
    → i < count → place ≤ length out → next ≡ place + length ms → Follows fs count i (take place out) s0 f0 s f → Outcome (ReadsFields fs) s f (Ok ms) t g
    → Follows fs count (i + 1) (take next (put_mid place k out ms)) s0 f0 t g
follows_more fs count i place next k out ms s0 f0 s f t g l inside n h o =
    subst (λ x. Follows fs count (i + 1) x s0 f0 t g) (sym (take-put_mid place k out ms next n inside)) (joins_more fs count i (take place out) ms s0 f0 s f t g l h o)

pub follows_not : (fs : List Field) (count i : ℕ) (ns : List Number) (e : DekuError) (s0 : Standing (Option Stream)) (f0 : Health) (s : Standing (Option Stream)) (f : Health) (t : Standing (Option Stream)) (g : Health)
    → i < count → Follows fs count i ns s0 f0 s f → Outcome (ReadsFields fs) s f (Err e) t g → Outcome (ReadsFields (records count fs)) s0 f0 (Err e) t g
follows_not fs count i ns e s0 f0 s f t g l k o =
    let next : count - i ≡ suc (count - (i + 1)) = omega (arith, l) in
    k (Err e) t g (subst (λ x. Outcome (ReadsFields (records x fs)) s f (Err e) t g) (sym next) (read_calls.refused fs (records (count - (i + 1)) fs) s t f g e o))

pub follows_done : (fs : List Field) (count i : ℕ) (ns : List Number) (s0 : Standing (Option Stream)) (f0 : Health) (s : Standing (Option Stream)) (f : Health)
    → count ≤ i → Follows fs count i ns s0 f0 s f → Outcome (ReadsFields (records count fs)) s0 f0 (Ok ns) s f
follows_done fs count i ns s0 f0 s f l k =
    let none : count - i ≡ 0 = omega (arith, l) in
    subst (λ x. Outcome (ReadsFields (records count fs)) s0 f0 (Ok x) s f) (append-nil ns)
    (k (Ok []) s f (subst (λ x. Outcome (ReadsFields (records x fs)) s f (Ok []) s f) (sym none) answered))

pub follows_last : (fs : List Field) (count i place : ℕ) (out : List Number) (s0 : Standing (Option Stream)) (f0 : Health) (s : Standing (Option Stream)) (f : Health)
    → count ≤ i → length out ≤ place → Follows fs count i (take place out) s0 f0 s f → Outcome (ReadsFields (records count fs)) s0 f0 (Ok out) s f
follows_last fs count i place out s0 f0 s f l most k =
    subst (λ x. Outcome (ReadsFields (records count fs)) s0 f0 (Ok x) s f) (take_all place out most) (follows_done fs count i (take place out) s0 f0 s f l k)

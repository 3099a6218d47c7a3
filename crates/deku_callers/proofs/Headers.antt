-- The pieces of headers, and what the laws of symmetric types say of them.
use Rattle.std.proofs.Common.{◌≡◌, ℕ, ◌+◌, ◌*◌, ◌/◌, ◌<◌, ◌≤◌, ◌^◌, List, [], length, length-take, map, take, All, Option, Result, Ok, Err, MatchResult, IfOk, ap, sym, ◌∙◌, arith, append-nil}
use Rattle.std.specs.Borrow.{Bor}
use Rattle.std.specs.Global.{Vec}
use Rattle.std.specs.declared.io.ErrorKind.TheVariants.{OutOfMemory}
use Rattle.deku_bits.specs.declared.error.DekuError.{DekuError}
use Rattle.deku_bits.specs.declared.error.DekuError.TheVariants.{Io}
use Rattle.deku_bits.specs.Streams.{Stream}
use Rattle.deku_bits.specs.Pieces.{Piece, LengthLaw, shape, total, laid_out}
use Rattle.deku_bits.specs.Standings.{Output}
use Rattle.deku_bits.specs.Outcomes.{Meaning}
use Rattle.deku_bits.specs.WriterCalls.{Finalizes}
use Rattle.deku_num.specs.declared.ctx.Size.TheVariants.{Whole}
use Rattle.deku_num.specs.Numbers.{unsigned}
use Rattle.deku.specs.Composing.{Both}
use Rattle.deku.specs.Wholes.{Behind, ReadsBytesOnce, WritesOnce}
use Rattle.deku_symmetry.specs.Symmetric.{breadth}
use Rattle.deku_symmetry.specs.Pieces.{OfUnsigned, InTurn, high_first}
use Rattle.deku_symmetry.specs.Packs.{InStep, ToBytesLaw, FromBytesLaw, FoundLaw, WholeBytesLaw}
use Rattle.deku_symmetry.proofs.HighFirst.{Has, Lies, in_step, number_lies, turns_lie, unsigned_has, turns_have}
use Rattle.deku_transport.specs.declared.udp.Udp.{Udp}

-- aligned pieces of few bits lay out few bytes
pub few : LengthLaw → (ps : List Piece) (n : ℕ) → InStep ps → breadth ps ≡ n → n + 7 < 2 ^ 64 → 8 * length (laid_out ps) < 2 ^ 64
few long ps n aligned w small = let t : total (map shape ps) ≡ n = w in omega (arith, t, small, long ps aligned)

-- ---- a datagram's header
abbrev pub Word : ℕ → List Piece → Type 0
Word = OfUnsigned (unsigned 16) (high_first Whole)

abbrev pub OfUdp : Udp → List Piece → Type 0
OfUdp h = InTurn (Word h.source) (InTurn (Word h.destination) (InTurn (Word h.length) (Word h.checksum)))

abbrev pub SameUdp : Udp → Udp → Type 0
SameUdp h g = (h.source ≡ g.source) × ((h.destination ≡ g.destination) × ((h.length ≡ g.length) × (h.checksum ≡ g.checksum)))

-- its numbers are those of their type
abbrev pub IsOfType : Udp → Type 0
IsOfType h = (h.source < 2 ^ 16) × (h.destination < 2 ^ 16) × (h.length < 2 ^ 16) × (h.checksum < 2 ^ 16)

abbrev made : ℕ → ℕ → ℕ → ℕ → Udp
made a b c d = record { source = a; destination = b; length = c; checksum = d }

is_same : (h g : Udp) → SameUdp h g → g ≡ h
is_same h g (a, (b, (c, d))) =
    ap (λ x. made x g.destination g.length g.checksum) (sym a) ∙ ap (λ x. made h.source x g.length g.checksum) (sym b) ∙ ap (λ x. made h.source h.destination x g.checksum) (sym c)
    ∙ ap (λ x. made h.source h.destination h.length x) (sym d)

pub word_has : (n : ℕ) → n < 2 ^ 16 → Has (Word n)
word_has n small = unsigned_has 16 Whole n (omega arith) small

pub udp_has : (h : Udp) → IsOfType h → Has (OfUdp h)
udp_has h (a, b, c, d) =
    turns_have {P = Word h.source} {Q = InTurn (Word h.destination) (InTurn (Word h.length) (Word h.checksum))} (word_has h.source a)
    (turns_have {P = Word h.destination} {Q = InTurn (Word h.length) (Word h.checksum)} (word_has h.destination b)
    (turns_have {P = Word h.length} {Q = Word h.checksum} (word_has h.length c) (word_has h.checksum d)))

pub word_lies : (n : ℕ) → Lies (Word n) 16
word_lies n = number_lies (unsigned 16) Whole n

pub udp_lies : (h : Udp) → Lies (OfUdp h) 64
udp_lies h = turns_lie {m = 16} {n = 48} (word_lies h.source) (turns_lie {m = 16} {n = 32} (word_lies h.destination) (turns_lie {m = 16} {n = 16} (word_lies h.length) (word_lies h.checksum)))

module _ {W : Udp → Meaning Output (Unit {0})} {R : Meaning (Option Stream) Udp} (to : ToBytesLaw OfUdp W) (from : FromBytesLaw OfUdp SameUdp R) (long : LengthLaw) (h : Udp) (fits : IsOfType h) where
  pub udp_written : (r : Result (Vec ℕ) DekuError) → WritesOnce (Both (W h) Finalizes) r → MatchResult r (λ v. v.items ≡ laid_out (udp_has h fits).0) (λ e. e ≡ Io OutOfMemory)
  udp_written r w =
      let k = udp_has h fits in
      let l = udp_lies h k.0 k.1 in
      to h r w k.0 k.1 (in_step l) (few long k.0 64 (in_step l) l.wide (omega arith))

  pub udp_read : (v : Vec ℕ) → v.items ≡ laid_out (udp_has h fits).0 → (bytes : List ℕ) → bytes ≡ v.items → (r : Result ((Bor (List ℕ) × ℕ) × Udp) DekuError)
      → ReadsBytesOnce (Behind 0 R) bytes r → MatchResult r (λ p. p.1 ≡ h) (λ e. e ≡ Io OutOfMemory)
  udp_read v laid bytes is r w =
      let k = udp_has h fits in
      let l = udp_lies h k.0 k.1 in
      let wide : breadth k.0 ≡ 64 = l.wide in
      go _ r (from bytes r w h k.0 [] k.1 (in_step l) (is ∙ laid ∙ sym (append-nil (laid_out k.0))) (omega (arith, wide)))
    where
      go : (P : (Bor (List ℕ) × ℕ) × Udp → Type 0) (r : Result ((Bor (List ℕ) × ℕ) × Udp) DekuError) → MatchResult r (λ p. P p × SameUdp h p.1) (λ e. e ≡ Io OutOfMemory)
          → MatchResult r (λ p. p.1 ≡ h) (λ e. e ≡ Io OutOfMemory)
      go P (Ok p) m = is_same h p.1 m.1
      go P (Err e) m = m

-- a header that was read from bytes is written as the first eight of them
pub udp_rewritten : {W : Udp → Meaning Output (Unit {0})} {R : Meaning (Option Stream) Udp} → ToBytesLaw OfUdp W → FoundLaw OfUdp R → WholeBytesLaw → LengthLaw
    → (bytes : List ℕ) → All (λ b. b < 256) bytes → (p : (Bor (List ℕ) × ℕ) × Udp) → ReadsBytesOnce (Behind 0 R) bytes (Ok p)
    → (r : Result (Vec ℕ) DekuError) → WritesOnce (Both (W p.1) Finalizes) r → IfOk r (λ v. (8 ≤ length bytes) × (v.items ≡ take 8 bytes))
udp_rewritten to found whole long bytes all p w r written =
    let was = (found bytes (Ok p) w).1 in
    let l = udp_lies p.1 was.taken was.has in
    let wide : breadth was.taken ≡ 64 = l.wide in
    let laid : laid_out was.taken ≡ take 8 bytes = whole was.taken bytes was.rest 8 (in_step l) all was.takes (omega (arith, wide)) in
    let eight : length (laid_out was.taken) ≡ 8 = long was.taken (in_step l) ∙ ap (λ n. (n + 7) / 8) wide in
    let front : length (take 8 bytes) ≡ 8 = ap length (sym laid) ∙ eight in
    go _ _ (omega (arith, front, length-take 8 bytes)) r (to p.1 r written was.taken was.has (in_step l) (few long was.taken 64 (in_step l) l.wide (omega arith))) laid
  where
    go : (bytes out : List ℕ) → 8 ≤ length bytes → (r : Result (Vec ℕ) DekuError) → MatchResult r (λ v. v.items ≡ out) (λ e. e ≡ Io OutOfMemory) → out ≡ take 8 bytes
        → IfOk r (λ v. (8 ≤ length bytes) × (v.items ≡ take 8 bytes))
    go bytes out there (Ok v) m e = (there, m ∙ e)
    go bytes out there (Err x) m e = tt

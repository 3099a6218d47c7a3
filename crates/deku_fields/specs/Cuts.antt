-- A list that is written or read in several calls, cut between any two items, even inside a byte.
use Rattle.std.specs.Prelude.{◌↔◌, ℕ, zero, suc, Bool, false, List, [], ◌∷◌, ◌++◌, flat_map, Option, Some, Result, Ok, Err}
use Rattle.deku_bits.specs.declared.error.DekuError.{DekuError}
use Rattle.deku_bits.specs.Streams.{Stream}
use Rattle.deku_bits.specs.Devices.{Health}
use Rattle.deku_bits.specs.Standings.{Standing, Going, Output}
use Rattle.deku_bits.specs.Outcomes.{Meaning, Outcome, Mapped}
use Rattle.deku_bits.specs.ReaderCalls.{Ending}
use Rattle.deku.specs.Composing.{Answer, Then, Both}
use Rattle.deku_fields.specs.declared.list.Number.{Number}
use Rattle.deku_fields.specs.declared.list.Field.{Field}
use Rattle.deku_fields.specs.declared.list.Item.{Item}
use Rattle.deku_fields.specs.ListCalls.{ReadsFields, WritesItems}

-- ---- writing
-- Two lists of items, written one after the other, are written as one list of both.
abbrev pub WriteCutLaw : Type 0
WriteCutLaw = (xs ys : List Item) (b : Bool) (s : Standing Output) (r : Result (Unit {0}) DekuError) (u : Standing Output)
    → WritesItems (xs ++ ys) b s r u ↔ Both (WritesItems xs) (WritesItems ys) b s r u

-- A call that writes items, and then one that writes others, are a call that writes all. An error
-- of the first is an error of that call.
pub record WriteCallsLaw : Type 0 where
  pub both : (xs ys : List Item) (s t u : Standing Output) (f g h : Health) (r : Result (Unit {0}) DekuError)
      → Outcome (WritesItems xs) s f (Ok tt) t g → Outcome (WritesItems ys) t g r u h → Outcome (WritesItems (xs ++ ys)) s f r u h
  pub refused : (xs ys : List Item) (s t : Standing Output) (f g : Health) (e : DekuError)
      → Outcome (WritesItems xs) s f (Err e) t g → Outcome (WritesItems (xs ++ ys)) s f (Err e) t g

-- Lists of items, written one after the other in as many calls.
abbrev pub WritesParts : List (List Item) → Meaning Output (Unit {0})
WritesParts [] = Answer tt
WritesParts (xs ∷ parts) = Both (WritesItems xs) (WritesParts parts)

-- Any number of calls that write one after the other are one call that writes all items.
abbrev pub WritePartsLaw : Type 0
WritePartsLaw = (parts : List (List Item)) (b : Bool) (s : Standing Output) (r : Result (Unit {0}) DekuError) (u : Standing Output)
    → WritesParts parts b s r u ↔ WritesItems (flat_map (λ xs. xs) parts) b s r u

-- ---- reading
-- Values, and those of a later call.
abbrev pub joined : List Number → Result (List Number) DekuError → Result (List Number) DekuError
joined ns (Ok ms) = Ok (ns ++ ms)
joined ns (Err e) = Err e

-- Two lists of fields, read one after the other, are read as one list of both, with their values
-- joined.
abbrev pub ReadCutLaw : Type 0
ReadCutLaw = (fs gs : List Field) (b : Bool) (s : Standing (Option Stream)) (r : Result (List Number) DekuError) (u : Standing (Option Stream))
    → ReadsFields (fs ++ gs) b s r u ↔ Then (ReadsFields fs) (λ ns. Mapped (λ ms. ns ++ ms) (ReadsFields gs)) b s r u

-- A call that reads fields, and then one that reads others, are a call that reads all. An error of
-- the first is an error of that call.
pub record ReadCallsLaw : Type 0 where
  pub both : (fs gs : List Field) (s t u : Standing (Option Stream)) (f g h : Health) (ns : List Number) (r : Result (List Number) DekuError)
      → Outcome (ReadsFields fs) s f (Ok ns) t g → Outcome (ReadsFields gs) t g r u h → Outcome (ReadsFields (fs ++ gs)) s f (joined ns r) u h
  pub refused : (fs gs : List Field) (s t : Standing (Option Stream)) (f g : Health) (e : DekuError)
      → Outcome (ReadsFields fs) s f (Err e) t g → Outcome (ReadsFields (fs ++ gs)) s f (Err e) t g

-- If the next bytes are known, a check whether the end of the input is reached changes no read of
-- fields after it.
abbrev pub LookLaw : Type 0
LookLaw = (gs : List Field) (S : Stream) (c : ℕ) (t u : Standing (Option Stream)) (f g h : Health) (at_end : Bool) (r : Result (List Number) DekuError)
    → Outcome Ending (Going (Some S) c) f (Ok at_end) t g → Outcome (ReadsFields gs) t g r u h → Outcome (ReadsFields gs) (Going (Some S) c) f r u h

-- This many checks whether the end of the input is reached, and then m.
abbrev pub Looking : {V : Type 0} → ℕ → Meaning (Option Stream) V → Meaning (Option Stream) V
Looking zero m = m
Looking (suc n) m = Then Ending (λ _. Looking n m)

-- Lists of fields, read one after the other in as many calls, each after this many checks, with
-- their values joined.
abbrev pub ReadsParts : List (ℕ × List Field) → Meaning (Option Stream) (List Number)
ReadsParts [] = Answer []
ReadsParts (p ∷ parts) = Then (Looking p.0 (ReadsFields p.1)) (λ ns. Mapped (λ ms. ns ++ ms) (ReadsParts parts))

-- If the next bytes are known and no device fails, any number of calls that read one after the
-- other, with checks between them, are one call that reads all fields.
abbrev pub ReadPartsLaw : Type 0
ReadPartsLaw = (parts : List (ℕ × List Field)) (S : Stream) (c : ℕ) (r : Result (List Number) DekuError) (u : Standing (Option Stream))
    → ReadsParts parts false (Going (Some S) c) r u → ReadsFields (flat_map (λ p. p.1) parts) false (Going (Some S) c) r u

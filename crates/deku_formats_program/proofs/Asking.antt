-- What the words ask for.
use Rattle.std.proofs.Common.{ℕ, ◌⊎◌, List, Option, Result, Ok, Err, IfSome, inl, inr}
use Rattle.std.specs.Prelude.{IfErr}
use Rattle.std.specs.Result.{IsErrAnd}
use Rattle.deku_program.specs.Hexadecimal.{IsHexText}
use Rattle.deku_formats_program.specs.declared.words.Format.{Format}
use Rattle.deku_formats_program.specs.declared.program.Failure.{Failure}
use Rattle.deku_formats_program.specs.declared.words.Asked.{Asked}
use Rattle.deku_formats_program.specs.declared.words.Asked.TheVariants.{Names, Help, Record}
use Rattle.deku_formats_program.specs.Forms.{AskFor}
use Rattle.deku_formats_program.specs.Refusals.{Stopping}
use Rattle.deku_formats_program.specs.Runs.{IsRecord, AsksForRecord, TextStops}

-- where a record is asked for, the words ask for it
pub record_asked : {S : Type 0} (words : List (List ℕ)) (a : Asked) → AskFor words a → IsRecord a ⊎ S → AsksForRecord words ⊎ S
record_asked words Names asked (inl h) = absurd h
record_asked words Help asked (inl h) = absurd h
record_asked words (Record f) asked (inl h) = inl (f, asked)
record_asked words a asked (inr same) = inr same

-- what prevents the record of the bytes that the input shows prevents its text
pub record_stops : {T : Type 0} (stops : Format → Stopping) (format : Format) (input : Option (List ℕ)) (bytes : List ℕ) (r : Result T Failure) → IfSome input (λ shown. IsHexText shown bytes) → IfErr r (stops format bytes)
    → IfErr r (TextStops stops (Record format) input)
record_stops stops format input bytes (Ok t) given h = h
record_stops stops format input bytes (Err e) given h = inr (bytes, given, h)

-- an error that is so is so otherwise
pub err_so : {T E : Type 0} (r : Result T E) (P Q : E → Type 0) → IsErrAnd r P → ((e : E) → P e → Q e) → IfErr r Q
err_so (Ok t) P Q h so = absurd h
err_so (Err e) P Q h so = so e h

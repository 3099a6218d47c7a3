-- What a run of the program does: the words that it is given, the text that it reads and the text
-- that it writes.
use Rattle.std.specs.Prelude.{◌≡◌, ◌≢◌, ◌⊎◌, ℕ, List, [], ◌∷◌, flat_map, Option, IfSome, codes, decimal, ⊤, ◌++◌}
use Rattle.std.specs.Io.KnownBytes.{Appends}
use Rattle.std.specs.declared.io.ErrorKind.{ErrorKind}
use Rattle.std.specs.declared.io.ErrorKind.TheVariants.{Interrupted, OutOfMemory}
use Rattle.deku_bits.specs.declared.error.DekuError.TheVariants.{Io}
use Rattle.deku_program.specs.Texts.{line}
use Rattle.deku_program.specs.Hexadecimal.{IsHexText, IsNoHexText}
use Rattle.deku_program.specs.Outputs.{IsBegun, IsCutShort}
use Rattle.deku_program.specs.Told.{fault_line}
use Rattle.deku_formats_program.specs.declared.words.Format.{Format}
use Rattle.deku_formats_program.specs.declared.words.Asked.{Asked}
use Rattle.deku_formats_program.specs.declared.words.Asked.TheVariants.{Names, Help, Record}
use Rattle.deku_formats_program.specs.declared.program.Failure.{Failure}
use Rattle.deku_formats_program.specs.declared.program.Failure.TheVariants.{Usage, BadText, Fault, Refused}
use Rattle.deku_formats_program.specs.Forms.{AskFor, AreNoForm}
use Rattle.deku_formats_program.specs.Shown.{Telling}
use Rattle.deku_formats_program.specs.Refusals.{Stopping}

-- The names of the formats.
abbrev pub names : List (List ℕ)
names = codes "can" ∷ codes "ccsds" ∷ codes "dns" ∷ codes "elf" ∷ codes "ipv4" ∷ codes "png" ∷ codes "riscv" ∷ codes "udp" ∷ []

-- The lines of the help.
abbrev pub help : List (List ℕ)
help = codes "formats         prints the names of the formats"
    ∷ codes "formats NAME    reads hexadecimal text, prints the fields of the record that it begins with,"
    ∷ codes "                writes them back, and says whether that is what was read"
    ∷ codes "formats --help  prints this" ∷ []

-- The input shows bytes in hexadecimal, if it is known, and the text describes the record at their
-- start.
pub record TellsInput (tells : Telling) (input : Option (List ℕ)) (text : List ℕ) : Type 0 where
  pub bytes : List ℕ
  pub given : IfSome input (λ shown. IsHexText shown bytes)
  pub told : tells bytes text

-- The text is what is asked for, made of what is printed of each format's records.
abbrev pub IsShown : (Format → Telling) → Asked → Option (List ℕ) → List ℕ → Type 0
IsShown tells Names input text = text ≡ flat_map line names
IsShown tells Help input text = text ≡ flat_map line help
IsShown tells (Record format) input text = TellsInput (tells format) input text

-- The words ask for this text.
abbrev pub Asks : (Format → Telling) → List (List ℕ) → Option (List ℕ) → List ℕ → Type 0
Asks tells words input text = (asked : Asked) × AskFor words asked × IsShown tells asked input text

-- The words ask for a text, and it was written to the output.
pub record IsDone (tells : Format → Telling) (words : List (List ℕ)) (input before after : Option (List ℕ)) : Type 0 where
  pub text : List ℕ
  pub asked : Asks tells words input text
  pub given : Appends before after text

-- The text that the words ask for was known, and was not written to the output to its end.
pub record IsUnfinished (tells : Format → Telling) (words : List (List ℕ)) (input before after : Option (List ℕ)) : Type 0 where
  pub text : List ℕ
  pub asked : Asks tells words input text
  pub cut : IsCutShort before after text

-- A record is asked for.
abbrev pub IsRecord : Asked → Type 0
IsRecord Names = ⊥
IsRecord Help = ⊥
IsRecord (Record format) = ⊤

-- The words ask for a record.
abbrev pub AsksForRecord : List (List ℕ) → Type 0
AsksForRecord words = (f : Format) × AskFor words (Record f)

-- The input, if it is known, shows no bytes; or it or the memory failed.
abbrev pub InputStops : Option (List ℕ) → Failure → Type 0
InputStops input e = ((e ≡ BadText) × IfSome input IsNoHexText) ⊎ ((kind : ErrorKind) × (e ≡ Fault (Io kind)))

-- The input shows bytes, if it is known, and this prevents the record at their start from being
-- shown.
abbrev pub RecordStops : Stopping → Option (List ℕ) → Failure → Type 0
RecordStops stops input e = (bytes : List ℕ) × IfSome input (λ shown. IsHexText shown bytes) × stops bytes e

-- What prevents a text: the memory; and for a record the input, or what prevents that format's
-- records.
abbrev pub TextStops : (Format → Stopping) → Asked → Option (List ℕ) → Failure → Type 0
TextStops stops Names input e = e ≡ Fault (Io OutOfMemory)
TextStops stops Help input e = e ≡ Fault (Io OutOfMemory)
TextStops stops (Record format) input e = InputStops input e ⊎ RecordStops (stops format) input e

-- What prevents what the words ask for: that they are of no form, or an error later.
abbrev pub Stops : (Format → Stopping) → List (List ℕ) → Option (List ℕ) → Failure → Type 0
Stops stops words input e = ((e ≡ Usage) × AreNoForm words) ⊎ ((asked : Asked) × AskFor words asked × TextStops stops asked input e)

-- The output failed, and was not only interrupted: it was not given the text that the words ask for
-- to its end.
abbrev pub OutputStops : (Format → Telling) → List (List ℕ) → Option (List ℕ) → Option (List ℕ) → Option (List ℕ) → Failure → Type 0
OutputStops tells words input before after e = (kind : ErrorKind) × (kind ≢ Interrupted) × (e ≡ Fault (Io kind)) × IsUnfinished tells words input before after

-- The run is prevented before the output is given any text, or the output fails.
abbrev pub RunEnds : (Format → Telling) → (Format → Stopping) → List (List ℕ) → Option (List ℕ) → Option (List ℕ) → Option (List ℕ) → Failure → Type 0
RunEnds tells stops words input before after e = (Stops stops words input e × (after ≡ before)) ⊎ OutputStops tells words input before after e

-- The status of a run that ends with this failure: 2 if the words are of no form, and otherwise 1.
abbrev pub status_of : Failure → ℕ
status_of Usage = 2
status_of BadText = 1
status_of (Fault fault) = 1
status_of (Refused fault field bit) = 1

-- The line that is printed for a failure.
abbrev pub message : Failure → List ℕ
message Usage = line (codes "usage: formats [NAME]")
message BadText = line (codes "error: bad hexadecimal text")
message (Fault fault) = fault_line fault []
message (Refused fault field bit) = fault_line fault (codes ", in " ++ (field.now ++ (codes ", at bit " ++ decimal bit)))

-- A run ends with 1 for this failure, which fits what its output held before and after it. What
-- `errors` took is a beginning of the line of that failure.
pub record IsStopped (tells : Format → Telling) (stops : Format → Stopping) (words : List (List ℕ)) (input out_before out_after errors_before errors_after : Option (List ℕ)) : Type 0 where
  pub failure : Failure
  pub ends : RunEnds tells stops words input out_before out_after failure
  pub one : status_of failure ≡ 1
  pub told : IsBegun errors_before errors_after (message failure)

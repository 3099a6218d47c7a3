-- What a run of the program does: the words that it is given, the text that it reads and the text
-- that it writes.
use Rattle.std.specs.Prelude.{◌≡◌, ◌≢◌, ◌⊎◌, ℕ, List, [], ◌∷◌, ◌++◌, flat_map, Ok, Err, Option, IfSome, decimal, codes, ⊤}
use Rattle.std.specs.Fmt.{signed_decimal}
use Rattle.std.specs.List.{AllZip}
use Rattle.std.specs.Global.{Vec}
use Rattle.std.specs.Io.KnownBytes.{Appends}
use Rattle.std.specs.declared.io.ErrorKind.{ErrorKind}
use Rattle.std.specs.declared.io.ErrorKind.TheVariants.{Interrupted, OutOfMemory}
use Rattle.hex.specs.Hex.{encode_lower}
use Rattle.deku_bits.specs.declared.error.DekuError.{DekuError}
use Rattle.deku_bits.specs.declared.error.DekuError.TheVariants.{Io}
use Rattle.deku_bits.specs.WriterCalls.{Finalizes}
use Rattle.deku.specs.Composing.{Both}
use Rattle.deku_fields.specs.declared.program.Failure.{Failure}
use Rattle.deku_fields.specs.declared.program.Failure.TheVariants.{Usage, BadText, Fault}
use Rattle.deku_fields.specs.declared.list.Field.{Field}
use Rattle.deku_fields.specs.declared.list.Item.{Item}
use Rattle.deku_fields.specs.declared.list.Number.{Number}
use Rattle.deku_fields.specs.declared.list.Number.TheVariants.{Unsigned, Signed}
use Rattle.deku_fields.specs.ListCalls.{ListFrom, WritesItems, WritesWhole}
use Rattle.deku_fields.specs.Naming.{NamesField, NamesItem}
use Rattle.deku_fields.specs.Promise.{LaidOut, ReadsBackFrom}
use Rattle.deku_program.specs.Texts.{line}
use Rattle.deku_program.specs.Hexadecimal.{IsHexText, IsNoHexText}
use Rattle.deku_program.specs.Outputs.{IsBegun, IsCutShort}
use Rattle.deku_program.specs.Told.{fault_line}

-- The words name items, and the text is a line of the bytes that these are written as, in
-- hexadecimal.
pub record ShowsWritten (words : List (List ℕ)) (text : List ℕ) : Type 0 where
  pub items : List Item
  pub named : AllZip NamesItem words items
  pub bytes : Vec ℕ
  pub written : WritesWhole (Both (WritesItems items) Finalizes) (Ok bytes)
  pub laid_out : LaidOut items (Ok bytes)
  pub shown : text ≡ line (encode_lower bytes.items)

-- A number in decimal digits.
abbrev pub number_text : Number → List ℕ
number_text (Unsigned n) = decimal n
number_text (Signed z) = signed_decimal z

-- The words name fields, which are read from the bytes that the input shows, if it is known. The
-- text has the values, one line each, and then how many bits were read.
pub record ShowsRead (words : List (List ℕ)) (input : Option (List ℕ)) (text : List ℕ) : Type 0 where
  pub fields : List Field
  pub named : AllZip NamesField words fields
  pub bytes : List ℕ
  pub given : IfSome input (λ shown. IsHexText shown bytes)
  pub bits : ℕ
  pub values : Vec Number
  pub read : ListFrom fields bytes (Ok (bits, values))
  pub back : ReadsBackFrom fields bytes (Ok (bits, values))
  pub shown : text ≡ flat_map (λ n. line (number_text n)) values.items ++ line (codes "bits " ++ decimal bits)

-- The words ask for this text: `write` and items, or `read` and fields.
abbrev pub Asks : List (List ℕ) → Option (List ℕ) → List ℕ → Type 0
Asks [] input text = ⊥
Asks (name ∷ words) input text = ((name ≡ codes "write") × ShowsWritten words text) ⊎ ((name ≡ codes "read") × ShowsRead words input text)

-- The text that the words ask for was written to the output.
pub record IsDone (words : List (List ℕ)) (input before after : Option (List ℕ)) : Type 0 where
  pub text : List ℕ
  pub asked : Asks words input text
  pub given : Appends before after text

-- The text that the words ask for was known, and was not written to the output to its end.
pub record IsUnfinished (words : List (List ℕ)) (input before after : Option (List ℕ)) : Type 0 where
  pub text : List ℕ
  pub asked : Asks words input text
  pub cut : IsCutShort before after text

-- The first word is `read`.
abbrev pub AsksToRead : List (List ℕ) → Type 0
AsksToRead [] = ⊥
AsksToRead (name ∷ words) = name ≡ codes "read"

-- The words name items, one each.
abbrev pub AreItems : List (List ℕ) → Type 0
AreItems words = (items : List Item) × AllZip NamesItem words items

-- The words name fields, one each.
abbrev pub AreFields : List (List ℕ) → Type 0
AreFields words = (fields : List Field) × AllZip NamesField words fields

-- The words are `write` and items, or `read` and fields.
abbrev pub AreForm : List (List ℕ) → Type 0
AreForm [] = ⊥
AreForm (name ∷ words) = ((name ≡ codes "write") × AreItems words) ⊎ ((name ≡ codes "read") × AreFields words)

-- The words are neither `write` and items nor `read` and fields.
abbrev pub AreNoForm : List (List ℕ) → Type 0
AreNoForm [] = ⊤
AreNoForm (name ∷ words) = (name ≡ codes "write" → (items : List Item) → AllZip NamesItem words items → ⊥)
    × (name ≡ codes "read" → (fields : List Field) → AllZip NamesField words fields → ⊥)

-- ---- how a run ends that does not succeed
-- The words name these items, which fail with this error.
pub record ItemsRefused (words : List (List ℕ)) (e : Failure) : Type 0 where
  pub items : List Item
  pub named : AllZip NamesItem words items
  pub fault : DekuError
  pub refused : WritesWhole (Both (WritesItems items) Finalizes) (Err fault)
  pub is : e ≡ Fault fault

-- The words name no items, there is no memory, or the items fail.
abbrev pub WritingStops : List (List ℕ) → Failure → Type 0
WritingStops words e = ((e ≡ Usage) × ((items : List Item) → AllZip NamesItem words items → ⊥)) ⊎ (e ≡ Fault (Io OutOfMemory)) ⊎ ItemsRefused words e

-- The input, if it is known, shows no bytes; or it or the memory failed.
abbrev pub InputStops : Option (List ℕ) → Failure → Type 0
InputStops input e = ((e ≡ BadText) × IfSome input IsNoHexText) ⊎ ((kind : ErrorKind) × (e ≡ Fault (Io kind)))

-- The fields fail with this error, read from the bytes that the input shows, if it is known.
pub record FieldsRefused (fields : List Field) (input : Option (List ℕ)) (e : Failure) : Type 0 where
  pub bytes : List ℕ
  pub given : IfSome input (λ shown. IsHexText shown bytes)
  pub fault : DekuError
  pub refused : ListFrom fields bytes (Err fault)
  pub is : e ≡ Fault fault

-- The words name fields, and then the input or the fields fail.
pub record FieldsStop (words : List (List ℕ)) (input : Option (List ℕ)) (e : Failure) : Type 0 where
  pub fields : List Field
  pub named : AllZip NamesField words fields
  pub stop : InputStops input e ⊎ FieldsRefused fields input e

-- The words name no fields, there is no memory, or the input or the fields fail.
abbrev pub ReadingStops : List (List ℕ) → Option (List ℕ) → Failure → Type 0
ReadingStops words input e = ((e ≡ Usage) × ((fields : List Field) → AllZip NamesField words fields → ⊥)) ⊎ (e ≡ Fault (Io OutOfMemory)) ⊎ FieldsStop words input e

-- What prevents what the words ask for: that they are of no form, or an error later.
abbrev pub Stops : List (List ℕ) → Option (List ℕ) → Failure → Type 0
Stops words input e = ((e ≡ Usage) × AreNoForm words)
    ⊎ ((names : List (List ℕ)) × (words ≡ codes "write" ∷ names) × WritingStops names e)
    ⊎ ((names : List (List ℕ)) × (words ≡ codes "read" ∷ names) × ReadingStops names input e)

-- The output failed, and was not only interrupted: it was not given the text that the words ask for
-- to its end.
abbrev pub OutputStops : List (List ℕ) → Option (List ℕ) → Option (List ℕ) → Option (List ℕ) → Failure → Type 0
OutputStops words input before after e = (kind : ErrorKind) × (kind ≢ Interrupted) × (e ≡ Fault (Io kind)) × IsUnfinished words input before after

-- The run is prevented before the output is given any text, or the output fails.
abbrev pub RunEnds : List (List ℕ) → Option (List ℕ) → Option (List ℕ) → Option (List ℕ) → Failure → Type 0
RunEnds words input before after e = (Stops words input e × (after ≡ before)) ⊎ OutputStops words input before after e

-- The status of a run that ends with this failure: 2 if the words are of no form, and otherwise 1.
abbrev pub status_of : Failure → ℕ
status_of Usage = 2
status_of BadText = 1
status_of (Fault fault) = 1

-- The line that is printed for a failure.
abbrev pub message : Failure → List ℕ
message Usage = line (codes "usage: fields read|write SPEC..")
message BadText = line (codes "error: bad hexadecimal text")
message (Fault fault) = fault_line fault []

-- A run ends with 1 for this failure, which fits what its output held before and after it. What
-- `errors` took is a beginning of the line of that failure.
pub record IsStopped (words : List (List ℕ)) (input out_before out_after errors_before errors_after : Option (List ℕ)) : Type 0 where
  pub failure : Failure
  pub ends : RunEnds words input out_before out_after failure
  pub one : status_of failure ≡ 1
  pub told : IsBegun errors_before errors_after (message failure)

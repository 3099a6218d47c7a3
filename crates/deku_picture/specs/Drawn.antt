-- What a run of the program does: the words that it is given, and what it draws of them.
use Rattle.std.specs.Prelude.{◌≡◌, ◌≢◌, ◌⊎◌, ℕ, ◌<◌, List, [], ◌∷◌, ◌++◌, length, Ok, Err, Option, IfSome, codes, ⊤}
use Rattle.std.specs.Fmt.{debug_str}
use Rattle.std.specs.Global.{Vec}
use Rattle.std.specs.Io.KnownBytes.{Appends}
use Rattle.std.specs.declared.io.ErrorKind.{ErrorKind}
use Rattle.std.specs.declared.io.ErrorKind.TheVariants.{Interrupted, OutOfMemory}
use Rattle.hex.specs.Hex.{decode_of}
use Rattle.hex.specs.declared.error.FromHexError.{FromHexError}
use Rattle.deku_bits.specs.declared.error.DekuError.{DekuError}
use Rattle.deku_bits.specs.declared.error.DekuError.TheVariants.{Io}
use Rattle.deku_fields.specs.declared.list.Field.{Field}
use Rattle.deku_fields.specs.declared.list.Number.{Number}
use Rattle.deku_fields.specs.ListCalls.{ListFrom}
use Rattle.deku_fields.specs.Places.{AreDrawable, IsUndrawable}
use Rattle.deku_program.specs.Texts.{line}
use Rattle.deku_program.specs.Outputs.{IsBegun, IsCutShort}
use Rattle.deku_program.specs.Told.{fault_line}
use Rattle.deku_picture.specs.declared.program.Failure.{Failure}
use Rattle.deku_picture.specs.declared.program.Failure.TheVariants.{Usage, NoField, BadText, Fault}
use Rattle.deku_picture.specs.declared.program.Form.{Form}
use Rattle.deku_picture.specs.declared.program.Form.TheVariants.{Table, Svg, Bytes}
use Rattle.deku_picture.specs.Names.{HasSpecs, AreNamed, NameFields, HasUnnamed, HaveNoSpecs}

-- The words ask for the bits of the bytes that this text gives.
abbrev pub AsksForBytes : List (List ℕ) → List ℕ → Type 0
AsksForBytes words text = (specs : List (List ℕ)) × (words ≡ codes "--bytes" ∷ text ∷ specs)

-- The first of the words is this one.
abbrev pub BeginsWith : List ℕ → List (List ℕ) → Type 0
BeginsWith first words = (rest : List (List ℕ)) × (words ≡ first ∷ rest)

-- What is drawn is what the words ask for: after `--bytes` the bits of these bytes, after `--svg`
-- an SVG, and else a table.
abbrev pub IsForm : List (List ℕ) → Form → Type 0
IsForm words Table = (BeginsWith (codes "--svg") words → ⊥) × (BeginsWith (codes "--bytes") words → ⊥)
IsForm words Svg = BeginsWith (codes "--svg") words
IsForm words (Bytes text) = AsksForBytes words text.now

-- What is drawn, and the words of the fields. There is at least one of them, and each names a
-- field.
pub record IsSplit (words specs : List (List ℕ)) (form : Form) : Type 0 where
  pub asked : IsForm words form
  pub behind : HasSpecs words specs
  pub some : 0 < length specs
  pub named : NameFields specs

-- The text gives these bytes in hexadecimal, and the fields read these values from them.
pub record IsSample (fields : List Field) (text bytes : List ℕ) (values : Vec Number) : Type 0 where
  pub decoded : decode_of text ≡ Ok bytes
  pub bits : ℕ
  pub read : ListFrom fields bytes (Ok (bits, values))

-- The text gives bytes from which the fields read values.
abbrev pub HasValues : List Field → List ℕ → Type 0
HasValues fields text = (bytes : List ℕ) × (values : Vec Number) × IsSample fields text bytes values

-- The fields have values in the bytes to be drawn, if there are some.
abbrev pub HasShown : Form → List Field → Type 0
HasShown (Bytes text) fields = HasValues fields text.now
HasShown form fields = ⊤

-- The words name fields that have a picture. If they give bytes too, the fields read values from
-- these.
pub record AreDrawn (words : List (List ℕ)) : Type 0 where
  pub fields : List Field
  pub named : AreNamed words fields
  pub drawable : AreDrawable fields
  pub shown : (text : List ℕ) → AsksForBytes words text → HasValues fields text

-- The text begins as an SVG does.
abbrev pub IsSvg : List ℕ → Type 0
IsSvg text = (rest : List ℕ) × (text ≡ codes "<svg " ++ rest)

-- The text is an SVG if the words ask for one.
abbrev pub IsOfForm : List (List ℕ) → List ℕ → Type 0
IsOfForm words text = BeginsWith (codes "--svg") words → IsSvg text

-- The words are drawn, and their picture was written to the output.
pub record IsDone (words : List (List ℕ)) (before after : Option (List ℕ)) : Type 0 where
  pub drawn : AreDrawn words
  pub text : List ℕ
  pub form : IsOfForm words text
  pub given : Appends before after text

-- The words are drawn, and their picture was not written to the output to its end.
pub record IsUnfinished (words : List (List ℕ)) (before after : Option (List ℕ)) : Type 0 where
  pub drawn : AreDrawn words
  pub text : List ℕ
  pub form : IsOfForm words text
  pub cut : IsCutShort before after text

-- ---- failures
-- The fields have no picture, for this reason.
pub record HaveNoPicture (words : List (List ℕ)) (e : Failure) : Type 0 where
  pub fields : List Field
  pub named : AreNamed words fields
  pub fault : DekuError
  pub refused : IsUndrawable fields fault
  pub is : e ≡ Fault fault

-- The fields fail with this error, read from the bytes that the text gives.
pub record AreRefused (fields : List Field) (text : List ℕ) (e : Failure) : Type 0 where
  pub bytes : List ℕ
  pub decoded : decode_of text ≡ Ok bytes
  pub fault : DekuError
  pub refused : ListFrom fields bytes (Err fault)
  pub is : e ≡ Fault fault

-- The text is not hexadecimal, the fields fail, or there is no memory.
abbrev pub HasNoValues : List Field → List ℕ → Failure → Type 0
HasNoValues fields text e = ((e ≡ BadText) × (error : FromHexError) × (decode_of text ≡ Err error)) ⊎ AreRefused fields text e ⊎ (e ≡ Fault (Io OutOfMemory))

-- The fields have no values in the bytes to be drawn.
abbrev pub HasNotShown : Form → List Field → Failure → Type 0
HasNotShown (Bytes text) fields e = HasNoValues fields text.now e
HasNotShown form fields e = ⊥

-- The words ask for the bits of bytes, and the fields have no values in them.
pub record BytesStop (words : List (List ℕ)) (e : Failure) : Type 0 where
  pub fields : List Field
  pub named : AreNamed words fields
  pub text : List ℕ
  pub asked : AsksForBytes words text
  pub stop : HasNoValues fields text e

-- What a run ends with 1 for, except for the output: the fields, the bytes or the memory.
abbrev pub Stops : List (List ℕ) → Failure → Type 0
Stops words e = HaveNoPicture words e ⊎ BytesStop words e ⊎ (e ≡ Fault (Io OutOfMemory))

-- What ends a run before the output: with 2, since there are no words of fields or one of them
-- names no field, or with 1. A word that is printed is the first of these that names no field.
abbrev pub IsFailure : List (List ℕ) → Failure → Type 0
IsFailure words Usage = HaveNoSpecs words
IsFailure words (NoField word) = HasUnnamed words word.now
IsFailure words e = Stops words e

-- The output failed, and was not only interrupted: it was not given the picture to
-- its end.
abbrev pub OutputStops : List (List ℕ) → Option (List ℕ) → Option (List ℕ) → Failure → Type 0
OutputStops words before after e = (kind : ErrorKind) × (kind ≢ Interrupted) × (e ≡ Fault (Io kind)) × IsUnfinished words before after

-- The run is prevented before the output is given any text, or the output fails.
abbrev pub RunEnds : List (List ℕ) → Option (List ℕ) → Option (List ℕ) → Failure → Type 0
RunEnds words before after e = (IsFailure words e × (after ≡ before)) ⊎ OutputStops words before after e

-- The status of a run that ends with this failure: 2 if the words are of no form, and otherwise 1.
abbrev pub status_of : Failure → ℕ
status_of Usage = 2
status_of (NoField word) = 2
status_of BadText = 1
status_of (Fault fault) = 1

-- The usage.
abbrev pub usage : List ℕ
usage = codes "usage: layout [--svg|--bytes HEX] [NAME:]SPEC.."

-- The text is the usage and a word, as `{:?}` shows it. How that shows words that are not ASCII is
-- unspecified.
abbrev pub ShowsWord : List ℕ → List ℕ → Type 0
ShowsWord word text = (shown : List ℕ) × IfSome (debug_str word) (λ escaped. shown ≡ escaped)
    × (text ≡ line (usage ++ (codes ", and " ++ (shown ++ codes " is not a field"))))

-- The text is the usage and a word that names no field; or the usage only, if there is no memory to
-- show the word.
abbrev pub IsUsageOf : List ℕ → List ℕ → Type 0
IsUsageOf word text = (text ≡ line usage) ⊎ ShowsWord word text

-- What was written is a beginning of such a text.
abbrev pub TellsWord : List ℕ → Option (List ℕ) → Option (List ℕ) → Type 0
TellsWord word before after = (text : List ℕ) × IsUsageOf word text × IsBegun before after text

-- The text is the line that is printed for a failure.
abbrev pub IsMessage : Failure → List ℕ → Type 0
IsMessage Usage text = text ≡ line usage
IsMessage (NoField word) text = IsUsageOf word.now text
IsMessage BadText text = text ≡ line (codes "error: bad hexadecimal text")
IsMessage (Fault fault) text = text ≡ fault_line fault []

-- What was written is a beginning of such a line.
abbrev pub IsTold : Failure → Option (List ℕ) → Option (List ℕ) → Type 0
IsTold e before after = (text : List ℕ) × IsMessage e text × IsBegun before after text

-- The words are of no form, and what `errors` took is a beginning of the usage. The first of the
-- words of fields that names no field may follow the usage.
pub record IsUsageTold (words : List (List ℕ)) (before after : Option (List ℕ)) : Type 0 where
  pub failure : Failure
  pub fails : IsFailure words failure
  pub two : status_of failure ≡ 2
  pub told : IsTold failure before after

-- A run ends with 1 for this failure, which fits what its output held before and after it. What
-- `errors` took is a beginning of the line of that failure.
pub record IsStopped (words : List (List ℕ)) (out_before out_after errors_before errors_after : Option (List ℕ)) : Type 0 where
  pub failure : Failure
  pub ends : RunEnds words out_before out_after failure
  pub one : status_of failure ≡ 1
  pub told : IsTold failure errors_before errors_after

use Rattle.std.proofs.Common.{◌≡◌, ◌++◌, List, ℕ, Ok, Err, flat_map, rules, subst₂, codes, refl, inr}
use Rattle.std.specs.Prelude.{string_bytes, decimal}
use Rattle.deku_fields.specs.ListCalls.{ListFrom}
use Rattle.deku_fields.specs.Promise.{ReadsBackFrom}
use Rattle.deku_bits.specs.declared.error.DekuError.{DekuError}
use Rattle.deku_fields.specs.declared.program.Failure.TheVariants.{Fault}
use Rattle.deku_fields.specs.Runs.{number_text, FieldsRefused, ReadingStops}
use Rattle.deku_program.specs.Texts.{words_of, line}
use Rattle.deku_fields.proofs.program.read.Goals as goal

pub returns-clause-shown : goal.returns-clause-shown
returns-clause-shown g c =
    let fields = c.in_ok-fields.fields.items in
    let bytes : List ℕ = c.in-Some.bytes.items in
    let given = rw c.in-Some.is at c.in_ok-bytes.ensures.shown in
    let numbers = c.in_ok-bits.numbers in
    let shown : string_bytes c.writeln.new.self ≡ flat_map (λ n. line (number_text n)) numbers.items ++ line (codes "bits " ++ decimal c.in_ok-bits.bits) = search rules in
    let result = Ok (c.in_ok-bits.bits, numbers) in
    let from : ListFrom fields bytes result = subst₂ (λ bs fs. ListFrom fs bs result) c.as_slice.ensures.value c.as_slice-2.ensures.value c.in_ok-bits.ensures.meaning in
    let back : ReadsBackFrom fields bytes result = subst₂ (λ bs fs. ReadsBackFrom fs bs result) c.as_slice.ensures.value c.as_slice-2.ensures.value c.in_ok-bits.ensures.values in
    record {
      fields = fields;
      named = c.in_ok-fields.ensures.named;
      bytes = bytes;
      given = given;
      bits = c.in_ok-bits.bits;
      values = numbers;
      read = from;
      back = back;
      shown = shown;
    }

pub returns-in_err-bits-clause-stops : goal.returns-in_err-bits-clause-stops
returns-in_err-bits-clause-stops g c =
    let fields = c.in_ok-fields.fields.items in
    let bytes : List ℕ = c.in-Some.bytes.items in
    let given = rw c.in-Some.is at c.in_ok-bytes.ensures.shown in
    let fault : DekuError = c.in_err-bits.field-0.0 in
    let from : ListFrom fields bytes (Err fault) = subst₂ (λ bs fs. ListFrom fs bs (Err fault)) c.as_slice.ensures.value c.as_slice-2.ensures.value c.in_err-bits.ensures.meaning in
    let refused : FieldsRefused fields (g.R.Read.remaining c.args.input.now) (Fault fault) =
    record { bytes = bytes; given = given; fault = fault; refused = from; is = refl } in
    let stops : ReadingStops (words_of c.args.specs.now) (g.R.Read.remaining c.args.input.now) (Fault fault) =
    inr (inr (record { fields = fields; named = c.in_ok-fields.ensures.named; stop = inr refused })) in
    search (rules, stops)

use Rattle.std.proofs.Common.{rules, length, refl, sym, subst, inl, inr}
use Rattle.std.specs.Prelude.{string_bytes, min}
use Rattle.std.specs.Int.{div_ceil}
use Rattle.deku_bits.specs.declared.error.DekuError.{DekuError}
use Rattle.deku_formats_program.specs.declared.program.Failure.{Failure}
use Rattle.deku_formats_program.specs.declared.program.Failure.TheVariants.{Fault}
use Rattle.deku_formats_program.specs.Refusals.{StopsOf}
use Rattle.deku_formats_program.specs.Shown.{TellsVerdict}
use Rattle.deku_formats_program.proofs.Asking.{err_so}
use Rattle.deku_formats_program.proofs.program.shown.Goals as goal

pub returns-clause-taken : goal.returns-clause-taken
returns-clause-taken g c =
    let tells : TellsVerdict c.args.bytes.now (min (div_ceil c.in-Ok.read.0 8) (length c.args.bytes.now)) c.in_ok-written.written.items (string_bytes c.end.new.text) = search rules in
    record {
      value = c.in-Ok.read.1;
      bits = c.in-Ok.read.0;
      taken = c.in-Ok.ensures.taken;
      written = c.in_ok-written.written;
      laid = c.in_ok-written.ensures.laid_out;
      tells = tells;
    }

pub returns-in_err-written-clause-stops : goal.returns-in_err-written-clause-stops
returns-in_err-written-clause-stops g c =
    let fault : DekuError = c.in_err-written.field-0.0 in
    let stopping : Failure → Type 0 = StopsOf (g.T.DekuReader.meaning tt) (λ v. g.T.Part.pieces v tt) (λ v. g.T.DekuWriter.meaning v tt) c.args.bytes.now in
    let stops : stopping (Fault fault) = inr (inr (inl (record {
      value = c.in-Ok.read.1;
      bits = c.in-Ok.read.0;
      taken = c.in-Ok.ensures.taken;
      fault = fault;
      refused = c.in_err-written.ensures.meaning;
      is = refl;
    }))) in
    err_so c.from_residual.result _ stopping c.from_residual.ensures.1 (λ e is. subst stopping (sym is) stops)

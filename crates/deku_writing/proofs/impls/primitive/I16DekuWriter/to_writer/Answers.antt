use Rattle.std.proofs.Common.{rules, arith}
use Rattle.std.proofs.lemmas.Int.{ints}
use Rattle.deku_meanings.proofs.Joining.{signed_written}
use mir.Syntax.{w16}
use mir.Val.{SFits}
use Rattle.deku_writing.proofs.impls.primitive.I16DekuWriter.to_writer.Goals as goal

pub returns : goal.returns
returns g c =
    let fits : SFits w16 c.args.self.now = search rules in
    signed_written (rw c.parts.ensures at c.write_signed.ensures.writes) (omega (arith, ints))

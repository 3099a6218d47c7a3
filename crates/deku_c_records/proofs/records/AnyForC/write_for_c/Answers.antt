use Rattle.std.proofs.Common.{Ok, Err, refl}
use Rattle.deku_c_records.proofs.Laying.{laid_over}
use Rattle.deku_c_records.proofs.records.AnyForC.write_for_c.Goals as goal

pub returns-in-Ok : goal.returns-in-Ok
returns-in-Ok g c =
    let value = c.args.self.now in
    let law = g.met.E.Symmetric.symmetric tt in
    record {
      outcome = Ok c.in-Ok._count;
      meaning = c.in-Ok.ensures;
      laid = laid_over (g.E.DekuWriter.meaning value tt) (g.E.Part.pieces value tt) (law.written value) c.args.bytes.now (Ok c.in-Ok._count) c.to_slice.new.out c.in-Ok.ensures;
      tells = refl;
    }

pub returns-in-Err : goal.returns-in-Err
returns-in-Err g c =
    let value = c.args.self.now in
    let law = g.met.E.Symmetric.symmetric tt in
    record {
      outcome = Err c.in-Err.error;
      meaning = c.in-Err.ensures;
      laid = laid_over (g.E.DekuWriter.meaning value tt) (g.E.Part.pieces value tt) (law.written value) c.args.bytes.now (Err c.in-Err.error) c.to_slice.new.out c.in-Err.ensures;
      tells = c.status_of.ensures;
    }

use Rattle.deku_bits.proofs.Handing.{passed_on}
use Rattle.deku_meanings.specs.Composing.{Both}
use Rattle.deku_writing.proofs.WritingEach.{next_written, next_refused, none_left}
use Rattle.deku_writing.proofs.impls.hashmap.HashMapDekuWriter.to_writer.Goals as goal

pub returns-in_err-write_entry : goal.returns-in_err-write_entry
returns-in_err-write_entry g c =
    passed_on _ c.from_residual.ensures.1
    (next_refused (λ p. Both (g.K.DekuWriter.meaning p.0 c.args.ctx) (g.V.DekuWriter.meaning p.1 c.args.ctx)) c.args.self.now.entries _ _ _ _ _ _ _ _ _ (rw c.in-Some.ensures.steps at c.loop-key.invariant) c.in_err-write_entry.ensures)

pub loop-key-preserved : goal.loop-key-preserved
loop-key-preserved g c = next_written (λ p. Both (g.K.DekuWriter.meaning p.0 c.args.ctx) (g.V.DekuWriter.meaning p.1 c.args.ctx)) c.args.self.now.entries _ _ _ _ _ _ _ _ (rw c.in-Some.ensures.steps at c.loop-key.invariant) c.in_ok-write_entry.ensures

pub returns : goal.returns
returns g c = none_left (λ p. Both (g.K.DekuWriter.meaning p.0 c.args.ctx) (g.V.DekuWriter.meaning p.1 c.args.ctx)) c.args.self.now.entries _ _ _ _ (rw c.in-None.ensures.steps.0 at c.loop-key.invariant)

use Rattle.std.proofs.Common.{arith, refl, sym, ap, subst, length, length-append, [], ◌∷◌, ◌<◌}
use Rattle.deku_bits.proofs.Handing.{passed_on}
use Rattle.deku_bits.specs.Standings.{reader_state}
use Rattle.deku_meanings.proofs.Joining.{first_refused, then_on}
use Rattle.deku_reading.specs.Lists.{Stored}
use Rattle.deku_reading.proofs.Ahead.{appended_length, far_appended}
use Rattle.deku_reading.proofs.Early.{promptly_on}
use Rattle.deku_reading.proofs.Holding.{no_memory}
use Rattle.deku_reading.proofs.Judging.{held_ok, held_err}
use Rattle.deku_reading.proofs.Runs.{SoFar, one_more, run_ended, run_refused, stored}
use Rattle.deku_reading.proofs.impls.counted.read_counted.Goals as goal

pub returns-in_err-item-clause-reads : goal.returns-in_err-item-clause-reads
returns-in_err-item-clause-reads g c =
    let run = c.try_read_onto-left.ensures.reads in
    let more : length c.try_read_onto-left.new.items.items < c.args.count = omega (arith, c.loop-left.invariant.long, appended_length run, c.if-left-gt0.true) in
    passed_on _ c.from_residual.ensures.1 (held_err (run_refused (far_appended c.loop-left.invariant.far run) more (first_refused c.in_err-item.ensures.reads)))

pub returns-in_default-clause-reads : goal.returns-in_default-clause-reads
returns-in_default-clause-reads g c =
    let run = c.try_read_onto-left.ensures.reads in
    let more : length c.try_read_onto-left.new.items.items < c.args.count = omega (arith, c.loop-left.invariant.long, appended_length run, c.if-left-gt0.true) in
    held_err (run_refused (far_appended c.loop-left.invariant.far run) more (then_on c.in_ok-item.ensures.reads no_memory))

pub loop-left-preserved-then-left-gt0 : goal.loop-left-preserved-then-left-gt0
loop-left-preserved-then-left-gt0 g c =
    let run = c.try_read_onto-left.ensures.reads in
    let ys = c.try_read_onto-left.new.items.items in
    let known = g.R.Source.known in
    let joined = c.in-Ok.ensures in
    record {
      long = omega (arith, c.loop-left.invariant.long, appended_length run, c.if-left-gt0.true, ap length joined, length-append ys (c.in_ok-item.item ∷ []));
      far = subst (λ zs. SoFar (Stored (g.T.DekuReader.meaning c.args.ctx)) zs (reader_state (known c.args.reader.now.source).remaining c.args.reader.now.state) (known c.args.reader.now.source).health
          (reader_state (known c.from_reader_with_ctx.new.reader.source).remaining c.from_reader_with_ctx.new.reader.state) (known c.from_reader_with_ctx.new.reader.source).health) (sym joined)
          (one_more (far_appended c.loop-left.invariant.far run) (stored c.in_ok-item.ensures.reads));
      early = λ p. promptly_on (c.loop-left.invariant.early p) (promptly_on (c.try_read_onto-left.ensures.early p) (c.in_ok-item.ensures.early p));
    }

pub loop-left-preserved : goal.loop-left-preserved
loop-left-preserved g c =
    let run = c.try_read_onto-left.ensures.reads in
    record {
      long = omega (arith, c.loop-left.invariant.long, appended_length run, c.try_read_onto-left.ensures.few);
      far = far_appended c.loop-left.invariant.far run;
      early = λ p. promptly_on (c.loop-left.invariant.early p) (c.try_read_onto-left.ensures.early p);
    }

pub returns-clause-reads : goal.returns-clause-reads
returns-clause-reads g c = held_ok (run_ended c.loop-left.invariant.far (omega (arith, c.loop-left.invariant.long))) refl

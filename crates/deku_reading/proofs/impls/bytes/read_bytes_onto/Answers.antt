use Rattle.std.proofs.Common.{◌≡◌, ◌+◌, ◌-◌, subst, arith}
use Rattle.deku_num.specs.Numbers.{byte}
use Rattle.deku_num.specs.NumberCalls.{ReadsUnsigned}
use Rattle.deku_reading.specs.Ahead.{Appended}
use Rattle.deku_reading.proofs.Ahead.{more_appended}
use Rattle.deku_reading.proofs.Early.{promptly_on}
use Rattle.deku_reading.proofs.impls.bytes.read_bytes_onto.Goals as goal

pub returns-then-count-eq0-clause-reads : goal.returns-then-count-eq0-clause-reads
returns-then-count-eq0-clause-reads g c =
    let eight = c.read_eight_onto-count in
    let same : c.args.most - c.loop-left.left + eight.result ≡ c.args.most - c.loop-left.left = omega (arith, c.if-count-eq0.true) in
    subst (λ n. Appended (ReadsUnsigned byte c.args.layout) n c.args.bytes.now.items eight.new.bytes.items (g.R.Source.known c.args.reader.now.source) c.args.reader.now.state (g.R.Source.known eight.new.reader.source) eight.new.reader.state) same
    (more_appended c.loop-left.invariant.reads (eight.ensures.reads c.args.layout c.in-Msb0-Whole.is-0 c.in-Msb0-Whole.is-1))

pub loop-left-preserved : goal.loop-left-preserved
loop-left-preserved g c =
    let eight = c.read_eight_onto-count in
    let same : c.args.most - c.loop-left.left + eight.result ≡ c.args.most - (c.loop-left.left - eight.result) = omega (arith, c.loop-left.invariant.few, eight.ensures.few) in
    record {
      few = omega (arith, c.loop-left.invariant.few);
      reads = subst (λ n. Appended (ReadsUnsigned byte c.args.layout) n c.args.bytes.now.items eight.new.bytes.items (g.R.Source.known c.args.reader.now.source) c.args.reader.now.state (g.R.Source.known eight.new.reader.source) eight.new.reader.state) same
          (more_appended c.loop-left.invariant.reads (eight.ensures.reads c.args.layout c.in-Msb0-Whole.is-0 c.in-Msb0-Whole.is-1));
      early = promptly_on c.loop-left.invariant.early eight.ensures.early;
    }

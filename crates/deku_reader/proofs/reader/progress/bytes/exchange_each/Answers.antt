use Rattle.std.proofs.lemmas.Grind.{common_steps}
use Rattle.std.proofs.Common.{arith, length, refl, rules, take, ◌<◌, ◌∙◌}
use Rattle.std.proofs.lemmas.List.{take_more_set}
use Rattle.std.proofs.lemmas.List.Elements.{All-push}
use Rattle.deku_stream.proofs.Bytes.{IsByte}
use Rattle.deku_reader.proofs.Handouts.{exchange_more, behind_more}
use Rattle.deku_reader.proofs.reader.progress.bytes.exchange_each.Goals as goal

pub loop-byte-preserved : goal.loop-byte-preserved
loop-byte-preserved c =
    let i = c.loop-byte.byte-index in
    let at : c.loop-byte.byte-index < length c.loop-byte.dst = omega arith in
    record {
      bits = exchange_more c.args.order c.args.passing.now c.loop-byte.passing c.exchange.new.self c.args.dst.now c.loop-byte.dst i _ c.exchange.result at (omega arith)
          c.loop-byte.invariant.behind refl c.loop-byte.invariant.bits c.exchange.ensures.bits;
      behind = behind_more c.args.dst.now c.loop-byte.dst i c.exchange.result c.loop-byte.invariant.behind;
      bytes = rw take_more_set (All-push IsByte (take i c.loop-byte.dst) c.exchange.result c.loop-byte.invariant.bytes (omega arith));
      len = c.exchange.ensures.len ∙ c.loop-byte.invariant.len;
    }

pub loop-byte-init : goal.loop-byte-init
loop-byte-init c = search rules

pub returns-clause-bits : goal.returns-clause-bits
returns-clause-bits c = grind (arith, common_steps)

pub returns-clause-bytes : goal.returns-clause-bytes
returns-clause-bytes c = grind (arith, common_steps)

pub returns-clause-len : goal.returns-clause-len
returns-clause-len c = search rules

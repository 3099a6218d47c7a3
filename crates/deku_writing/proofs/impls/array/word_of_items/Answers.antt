use Rattle.std.proofs.Common.{arith}
use Rattle.deku_writing.proofs.WordsEach.{first_word, next_word, all_words}
use Rattle.deku_writing.proofs.impls.array.word_of_items.Goals as goal

pub loop-place-init : goal.loop-place-init
loop-place-init g c =
    let m = λ (x : g.row.T.Denot). g.T.DekuWriter.meaning x c.args.ctx.now in
    let first = c.index-items-0 in
    record {
      far = first_word c.args.order m c.args.items.now first.result c.in_ok-word.word (omega (arith, c.if-count-eq0.false)) first.is c.in_ok-word.ensures;
      few = omega (arith, c.if-count-eq0.false);
    }

pub loop-place-preserved : goal.loop-place-preserved
loop-place-preserved g c =
    let m = λ (x : g.row.T.Denot). g.T.DekuWriter.meaning x c.args.ctx.now in
    let item = c.index-items-place in
    record {
      far = next_word c.args.order m c.args.items.now c.loop-place.place item.result c.loop-place.word c.in_ok-next.next _ (omega arith) item.is c.loop-place.invariant.far c.in_ok-next.ensures c.in_ok-word-2.ensures;
      few = omega arith;
    }

pub returns : goal.returns
returns g c = all_words c.args.order _ c.args.items.now c.loop-place.place c.loop-place.word (omega (arith, c.loop-place.invariant.few)) c.loop-place.invariant.far

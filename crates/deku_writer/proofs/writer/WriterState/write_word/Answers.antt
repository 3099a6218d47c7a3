use Rattle.std.proofs.Common.{◌≡◌, ◌<◌, ◌/◌, ◌+◌, ◌^◌, ◌∙◌, Err, ap, refl, rules}
use Rattle.deku_writer.proofs.WordsWritten.{word_written, word_done, word_stopped, word_full, word_nothing}
use Rattle.deku_writer.proofs.writer.WriterState.write_word.Goals as goal

pub returns-in-Ok-clause-writes : goal.returns-in-Ok-clause-writes
returns-in-Ok-clause-writes g c =
    let w : c.self.inside.bits_written < 2 ^ 64 = search rules in
    let made = c.whole_bytes-filled.ensures ∙ ap (λ x. (x + c.args.n) / 8) c.len.ensures.length in
    rw (← c.self.view_is, c.in_default.is)
    (word_done _ _ c.self.inside.order c.args.order c.self.inside.held c.args.n c.args.word _ c.whole_bytes-filled.result c.self.invariant c.requires.inside made _ c.if-filled-self.false w c.in-Ok.ensures.pushed)

pub returns-in-Err-clause-writes : goal.returns-in-Err-clause-writes
returns-in-Err-clause-writes g c =
    let w : c.self.inside.bits_written < 2 ^ 64 = search rules in
    let made = c.whole_bytes-filled.ensures ∙ ap (λ x. (x + c.args.n) / 8) c.len.ensures.length in
    let at_end = c.self-in-Err.view_is ∙ c.stopped.ensures in
    rw (← c.self.view_is, c.in_default.is, at_end)
    (word_stopped _ _ c.self.inside.order c.args.order c.self.inside.held c.args.n c.args.word _ c.whole_bytes-filled.result c.self.invariant c.requires.inside made c.in-Err.kind c.if-filled-self.false w c.in-Err.ensures.fault)

pub returns-then-filled-self-clause-writes : goal.returns-then-filled-self-clause-writes
returns-then-filled-self-clause-writes g c =
    let made = c.whole_bytes-filled.ensures ∙ ap (λ x. (x + c.args.n) / 8) c.len.ensures.length in
    let known = g.W.Sink.known c.args.sink.now in
    rw (← c.self.view_is, c.in_default.is)
    (word_full known known c.self.inside.order c.args.order c.self.inside.held c.args.n c.args.word _ c.whole_bytes-filled.result c.self.invariant c.requires.inside made _ c.if-filled-self.true refl)

pub returns-then-n-eq0-clause-writes : goal.returns-then-n-eq0-clause-writes
returns-then-n-eq0-clause-writes g c =
    let w : c.self.inside.bits_written < 2 ^ 64 = search rules in
    let none : c.args.n ≡ 0 = search rules in
    rw (← c.self.view_is, c.in_default.is)
    (word_nothing _ c.self.inside.order c.args.order c.self.inside.held c.args.n c.args.word _ c.requires.inside none w)

pub returns-in-Some-clause-writes : goal.returns-in-Some-clause-writes
returns-in-Some-clause-writes g c =
    let known = g.W.Sink.known c.args.sink.now in
    word_written c.args.order c.args.n c.args.word known c.args.self.now (Err c.error.result) known c.args.self.now c.requires.inside (search rules)

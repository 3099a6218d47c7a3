use Rattle.std.proofs.Common.{◌≡◌, ◌∙◌, [], None, arith, inl, inr, sym}
use Rattle.std.proofs.lemmas.List.{nil_from_length}
use Rattle.std.specs.IoError.{error_kind}
use Rattle.std.specs.declared.io.ErrorKind.TheVariants.{UnexpectedEof}
use Rattle.deku_reader.proofs.Skips.{peeks_some, peeks_byte, peeks_end}
use Rattle.deku_reader.proofs.reader.progress.ReaderState.end.Goals as goal

pub returns-then-len-gt0-clause-reads : goal.returns-then-len-gt0-clause-reads
returns-then-len-gt0-clause-reads g c =
    let known = g.R.Source.known in
    let p = c.self.inside in
    let none_kept : p.tally.fault ≡ None = sym c.fault.ensures ∙ c.in_default.is in
    rw (← c.self.view_is, none_kept) (peeks_some p.window (known c.args.source.now).remaining p.tally.count (known c.args.source.now).health (omega arith))

pub returns-in-Ok-clause-reads : goal.returns-in-Ok-clause-reads
returns-in-Ok-clause-reads g c =
    let known = g.R.Source.known in
    let p = c.self.inside in
    let none_kept : p.tally.fault ≡ None = sym c.fault.ensures ∙ c.in_default.is in
    let none : p.window ≡ [] = nil_from_length p.window (omega arith) in
    rw (← c.self.view_is, none_kept, c.of_byte-self-inside.ensures.bits)
    (peeks_byte p.window (known c.args.source.now).remaining p.tally.count c.in-Ok.byte (known c.fetch_byte.new.source).remaining _ _ none (omega arith) c.in-Ok.ensures.bytes c.fetch_byte.ensures.kept)

pub returns-in-Incomplete-clause-reads : goal.returns-in-Incomplete-clause-reads
returns-in-Incomplete-clause-reads g c =
    let known = g.R.Source.known in
    let p = c.self.inside in
    let none_kept : p.tally.fault ≡ None = sym c.fault.ensures ∙ c.in_default.is in
    let none : p.window ≡ [] = nil_from_length p.window (omega arith) in
    let eof : error_kind c.in-Err.error ≡ UnexpectedEof = elim c.fault_of.ensures [ inl k ↦ k.0 | inr k ↦ absurd (let e = k.1 in cc) ] in
    rw (← c.self.view_is, none_kept)
    (peeks_end p.window (known c.args.source.now).remaining p.tally.count (known c.fetch_byte.new.source).remaining _ _ none (c.in-Err.ensures.short eof) (c.in-Err.ensures.ended eof) c.fetch_byte.ensures.kept)

use Rattle.std.proofs.Common.{◌*◌, ◌-◌, false, ◌++◌, drop, replicate, ap, sym, ◌∙◌, take-append-drop}
use Rattle.deku_stream.specs.Bits.{bits_in}
use Rattle.deku_stream.proofs.Holding.{opened}
use Rattle.deku_stream.proofs.bounded.BoundedBitVec.as_raw_slice.Goals as goal

pub returns-clause-bits : goal.returns-clause-bits
returns-clause-bits g c =
    let h = opened c.self.inside.bytes c.self.inside.len g.row.N c.args.self.now c.self.told c.self.invariant c.self.view_is in
    sym (take-append-drop c.self.inside.len (bits_in c.self.inside.bytes))
    ∙ ap (λ s. s ++ drop c.self.inside.len (bits_in c.self.inside.bytes)) (h.is)
    ∙ ap (λ s. c.args.self.now ++ s) (h.zeros ∙ ap (λ n. replicate (8 * g.row.N - n) false) (sym (h.len)))

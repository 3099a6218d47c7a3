use Rattle.std.proofs.Common.{◌≡◌, ◌+◌, Bool, List, length, get_or, take, drop, false, sym, ◌∙◌, arith, length-drop}
use Rattle.std.proofs.lemmas.List.{length-take-le, get_or-take, get_or-drop}
use Rattle.deku_stream.specs.Bits.{bits_in}
use Rattle.deku_stream.proofs.BitPlaces.{length-bits_in}
use Rattle.deku_stream.proofs.Overlays.{lays_more}
use Rattle.deku_stream.proofs.bounded.copy_bits.Goals as goal

pub loop-i-preserved : goal.loop-i-preserved
loop-i-preserved c =
    let i = c.loop-i.i in
    let source : List Bool = bits_in c.args.source.now in
    let bits : List Bool = take c.args.count (drop c.args.from source) in
    let count : length bits ≡ c.args.count = length-take-le c.args.count (drop c.args.from source) (omega (arith, length-drop c.args.from source, length-bits_in c.args.source.now)) in
    let bit : get_or source (c.args.from + i) false ≡ get_or bits i false = sym (get_or-drop c.args.from source i false) ∙ sym (get_or-take c.args.count (drop c.args.from source) i false (omega arith)) in (
      c.put_bit.ensures.len ∙ c.loop-i.invariant.0,
      lays_more (bits_in c.args.bytes.now) 0 bits i i _ _ _ (c.loop-i.invariant.1) (c.put_bit.ensures.bits) (omega arith) (c.bit_at.ensures ∙ bit) (omega arith) (omega (arith, length-bits_in c.args.bytes.now)),
    )

use Rattle.std.proofs.Common.{◌≡◌, ◌+◌, ◌-◌, length, replicate, false, refl, sym, ◌∙◌, arith}
use Rattle.std.proofs.lemmas.List.{length-replicate, get_or-replicate}
use Rattle.deku_stream.specs.Bits.{bits_in}
use Rattle.deku_stream.proofs.BitPlaces.{length-bits_in}
use Rattle.deku_stream.proofs.Overlays.{lays_more}
use Rattle.deku_stream.proofs.bounded.clear_bits.Goals as goal

pub loop-i-preserved : goal.loop-i-preserved
loop-i-preserved c =
    let i = c.loop-i.i in
    let n = c.args.to - c.args.from in
    let count : length (replicate n false) ≡ n = length-replicate n false in (
      c.put_bit.ensures.len ∙ c.loop-i.invariant.0,
      lays_more (bits_in c.args.bytes.now) c.args.from (replicate n false) i (c.args.from + i) _ _ _ (c.loop-i.invariant.1) (c.put_bit.ensures.bits) refl
          (sym (get_or-replicate n i false false (omega arith))) (omega arith) (omega (arith, length-bits_in c.args.bytes.now)),
    )

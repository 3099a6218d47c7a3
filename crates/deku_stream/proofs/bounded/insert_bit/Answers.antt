use Rattle.std.proofs.lemmas.Grind.{common_steps}
use Rattle.std.proofs.Common.{Bool, List, ap, arith, drop, false, get_or, length, length-drop, refl, rules, suc, sym, take, ◌*◌, ◌+◌, ◌-◌, ◌∙◌, ◌∷◌, ◌≡◌}
use Rattle.std.proofs.lemmas.List.{length-take-le, get_or-take, get_or-drop, take_all}
use Rattle.deku_stream.specs.Bits.{bits_in}
use Rattle.deku_device.specs.Overlays.{overlaid}
use Rattle.deku_stream.proofs.BitPlaces.{length-bits_in}
use Rattle.deku_stream.proofs.Overlays.{lays_more, get_or-overlaid}
use Rattle.deku_stream.proofs.bounded.insert_bit.Goals as goal

pub loop-i-preserved : goal.loop-i-preserved
loop-i-preserved c =
    let i = c.loop-i.i in
    let F : List Bool = bits_in c.args.bytes.now in
    let n = c.args.len - c.args.at in
    let tail : List Bool = take n (drop c.args.at F) in
    let all : length F ≡ 8 * length c.args.bytes.now = length-bits_in c.args.bytes.now in
    let count : length tail ≡ n = length-take-le n (drop c.args.at F) (omega (arith, length-drop c.args.at F)) in
    let next : i + 1 ≡ suc i = omega arith in
    let behind : get_or (bits_in c.loop-i.bytes) (c.args.at + i) false ≡ get_or tail i false =
    ap (λ s. get_or s (c.args.at + i) false) (c.loop-i.invariant.1)
    ∙ get_or-overlaid F c.args.at (take i (c.args.bit ∷ tail)) (c.args.at + i) (omega (arith, length-take-le i (c.args.bit ∷ tail) (omega arith)))
    (omega arith)
    ∙ sym (get_or-drop c.args.at F i false) ∙ sym (get_or-take n (drop c.args.at F) i false (omega arith)) in (
      c.put_bit.ensures.len ∙ c.loop-i.invariant.0,
      lays_more F c.args.at (c.args.bit ∷ tail) i (c.args.at + i) _ _ _ (c.loop-i.invariant.1) (c.put_bit.ensures.bits) refl (c.loop-i.invariant.2) (omega arith) (omega arith),
      c.bit_at-next.ensures ∙ behind ∙ ap (λ k. get_or (c.args.bit ∷ tail) k false) (sym next),
    )

pub returns-clause-bits : goal.returns-clause-bits
returns-clause-bits c =
    let i = c.loop-i.i in
    let F : List Bool = bits_in c.args.bytes.now in
    let n = c.args.len - c.args.at in
    let tail : List Bool = take n (drop c.args.at F) in
    let all : length F ≡ 8 * length c.args.bytes.now = length-bits_in c.args.bytes.now in
    let count : length tail ≡ n = length-take-le n (drop c.args.at F) (omega (arith, length-drop c.args.at F)) in
    lays_more F c.args.at (c.args.bit ∷ tail) i c.args.len _ _ _ (c.loop-i.invariant.1) (c.put_bit-2.ensures.bits) (omega arith) (c.loop-i.invariant.2) (omega arith) (omega arith)
    ∙ ap (overlaid F c.args.at) (take_all (i + 1) (c.args.bit ∷ tail) (omega arith))

pub overflow_sub-i-end : goal.overflow_sub-i-end
overflow_sub-i-end c = search rules

pub loop-i-init : goal.loop-i-init
loop-i-init c = grind (arith, common_steps)

pub overflow_add-at : goal.overflow_add-at
overflow_add-at c = search rules

pub bit_at-next-requires : goal.bit_at-next-requires
bit_at-next-requires c = search rules

pub overflow_add-at-in-loop-i : goal.overflow_add-at-in-loop-i
overflow_add-at-in-loop-i c = search rules

pub put_bit-requires : goal.put_bit-requires
put_bit-requires c = search rules

pub put_bit-requires-2 : goal.put_bit-requires-2
put_bit-requires-2 c = search rules

pub returns-clause-len : goal.returns-clause-len
returns-clause-len c = search rules

use Rattle.std.proofs.Common.{◌≡◌, ℕ, ◌-◌, ◌++◌, length, take, drop, replicate, arith, length-append}
use Rattle.std.proofs.lemmas.List.{length-take, length-drop, length-replicate}
use Rattle.deku_reader.proofs.Handouts.{part-length, two_parts, run_short}
use Rattle.deku_reader.proofs.Moving.{handed}
use Rattle.deku_reader.proofs.reader.progress.bits.run_into.Goals as goal

pub returns-clause-short : goal.returns-clause-short
returns-clause-short g c =
    let a = c.min-inside.result in
    let n = length c.args.dst.now in
    let first = c.hand_out.new.dst in
    let behind = drop a c.args.dst.now in
    let front : length (take a c.args.dst.now) ≡ a = simp length-take (omega arith) in
    let lf : length first ≡ a = omega (arith, front) in
    let ls : length c.hand_out_bytes.new.dst ≡ n - a =
    omega (arith, lf, length-append first behind, length-drop a c.args.dst.now, part-length (first ++ behind) a (length (first ++ behind)) (omega arith)) in
    let k = c.div_ceil.result in
    let width : length (take k (replicate {A = ℕ} 16 0)) ≡ k = simp (length-take, length-replicate) (omega arith) in
    run_short c.args.order c.args.window.now c.hand_out.new.window c.hand_out_bytes.new.window first c.hand_out_bytes.new.dst c.fetch_bytes.new.dst n a
    (omega arith) (omega arith) (omega arith) lf ls (omega (arith, width)) c.hand_out.ensures c.hand_out_bytes.ensures

pub returns-clause-moved : goal.returns-clause-moved
returns-clause-moved g c =
    let known = g.R.Source.known in
    let a = c.min-inside.result in
    let front : length (take a c.args.dst.now) ≡ a = simp length-take (omega arith) in
    let lf : length c.hand_out.new.dst ≡ a = omega (arith, front) in
    rw (two_parts c.args.dst.now c.hand_out.new.dst c.hand_out_bytes.new.dst a (omega arith) lf)
    (handed c.args.order c.args.window.now c.hand_out.new.window c.hand_out_bytes.new.window (known c.args.source.now).remaining (known c.fetch_bytes.new.source).remaining c.fetch_bytes.new.dst
    c.hand_out.new.dst c.hand_out_bytes.new.dst c.in_ok-fetch_bytes.ensures.bytes c.hand_out.ensures c.hand_out_bytes.ensures)

pub returns-in_err-fetch_bytes-clause-inside : goal.returns-in_err-fetch_bytes-clause-inside
returns-in_err-fetch_bytes-clause-inside g c = λ le.
    let k = c.div_ceil.result in
    let width : length (take k (replicate {A = ℕ} 16 0)) ≡ k = simp (length-take, length-replicate) (omega arith) in
    c.fetch_bytes.ensures.none (omega (arith, le, width))

pub returns-clause-inside : goal.returns-clause-inside
returns-clause-inside g c = λ le.
    let k = c.div_ceil.result in
    let width : length (take k (replicate {A = ℕ} 16 0)) ≡ k = simp (length-take, length-replicate) (omega arith) in
    c.fetch_bytes.ensures.none (omega (arith, le, width))

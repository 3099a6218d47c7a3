use Rattle.std.proofs.lemmas.Grind.{common_steps}
use Rattle.std.proofs.Common.{rules, arith, ◌≡◌, ◌-◌, length, take, inl, inr}
use Rattle.std.proofs.lemmas.List.{take_more, length-take}
use Rattle.std.proofs.lemmas.Result.{err_from_is_err_and}
use Rattle.deku_probe.specs.Probes.{failing_sink}
use Rattle.deku_device.proofs.Transfers.{Gave-trans, Declined-at}
use Rattle.deku_probe.proofs.Failing.{only_at_one, fitted}
use Rattle.std.specs.Io.Cursor.{cursor_position, cursor_inner}
use Rattle.deku_probe.proofs.probe.FailAtRefMutSliceU8Sink.give.Goals as goal

pub returns-in_err-give_byte-clause-err : goal.returns-in_err-give_byte-clause-err
returns-in_err-give_byte-clause-err c =
    let p = err_from_is_err_and c.from_residual.result c.from_residual.ensures.1 in
    rw (p.1, p.2)
    (Declined-at (failing_sink c.args.self.now) (failing_sink c.loop-byte.self) (failing_sink c.give_byte.new.sink) c.args.bytes.now c.loop-byte.byte-index _
    (omega arith) c.loop-byte.invariant.given c.in_err-give_byte.ensures.err)

pub returns-in_err-give_byte-clause-still : goal.returns-in_err-give_byte-clause-still
returns-in_err-give_byte-clause-still c =
    let p = err_from_is_err_and c.from_residual.result c.from_residual.ensures.1 in
    rw (p.1, p.2)
    (λ other.
    let one : c.loop-byte.self.left ≡ 1 = elim c.in_err-give_byte.ensures.err.cause [
      | inl m ↦ only_at_one c.loop-byte.self.left c.give_byte.new.sink.left c.give_byte.ensures.counted m.failures
      | inr l ↦ let e = l.0 in cc
    ] in
    let n : c.args.self.now.left - 1 ≡ c.loop-byte.byte-index = omega (arith, c.loop-byte.invariant.counted, one) in
    rw (c.give_byte.ensures.still one, n) c.loop-byte.invariant.given.taken)

pub returns-in_err-give_byte-clause-full : goal.returns-in_err-give_byte-clause-full
returns-in_err-give_byte-clause-full c =
    let p = err_from_is_err_and c.from_residual.result c.from_residual.ensures.1 in
    let i = c.loop-byte.byte-index in
    let a = (cursor_inner c.args.self.now.inner).now in
    let place = cursor_position c.args.self.now.inner in
    let given = take i c.args.bytes.now in
    let count : length given ≡ i = simp length-take (omega arith) in
    rw (p.1, p.2)
    (λ zero.
    let n : length a - place ≡ i = elim c.in_err-give_byte.ensures.err.cause [
      | inl m ↦ absurd (let other = c.in_err-give_byte.ensures.kind (only_at_one c.loop-byte.self.left c.give_byte.new.sink.left c.give_byte.ensures.counted m.failures) in cc)
      | inr l ↦ fitted a _ place i (length given) count c.loop-byte.invariant.given.room.0 c.loop-byte.invariant.given.room.1 l.1
    ] in
    rw (c.in_err-give_byte.ensures.stays, c.in_err-give_byte.ensures.holds, n) c.loop-byte.invariant.given.taken)

pub loop-byte-preserved : goal.loop-byte-preserved
loop-byte-preserved c = record {
  given = rw (take_more c.args.bytes.now c.loop-byte.byte-index 0 (omega arith)) (Gave-trans _ _ _ _ _ c.loop-byte.invariant.given c.in_ok-give_byte.ensures.ok);
  place = search rules;
  counted = search rules;
  fails = search rules;
}

pub loop-byte-init : goal.loop-byte-init
loop-byte-init c = search rules

pub returns-clause-ok : goal.returns-clause-ok
returns-clause-ok c = grind (arith, common_steps)

pub returns-clause-err : goal.returns-clause-err
returns-clause-err c = search rules

pub returns-clause-counted : goal.returns-clause-counted
returns-clause-counted c = search rules

pub returns-clause-fails : goal.returns-clause-fails
returns-clause-fails c = search rules

pub returns-clause-kind : goal.returns-clause-kind
returns-clause-kind c = search rules

pub returns-clause-still : goal.returns-clause-still
returns-clause-still c = search rules

pub returns-clause-place : goal.returns-clause-place
returns-clause-place c = search rules

pub returns-clause-failed_place : goal.returns-clause-failed_place
returns-clause-failed_place c = search rules

pub returns-clause-full_place : goal.returns-clause-full_place
returns-clause-full_place c = search rules

pub returns-clause-full : goal.returns-clause-full
returns-clause-full c = search rules

pub returns-clause-waits : goal.returns-clause-waits
returns-clause-waits c = search rules

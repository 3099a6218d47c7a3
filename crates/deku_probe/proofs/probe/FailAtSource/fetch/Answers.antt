use Rattle.std.proofs.Common.{◌≡◌, ◌+◌, length, take, drop, arith, rules, ap, ap₂, ◌∙◌, option_map, subst}
use Rattle.std.proofs.lemmas.List.{length-take}
use Rattle.std.proofs.lemmas.Result.{err_from_is_err_and}
use Rattle.std.specs.Io.Cursor.{cursor_position, cursor_inner, cursor_remaining}
use Rattle.std.specs.Io.KnownBytes.{Consumes}
use Rattle.deku_device.specs.Devices.{FewerThan}
use Rattle.deku_probe.proofs.Failing.{at_end}
use Rattle.std.proofs.lemmas.Grind.{common_steps}
use Rattle.deku_probe.proofs.probe.FailAtSource.fetch.Goals as goal

pub loop-place-init : goal.loop-place-init
loop-place-init g c = search rules

pub returns-clause-short : goal.returns-clause-short
returns-clause-short g c = search rules

pub returns-clause-ended : goal.returns-clause-ended
returns-clause-ended g c = search rules

pub returns-clause-failed : goal.returns-clause-failed
returns-clause-failed g c = search rules

pub returns-clause-kept : goal.returns-clause-kept
returns-clause-kept g c = search rules

pub returns-clause-counted : goal.returns-clause-counted
returns-clause-counted g c = search rules

pub returns-clause-fails : goal.returns-clause-fails
returns-clause-fails g c = search rules

pub returns-clause-kind : goal.returns-clause-kind
returns-clause-kind g c = search rules

pub returns-clause-still : goal.returns-clause-still
returns-clause-still g c = search rules

pub returns-clause-waits : goal.returns-clause-waits
returns-clause-waits g c = search rules

pub returns-clause-bytes : goal.returns-clause-bytes
returns-clause-bytes g c = grind (arith, common_steps)

pub returns-in_err-place-clause-end_place : goal.returns-in_err-place-clause-end_place
returns-in_err-place-clause-end_place g c =
    let p = err_from_is_err_and c.from_residual.result c.from_residual.ensures.1 in
    let bytes = g.B.AsBytes.bytes in
    let before = c.args.self.now.inner in
    let now = c.loop-place.self.inner in
    let i = c.loop-place.place-index in
    let read = take i c.loop-place.buf in
    let count : length read ≡ i = simp length-take (omega arith) in
    let left : cursor_remaining bytes now ≡ option_map (drop (cursor_position before + i)) (bytes (cursor_inner before)) =
    ap₂ (λ k b. option_map (drop k) (bytes b)) c.loop-place.invariant.place c.loop-place.invariant.inner in
    let stands : cursor_position c.fetch_byte.new.source.inner ≡ cursor_position before + i = ap (λ k. cursor_position k) c.in_err-place.ensures.still ∙ c.loop-place.invariant.place in
    rw (p.1, p.2)
    (λ eof. at_end (bytes (cursor_inner before)) (cursor_position before) i _ read stands count
    (subst (λ t. Consumes (cursor_remaining bytes before) t read) left c.loop-place.invariant.bytes)
    (subst (λ t. FewerThan 1 t) left (c.in_err-place.ensures.short eof)))

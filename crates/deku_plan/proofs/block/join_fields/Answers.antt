use Rattle.std.proofs.Common.{◌≡◌, ℕ, ◌*◌, ◌-◌, ◌<◌, List, get_or, length, take, drop, length-drop, ◌∙◌, subst, arith}
use Rattle.std.proofs.lemmas.List.{take_all}
use Rattle.deku_fields.specs.declared.list.Number.{Number}
use Rattle.deku_plan.specs.Laying.{HasBits, turns, AreFitting}
use Rattle.deku_plan.specs.Blocks.{group_sizes}
use Rattle.deku_plan.proofs.Joining.{parts_long, no_part}
use Rattle.deku_plan.proofs.Steps.{no_step}
use Rattle.deku_plan.proofs.Columned.{no_number}
use Rattle.deku_plan.proofs.Recorded.{room}
use Rattle.deku_plan.proofs.Laying.{no_more, fitting_more}
use Rattle.deku_plan.proofs.Blocks.{group_ahead, first_after, first_same, record_long, value_in, fields_next, records_fit}
use Rattle.deku_plan.proofs.block.join_fields.Goals as goal
use Rattle.deku_plan.proofs.block.join_fields.Goals.{then-part-gt0, else-part-gt0}

pub bounds-steps-place : goal.bounds-steps-place
bounds-steps-place c = omega (arith, parts_long 0 c.args.steps.now c.args.parts.now 0 c.requires.parts)

pub slice_bounds-rest-count : goal.slice_bounds-rest-count
slice_bounds-rest-count c =
    let long = parts_long 0 c.args.steps.now c.args.parts.now 0 c.requires.parts in
    let most = room 0 c.args.count (length c.args.steps.now) c.requires.some in
    omega (arith, long, most, c.requires.values)

pub slice_bounds-rest-start : goal.slice_bounds-rest-start
slice_bounds-rest-start c =
    let long = parts_long 0 c.args.steps.now c.args.parts.now 0 c.requires.parts in
    let most = room 0 c.args.count (length c.args.steps.now) c.requires.some in
    omega (arith, long, most, c.requires.values)

pub join_field-excess-requires-clause-room : goal.join_field-excess-requires-clause-room
join_field-excess-requires-clause-room c =
    let ps = c.args.parts.now in
    let i = c.loop-place.place in
    let ahead = group_ahead 0 c.args.steps.now ps i c.requires.parts (omega arith) in
    let most = room (length (group_sizes (take i ps))) (length (group_sizes ps)) c.args.count ahead in
    omega (arith, c.loop-place.invariant.0, c.loop-place.invariant.1, c.requires.room, most)

pub join_field-excess-requires-clause-values : goal.join_field-excess-requires-clause-values
join_field-excess-requires-clause-values c = λ r below.
    let ns = c.args.values.now in
    let i = c.loop-place.place in
    let f = length c.args.steps.now in
    let long = parts_long 0 c.args.steps.now c.args.parts.now 0 c.requires.parts in
    let most = room r c.args.count f below in
    let left : length (drop i ns) ≡ length ns - i = length-drop i ns in
    let whole : take (length ns - i) (drop i ns) ≡ drop i ns = take_all (length ns - i) (drop i ns) (omega (arith, left)) in
    rw whole (omega (arith, left, most, long, c.requires.values))

pub overflow_add-first : goal.overflow_add-first
overflow_add-first c =
    let ps = c.args.parts.now in
    let i = c.loop-place.place in
    let ahead = group_ahead 0 c.args.steps.now ps i c.requires.parts (omega arith) in
    let most = room (length (group_sizes (take i ps))) (length (group_sizes ps)) c.args.count ahead in
    omega (arith, c.loop-place.invariant.0, c.loop-place.invariant.1, c.requires.room, most)

pub loop-place-preserved : goal.loop-place-preserved
loop-place-preserved c =
    let ss = c.args.steps.now in
    let ps = c.args.parts.now in
    let ns = c.args.values.now in
    let l = c.loop-place in
    let i = l.place in
    let count = c.args.count in
    let long = parts_long 0 ss ps 0 c.requires.parts in
    let inside : i < length ss = omega (arith, long) in
    let left : length (drop i ns) ≡ length ns - i = length-drop i ns in
    let whole : take (length ns - i) (drop i ns) ≡ drop i ns = take_all (length ns - i) (drop i ns) (omega (arith, left)) in
    let field = c.join_field-excess in
    let bits : field.result ≡ 0 → (r : ℕ) → r < count → HasBits (get_or ss i no_step).width (get_or (take (length ss) (drop (r * length ss) ns)) i no_number) =
    λ none r below. subst (HasBits (get_or ss i no_step).width) (value_in ns (length ss) i r no_number inside) ((rw whole at field.ensures.fitting) none r below) in (
      elim c.if-part-gt0.branch [
        | then-part-gt0 w ↦ w.first-is ∙ first_after ps i count l.first no_part (omega arith) w.if-part-gt0.true l.invariant.0
        | else-part-gt0 w ↦ w.first-is ∙ first_same ps i count l.first no_part (omega arith) (omega (arith, w.if-part-gt0.false)) l.invariant.0
      ],
      field.ensures.long ∙ l.invariant.1,
      λ none.
          let both = no_more l.excess field.result none in
          fields_next count ss ps ns i l.first no_step no_part l.words field.new.words inside long c.requires.values l.invariant.0 (l.invariant.3 both.0) (bits both.1)
          ((rw whole at field.ensures.words) both.1) field.ensures.others (l.invariant.2 both.0),
      λ none r below.
          let both = no_more l.excess field.result none in
          let ms : List Number = take (length ss) (drop (r * length ss) ns) in
          fitting_more ss ms i no_step no_number inside (omega (arith, inside, record_long ns count (length ss) r below c.requires.values)) (l.invariant.3 both.0 r below) (bits both.1 r below),
    )

pub returns-clause-fitting : goal.returns-clause-fitting
returns-clause-fitting c = λ none.
    let ss = c.args.steps.now in
    let ns = c.args.values.now in
    let i = c.loop-place.place in
    let count = c.args.count in
    let long = parts_long 0 ss c.args.parts.now 0 c.requires.parts in
    subst (AreFitting (turns count ss)) (take_all (count * length ss) ns (omega (arith, c.requires.values)))
    (records_fit count count ss ns (omega arith) c.requires.values
    (λ r below.
    let ms : List Number = take (length ss) (drop (r * length ss) ns) in
    let all = record_long ns count (length ss) r below c.requires.values in
    let fits = c.loop-place.invariant.3 none r below in
    rw (take_all i ss (omega (arith, long)), take_all i ms (omega (arith, long, all))) at fits))

pub returns-clause-words : goal.returns-clause-words
returns-clause-words c = λ none r k below.
    let ss = c.args.steps.now in
    let ns = c.args.values.now in
    let i = c.loop-place.place in
    let long = parts_long 0 ss c.args.parts.now 0 c.requires.parts in
    let ms : List Number = take (length ss) (drop (r * length ss) ns) in
    let all = record_long ns c.args.count (length ss) r below c.requires.values in
    let word = c.loop-place.invariant.2 none r k below in
    rw (take_all i c.args.parts.now (omega arith), take_all i ms (omega (arith, long, all))) at word

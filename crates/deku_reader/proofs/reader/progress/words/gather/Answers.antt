use Rattle.std.proofs.Common.{arith, length, refl, rules, take, ◌/◌, ◌≡◌}
use Rattle.std.proofs.lemmas.List.{length-take}
use Rattle.deku_reader.proofs.WordsRead.{gather_even, gather_more}
use Rattle.deku_reader.proofs.reader.progress.words.gather.Goals as goal

pub returns-then-count-gt0 : goal.returns-then-count-gt0
returns-then-count-gt0 c =
    let q = c.args.count / 8 in
    let width : length (take q c.args.dst.now) ≡ q = simp length-take (omega arith) in
    let long : length c.exchange_all.new.dst ≡ q = omega (arith, width) in
    gather_more c.args.order c.args.window.now c.exchange_all.new.window c.last_group.new.window c.args.dst.now c.exchange_all.new.dst c.args.count q _ c.last_group.result
    refl c.if-count-gt0.true c.requires.short c.requires.room long c.exchange_all.ensures.bytes c.exchange_all.ensures.bits c.exchange_all.ensures.len refl c.last_group.ensures

pub returns-else-count-gt0 : goal.returns-else-count-gt0
returns-else-count-gt0 c =
    let q = c.args.count / 8 in
    let width : length (take q c.args.dst.now) ≡ q = simp length-take (omega arith) in
    let long : length c.exchange_all.new.dst ≡ q = omega (arith, width) in
    gather_even c.args.order c.args.window.now c.exchange_all.new.window c.args.dst.now c.exchange_all.new.dst c.args.count q
    refl (omega arith) c.requires.short c.requires.room long c.exchange_all.ensures.bytes c.exchange_all.ensures.bits

pub slice_bounds-exchange_all-end : goal.slice_bounds-exchange_all-end
slice_bounds-exchange_all-end c = search rules

pub slice_bounds-exchange_all-end-2 : goal.slice_bounds-exchange_all-end-2
slice_bounds-exchange_all-end-2 c = search rules

pub bounds-dst-whole : goal.bounds-dst-whole
bounds-dst-whole c = search rules

pub last_group-requires-clause-window : goal.last_group-requires-clause-window
last_group-requires-clause-window c = search rules

pub last_group-requires-clause-some : goal.last_group-requires-clause-some
last_group-requires-clause-some c = search rules

pub last_group-requires-clause-few : goal.last_group-requires-clause-few
last_group-requires-clause-few c = search rules

pub bounds-dst-whole-then-count-gt0 : goal.bounds-dst-whole-then-count-gt0
bounds-dst-whole-then-count-gt0 c = search rules

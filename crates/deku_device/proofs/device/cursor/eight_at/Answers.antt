use Rattle.std.proofs.Common.{◌∙◌, ap, arith, take}
use Rattle.std.proofs.lemmas.List.{length-drop, take_rest}
use Rattle.deku_device.proofs.Ends.{end_eight}
use Rattle.deku_device.proofs.Parts.{eight_front, eight_rest, eight_whole}
use Rattle.deku_device.proofs.device.cursor.eight_at.Goals as goal

pub returns-in-Some-first_chunk-clause-bytes : goal.returns-in-Some-first_chunk-clause-bytes
returns-in-Some-first_chunk-clause-bytes c =
    let all = c.args.all.now in
    let got = c.in-Some.ensures.lookup.0 in
    let chunk = c.in-Some-first_chunk.ensures.cases in
    let eight = chunk.same ∙ ap (take 8) (got.2 ∙ take_rest all c.args.at) in
    eight_front all _ c.args.at c.args.n (eight_whole all _ c.args.at (omega (arith, chunk.enough, got.3)) eight) (simp length-drop (omega (arith, chunk.enough, got.3))) c.requires

pub returns-in-Some-first_chunk-clause-ahead : goal.returns-in-Some-first_chunk-clause-ahead
returns-in-Some-first_chunk-clause-ahead c =
    let all = c.args.all.now in
    let got = c.in-Some.ensures.lookup.0 in
    let chunk = c.in-Some-first_chunk.ensures.cases in
    let eight = chunk.same ∙ ap (take 8) (got.2 ∙ take_rest all c.args.at) in
    eight_rest all _ c.args.at c.args.n (eight_whole all _ c.args.at (omega (arith, chunk.enough, got.3)) eight) (simp length-drop (omega (arith, chunk.enough, got.3))) c.requires

pub returns-in-Some-last_chunk-clause-bytes : goal.returns-in-Some-last_chunk-clause-bytes
returns-in-Some-last_chunk-clause-bytes c =
    let all = c.args.all.now in
    let got = c.in-Some.ensures.lookup.0 in
    let chunk = c.in-Some-last_chunk.ensures.cases in
    let few = c.in_default-first_chunk.ensures.cases in
    let eight = c.end_of.ensures ∙ end_eight all _ c.args.at _ chunk.1.same chunk.0 (omega (arith, got.3)) few in
    eight_front all _ c.args.at c.args.n eight (simp length-drop (omega (arith, got.3))) c.requires

pub returns-in-Some-last_chunk-clause-ahead : goal.returns-in-Some-last_chunk-clause-ahead
returns-in-Some-last_chunk-clause-ahead c =
    let all = c.args.all.now in
    let got = c.in-Some.ensures.lookup.0 in
    let chunk = c.in-Some-last_chunk.ensures.cases in
    let few = c.in_default-first_chunk.ensures.cases in
    let eight = c.end_of.ensures ∙ end_eight all _ c.args.at _ chunk.1.same chunk.0 (omega (arith, got.3)) few in
    eight_rest all _ c.args.at c.args.n eight (simp length-drop (omega (arith, got.3))) c.requires

pub returns-clause-bytes : goal.returns-clause-bytes
returns-clause-bytes c = eight_front c.args.all.now c.in_ok-last.last c.args.at c.args.n c.in_ok-last.ensures.eight c.in_ok-last.ensures.enough c.requires

pub returns-clause-ahead : goal.returns-clause-ahead
returns-clause-ahead c = eight_rest c.args.all.now c.in_ok-last.last c.args.at c.args.n c.in_ok-last.ensures.eight c.in_ok-last.ensures.enough c.requires

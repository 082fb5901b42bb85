use Rattle.std.proofs.Common.{◌≡◌, ◌∙◌, ◌+◌, ◌-◌, ◌∷◌, [], ap, refl, sym, arith}
use Rattle.std.specs.Option.{option_map}
use Rattle.base_types.specs.Contents.{rules_in}
use Rattle.core_conflict.specs.Changes.{first_from}
use Rattle.core_conflict.specs.Trails.{trails_of}
use Rattle.core_conflict.proofs.Firsts.{no_value}
use Rattle.chase_query.specs.Meanings.{finds_none, passing}
use Rattle.chase_query.proofs.Entries.{passage_ended, passage_from}
use Rattle.core_cascade.specs.Reached.{any_reached, numbered_of}
use Rattle.core_cascade.proofs.Firsts.{found_among, none_among}
use Rattle.core_cascade.proofs.lost.Lost.reached_in_passage.Goals as goal

pub loop-mapping-init : goal.loop-mapping-init
loop-mapping-init c = record { counted = omega arith; first = refl }

pub overflow_add-number : goal.overflow_add-number
overflow_add-number c = let e = c.loop-mapping.invariant.counted in let f = c.requires in let l = c.loop-mapping-test.true in omega (arith, e, f, l)

pub returns-in-Some : goal.returns-in-Some
returns-in-Some c =
    let p = any_reached (rules_in c.args.mappings.now) (trails_of c.args.self.now.members.items) in
    let passage = c.args.passage.now in
    let k = c.loop-mapping.mapping in
    let n = c.loop-mapping.number in
    let all = first_from p (c.args.before + 1) (passing passage.start (passage.end - passage.start) passage.own) in
    let here : all ≡ first_from p (n + 1) (finds_none k passage.own ∷ passing (k + 1) (passage.end - (k + 1)) passage.own) = c.loop-mapping.invariant.first ∙ ap (first_from p (n + 1)) (passage_from k passage.end passage.own c.loop-mapping-test.true) in
    record { first = found_among p (n + 1) (finds_none k passage.own ∷ []) (passing (k + 1) (passage.end - (k + 1)) passage.own) all (option_map numbered_of c.in_ok-found.found) (numbered_of c.in-Some.found) here c.in_ok-found.ensures.first (ap (option_map numbered_of) c.in-Some.is) }

pub loop-mapping-preserved : goal.loop-mapping-preserved
loop-mapping-preserved c =
    let p = any_reached (rules_in c.args.mappings.now) (trails_of c.args.self.now.members.items) in
    let passage = c.args.passage.now in
    let k = c.loop-mapping.mapping in
    let n = c.loop-mapping.number in
    let all = first_from p (c.args.before + 1) (passing passage.start (passage.end - passage.start) passage.own) in
    let here : all ≡ first_from p (n + 1) (finds_none k passage.own ∷ passing (k + 1) (passage.end - (k + 1)) passage.own) = c.loop-mapping.invariant.first ∙ ap (first_from p (n + 1)) (passage_from k passage.end passage.own c.loop-mapping-test.true) in
    record {
      counted = (let e = c.loop-mapping.invariant.counted in let l = c.loop-mapping-test.true in omega (arith, e, l));
      first = none_among p (n + 1) (n + 1 + 1) (finds_none k passage.own ∷ []) (passing (k + 1) (passage.end - (k + 1)) passage.own) all (option_map numbered_of c.in_ok-found.found) here c.in_ok-found.ensures.first (no_value numbered_of c.in_ok-found.found c.in_default.not-Some) refl;
    }

pub returns : goal.returns
returns c =
    let p = any_reached (rules_in c.args.mappings.now) (trails_of c.args.self.now.members.items) in
    let passage = c.args.passage.now in
    let k = c.loop-mapping.mapping in
    record { first = sym (c.loop-mapping.invariant.first ∙ ap (first_from p (c.loop-mapping.number + 1)) (passage_ended k passage.end passage.own (omega (arith, c.loop-mapping-test.false)))) }

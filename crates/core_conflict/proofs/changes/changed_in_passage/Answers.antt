use Rattle.std.proofs.Common.{◌≡◌, ◌∙◌, ◌+◌, ◌-◌, ◌∷◌, [], ap, refl, sym, map, arith}
use Rattle.std.specs.Option.{option_map}
use Rattle.base_types.specs.Contents.{rules_in}
use Rattle.base_types.specs.Meanings.{change_of, heading_of}
use Rattle.chase_query.specs.Meanings.{finds_none, passing}
use Rattle.chase_query.proofs.Entries.{passage_ended, passage_from}
use Rattle.core_conflict.specs.Looking.{changed_from}
use Rattle.core_conflict.specs.Meanings.{changed_of}
use Rattle.core_conflict.specs.Trails.{trails_of}
use Rattle.core_conflict.proofs.Firsts.{found_among, no_value, none_among}
use Rattle.core_conflict.proofs.changes.changed_in_passage.Goals as goal

pub loop-mapping-init : goal.loop-mapping-init
loop-mapping-init g c = record { sees = c.requires.sees; counted = omega arith; first = refl }

pub overflow_add-number : goal.overflow_add-number
overflow_add-number g c = let e = c.loop-mapping.invariant.counted in let f = c.requires.fits in let l = c.loop-mapping-test.true in omega (arith, e, f, l)

pub changed_read-requires : goal.changed_read-requires
changed_read-requires g c = record { sees = c.loop-mapping.invariant.sees }

pub returns-in-Some-clause-first : goal.returns-in-Some-clause-first
returns-in-Some-clause-first g c =
    let r = c.args.reader.now in
    let ms = rules_in r.mappings.now in
    let h = heading_of r.direction in
    let D = g.F.Facts.tuples c.args.below.now in
    let own = map change_of r.own.now in
    let ts = trails_of c.args.trails.now in
    let passage = c.args.passage.now in
    let k = c.loop-mapping.mapping in
    let n = c.loop-mapping.number in
    let all = changed_from r c.args.trails.now D (c.args.before + 1) (passing passage.start (passage.end - passage.start) passage.own) in
    let here : all ≡ changed_from r c.args.trails.now D (n + 1) (finds_none k passage.own ∷ passing (k + 1) (passage.end - (k + 1)) passage.own) =
    c.loop-mapping.invariant.first ∙ ap (changed_from r c.args.trails.now D (n + 1)) (passage_from k passage.end passage.own c.loop-mapping-test.true) in
    let first = c.in_ok-found.ensures.first ∙ ap (λ q. changed_from r c.args.trails.now D (n + 1) (q ∷ [])) c.finds_none-read.ensures.read in
    found_among ms h D own r.sense ts (n + 1) (finds_none k passage.own ∷ []) (passing (k + 1) (passage.end - (k + 1)) passage.own) all (option_map changed_of c.in_ok-found.found) (changed_of c.in-Some.changed) here first (ap (option_map changed_of) c.in-Some.is)

pub loop-mapping-preserved : goal.loop-mapping-preserved
loop-mapping-preserved g c =
    let r = c.args.reader.now in
    let ms = rules_in r.mappings.now in
    let h = heading_of r.direction in
    let D = g.F.Facts.tuples c.args.below.now in
    let own = map change_of r.own.now in
    let ts = trails_of c.args.trails.now in
    let passage = c.args.passage.now in
    let k = c.loop-mapping.mapping in
    let n = c.loop-mapping.number in
    let all = changed_from r c.args.trails.now D (c.args.before + 1) (passing passage.start (passage.end - passage.start) passage.own) in
    let here : all ≡ changed_from r c.args.trails.now D (n + 1) (finds_none k passage.own ∷ passing (k + 1) (passage.end - (k + 1)) passage.own) =
    c.loop-mapping.invariant.first ∙ ap (changed_from r c.args.trails.now D (n + 1)) (passage_from k passage.end passage.own c.loop-mapping-test.true) in
    let first = c.in_ok-found.ensures.first ∙ ap (λ q. changed_from r c.args.trails.now D (n + 1) (q ∷ [])) c.finds_none-read.ensures.read in
    record {
      sees = c.in_ok-found.ensures.sees;
      counted = (let e = c.loop-mapping.invariant.counted in let l = c.loop-mapping-test.true in omega (arith, e, l));
      first = none_among ms h D own r.sense ts (n + 1) (n + 1 + 1) (finds_none k passage.own ∷ []) (passing (k + 1) (passage.end - (k + 1)) passage.own) all (option_map changed_of c.in_ok-found.found) here first (no_value changed_of c.in_ok-found.found c.in_default.not-Some) refl;
    }

pub returns-clause-sees : goal.returns-clause-sees
returns-clause-sees g c = c.loop-mapping.invariant.sees

pub returns-clause-first : goal.returns-clause-first
returns-clause-first g c =
    let r = c.args.reader.now in
    let D = g.F.Facts.tuples c.args.below.now in
    let passage = c.args.passage.now in
    let k = c.loop-mapping.mapping in
    sym (c.loop-mapping.invariant.first ∙ ap (changed_from r c.args.trails.now D (c.loop-mapping.number + 1)) (passage_ended k passage.end passage.own (omega (arith, c.loop-mapping-test.false))))

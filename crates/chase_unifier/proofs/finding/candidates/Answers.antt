use Rattle.std.proofs.Common.{◌≡◌, ◌∙◌, ◌++◌, ap, sym, map, [], List, Option, Bor, arith}
use Rattle.std.specs.List.{list_all}
use Rattle.std.specs.Option.{option_map, option_copied}
use Rattle.std.specs.Prelude.{filter}
use Rattle.def_chase.specs.Values.{Fact, same_fact}
use Rattle.def_chase.specs.Specific.{is_constant, more_specific}
use Rattle.def_chase.proofs.Searches.{filter_as, filter_within}
use Rattle.base_types.specs.Candidates.{column_of, is_candidate}
use Rattle.base_types.specs.Meanings.{datum_of, fact_of}
use Rattle.base_types.specs.declared.tuples.Tuple.{Tuple}
use Rattle.base_types.proofs.Gathering.{none_left}
use Rattle.chase_match.proofs.Walking.{walk_shorter, nothing_left}
use Rattle.chase_unifier.proofs.Going.{is_among}
use Rattle.chase_unifier.proofs.Ground.{alone}
use Rattle.chase_unifier.proofs.Walked.{all_kept}
use Rattle.chase_unifier.proofs.finding.candidates.Goals as goal

pub loop-held-init : goal.loop-held-init
loop-held-init g c =
    let D = g.F.Facts.tuples c.args.facts.now in
    let t = fact_of c.args.tuple.now in
    let column = option_map column_of c.constant_column-column.result in
    let q = λ (s : Fact). more_specific s t in
    ap (λ (l : List Tuple). map fact_of l ++ filter q c.new-walk.result.left) c.new-found.ensures.empty
    ∙ (ap (filter q) c.new-walk.ensures.all ∙ sym (filter_within q (is_candidate t.relation column) (λ u m. is_among u t column c.constant_column-column.ensures.constant m) D))

pub loop-held-smaller : goal.loop-held-smaller
loop-held-smaller g c =
    let at = ap (λ (o : Option (Bor Tuple)). option_map fact_of (option_copied o)) c.in-Some.is in
    let e = walk_shorter (option_map fact_of (option_copied c.next.result)) (fact_of c.in-Some.held.now) c.loop-held.walk.left c.next.new.self.left at c.next.ensures.step in
    omega (arith, e)

pub returns : goal.returns
returns g c =
    let D = g.F.Facts.tuples c.args.facts.now in
    let q = λ (s : Fact). more_specific s (fact_of c.args.tuple.now) in
    let ended : c.loop-held.walk.left ≡ [] = nothing_left c.next.result (c.loop-held.walk.left ≡ []) (none_left c.next.result c.in_default.not-Some) c.next.ensures.end in
    record { value = all_kept q (map fact_of c.loop-held.found.items) c.loop-held.walk.left (filter q D) ended c.loop-held.invariant }

pub returns-then-is_ground : goal.returns-then-is_ground
returns-then-is_ground g c =
    let D = g.F.Facts.tuples c.args.facts.now in
    let t = fact_of c.args.tuple.now in
    let ground = ap (λ vs. list_all is_constant (map datum_of vs)) (sym c.as_slice.ensures.items) ∙ (sym c.is_ground.ensures.ground ∙ c.if-is_ground.true) in
    record { value = c.in_ok-same.ensures.same ∙ filter_as (same_fact t) (λ s. more_specific s t) (alone t ground) D }

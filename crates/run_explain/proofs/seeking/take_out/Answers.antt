use Rattle.std.proofs.Common.{◌∙◌, ap, sym, map, not, filter, List}
use Rattle.std.proofs.lemmas.List.{map_push}
use Rattle.base_types.specs.Meanings.{fact_of}
use Rattle.def_chase.specs.Values.{Fact}
use Rattle.def_chase.specs.Repository.{has}
use Rattle.run_explain.proofs.Sought.{all_left, none_taken, taken_next}
use Rattle.run_explain.proofs.seeking.take_out.Goals as goal

pub loop-tuple-init : goal.loop-tuple-init
loop-tuple-init c =
    record {
      left = sym (all_left c.args.sought.now);
      taken = c.new-taken.ensures.empty ∙ sym (none_taken c.args.sought.now);
    }

pub loop-tuple-preserved : goal.loop-tuple-preserved
loop-tuple-preserved c =
    let S = c.args.sought.now in
    let push = sym (map_push fact_of c.loop-tuple.yielded c.in-Some.tuple) in
    let next =
    taken_next S c.loop-tuple.sought c.loop-tuple.taken c.take_one.new.sought c.take_one.new.taken (map fact_of c.loop-tuple.yielded) (fact_of c.in-Some.tuple)
    c.requires.sorted c.loop-tuple.invariant.left c.loop-tuple.invariant.taken c.in_ok-take_one.ensures.left c.in_ok-take_one.ensures.taken in
    record {
      left = next.0 ∙ ap (λ (ts : List Fact). filter (λ t. not (has ts t)) S) push;
      taken = next.1 ∙ ap (λ (ts : List Fact). filter (has ts) S) push;
    }

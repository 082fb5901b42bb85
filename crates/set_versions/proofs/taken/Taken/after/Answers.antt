use Rattle.std.proofs.Common.{◌∙◌, ap, find, subst, Some}
use Rattle.std.specs.Option.{option_map}
use Rattle.base_types.specs.Meanings.{fact_of}
use Rattle.base_types.specs.declared.tuples.Tuple.{Tuple}
use Rattle.def_chase.specs.Cursors.{is_past}
use Rattle.def_chase.specs.Repository.{IsRepository}
use Rattle.set_versions.proofs.Passed.{taken_in_order}
use Rattle.set_versions.proofs.Taking.{first_taken}
use Rattle.set_versions.proofs.taken.Taken.after.Goals as goal

pub returns-in-Some-clause-found : goal.returns-in-Some-clause-found
returns-in-Some-clause-found c =
    let t = fact_of c.args.tuple.now in
    ap (λ (s : Tuple). Some (fact_of s)) c.get.ensures ∙ ap (option_map (λ e. fact_of e.0)) c.in-Some.ensures.found
    ∙ first_taken t.relation (Some t) c.self.inside.tuples ∙ ap (find (is_past t)) c.self.view_is

pub returns-in-Some-clause-in_order : goal.returns-in-Some-clause-in_order
returns-in-Some-clause-in_order c = subst IsRepository c.self.view_is (taken_in_order c.self.inside.tuples c.find_in.ensures.in_order)

pub returns-in-None-clause-found : goal.returns-in-None-clause-found
returns-in-None-clause-found c =
    let t = fact_of c.args.tuple.now in
    ap (option_map (λ e. fact_of e.0)) c.in-None.ensures.found ∙ first_taken t.relation (Some t) c.self.inside.tuples ∙ ap (find (is_past t)) c.self.view_is

pub returns-in-None-clause-in_order : goal.returns-in-None-clause-in_order
returns-in-None-clause-in_order c = subst IsRepository c.self.view_is (taken_in_order c.self.inside.tuples c.find_in.ensures.in_order)

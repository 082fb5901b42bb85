use Rattle.std.proofs.Common.{◌∙◌, ap, [], List, None, refl, find}
use Rattle.std.specs.Option.{option_map, option_copied}
use Rattle.def_chase.specs.Values.{Fact}
use Rattle.base_types.specs.Candidates.{is_holding}
use Rattle.base_types.specs.Meanings.{fact_of}
use Rattle.set_facts.proofs.ByNull.{holding_kept}
use Rattle.set_facts.proofs.Held.{empty_in_order}
use Rattle.set_facts.proofs.indexed.IndexedFactsFacts.holding.Goals as goal

pub returns-in-Some-clause-found : goal.returns-in-Some-clause-found
returns-in-Some-clause-found c =
    let past = option_map fact_of (option_copied c.args.past) in
    holding_kept c.self.inside.all c.self.inside.by_null c.args.name.update c.args.name.place past c.in-Some.group.now (option_map fact_of (option_copied c.beyond.result)) c.self.invariant.0 c.self.invariant.2 c.in-Some.ensures.kept c.beyond.ensures.in_order c.beyond.ensures.found
    ∙ ap (λ (E : List Fact). find (is_holding c.args.name.update c.args.name.place past) E) c.self.view_is

pub returns-in-None-clause-found : goal.returns-in-None-clause-found
returns-in-None-clause-found c =
    let past = option_map fact_of (option_copied c.args.past) in
    holding_kept c.self.inside.all c.self.inside.by_null c.args.name.update c.args.name.place past [] None c.self.invariant.0 c.self.invariant.2 c.in-None.ensures.kept empty_in_order refl
    ∙ ap (λ (E : List Fact). find (is_holding c.args.name.update c.args.name.place past) E) c.self.view_is

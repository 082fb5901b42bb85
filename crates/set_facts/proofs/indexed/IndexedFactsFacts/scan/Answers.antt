use Rattle.std.proofs.Common.{◌∙◌, ap, [], List, None, refl}
use Rattle.std.specs.Option.{option_map, option_copied}
use Rattle.def_chase.specs.Values.{Fact}
use Rattle.def_chase.specs.Cursors.{scan_of}
use Rattle.base_types.specs.Meanings.{fact_of, datum_of}
use Rattle.set_facts.proofs.Held.{empty_in_order}
use Rattle.set_facts.proofs.Indexing.{scan_indexed}
use Rattle.set_facts.proofs.indexed.IndexedFactsFacts.scan.Goals as goal

pub returns-in-Some-clause-found : goal.returns-in-Some-clause-found
returns-in-Some-clause-found c =
    let past = option_map fact_of (option_copied c.args.past) in
    let d = datum_of c.args.value.now in
    scan_indexed c.self.inside.all c.self.inside.relations.items c.args.relation c.args.column d past c.in-Some.group.now (option_map fact_of (option_copied c.beyond.result)) c.self.invariant.0 c.self.invariant.1 c.in-Some.ensures.kept c.beyond.ensures.in_order c.beyond.ensures.found
    ∙ ap (λ (E : List Fact). scan_of E c.args.relation c.args.column d past) c.self.view_is

pub returns-in-None-clause-found : goal.returns-in-None-clause-found
returns-in-None-clause-found c =
    let past = option_map fact_of (option_copied c.args.past) in
    let d = datum_of c.args.value.now in
    scan_indexed c.self.inside.all c.self.inside.relations.items c.args.relation c.args.column d past [] None c.self.invariant.0 c.self.invariant.1 c.in-None.ensures.kept empty_in_order refl
    ∙ ap (λ (E : List Fact). scan_of E c.args.relation c.args.column d past) c.self.view_is

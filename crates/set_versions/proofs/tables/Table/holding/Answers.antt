use Rattle.std.proofs.Common.{ap, ◌∙◌, ◌&&◌, find}
use Rattle.std.specs.Option.{option_map, option_copied}
use Rattle.base_types.specs.Candidates.{is_holding}
use Rattle.base_types.specs.Meanings.{fact_of}
use Rattle.def_chase.specs.Queries.{holds_null}
use Rattle.set_versions.specs.Marked.{visible, stands}
use Rattle.set_versions.specs.Zones.{place_beyond}
use Rattle.set_versions.proofs.Drawing.{none_holding}
use Rattle.set_versions.proofs.Seeing.{seen_by, holding_same, seen_in_order}
use Rattle.set_versions.proofs.tables.Table.holding.Goals as goal

pub returns-clause-found : goal.returns-clause-found
returns-clause-found c =
    let n = c.args.number in
    let u = c.args.name.update in
    let k = c.args.name.place in
    let past = option_map fact_of (option_copied c.args.past) in
    seen_by n (is_holding u k past) (λ x. place_beyond past (fact_of x)) (λ f. stands n f.1 && holds_null u k (fact_of f.0)) (holding_same n u k past) c.self.inside.rows _ _ c.find_in.ensures.found c.tuple_in.ensures
    ∙ ap (λ es. find (is_holding u k past) (visible n es)) c.self.view_is

pub returns-clause-in_order : goal.returns-clause-in_order
returns-clause-in_order c = seen_in_order c.args.number c.self.view_is c.find_in.ensures.in_order

pub returns-then-self-name-clause-found : goal.returns-then-self-name-clause-found
returns-then-self-name-clause-found c =
    let n = c.args.number in
    let u = c.args.name.update in
    let k = c.args.name.place in
    let past = option_map fact_of (option_copied c.args.past) in
    none_holding n c.self.inside.newest u k past c.self.inside.rows c.self.invariant.2 c.if-self-name.true
    ∙ ap (λ es. find (is_holding u k past) (visible n es)) c.self.view_is

pub returns-then-self-name-clause-in_order : goal.returns-then-self-name-clause-in_order
returns-then-self-name-clause-in_order c = seen_in_order c.args.number c.self.view_is c.self.invariant.0.order

use Rattle.std.proofs.Common.{ap, ◌∙◌, None, find}
use Rattle.base_types.specs.Meanings.{fact_of}
use Rattle.def_chase.specs.Cursors.{is_of}
use Rattle.set_versions.specs.Marked.{visible, stands}
use Rattle.set_versions.specs.Zones.{place_of}
use Rattle.set_versions.proofs.Seeing.{seen_by, first_same, seen_in_order}
use Rattle.set_versions.proofs.tables.Table.first.Goals as goal

pub returns-clause-found : goal.returns-clause-found
returns-clause-found c =
    let n = c.args.number in
    let r = c.args.relation in
    seen_by n (is_of r) (λ k. place_of r None (fact_of k)) (λ f. stands n f.1) (first_same n r) c.self.inside.rows _ _ c.find_in.ensures.found c.tuple_in.ensures
    ∙ ap (λ es. find (is_of r) (visible n es)) c.self.view_is

pub returns-clause-in_order : goal.returns-clause-in_order
returns-clause-in_order c = seen_in_order c.args.number c.self.view_is c.find_in.ensures.in_order

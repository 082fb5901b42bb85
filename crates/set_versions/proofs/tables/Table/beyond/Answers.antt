use Rattle.std.proofs.Common.{ap, ◌∙◌, find}
use Rattle.std.specs.Option.{option_map, option_copied}
use Rattle.base_types.specs.Meanings.{fact_of}
use Rattle.def_chase.specs.Cursors.{is_beyond}
use Rattle.set_versions.specs.Marked.{visible, stands}
use Rattle.set_versions.specs.Zones.{place_beyond}
use Rattle.set_versions.proofs.Seeing.{seen_by, beyond_same, seen_in_order}
use Rattle.set_versions.proofs.tables.Table.beyond.Goals as goal

pub returns-clause-found : goal.returns-clause-found
returns-clause-found c =
    let n = c.args.number in
    let past = option_map fact_of (option_copied c.args.past) in
    seen_by n (is_beyond past) (λ k. place_beyond past (fact_of k)) (λ f. stands n f.1) (beyond_same n past) c.self.inside.rows _ _ c.find_in.ensures.found c.tuple_in.ensures
    ∙ ap (λ es. find (is_beyond past) (visible n es)) c.self.view_is

pub returns-clause-in_order : goal.returns-clause-in_order
returns-clause-in_order c = seen_in_order c.args.number c.self.view_is c.find_in.ensures.in_order

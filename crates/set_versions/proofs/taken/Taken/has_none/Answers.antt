use Rattle.std.proofs.Common.{◌∙◌, ap, map, sym, true, None, List}
use Rattle.std.specs.Option.{option_map, option_copied}
use Rattle.base_types.specs.Candidates.{further_candidates}
use Rattle.base_types.specs.Meanings.{fact_of}
use Rattle.def_chase.specs.Values.{Fact}
use Rattle.base_tree.specs.Orders.{is_sought}
use Rattle.set_versions.specs.Zones.{place_of}
use Rattle.set_versions.proofs.Gathering.{zone_candidates}
use Rattle.set_versions.proofs.Taking.{none_sought, zone_taken}
use Rattle.set_versions.proofs.taken.Taken.has_none.Goals as goal

pub returns : goal.returns
returns c =
    let r = c.args.relation in
    let past = option_map fact_of (option_copied c.args.past) in
    let es = c.self.inside.tuples in
    record {
      none = λ told.
          ap (λ (D : List Fact). further_candidates D r None past) (sym c.self.view_is) ∙ sym (zone_candidates (map (λ e. fact_of e.0) es) r past)
          ∙ sym (zone_taken r past es) ∙ ap (λ l. map fact_of (map (λ e. e.0) l)) (none_sought (is_sought (λ k. place_of r past (fact_of k)) (λ _. true)) es c.find_in-found.result c.find_in-found.ensures.found c.is_none.result told c.is_none.ensures);
    }

use Rattle.std.proofs.Common.{◌∙◌, ap, sym, map}
use Rattle.std.specs.Option.{option_map, option_copied}
use Rattle.std.specs.Prelude.{filter}
use Rattle.def_chase.specs.Cursors.{is_beyond}
use Rattle.def_chase.proofs.Searches.{filter_all}
use Rattle.base_types.specs.Meanings.{fact_of}
use Rattle.set_facts.proofs.listed.ListedFacts.all_beyond.Goals as goal

pub returns-in-None-clause-tuples : goal.returns-in-None-clause-tuples
returns-in-None-clause-tuples c =
    ap (map fact_of) c.as_slice-tuples.ensures.value
    ∙ c.self.view_is
    ∙ sym (filter_all c.args.self.now)
    ∙ (λ i. filter (is_beyond (option_map fact_of (option_copied (sym c.in-None.is i)))) c.args.self.now)

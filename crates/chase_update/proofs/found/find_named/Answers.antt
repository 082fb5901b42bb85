use Rattle.std.proofs.Common.{rules, tests, ◌∙◌}
use Rattle.std.proofs.lemmas.Iterator.Search.{find_from_yields_List}
use Rattle.def_chase.specs.Queries.{is_named}
use Rattle.base_types.specs.Meanings.{datum_of}
use Rattle.base_types.proofs.Iterated.{mapped_from_slice, read_found}
use Rattle.chase_update.proofs.found.find_named.Goals as goal

pub returns : goal.returns
returns c =
    let found = find_from_yields_List (is_named c.args.name.update c.args.name.place) _ _ _ c.find.ensures.ran (mapped_from_slice datum_of c.args.values.now cc) (λ x b q k. search (rules, tests)) in
    record { found = read_found datum_of c.find.result ∙ found }

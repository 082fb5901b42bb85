use Rattle.std.proofs.Common.{rules, tests}
use Rattle.std.proofs.lemmas.Iterator.{YieldsList-from_zip}
use Rattle.std.proofs.lemmas.Iterator.Search.{find_from_yields_List}
use Rattle.def_chase.specs.Values.{Datum, same_datum}
use Rattle.def_chase.specs.Specific.{graph}
use Rattle.base_types.specs.Meanings.{datum_of, fact_of}
use Rattle.base_types.proofs.Iterated.{mapped_from_slice}
use Rattle.chase_unifier.proofs.Graphs.{image_found, image_missing}
use Rattle.chase_unifier.proofs.specific.image_of.Goals as goal

pub returns-in-Some : goal.returns-in-Some
returns-in-Some c =
    let x = datum_of c.args.value.now in
    let found = find_from_yields_List (λ (p : Datum × Datum). same_datum p.0 x) c.find-found.new.self _ c.find-found.result c.find-found.ensures.ran
    (YieldsList-from_zip (mapped_from_slice datum_of c.args.tuple.now.values.items cc) (mapped_from_slice datum_of c.args.specific.now.values.items cc)) (λ y b q k. search (rules, tests)) in
    record { image = image_found x (graph (fact_of c.args.tuple.now) (fact_of c.args.specific.now)) c.find-found.result found c.in-Some.pair c.in-Some.is }

pub returns-in-None : goal.returns-in-None
returns-in-None c =
    let x = datum_of c.args.value.now in
    let found = find_from_yields_List (λ (p : Datum × Datum). same_datum p.0 x) c.find-found.new.self _ c.find-found.result c.find-found.ensures.ran
    (YieldsList-from_zip (mapped_from_slice datum_of c.args.tuple.now.values.items cc) (mapped_from_slice datum_of c.args.specific.now.values.items cc)) (λ y b q k. search (rules, tests)) in
    record { image = image_missing x (graph (fact_of c.args.tuple.now) (fact_of c.args.specific.now)) c.find-found.result found c.in-None.is }

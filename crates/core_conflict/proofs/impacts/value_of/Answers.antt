use Rattle.std.proofs.Common.{map, rules, tests}
use Rattle.std.proofs.lemmas.Iterator.{YieldsList-from_zip}
use Rattle.std.proofs.lemmas.Iterator.Search.{find_from_yields_List}
use Rattle.std.specs.List.{zip}
use Rattle.base_types.proofs.Iterated.{mapped_from_slice}
use Rattle.base_types.specs.Meanings.{datum_of, slot_of}
use Rattle.def_chase.specs.Mappings.{Slot}
use Rattle.def_chase.specs.Values.{Datum}
use Rattle.core_conflict.specs.Impacts.{is_var}
use Rattle.core_conflict.proofs.Finding.{value_found, value_missing}
use Rattle.core_conflict.proofs.impacts.value_of.Goals as goal

pub returns-in-Some : goal.returns-in-Some
returns-in-Some c =
    let found = find_from_yields_List (λ (p : Slot × Datum). is_var c.args.variable p.0) c.find-found.new.self _ c.find-found.result c.find-found.ensures.ran
    (YieldsList-from_zip (mapped_from_slice slot_of c.args.terms.now cc) (mapped_from_slice datum_of c.args.values.now cc)) (λ y b q k. search (rules, tests)) in
    record { value = value_found c.args.variable (zip (map slot_of c.args.terms.now) (map datum_of c.args.values.now)) c.find-found.result found c.in-Some.pair c.in-Some.is }

pub returns-in-None : goal.returns-in-None
returns-in-None c =
    let found = find_from_yields_List (λ (p : Slot × Datum). is_var c.args.variable p.0) c.find-found.new.self _ c.find-found.result c.find-found.ensures.ran
    (YieldsList-from_zip (mapped_from_slice slot_of c.args.terms.now cc) (mapped_from_slice datum_of c.args.values.now cc)) (λ y b q k. search (rules, tests)) in
    record { value = value_missing c.args.variable (zip (map slot_of c.args.terms.now) (map datum_of c.args.values.now)) c.find-found.result found c.in-None.is }

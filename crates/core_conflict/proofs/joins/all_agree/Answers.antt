use Rattle.std.proofs.Common.{rules, tests}
use Rattle.std.proofs.lemmas.Iterator.{YieldsList-from_zip}
use Rattle.std.proofs.lemmas.Iterator.Search.{all_from_yields_List}
use Rattle.base_types.proofs.Iterated.{mapped_from_slice}
use Rattle.std.specs.List.{list_all}
use Rattle.base_types.specs.Meanings.{datum_of, fact_of, pattern_of, slot_of}
use Rattle.core_conflict.specs.Concerns.{agree, columns}
use Rattle.core_conflict.proofs.joins.all_agree.Goals as goal

pub returns : goal.returns
returns c =
    all_from_yields_List (λ p. list_all (agree p) (columns (pattern_of c.args.other.now) (fact_of c.args.tuple.now))) c.all.new.self _ _ c.all.ensures.ran
    (YieldsList-from_zip (mapped_from_slice slot_of c.args.atom.now.terms.items cc) (mapped_from_slice datum_of c.args.own.now.values.items cc)) (λ y b q k. search (rules, tests))

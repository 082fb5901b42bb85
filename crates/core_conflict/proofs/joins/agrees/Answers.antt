use Rattle.std.proofs.Common.{rules, tests}
use Rattle.std.proofs.lemmas.Iterator.{YieldsList-from_zip}
use Rattle.std.proofs.lemmas.Iterator.Search.{all_from_yields_List}
use Rattle.base_types.proofs.Iterated.{mapped_from_slice}
use Rattle.base_types.specs.Meanings.{datum_of, slot_of}
use Rattle.core_conflict.specs.Concerns.{agree}
use Rattle.core_conflict.proofs.joins.agrees.Goals as goal

pub returns : goal.returns
returns c =
    all_from_yields_List (agree (slot_of c.args.term.now, datum_of c.args.value.now)) c.all.new.self _ _ c.all.ensures.ran
    (YieldsList-from_zip (mapped_from_slice slot_of c.args.other.now.terms.items cc) (mapped_from_slice datum_of c.args.tuple.now.values.items cc)) (λ y b q k. search (rules, tests))

use Rattle.std.proofs.Common.{rules, tests}
use Rattle.std.proofs.lemmas.Iterator.Search.{all_from_yields_List}
use Rattle.base_types.specs.Meanings.{slot_of}
use Rattle.base_types.proofs.Iterated.{mapped_from_slice}
use Rattle.def_language.specs.Cycles.{is_plain_slot}
use Rattle.lang_checks.proofs.cycles.is_plain.Goals as goal

pub returns : goal.returns
returns c = record {
  plain = all_from_yields_List (is_plain_slot c.args.universal) c.all.new.self _ _ c.all.ensures.ran (mapped_from_slice slot_of c.args.atom.now.terms.items cc) (λ x b q k. search (rules, tests));
}

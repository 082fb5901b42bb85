use Rattle.std.specs.Prelude.{◌≡◌, ℕ, List, Option, Some, None, IfSome, is_some, true}
use Rattle.std.proofs.Common.{sym, ◌∙◌}
use Rattle.std.specs.Str.{IsValidUpTo}
use Rattle.std.proofs.lemmas.Bool.{false≢true}
use Rattle.def_language.specs.Statements.{WrittenFact}
use Rattle.lang_reader.specs.Facts.{SpellsFact}
use Rattle.lang_reader.proofs.Encoded.{not_utf8}
use Rattle.lang_reader.proofs.tuples.read_fact.Goals as goal

stopped : (end : Option ℕ) (text : List ℕ) → is_some end ≡ true → IfSome end (IsValidUpTo text) → (fact : WrittenFact) → SpellsFact text fact → ⊥
stopped (Some place) text some stop fact spelled = not_utf8 text place stop spelled.utf8
stopped None text some stop fact spelled = absurd (false≢true some)

pub returns-then-is_some-clause-none : goal.returns-then-is_some-clause-none
returns-then-is_some-clause-none c = stopped c.utf8_end.result c.args.text.now (sym c.is_some.ensures ∙ c.if-is_some.true) c.utf8_end.ensures.place

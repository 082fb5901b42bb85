use Rattle.std.proofs.Common.{◌≡◌, ◌∷◌, take}
use Rattle.std.specs.Prelude.{flat_map}
use Rattle.def_language.specs.Words.{comma}
use Rattle.lang_schema.specs.Pages.{with_words}
use Rattle.lang_print.proofs.worded.with_others.Given as goal

abbrev pub invariant-loop-item : goal.invariant-loop-item
invariant-loop-item g l = l.page ≡ with_words l.initial.page (flat_map (λ x. comma ∷ g.T.Worded.words l.schema x) (take l.item-index l.items))

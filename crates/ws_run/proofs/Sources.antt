-- The source of a mapping in force.
use Rattle.std.proofs.Common.{◌≡◌, ◌∙◌, ap, refl, sym, ℕ, zero, suc, List, [], ◌∷◌, Option, Some, None}
use Rattle.std.specs.Option.{option_map}
use Rattle.std.specs.List.{slice_get}
use Rattle.def_chase.specs.Mappings.{Rule}
use Rattle.def_workspace.specs.Lines.{Source}
use Rattle.def_workspace.specs.Runs.{rules_of, source_at}
use Rattle.ws_lines.specs.declared.answers.Source.{Source as SourceOfProgram}
use Rattle.ws_run.specs.Meanings.{active_of, source_or}

-- Each mapping has a source.
pub source_at_is : (ss : List SourceOfProgram) (rs : List Rule) (n : ℕ) → source_at (active_of ss rs) n ≡ option_map (λ (r : Rule). source_or ss n) (slice_get rs n)
source_at_is ss [] n = refl
source_at_is [] (r ∷ rs) zero = refl
source_at_is [] (r ∷ rs) (suc n) = source_at_is [] rs n
source_at_is (s ∷ ss) (r ∷ rs) zero = refl
source_at_is (s ∷ ss) (r ∷ rs) (suc n) = source_at_is ss rs n

pub source_there : (ss : List SourceOfProgram) (rs : List Rule) (n : ℕ) (r : Rule) (s : Source) → Some r ≡ slice_get rs n → s ≡ source_or ss n
    → Some s ≡ source_at (active_of ss rs) n
source_there ss rs n r s there is =
    ap Some is ∙ ap (option_map (λ (q : Rule). source_or ss n)) there ∙ sym (source_at_is ss rs n)

pub source_not : (ss : List SourceOfProgram) (rs : List Rule) (n : ℕ) → None ≡ slice_get rs n → None ≡ source_at (active_of ss rs) n
source_not ss rs n not_there = ap (option_map (λ (q : Rule). source_or ss n)) not_there ∙ sym (source_at_is ss rs n)

-- The mappings in force are those.
pub rules_are : (ss : List SourceOfProgram) (rs : List Rule) → rules_of (active_of ss rs) ≡ rs
rules_are ss [] = refl
rules_are [] (r ∷ rs) = ap (λ (qs : List Rule). r ∷ qs) (rules_are [] rs)
rules_are (s ∷ ss) (r ∷ rs) = ap (λ (qs : List Rule). r ∷ qs) (rules_are ss rs)

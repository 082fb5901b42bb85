-- What an option spells.
use Rattle.std.proofs.Common.{◌≡◌, ◌∙◌, Option, None, Some, Result, Ok, Err, IfOk, IfNone, sym, subst}
use Rattle.clap.specs.Words.{Text as Letters}

one_text : (t u : Letters) → Some t ≡ Some u → t ≡ u
one_text t u is = cc

-- where the one text spells nothing, an option with that text spells nothing
pub lacking : {A E W : Type 0} (Spells : Letters → W → Type 0) (given : Option Letters) (text : Letters) (r : Result (Option A) E) → given ≡ Some text
    → IfOk r (λ found. IfNone found ((w : W) → Spells text w → ⊥)) → IfOk r (λ found. IfNone found ((w : W) → ((t : Letters) × (given ≡ Some t) × Spells t w) → ⊥))
lacking Spells given text (Ok (Some raw)) is none = none
lacking Spells given text (Ok None) is none = λ w asks. none w (subst (λ (t : Letters). Spells t w) (one_text asks.0 text (sym asks.1 ∙ is)) asks.2)
lacking Spells given text (Err e) is none = none

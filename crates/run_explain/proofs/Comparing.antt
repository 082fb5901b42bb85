-- Reasons that are those of an explanation.
use Rattle.std.proofs.Common.{◌≡◌, ◌∙◌, ap, sym, Bool, true, ◌↔◌, List, Option, Some}
use Rattle.def_provenance.specs.Reasons.{Reason}

-- Where these reasons explain something, others do so exactly where the two are the same.
pub told_alike : (b : Bool) (rs ss : List Reason) (e : Option (List Reason)) → Some rs ≡ e → (b ≡ true) ↔ (rs ≡ ss) → (b ≡ true) ↔ (e ≡ Some ss)
told_alike b rs ss e told d = (λ h. sym told ∙ ap Some (d.0 h), λ h. d.1 (here (told ∙ h)))
  where
    here : Some rs ≡ Some ss → rs ≡ ss
    here f = cc

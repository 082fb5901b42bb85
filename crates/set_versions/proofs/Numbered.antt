-- The trails of a list of items, by number, are those of the list in order.
use Rattle.std.proofs.Common.{◌≡◌, ℕ, zero, suc, ap, refl, sym, ◌∙◌, List, [], ◌∷◌, ◌++◌, append_assoc, append-nil, take}
use Rattle.std.specs.List.{flat_map, slice_get}
use Rattle.def_machine.specs.Updates.{trail}
use Rattle.def_chase.specs.Repository.{Change, apply}
use Rattle.def_steps.specs.Chase.{chase}
use Rattle.set_versions.specs.Standing.{BelowLaw}
use Rattle.set_versions.specs.Trails.{writes_below, trail_at, numbered}
use Rattle.set_versions.proofs.Seen.{seen_is_applied}

module _ {X : Type 0} (f : X → List Change) where
  one_more : (us : List X) (k : ℕ) → flat_map f (take k us) ++ trail_at f (slice_get us k) ≡ flat_map f (take (suc k) us)
  one_more [] zero = refl
  one_more [] (suc k) = refl
  one_more (u ∷ us) zero = sym (append-nil (f u))
  one_more (u ∷ us) (suc k) = append_assoc (f u) (flat_map f (take k us)) (trail_at f (slice_get us k)) ∙ ap (λ ws. f u ++ ws) (one_more us k)

  -- The writes below update k + 1 are those of the first k items.
  pub below_numbered : (us : List X) (k : ℕ) → writes_below (numbered f us) (suc k) ≡ flat_map f (take k us)
  below_numbered us zero = refl
  below_numbered us (suc k) = ap (λ ws. ws ++ trail_at f (slice_get us k)) (below_numbered us k) ∙ one_more us k

pub below_is_seen : BelowLaw
below_is_seen scope ms B v D us d for k =
    seen_is_applied v D (numbered (trail (chase scope ms B)) us) d for (suc k) ∙ ap (apply D) (below_numbered (trail (chase scope ms B)) us k)

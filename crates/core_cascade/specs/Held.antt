-- Versions that hold the trails of a history's updates from a number on.
use Rattle.std.specs.Prelude.{◌≡◌, ℕ, suc, List, [], ◌∷◌, ◌++◌, length}
use Rattle.std.specs.List.{flat_map}
use Rattle.def_machine.specs.Updates.{Update, trail}
use Rattle.def_chase.specs.Mappings.{Rule}
use Rattle.def_chase.specs.Repository.{Change, IsRepository, apply}
use Rattle.def_chase.specs.Values.{Fact}
use Rattle.def_steps.specs.Chase.{caused_chase}
use Rattle.set_versions.specs.Standing.{Kept, StandFor, seen}
use Rattle.set_versions.specs.Trails.{numbered}

module _ (ms : List Rule) (B : ℕ) where
  -- The trails from number n on are the trails of the updates.
  abbrev pub AreTrails : (ℕ → List Change) → ℕ → List (Update (caused_chase ms B)) → Type 0
  AreTrails trails n [] = Unit {0}
  AreTrails trails n (u ∷ us) = (trails n ≡ trail (caused_chase ms B) u) × AreTrails trails (suc n) us

  -- The versions are of a history's updates over D, in number order from 1.
  pub record AreVersions (D : List Fact) (us : List (Update (caused_chase ms B))) (v : Kept) : Type 0 where
    pub sorted : IsRepository D
    pub stand : StandFor v D (numbered (trail (caused_chase ms B)) us)

  -- The versions are of some base and some trails, of which those from number n on are the trails of the updates.
  pub record HoldFrom (n : ℕ) (us : List (Update (caused_chase ms B))) (v : Kept) : Type 0 where
    pub base : List Fact
    pub trails : ℕ → List Change
    pub sorted : IsRepository base
    pub stand : StandFor v base trails
    pub above : AreTrails trails n us

  -- What lies above the lower updates.
  abbrev pub laid : List Fact → List (Update (caused_chase ms B)) → List Fact
  laid D lower = apply D (flat_map (trail (caused_chase ms B)) lower)

  -- What lies above the next update too.
  abbrev pub above : List Fact → List (Update (caused_chase ms B)) → Update (caused_chase ms B) → List Fact
  above D lower u = apply (laid D lower) (trail (caused_chase ms B) u)

-- Versions of a history's updates hold the trails of the upper ones, and the first of these sees what the lower ones leave.
pub record TrailsHeld (ms : List Rule) (B : ℕ) (D : List Fact) (lower upper : List (Update (caused_chase ms B))) (v : Kept) : Type 0 where
  pub held : HoldFrom ms B (suc (length lower)) upper v
  pub below : seen (suc (length lower)) v ≡ laid ms B D lower

-- For every history, its versions hold the trails of the upper updates.
abbrev pub TrailsAreHeld : Type 0
TrailsAreHeld =
    (ms : List Rule) (B : ℕ) (D : List Fact) (lower upper : List (Update (caused_chase ms B))) (v : Kept)
    → AreVersions ms B D (lower ++ upper) v → TrailsHeld ms B D lower upper v

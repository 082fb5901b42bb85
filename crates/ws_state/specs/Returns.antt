-- A point to go back to, and what stands after the state has gone back to it.
use Rattle.std.specs.Prelude.{◌≡◌, ℕ, ◌≤◌, Bool, false, List, [], ◌∷◌, map, length, drop, take, Option, Some}
use Rattle.base_types.specs.Meanings.{change_of}
use Rattle.ws_ground.specs.Trails.{before}
use Rattle.ws_state.specs.declared.latest.Latest.{Latest}
use Rattle.ws_state.specs.declared.points.Point.{Point}
use Rattle.ws_state.specs.declared.points.WorldBefore.{WorldBefore}
use Rattle.ws_state.specs.declared.worlds.World.{World}
use Rattle.ws_state.specs.declared.states.State.{State}
use Rattle.ws_state.specs.Stands.{WhatStands, what_stands, GoesOn, HasGoneOn}

-- What was kept of what stands: the amount written, the mappings in force and gone, and the number of updates that stand.
pub record IsPlaceIn (w : World) (b : WorldBefore) : Type 0 where
  pub trail : b.ground.trail ≡ length w.ground.trail.items
  pub in_force : b.in_force.items ≡ w.in_force.items
  pub gone : b.gone.items ≡ w.gone.items
  pub order : b.order ≡ length w.order.items

-- If t has gone on from s by runs, and u from t, then u has gone on from s by runs.
abbrev pub RunsAddUp : Type 0
RunsAddUp = (s t u : State) → HasGoneOn s t → HasGoneOn t u → HasGoneOn s u

-- The point was taken of this state; it also holds the number of replays so far.
pub record IsPointOf (s : State) (p : Point) : Type 0 where
  pub world : IsPlaceIn s.world p.world
  pub replays : p.replays ≡ s.replays

-- What stands is taken back to what was kept of it.
pub record IsBackAt (b : WorldBefore) (v : WhatStands) (w : WhatStands) : Type 0 where
  pub facts : w.facts ≡ before (map change_of (drop b.ground.trail v.trail)) v.facts
  pub trail : w.trail ≡ take b.ground.trail v.trail
  pub in_force : w.in_force ≡ b.in_force.items
  pub gone : w.gone ≡ b.gone.items
  pub order : w.order ≡ take b.order v.order

-- The way back from t by the point leads to u. If the point was taken of a state from which t has gone on, then the same stands
-- in u as in that state.
pub record LeadsBack (p : Point) (t : State) (u : State) : Type 0 where
  pub stands : (s : State) → IsPointOf s p → HasGoneOn s t → what_stands u.world ≡ what_stands s.world

-- ---- the latest update

-- What is kept before the update of number n runs over w.
pub record IsKept (w : World) (n : ℕ) (l : Latest) : Type 0 where
  pub number : l.number ≡ n
  pub waiting : l.waiting ≡ length w.waiting.items
  pub world : IsPlaceIn w l.world

-- The latest update has number n. It was said over what stands in s, which is kept in t.
pub record WasSaid (n : ℕ) (s t : State) : Type 0 where
  pub latest : Latest
  pub there : t.latest ≡ Some latest
  pub kept : IsKept s.world n latest
  pub goes_on : GoesOn s.world t.world

-- The numbers are not exactly the latest update's number, or fewer updates wait than before it, or a mapping was declared once
-- more.
pub record IsAnother (ns : List ℕ) (waiting : ℕ) (again : Bool) (kept : Option Latest) : Type 0 where
  pub other : (l : Latest) → kept ≡ Some l → ns ≡ l.number ∷ [] → l.waiting ≤ waiting → again ≡ false → ⊥

-- The way from t to u is an undo of these updates. Suppose they are the latest update alone, said over what stands in s, no fewer
-- updates wait in t than in s, and no mapping was declared once more since the last replay. Then the same stands in u as in s.
pub record TakesBack (ns : List ℕ) (t u : State) : Type 0 where
  pub stands : (n : ℕ) (s : State) → ns ≡ n ∷ [] → WasSaid n s t → length s.world.waiting.items ≤ length t.world.waiting.items
      → t.redeclared ≡ false → what_stands u.world ≡ what_stands s.world

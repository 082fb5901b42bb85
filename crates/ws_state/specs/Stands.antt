-- What stands, and what stood at the last fold, before a call and after it.
use Rattle.std.specs.Prelude.{◌≡◌, ℕ, List, map, length, drop, take}
use Rattle.base_types.specs.Meanings.{change_of}
use Rattle.base_types.specs.declared.updates.Write.{Write}
use Rattle.def_chase.specs.Values.{Fact}
use Rattle.ws_ground.specs.Trails.{HasGrown, before, first_facts}
use Rattle.ws_lines.specs.declared.lines.Line.{Line}
use Rattle.ws_lines.specs.declared.lines.Line.TheVariants.{Update as Says, Answer as Answers, Go as Goes, Undo as Undoes, Redo as Redoes, Forget as Forgets, Relation as DeclaresRelation, Mapping as DeclaresMapping}
use Rattle.ws_state.specs.declared.worlds.Standing.{Standing}
use Rattle.ws_state.specs.declared.worlds.World.{World}
use Rattle.ws_state.specs.declared.states.State.{State}

-- What stands: the tuples and what was written since the fold, the mappings in force and the mappings that are gone, and the
-- updates that stand, in their order.
pub record WhatStands : Type 0 where
  pub facts : List Fact
  pub trail : List Write
  pub in_force : List ℕ
  pub gone : List ℕ
  pub order : List Standing

abbrev pub what_stands : World → WhatStands
what_stands w =
    record {
      facts = w.ground.facts;
      trail = w.ground.trail.items;
      in_force = w.in_force.items;
      gone = w.gone.items;
      order = w.order.items;
    }

-- What stood at the last fold: the tuples, the mappings in force, and the number of names given by then.
pub record WhatStood : Type 0 where
  pub facts : List Fact
  pub in_force : List ℕ
  pub names : ℕ

abbrev pub what_stood : State → WhatStood
what_stood s = record { facts = first_facts s.world.ground; in_force = s.first_in_force.items; names = s.first_names }

-- ---- runs

-- An update ran: the writes of its ops can be taken back, and all else that stands or waits is as it was.
pub record HasRun (v : World) (w : World) : Type 0 where
  pub grown : HasGrown v.ground w.ground
  pub in_force : w.in_force.items ≡ v.in_force.items
  pub gone : w.gone.items ≡ v.gone.items
  pub order : w.order.items ≡ v.order.items
  pub waiting : w.waiting.items ≡ v.waiting.items

-- All writes but the first k are taken back, and all else that stands is as it was.
pub record IsTakenBack (k : ℕ) (v : World) (w : World) : Type 0 where
  pub facts : w.ground.facts ≡ before (map change_of (drop k v.ground.trail.items)) v.ground.facts
  pub trail : w.ground.trail.items ≡ take k v.ground.trail.items
  pub in_force : w.in_force.items ≡ v.in_force.items
  pub gone : w.gone.items ≡ v.gone.items
  pub order : w.order.items ≡ v.order.items

-- What was written since can be taken back, and the updates that stood still stand, in their order, before any others.
pub record GoesOn (v : World) (w : World) : Type 0 where
  pub grown : HasGrown v.ground w.ground
  pub order : take (length v.order.items) w.order.items ≡ v.order.items

-- The state t has gone on from s by runs alone: nothing was replayed, and what stood at the last fold is as it was.
pub record HasGoneOn (s : State) (t : State) : Type 0 where
  pub world : GoesOn s.world t.world
  pub fold : what_stood t ≡ what_stood s
  pub replays : t.replays ≡ s.replays

-- P holds of the update's number if the line says an update, or of the numbers named if the line is an undo.
abbrev pub IfSays : Line → (ℕ → Type 0) → Type 0
IfSays (Says u) P = P u.number
IfSays _ P = Unit {0}

abbrev pub IfUndoes : Line → (List ℕ → Type 0) → Type 0
IfUndoes (Undoes ns) P = P ns.items
IfUndoes _ P = Unit {0}

-- What holds if the line is no undo, redo or forgetting of answers, which replay all lines.
abbrev pub IfRuns : Line → Type 0 → Type 0
IfRuns (Says u) P = P
IfRuns (Answers n g) P = P
IfRuns (Goes n) P = P
IfRuns (Undoes ns) P = Unit {0}
IfRuns (Redoes ns) P = Unit {0}
IfRuns (Forgets ns) P = Unit {0}
IfRuns (DeclaresRelation t) P = P
IfRuns (DeclaresMapping m) P = P

-- Sessions whose added mappings are timely: an update puts no mapping in force whose `since` is above its own number.
use Rattle.std.specs.Prelude.{◌≡◌, ℕ, suc, ◌==◌, nat_lt, pos, Bool, true, false, not, if◌then◌else◌, List, [], ◌∷◌, Option, Some, None, slice_get}
use Rattle.std.specs.List.{list_all}
use Rattle.def_chase.specs.Values.{Datum, Number, Fact}
use Rattle.def_chase.specs.Mappings.{Pattern, Rule, force_relation}
use Rattle.def_chase.specs.Updates.{Operation, Adds, Removes, Replaces, Enacts}
use Rattle.def_steps.specs.Serial.{Request}

-- If there is a mapping, its `since` is not above u.
abbrev pub not_after : ℕ → Option Rule → Bool
not_after u None = true
not_after u (Some m) = not (nat_lt u m.since)

-- The values are those of a tuple that puts in force a mapping whose `since` is not above u.
abbrev pub enacts_by : List Rule → ℕ → List Datum → Bool
enacts_by ms u (Number (pos n) ∷ []) = not_after u (slice_get ms n)
enacts_by ms u _ = false

-- If the tuple is of the relation that says which mappings are in force, it puts in force a mapping whose `since` is not above u.
abbrev pub in_time : List Rule → ℕ → Fact → Bool
in_time ms u t = if t.relation == force_relation then enacts_by ms u t.values else true

-- The atom is not of the relation that says which mappings are in force. No session can spell one that is.
abbrev pub is_plain_atom : Pattern → Bool
is_plain_atom a = not (a.relation == force_relation)

-- No right atom of a mapping is of that relation, so no repair puts a mapping in force.
abbrev pub repairs_plainly : List Rule → Bool
repairs_plainly ms = list_all (λ m. list_all is_plain_atom m.right) ms

-- The operation of update u inserts no tuple of that relation, and puts in force only a mapping whose `since` is not above u.
abbrev pub acts_in_time : List Rule → ℕ → Operation → Bool
acts_in_time ms u (Adds t) = not (t.relation == force_relation)
acts_in_time ms u (Removes t) = true
acts_in_time ms u (Replaces n v) = true
acts_in_time ms u (Enacts n) = not_after u (slice_get ms n)

-- Each of the requests acts in time; the first is update u.
abbrev pub ActInTime : List Rule → ℕ → List Request → Type 0
ActInTime ms u [] = Unit {0}
ActInTime ms u (r ∷ rs) = (acts_in_time ms u r.operation ≡ true) × ActInTime ms (suc u) rs

-- The session is timely: its mappings repair plainly, its base puts in force only mappings whose `since` is 0, and its updates
-- act in time.
pub record IsTimely (ms : List Rule) (D : List Fact) (rs : List Request) : Type 0 where
  pub mappings : repairs_plainly ms ≡ true
  pub base : list_all (in_time ms 0) D ≡ true
  pub updates : ActInTime ms 1 rs

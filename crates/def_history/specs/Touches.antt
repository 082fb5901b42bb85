-- The touches of an event, by update and relation: they are enough to show that the event does not make a step stale.
use Rattle.std.specs.Prelude.{◌≡◌, ℕ, suc, nat_le, Bool, false, ◌&&◌, ◌||◌, List, ◌++◌, map}
use Rattle.std.specs.List.{list_any, flat_map}
use Rattle.def_machine.specs.Machine.{Machine}
use Rattle.def_machine.specs.Updates.{Update, Read}
use Rattle.def_machine.specs.Cascade.{readers, has_number, Member}
use Rattle.def_machine.specs.Effects.{Event, Effect}
use Rattle.def_machine.specs.Histories.{causes_in}
use Rattle.def_machine.specs.Local.{acts_on}
use Rattle.def_machine.specs.CauseLaw.{members_of}
use Rattle.def_machine.specs.Stamps.{writes_in, loses}
use Rattle.def_history.specs.Stale.{IsClear}

-- A touch: a write of this update, in this relation, came or went.
pub record Touch : Type 0 where
  pub update : ℕ
  pub relation : ℕ

-- The touches of these writes of update i.
abbrev pub touches_of : (M : Machine) → ℕ → List M.Write → List Touch
touches_of M i ws = map (λ w. record { update = i; relation = M.touches w }) ws

-- The touches of updates that lose their trails.
abbrev pub touches_lost : (M : Machine) → List (Member M) → List Touch
touches_lost M ms = flat_map (λ (m : Member M). touches_of M m.number m.trail) ms

-- All touches of an event: by its writes, and by the trails that it takes away.
abbrev pub touches_by : (M : Machine) → M.Repository → List (Update M) → Event M → Effect M → List Touch
touches_by M D us e x = touches_of M (acts_on us e) (writes_in x.entry) ++ touches_lost M (members_of M (loses M D us e ++ readers (causes_in x.entry)) 1 us)

-- The touch is of an update among the first k, and of a relation that the read mentions.
abbrev pub meets : {M : Machine} → ℕ → Read M → Touch → Bool
meets {M} k r t = nat_le t.update k && M.mentions r.query t.relation

-- The test whether an event with these touches and these restarts makes a step of update k + 1 with these reads stale.
abbrev pub is_stale_by_touches : {M : Machine} → ℕ → List (Read M) → List Touch → List ℕ → Bool
is_stale_by_touches k reads ts restarted = list_any (λ r. list_any (meets k r) ts) reads || has_number restarted (suc k)

-- The test is sound: if it says no, the event does not make the step stale.
abbrev pub TouchLaw : Machine → Type 0
TouchLaw M =
    (D : M.Repository) (us : List (Update M)) (e : Event M) (x : Effect M) (k : ℕ) (reads : List (Read M))
    → is_stale_by_touches k reads (touches_by M D us e x) (readers (causes_in x.entry)) ≡ false → IsClear M D us e x k reads

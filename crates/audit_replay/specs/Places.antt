-- Audited updates and their trails as levels of a set.
use Rattle.std.specs.Prelude.{◌≡◌, ℕ, ◌≤◌, List, [], ◌∷◌, map, take, length}
use Rattle.def_machine.specs.Updates.{trail}
use Rattle.def_chase.specs.Repository.{Change}
use Rattle.def_chase.specs.Values.{Fact}
use Rattle.def_steps.specs.Chase.{caused_chase}
use Rattle.audit_updates.specs.Programs.{IsBetween}
use Rattle.audit_updates.specs.Updates.{update_of}
use Rattle.audit_updates.specs.declared.updates.AuditedUpdate.{AuditedUpdate}
use Rattle.audit_replay.specs.Levels.{laid}

-- Each of the audited updates stands between two steps.
abbrev pub AreBetween : List AuditedUpdate → Type 0
AreBetween [] = Unit {0}
AreBetween (r ∷ rs) = IsBetween r.program × AreBetween rs

-- The writes that others see of the audited update, which are the same whatever the mappings and the budget.
abbrev pub trail_of : AuditedUpdate → List Change
trail_of r = trail (caused_chase [] 0) (update_of [] 0 r)

-- The levels are D and D with the trails of the first 1, 2, .., k audited updates, the uppermost one first.
abbrev pub StandOn : List Fact → List AuditedUpdate → ℕ → List (List Fact) → Type 0
StandOn D rs k levels = levels ≡ laid [] D (map trail_of (take k rs))

-- The levels are D with the trails of some first audited updates.
pub record Stand (D : List Fact) (rs : List AuditedUpdate) (levels : List (List Fact)) : Type 0 where
  pub many : ℕ
  pub within : many ≤ length rs
  pub stand : StandOn D rs many levels

-- Levels that stood on some first audited updates still do, perhaps on another number of them.
abbrev pub StandStill : List (List Fact) → List (List Fact) → Type 0
StandStill old new = (D : List Fact) (rs : List AuditedUpdate) → Stand D rs old → Stand D rs new

-- The levels have risen to k audited updates.
abbrev pub HaveRisen : ℕ → List AuditedUpdate → List (List Fact) → List (List Fact) → Type 0
HaveRisen k rs old new = (D : List Fact) → Stand D rs old → StandOn D rs k new

-- From any number of audited updates the levels have moved to k of them.
abbrev pub HaveCome : ℕ → List AuditedUpdate → List (List Fact) → List (List Fact) → Type 0
HaveCome k rs old new = (D : List Fact) (h : ℕ) → h ≤ length rs → StandOn D rs h old → StandOn D rs k new

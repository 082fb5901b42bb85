-- Facts on audited updates, for the machine of any mappings and any budget.
use Rattle.std.specs.Prelude.{◌≡◌, ℕ, Bool, List, Option}
use Rattle.def_machine.specs.Standings.{standing, is_ready, is_deliverable, lowest_that, is_quiet}
use Rattle.def_machine.specs.Updates.{Settings, committed}
use Rattle.def_chase.specs.Mappings.{Rule}
use Rattle.def_steps.specs.Chase.{caused_chase}
use Rattle.audit_updates.specs.Updates.{update_of, updates_of}
use Rattle.audit_updates.specs.declared.updates.AuditedUpdate.{AuditedUpdate}

-- The number of committed updates is c.
abbrev pub HasCommitted : List AuditedUpdate → ℕ → Type 0
HasCommitted rs c = (ms : List Rule) (B : ℕ) → c ≡ committed (caused_chase ms B) (updates_of ms B rs)

-- The least number of a ready update, if c updates are committed and the first update of the list has number n.
abbrev pub IsFirstReady : Settings → ℕ → ℕ → List AuditedUpdate → Option ℕ → Type 0
IsFirstReady s c n rs o =
    (ms : List Rule) (B : ℕ) → o ≡ lowest_that (λ i u. is_ready (standing (caused_chase ms B) s c i u)) n (updates_of ms B rs)

-- The least number of a deliverable update, if c updates are committed and the first update of the list has number n.
abbrev pub IsFirstDeliverable : Settings → ℕ → ℕ → List AuditedUpdate → Option ℕ → Type 0
IsFirstDeliverable s c n rs o =
    (ms : List Rule) (B : ℕ) → o ≡ lowest_that (λ i u. is_deliverable (caused_chase ms B) s c i u) n (updates_of ms B rs)

-- Whether nothing is ready, and nothing is deliverable.
abbrev pub IsQuiet : Settings → List AuditedUpdate → Bool → Type 0
IsQuiet s rs b = (ms : List Rule) (B : ℕ) → b ≡ is_quiet (caused_chase ms B) s (updates_of ms B rs)

-- What the contracts say of one queued update, for the machine of any mappings and any budget: c updates are committed, and the
-- queued update has number n.
use Rattle.std.specs.Prelude.{◌≡◌, ℕ, Bool, false, List, map, Option}
use Rattle.std.specs.Option.{option_map}
use Rattle.base_types.specs.declared.updates.Write.{Write}
use Rattle.base_types.specs.Meanings.{change_of}
use Rattle.core_entries.specs.declared.standings.Standing.{Standing}
use Rattle.core_entries.specs.Meanings.{standing_of}
use Rattle.chase_question.specs.Inquiries.{Inquiry, inquiry_in}
use Rattle.def_machine.specs.Cascade.{is_live}
use Rattle.def_machine.specs.Standings.{standing, is_ready, is_deliverable, question_of}
use Rattle.def_machine.specs.Machine.{Machine}
use Rattle.def_machine.specs.Updates.{Settings, Update, trail, is_over}
use Rattle.def_chase.specs.Mappings.{Rule}
use Rattle.def_steps.specs.Chase.{caused_chase}
use Rattle.core_queue.specs.Queues.{update_of}
use Rattle.core_queue.specs.declared.updates.QueuedUpdate.{QueuedUpdate}

-- These are the writes that others see of the update.
abbrev pub HasTrail : QueuedUpdate → List Write → Type 0
HasTrail r ws = (ms : List Rule) (B : ℕ) → map change_of ws ≡ trail (caused_chase ms B) (update_of ms B r)

-- Whether the update was withdrawn or its attempt has ended.
abbrev pub IsOver : QueuedUpdate → Bool → Type 0
IsOver r b = (ms : List Rule) (B : ℕ) → b ≡ is_over (caused_chase ms B) (update_of ms B r)

-- Whether the update is neither withdrawn nor committed.
abbrev pub IsLive : ℕ → ℕ → QueuedUpdate → Bool → Type 0
IsLive c n r b = (ms : List Rule) (B : ℕ) → b ≡ is_live (caused_chase ms B) c n (update_of ms B r)

-- This is what it may do next.
abbrev pub HasStanding : Settings → ℕ → ℕ → QueuedUpdate → Standing → Type 0
HasStanding s c n r st = (ms : List Rule) (B : ℕ) → standing_of st ≡ standing (caused_chase ms B) s c n (update_of ms B r)

-- Whether the update may make a step.
abbrev pub IsReady : Settings → ℕ → ℕ → QueuedUpdate → Bool → Type 0
IsReady s c n r b = (ms : List Rule) (B : ℕ) → b ≡ is_ready (standing (caused_chase ms B) s c n (update_of ms B r))

-- The update is not ready, whatever the settings, its number and the number of committed updates.
abbrev pub CannotStep : (M : Machine) → Update M → Type 0
CannotStep M u = (s : Settings) (c n : ℕ) → is_ready (standing M s c n u) ≡ false

-- The update is unready.
abbrev pub IsUnready : QueuedUpdate → Type 0
IsUnready r = (ms : List Rule) (B : ℕ) → CannotStep (caused_chase ms B) (update_of ms B r)

-- Whether a recorded answer may be delivered to it.
abbrev pub IsDeliverable : Settings → ℕ → ℕ → QueuedUpdate → Bool → Type 0
IsDeliverable s c n r b = (ms : List Rule) (B : ℕ) → b ≡ is_deliverable (caused_chase ms B) s c n (update_of ms B r)

-- This is the question that is put to people for it, if one is.
abbrev pub HasQuestion : Settings → ℕ → ℕ → QueuedUpdate → Option Inquiry → Type 0
HasQuestion s c n r q = (ms : List Rule) (B : ℕ) → q ≡ option_map inquiry_in (question_of (caused_chase ms B) s c n (update_of ms B r))

-- The updates of a session as they are when all of them were just admitted.
use Rattle.std.specs.Prelude.{◌≡◌, ℕ, suc, List, [], ◌∷◌, map}
use Rattle.def_history.specs.Histories.{submissions}
use Rattle.def_machine.specs.Machine.{Machine}
use Rattle.def_machine.specs.Effects.{admitted}
use Rattle.def_machine.specs.Updates.{Submission, Update}
use Rattle.def_chase.specs.Mappings.{Rule}
use Rattle.core_queue.specs.Queues.{updates_of}
use Rattle.core_queue.specs.declared.updates.QueuedUpdate.{QueuedUpdate}
use Rattle.lang_session.specs.Meanings.{request_of, update_of as session_update_of}
use Rattle.lang_session.specs.declared.sessions.SessionUpdate.{SessionUpdate}
use Rattle.def_steps.specs.Chase.{caused_chase}

-- These updates when they have just been admitted; the first of them has number n.
abbrev pub admitted_from : (M : Machine) → ℕ → List (Submission M) → List (Update M)
admitted_from M n [] = []
admitted_from M n (x ∷ xs) = admitted M n x ∷ admitted_from M (suc n) xs

-- The updates of the session as the machine of a history has them.
abbrev pub handed_in : (ms : List Rule) (B : ℕ) → List SessionUpdate → List (Submission (caused_chase ms B))
handed_in ms B us = submissions ms B (map request_of (map session_update_of us))

-- The queued updates stand for the session's updates when these have just been admitted.
abbrev pub AreAdmitted : List SessionUpdate → List QueuedUpdate → Type 0
AreAdmitted us rs = (ms : List Rule) (B : ℕ) → updates_of ms B rs ≡ admitted_from (caused_chase ms B) 1 (handed_in ms B us)

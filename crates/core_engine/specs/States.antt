-- What a core is to its callers, and what it says of its updates.
use Rattle.std.specs.Prelude.{◌&&◌, ℕ, zero, suc, not, Bool, false, List, [], ◌∷◌, Option, None, option_map, option_and_then, unwrap_or, slice_get}
use Rattle.def_machine.specs.Updates.{Update, Settings, committed}
use Rattle.def_machine.specs.Standings.{Standing, standing, question_of, is_nil}
use Rattle.def_machine.specs.Standings as standings
use Rattle.def_machine.specs.Cascade.{has_number}
use Rattle.def_steps.specs.Attempts.{Question}
use Rattle.def_history.specs.PlainEntries.{PlainEntry, WasAdmitted}
use Rattle.def_history.specs.Cores.{Ground, machine, updates_after}
use Rattle.def_language.specs.Sessions.{RelationSchema, SessionData}
use Rattle.def_language.specs.Checks.{rules_of}
use Rattle.lang_session.specs.Meanings.{requests_in}
use Rattle.core_queue.specs.Order.{only}

-- What its history is over, the entries of that history, and the relations that each further update has to fit.
pub record State : Type 0 where
  pub over : Ground
  pub history : List PlainEntry
  pub relations : List RelationSchema

-- What the history of a session is over, with this budget of steps for each attempt and these settings.
abbrev pub ground_of : SessionData → ℕ → Settings → Ground
ground_of s budget c =
    record { rules = rules_of s.mappings; budget = budget; settings = c; base = s.base; requests = requests_in s; later = [] }

-- The entries of k admissions, the first with number n.
abbrev pub admissions_from : ℕ → ℕ → List PlainEntry
admissions_from n zero = []
admissions_from n (suc k) = WasAdmitted n ∷ admissions_from (suc n) k

-- The core over the session to which all its updates were admitted.
abbrev pub opened : SessionData → ℕ → Settings → ℕ → State
opened s budget c count = record { over = ground_of s budget c; history = admissions_from 1 count; relations = s.relations }

-- The updates that the history left.
abbrev pub updates_at : (s : State) → List (Update (machine s.over))
updates_at s = updates_after s.over s.history

-- The item of this number, counted from 1, if there is one.
abbrev pub numbered_at : {A : Type 0} → List A → ℕ → Option A
numbered_at xs zero = None
numbered_at xs (suc k) = slice_get xs k

-- How many updates are committed.
abbrev pub committed_at : State → ℕ
committed_at s = committed (machine s.over) (updates_at s)

-- The standing of the update of this number, if there is one.
abbrev pub standing_at : State → ℕ → Option Standing
standing_at s n = option_map (standing (machine s.over) s.over.settings (committed_at s) n) (numbered_at (updates_at s) n)

-- The question of the update of this number, if it is paused.
abbrev pub question_at : State → ℕ → Option Question
question_at s n = option_and_then (question_of (machine s.over) s.over.settings (committed_at s) n) (numbered_at (updates_at s) n)

-- An answer is recorded for the update of this number that was not delivered yet.
abbrev pub has_waiting : State → ℕ → Bool
has_waiting s n = unwrap_or (option_map (λ u. not (is_nil u.inbox)) (numbered_at (updates_at s) n)) false

-- The lowest update that is ready, and the lowest to which an answer can be delivered.
abbrev pub lowest_ready_at : State → Option ℕ
lowest_ready_at s = standings.lowest_ready (machine s.over) s.over.settings (updates_at s)

abbrev pub lowest_deliverable_at : State → Option ℕ
lowest_deliverable_at s = standings.lowest_deliverable (machine s.over) s.over.settings (updates_at s)

-- The first update that is not committed, if an answer can be delivered to it.
abbrev pub next_deliverable_at : State → Option ℕ
next_deliverable_at s = only (suc (committed_at s)) (lowest_deliverable_at s)

-- After these entries nothing is ready, and nothing is deliverable.
abbrev pub is_quiet_after : Ground → List PlainEntry → Bool
is_quiet_after g H = standings.is_quiet (machine g) g.settings (updates_after g H)

abbrev pub is_quiet_at : State → Bool
is_quiet_at s = is_quiet_after s.over s.history

-- The lowest of these updates that is ready and has none of these numbers.
abbrev pub lowest_ready_besides_of : (g : Ground) → List (Update (machine g)) → List ℕ → Option ℕ
lowest_ready_besides_of g us ns =
    standings.lowest_that (λ n u. standings.is_ready (standing (machine g) g.settings (committed (machine g) us) n u) && not (has_number ns n)) 1 us

-- The lowest update that is ready and has none of these numbers.
abbrev pub lowest_ready_besides_at : State → List ℕ → Option ℕ
lowest_ready_besides_at s ns = lowest_ready_besides_of s.over (updates_at s) ns

-- The result of a history's updates: how the committed ones ended, where the lowest that is not committed stops, and the
-- repository that the committed ones left.
use Rattle.std.specs.Prelude.{◌≡◌, ℕ, List, [], ◌++◌, map, Option, if◌then◌else◌}
use Rattle.std.specs.List.{flat_map}
use Rattle.std.specs.Option.{option_map, option_and_then}
use Rattle.base_types.specs.Contents.{facts_of}
use Rattle.base_types.specs.Listed.{Listed}
use Rattle.base_types.specs.declared.tuples.Tuple.{Tuple}
use Rattle.def_machine.specs.Serial.{Finish, Stop, committed_finishes, first_stop}
use Rattle.def_machine.specs.Standings.{Lack}
use Rattle.def_machine.specs.Updates.{Update, Session, below, committed, trail}
use Rattle.def_chase.specs.Mappings.{Rule}
use Rattle.def_chase.specs.Repository.{IsRepository}
use Rattle.def_chase.specs.Values.{Fact, outer}
use Rattle.def_steps.specs.Attempts.{Attempt}
use Rattle.def_steps.specs.Chase.{caused_chase}
use Rattle.def_steps.specs.Serial.{finished, stopped, Stopped, answered}
use Rattle.def_steps.specs.Shifting.{outer_question}
use Rattle.def_history.specs.AnyOrder.{tells}
use Rattle.chase_update.specs.Results.{FinishTold, StopTold, finish_in, finish_of, stop_in, stop_of, result_in, result_of}
use Rattle.chase_update.specs.declared.results.Finish.{Finish as FinishOfProgram}
use Rattle.chase_update.specs.declared.results.SessionResult.{SessionResult}
use Rattle.chase_update.specs.declared.results.Stop.{Stop as StopOfProgram}
use Rattle.core_queue.specs.Queues.{update_of, updates_of}
use Rattle.core_queue.specs.declared.updates.QueuedUpdate.{QueuedUpdate}
use Rattle.set_versions.specs.Standing.{Kept, StandFor}
use Rattle.set_versions.specs.Trails.{numbered}

-- The finishes of committed updates as they are reported, the first of the list with number n.
abbrev pub finishes_told : (ms : List Rule) (B : ℕ) → ℕ → List (Update (caused_chase ms B)) → List FinishTold
finishes_told ms B n us = map finish_in (flat_map (λ (f : Finish (caused_chase ms B)). finished f.number f.state) (committed_finishes (caused_chase ms B) n us))

-- A stop with its question in outer form.
abbrev pub outer_stop : Stopped → Stopped
outer_stop s = record { number = s.number; question = outer_question s.question; lack = s.lack }

-- A stop as it is reported.
abbrev pub stop_told : (ms : List Rule) (B : ℕ) → Option (Stop (caused_chase ms B)) → Option StopTold
stop_told ms B s = option_map stop_in (option_map outer_stop (option_and_then (λ (x : Stop (caused_chase ms B)). stopped x.number x.state x.lack) s))

-- The attempt's end, if it has ended, was added after the finishes.
abbrev pub HasToldEnd : Attempt → Listed FinishOfProgram → Listed FinishOfProgram → Type 0
HasToldEnd P fs fs' = (n : ℕ) → map finish_of fs'.items ≡ map finish_of fs.items ++ map finish_in (finished n P)

-- The finish of an update that is over, with number n: how it ended, unless it was withdrawn.
abbrev pub end_told : (ms : List Rule) (B : ℕ) → ℕ → Update (caused_chase ms B) → List FinishTold
end_told ms B n u = if u.withdrawn then [] else map finish_in (finished n u.state)

-- The finish of the update was added after the others.
abbrev pub HasToldOne : QueuedUpdate → Listed FinishOfProgram → Listed FinishOfProgram → Type 0
HasToldOne r fs fs' = (ms : List Rule) (B : ℕ) (n : ℕ) → map finish_of fs'.items ≡ map finish_of fs.items ++ end_told ms B n (update_of ms B r)

-- These are the finishes of the committed queued updates.
abbrev pub AreFinishes : List QueuedUpdate → Listed FinishOfProgram → Type 0
AreFinishes rs fs = (ms : List Rule) (B : ℕ) → map finish_of fs.items ≡ finishes_told ms B 1 (updates_of ms B rs)

-- This is the stop of the attempt of update n, at which this is lacking.
abbrev pub IsStopAt : ℕ → Attempt → Option Lack → Option StopOfProgram → Type 0
IsStopAt n P l s = option_map stop_of s ≡ option_map stop_in (option_map outer_stop (option_and_then (stopped n P) l))

-- This is the stop of the lowest queued update that is not committed, if something is lacking there.
abbrev pub IsStop : List QueuedUpdate → Option StopOfProgram → Type 0
IsStop rs s = (ms : List Rule) (B : ℕ) → option_map stop_of s ≡ stop_told ms B (first_stop (caused_chase ms B) 1 (updates_of ms B rs))

-- These are the tuples in outer form, without the tuples that say which mappings are in force.
abbrev pub AreAnswered : List Fact → Listed Tuple → Type 0
AreAnswered D ts = facts_of ts ≡ map outer (answered D)

-- These are the tuples that the committed ones of the queued updates left over D, in outer form.
abbrev pub AreLeft : List Rule → ℕ → List Fact → List QueuedUpdate → Listed Tuple → Type 0
AreLeft ms B D rs ts =
    facts_of ts ≡ map outer (answered (below (caused_chase ms B) D (updates_of ms B rs) (committed (caused_chase ms B) (updates_of ms B rs))))

-- The versions are of the queued updates over D.
pub record AreVersionsOf (ms : List Rule) (B : ℕ) (D : List Fact) (rs : List QueuedUpdate) (v : Kept) : Type 0 where
  pub sorted : IsRepository D
  pub stand : StandFor v D (numbered (trail (caused_chase ms B)) (updates_of ms B rs))

-- This is the result of the queued updates as the updates of a history over D, up to the lowest that is not committed.
abbrev pub Tells : List Rule → ℕ → List Fact → List QueuedUpdate → SessionResult → Type 0
Tells ms B D rs r =
    (S : Session (caused_chase ms B)) → S.base ≡ D
    → result_of r ≡ result_in (tells ms B S (updates_of ms B rs) (first_stop (caused_chase ms B) 1 (updates_of ms B rs)))

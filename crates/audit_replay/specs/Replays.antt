-- What a replay is: the updates that a history left, and the base with the trails of the lowest of them.
use Rattle.std.specs.Prelude.{◌≡◌, ◌==◌, ◌≤◌, ℕ, zero, suc, nat_lt, Bool, if◌then◌else◌, List, [], ◌∷◌, ◌++◌, map, length, slice_get, Option, Some, None}
use Rattle.base_types.specs.Meanings.{choice_of}
use Rattle.core_entries.specs.Meanings.{entry_of, standing_of}
use Rattle.core_entries.specs.declared.standings.Standing.{Standing}
use Rattle.core_entries.specs.declared.entries.Entry.{Entry}
use Rattle.def_language.specs.Checks.{rules_of}
use Rattle.def_language.specs.Sessions.{SessionData}
use Rattle.def_history.specs.CoreLaws.{Leave}
use Rattle.def_history.specs.Cores.{Ground, machine, updates_after, effect_after, grown}
use Rattle.def_history.specs.PlainEntries.{PlainEntry}
use Rattle.def_machine.specs.Effects.{Event, Admits, Steps, Delivers, Answers, Withdraws}
use Rattle.def_machine.specs.Standings.{is_quiet, standing}
use Rattle.def_machine.specs.Updates.{Settings, committed}
use Rattle.def_chase.specs.Mappings.{Rule}
use Rattle.def_chase.specs.Repository.{IsRepository}
use Rattle.lang_session.specs.Meanings.{request_of, requests_in, update_of as session_update_of}
use Rattle.def_steps.specs.Chase.{caused_chase}
use Rattle.audit_updates.specs.Updates.{AreFrom, update_of, updates_of}
use Rattle.audit_updates.specs.Settings.{settings_of}
use Rattle.audit_updates.specs.declared.updates.AuditedUpdate.{AuditedUpdate}
use Rattle.audit_replay.specs.Places.{StandOn}
use Rattle.audit_replay.specs.declared.events.Event.{Event as EventOfProgram}
use Rattle.audit_replay.specs.declared.events.Event.TheVariants as events
use Rattle.audit_replay.specs.declared.replays.Replay.{Replay}

-- The entries are a legal history over g, and the replay has the updates that they leave.
pub record IsReplayOf (g : Ground) (H : List PlainEntry) (r : Replay) : Type 0 where
  pub rules : r.mappings ≡ g.rules
  pub budget : r.budget ≡ g.budget
  pub some : 1 ≤ g.budget
  pub settings : settings_of r.settings ≡ g.settings
  pub requests : map request_of (map session_update_of r.handed.now) ≡ g.requests
  pub later : g.later ≡ []
  pub sorted : IsRepository g.base
  pub retries : g.settings.retries ≤ 4
  pub left : Leave g H (updates_of g.rules g.budget r.updates.items)
  pub numbers : AreFrom 1 r.updates.items
  -- the levels are the base, and the base with the trails of the first 1, 2, .., `height` updates
  pub height : ℕ
  pub within : height ≤ length r.updates.items
  pub levels : StandOn g.base r.updates.items height r.levels
  pub few : length r.handed.now ≤ 1000

-- The replay has replayed some history.
pub record IsReplay (r : Replay) : Type 0 where
  pub over : Ground
  pub history : List PlainEntry
  pub replays : IsReplayOf over history r

-- The replay is of the same session by the same terms, and its audited updates are updates 1, 2, .. between two steps. Its
-- history is left open.
pub record IsLeftOf (old new : Replay) : Type 0 where
  pub mappings : new.mappings ≡ old.mappings
  pub budget : new.budget ≡ old.budget
  pub settings : new.settings ≡ old.settings
  pub handed : new.handed ≡ old.handed
  pub numbers : AreFrom 1 new.updates.items

-- The ground of a replay of the session by these terms.
abbrev pub ground_of : SessionData → ℕ → Settings → Ground
ground_of s budget c = record { rules = rules_of s.mappings; budget = budget; settings = c; base = s.base; requests = requests_in s; later = [] }

-- Nothing has happened yet.
abbrev pub IsBegun : SessionData → ℕ → Settings → Replay → Type 0
IsBegun s budget c r = IsReplayOf (ground_of s budget c) [] r

-- the event that an `Event` stands for
abbrev pub event_in : (g : Ground) → EventOfProgram → Event (machine g)
event_in g events.Admits = Admits
event_in g (events.Steps u) = Steps u
event_in g (events.Delivers u) = Delivers u
event_in g (events.Answers u c) = Answers u (choice_of c)
event_in g (events.Withdraws u) = Withdraws u

-- The entries grow by `entry`, which is the one of the event.
abbrev pub HasGrown : (g : Ground) → List PlainEntry → Event (machine g) → Entry → Replay → Type 0
HasGrown g H e entry new = (grown g H e ≡ Some (H ++ entry_of entry ∷ [])) × IsReplayOf g (H ++ entry_of entry ∷ []) new

-- The event is not allowed, and nothing changes; or the entries grow by its entry.
abbrev pub Makes : (g : Ground) → List PlainEntry → Event (machine g) → Option Entry → Replay → Type 0
Makes g H e None new = (effect_after g H e ≡ None) × IsReplayOf g H new
Makes g H e (Some entry) new = HasGrown g H e entry new

-- This holds whatever history the replay is of.
abbrev pub HasMade : EventOfProgram → Replay → Replay → Option Entry → Type 0
HasMade e old new made = (g : Ground) (H : List PlainEntry) → IsReplayOf g H old → Makes g H (event_in g e) made new

-- The event of the update at place k was allowed, and this is its entry.
abbrev pub HasMadeAt : (ℕ → EventOfProgram) → ℕ → Replay → Replay → Entry → Type 0
HasMadeAt e k old new entry = (g : Ground) (H : List PlainEntry) → IsReplayOf g H old → HasGrown g H (event_in g (e (suc k))) entry new

-- Whether nothing is left to do.
abbrev pub IsQuietReplay : Replay → Bool → Type 0
IsQuietReplay r b = (g : Ground) (H : List PlainEntry) → IsReplayOf g H r → b ≡ is_quiet (machine g) g.settings (updates_after g H)

-- The number of admitted updates is n.
abbrev pub HasCount : Replay → ℕ → Type 0
HasCount r n = (g : Ground) (H : List PlainEntry) → IsReplayOf g H r → n ≡ length (updates_after g H)

-- Whether all updates that were handed in are admitted.
abbrev pub IsWholeReplay : Replay → Bool → Type 0
IsWholeReplay r b = (g : Ground) (H : List PlainEntry) → IsReplayOf g H r → b ≡ (length (updates_after g H) == length g.requests)

-- The place of the update with this number, if there is one.
abbrev pub place_in : List AuditedUpdate → ℕ → Option ℕ
place_in rs zero = None
place_in rs (suc k) = if nat_lt k (length rs) then Some k else None

-- What the update at place k may do next.
abbrev pub HasStandingAt : Settings → List AuditedUpdate → ℕ → Standing → Type 0
HasStandingAt s rs k st =
    (ms : List Rule) (B : ℕ) (r : AuditedUpdate) → slice_get rs k ≡ Some r → standing_of st ≡ standing (caused_chase ms B) s (committed (caused_chase ms B) (updates_of ms B rs)) (suc k) (update_of ms B r)

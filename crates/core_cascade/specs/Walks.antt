-- What each part of the walk finds and what it leaves.
use Rattle.std.specs.Prelude.{◌≡◌, ◌≤◌, ℕ, zero, suc, ◌-◌, nat_lt, Bool, true, false, not, ◌&&◌, List, [], ◌∷◌, ◌++◌, length, Option, None, if◌then◌else◌}
use Rattle.std.specs.List.{list_all}
use Rattle.std.specs.Option.{option_map}
use Rattle.core_conflict.specs.Changes.{Changed, Numbered}
use Rattle.core_conflict.specs.Concerns.{AgreeBut}
use Rattle.core_conflict.specs.Footprints.{Covers}
use Rattle.core_conflict.specs.Impacts.{has_trails}
use Rattle.core_conflict.specs.Trails.{writes_of, trails_of}
use Rattle.core_conflict.specs.declared.impacts.Impact.{Impact}
use Rattle.core_conflict.specs.declared.concerns.Sense.{Sense}
use Rattle.core_conflict.specs.declared.concerns.Sense.TheVariants.{Went}
use Rattle.core_conflict.specs.declared.concerns.Trail.{Trail}
use Rattle.core_conflict.specs.Meanings.{changed_of}
use Rattle.core_conflict.specs.declared.changes.Changed.{Changed as ChangedOfProgram}
use Rattle.core_entries.specs.Meanings.{cause_of as plain_of}
use Rattle.core_entries.specs.declared.causes.Cause.{Cause}
use Rattle.def_history.specs.PlainEntries.{PlainCause, InConflict, Dependent}
use Rattle.def_machine.specs.Cascade.{with_member, without_member}
use Rattle.def_machine.specs.Runs.{IsRun, AreRuns}
use Rattle.def_machine.specs.Settle.{cause_of, settle}
use Rattle.def_machine.specs.Standings.{is_nil}
use Rattle.def_machine.specs.Updates.{Update}
use Rattle.def_chase.specs.Mappings.{Rule}
use Rattle.def_chase.specs.Repository.{Change}
use Rattle.def_chase.specs.Values.{Fact}
use Rattle.chase_query.specs.Meanings.{reads_in}
use Rattle.core_queue.specs.Queues.{update_of, updates_of}
use Rattle.core_queue.specs.declared.updates.QueuedUpdate.{QueuedUpdate}
use Rattle.def_steps.specs.Chase.{caused_chase}
use Rattle.set_versions.specs.Standing.{seen, Retracted}
use Rattle.core_cascade.specs.declared.lost.Lost.{Lost}
use Rattle.core_cascade.specs.Held.{HoldFrom}
use Rattle.core_cascade.specs.Meanings.{Above, found_of, found_for, members_of}
use Rattle.core_cascade.specs.Reached.{least_writer, first_changed_in, first_dependent}

-- The number of the reader.
abbrev pub number_of : QueuedUpdate → ℕ
number_of r = r.program.attempt.number

-- The reader is live, if c updates were committed.
abbrev pub is_live_in : ℕ → QueuedUpdate → Bool
is_live_in c r = nat_lt c (number_of r) && not r.withdrawn

-- The reader is live, and has read something.
abbrev pub may_have_cause : ℕ → QueuedUpdate → Bool
may_have_cause c r = is_live_in c r && not (is_nil r.log.items)

-- The conflict of the reader of this number with update j, by its changed read.
abbrev pub conflict_meant : ℕ → ℕ → Changed → PlainCause
conflict_meant j n c = InConflict (record { reader = n; read = c.number; writer = j; old = c.read.reply; new = c.now })

-- This is the conflict of the reader of this number, if there is a changed read.
abbrev pub IsConflict : ℕ → ℕ → Option ChangedOfProgram → Option Cause → Type 0
IsConflict j n c x = option_map plain_of x ≡ option_map (conflict_meant j n) (option_map changed_of c)

-- This is the conflict of the reader with these writes, if the reader is live.
abbrev pub IsConflictFor : Above → List Change → QueuedUpdate → Option Cause → Type 0
IsConflictFor a ws r x = option_map plain_of x ≡ option_map (conflict_meant a.update (number_of r)) (first_changed_in a.rules a.whole a.sense (ws ∷ []) r)

-- The reader's footprint covers its own writes and its reads.
abbrev pub HasFootprint : QueuedUpdate → Type 0
HasFootprint r = Covers r.footprint r.program.attempt.own (reads_in r.log.items)

-- The impact has what these writes may meet, as they came or went.
abbrev pub HasImpact : Above → List Change → Impact → Type 0
HasImpact a ws v = has_trails v a.rules a.sense (ws ∷ []) ≡ true

-- The trail has the impact of its writes, which went.
abbrev pub has_own_impact : List Rule → Trail → Bool
has_own_impact ms t = has_trails t.impact ms Went (writes_of t ∷ [])

-- Each of the members' trails has the impact of its writes.
abbrev pub HasLostImpact : List Rule → Lost → Type 0
HasLostImpact ms lost = list_all (has_own_impact ms) lost.members.items ≡ true

-- No cause, for each of this number of updates.
abbrev pub nones : ℕ → List (Option Cause)
nones zero = []
nones (suc n) = None ∷ nones n

-- The causes of the first readers, followed by none up to k readers.
abbrev pub padded : ℕ → List (Option Cause) → List (Option Cause)
padded k xs = xs ++ nones (k - length xs)

-- The dependence of the reader of this number, by its read.
abbrev pub dependence_meant : List Rule → List Trail → ℕ → Numbered → PlainCause
dependence_meant ms ks n t = Dependent (record { reader = n; read = t.number; on = least_writer ms t.read ks })

-- This is the dependence of the reader on what is lost below it, if the reader is live.
abbrev pub IsDependenceFor : Above → Lost → QueuedUpdate → Option Cause → Type 0
IsDependenceFor a lost r x =
    option_map plain_of x
    ≡ (if is_nil lost.members.items then None else option_map (dependence_meant a.rules lost.members.items (number_of r)) (first_dependent a lost r))

-- Update n was its run over what lay below it before the event. Since then these writes came or went there, which gave `whole`;
-- and these trails are lost, which leaves `without`.
pub record RanBelow (ms : List Rule) (B : ℕ) (g : Sense) (ws : List Change) (trails : List (List Change)) (whole without : List Fact) (n : ℕ) (u : Update (caused_chase ms B)) : Type 0 where
  pub before : List Fact
  pub run : IsRun (caused_chase ms B) before n u
  pub event : AgreeBut g (ws ∷ []) before whole
  pub lost : AgreeBut Went trails whole without

-- If no conflict is looked for, there are no writes.
abbrev pub LooksFor : Bool → List Change → Type 0
LooksFor conflicting ws = conflicting ≡ false → ws ≡ []

-- This is why the reader is restarted.
abbrev pub IsCauseFor : Above → List Change → Lost → QueuedUpdate → Option Cause → Type 0
IsCauseFor a ws lost r x =
    (B : ℕ) (conflicting : Bool) → 1 ≤ B → LooksFor conflicting ws
    → RanBelow a.rules B a.sense ws (trails_of lost.members.items) (seen (number_of r) a.whole) (seen (number_of r) lost.without) (number_of r) (update_of a.rules B r)
    → found_of a.rules B x
    ≡ cause_of (caused_chase a.rules B) a.deps conflicting a.committed a.update (seen (number_of r) a.whole) (seen (number_of r) lost.without) (members_of a.rules B lost.members.items) (number_of r) (update_of a.rules B r)

-- The reader has no cause, whatever the writes of that impact.
abbrev pub HasNoCause : Impact → Lost → QueuedUpdate → Type 0
HasNoCause v lost r = (a : Above) (ws : List Change) → HasImpact a ws v → IsCauseFor a ws lost r None

-- Update n has lost these writes, its trail, and is the last of the members.
pub record Loses (n : ℕ) (ws : List Change) (old new : Lost) : Type 0 where
  pub retracted : Retracted n ws old.without new.without
  pub joined : (ms : List Rule) (B : ℕ) → members_of ms B new.members.items ≡ members_of ms B old.members.items ++ record { number = n; trail = ws } ∷ []

-- What is lost below the next update, after it is decided whether this one is restarted.
pub record LeavesLost (ms : List Rule) (B : ℕ) (restarts : Bool) (n : ℕ) (u : Update (caused_chase ms B)) (us : List (Update (caused_chase ms B))) (old new : Lost) : Type 0 where
  pub held : HoldFrom ms B (suc n) us new.without
  pub below : seen (suc n) new.without ≡ without_member (caused_chase ms B) restarts (seen n old.without) u
  pub members : members_of ms B new.members.items ≡ with_member (caused_chase ms B) restarts (members_of ms B old.members.items) n u

-- What is lost below the next update, whatever updates are above this one.
abbrev pub LosesWhere : Bool → QueuedUpdate → Lost → Lost → Type 0
LosesWhere restarts r old new =
    (ms : List Rule) (B : ℕ) (us : List (Update (caused_chase ms B))) → HoldFrom ms B (number_of r) (update_of ms B r ∷ us) old.without
    → LeavesLost ms B restarts (number_of r) (update_of ms B r) us old new

-- The queued updates, the first of which has number n, ran over what lay below them before the event. Both versions have their
-- trails; these writes came or went below them, and the trails of the members are lost.
pub record StandAbove (a : Above) (B : ℕ) (ws : List Change) (lost : Lost) (n : ℕ) (rs : List QueuedUpdate) : Type 0 where
  pub whole : HoldFrom a.rules B n (updates_of a.rules B rs) a.whole
  pub without : HoldFrom a.rules B n (updates_of a.rules B rs) lost.without
  pub before : List Fact
  pub runs : AreRuns (caused_chase a.rules B) before n (updates_of a.rules B rs)
  pub event : AgreeBut a.sense (ws ∷ []) before (seen n a.whole)
  pub gone : AgreeBut Went (trails_of lost.members.items) (seen n a.whole) (seen n lost.without)

-- This is why each of the queued updates above the event's is restarted.
abbrev pub AreFound : Above → List Change → Lost → List QueuedUpdate → List (Option Cause) → Type 0
AreFound a ws lost rs xs =
    (B : ℕ) (conflicting : Bool) → 1 ≤ B → LooksFor conflicting ws → StandAbove a B ws lost (suc a.update) rs
    → found_for a.rules B rs xs
    ≡ settle (caused_chase a.rules B) a.deps conflicting a.committed a.update (seen (suc a.update) a.whole) (seen (suc a.update) lost.without) (members_of a.rules B lost.members.items) (suc a.update) (updates_of a.rules B rs)

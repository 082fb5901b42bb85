-- Why an event restarts other updates.
use Rattle.std.specs.Prelude.{◌≡◌, ◌++◌, ℕ, suc, nat_lt, Bool, false, not, ◌&&◌, if◌then◌else◌, List, [], ◌∷◌, map, Option, option_map}
use Rattle.std.specs.List.{list_any}
use Rattle.base_types.specs.Meanings.{change_of}
use Rattle.core_entries.specs.Meanings.{cause_of}
use Rattle.core_entries.specs.declared.causes.Cause.{Cause as CauseOfProgram}
use Rattle.def_history.specs.PlainEntries.{PlainCause, InConflict, Dependent, cause_kept}
use Rattle.def_machine.specs.Cascade.{Cause, Member, cascade, with_member, without_member}
use Rattle.def_machine.specs.Effects.{causes_of_loss, causes_of_writes}
use Rattle.def_machine.specs.Reads.{first_that}
use Rattle.def_machine.specs.Updates.{Deps, Precise, Coarse, Update, trail}
use Rattle.def_chase.specs.Mappings.{Rule}
use Rattle.def_chase.specs.Mentions.{mentions}
use Rattle.def_chase.specs.Repository.{Change, IsRepository, apply}
use Rattle.def_chase.specs.Updates.{direction_of}
use Rattle.def_chase.specs.Values.{Fact}
use Rattle.def_chase.specs.Violations.{Direction}
use Rattle.chase_query.specs.Meanings.{Read, read_of, reads_in}
use Rattle.def_steps.specs.Chase.{caused_chase}
use Rattle.audit_updates.specs.Updates.{AreFrom, StandsAt, update_of, updates_of}
use Rattle.audit_updates.specs.declared.updates.AuditedUpdate.{AuditedUpdate}
use Rattle.audit_replay.specs.Changes.{ChangeMeant, any_met, is_met_and_changed, meets}
use Rattle.audit_replay.specs.Levels.{top}
use Rattle.audit_replay.specs.Relations.{any_of}
use Rattle.audit_replay.specs.Met.{AreValid, AreValidThat, is_open, met_cascade, met_conflict, met_conflicts, met_join}
use Rattle.audit_replay.specs.declared.losses.Losses.{Losses}
use Rattle.audit_replay.specs.declared.losses.Member.{Member as MemberOfProgram}
use Rattle.audit_replay.specs.declared.losses.Numbered.{Numbered}

-- The number of the update that a cause is for.
abbrev pub reader_in : PlainCause → ℕ
reader_in (InConflict c) = c.reader
reader_in (Dependent c) = c.reader

-- The number of the update that a cause of the program is for.
abbrev pub reader_of : CauseOfProgram → ℕ
reader_of x = reader_in (cause_of x)

-- The numbers of the updates that the causes are for.
abbrev pub readers_in : List CauseOfProgram → List ℕ
readers_in cs = map reader_of cs

-- The writes of the member.
abbrev pub writes_of : MemberOfProgram → List Change
writes_of m = map change_of m.trail.now

module _ (ms : List Rule) (B : ℕ) where
  -- The cause of the program, as one of the machine.
  abbrev pub cause_meant : CauseOfProgram → Cause (caused_chase ms B)
  cause_meant x = cause_kept ms B (cause_of x)

  -- The causes of the program, as ones of the machine.
  abbrev pub causes_meant : List CauseOfProgram → List (Cause (caused_chase ms B))
  causes_meant cs = map cause_meant cs

  -- The member of the program, as one of the machine.
  abbrev pub member_of : MemberOfProgram → Member (caused_chase ms B)
  member_of m = record { number = m.number; trail = writes_of m }

  -- The members of the program, as ones of the machine.
  abbrev pub members_of : List MemberOfProgram → List (Member (caused_chase ms B))
  members_of ks = map member_of ks

-- ---- conflicts

-- The first read of the audited update that mentions one of the relations and isn't valid over D, as a conflict with update j.
abbrev pub IsMetConflict : List Rule → ℕ → ℕ → List ℕ → List Fact → AuditedUpdate → Option CauseOfProgram → Type 0
IsMetConflict ms c j relations D r found =
    (B n : ℕ) → StandsAt n r → option_map (cause_meant ms B) found ≡ met_conflict ms B c j relations D n (update_of ms B r)

-- The conflicts of the audited updates in order; D lies below the first.
abbrev pub AreMetConflicts : List Rule → ℕ → ℕ → List ℕ → List Fact → List AuditedUpdate → List CauseOfProgram → Type 0
AreMetConflicts ms c j relations D rs causes =
    (B n : ℕ) → AreFrom n rs → causes_meant ms B causes ≡ met_conflicts ms B c j relations D n (updates_of ms B rs)

-- The conflict of reader n with update j, by its changed read.
abbrev pub conflict_meant : ℕ → ℕ → ChangeMeant → PlainCause
conflict_meant j n c = InConflict (record { reader = n; read = c.number; writer = j; old = c.read.reply; new = c.now })

-- Whether the update is live, and a read of it mentions one of the relations.
abbrev pub may_conflict : List Rule → ℕ → List ℕ → AuditedUpdate → Bool
may_conflict ms c relations r = (nat_lt c r.program.attempt.number && not r.withdrawn) && any_met ms relations (reads_in r.log.items)

-- None of the updates may be in conflict.
abbrev pub AreUnmet : List Rule → ℕ → List ℕ → List AuditedUpdate → Type 0
AreUnmet ms c relations [] = Unit {0}
AreUnmet ms c relations (r ∷ rs) = (may_conflict ms c relations r ≡ false) × AreUnmet ms c relations rs

-- ---- dependences

-- The relations are exactly the relations of the members' writes.
abbrev pub AreTold : Losses → Type 0
AreTold l = (p : ℕ → Bool) → list_any p l.relations.items ≡ list_any (λ m. any_of p (writes_of m)) l.members.items

-- Update n, with the trail ws, is added as the last member.
pub record Loses (n : ℕ) (ws : List Change) (old new : Losses) : Type 0 where
  pub joined : (ms : List Rule) (B : ℕ) → members_of ms B new.members.items ≡ members_of ms B old.members.items ++ record { number = n; trail = ws } ∷ []
  pub told : AreTold old → AreTold new

-- After the update r has been passed, and goes or stays: what is lost below the next update, and what lies below that one without
-- it.
pub record LeavesBelow (goes : Bool) (r : AuditedUpdate) (levels levels' : List (List Fact)) (old new : Losses) : Type 0 where
  pub below : (ms : List Rule) (B : ℕ) → top levels' ≡ without_member (caused_chase ms B) goes (top levels) (update_of ms B r)
  pub members : (ms : List Rule) (B : ℕ) → members_of ms B new.members.items ≡ with_member (caused_chase ms B) goes (members_of ms B old.members.items) r.program.attempt.number (update_of ms B r)
  pub told : AreTold old → AreTold new

-- The read with its number that a `Numbered` stands for.
abbrev pub numbered_of : Numbered → ℕ × Read
numbered_of x = (x.number, read_of x.read)

-- The read mentions one of the relations, and, if dependence is tested by values, has another value over D.
abbrev pub depends_by : Deps → List Rule → List ℕ → Direction → List Fact → List Change → Read → Bool
depends_by Precise ms relations h D own r = is_met_and_changed ms relations h D own r
depends_by Coarse ms relations h D own r = meets ms relations r.query

-- The result is the first read of the audited update that depends on what is lost.
abbrev pub IsFirstDependent : Deps → List Rule → Losses → List Fact → AuditedUpdate → Option Numbered → Type 0
IsFirstDependent deps ms l D r found =
    option_map numbered_of found ≡ first_that (depends_by deps ms l.relations.items (direction_of r.program.attempt.operation) D r.program.attempt.own) (reads_in r.log.items)

-- The first member that wrote in a relation that the read mentions; 0 if there is none.
abbrev pub least_writer : List Rule → Read → List MemberOfProgram → ℕ
least_writer ms r [] = 0
least_writer ms r (m ∷ ks) = if any_of (mentions ms r.query) (writes_of m) then m.number else least_writer ms r ks

-- The dependence of reader n on the members, by its read.
abbrev pub dependence_meant : List Rule → List MemberOfProgram → ℕ → ℕ × Read → PlainCause
dependence_meant ms ks n t = Dependent (record { reader = n; read = t.0; on = least_writer ms t.1 ks })

-- The result is the cause by which the audited update joins the members, if it does and is not among the first.
abbrev pub IsJoinOf : List Rule → Deps → ℕ → List ℕ → List Fact → Losses → AuditedUpdate → Option CauseOfProgram → Type 0
IsJoinOf ms deps c firsts D l r found =
    (B n : ℕ) → AreTold l → StandsAt n r → option_map (cause_meant ms B) found ≡ met_join ms B deps c firsts D (members_of ms B l.members.items) n (update_of ms B r)

-- The causes by which audited updates join the members. D lies below the first update, without the members' trails.
abbrev pub AreMetDependences : List Rule → Deps → ℕ → List ℕ → List Fact → Losses → List AuditedUpdate → List CauseOfProgram → Type 0
AreMetDependences ms deps c firsts D l rs causes =
    (B n : ℕ) → AreTold l → AreFrom n rs → causes_meant ms B causes ≡ met_cascade ms B deps c firsts D (members_of ms B l.members.items) n (updates_of ms B rs)

-- The causes by which audited updates depend on the updates with the numbers `firsts`, if the reads of the other live updates are
-- valid.
abbrev pub AreDependencesOn : List Rule → Deps → ℕ → List ℕ → List Fact → List AuditedUpdate → List CauseOfProgram → Type 0
AreDependencesOn ms deps c firsts D rs causes =
    (B n : ℕ) → AreFrom n rs → IsRepository D → AreValidThat (caused_chase ms B) (is_open (caused_chase ms B) c firsts) n D (updates_of ms B rs)
    → causes_meant ms B causes ≡ cascade (caused_chase ms B) deps c firsts D [] n (updates_of ms B rs)

-- ---- together

-- The causes by which updates above update j restart if it loses this trail, in any history with these updates. With the trail
-- all their reads were valid.
abbrev pub AreOfLoss : List Rule → Deps → ℕ → ℕ → List Change → List Fact → List AuditedUpdate → List CauseOfProgram → Type 0
AreOfLoss ms deps c j lost D rs causes =
    (B : ℕ) (u : Update (caused_chase ms B)) → trail (caused_chase ms B) u ≡ lost → AreFrom (suc j) rs → IsRepository D
    → AreValid (caused_chase ms B) (suc j) (apply D lost) (updates_of ms B rs)
    → causes_meant ms B causes ≡ causes_of_loss (caused_chase ms B) deps c j D u (updates_of ms B rs)

-- The causes by which updates above update j restart if its trail is now `made`, which ends with the new writes. Before these all
-- their reads were valid.
abbrev pub AreOfWrites : List Rule → Deps → ℕ → ℕ → List Change → List Change → List Fact → List AuditedUpdate → List CauseOfProgram → Type 0
AreOfWrites ms deps c j made writes D rs causes =
    (B : ℕ) (old : List Change) → made ≡ old ++ writes → AreFrom (suc j) rs → IsRepository D
    → AreValid (caused_chase ms B) (suc j) (apply D old) (updates_of ms B rs)
    → causes_meant ms B causes ≡ causes_of_writes (caused_chase ms B) deps c j (apply D made) (updates_of ms B rs)

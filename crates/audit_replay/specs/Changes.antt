-- The first of an update's reads that mentions one of some relations and has another value now.
use Rattle.std.specs.Prelude.{◌≡◌, ℕ, Bool, not, ◌&&◌, ◌+◌, List, take, Option}
use Rattle.std.specs.List.{list_any}
use Rattle.std.specs.Option.{option_map}
use Rattle.def_machine.specs.Reads.{first_that}
use Rattle.def_chase.specs.Mappings.{Rule}
use Rattle.def_chase.specs.Mentions.{mentions}
use Rattle.def_chase.specs.Queries.{Query, Reply, same_reply, value}
use Rattle.def_chase.specs.Repository.{Change as Write}
use Rattle.def_chase.specs.Updates.{direction_of}
use Rattle.def_chase.specs.Values.{Fact}
use Rattle.def_chase.specs.Violations.{Direction, Caused}
use Rattle.chase_query.specs.Meanings.{Read, read_of, reads_in, reply_of}
use Rattle.audit_updates.specs.declared.updates.AuditedUpdate.{AuditedUpdate}
use Rattle.audit_replay.specs.declared.changes.Change.{Change}

-- The query mentions one of the relations.
abbrev pub meets : List Rule → List ℕ → Query → Bool
meets ms relations q = list_any (mentions ms q) relations

-- The read mentions one of the relations.
abbrev pub is_read_met : List Rule → List ℕ → Read → Bool
is_read_met ms relations r = meets ms relations r.query

-- One of the reads mentions one of the relations.
abbrev pub any_met : List Rule → List ℕ → List Read → Bool
any_met ms relations rs = list_any (is_read_met ms relations) rs

-- The value of the read over D, for an attempt in this direction with these own writes, of which only the ones count that were
-- made before the read.
abbrev pub value_now : List Rule → Direction → List Fact → List Write → Read → Reply
value_now ms h D own r = value ms r.query D (take r.own own) (Caused h)

-- The read has another value over D than its logged reply.
abbrev pub is_changed : List Rule → Direction → List Fact → List Write → Read → Bool
is_changed ms h D own r = not (same_reply r.reply (value_now ms h D own r))

-- The read mentions one of the relations, and has another value over D.
abbrev pub is_met_and_changed : List Rule → List ℕ → Direction → List Fact → List Write → Read → Bool
is_met_and_changed ms relations h D own r = meets ms relations r.query && is_changed ms h D own r

-- A read that has another value now: its number in the log, from 1, the read, and its value now.
pub record ChangeMeant : Type 0 where
  pub number : ℕ
  pub read : Read
  pub now : Reply

-- What a `Change` stands for.
abbrev pub change_meant : Change → ChangeMeant
change_meant c = record { number = c.number; read = read_of c.read; now = reply_of c.now }

-- The read with its number, as a change over D.
abbrev pub changed_at : List Rule → Direction → List Fact → List Write → ℕ × Read → ChangeMeant
changed_at ms h D own t = record { number = t.0; read = t.1; now = value_now ms h D own t.1 }

-- The first of these reads that passes the test, with its number, if n reads come before them.
abbrev pub first_after : (Read → Bool) → ℕ → List Read → Option (ℕ × Read)
first_after p n rs = option_map (λ t. (n + t.0, t.1)) (first_that p rs)

-- The first of these reads, after n others, that mentions one of the relations and has another value over D.
abbrev pub first_change_after : ℕ → List Rule → List ℕ → Direction → List Fact → List Write → List Read → Option ChangeMeant
first_change_after n ms relations h D own rs = option_map (changed_at ms h D own) (first_after (is_met_and_changed ms relations h D own) n rs)

-- The first read of the log that mentions one of the relations and has another value over D.
abbrev pub first_change : List Rule → List ℕ → Direction → List Fact → List Write → List Read → Option ChangeMeant
first_change ms relations h D own log = option_map (changed_at ms h D own) (first_that (is_met_and_changed ms relations h D own) log)

-- The result is the first read of the audited update that mentions one of the relations and has another value over D.
abbrev pub IsFirstChange : List Rule → List ℕ → List Fact → AuditedUpdate → Option Change → Type 0
IsFirstChange ms relations D r found =
    option_map change_meant found ≡ first_change ms relations (direction_of r.program.attempt.operation) D r.program.attempt.own (reads_in r.log.items)

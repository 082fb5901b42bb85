-- Which reads depend on what is lost, in the terms of the program.
use Rattle.std.specs.Prelude.{◌≡◌, ℕ, List, [], ◌∷◌, Bool, if◌then◌else◌, Option}
use Rattle.std.specs.List.{list_any}
use Rattle.std.specs.Option.{option_map}
use Rattle.core_conflict.specs.Changes.{Changed, Numbered, first_from, first_changed}
use Rattle.core_conflict.specs.Concerns.{is_met}
use Rattle.core_conflict.specs.Trails.{writes_of, trails_of}
use Rattle.core_conflict.specs.declared.concerns.Sense.{Sense}
use Rattle.core_conflict.specs.declared.concerns.Sense.TheVariants.{Went}
use Rattle.core_conflict.specs.declared.concerns.Trail.{Trail}
use Rattle.def_machine.specs.Updates.{Deps, Precise, Coarse}
use Rattle.def_chase.specs.Mappings.{Rule}
use Rattle.def_chase.specs.Mentions.{mentions}
use Rattle.def_chase.specs.Repository.{Change}
use Rattle.def_chase.specs.Updates.{direction_of}
use Rattle.def_chase.specs.Violations.{Direction}
use Rattle.chase_query.specs.Meanings.{Read, read_of, reads_in}
use Rattle.core_queue.specs.declared.updates.QueuedUpdate.{QueuedUpdate}
use Rattle.def_steps.specs.Chase.{relation_of}
use Rattle.set_versions.specs.Standing.{Kept, seen}
use Rattle.core_cascade.specs.declared.lost.Lost.{Lost}
use Rattle.core_cascade.specs.declared.reads.Numbered.{Numbered as NumberedOfProgram}
use Rattle.core_cascade.specs.Meanings.{Above}

-- The read mentions the relation of one of the writes.
abbrev pub is_reached : List Rule → Read → List Change → Bool
is_reached ms r ws = list_any (λ w. mentions ms r.query (relation_of w)) ws

-- The read mentions the relation of a write of one of these trails.
abbrev pub any_reached : List Rule → List (List Change) → Read → Bool
any_reached ms trails r = list_any (λ ws. is_reached ms r ws) trails

-- The first member that wrote a relation which the read mentions; 0 if none did.
abbrev pub least_writer : List Rule → Read → List Trail → ℕ
least_writer ms r [] = 0
least_writer ms r (t ∷ ts) = if is_reached ms r (writes_of t) then t.update else least_writer ms r ts

-- A write of the first trails meets a read of the list exactly if one of the second does; all of these writes went.
abbrev pub AreMetAlike : List Rule → Direction → List Change → List (List Change) → List (List Change) → List Read → Type 0
AreMetAlike ms h own ts us [] = Unit {0}
AreMetAlike ms h own ts us (q ∷ qs) = (is_met ms h own Went ts q ≡ is_met ms h own Went us q) × AreMetAlike ms h own ts us qs

-- A write of the first trails meets a read of the queued update exactly if one of the second does.
abbrev pub MeetAlike : List Rule → List (List Change) → List (List Change) → QueuedUpdate → Type 0
MeetAlike ms ts us r = AreMetAlike ms (direction_of r.program.attempt.operation) r.program.attempt.own ts us (reads_in r.log.items)

-- The numbered read that a `Numbered` stands for.
abbrev pub numbered_of : NumberedOfProgram → Numbered
numbered_of x = record { number = x.number; read = read_of x.read }

-- The first logged read of the queued update that a write of these trails meets and that has another value over what its update
-- sees of the versions.
abbrev pub first_changed_in : List Rule → Kept → Sense → List (List Change) → QueuedUpdate → Option Changed
first_changed_in ms v g trails r =
    first_changed ms (direction_of r.program.attempt.operation) (seen r.program.attempt.number v) r.program.attempt.own g trails (reads_in r.log.items)

-- The first logged read of the queued update that a write of these lost trails meets and that has another value without them.
abbrev pub first_invalid : List Rule → Kept → List Trail → QueuedUpdate → Option Numbered
first_invalid ms v ts r = option_map (λ c. record { number = c.number; read = c.read }) (first_changed_in ms v Went (trails_of ts) r)

-- The first of these reads, of which the first has number n, that mentions a relation which one of the members wrote.
abbrev pub first_reached_from : List Rule → List Trail → ℕ → List Read → Option Numbered
first_reached_from ms ts n rs = first_from (any_reached ms (trails_of ts)) n rs

-- The first read of the log that mentions a relation which one of the members wrote.
abbrev pub first_reached : List Rule → List Trail → List Read → Option Numbered
first_reached ms ts rs = first_reached_from ms ts 1 rs

-- The first read that depends on what is lost, by this test.
abbrev pub first_by : Deps → List Rule → Lost → QueuedUpdate → Option Numbered
first_by Precise ms lost r = first_invalid ms lost.without lost.members.items r
first_by Coarse ms lost r = first_reached ms lost.members.items (reads_in r.log.items)

-- The first read that depends on what is lost, by the test of the walk.
abbrev pub first_dependent : Above → Lost → QueuedUpdate → Option Numbered
first_dependent a lost r = first_by a.deps a.rules lost r

-- What a cascade, the causes that it finds and what is lost mean.
use Rattle.std.specs.Prelude.{ℕ, List, ◌++◌, map, length, drop, Option, None}
use Rattle.std.specs.Option.{option_map}
use Rattle.core_conflict.specs.Trails.{writes_of}
use Rattle.core_conflict.specs.declared.concerns.Sense.{Sense}
use Rattle.core_conflict.specs.declared.concerns.Trail.{Trail}
use Rattle.core_entries.specs.Meanings.{cause_of}
use Rattle.core_entries.specs.declared.causes.Cause.{Cause as CauseOfProgram}
use Rattle.def_history.specs.PlainEntries.{cause_kept}
use Rattle.def_machine.specs.Cascade.{Cause, Member}
use Rattle.def_machine.specs.Updates.{Deps}
use Rattle.def_chase.specs.Mappings.{Rule}
use Rattle.core_queue.specs.Settings.{deps_of}
use Rattle.core_queue.specs.declared.updates.QueuedUpdate.{QueuedUpdate}
use Rattle.def_steps.specs.Chase.{caused_chase}
use Rattle.set_versions.specs.Standing.{Kept}
use Rattle.core_cascade.specs.declared.cascades.Cascade.{Cascade}

-- What a walk upwards depends on: the mappings, the test of dependences, how many updates were committed before the event, and
-- the number of the event's update. Also whether the event's writes came or went, and the versions with all trails.
pub record Above : Type 0 where
  pub rules : List Rule
  pub deps : Deps
  pub committed : ℕ
  pub update : ℕ
  pub sense : Sense
  pub whole : Kept

-- What a `Cascade` stands for.
abbrev pub above_of : Cascade → Above
above_of c =
    record { rules = c.mappings.now; deps = deps_of c.deps; committed = c.committed; update = c.update; sense = c.sense; whole = c.whole.now }

module _ (ms : List Rule) (B : ℕ) where
  -- The member of a history whose trail this is.
  abbrev pub member_of : Trail → Member (caused_chase ms B)
  member_of t = record { number = t.update; trail = writes_of t }

  -- The members of a history whose trails these are.
  abbrev pub members_of : List Trail → List (Member (caused_chase ms B))
  members_of ks = map member_of ks

  -- The cause that was found, as a history has it, if one was.
  abbrev pub found_of : Option CauseOfProgram → Option (Cause (caused_chase ms B))
  found_of x = option_map (cause_kept ms B) (option_map cause_of x)

  -- The causes that were found for the updates of a walk.
  abbrev pub all_found : List (Option CauseOfProgram) → List (Option (Cause (caused_chase ms B)))
  all_found xs = map found_of xs

  -- No cause.
  abbrev pub no_cause : QueuedUpdate → Option (Cause (caused_chase ms B))
  no_cause r = None

  -- The causes of these updates, if causes were looked for among the first alone and the others have none.
  abbrev pub found_for : List QueuedUpdate → List (Option CauseOfProgram) → List (Option (Cause (caused_chase ms B)))
  found_for rs xs = all_found xs ++ map no_cause (drop (length xs) rs)

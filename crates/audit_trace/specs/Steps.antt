-- What the parts of a step mean.
use Rattle.std.specs.Prelude.{List, map}
use Rattle.base_types.specs.declared.updates.Write.{Write}
use Rattle.base_types.specs.Meanings.{change_of}
use Rattle.core_entries.specs.declared.causes.Cause.{Cause}
use Rattle.core_entries.specs.Meanings.{standing_of, cause_of}
use Rattle.def_history.specs.PlainEntries.{StepMade}
use Rattle.audit_trace.specs.declared.entries.Made.{Made}

-- The step with these parts, writes and causes.
abbrev pub step_of : Made → List Write → List Cause → StepMade
step_of made writes causes =
    record {
      update = made.update;
      attempt = made.attempt;
      standing = standing_of made.standing;
      writes = map change_of writes;
      causes = map cause_of causes;
      committed = made.committed;
    }

-- The step that a snapshot plans.
use Rattle.std.specs.Prelude.{◌≡◌, ◌<◌, ◌+◌, ◌^◌, suc}
use Rattle.std.specs.Option.{option_map}
use Rattle.base_types.specs.Meanings.{choice_of}
use Rattle.def_chase.specs.Repository.{apply}
use Rattle.chase_update.specs.Wishes.{wish}
use Rattle.chase_plan.specs.Planned.{at_rest, HasSettled, WantsStep, next_attempt, next_reads}
use Rattle.set_versions.specs.Standing.{seen}
use Rattle.core_engine.specs.Planned.{PlanMeant}
use Rattle.core_engine.specs.declared.plans.Snapshot.TheInside.{Inside}

-- The next step of its program over what the update sees, with the answer if it is at a question.
abbrev pub planned_by : Inside → PlanMeant
planned_by v =
    record {
      update = v.update;
      program = at_rest (next_attempt v.mappings v.budget (seen v.update v.versions) v.program.attempt (option_map choice_of v.answer));
      reads = next_reads v.mappings (seen v.update v.versions) v.program.attempt (option_map choice_of v.answer);
    }

-- Its program can make a step with the answer. The versions have the writes of the attempt, and these have caused no violation
-- of the mappings that are settled.
pub record CanStep (v : Inside) : Type 0 where
  pub wanted : WantsStep (wish v.program) (option_map choice_of v.answer)
  pub left : v.program.attempt.steps < v.budget
  pub applied : seen (suc v.update) v.versions ≡ apply (seen v.update v.versions) v.program.attempt.own
  pub few : v.update + 1 < 2 ^ 32
  pub settled : HasSettled v.mappings (seen v.update v.versions) v.program.attempt v.settled

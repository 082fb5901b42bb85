use Rattle.std.proofs.Common.{subst, List, ◌∙◌}
use Rattle.def_chase.specs.Mappings.{Rule}
use Rattle.def_chase.specs.Values.{Fact}
use Rattle.audit_updates.specs.Programs.{IsPlanOf}
use Rattle.audit_updates.specs.Settings.{deps_of}
use Rattle.audit_replay.specs.Levels.{top}
use Rattle.audit_replay.specs.Steps.{AreOfStep}
use Rattle.audit_replay.proofs.Preparing.{plan_between, above_between, prepared_there}
use Rattle.audit_replay.proofs.Restarting.{stands_placed, there_is}
use Rattle.audit_replay.proofs.stepping.prepare.Goals as goal

pub planned-requires : goal.planned-requires
planned-requires c = record {
  between = (stands_placed c.args.updates.now c.args.place c.index-updates-place.result c.requires.numbers c.requires.within c.index-updates-place.is).between;
  ready = c.requires.ready c.index-updates-place.result (there_is c.args.updates.now c.args.place c.index-updates-place.result c.requires.within c.index-updates-place.is);
  left = c.requires.left c.index-updates-place.result (there_is c.args.updates.now c.args.place c.index-updates-place.result c.requires.within c.index-updates-place.is);
}

pub told_of_step-requires : goal.told_of_step-requires
told_of_step-requires c = record {
  between = (stands_placed c.args.updates.now c.args.place c.index-updates-place.result c.requires.numbers c.requires.within c.index-updates-place.is).between;
  planned = plan_between c.args.chase.now.mappings.now c.args.chase.now.budget c.facts.result.now c.index-updates-place.result c.in_ok-plan.plan c.in_ok-plan.ensures.planned;
  above = above_between c.args.updates.now _ c.args.place c.index-updates-place.result c.requires.numbers c.requires.within c.index-updates-place.is c.above-upper.ensures.above;
}

pub returns-in-Ok : goal.returns-in-Ok
returns-in-Ok c = record {
  prepared =
      prepared_there c.args.chase.now.mappings.now c.args.chase.now.budget (deps_of c.args.deps) c.args.before c.args.updates.now c.above-upper.result.now c.args.place c.index-updates-place.result (top c.args.levels.now) c.in_ok-plan.plan c.in-Ok.causes c.in-Ok.writes c.attempt.result c.requires.within c.index-updates-place.is
      c.above-upper.ensures.above (subst (λ (D : List Fact). IsPlanOf c.args.chase.now.mappings.now c.args.chase.now.budget D c.index-updates-place.result c.in_ok-plan.plan) c.facts.ensures.top c.in_ok-plan.ensures.planned)
      (subst (λ (ms : List Rule). AreOfStep ms (deps_of c.args.deps) c.args.before c.index-updates-place.result c.in_ok-plan.plan (top c.args.levels.now) c.above-upper.result.now c.in-Ok.causes.items) c.list.ensures.rules c.in-Ok.ensures.causes) c.in-Ok.ensures.writes c.attempt.ensures.attempt;
  levels = c.in-Ok.ensures.levels;
}

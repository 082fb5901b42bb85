use Rattle.std.proofs.Common.{rules}
use Rattle.audit_replay.specs.declared.events.Event.TheVariants as events
use Rattle.audit_replay.proofs.Deciding.{between_there, counted, is_there, it_is_within, made_at, not_ready, ready_there}
use Rattle.audit_replay.proofs.Done.{nothing_made}
use Rattle.audit_replay.proofs.Going.{its_numbers}
use Rattle.audit_replay.proofs.replays.Replay.step.Goals as goal

pub returns-in_default : goal.returns-in_default
returns-in_default c = record { made = (nothing_made c.args.self.now c.args.update c.in_default.ensures.place).0; err = tt }

pub committed-before-requires : goal.committed-before-requires
committed-before-requires c = record { from = its_numbers c.args.self.now c.requires.replay c.as_slice-updates.result.now c.as_slice-updates.ensures.value }

pub bounds-updates-place : goal.bounds-updates-place
bounds-updates-place c = is_there c.args.self.now c.args.update c.in-Some.place c.as_slice-updates.result.now c.as_slice-updates.ensures.value c.in-Some.ensures.place

pub is_ready-requires : goal.is_ready-requires
is_ready-requires c = record { between = between_there c.args.self.now c.args.update c.in-Some.place c.index-updates-place.result c.as_slice-updates.result.now c.requires.replay c.as_slice-updates.ensures.value c.in-Some.ensures.place c.index-updates-place.is }

pub returns-then-not-is_ready : goal.returns-then-not-is_ready
returns-then-not-is_ready c = record { made = not_ready c.args.self.now c.args.update c.in-Some.place c.committed-before.result c.index-updates-place.result c.in-Some.ensures.place c.as_slice-updates.result.now c.as_slice-updates.ensures.value c.index-updates-place.is c.committed-before.ensures.committed c.is_ready.result c.is_ready.ensures.ready (search rules); err = tt }

pub step_at-requires : goal.step_at-requires
step_at-requires c = record {
  replay = c.requires.replay;
  within = it_is_within c.args.self.now c.args.update c.in-Some.place c.committed-before.result c.index-updates-place.result c.in-Some.ensures.place c.as_slice-updates.result.now c.as_slice-updates.ensures.value c.index-updates-place.is c.committed-before.ensures.committed;
  committed = counted c.args.self.now c.args.update c.in-Some.place c.committed-before.result c.index-updates-place.result c.in-Some.ensures.place c.as_slice-updates.result.now c.as_slice-updates.ensures.value c.index-updates-place.is c.committed-before.ensures.committed;
  ready = ready_there c.args.self.now c.args.update c.in-Some.place c.committed-before.result c.index-updates-place.result c.in-Some.ensures.place c.as_slice-updates.result.now c.as_slice-updates.ensures.value c.index-updates-place.is c.committed-before.ensures.committed c.is_ready.result c.is_ready.ensures.ready (search rules);
}

pub returns : goal.returns
returns c = record { made = made_at events.Steps c.args.self.now c.step_at.new.self c.args.update c.in-Some.place c.in_ok-entry.entry c.in-Some.ensures.place c.in_ok-entry.ensures.made; err = tt }

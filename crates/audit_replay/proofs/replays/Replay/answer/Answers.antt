use Rattle.std.proofs.Common.{rules}
use Rattle.audit_replay.specs.declared.events.Event.TheVariants as events
use Rattle.audit_replay.proofs.Deciding.{between_there, is_there, it_is_within, made_at, not_taken, taken_there}
use Rattle.audit_replay.proofs.Done.{nothing_answered}
use Rattle.audit_replay.proofs.Going.{its_numbers}
use Rattle.audit_replay.proofs.replays.Replay.answer.Goals as goal

pub returns-in_default : goal.returns-in_default
returns-in_default c = record { made = nothing_answered c.args.self.now c.args.update c.args.choice c.in_default.ensures.place; err = tt }

pub committed-before-requires : goal.committed-before-requires
committed-before-requires c = record { from = its_numbers c.args.self.now c.requires.replay c.as_slice-updates.result.now c.as_slice-updates.ensures.value }

pub bounds-updates-place : goal.bounds-updates-place
bounds-updates-place c = is_there c.args.self.now c.args.update c.in-Some.place c.as_slice-updates.result.now c.as_slice-updates.ensures.value c.in-Some.ensures.place

pub takes-requires : goal.takes-requires
takes-requires c = record { between = between_there c.args.self.now c.args.update c.in-Some.place c.index-updates-place.result c.as_slice-updates.result.now c.requires.replay c.as_slice-updates.ensures.value c.in-Some.ensures.place c.index-updates-place.is }

pub returns-then-not-takes : goal.returns-then-not-takes
returns-then-not-takes c = record { made = not_taken c.args.self.now c.args.update c.in-Some.place c.committed-before.result c.index-updates-place.result c.in-Some.ensures.place c.as_slice-updates.result.now c.as_slice-updates.ensures.value c.index-updates-place.is c.committed-before.ensures.committed c.args.choice c.takes.result c.takes.ensures.takes (search rules); err = tt }

pub answer_at-requires : goal.answer_at-requires
answer_at-requires c = record {
  replay = c.requires.replay;
  within = it_is_within c.args.self.now c.args.update c.in-Some.place c.committed-before.result c.index-updates-place.result c.in-Some.ensures.place c.as_slice-updates.result.now c.as_slice-updates.ensures.value c.index-updates-place.is c.committed-before.ensures.committed;
  taken = taken_there c.args.self.now c.args.update c.in-Some.place c.committed-before.result c.index-updates-place.result c.in-Some.ensures.place c.as_slice-updates.result.now c.as_slice-updates.ensures.value c.index-updates-place.is c.committed-before.ensures.committed c.args.choice c.takes.result c.takes.ensures.takes (search rules);
}

pub returns : goal.returns
returns c = record { made = made_at (λ u. events.Answers u c.args.choice) c.args.self.now c.answer_at.new.self c.args.update c.in-Some.place c.in_ok-entry.entry c.in-Some.ensures.place c.in_ok-entry.ensures.made; err = tt }

use Rattle.std.proofs.Common.{refl, subst, suc, List, drop, length, arith}
use Rattle.def_chase.specs.Mappings.{Rule}
use Rattle.audit_updates.specs.Settings.{deps_of}
use Rattle.audit_replay.specs.Causes.{AreOfLoss}
use Rattle.audit_replay.specs.Levels.{top}
use Rattle.audit_replay.specs.Places.{trail_of}
use Rattle.audit_replay.specs.Steps.{AtPlace}
use Rattle.audit_replay.proofs.Done.{withdrawal_done}
use Rattle.audit_replay.proofs.Going.{front, its_between, its_more, its_numbers, is_most, is_within, left_with}
use Rattle.set_facts.proofs.Groups.{held_err}
use Rattle.audit_replay.proofs.replays.Replay.withdraw_at.Goals as goal

pub go_to-requires : goal.go_to-requires
go_to-requires c = record {
  within = is_most c.args.self.now c.requires.replay c.as_slice-updates.result.now c.as_slice-updates.ensures.value c.args.place c.requires.within;
  between = its_between c.args.self.now c.requires.replay c.as_slice-updates.result.now c.as_slice-updates.ensures.value;
}

pub prepare-requires : goal.prepare-requires
prepare-requires c = record {
  within = is_within c.args.self.now c.requires.replay c.as_slice-updates.result.now c.as_slice-updates.ensures.value c.args.place c.requires.within;
  numbers = its_numbers c.args.self.now c.requires.replay c.as_slice-updates.result.now c.as_slice-updates.ensures.value;
}

pub remove-requires : goal.remove-requires
remove-requires c = record {
  within = is_within c.args.self.now c.requires.replay c.as_mut_slice.result.now c.as_mut_slice.ensures.value c.args.place c.requires.within;
  numbers = its_numbers c.args.self.now c.requires.replay c.as_mut_slice.result.now c.as_mut_slice.ensures.value;
  more = its_more c.args.self.now c.requires.replay c.as_mut_slice.result.now c.as_mut_slice.ensures.value;
}

pub returns : goal.returns
returns c = record {
  made =
      withdrawal_done c.args.self.now _ c.args.place c.args.before c.as_slice-updates.result.now c.as_mut_slice.result.now c.remove.new.updates c.go_to.new.levels c.in_ok-causes.causes c.in_ok-entry.entry c.requires.within c.as_slice-updates.ensures.value
      c.as_mut_slice.ensures.value c.requires.committed c.requires.live c.in_ok-go_to.ensures.there
      (subst (λ (ms : List Rule). AtPlace c.args.place c.as_slice-updates.result.now (λ r. AreOfLoss ms (deps_of c.args.self.now.settings.deps) c.args.before (suc c.args.place) (trail_of r) (top c.go_to.new.levels) (drop (suc c.args.place) c.as_slice-updates.result.now) c.in_ok-causes.causes.items))
      c.list-mappings.ensures.rules c.in_ok-causes.ensures.causes) c.in_ok-entry.ensures.removed c.in_ok-entry.ensures.numbers
      (front c.remove.new.updates (drop (length c.remove.new.updates) c.args.self.now.updates.items) c.args.self.now.updates.len (omega arith)) c.in_ok-causes.ensures.levels (record { mappings = refl; budget = refl; settings = refl; handed = refl });
  err = tt;
}

pub returns-in_err-go_to-clause-err : goal.returns-in_err-go_to-clause-err
returns-in_err-go_to-clause-err c = held_err c.from_residual.result (left_with c.args.self.now _ c.args.self.now.updates.items refl c.requires.replay.replays.numbers refl refl refl refl)

pub returns-in_err-causes-clause-err : goal.returns-in_err-causes-clause-err
returns-in_err-causes-clause-err c = held_err c.from_residual-in_err-causes.result (left_with c.args.self.now _ c.args.self.now.updates.items refl c.requires.replay.replays.numbers refl refl refl refl)

pub returns-in_err-entry-clause-err : goal.returns-in_err-entry-clause-err
returns-in_err-entry-clause-err c =
    held_err c.from_residual-in_err-entry.result
    (left_with c.args.self.now _ c.remove.new.updates (front c.remove.new.updates (drop (length c.remove.new.updates) c.args.self.now.updates.items) c.args.self.now.updates.len (omega arith)) c.in_err-entry.ensures.err refl refl refl refl)

use Rattle.std.proofs.Common.{◌∙◌, refl, sym, drop, length, arith}
use Rattle.audit_updates.specs.Settings.{deps_of}
use Rattle.audit_replay.specs.Levels.{top}
use Rattle.audit_replay.proofs.Done.{step_done}
use Rattle.audit_replay.proofs.Going.{front, its_between, its_more, its_numbers, is_left_there, is_most, is_ready_there, is_within, planned_there, left_with}
use Rattle.set_facts.proofs.Groups.{held_err}
use Rattle.audit_replay.proofs.replays.Replay.step_at.Goals as goal

pub go_to-requires : goal.go_to-requires
go_to-requires c = record {
  within = is_most c.args.self.now c.requires.replay c.as_slice-updates.result.now c.as_slice-updates.ensures.value c.args.place c.requires.within;
  between = its_between c.args.self.now c.requires.replay c.as_slice-updates.result.now c.as_slice-updates.ensures.value;
}

pub prepare-requires : goal.prepare-requires
prepare-requires c = record {
  within = is_within c.args.self.now c.requires.replay c.as_slice-updates.result.now c.as_slice-updates.ensures.value c.args.place c.requires.within;
  numbers = its_numbers c.args.self.now c.requires.replay c.as_slice-updates.result.now c.as_slice-updates.ensures.value;
  ready = is_ready_there c.args.self.now c.requires.replay c.as_slice-updates.result.now c.as_slice-updates.ensures.value c.args.place c.args.before _ c.requires.ready;
  left = is_left_there c.args.self.now c.requires.replay c.as_slice-updates.result.now c.as_slice-updates.ensures.value c.args.place c.args.before _ c.requires.ready;
}

pub install-requires : goal.install-requires
install-requires c = record {
  within = is_within c.args.self.now c.requires.replay c.as_mut_slice.result.now c.as_mut_slice.ensures.value c.args.place c.requires.within;
  numbers = its_numbers c.args.self.now c.requires.replay c.as_mut_slice.result.now c.as_mut_slice.ensures.value;
  more = its_more c.args.self.now c.requires.replay c.as_mut_slice.result.now c.as_mut_slice.ensures.value;
  planned =
      planned_there c.args.self.now.mappings c.args.self.now.budget (deps_of c.args.self.now.settings.deps) c.args.before c.args.place (top c.go_to.new.levels) c.as_slice-updates.result.now c.as_mut_slice.result.now _ c.in_ok-prepared.prepared
      (c.as_mut_slice.ensures.value ∙ sym c.as_slice-updates.ensures.value) c.in_ok-prepared.ensures.prepared;
}

pub returns : goal.returns
returns c = record {
  made =
      step_done c.args.self.now _ c.args.place c.args.before c.as_slice-updates.result.now c.as_mut_slice.result.now c.install.new.updates c.go_to.new.levels c.in_ok-prepared.prepared c.in_ok-entry.entry c.requires.within c.as_slice-updates.ensures.value
      c.as_mut_slice.ensures.value c.requires.committed c.requires.ready c.in_ok-go_to.ensures.there c.in_ok-prepared.ensures.prepared c.in_ok-entry.ensures.made c.in_ok-entry.ensures.numbers
      (front c.install.new.updates (drop (length c.install.new.updates) c.args.self.now.updates.items) c.args.self.now.updates.len (omega arith)) c.in_ok-prepared.ensures.levels (record { mappings = refl; budget = refl; settings = refl; handed = refl });
  err = tt;
}

pub returns-in_err-go_to-clause-err : goal.returns-in_err-go_to-clause-err
returns-in_err-go_to-clause-err c = held_err c.from_residual.result (left_with c.args.self.now _ c.args.self.now.updates.items refl c.requires.replay.replays.numbers refl refl refl refl)

pub returns-in_err-prepared-clause-err : goal.returns-in_err-prepared-clause-err
returns-in_err-prepared-clause-err c = held_err c.from_residual-in_err-prepared.result (left_with c.args.self.now _ c.args.self.now.updates.items refl c.requires.replay.replays.numbers refl refl refl refl)

pub returns-in_err-entry-clause-err : goal.returns-in_err-entry-clause-err
returns-in_err-entry-clause-err c =
    held_err c.from_residual-in_err-entry.result
    (left_with c.args.self.now _ c.install.new.updates (front c.install.new.updates (drop (length c.install.new.updates) c.args.self.now.updates.items) c.args.self.now.updates.len (omega arith)) c.in_err-entry.ensures.err refl refl refl refl)

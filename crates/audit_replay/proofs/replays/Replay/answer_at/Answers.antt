use Rattle.std.proofs.Common.{refl, drop, length, arith}
use Rattle.audit_replay.proofs.Done.{answer_done}
use Rattle.audit_replay.proofs.Going.{front, its_numbers, is_within, left_with}
use Rattle.set_facts.proofs.Groups.{held_err}
use Rattle.audit_replay.proofs.replays.Replay.answer_at.Goals as goal

pub answer_to-requires : goal.answer_to-requires
answer_to-requires c = record {
  within = is_within c.args.self.now c.requires.replay c.as_mut_slice-updates.result.now c.as_mut_slice-updates.ensures.value c.args.place c.requires.within;
  numbers = its_numbers c.args.self.now c.requires.replay c.as_mut_slice-updates.result.now c.as_mut_slice-updates.ensures.value;
}

pub returns : goal.returns
returns c = record {
  made =
      answer_done c.args.self.now _ c.args.place c.args.choice c.as_mut_slice-updates.result.now c.answer_to.new.updates c.in_ok-entry.entry c.requires.within c.as_mut_slice-updates.ensures.value c.requires.taken c.in_ok-entry.ensures.answered c.in_ok-entry.ensures.numbers
      (front c.answer_to.new.updates (drop (length c.answer_to.new.updates) c.args.self.now.updates.items) c.args.self.now.updates.len (omega arith)) refl (record { mappings = refl; budget = refl; settings = refl; handed = refl });
  err = tt;
}

pub returns-in_err-entry-clause-err : goal.returns-in_err-entry-clause-err
returns-in_err-entry-clause-err c =
    held_err c.from_residual.result
    (left_with c.args.self.now _ c.answer_to.new.updates (front c.answer_to.new.updates (drop (length c.answer_to.new.updates) c.args.self.now.updates.items) c.args.self.now.updates.len (omega arith)) c.in_err-entry.ensures.err refl refl refl refl)

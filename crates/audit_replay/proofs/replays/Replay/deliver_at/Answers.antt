use Rattle.std.proofs.Common.{refl, drop, length, arith}
use Rattle.audit_replay.proofs.Done.{delivery_done}
use Rattle.audit_replay.proofs.Going.{front, its_numbers, is_within, left_with}
use Rattle.set_facts.proofs.Groups.{held_err}
use Rattle.audit_replay.proofs.replays.Replay.deliver_at.Goals as goal

pub deliver_to-requires : goal.deliver_to-requires
deliver_to-requires c = record {
  within = is_within c.args.self.now c.requires.replay c.as_mut_slice.result.now c.as_mut_slice.ensures.value c.args.place c.requires.within;
  numbers = its_numbers c.args.self.now c.requires.replay c.as_mut_slice.result.now c.as_mut_slice.ensures.value;
}

pub returns : goal.returns
returns c = record {
  made =
      delivery_done c.args.self.now _ c.args.place c.as_mut_slice.result.now c.deliver_to.new.updates c.in_ok-entry.entry c.requires.within c.as_mut_slice.ensures.value c.requires.deliverable c.in_ok-entry.ensures.delivered c.in_ok-entry.ensures.numbers
      (front c.deliver_to.new.updates (drop (length c.deliver_to.new.updates) c.args.self.now.updates.items) c.args.self.now.updates.len (omega arith)) refl (record { mappings = refl; budget = refl; settings = refl; handed = refl });
  err = tt;
}

pub returns-in_err-entry-clause-err : goal.returns-in_err-entry-clause-err
returns-in_err-entry-clause-err c =
    held_err c.from_residual.result
    (left_with c.args.self.now _ c.deliver_to.new.updates (front c.deliver_to.new.updates (drop (length c.deliver_to.new.updates) c.args.self.now.updates.items) c.args.self.now.updates.len (omega arith)) c.in_err-entry.ensures.err refl refl refl refl)

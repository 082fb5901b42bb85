use Rattle.std.proofs.Common.{◌∙◌, ap, sym, arith}
use Rattle.audit_updates.specs.Settings.{settings_of}
use Rattle.audit_updates.specs.declared.updates.AuditedUpdate.{AuditedUpdate}
use Rattle.audit_replay.proofs.Placing.{delivered_there}
use Rattle.audit_replay.proofs.Restarting.{put_with, set_long, same_place}
use Rattle.set_facts.proofs.Groups.{held_err}
use Rattle.audit_replay.proofs.answering.deliver_to.Goals as goal

pub standing_at-standing-requires : goal.standing_at-standing-requires
standing_at-standing-requires c =
    let long = set_long c.args.updates.now c.args.place c.deliver.new.self in record {
      within = omega (arith, long, c.requires.within);
      numbers = put_with c.args.updates.now c.args.place c.index-updates-place.result c.deliver.new.self c.requires.numbers c.requires.within c.index-updates-place.is c.in_ok-deliver.ensures.place;
    }

pub returns : goal.returns
returns c =
    let numbers = put_with c.args.updates.now c.args.place c.index-updates-place.result c.deliver.new.self c.requires.numbers c.requires.within c.index-updates-place.is c.in_ok-deliver.ensures.place in record {
      delivered =
          delivered_there (settings_of c.args.settings) c.args.updates.now c.args.place c.index-updates-place.result c.deliver.new.self c.number-update.result c.index-updates-place-2.result c.standing_at-standing.result c.requires.within c.index-updates-place.is numbers c.index-updates-place-2.is
          (c.number-update.ensures.number ∙ ap (λ (q : AuditedUpdate). q.program.attempt.number) (sym c.index-updates-place-2.is)) c.in_ok-deliver.ensures.delivered c.standing_at-standing.ensures.standing;
      numbers = numbers;
      err = tt;
    }

pub returns-in_err-deliver-clause-err : goal.returns-in_err-deliver-clause-err
returns-in_err-deliver-clause-err c =
    held_err c.from_residual.result
    (put_with c.args.updates.now c.args.place c.index-updates-place.result c.deliver.new.self c.requires.numbers c.requires.within c.index-updates-place.is (same_place _ _ c.in_err-deliver.ensures.err))

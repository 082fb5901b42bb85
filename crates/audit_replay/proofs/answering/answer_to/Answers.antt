use Rattle.std.proofs.Common.{◌∙◌, ap, sym, arith}
use Rattle.audit_updates.specs.Settings.{settings_of}
use Rattle.audit_updates.specs.declared.updates.AuditedUpdate.{AuditedUpdate}
use Rattle.audit_replay.proofs.Placing.{answered_there}
use Rattle.audit_replay.proofs.Restarting.{put_with, set_long, same_place}
use Rattle.set_facts.proofs.Groups.{held_err}
use Rattle.audit_replay.proofs.answering.answer_to.Goals as goal

pub standing_at-standing-requires : goal.standing_at-standing-requires
standing_at-standing-requires c =
    let long = set_long c.args.updates.now c.args.place c.answer.new.self in record {
      within = omega (arith, long, c.requires.within);
      numbers = put_with c.args.updates.now c.args.place c.index-updates-place.result c.answer.new.self c.requires.numbers c.requires.within c.index-updates-place.is c.in_ok-answer.ensures.place;
    }

pub returns : goal.returns
returns c =
    let numbers = put_with c.args.updates.now c.args.place c.index-updates-place.result c.answer.new.self c.requires.numbers c.requires.within c.index-updates-place.is c.in_ok-answer.ensures.place in record {
      answered =
          answered_there (settings_of c.args.settings) c.args.updates.now c.args.place c.args.choice c.in_ok-copy.copy c.index-updates-place.result c.answer.new.self c.number-update.result c.index-updates-place-2.result c.standing_at-standing.result c.requires.within c.index-updates-place.is numbers c.index-updates-place-2.is
          (c.number-update.ensures.number ∙ ap (λ (q : AuditedUpdate). q.program.attempt.number) (sym c.index-updates-place-2.is)) c.in_ok-copy.ensures.same c.in_ok-answer.ensures.answered c.standing_at-standing.ensures.standing;
      numbers = numbers;
      err = tt;
    }

pub returns-in_err-answer-clause-err : goal.returns-in_err-answer-clause-err
returns-in_err-answer-clause-err c =
    held_err c.from_residual-in_err-answer.result
    (put_with c.args.updates.now c.args.place c.index-updates-place.result c.answer.new.self c.requires.numbers c.requires.within c.index-updates-place.is (same_place _ _ c.in_err-answer.ensures.err))

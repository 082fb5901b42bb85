use Rattle.std.proofs.Common.{◌∙◌, ap, List, map}
use Rattle.std.proofs.Math.ListN.{drop_of_length-le}
use Rattle.chase_update.specs.Results.{finish_of}
use Rattle.lang_session.specs.declared.sessions.SessionUpdate.{SessionUpdate}
use Rattle.lang_session.specs.Meanings.{request_of, update_of}
use Rattle.run_serial.specs.Runs.{after, told_from}
use Rattle.run_serial.proofs.Onward.{ends_here}
use Rattle.run_serial.proofs.runs.take_all.Goals as goal

pub returns : goal.returns
returns c =
    let ms = c.args.mappings.now in
    let fs = map finish_of c.loop-update.finishes.items in
    record {
      told =
          c.loop-update.invariant.together
          ∙ (ap (λ (us : List SessionUpdate). after fs (told_from ms c.args.budget c.loop-update.facts c.loop-update.number (map request_of (map update_of us))))
          (drop_of_length-le c.args.updates.now c.loop-update-test.false)
          ∙ ends_here ms c.args.budget c.loop-update.facts c.loop-update.number fs);
    }

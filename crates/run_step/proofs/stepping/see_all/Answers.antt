use Rattle.std.proofs.Common.{◌∙◌, ap, List}
use Rattle.std.proofs.lemmas.Result.{on_ok_weaker}
use Rattle.def_chase.specs.Repository.{Change}
use Rattle.run_step.proofs.Answered.{seen_all}
use Rattle.run_step.proofs.stepping.see_all.Goals as goal

pub returns : goal.returns
returns c =
    record {
      seen = on_ok_weaker c.write_all.result (λ d. d ∙ ap (λ (own : List Change). record { rules = c.args.view.now.rules; heading = c.args.view.now.heading; below = c.args.view.now.below; own = own })
          (seen_all c.args.seen c.args.own.now.items c.as_slice.result.now c.args.view.now.own c.as_slice.ensures.items c.requires.first)) c.write_all.ensures.ok;
    }

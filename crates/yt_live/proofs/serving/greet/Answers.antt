-- The line that is written is that of so many updates.
use Rattle.std.proofs.Common.{◌++◌, ◌∷◌, [], ℕ, List, subst, ap, ◌∙◌}
use Rattle.std.specs.Prelude.{IfErr, codes}
use Rattle.std.specs.Fmt.{decimal}
use Rattle.cmd_frame.specs.Devices.{change}
use Rattle.yt_live.specs.Ends.{FailsReply}
use Rattle.yt_live.proofs.serving.greet.Goals as goal

pub returns-clause-err : goal.returns-clause-err
returns-clause-err g c =
    let same = c.deref.ensures.value ∙ (c.in_ok-first.ensures ∙ ap (λ n. codes "ready " ++ (decimal n ++ 10 ∷ [])) c.count.ensures.count) in
    subst (λ (l : List ℕ). IfErr c.write.result (FailsReply l (change g.O.Sink.taken g.O.Sink.fault_count c.args.sink.now c.write.new.sink))) same c.write.ensures.err

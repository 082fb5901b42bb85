use Rattle.cmd_threads.proofs.Made.{printed}
use Rattle.cmd_threads.proofs.runs.run_output.Goals as goal

pub returns : goal.returns
returns c =
    printed c.args.trace c.args.run.now _ _ _ _ _ _ c.requires.of c.history.ensures.whole c.in_ok-told.ensures.serial c.in_ok-text.ensures.text
    c.in_ok-whole.ensures c.history.ensures.history c.ending_by-ending.ensures

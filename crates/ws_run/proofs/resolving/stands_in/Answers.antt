use Rattle.std.proofs.Common.{◌∙◌}
use Rattle.base_types.specs.Meanings.{null_of}
use Rattle.ws_run.proofs.Found.{some_holds}
use Rattle.ws_run.proofs.resolving.stands_in.Goals as goal

-- By the index of nulls.
pub returns : goal.returns
returns c = record { stands = c.is_some.ensures ∙ some_holds c.holding.result c.args.facts.now (null_of c.args.null) c.holding.ensures.found }

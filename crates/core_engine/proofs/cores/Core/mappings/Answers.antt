use Rattle.std.proofs.Common.{◌∙◌, ap}
use Rattle.core_engine.specs.States.{State}
use Rattle.core_engine.proofs.cores.Core.mappings.Goals as goal

pub returns : goal.returns
returns c = record { rules = c.list.ensures.rules ∙ ap (λ (s : State). s.over.rules) c.self.view_is }

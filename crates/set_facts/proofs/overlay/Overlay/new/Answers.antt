use Rattle.std.proofs.Common.{◌∙◌}
use Rattle.set_facts.specs.Overlaid.{overlaid}
use Rattle.set_facts.proofs.Overlays.{overlaid_empty}
use Rattle.set_facts.proofs.overlay.Overlay.new.Goals as goal

pub returns : goal.returns
returns g c =
    let D = g.F.Facts.tuples c.args.facts.now in
    record { same = (λ j. overlaid D (c.new.ensures.empty j) (c.new-2.ensures.empty j)) ∙ overlaid_empty D }

use Rattle.std.proofs.Common.{ap, ◌∙◌, map}
use Rattle.base_types.specs.Meanings.{change_of}
use Rattle.set_versions.specs.Standing.{Kept, known_at}
use Rattle.set_versions.specs.Touches.{retracted_at}
use Rattle.set_versions.proofs.Standings.{retracted_stands}
use Rattle.set_versions.proofs.versions.Versions.retract.Goals as goal

pub returns-clause-ok : goal.returns-clause-ok
returns-clause-ok c =
    let ws = map change_of c.args.writes.now in
    retracted_stands c.args.number ws c.args.self.now c.in_ok-new.new c.in_ok-new.ensures.kept
    (λ t. c.in_ok-new.ensures.known t ∙ ap (λ (v : Kept). retracted_at c.args.number ws t (known_at v t)) c.in_ok-lend.ensures.same)

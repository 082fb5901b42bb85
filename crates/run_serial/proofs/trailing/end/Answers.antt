use Rattle.std.proofs.Common.{◌∙◌, ap, map, [], ◌∷◌, ◌++◌}
use Rattle.std.proofs.lemmas.List.{map-append}
use Rattle.base_types.specs.Contents.{changes_of}
use Rattle.run_serial.specs.Trails.{trails_of}
use Rattle.run_serial.proofs.trailing.end.Goals as goal

pub returns-clause-left : goal.returns-clause-left
returns-clause-left c = λ ms B.
    ap (map changes_of) c.in_ok-push.ensures.ok
    ∙ map-append changes_of c.args.trails.now.items (c.in_ok-trail.trail ∷ [])
    ∙ ap (λ t. trails_of c.args.trails.now ++ t ∷ []) (c.in_ok-trail.ensures ms B c.args.program.attempt c.in_ok-own.ensures.own c.finish-outcome.ensures.outcome)

pub returns-clause-kept : goal.returns-clause-kept
returns-clause-kept c = λ ms B. c.in_ok-keep.ensures.kept ms B c.args.program.attempt c.in_ok-own.ensures.own c.finish-outcome.ensures.outcome

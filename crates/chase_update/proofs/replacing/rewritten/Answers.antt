use Rattle.std.proofs.Common.{◌∙◌, ap, map}
use Rattle.base_types.specs.Meanings.{null_of, datum_of, fact_of}
use Rattle.base_types.specs.Maps.{images_of}
use Rattle.def_steps.specs.Attempts.{Look}
use Rattle.def_steps.specs.Rewriting.{rewrite}
use Rattle.def_steps.specs.Steps.{makes}
use Rattle.chase_update.proofs.Standings.{moved_is}
use Rattle.chase_update.proofs.replacing.rewritten.Goals as goal

pub returns-clause-value : goal.returns-clause-value
returns-clause-value c =
    let moves = moved_is (images_of c.set.new.self) (images_of c.new-sub.result) (null_of c.args.null) (datum_of c.args.value) c.in_ok-set.ensures.ok c.new-sub.ensures.empty in
    λ ms P. c.looks.ensures.tree ms P ∙ ap (λ ws. makes ws Look) (c.in_ok-rewrite.ensures.value ∙ ap (λ f. rewrite f (map fact_of c.args.tuples.now.items)) moves)

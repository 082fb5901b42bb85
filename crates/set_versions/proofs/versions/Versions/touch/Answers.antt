use Rattle.std.proofs.Common.{ap, ◌∙◌, cond}
use Rattle.base_types.specs.Meanings.{fact_of}
use Rattle.def_chase.specs.Values.{same_fact}
use Rattle.set_versions.specs.Standing.{known_at}
use Rattle.set_versions.specs.Touches.{touched}
use Rattle.set_versions.proofs.Knowing.{at_itself}
use Rattle.set_versions.proofs.versions.Versions.touch.Goals as goal

pub returns-clause-known : goal.returns-clause-known
returns-clause-known c t =
    c.in_ok-put.ensures.known t
    ∙ (λ i. cond (same_fact t (c.in_ok-key.ensures.tuple i)) ((c.in_ok-touch.ensures.ok ∙ ap (touched c.args.touch) c.in_ok-key.ensures.marks) i) (known_at c.args.self.now t))
    ∙ at_itself (touched c.args.touch) (known_at c.args.self.now) (fact_of c.args.tuple.now) t

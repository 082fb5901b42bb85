-- The unifier of an answer at a question.
use Rattle.std.proofs.Common.{◌≡◌, ◌∙◌, ap, sym, map}
use Rattle.def_chase.specs.Values.{Datum, Fact}
use Rattle.def_chase.specs.Unifier.{unifier}
use Rattle.base_types.specs.Meanings.{fact_of}
use Rattle.base_types.specs.declared.tuples.Tuple.{Tuple}
use Rattle.base_types.specs.Listed.{Listed}
use Rattle.chase_question.specs.declared.questions.Question.TheVariants.{Positive}
use Rattle.def_steps.specs.Questions.{candidate}
use Rattle.chase_repair.specs.declared.stages.Generation.{Generation}
use Rattle.chase_repair.specs.declared.stages.Stage.{Stage}
use Rattle.chase_repair.specs.Repairs.{Repairing, phase_of}
use Rattle.chase_repair.specs.Stages.{repair_of, repairing_of, waiting}
use Rattle.chase_repair.specs.Bound.{unifier_in}
use Rattle.std.specs.Prelude.{ℕ}

pub unifier_is : (g : Generation) (s : Stage) (n : ℕ) (t : Tuple) (cs : Listed Tuple) (o : Fact) (f : Datum → Datum)
    → repairing_of g s ≡ waiting (repair_of g) (Positive n t cs) → f ≡ unifier (fact_of t) (candidate (fact_of t) (map fact_of cs.items) o)
    → f ≡ unifier_in (phase_of (repairing_of g s)) o
unifier_is g s n t cs o f a e = e ∙ sym (ap (λ (x : Repairing). unifier_in (phase_of x) o) a)

use Rattle.std.proofs.Common.{List, sym, subst, ◌∙◌}
use Rattle.base_types.specs.Candidates.{AreFirst}
use Rattle.def_chase.specs.Values.{Fact}
use Rattle.set_facts.specs.Runs.{ahead_of, run_of}
use Rattle.set_facts.proofs.Further.{both_first}
use Rattle.set_facts.proofs.changed.first_of_both.Goals as goal

pub returns : goal.returns
returns c = record {
  first = λ D added r column past s t is few.
      both_first D c.args.gone.now added s t r column past c.few.result (run_of c.args.run) (ahead_of c.next-put.result (run_of c.next-put.new.self)) is (sym c.next-put.ensures.step ∙ few.first)
      (subst (λ (E : List Fact). AreFirst c.few.result E) c.new-both.ensures.both c.few.ensures.first);
}

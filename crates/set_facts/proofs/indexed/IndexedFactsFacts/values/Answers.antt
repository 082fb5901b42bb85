use Rattle.std.proofs.Common.{sym, subst, List}
use Rattle.def_chase.specs.Values.{Datum, Fact}
use Rattle.base_types.specs.Candidates.{AreAllInColumn}
use Rattle.set_facts.specs.Indexes.{values_kept}
use Rattle.set_facts.proofs.Spanning.{all_listed}
use Rattle.set_facts.proofs.indexed.IndexedFactsFacts.values.Goals as goal

pub returns : goal.returns
returns c =
    let r = c.args.relation in
    let column = c.args.column in
    let rs = c.self.inside.relations.items in
    record {
      all = subst (λ (ds : List Datum). AreAllInColumn ds c.args.self.now r column) (sym c.values.ensures.values)
          (subst (λ (D : List Fact). AreAllInColumn (values_kept rs r column) D r column) c.self.view_is (all_listed c.self.inside.all rs r column c.self.invariant.1));
    }

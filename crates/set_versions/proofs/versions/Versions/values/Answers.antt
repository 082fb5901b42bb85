use Rattle.std.proofs.Common.{subst, sym, ◌∙◌, List}
use Rattle.def_chase.specs.Cursors.{is_of}
use Rattle.def_chase.specs.Values.{Datum, Fact}
use Rattle.base_types.specs.Candidates.{AreAllInColumn}
use Rattle.set_facts.specs.Overlaid.{overlaid}
use Rattle.set_facts.proofs.Spanning.{values_weaker, values_overlaid, none_some_of}
use Rattle.set_versions.specs.Marked.{visible}
use Rattle.set_versions.specs.Standing.{seen}
use Rattle.set_versions.proofs.versions.Versions.values.Goals as goal

pub returns : goal.returns
returns c =
    let n = c.args.number in
    let r = c.args.relation in
    let column = c.args.column in
    let taken = c.args.self.now.taken in
    let rows = c.table.result.now in
    record {
      all = values_weaker (λ (ds : List Datum). AreAllInColumn ds c.base.result.now r column) (λ (ds : List Datum). AreAllInColumn ds (seen n c.args.self.now) r column) c.values.result
          (λ ds h. subst (λ (D : List Fact). AreAllInColumn ds D r column) (λ i. overlaid (c.base.ensures.base i) taken (visible n (c.table.ensures.rows i)))
          (values_overlaid c.base.result.now taken (visible n rows) r column ds (none_some_of (is_of r) (visible n rows) c.first.result c.first.ensures.found (sym c.is_some.ensures ∙ c.if-is_some.false)) h))
          c.values.ensures.all;
    }

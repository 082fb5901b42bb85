use Rattle.std.proofs.Common.{ap, ◌∙◌}
use Rattle.set_facts.proofs.Further.{all_overlaid}
use Rattle.set_facts.specs.Runs.{left_of, merged}
use Rattle.set_versions.specs.Marked.{visible}
use Rattle.set_versions.proofs.Seeing.{visible_in_order}
use Rattle.set_versions.proofs.versions.Versions.sweep.Goals as goal

pub returns : goal.returns
returns c =
    let n = c.args.number in
    let v = c.args.self.now in
    let kept = c.base.ensures.kept in
    let taken = c.passing-taken.ensures.all ∙ c.taken.ensures.taken in
    let base = c.run-base.ensures.all ∙ c.base.ensures.base in
    let rows = ap (visible n) (c.cursor.ensures.rows ∙ c.table.ensures.rows) in
    record {
      all =
          c.of.ensures.both
          ∙ (λ i. merged (left_of (taken i) (base i)) (rows i))
          ∙ all_overlaid v.base v.taken (visible n v.rows) kept.order (visible_in_order n v.rows kept.rows.order);
    }

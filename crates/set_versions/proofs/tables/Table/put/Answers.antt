use Rattle.std.proofs.Common.{ap, refl, sym, ◌∙◌, cond, subst}
use Rattle.base_types.specs.Meanings.{fact_of}
use Rattle.base_types.specs.declared.tuples.Tuple.{Tuple}
use Rattle.def_chase.specs.Values.{same_fact}
use Rattle.set_versions.specs.Drawn.{NoneDrawnAbove}
use Rattle.set_versions.specs.Indexed.{IsIndexed}
use Rattle.set_versions.specs.Marked.{marks_at}
use Rattle.set_versions.proofs.Drawing.{drawn_set}
use Rattle.set_versions.proofs.Setting.{row_set, rows_set, indexed_kept}
use Rattle.set_versions.proofs.tables.Table.put.Goals as goal

pub invariant_of-self-2 : goal.invariant_of-self-2
invariant_of-self-2 c = (
  rows_set c.self.inside.rows c.args.key c.args.marks c.in_ok-set.ensures.ok c.in_ok-set.ensures.in_order c.self.invariant.0.marks c.requires.in_order,
  indexed_kept (fact_of c.args.key) c.args.marks c.self.inside.rows c.set.new.map c.replace-index.result c.in_ok-index.index (subst (IsIndexed c.self.inside.rows) (sym c.replace-index.ensures.value) c.self.invariant.1) c.in_ok-index.ensures.ok
      (row_set c.self.inside.rows c.set.new.map c.args.key (fact_of c.args.key) c.args.marks c.in_ok-set.ensures.ok refl),
  drawn_set c.self.inside.newest c.raised-newest.result c.self.inside.rows c.args.key c.args.marks c.in_ok-set.ensures.ok c.raised-newest.ensures.least c.self.invariant.2
      (subst (λ (t : Tuple). NoneDrawnAbove c.raised-newest.result (fact_of t)) c.get.ensures c.raised-newest.ensures.above),
)

pub returns-clause-marks : goal.returns-clause-marks
returns-clause-marks c t =
    row_set c.self.inside.rows c.set.new.map c.args.key (fact_of c.args.key) c.args.marks c.in_ok-set.ensures.ok refl t
    ∙ ap (λ es. cond (same_fact t (fact_of c.args.key)) c.args.marks (marks_at es t)) c.self.view_is

pub returns-clause-in_order : goal.returns-clause-in_order
returns-clause-in_order c = rows_set c.self.inside.rows c.args.key c.args.marks c.in_ok-set.ensures.ok c.in_ok-set.ensures.in_order c.self.invariant.0.marks c.requires.in_order

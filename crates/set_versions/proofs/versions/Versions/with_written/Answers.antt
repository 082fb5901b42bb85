use Rattle.std.proofs.Common.{None, refl, List, ap, map, sym, subst, ◌∙◌, take}
use Rattle.std.specs.Option.{option_map, option_copied}
use Rattle.base_types.specs.Candidates.{column_of, further_candidates, AreAll, AreFirst}
use Rattle.base_types.specs.Meanings.{fact_of}
use Rattle.def_chase.specs.Values.{Fact}
use Rattle.base_tree.specs.Few.{most}
use Rattle.set_versions.specs.Marked.{visible}
use Rattle.set_facts.specs.Runs.{ahead_of, left_of, merged, run_of}
use Rattle.set_facts.proofs.Further.{both_first, none_hidden}
use Rattle.set_versions.proofs.Seeing.{visible_in_order}
use Rattle.set_versions.specs.Standing.{seen}
use Rattle.set_versions.proofs.Both.{none_came, none_taken, seen_ordered}
use Rattle.set_versions.proofs.versions.Versions.with_written.Goals as goal

pub returns-then-has_none : goal.returns-then-has_none
returns-then-has_none c =
    let n = c.args.number in
    let v = c.args.self.now in
    let r = c.args.relation in
    let column = option_map column_of c.args.column in
    let past = option_map fact_of (option_copied c.args.past) in
    let kept = c.taken.ensures.kept in
    let free = ap (λ (D : List Fact). further_candidates D r None past) (sym c.taken.ensures.taken) ∙ c.if-has_none.ensures.none refl in
    let none = none_taken (further_candidates (visible n v.rows) r column past) (none_came c.next-put.result (map fact_of c.candidates.result.left) c.next-put.ensures.end c.is_none.result c.if-is_none.true c.is_none.ensures ∙ c.candidates.ensures.first.first ∙ ap (λ es. take most (further_candidates (visible n es) r column past)) c.table-table.ensures.rows) in
    let same = none_hidden v.base v.taken (visible n v.rows) kept.order (visible_in_order n v.rows kept.rows.order) r column past none free in
    record {
      all = subst (λ (D : List Fact). AreAll c.at_hand.result (seen n v) D) (c.requires.base ∙ sym same) (c.at_hand.ensures.all (seen n v) (seen_ordered n v kept));
    }

pub returns : goal.returns
returns c =
    let n = c.args.number in
    let v = c.args.self.now in
    let r = c.args.relation in
    let column = option_map column_of c.args.column in
    let past = option_map fact_of (option_copied c.args.past) in
    let run = run_of c.args.base in
    let some = ahead_of c.next-put.result (run_of c.next-put.new.self) in
    let kept = c.taken-2.ensures.kept in
    let first = sym c.next-put.ensures.step ∙ c.candidates.ensures.first.first ∙ ap (λ es. take most (further_candidates (visible n es) r column past)) c.table-table.ensures.rows in
    record {
      all = (
        seen_ordered n v kept,
        both_first v.base v.taken (visible n v.rows) kept.order (visible_in_order n v.rows kept.rows.order) r column past c.few_of_both.result run some c.requires.base first
            (subst (λ (D : List Fact). AreFirst c.few_of_both.result D) (ap (λ (D : List Fact). merged (left_of D run) some) c.taken-2.ensures.taken) c.few_of_both.ensures.first),
      );
    }

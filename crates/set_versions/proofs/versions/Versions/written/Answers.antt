use Rattle.std.proofs.Common.{List, ap, sym, subst, ◌∙◌}
use Rattle.std.specs.Option.{option_map, option_copied}
use Rattle.base_types.specs.Candidates.{column_of, further_candidates, AreFirst}
use Rattle.base_types.specs.Meanings.{fact_of}
use Rattle.set_versions.specs.Marked.{visible}
use Rattle.set_facts.proofs.Further.{added_alone}
use Rattle.set_versions.proofs.Both.{seen_ordered}
use Rattle.set_versions.proofs.Seeing.{visible_in_order}
use Rattle.set_versions.proofs.versions.Versions.written.Goals as goal

pub returns : goal.returns
returns c =
    let n = c.args.number in
    let v = c.args.self.now in
    let r = c.args.relation in
    let column = option_map column_of c.args.column in
    let past = option_map fact_of (option_copied c.args.past) in
    let few = c.candidates.result in
    let kept = c.base.ensures.kept in
    record {
      all = (
        seen_ordered n v kept,
        added_alone v.base v.taken (visible n v.rows) kept.order (visible_in_order n v.rows kept.rows.order) r column past few c.requires.none
            (subst (λ es. AreFirst few (further_candidates (visible n es) r column past)) c.table.ensures.rows c.candidates.ensures.first),
      );
    }

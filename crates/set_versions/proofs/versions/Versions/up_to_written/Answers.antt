use Rattle.std.proofs.Common.{◌∙◌, ◌≡◌, ◌++◌, Some, List, ap, filter, subst, sym}
use Rattle.std.specs.Option.{option_map, option_copied, option_or}
use Rattle.std.specs.Prelude.{option_to_list}
use Rattle.std.proofs.lemmas.Bool.{and_parts}
use Rattle.base_types.specs.Candidates.{Begin}
use Rattle.base_types.specs.Meanings.{fact_of}
use Rattle.set_facts.specs.Places.{is_inside}
use Rattle.def_chase.specs.Cursors.{is_of, is_beyond, is_past, next_of}
use Rattle.def_chase.specs.Repository.{IsRepository}
use Rattle.def_chase.specs.Values.{Fact}
use Rattle.set_versions.specs.Marked.{visible, put_first}
use Rattle.set_versions.specs.Standing.{seen}
use Rattle.set_versions.proofs.Opened.{ends_past, opens, or_meant}
use Rattle.set_versions.proofs.Seeing.{visible_in_order}
use Rattle.set_versions.proofs.versions.Versions.up_to_written.Goals as goal

-- The tuple at which it ends comes after the given one.
pub inside-range-requires : goal.inside-range-requires
inside-range-requires c =
    let v = c.args.self.now in
    let past = fact_of c.args.past.now in
    let put = option_map fact_of (option_copied c.after.result) in
    let gone = option_map fact_of (option_copied c.after-gone.result) in
    let kept = c.taken.ensures.kept in
    let e = c.after.ensures.found ∙ ap (λ es. next_of (visible c.args.number es) past) c.table.ensures.rows in
    let f = c.after-gone.ensures.found ∙ ap (λ (D : List Fact). next_of D past) c.taken.ensures.taken in
    let d = fact_of c.in_ok-end.end.now in
    let end : option_or (put_first put gone) gone ≡ Some d =
    ap (λ o. option_or o gone) (sym c.no_later-put.ensures.first) ∙ or_meant c.no_later-put.result c.after-gone.result c.in_ok-end.end (sym c.or.ensures ∙ c.in_ok-end.was) in
    record {
      forward = (and_parts (is_of past.relation d) (is_beyond (Some past) d)
          (ends_past v.base v.taken (visible c.args.number v.rows) kept.order (subst IsRepository c.taken.ensures.taken c.after-gone.ensures.in_order) (visible_in_order c.args.number v.rows kept.rows.order) past put gone e f d end)).1;
    }

pub returns : goal.returns
returns c =
    let v = c.args.self.now in
    let past = fact_of c.args.past.now in
    let put = option_map fact_of (option_copied c.after.result) in
    let gone = option_map fact_of (option_copied c.after-gone.result) in
    let kept = c.taken.ensures.kept in
    let e = c.after.ensures.found ∙ ap (λ es. next_of (visible c.args.number es) past) c.table.ensures.rows in
    let f = c.after-gone.ensures.found ∙ ap (λ (D : List Fact). next_of D past) c.taken.ensures.taken in
    let d = fact_of c.in_ok-end.end.now in
    let end : option_or (put_first put gone) gone ≡ Some d =
    ap (λ o. option_or o gone) (sym c.no_later-put.ensures.first) ∙ or_meant c.no_later-put.result c.after-gone.result c.in_ok-end.end (sym c.or.ensures ∙ c.in_ok-end.was) in
    let tuples : c.new.result ≡ filter (is_inside past d) v.base ++ option_to_list (put_first put gone) =
    c.new.ensures.tuples
    ∙ (λ i. (c.inside-range.ensures.tuples ∙ ap (filter (is_inside past d)) c.base.ensures.base) i ++ option_to_list (c.no_later-put.ensures.first i)) in
    record {
      first = subst (λ (l : List Fact). Begin l (filter (is_past past) (seen c.args.number v))) (sym tuples)
          (opens v.base v.taken (visible c.args.number v.rows) kept.order (subst IsRepository c.taken.ensures.taken c.after-gone.ensures.in_order) (visible_in_order c.args.number v.rows kept.rows.order) past put gone e f d end);
    }

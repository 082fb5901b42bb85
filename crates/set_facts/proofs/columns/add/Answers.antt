use Rattle.std.proofs.Common.{rules, ◌≡◌, ◌∙◌, subst}
use Rattle.std.specs.Prelude.{unwrap_or, OnOk, OnErr}
use Rattle.indexmap.specs.Entry.{map_with_value}
use Rattle.def_chase.specs.Values.{Datum}
use Rattle.base_types.specs.Meanings.{fact_of, datum_of}
use Rattle.set_facts.specs.Indexes.{Adds, group_in}
use Rattle.set_facts.proofs.Groups.{group_adds, group_stays, more_in_group, where_ok, where_err}
use Rattle.set_facts.proofs.columns.add.Goals as goal

pub returns-in-Ok-clause-ok : goal.returns-in-Ok-clause-ok
returns-in-Ok-clause-ok c =
    let m = c.args.groups.now in
    let k = c.in_ok-copy.field-0 in
    let w = c.put.new.group in
    let t = fact_of c.args.tuple.now in
    let x = map_with_value c.in-Ok.entry w in
    let here : c.or_insert.result.now ≡ group_in m (datum_of k) = c.or_insert.ensures.value ∙ (λ i. unwrap_or (c.in-Ok.ensures.value i) (c.new.ensures.empty i)) in
    let made : OnOk c.put.result (Adds (datum_of c.args.value.now) t m x) =
    where_ok c.put.result
    (λ f. subst (λ (d : Datum). Adds d t m x) c.in_ok-copy.ensures.same (group_adds m x k w t ((c.in-Ok.ensures.update.0 w).0) (λ u. more_in_group m (datum_of k) c.or_insert.result.now w t u here f)))
    c.put.ensures.ok in
    search (rules, made)

pub returns-in-Ok-clause-err : goal.returns-in-Ok-clause-err
returns-in-Ok-clause-err c =
    let m = c.args.groups.now in
    let k = c.in_ok-copy.field-0 in
    let w = c.put.new.group in
    let x = map_with_value c.in-Ok.entry w in
    let here : c.or_insert.result.now ≡ group_in m (datum_of k) = c.or_insert.ensures.value ∙ (λ i. unwrap_or (c.in-Ok.ensures.value i) (c.new.ensures.empty i)) in
    let made : OnErr c.put.result ((d : Datum) → group_in x d ≡ group_in m d) = where_err c.put.result (λ f. group_stays m x k w ((c.in-Ok.ensures.update.0 w).0) (f ∙ here)) c.put.ensures.err in
    search (rules, made)

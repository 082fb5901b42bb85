use Rattle.std.proofs.Common.{◌∙◌, sym, subst}
use Rattle.def_chase.specs.Queries.{is_named}
use Rattle.def_chase.specs.Values.{Datum}
use Rattle.base_types.specs.Meanings.{datum_of, fact_of, null_of}
use Rattle.base_types.specs.declared.values.Value.{Value}
use Rattle.set_facts.specs.ByNull.{AddsHolder, outer_null}
use Rattle.set_facts.specs.Indexes.{Adds}
use Rattle.set_facts.proofs.ByNull.{adds_named}
use Rattle.set_facts.proofs.Groups.{where_ok}
use Rattle.set_facts.proofs.nulls.keep_at.Goals as goal

pub returns-in-Null-clause-ok : goal.returns-in-Null-clause-ok
returns-in-Null-clause-ok c =
    let t = fact_of c.args.tuple.now in
    let l = c.args.by_null.now in
    let m = c.add.new.groups in
    let at = c.outer.ensures ∙ (λ i. outer_null (c.outer_name.ensures.update i) (c.outer_name.ensures.place i)) in
    where_ok c.add.result
    (λ h. subst (λ (v : Value). AddsHolder (λ u k. is_named u k (datum_of v)) t l m) (sym c.in-Null.is) (adds_named (null_of c.in-Null.null) t l m (subst (λ (d : Datum). Adds d t l m) at h)))
    c.add.ensures.ok

use Rattle.std.proofs.Common.{◌∙◌, sym, subst}
use Rattle.def_chase.specs.Queries.{is_named}
use Rattle.def_chase.specs.Values.{Datum}
use Rattle.base_types.specs.Meanings.{datum_of, fact_of, null_of}
use Rattle.base_types.specs.declared.values.Value.{Value}
use Rattle.set_facts.specs.ByNull.{DropsHolder, outer_null}
use Rattle.set_facts.specs.Indexes.{Drops}
use Rattle.set_facts.proofs.ByNull.{drops_named}
use Rattle.set_facts.proofs.nulls.drop_at.Goals as goal

pub returns-in-Null : goal.returns-in-Null
returns-in-Null c =
    let t = fact_of c.args.tuple.now in
    let l = c.args.by_null.now in
    let m = c.take_out.new.groups in
    let at = c.outer.ensures ∙ (λ i. outer_null (c.outer_name.ensures.update i) (c.outer_name.ensures.place i)) in
    record {
      dropped = subst (λ (v : Value). DropsHolder (λ u k. is_named u k (datum_of v)) t l m) (sym c.in-Null.is) (drops_named (null_of c.in-Null.null) t l m (subst (λ (d : Datum). Drops d t l m) at c.take_out.ensures.dropped));
    }

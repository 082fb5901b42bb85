use Rattle.std.proofs.Common.{◌∙◌, ap, arith, length, sym, subst, List}
use Rattle.std.specs.BTreeSet.{insert_key}
use Rattle.def_chase.specs.Values.{Fact, fact_cmp}
use Rattle.base_types.specs.Meanings.{fact_of}
use Rattle.set_facts.proofs.Groups.{held_err}
use Rattle.def_language.proofs.Grows.{insert_longer}
use Rattle.lang_checks.specs.Bases.{gathered, AreApart}
use Rattle.lang_checks.proofs.Apart.{kept_apart, put_apart, stays}
use Rattle.lang_checks.proofs.bases.put.Goals as goal

pub returns-in_err-insert-clause-err : goal.returns-in_err-insert-clause-err
returns-in_err-insert-clause-err c =
    let same = stays c.reach.new.relations.items c.args.tuple.relation c.index_mut.result.now c.insert.new.self c.index_mut.ensures.value c.in_err-insert.ensures.err in
    held_err c.from_residual-in_err-insert.result (ap gathered same ∙ c.reach.ensures.same)

pub returns-in_err-insert-clause-apart : goal.returns-in_err-insert-clause-apart
returns-in_err-insert-clause-apart c =
    let same = stays c.reach.new.relations.items c.args.tuple.relation c.index_mut.result.now c.insert.new.self c.index_mut.ensures.value c.in_err-insert.ensures.err in
    subst (AreApart 0) (sym same) c.reach.ensures.apart

pub returns-in_err-insert-clause-longer : goal.returns-in_err-insert-clause-longer
returns-in_err-insert-clause-longer c =
    let same = stays c.reach.new.relations.items c.args.tuple.relation c.index_mut.result.now c.insert.new.self c.index_mut.ensures.value c.in_err-insert.ensures.err in
    omega (arith, ap length (ap gathered same ∙ c.reach.ensures.same))

pub returns-clause-ok : goal.returns-clause-ok
returns-clause-ok c =
    let t = fact_of c.args.tuple in
    put_apart 0 c.reach.new.relations.items c.args.tuple.relation c.index_mut.result.now c.insert.new.self t c.reach.ensures.apart c.in_ok-reach.ensures.there c.index_mut.ensures.value (omega arith) c.in_ok-insert.ensures.ok
    ∙ ap (λ (D : List Fact). insert_key fact_cmp D t) c.reach.ensures.same

pub returns-clause-apart : goal.returns-clause-apart
returns-clause-apart c =
    kept_apart 0 c.reach.new.relations.items c.args.tuple.relation c.index_mut.result.now c.insert.new.self (fact_of c.args.tuple) c.reach.ensures.apart c.in_ok-reach.ensures.there c.index_mut.ensures.value (omega arith) c.in_ok-insert.ensures.ok

pub returns-clause-longer : goal.returns-clause-longer
returns-clause-longer c =
    let t = fact_of c.args.tuple in
    let put = put_apart 0 c.reach.new.relations.items c.args.tuple.relation c.index_mut.result.now c.insert.new.self t c.reach.ensures.apart c.in_ok-reach.ensures.there c.index_mut.ensures.value (omega arith) c.in_ok-insert.ensures.ok in
    omega (arith, ap length put, insert_longer (gathered c.reach.new.relations.items) t, ap length c.reach.ensures.same)

use Rattle.std.proofs.Common.{sym}
use Rattle.base_types.specs.Meanings.{fact_of}
use Rattle.set_facts.proofs.ByNull.{nulls_stay, nulls_swept}
use Rattle.set_facts.proofs.Refusals.{index_stays, index_swept}
use Rattle.set_facts.proofs.indexed.take_back.Goals as goal

pub returns-then-not-contains : goal.returns-then-not-contains
returns-then-not-contains c =
    let t = fact_of c.args.tuple.now in
    record {
      columns = index_swept c.args.all.now c.args.relations.now.items c.drop_both.new.relations.items t c.requires.0 c.drop_both.ensures.columns (sym c.if-not-contains.ensures.answer);
      nulls = nulls_swept c.args.all.now c.args.by_null.now c.drop_both.new.by_null t c.requires.1 c.drop_both.ensures.nulls (sym c.if-not-contains.ensures.answer);
    }

pub returns-else-not-contains : goal.returns-else-not-contains
returns-else-not-contains c =
    let t = fact_of c.args.tuple.now in
    record {
      columns = index_stays c.args.all.now c.args.relations.now.items t c.requires.0 (sym c.if-not-contains.ensures.answer);
      nulls = nulls_stay c.args.all.now c.args.by_null.now t c.requires.1 (sym c.if-not-contains.ensures.answer);
    }

use Rattle.base_types.specs.Meanings.{fact_of}
use Rattle.def_language.specs.Printing.{written_fact}
use Rattle.lang_schema.proofs.Tupled.{tuple_after}
use Rattle.lang_schema.proofs.page.Page.add_tuple.Goals as goal

pub returns : goal.returns
returns c = record {
  words = tuple_after c.args.self.now (written_fact c.args.schema.now (fact_of c.args.tuple.now)) c.self.inside.text.items c.self.inside.apart c.push_space.new.out.items c.push_fact.new.out.items c.self.view_is c.in_ok-push_space.ensures
      (rw (c.name-name.ensures.name, c.as_slice.ensures.items) at c.in_ok-push_fact.ensures);
}

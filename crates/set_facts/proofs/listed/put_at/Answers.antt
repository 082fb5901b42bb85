use Rattle.std.proofs.Common.{◌∙◌, ap, sym, map, not, subst}
use Rattle.def_chase.specs.Repository.{IsRepository}
use Rattle.def_chase.proofs.Sets.{insert_in_order}
use Rattle.base_types.specs.Meanings.{fact_of}
use Rattle.set_facts.proofs.Sought.{put_between, absent_between}
use Rattle.set_facts.proofs.listed.put_at.Goals as goal

pub returns-in-Ok-clause-changed : goal.returns-in-Ok-clause-changed
returns-in-Ok-clause-changed c = sym (ap not (absent_between c.args.tuples.now.items c.args.tuple c.args.place c.requires.between))

pub returns-in-Ok-clause-ok : goal.returns-in-Ok-clause-ok
returns-in-Ok-clause-ok c = ap (map fact_of) c.in-Ok.ensures.items ∙ put_between c.args.tuples.now.items c.args.tuple c.args.place c.requires.place c.requires.between

pub returns-in-Ok-clause-in_order : goal.returns-in-Ok-clause-in_order
returns-in-Ok-clause-in_order c =
    subst IsRepository (sym (ap (map fact_of) c.in-Ok.ensures.items ∙ put_between c.args.tuples.now.items c.args.tuple c.args.place c.requires.place c.requires.between))
    (insert_in_order (map fact_of c.args.tuples.now.items) (fact_of c.args.tuple) c.requires.in_order)

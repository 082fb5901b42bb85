use Rattle.std.proofs.Common.{◌∙◌, sym, arith}
use Rattle.base_types.specs.Meanings.{fact_of}
use Rattle.lang_checks.proofs.Apart.{absent_beyond, sought_apart}
use Rattle.lang_checks.proofs.bases.seek.Goals as goal

pub returns-then-len-relation-clause-answer : goal.returns-then-len-relation-clause-answer
returns-then-len-relation-clause-answer c =
    sym (absent_beyond 0 c.args.relations.now.items (fact_of c.args.tuple.now) c.requires.apart (omega (arith, c.len.ensures, c.if-len-relation.true)))

pub returns-clause-answer : goal.returns-clause-answer
returns-clause-answer c =
    c.in_ok-there.ensures.answer
    ∙ sought_apart 0 c.args.relations.now.items c.args.tuple.now.relation c.index_mut.result.now (fact_of c.args.tuple.now) c.requires.apart
    (omega (arith, c.len.ensures, c.if-len-relation.false)) c.index_mut.ensures.value (omega arith)

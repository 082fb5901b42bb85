use Rattle.std.proofs.Common.{map, []}
use Rattle.base_types.specs.Meanings.{null_of, datum_of, fact_of}
use Rattle.chase_query.specs.Meanings.{reply_of}
use Rattle.chase_update.proofs.Standings.{known, not_another}
use Rattle.chase_update.proofs.replacing.found_replaced.Goals as goal

pub unreachable-requires : goal.unreachable-requires
unreachable-requires c =
    not_another c.in_ok-null-in-Some.field-0
    (known (null_of c.args.name) (reply_of c.args.answer.now) (map fact_of c.in-Some.tuples.now.items) (datum_of c.in_ok-null-in-Some.field-0) (c.requires []) c.in-Some.ensures.found c.in_ok-null-in-Some.ensures.value)
    c.in_default.not-Null

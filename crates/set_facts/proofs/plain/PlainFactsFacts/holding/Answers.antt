use Rattle.std.proofs.Common.{ap, sym, arith, Option, Bor, Some}
use Rattle.std.specs.Option.{option_map, option_copied}
use Rattle.def_chase.specs.Queries.{holds_null}
use Rattle.base_types.specs.Meanings.{fact_of}
use Rattle.base_types.specs.declared.tuples.Tuple.{Tuple}
use Rattle.set_facts.proofs.ByNull.{holding_begins}
use Rattle.set_facts.proofs.Courses.{above, hit, miss, fewer, beyond_follows}
use Rattle.set_facts.proofs.plain.PlainFactsFacts.holding.Goals as goal

pub loop-cursor-init : goal.loop-cursor-init
loop-cursor-init c =
    holding_begins c.args.name.update c.args.name.place (option_map fact_of (option_copied c.args.past)) c.args.self.now (option_map fact_of (option_copied c.beyond-cursor.result)) c.beyond-cursor.ensures.in_order c.beyond-cursor.ensures.found

pub loop-cursor-smaller : goal.loop-cursor-smaller
loop-cursor-smaller c =
    let t = fact_of c.in-Some.found.now in
    let at = ap (λ (o : Option (Bor Tuple)). option_map fact_of (option_copied o)) c.in-Some.is in
    let e = fewer above c.args.self.now (option_map fact_of (option_copied c.loop-cursor.cursor)) t (option_map fact_of (option_copied c.beyond-cursor-in-Some.result)) c.beyond-cursor-in-Some.ensures.in_order (beyond_follows (Some t)) at c.beyond-cursor-in-Some.ensures.found in
    omega (arith, e)

pub loop-cursor-preserved : goal.loop-cursor-preserved
loop-cursor-preserved c =
    let t = fact_of c.in-Some.found.now in
    let at = ap (λ (o : Option (Bor Tuple)). option_map fact_of (option_copied o)) c.in-Some.is in
    miss (holds_null c.args.name.update c.args.name.place) above c.args.self.now (option_map fact_of (option_copied c.loop-cursor.cursor)) _ t (option_map fact_of (option_copied c.beyond-cursor-in-Some.result))
    c.beyond-cursor-in-Some.ensures.in_order (beyond_follows (Some t)) at c.beyond-cursor-in-Some.ensures.found (sym c.if-holds_null.ensures.answer) c.loop-cursor.invariant

pub returns-then-holds_null-clause-found : goal.returns-then-holds_null-clause-found
returns-then-holds_null-clause-found c =
    let t = fact_of c.in-Some.found.now in
    let at = ap (λ (o : Option (Bor Tuple)). option_map fact_of (option_copied o)) c.in-Some.is in
    hit (holds_null c.args.name.update c.args.name.place) above c.args.self.now (option_map fact_of (option_copied c.loop-cursor.cursor)) _ t at (sym c.if-holds_null.ensures.answer) c.loop-cursor.invariant

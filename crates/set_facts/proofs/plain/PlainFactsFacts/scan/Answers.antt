use Rattle.std.proofs.Common.{ap, sym, arith, Option, Bor}
use Rattle.std.specs.Option.{option_map, option_copied}
use Rattle.def_chase.specs.Cursors.{is_past, is_scanned, scan_of}
use Rattle.base_types.specs.Meanings.{fact_of, datum_of}
use Rattle.base_types.specs.declared.tuples.Tuple.{Tuple}
use Rattle.set_facts.proofs.Courses.{hit, miss, fewer, past_follows, scan_begins}
use Rattle.set_facts.proofs.plain.PlainFactsFacts.scan.Goals as goal

pub loop-cursor-init : goal.loop-cursor-init
loop-cursor-init c =
    scan_begins c.args.relation c.args.column (datum_of c.args.value.now) (option_map fact_of (option_copied c.args.past)) c.args.self.now (option_map fact_of (option_copied c.next-cursor.result)) c.next-cursor.ensures.in_order c.next-cursor.ensures.found

pub returns-then-is_scanned-clause-found : goal.returns-then-is_scanned-clause-found
returns-then-is_scanned-clause-found c =
    let past = option_map fact_of (option_copied c.args.past) in
    let d = datum_of c.args.value.now in
    let at = ap (λ (o : Option (Bor Tuple)). option_map fact_of (option_copied o)) c.in-Some.is in
    hit (is_scanned c.args.relation c.args.column d past) is_past c.args.self.now (option_map fact_of (option_copied c.loop-cursor.cursor)) (scan_of c.args.self.now c.args.relation c.args.column d past) (fact_of c.in-Some.found.now) at (sym c.if-is_scanned.ensures.answer) c.loop-cursor.invariant

pub loop-cursor-smaller : goal.loop-cursor-smaller
loop-cursor-smaller c =
    let t = fact_of c.in-Some.found.now in
    let at = ap (λ (o : Option (Bor Tuple)). option_map fact_of (option_copied o)) c.in-Some.is in
    let e = fewer is_past c.args.self.now (option_map fact_of (option_copied c.loop-cursor.cursor)) t (option_map fact_of (option_copied c.after-cursor.result)) c.after-cursor.ensures.in_order (past_follows t) at c.after-cursor.ensures.found in
    omega (arith, e)

pub loop-cursor-preserved : goal.loop-cursor-preserved
loop-cursor-preserved c =
    let past = option_map fact_of (option_copied c.args.past) in
    let d = datum_of c.args.value.now in
    let t = fact_of c.in-Some.found.now in
    let at = ap (λ (o : Option (Bor Tuple)). option_map fact_of (option_copied o)) c.in-Some.is in
    miss (is_scanned c.args.relation c.args.column d past) is_past c.args.self.now (option_map fact_of (option_copied c.loop-cursor.cursor)) (scan_of c.args.self.now c.args.relation c.args.column d past) t (option_map fact_of (option_copied c.after-cursor.result))
    c.after-cursor.ensures.in_order (past_follows t) at c.after-cursor.ensures.found (sym c.if-is_scanned.ensures.answer) c.loop-cursor.invariant

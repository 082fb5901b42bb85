use Rattle.std.proofs.Common.{ap, sym, not, arith, Option, Bor}
use Rattle.std.specs.Option.{option_map, option_copied}
use Rattle.std.specs.Prelude.{find}
use Rattle.def_chase.specs.Repository.{has}
use Rattle.def_chase.specs.Values.{Fact}
use Rattle.base_types.specs.Meanings.{fact_of}
use Rattle.base_types.specs.declared.tuples.Tuple.{Tuple}
use Rattle.set_facts.specs.Courses.{comes_after, ahead}
use Rattle.set_facts.proofs.Courses.{miss, fewer, course_follows}
use Rattle.set_facts.proofs.course.remaining.Goals as goal

pub loop-cursor-smaller : goal.loop-cursor-smaller
loop-cursor-smaller g c =
    let D = g.F.Facts.tuples c.args.facts.now in
    let q = comes_after c.args.course.now in
    let t = fact_of c.in-Some.tuple.now in
    let at = ap (λ (o : Option (Bor Tuple)). option_map fact_of (option_copied o)) c.in-Some.is in
    let e = fewer q D (option_map fact_of (option_copied c.loop-cursor.cursor)) t (option_map fact_of (option_copied c.next-cursor.result)) c.next-cursor.ensures.in_order (course_follows c.args.course.now t) at c.next-cursor.ensures.found in
    omega (arith, e)

pub loop-cursor-preserved : goal.loop-cursor-preserved
loop-cursor-preserved g c =
    let D = g.F.Facts.tuples c.args.facts.now in
    let q = comes_after c.args.course.now in
    let t = fact_of c.in-Some.tuple.now in
    let test = λ (u : Fact). not (has (g.H.Hides.hidden c.args.hidden.now) u) in
    let at = ap (λ (o : Option (Bor Tuple)). option_map fact_of (option_copied o)) c.in-Some.is in
    miss test q D (option_map fact_of (option_copied c.loop-cursor.cursor)) (find test (ahead q D (option_map fact_of (option_copied c.args.from)))) t (option_map fact_of (option_copied c.next-cursor.result))
    c.next-cursor.ensures.in_order (course_follows c.args.course.now t) at c.next-cursor.ensures.found (ap not (sym c.if-not-hides.ensures.answer)) c.loop-cursor.invariant

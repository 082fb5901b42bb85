use Rattle.std.proofs.Common.{arith, ◌+◌, ap, refl, sym, ◌∙◌, drop, ℕ}
use Rattle.std.specs.Ordering.{ordering_then}
use Rattle.std.specs.Cmp.Lexicographic.{slice_cmp}
use Rattle.std.proofs.cmp.SliceLoops.{begun, ended}
use Rattle.base_types.proofs.Turns.{decides, defers}
use Rattle.base_types.proofs.orders.order_in_turn.Goals as goal

pub loop-i-init : goal.loop-i-init
loop-i-init g c = record { end = c.min-i-end.ensures; within = omega arith; rest = refl }

pub returns-then-is_ne : goal.returns-then-is_ne
returns-then-is_ne g c =
    let xs = c.args.items.now in
    let ys = c.args.others.now in
    let i : ℕ = c.loop-i.i in
    let inv = c.loop-i.invariant in
    let t = c.loop-i-test.true in
    let m = inv.end in
    let x = c.index-items-i in
    let y = c.index-others-i in
    let R = g.T.Ord.cmp in
    let rest = slice_cmp R (drop (i + 1) xs) (drop (i + 1) ys) in
    let turn = begun xs ys i x.result y.result (omega arith) (omega arith) x.is y.is in
    record { order = decides _ rest (sym c.is_ne.ensures ∙ c.if-is_ne.true) ∙ ap (λ k. ordering_then k rest) c.cmp-found.ensures ∙ turn (slice_cmp R) ∙ inv.rest }

pub loop-i-preserved : goal.loop-i-preserved
loop-i-preserved g c =
    let xs = c.args.items.now in
    let ys = c.args.others.now in
    let i : ℕ = c.loop-i.i in
    let inv = c.loop-i.invariant in
    let t = c.loop-i-test.true in
    let m = inv.end in
    let x = c.index-items-i in
    let y = c.index-others-i in
    let R = g.T.Ord.cmp in
    let rest = slice_cmp R (drop (i + 1) xs) (drop (i + 1) ys) in
    let turn = begun xs ys i x.result y.result (omega arith) (omega arith) x.is y.is in
    record {
      end = m;
      within = omega arith;
      rest = defers _ rest (sym c.is_ne.ensures ∙ c.if-is_ne.false) ∙ ap (λ k. ordering_then k rest) c.cmp-found.ensures ∙ turn (slice_cmp R) ∙ inv.rest;
    }

pub returns : goal.returns
returns g c =
    let inv = c.loop-i.invariant in
    let m = inv.end in
    let p = inv.within in
    let q = c.loop-i-test.false in
    record { order = ended c.args.items.now c.args.others.now c.loop-i.i c.cmp.result (omega arith) c.cmp.ensures g.T.Ord.cmp ∙ inv.rest }

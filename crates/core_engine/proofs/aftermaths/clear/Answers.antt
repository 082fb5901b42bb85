use Rattle.std.proofs.Common.{rules, arith, ◌<◌, length}
use Rattle.core_engine.proofs.Placing.{next_between, others_between, clear_one, clear_rest}
use Rattle.core_engine.proofs.aftermaths.clear.Goals as goal

pub clear_one-requires : goal.clear_one-requires
clear_one-requires c =
    let l : c.loop-i.i < length c.args.upper.now = (let t = c.loop-i-test.true in let n = c.requires.long in omega (arith, t, n)) in
    record { between = next_between c.args.upper.now c.loop-i.i c.index-upper-i.result l c.index-upper-i.is c.loop-i.invariant.between }

pub loop-i-preserved : goal.loop-i-preserved
loop-i-preserved c =
    let l : c.loop-i.i < length c.args.upper.now = (let t = c.loop-i-test.true in let n = c.requires.long in omega (arith, t, n)) in
    record {
      between = others_between c.args.upper.now c.loop-i.i c.index-upper-i.result l c.index-upper-i.is c.loop-i.invariant.between;
      done =
          λ w later. c.loop-i.invariant.done w
          (clear_one c.args.upper.now c.args.found.now c.loop-i.i c.index-upper-i.result c.index-found-i.result c.loop-i.versions c.clear_one.new.versions w l c.index-upper-i.is (search rules) c.index-found-i.is
          c.in_ok-clear_one.ensures.cleared later);
    }

pub returns : goal.returns
returns c = record { cleared = c.loop-i.invariant.done c.loop-i.versions (clear_rest c.args.upper.now c.args.found.now c.loop-i.i c.loop-i.versions c.loop-i-test.false) }

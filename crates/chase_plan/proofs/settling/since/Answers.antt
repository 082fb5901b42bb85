use Rattle.std.proofs.Common.{◌∙◌, ap, sym, map, drop, arith}
use Rattle.std.proofs.lemmas.List.{take_all, drop-map, length-drop}
use Rattle.base_types.specs.Meanings.{change_of}
use Rattle.chase_plan.proofs.settling.since.Goals as goal

pub returns-then-first-own : goal.returns-then-first-own
returns-then-first-own c =
    record {
      since =
          ap (map change_of) (take_all _ (drop c.args.made c.args.own.now) (let l = length-drop c.args.made c.args.own.now in omega (arith, l)))
          ∙ sym (drop-map change_of c.args.made c.args.own.now);
    }

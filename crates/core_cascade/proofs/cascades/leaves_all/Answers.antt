use Rattle.std.proofs.Common.{◌≡◌, ap, map, length, arith}
use Rattle.std.proofs.lemmas.Grind.{common_steps}
use Rattle.std.proofs.lemmas.List.{nil_from_length}
use Rattle.base_types.specs.Meanings.{change_of}
use Rattle.core_cascade.proofs.cascades.leaves_all.Goals as goal

pub returns-clause-written : goal.returns-clause-written
returns-clause-written c = λ e.
    let none : length c.args.written.now ≡ 0 = grind (arith, common_steps) in
    ap (map change_of) (nil_from_length c.args.written.now none)

pub returns-clause-lost : goal.returns-clause-lost
returns-clause-lost c = λ e.
    let none : length c.args.lost.now.members.items ≡ 0 = grind (arith, common_steps, e) in
    nil_from_length c.args.lost.now.members.items none

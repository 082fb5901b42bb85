use Rattle.std.proofs.Common.{◌∙◌, ◌++◌, ap, map, sym, take, drop, length, ◌-◌}
use Rattle.std.proofs.lemmas.List.{length-map}
use Rattle.base_types.specs.Meanings.{change_of}
use Rattle.chase_update.proofs.Leading.{caught_up}
use Rattle.chase_update.proofs.shared.catch_up.Goals as goal

pub loop-write-init : goal.loop-write-init
loop-write-init c =
    ap (λ ws. map change_of ws ++ map change_of (take (length c.args.all.now - c.len.result) (drop c.len.result c.args.all.now))) c.in_ok-reserve.ensures.same
    ∙ caught_up c.len.result (map change_of c.args.first.now.items) c.args.all.now (c.len.ensures.length ∙ sym (length-map c.args.first.now.items change_of)) c.requires.first

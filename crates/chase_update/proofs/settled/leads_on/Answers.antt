use Rattle.std.proofs.Common.{◌∙◌, ◌+◌, ap, arith, map}
use Rattle.std.specs.Prelude.{slice_index_or}
use Rattle.std.specs.Option.{option_map}
use Rattle.std.proofs.lemmas.Bool.{eqb-true}
use Rattle.std.proofs.lemmas.Option.{slice_get-get_or}
use Rattle.def_chase.proofs.Maps.{get_map}
use Rattle.base_types.specs.Meanings.{rule_of}
use Rattle.chase_update.proofs.PassedBy.{asks_there}
use Rattle.chase_update.proofs.settled.leads_on.Goals as goal

pub returns-then-marks-place-clause-next : goal.returns-then-marks-place-clause-next
returns-then-marks-place-clause-next c = λ since number P e.
    let all = c.args.all.now in
    let k = c.args.place + 1 in
    let m = slice_index_or all k c.index-all-place.result in
    asks_there P (map rule_of all) k (rule_of m) (eqb-true m.since 0 since)
    (get_map rule_of all k ∙ ap (option_map rule_of) (slice_get-get_or all k c.index-all-place.result (omega arith)))

use Rattle.std.proofs.Common.{◌≡◌, suc, ◌+◌, map, arith}
use Rattle.std.proofs.lemmas.List.{take-map, drop-map}
use Rattle.base_types.specs.Meanings.{rule_of}
use Rattle.core_entries.specs.Meanings.{entry_of}
use Rattle.chase_query.specs.Meanings.{reads_in}
use Rattle.work_stale.specs.Stale.{is_read, first_from}
use Rattle.work_stale.proofs.stale.stale_by.Goals as goal

pub loop-place-init : goal.loop-place-init
loop-place-init c =
    let next : suc c.args.since ≡ c.args.since + 1 = omega arith in
    λ i. first_from (is_read (map rule_of c.args.mappings.now.items) (reads_in c.args.reads.now)) c.args.update (take-map entry_of c.args.since c.args.entries.now i) (next i) (drop-map entry_of c.args.since c.args.entries.now i)

use Rattle.std.proofs.Common.{◌≡◌, ◌-◌, true, subst, sym}
use Rattle.chase_query.specs.Meanings.{reads_of}
use Rattle.chase_query.specs.declared.log.Logged.{Logged}
use Rattle.core_conflict.proofs.Within.{has_reads, reads_itself, passage_is_had}
use Rattle.core_conflict.proofs.footprints.Footprint.asking_by.Goals as goal

pub returns-in-Passed : goal.returns-in-Passed
returns-in-Passed c =
    let passage = c.in-Passed.field-0 in
    record {
      more = reads_itself c.args.self;
      has = subst (λ (e : Logged). has_reads c.args.self (reads_of e) ≡ true) (sym c.in-Passed.is) (passage_is_had c.args.self passage.start (passage.end - passage.start) passage.own);
    }

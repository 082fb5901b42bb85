use Rattle.std.proofs.Common.{◌∙◌, ◌-◌, arith, length, ap}
use Rattle.chase_query.specs.Meanings.{reads_of}
use Rattle.chase_query.proofs.Entries.{passage_length}
use Rattle.audit_replay.proofs.changes.changed_by.Goals as goal

pub changed_at-requires : goal.changed_at-requires
changed_at-requires c =
    let same = ap (λ e. length (reads_of e)) c.in-Asked.is in
    let fits = c.requires in
    record { fits = omega (arith, same, fits) }

pub changed_in_passage-requires : goal.changed_in_passage-requires
changed_in_passage-requires c =
    let passage = c.in-Passed.passage in
    let same = ap (λ e. length (reads_of e)) c.in-Passed.is ∙ passage_length passage.start (passage.end - passage.start) passage.own in
    let fits = c.requires in
    record { fits = omega (arith, same, fits) }

use Rattle.std.proofs.Common.{◌∙◌, ◌-◌, arith, length, ap}
use Rattle.chase_query.specs.Meanings.{reads_of}
use Rattle.chase_query.proofs.Entries.{passage_length}
use Rattle.audit_replay.proofs.losses.Losses.met_by.Goals as goal

pub met_at-requires : goal.met_at-requires
met_at-requires c =
    let same = ap (λ e. length (reads_of e)) c.in-Asked.is in
    let fits = c.requires in
    record { fits = omega (arith, same, fits) }

pub met_in_passage-requires : goal.met_in_passage-requires
met_in_passage-requires c =
    let passage = c.in-Passed.passage in
    let same = ap (λ e. length (reads_of e)) c.in-Passed.is ∙ passage_length passage.start (passage.end - passage.start) passage.own in
    let fits = c.requires in
    record { fits = omega (arith, same, fits) }

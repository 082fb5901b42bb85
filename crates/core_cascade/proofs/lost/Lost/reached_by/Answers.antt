use Rattle.std.proofs.Common.{◌∙◌, ◌-◌, arith, length, ap}
use Rattle.chase_query.specs.Meanings.{reads_of}
use Rattle.chase_query.proofs.Entries.{passage_length}
use Rattle.core_cascade.proofs.lost.Lost.reached_by.Goals as goal

pub reached_in_passage-requires : goal.reached_in_passage-requires
reached_in_passage-requires c =
    let passage = c.in-Passed.passage in
    let same = ap (λ e. length (reads_of e)) c.in-Passed.is ∙ passage_length passage.start (passage.end - passage.start) passage.own in
    let fits = c.requires in
    record { fits = omega (arith, same, fits) }

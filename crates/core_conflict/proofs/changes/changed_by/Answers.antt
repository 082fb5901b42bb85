use Rattle.std.proofs.Common.{◌∙◌, ◌-◌, arith, length, ap}
use Rattle.chase_query.specs.Meanings.{reads_of}
use Rattle.chase_query.proofs.Entries.{passage_length}
use Rattle.core_conflict.proofs.changes.changed_by.Goals as goal

pub changed_in_passage-requires-clause-fits : goal.changed_in_passage-requires-clause-fits
changed_in_passage-requires-clause-fits g c =
    let passage = c.in-Passed.passage in
    let same = ap (λ e. length (reads_of e)) c.in-Passed.is ∙ passage_length passage.start (passage.end - passage.start) passage.own in
    let fits = c.requires.fits in
    omega (arith, same, fits)

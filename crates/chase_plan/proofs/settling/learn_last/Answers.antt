use Rattle.std.proofs.Common.{◌∙◌, sym}
use Rattle.chase_plan.proofs.Noting.{last_valid, note_right}
use Rattle.chase_plan.proofs.settling.learn_last.Goals as goal

pub entries-preserved : goal.entries-preserved
entries-preserved c ms D P valid settled =
    let held = c.entries.invariant ms D P valid settled in
    let parts = last_valid ms D P c.entries.rest.now c.in-Some.before.now c.in-Some.entry.now c.in-Some.ensures.cases.0 held.0 in
    (parts.0, note_right c.args.made ms D P c.entries.settled c.note.new.settled c.in-Some.entry.now (sym c.own.ensures.own ∙ c.if-own-made.false) c.note.ensures.noted parts.1 held.1)

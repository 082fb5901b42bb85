use Rattle.youtopia.proofs.Work.{plain_calls, ranged, unasked, work_calls}
use Rattle.youtopia.proofs.top.answer.Goals as goal

pub work-requires : goal.work-requires
work-requires g c = (c.type_bounds.sync-R, (c.type_bounds.sync-G, ranged _ _ _ c.in-Ok-Some.field-0-is c.in-Ok-Some.ensures.some))

pub returns-in-Ok-Some : goal.returns-in-Ok-Some
returns-in-Ok-Some g c =
    record { calls = work_calls c.words_are_answered_or_refused.ensures.never_both _ _ _ _ _ _ _ c.in-Ok-Some.field-0-is c.in-Ok-Some.ensures.some c.work.ensures.does }

pub returns-in-Ok-None : goal.returns-in-Ok-None
returns-in-Ok-None g c = record { calls = plain_calls _ _ _ _ _ (unasked _ _ c.in-Ok-None.field-0-is c.in-Ok-None.ensures.none) c.plain.ensures.calls }

use Rattle.youtopia.proofs.Work.{asked, not_asked}
use Rattle.youtopia.proofs.top.work_asked_for.Goals as goal

pub returns-in-Ok-Command-clause-some : goal.returns-in-Ok-Command-clause-some
returns-in-Ok-Command-clause-some c =
    asked _ _ _ _ c.in-Ok-Command.field-0-is c.in-Ok-Command.ensures.answer c.in-Ok-Command.ensures.ranges c.by_workers.ensures.some

pub returns-in-Ok-Command-clause-none : goal.returns-in-Ok-Command-clause-none
returns-in-Ok-Command-clause-none c =
    not_asked c.words_ask_for_one_thing.ensures _ _ _ _ c.in-Ok-Command.field-0-is c.in-Ok-Command.ensures.answer c.by_workers.ensures.none

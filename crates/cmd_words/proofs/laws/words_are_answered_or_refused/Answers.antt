use Rattle.cmd_words.proofs.Complete.{answered}
use Rattle.cmd_words.proofs.Refusals.{not_refused}
use Rattle.cmd_words.proofs.laws.words_are_answered_or_refused.Goals as goal

pub returns-clause-never_both : goal.returns-clause-never_both
returns-clause-never_both c = not_refused

pub returns-clause-either : goal.returns-clause-either
returns-clause-either c = answered

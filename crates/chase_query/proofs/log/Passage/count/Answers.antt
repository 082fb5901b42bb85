use Rattle.std.proofs.Common.{◌∙◌, ◌-◌, sym}
use Rattle.chase_query.proofs.Entries.{passage_length}
use Rattle.chase_query.proofs.log.Passage.count.Goals as goal

pub returns : goal.returns
returns c = record { count = c.from.ensures ∙ c.saturating_sub.ensures ∙ sym (passage_length c.args.self.start (c.args.self.end - c.args.self.start) c.args.self.own) }

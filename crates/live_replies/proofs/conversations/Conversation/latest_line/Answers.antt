-- The last of the core's entries is told.
use Rattle.std.proofs.Common.{◌≡◌, ℕ, List, subst, ◌∙◌}
use Rattle.std.specs.Prelude.{IfOk, None, Some}
use Rattle.live_replies.proofs.Listing.{last_told}
use Rattle.live_replies.proofs.conversations.Conversation.latest_line.Goals as goal

pub returns-in-Some : goal.returns-in-Some
returns-in-Some c = record {
  line = subst (λ (x : List ℕ). IfOk c.entry_line.result (λ text. text.items ≡ x))
      (last_told c.args.self.now.session.now.schema c.history.result.now c.args.self.now.core.history (Some c.in-Some.entry.now) c.history.ensures.history c.in-Some.ensures.value) c.entry_line.ensures.line;
}

pub returns-in-None : goal.returns-in-None
returns-in-None c = record {
  line = c.new.ensures.items ∙ last_told c.args.self.now.session.now.schema c.history.result.now c.args.self.now.core.history None c.history.ensures.history c.in-None.ensures.value;
}

-- What the types of the program mean, and when a reply is right.
use Rattle.std.specs.Prelude.{◌≡◌, ℕ, List, false}
use Rattle.core_entries.specs.Meanings.{standing_of}
use Rattle.lang_forms.specs.Statements.{choice_of, operation_of}
use Rattle.live_replies.specs.Commands.{Asked, AskUpdate, AskStep, AskDelivery, AskAnswer, AskWithdrawal, AskQuestion, AskEnd, Saying, Nothing, NoForm, Asks}
use Rattle.live_replies.specs.Texts as why
use Rattle.live_replies.specs.Turns.{Live, Turn, line_turn}
use Rattle.live_replies.specs.declared.commands.Command.{Command}
use Rattle.live_replies.specs.declared.commands.Command.TheVariants as command
use Rattle.live_replies.specs.declared.commands.Said.{Said}
use Rattle.live_replies.specs.declared.commands.Said.TheVariants as said
use Rattle.live_replies.specs.declared.refusals.Refusal.{Refusal}
use Rattle.live_replies.specs.declared.refusals.Refusal.TheVariants as refusal
use Rattle.lang_session.specs.Meanings.{session_of}
use Rattle.live_replies.specs.declared.conversations.Conversation.{Conversation}
use Rattle.live_replies.specs.declared.conversations.Reply.{Reply}

-- what a `Command` asks for
abbrev pub command_meant : Command → Asked
command_meant (command.Update label curator op) = AskUpdate label.items curator.items (operation_of op)
command_meant command.Step = AskStep
command_meant command.Deliver = AskDelivery
command_meant (command.Answer label choice) = AskAnswer label.items (choice_of choice)
command_meant (command.Withdraw label) = AskWithdrawal label.items
command_meant (command.Question label) = AskQuestion label.items
command_meant command.Quit = AskEnd

-- what a `Said` says
abbrev pub said_meant : Said → Saying
said_meant said.Nothing = Nothing
said_meant said.NoForm = NoForm
said_meant (said.Asks c) = Asks (command_meant c)

-- why a `Refusal` refuses
abbrev pub refusal_meant : Refusal → why.Why
refusal_meant refusal.Line = why.BadLine
refusal_meant refusal.Label = why.BadLabel
refusal_meant refusal.Fact = why.BadFact
refusal_meant refusal.Full = why.Full
refusal_meant refusal.Null = why.BadNull
refusal_meant refusal.Committed = why.IsCommitted
refusal_meant (refusal.Stands s) = why.Stands (standing_of s)
refusal_meant refusal.Misfit = why.Misfits

-- the session that curators work on, as a `Conversation` has it
abbrev pub live_of : Conversation → Live
live_of c = record { session = session_of c.session.now; core = c.core; labels = c.labels.items }

-- the turn has the reply `text` and leaves the session `next`, and the reply is not the last one
abbrev pub IsTold : Turn → List ℕ → Live → Type 0
IsTold turn text next = turn ≡ record { reply = text; next = next; last = false }

-- the turn has the reply r and leaves the session `next`
abbrev pub IsReply : Turn → Live → Reply → Type 0
IsReply turn next r = turn ≡ record { reply = r.text.items; next = next; last = r.last }

-- the turn of the line has the reply r and leaves the session `next`
abbrev pub IsReplyTo : Live → List ℕ → Live → Reply → Type 0
IsReplyTo L line next r = IsReply (line_turn L line) next r

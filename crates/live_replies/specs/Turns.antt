-- What the line of a command does to a session that curators work on, and the reply to it.
use Rattle.std.specs.Prelude.{◌≡◌, ℕ, suc, Bool, true, false, List, [], ◌∷◌, ◌++◌, codes, length, map, position, nat_le, nat_lt, Option, Some, None, option_map, if◌then◌else◌}
use Rattle.core_engine.specs.LiveCalls.{admits_at, fits_at, is_withdrawn}
use Rattle.core_engine.specs.States.{State, committed_at, lowest_deliverable_at, lowest_ready_at, opened, question_at, standing_at, updates_at}
use Rattle.chase_question.specs.Inquiries.{inquiry_in}
use Rattle.def_language.specs.Names.{Name, is_one_of, same_name}
use Rattle.def_language.specs.Sessions.{SessionData, labels}
use Rattle.def_history.specs.CoreLaws.{handed}
use Rattle.def_history.specs.Cores.{Ground, grown}
use Rattle.def_history.specs.PlainEntries.{PlainEntry}
use Rattle.def_machine.specs.Effects.{Admits, Steps, Delivers, Answers, Withdraws}
use Rattle.def_machine.specs.Standings.{Standing, Withdrawn, is_paused}
use Rattle.def_machine.specs.Updates.{Settings}
use Rattle.def_chase.specs.Updates.{Choice, Operation}
use Rattle.live_replies.specs.Commands.{Asked, AskUpdate, AskStep, AskDelivery, AskAnswer, AskWithdrawal, AskQuestion, AskEnd, Saying, Nothing, NoForm, Asks, line_says}
use Rattle.live_replies.specs.Known.{known_choice, known_operation}
use Rattle.live_replies.specs.Texts.{Why, BadLine, BadLabel, BadFact, Full, BadNull, IsCommitted, Stands, Misfits, refused_line, last_line, question_text}

-- A session that curators work on: its core, and the labels of its updates in the order of their numbers.
pub record Live : Type 0 where
  pub session : SessionData
  pub core : State
  pub labels : List Name

-- the session before the first line: all its updates are admitted
abbrev pub begun : ℕ → Settings → SessionData → Live
begun budget c s = record { session = s; core = opened s budget c (length s.updates); labels = labels s.updates }

-- The reply, with its line feeds; the session after it; whether it is the last reply.
pub record Turn : Type 0 where
  pub reply : List ℕ
  pub next : Live
  pub last : Bool

-- nothing changes, and the reply is this text
abbrev pub says : Live → List ℕ → Turn
says L text = record { reply = text; next = L; last = false }

abbrev pub refuses : Live → Why → Turn
refuses L why = says L (refused_line why)

-- The event that leads to these entries is made over g, and the reply is its entry. If there is no such event the reply is empty,
-- but the tests before it exclude this case.
abbrev pub made : Live → Ground → List Name → Option (List PlainEntry) → Turn
made L g names None = says L []
made L g names (Some H) =
    record { reply = last_line L.session.relations H; next = record { session = L.session; core = record { over = g; history = H; relations = L.core.relations }; labels = names }; last = false }

-- an event over the same updates
abbrev pub event : Live → Option (List PlainEntry) → Turn
event L H = made L L.core.over L.labels H

-- ---- step, deliver: the event of the lowest update that may make it

abbrev pub step_turn : Live → Option ℕ → Turn
step_turn L None = says L (codes "idle\n")
step_turn L (Some u) = event L (grown L.core.over L.core.history (Steps u))

abbrev pub delivery_turn : Live → Option ℕ → Turn
delivery_turn L None = says L (codes "idle\n")
delivery_turn L (Some u) = event L (grown L.core.over L.core.history (Delivers u))

-- ---- withdraw

-- the withdrawal of update n, by its standing
abbrev pub withdrawal_standing : Live → ℕ → Option Standing → Turn
withdrawal_standing L n None = refuses L BadLabel
withdrawal_standing L n (Some s) =
    if nat_le n (committed_at L.core) then refuses L IsCommitted
    else if is_withdrawn s then refuses L (Stands Withdrawn)
    else event L (grown L.core.over L.core.history (Withdraws n))

abbrev pub withdrawal_turn : Live → ℕ → Turn
withdrawal_turn L n = withdrawal_standing L n (standing_at L.core n)

-- ---- answer

-- the choice for update n, by its standing
abbrev pub answer_standing : Live → ℕ → Choice → Option Standing → Turn
answer_standing L n c None = refuses L BadLabel
answer_standing L n c (Some s) =
    if is_paused s then (if fits_at L.core n c then event L (grown L.core.over L.core.history (Answers n c)) else refuses L Misfits)
    else refuses L (Stands s)

abbrev pub answer_turn : Live → ℕ → Choice → Turn
answer_turn L n c = answer_standing L n c (standing_at L.core n)

-- the choice, if its facts are known
abbrev pub answer_known : Live → ℕ → Option Choice → Turn
answer_known L n None = refuses L BadFact
answer_known L n (Some c) = answer_turn L n c

-- ---- question

abbrev pub question_turn : Live → ℕ → Turn
question_turn L n = says L (question_text L.session (option_map inquiry_in (question_at L.core n)))

-- ---- update

-- the operation becomes an update with the label, and is admitted
abbrev pub admission : Live → Name → Operation → Turn
admission L label op = made L (handed L.core.over op) (L.labels ++ label ∷ []) (grown (handed L.core.over op) L.core.history Admits)

-- The operation under a new label. It is refused if the session has the most updates that it may have, or else if it names a null
-- that is not of a lower update.
abbrev pub update_turn : Live → Name → Operation → Turn
update_turn L label op =
    if nat_le 1000 (length (updates_at L.core)) then refuses L Full
    else if admits_at L.core op then admission L label op
    else refuses L BadNull

-- the operation, if its fact is known
abbrev pub update_known : Live → Name → Option Operation → Turn
update_known L label None = refuses L BadFact
update_known L label (Some op) = update_turn L label op

-- ---- each command

-- the number of the update at the place among `count` updates
abbrev pub number_in : ℕ → Option ℕ → Option ℕ
number_in count None = None
number_in count (Some place) = if nat_lt place count then Some (suc place) else None

-- the number of the update with the label
abbrev pub number_of : Live → Name → Option ℕ
number_of L label = number_in (length (updates_at L.core)) (position (same_name label) L.labels)

-- the turn for the update with the label, or a refusal if no update has it
abbrev pub known_label : Live → Option ℕ → (ℕ → Turn) → Turn
known_label L None turn = refuses L BadLabel
known_label L (Some n) turn = turn n

-- What the command does.
abbrev pub command_turn : Live → Asked → Turn
command_turn L (AskUpdate label curator op) =
    if is_one_of L.labels label then refuses L BadLabel else update_known L label (known_operation L.session.relations op)
command_turn L AskStep = step_turn L (lowest_ready_at L.core)
command_turn L AskDelivery = delivery_turn L (lowest_deliverable_at L.core)
command_turn L (AskAnswer label choice) = known_label L (number_of L label) (λ n. answer_known L n (known_choice L.session.relations choice))
command_turn L (AskWithdrawal label) = known_label L (number_of L label) (withdrawal_turn L)
command_turn L (AskQuestion label) = known_label L (number_of L label) (question_turn L)
command_turn L AskEnd = record { reply = codes "bye\n"; next = L; last = true }

abbrev pub saying_turn : Live → Saying → Turn
saying_turn L Nothing = says L []
saying_turn L NoForm = refuses L BadLine
saying_turn L (Asks a) = command_turn L a

-- What the line does, and the reply to it.
unfoldable pub line_turn : Live → List ℕ → Turn
line_turn L line = saying_turn L (line_says line)

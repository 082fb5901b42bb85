-- What is written to the log in hand before a reply is given.
use Rattle.std.specs.Prelude.{◌≡◌, ◌++◌, ◌∷◌, [], ℕ, List}
use Rattle.ws_file.specs.Files.{state_of}
use Rattle.ws_log.specs.Held.{HeldLog, IsFresh, IsMadeOf}
use Rattle.ws_seal.specs.Logs.{IsHeld}
use Rattle.ws_reply.specs.declared.outcomes.Outcome.{Outcome}
use Rattle.ws_session.specs.declared.leaving.Done.{Done}
use Rattle.ws_session.specs.declared.leaving.Done.TheVariants.{Nothing, Told, Changed, Folded}

-- Whatever texts the log had, it has them and this one after them. It is on the disk and nothing is pending, so every image that
-- a crash may leave has the text.
pub record HasAppended (text : List ℕ) (old new : HeldLog) : Type 0 where
  pub lasts : (before m : List ℕ) (texts : List (List ℕ))
      → IsHeld before m texts (state_of old.disk) old.gate old.mark
      → IsHeld before m (texts ++ text ∷ []) (state_of new.disk) new.gate new.mark

-- one text was appended to the log, and lasts
abbrev pub IsRecorded : HeldLog → HeldLog → Type 0
IsRecorded old new = (text : List ℕ) × HasAppended text old new

-- the log was made of some head and some texts
abbrev pub IsCreated : HeldLog → Type 0
IsCreated log = (head : List ℕ) × (texts : List (List ℕ)) × IsMadeOf head texts log

-- What is written for what a command leads to: nothing for a blank line and for a reply alone; one text for a change that has
-- lines or names updates; a new log with the mark of its head for a fold.
abbrev pub IsWritten : Done → HeldLog → HeldLog → Type 0
IsWritten Nothing old new = new ≡ old
IsWritten (Told reply) old new = new ≡ old
IsWritten (Changed outcome comment) old new = IsRecorded old new
IsWritten (Folded head reply) old new = IsFresh new × IsMadeOf head.items [] new

-- What an outcome leads to: its reply alone only if it has no lines and names no updates, else all of it.
abbrev pub IsLedTo : Outcome → Done → Type 0
IsLedTo outcome (Told reply) = (outcome.lines.items ≡ []) × (outcome.updates.items ≡ []) × (reply ≡ outcome.reply)
IsLedTo outcome (Changed all comment) = all ≡ outcome
IsLedTo outcome _ = ⊥

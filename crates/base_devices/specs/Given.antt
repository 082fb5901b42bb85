-- The bytes that a reader of lines took from its source, gave as a line, and keeps.
use Rattle.std.specs.Prelude.{◌≡◌, ◌==◌, ℕ, ◌+◌, ◌≤◌, Bool, true, false, List, [], ◌∷◌, ◌++◌, length, Option, All}
use Rattle.std.specs.Io.KnownBytes.{Consumes, IsAtEnd}
use Rattle.base_devices.specs.declared.lines.NextLine.{NextLine}
use Rattle.base_devices.specs.declared.lines.NextLine.TheVariants.{Whole, Last}
use Rattle.base_devices.specs.declared.lines.LineRefusal.{LineRefusal}
use Rattle.base_devices.specs.declared.lines.LineRefusal.TheVariants as refusals

-- The bytes that were taken and not given yet, and the number of bytes that may still be taken.
pub record Kept : Type 0 where
  pub bytes : List ℕ
  pub room : ℕ

-- no byte is a line feed
abbrev pub HasNoLineFeed : List ℕ → Type 0
HasNoLineFeed bytes = All (λ b. (b == 10) ≡ false) bytes

-- the bytes that a line stands for: itself and its line feed, or itself at the end of the input
abbrev pub spelled : NextLine → List ℕ
spelled (Whole line) = line.items ++ 10 ∷ []
spelled (Last line) = line.items

-- no line feed stands within it
abbrev pub IsLine : NextLine → Type 0
IsLine (Whole line) = HasNoLineFeed line.items
IsLine (Last line) = HasNoLineFeed line.items

-- a last line is given only if no byte is left, in the source or among those kept
abbrev pub IsDue : Option (List ℕ) → Kept → NextLine → Type 0
IsDue left kept (Whole line) = Unit {0}
IsDue left kept (Last line) = IsAtEnd left × (kept.bytes ≡ [])

-- A line was given. Some bytes were taken; those kept before, followed by the taken ones, are the line followed by those kept
-- now.
pub record HasGiven (left left' : Option (List ℕ)) (before after : Kept) (found : NextLine) : Type 0 where
  pub took : List ℕ
  pub taken : Consumes left left' took
  pub same : before.bytes ++ took ≡ spelled found ++ after.bytes
  pub room : after.room + length took ≡ before.room
  pub due : IsDue left' after found

-- There is no next line. Some bytes were taken, no more than allowed; together with those kept before they have no line feed.
pub record HasNoLine (left left' : Option (List ℕ)) (before : Kept) : Type 0 where
  pub took : List ℕ
  pub taken : Consumes left left' took
  pub room : length took ≤ before.room
  pub unended : HasNoLineFeed (before.bytes ++ took)

-- All allowed bytes were taken, which together with those kept before have no line feed, and then one more.
pub record HasTooMany (left left' : Option (List ℕ)) (before : Kept) : Type 0 where
  pub took : List ℕ
  pub extra : ℕ
  pub taken : Consumes left left' (took ++ extra ∷ [])
  pub room : length took ≡ before.room
  pub unended : HasNoLineFeed (before.bytes ++ took)

-- the bytes that were taken if a line is refused
abbrev pub IsLost : Option (List ℕ) → Option (List ℕ) → Kept → LineRefusal → Type 0
IsLost left left' before refusals.ReadFault = HasNoLine left left' before
IsLost left left' before refusals.TooLong = HasTooMany left left' before
IsLost left left' before refusals.Memory = (took : List ℕ) × Consumes left left' took × (length took ≤ before.room)

-- the kept bytes went to the line up to a line feed, which was dropped; or all of them, if there is none
abbrev pub HasCut : Kept → Kept → List ℕ → List ℕ → Bool → Type 0
HasCut before after line line' true =
    (piece : List ℕ) × HasNoLineFeed piece × (before.bytes ≡ piece ++ 10 ∷ after.bytes) × (line' ≡ line ++ piece)
HasCut before after line line' false = HasNoLineFeed before.bytes × (after.bytes ≡ []) × (line' ≡ line ++ before.bytes)

-- the source is at its end
abbrev pub HasEnded : Option (List ℕ) → Option (List ℕ) → Type 0
HasEnded left left' = Consumes left left' [] × IsAtEnd left'

-- if no byte was kept: some bytes were taken and are kept; or the source is at its end
abbrev pub HasFilled : Option (List ℕ) → Option (List ℕ) → Kept → Kept → Bool → Type 0
HasFilled left left' before after true =
    Consumes left left' after.bytes × (after.room + length after.bytes ≡ before.room) × (1 ≤ length after.bytes)
HasFilled left left' before after false =
    HasEnded left left' × (after.room ≡ before.room) × (after.bytes ≡ [])

-- no byte is kept, and none may be taken
abbrev pub no_room : Kept
no_room = record { bytes = []; room = 0 }

-- A line is begun. Some bytes were taken; those kept before, followed by the taken ones, are the line so far, which has no line
-- feed, followed by those kept now.
pub record IsBegun (left left' : Option (List ℕ)) (before after : Kept) (line : List ℕ) : Type 0 where
  pub took : List ℕ
  pub taken : Consumes left left' took
  pub same : before.bytes ++ took ≡ line ++ after.bytes
  pub room : after.room + length took ≡ before.room
  pub whole : HasNoLineFeed line

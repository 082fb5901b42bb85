-- A log in hand: the file as a disk, the place of the gate, the mark of the last text, and the number of texts.
use Rattle.std.specs.Prelude.{◌≡◌, ℕ, List, [], ◌∷◌}
use Rattle.ws_file.specs.Files.{FileState, bytes_of, state_of}
use Rattle.ws_seal.specs.Logs.{IsHeld}
use Rattle.ws_seal.specs.Seals.{last_mark, mark}

pub record HeldLog : Type 0 where
  pub disk : FileState
  pub gate : ℕ
  pub mark : List ℕ
  pub count : ℕ

-- The log is on the disk up to its gate, nothing is pending, and nothing has been appended to it yet.
abbrev pub IsFresh : HeldLog → Type 0
IsFresh log = IsHeld [] log.mark [] (state_of log.disk) log.gate log.mark

-- The log is made of this head and these texts, and nothing else: its mark is that of the last of them, and what its disk has after
-- them is the closed gate alone.
pub record IsMadeOf (head : List ℕ) (texts : List (List ℕ)) (log : HeldLog) : Type 0 where
  pub mark_is : log.mark ≡ last_mark (mark [] head) texts
  pub gate_alone : bytes_of log.disk ≡ 0 ∷ []

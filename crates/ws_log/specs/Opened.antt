-- What holds of a log that was opened, and of one that was read on.
use Rattle.std.specs.Prelude.{◌≡◌, ℕ, List, [], drop, map}
use Rattle.ws_file.specs.Files.{bytes_of}
use Rattle.ws_seal.specs.declared.types.Texts.{Texts}
use Rattle.ws_seal.specs.Logs.{IsLogRead, IsRead}
use Rattle.ws_log.specs.declared.opening.Opened.{Opened}
use Rattle.ws_log.specs.declared.opening.Reopened.{Reopened}
use Rattle.ws_log.specs.declared.opening.Reopened.TheVariants.{Same, Another}
use Rattle.ws_log.specs.Held.{IsFresh}

abbrev pub IsReopened : Reopened → Type 0
IsReopened (Same opened) = IsFresh opened.log
IsReopened (Another opened) = IsFresh opened.log

-- the texts that are handed on
abbrev pub texts_of : Opened → List (List ℕ)
texts_of opened = map (λ v. v.items) opened.texts.items

-- What was found in the bytes is handed on: its texts, and a log with its mark that goes on with the bytes from its gate on.
pub record HandsOn (bytes : List ℕ) (found : Texts) (opened : Opened) : Type 0 where
  pub texts : opened.texts ≡ found.texts
  pub mark : opened.log.mark ≡ found.mark.digits
  pub rest : bytes_of opened.log.disk ≡ drop found.gate bytes

-- The texts are exactly those that are read of the bytes, the head first. The log in hand has the mark of the last, and goes on with
-- the bytes from the gate on.
pub record IsWhole (bytes : List ℕ) (opened : Opened) : Type 0 where
  pub gate : ℕ
  pub read : IsLogRead bytes (texts_of opened) gate opened.log.mark
  pub rest : bytes_of opened.log.disk ≡ drop gate bytes

-- The same of bytes that stand after other texts, of which the last has this mark: no head is among the texts.
pub record IsTail (last bytes : List ℕ) (opened : Opened) : Type 0 where
  pub gate : ℕ
  pub read : IsRead [] last bytes (texts_of opened) gate opened.log.mark
  pub rest : bytes_of opened.log.disk ≡ drop gate bytes

-- there are bytes that were read so, those of the file
abbrev pub IsOpened : Opened → Type 0
IsOpened opened = (bytes : List ℕ) × IsWhole bytes opened

-- there are bytes that were read so, those of the file after the text with this mark
abbrev pub IsReadOn : List ℕ → Opened → Type 0
IsReadOn last opened = (bytes : List ℕ) × IsTail last bytes opened

-- the same file was read on after the text with this mark, or another one from its head on
abbrev pub IsReadAgain : List ℕ → Reopened → Type 0
IsReadAgain last (Same opened) = IsReadOn last opened
IsReadAgain last (Another opened) = IsOpened opened

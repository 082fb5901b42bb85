-- The replies to a stream: a session, and the lines of commands after it.
use Rattle.std.specs.Prelude.{◌≡◌, ◌-◌, ℕ, Bool, true, false, List, [], ◌∷◌, ◌++◌, codes, length, take, Option, Some, None, option_map, Result, Ok, Err, if◌then◌else◌}
use Rattle.std.specs.Fmt.{decimal}
use Rattle.core_engine.specs.States.{State, updates_at}
use Rattle.core_laws.specs.Live.{IsOfSession, IsSerialOver}
use Rattle.def_language.specs.Faults.{Wrong}
use Rattle.def_language.specs.Lines.{lines_of, read}
use Rattle.def_language.specs.Names.{same_name}
use Rattle.def_language.specs.Sessions.{SessionData}
use Rattle.def_language.specs.Words.{Word, name, words_at}
use Rattle.def_history.specs.Cores.{IsLegalOver}
use Rattle.def_language.specs.declared.tokens.LexRefusal.{LexRefusal}
use Rattle.base_devices.specs.Given.{HasNoLineFeed}
use Rattle.def_machine.specs.Updates.{Settings}
use Rattle.live_replies.specs.Turns.{Live, Turn, begun, line_turn}
use Rattle.lang_session.specs.Base.{Violated, base_violation}

-- ---- the session at the front

-- the words are `end` alone
abbrev pub is_end_alone : List Word → Bool
is_end_alone (name n ∷ []) = same_name n (codes "end")
is_end_alone _ = false

abbrev pub says_end : Result (List Word) LexRefusal → Bool
says_end (Ok words) = is_end_alone words
says_end (Err refusal) = false

-- the line holds `end` and no other word
abbrev pub is_end : List ℕ → Bool
is_end line = says_end (words_at line)

-- The text of a session, and the lines after it.
pub record Parted : Type 0 where
  pub text : List ℕ
  pub commands : List (List ℕ)

-- with one more line in front
abbrev pub with_line : List ℕ → Parted → Parted
with_line line p = record { text = line ++ 10 ∷ p.text; commands = p.commands }

-- The lines up to and with the first that holds `end` alone, each with its line feed, and the lines after it; None if no line
-- does.
abbrev pub parted : List (List ℕ) → Option Parted
parted [] = None
parted (line ∷ lines) =
    if is_end line then Some (record { text = line ++ 10 ∷ []; commands = lines }) else option_map (with_line line) (parted lines)

-- a last line as a part of a session's text: a line feed is added after `end`
abbrev pub last_line : List ℕ → List ℕ
last_line line = if is_end line then line ++ 10 ∷ [] else line

-- ---- the replies

-- how the lines end: they are all served, one asks to end, the session is refused, or the base of this session violates a
-- mapping
pub data Ending : Type 0 where
  GoesOn : Ending
  Quits : Ending
  RefusesSession : Wrong → Ending
  Violates : SessionData → Violated → Ending

-- The replies, how the lines end, and the core after them, if one was opened.
pub record Served : Type 0 where
  pub replies : List ℕ
  pub ending : Ending
  pub core : Option State

-- no reply, and no core was opened
abbrev pub unopened : Ending → Served
unopened ending = record { replies = []; ending = ending; core = None }

-- what is served, with this reply in front
abbrev pub with_front : List ℕ → Served → Served
with_front front s = record { replies = front ++ s.replies; ending = s.ending; core = s.core }

-- the last reply
abbrev pub parting : Turn → Served
parting t = record { replies = t.reply; ending = Quits; core = Some t.next.core }

-- The lines served one after the other, each on the session that the lines before it leave, up to the first that asks to end.
abbrev pub served : Live → List (List ℕ) → Served
served L [] = record { replies = []; ending = GoesOn; core = Some L.core }
served L (line ∷ lines) =
    let t = line_turn L line in
    if t.last then parting t else with_front t.reply (served t.next lines)

-- ready U
abbrev pub ready_line : Live → List ℕ
ready_line L = codes "ready " ++ (decimal (length (updates_at L.core)) ++ 10 ∷ [])

-- the session is reported as ready, and the lines are served
abbrev pub attended : Live → List (List ℕ) → Served
attended L lines = with_front (ready_line L) (served L lines)

-- a session that was read and the lines of commands, if its base violates no mapping
abbrev pub unless_violated : Option Violated → Live → List (List ℕ) → Served
unless_violated None L lines = attended L lines
unless_violated (Some v) L lines = unopened (Violates L.session v)

-- what is served for the session that was read, or its fault, and for the lines of commands
abbrev pub opened_with : ℕ → Settings → Result SessionData Wrong → List (List ℕ) → Served
opened_with budget c (Ok s) lines = unless_violated (base_violation s) (begun budget c s) lines
opened_with budget c (Err wrong) lines = unopened (RefusesSession wrong)

-- what is served for a session with commands, or for the bytes as a session if no line holds `end` alone
abbrev pub of_parts : ℕ → Settings → List ℕ → Option Parted → Served
of_parts budget c bytes None = opened_with budget c (read bytes) []
of_parts budget c bytes (Some p) = opened_with budget c (read p.text) p.commands

-- *Live replies*: the replies to a whole input, whose last line may lack its line feed.
abbrev pub live : ℕ → Settings → List ℕ → Served
live budget c bytes = of_parts budget c bytes (parted (lines_of bytes))

-- ---- the history

-- A core over a session that passed its checks, whose base violates no mapping, and over updates that the session's own
-- relations admitted later. Its entries are a legal history, and what it commits is serial.
pub record IsSerialCore (core : State) : Type 0 where
  pub session : SessionData
  pub of : IsOfSession session core.over
  pub legal : IsLegalOver core.over core.history
  pub serial : IsSerialOver core.over core.history

-- The core is a serial one, if a core was opened.
abbrev pub AnyIsSerial : Option State → Type 0
AnyIsSerial None = Unit {0}
AnyIsSerial (Some core) = IsSerialCore core

-- ---- an input that is not at its end

-- the lines that end with a line feed
abbrev pub whole_lines : List ℕ → List (List ℕ)
whole_lines bytes = take (length (lines_of bytes) - 1) (lines_of bytes)

-- The function cuts bytes into lines: first the bytes up to the first line feed, then the lines after it.
abbrev pub CutsLines : (List ℕ → List (List ℕ)) → Type 0
CutsLines cut = (line rest : List ℕ) → HasNoLineFeed line → cut (line ++ 10 ∷ rest) ≡ line ∷ cut rest

-- what is served so far: nothing before the session is whole
abbrev pub of_parts_so_far : ℕ → Settings → Option Parted → Served
of_parts_so_far budget c None = unopened GoesOn
of_parts_so_far budget c (Some p) = opened_with budget c (read p.text) p.commands

-- what the whole lines of the bytes lead to, whatever follows
abbrev pub so_far : ℕ → Settings → List ℕ → Served
so_far budget c bytes = of_parts_so_far budget c (parted (whole_lines bytes))

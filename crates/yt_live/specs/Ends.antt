-- What a stream's source gave and its sink took, for each end of the stream.
use Rattle.std.specs.Prelude.{◌≡◌, ℕ, ◌+◌, ◌≤◌, Bool, true, false, not, List, [], ◌∷◌, ◌++◌, length, map, Option, Some, None, Result, Ok, Err}
use Rattle.std.specs.Io.KnownBytes.{Consumes, IsAtEnd}
use Rattle.base_types.specs.Meanings.{fact_of}
use Rattle.cmd_frame.specs.Devices.{Change, Fails, Takes, TakesNothing, TakesSome}
use Rattle.cmd_frame.specs.declared.statuses.Status.{Status}
use Rattle.cmd_frame.specs.declared.statuses.Status.TheVariants as statuses
use Rattle.def_language.specs.Lines.{lines_of, read, IsFirstFault, Spells}
use Rattle.def_language.specs.Sessions.{SessionData}
use Rattle.base_devices.specs.Given.{Kept}
use Rattle.base_devices.specs.declared.lines.LineRefusal.{LineRefusal}
use Rattle.base_devices.specs.declared.lines.LineRefusal.TheVariants as lines
use Rattle.def_machine.specs.Updates.{Settings}
use Rattle.def_chase.specs.Values.{Fact}
use Rattle.lang_reader.specs.Answers.{wrong_of}
use Rattle.lang_reader.specs.declared.faults.ReadFailure.{ReadFailure}
use Rattle.lang_reader.specs.declared.faults.ReadFailure.TheVariants as reading
use Rattle.live_replies.specs.Turns.{Live, Turn}
use Rattle.lang_session.specs.Base.{Violated, base_violation}
use Rattle.lang_session.specs.Meanings.{session_of}
use Rattle.yt_live.specs.Streams.{AnyIsSerial, Ending, GoesOn, Quits, RefusesSession, Violates, Served, Parted, CutsLines, live, served, opened_with, parted, so_far, whole_lines}
use Rattle.yt_live.specs.declared.ends.LiveEnd.{LiveEnd}
use Rattle.yt_live.specs.declared.ends.LiveEnd.TheVariants as ends
use Rattle.yt_live.specs.declared.openings.Opening.{Opening}
use Rattle.yt_live.specs.declared.serving.TheConstants.{INPUT_LIMIT}

-- ---- what is due

-- What is served for the bytes of an input: if the input ends after them, and if more may follow.
pub record Due : Type 0 where
  pub at_end : List ℕ → Served
  pub so_far : List ℕ → Served

-- what is due for the bytes of a stream
abbrev pub of_stream : ℕ → Settings → Due
of_stream budget c = record { at_end = live budget c; so_far = so_far budget c }

-- what is due for the bytes after `front`, if S says what is served for lines of commands
abbrev pub of_lines : (List (List ℕ) → Served) → List ℕ → Due
of_lines S front = record { at_end = λ bytes. S (lines_of (front ++ bytes)); so_far = λ bytes. S (whole_lines (front ++ bytes)) }

-- ---- how it ended

-- the source gave at most `room` bytes, and `holds` holds of them
abbrev pub Gave : ℕ → Change → (List ℕ → Type 0) → Type 0
Gave room source holds =
    (took : List ℕ) × Consumes source.bytes source.bytes_after took × (length took ≤ room) × holds took

-- the lines are over: one asked to end, or the source is at its end
abbrev pub IsOver : Ending → Option (List ℕ) → Type 0
IsOver GoesOn left = IsAtEnd left
IsOver Quits left = Unit {0}
IsOver ending left = ⊥

-- the sink took all replies, and the lines are over
abbrev pub HasEnded : Served → Change → Change → Type 0
HasEnded s source out = Takes out s.replies × IsOver s.ending source.bytes_after

-- the sink took all replies, and the lines end with this ending
abbrev pub StopsBy : Ending → Served → Change → Type 0
StopsBy ending s out = Takes out s.replies × (s.ending ≡ ending)

-- the base of the session violates the mapping with this name; the first violation has this image
abbrev pub violation : SessionData → List ℕ → List Fact → Ending
violation s name image = Violates s (record { name = name; image = image })

-- what is left of a source, if that is known
abbrev pub left_of : Option (List ℕ) → List ℕ
left_of None = []
left_of (Some bytes) = bytes

-- the sink took a prefix of the replies to what was read and what is left
abbrev pub TookPrefix : Due → Change → Change → List ℕ → Type 0
TookPrefix due source out took = TakesSome out (due.at_end (took ++ left_of source.bytes_after)).replies

-- What each end says, if at most `room` bytes may be read. With `Ended`, and if the session is refused, the sink took exactly the
-- replies to what was read; with any other end it took a prefix of them. The end is `TooLong` if and only if one byte more than
-- `room` was read.
abbrev pub Ends : Due → ℕ → LiveEnd → Change → Change → Type 0
Ends due room ends.Ended source out = Gave room source (λ took. HasEnded (due.at_end took) source out)
Ends due room ends.ReadFault source out = Gave room source (λ took. StopsBy GoesOn (due.so_far took) out) × Fails source
Ends due room ends.WriteFault source out = Gave room source (TookPrefix due source out) × Fails out
Ends due room ends.TooLong source out =
    (took : List ℕ) × (extra : ℕ) × Consumes source.bytes source.bytes_after (took ++ extra ∷ [])
    × (length took ≡ room) × StopsBy GoesOn (due.so_far took) out
Ends due room (ends.SessionRefused fault) source out =
    Gave room source (λ took. StopsBy (RefusesSession (wrong_of fault)) (due.at_end took) out)
Ends due room (ends.BaseViolates mapping image session) source out =
    Gave room source (λ took. StopsBy (violation (session_of session) mapping.items (map fact_of image.items)) (due.at_end took) out)
Ends due room ends.Memory source out = Gave room source (TookPrefix due source out)

-- A stream was served.
abbrev pub Serves : ℕ → Settings → LiveEnd → Change → Change → Type 0
Serves budget c e source out = Ends (of_stream budget c) INPUT_LIMIT e source out

-- For any front of the bytes that the source gave, whether more follow or not, what it commits is serial.
abbrev pub LeavesSerial : Due → Change → Type 0
LeavesSerial due source =
    (front rest : List ℕ) → Consumes source.bytes source.bytes_after (front ++ rest) → AnyIsSerial (due.at_end front).core × AnyIsSerial (due.so_far front).core

-- the end for a call whose Ok means that the stream ended
abbrev pub end_of : Result (Unit {0}) LiveEnd → LiveEnd
end_of (Ok u) = ends.Ended
end_of (Err e) = e

-- ---- the parts of a stream

-- why a line was not read, as an end
abbrev pub of_line_refusal : LineRefusal → LiveEnd
of_line_refusal lines.ReadFault = ends.ReadFault
of_line_refusal lines.TooLong = ends.TooLong
of_line_refusal lines.Memory = ends.Memory

-- why a session was not read, as an end
abbrev pub of_read_failure : ReadFailure → LiveEnd
of_read_failure (reading.Fault f) = ends.SessionRefused f
of_read_failure reading.Memory = ends.Memory

-- The session part was read: what is kept of the bytes that were read, and the bytes after them, are lines of commands.
pub record HasOpened (left left' : Option (List ℕ)) (before after : Kept) (text : List ℕ) : Type 0 where
  pub took : List ℕ
  pub taken : Consumes left left' took
  pub room : after.room + length took ≡ before.room
  pub parts : (cut : List ℕ → List (List ℕ)) → CutsLines cut → (more : List ℕ)
      → parted (cut (took ++ more)) ≡ Some (record { text = text; commands = cut (after.bytes ++ more) })
  pub short : length text ≤ INPUT_LIMIT + 1

-- The input is at its end, and no command follows: it is served as the session of the text.
pub record HasReadAll (left left' : Option (List ℕ)) (text : List ℕ) : Type 0 where
  pub took : List ℕ
  pub taken : Consumes left left' took
  pub few : length took ≤ INPUT_LIMIT
  pub end : IsAtEnd left'
  pub serves : (budget : ℕ) (c : Settings) → live budget c took ≡ opened_with budget c (read text) []
  pub short : length text ≤ INPUT_LIMIT + 1

-- the text of the session, with lines of commands after it, or at the end of the input
abbrev pub Opened : Bool → Option (List ℕ) → Option (List ℕ) → Kept → Kept → List ℕ → Type 0
Opened true left left' before after text = HasOpened left left' before after text
Opened false left left' before after text = HasReadAll left left' text

-- what the opening of a stream says: the text of the session, and whether lines of commands may follow
abbrev pub Opens : Option (List ℕ) → Option (List ℕ) → Kept → Kept → Opening → Type 0
Opens left left' before after o = Opened o.more left left' before after o.text.items

-- what was read has no whole session part yet
abbrev pub OpensNothing : LineRefusal → Option (List ℕ) → Option (List ℕ) → Kept → Type 0
OpensNothing lines.ReadFault left left' before =
    (took : List ℕ) × Consumes left left' took × (length took ≤ before.room) × (parted (whole_lines took) ≡ None)
OpensNothing lines.TooLong left left' before =
    (took : List ℕ) × (extra : ℕ) × Consumes left left' (took ++ extra ∷ []) × (length took ≡ before.room) × (parted (whole_lines took) ≡ None)
OpensNothing lines.Memory left left' before = (took : List ℕ) × Consumes left left' took × (length took ≤ before.room)

-- the first violation of the session's base
abbrev pub RefusesBase : SessionData → LiveEnd → Type 0
RefusesBase s (ends.BaseViolates mapping image session) =
    (session_of session ≡ s) × (base_violation s ≡ Some (record { name = mapping.items; image = map fact_of image.items }))
RefusesBase s ends.Memory = Unit {0}
RefusesBase s e = ⊥

-- why the text opens no session: its first fault, or the first violation of its base
abbrev pub RefusesText : List ℕ → LiveEnd → Type 0
RefusesText text (ends.SessionRefused fault) = IsFirstFault text (wrong_of fault)
RefusesText text (ends.BaseViolates mapping image session) =
    Spells text (session_of session)
    × (base_violation (session_of session) ≡ Some (record { name = mapping.items; image = map fact_of image.items }))
RefusesText text ends.Memory = Unit {0}
RefusesText text e = ⊥

-- the reply of a turn was written, which leaves the session `next`; whether further lines are read
abbrev pub HasReplied : Turn → Change → Live → Bool → Type 0
HasReplied t out next more = Takes out t.reply × (t.next ≡ next) × (t.last ≡ not more)

-- why a reply was not written whole
abbrev pub FailsReply : List ℕ → Change → LiveEnd → Type 0
FailsReply reply out ends.WriteFault = TakesSome out reply × Fails out
FailsReply reply out ends.Memory = TakesNothing out
FailsReply reply out e = ⊥

-- the end of a session without commands, if s is what is served
abbrev pub EndsAlone : Served → LiveEnd → Change → Type 0
EndsAlone s ends.Ended out = StopsBy GoesOn s out
EndsAlone s ends.WriteFault out = TakesSome out s.replies × Fails out
EndsAlone s (ends.SessionRefused fault) out = StopsBy (RefusesSession (wrong_of fault)) s out
EndsAlone s (ends.BaseViolates mapping image session) out =
    StopsBy (violation (session_of session) mapping.items (map fact_of image.items)) s out
EndsAlone s ends.Memory out = TakesSome out s.replies
EndsAlone s e out = ⊥

-- the status of each end
abbrev pub status_of : LiveEnd → Status
status_of ends.Ended = statuses.Ended
status_of ends.ReadFault = statuses.ReadFault
status_of ends.WriteFault = statuses.WriteFault
status_of ends.TooLong = statuses.TooLong
status_of (ends.SessionRefused fault) = statuses.SessionRefused
status_of (ends.BaseViolates mapping image session) = statuses.BaseViolates
status_of ends.Memory = statuses.OutOfMemory

-- The top call: its words, its status, and the line on `err` that says how the stream ended.
use Rattle.std.specs.Prelude.{◌≡◌, ◌⊎◌, ℕ, List, [], ◌∷◌, ◌++◌, codes}
use Rattle.std.specs.Io.KnownBytes.{Keeps}
use Rattle.base_types.specs.Meanings.{fact_of}
use Rattle.base_types.specs.declared.tuples.Tuple.{Tuple}
use Rattle.cmd_frame.specs.Devices.{Change, TakesNothing, Tells}
use Rattle.cmd_frame.specs.declared.statuses.Status.{Status}
use Rattle.cmd_frame.specs.declared.statuses.Status.TheVariants.{Usage, OutOfMemory}
use Rattle.def_language.specs.Faults.{Wrong, wrong_text}
use Rattle.def_language.specs.Grammar.{fact_words, separated}
use Rattle.def_language.specs.Names.{Name}
use Rattle.def_language.specs.Printing.{written_fact}
use Rattle.def_language.specs.Sessions.{RelationSchema}
use Rattle.def_language.specs.Words.{Word, colon, name}
use Rattle.def_machine.specs.Updates.{Settings, Precise}
use Rattle.lang_print.specs.Lines.{with_line}
use Rattle.lang_reader.specs.Answers.{wrong_of}
use Rattle.lang_schema.specs.Pages.{blank}
use Rattle.yt_live.specs.Ends.{Serves, status_of}
use Rattle.yt_live.specs.declared.ends.LiveEnd.{LiveEnd}
use Rattle.yt_live.specs.declared.ends.LiveEnd.TheVariants as ends

-- the line of a session's first fault
abbrev pub fault_line : Wrong → List ℕ
fault_line wrong = codes "yt_live: " ++ (wrong_text wrong ++ 10 ∷ [])

-- the words of a violation of the base: the mapping and the image
abbrev pub violation_words : List RelationSchema → Name → List Tuple → List Word
violation_words relations mapping image =
    name (codes "yt_live") ∷ colon ∷ name (codes "base") ∷ name (codes "violates") ∷ name mapping ∷ colon
    ∷ separated (λ t. fact_words (written_fact relations (fact_of t))) image

-- the line of these words
abbrev pub base_line : List RelationSchema → Name → List Tuple → List ℕ
base_line relations mapping image = (with_line blank (violation_words relations mapping image)).text

-- the line that says how a stream ended; empty if all was served
abbrev pub line_of : LiveEnd → List ℕ
line_of ends.Ended = []
line_of ends.ReadFault = codes "yt_live: read fault\n"
line_of ends.WriteFault = codes "yt_live: write fault\n"
line_of ends.TooLong = codes "yt_live: input longer than 16777216 bytes\n"
line_of (ends.SessionRefused fault) = fault_line (wrong_of fault)
line_of (ends.BaseViolates mapping image session) = base_line session.schema mapping.items image.items
line_of ends.Memory = codes "yt_live: out of memory\n"

-- the line for a call with words
abbrev pub usage_line : List ℕ
usage_line = codes "yt_live: usage: yt_live\n"

-- the status and the line on `err` are the end's, or the ones of want of memory
abbrev pub IsTold : LiveEnd → Status → Change → Type 0
IsTold e status err = ((status ≡ status_of e) × Tells err (line_of e)) ⊎ ((status ≡ OutOfMemory) × Tells err (line_of ends.Memory))

-- 3 retries, and the precise test
abbrev pub default_settings : Settings
default_settings = record { retries = 3; deps = Precise }

-- Without words the stream is served by the default settings, with 100 steps for an update; a word is refused before the source
-- is read.
abbrev pub Curates : List (List ℕ) → Status → Change → Change → Change → Type 0
Curates [] status source out err = (e : LiveEnd) × Serves 100 default_settings e source out × IsTold e status err
Curates (word ∷ words) status source out err =
    (status ≡ Usage) × Keeps source.bytes source.bytes_after × TakesNothing out × Tells err usage_line

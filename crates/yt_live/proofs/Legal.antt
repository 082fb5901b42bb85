-- The events that lines lead to are a legal history, and what it commits is serial.
use Rattle.std.proofs.Common.{◌≡◌, ◌∙◌, ap, sym, ◌≤◌, ℕ, Bool, true, false, List, [], ◌∷◌, ◌++◌, length, refl}
use Rattle.std.specs.Prelude.{Option, Some, None, Result, Ok, Err, nat_le, if◌then◌else◌}
use Rattle.lang_session.specs.Admissible.{admits}
use Rattle.core_engine.specs.LiveCalls.{admits_at, fits_at, is_withdrawn}
use Rattle.core_engine.specs.States.{State, committed_at, lowest_deliverable_at, lowest_ready_at, standing_at, updates_at}
use Rattle.core_engine.proofs.Living.{IsLiving, opened_living}
use Rattle.core_laws.proofs.Growing.{grown_legal, live_grows, live_is_serial}
use Rattle.core_laws.specs.Live.{IsOfSession}
use Rattle.def_language.specs.Faults.{Wrong}
use Rattle.def_language.specs.Lines.{Spells, lines_of, read}
use Rattle.def_language.specs.Names.{Name, is_one_of}
use Rattle.def_language.specs.Sessions.{RelationSchema, SessionData}
use Rattle.def_language.specs.Validity.{IsSession}
use Rattle.def_history.specs.CoreLaws.{handed}
use Rattle.def_history.specs.Cores.{Ground, IsLegalOver, grown, machine}
use Rattle.def_history.specs.PlainEntries.{PlainEntry}
use Rattle.def_history.proofs.Keeping.{histories_are_kept}
use Rattle.def_machine.specs.Effects.{Admits, Answers, Delivers, Event, Steps, Withdraws}
use Rattle.def_machine.specs.Standings.{Standing, Withdrawn, is_paused}
use Rattle.def_machine.specs.Updates.{Settings}
use Rattle.def_chase.specs.Updates.{Choice, Operation}
use Rattle.live_replies.specs.Commands.{Asked, AskUpdate, AskStep, AskDelivery, AskAnswer, AskWithdrawal, AskQuestion, AskEnd, Asks, NoForm, Nothing, Saying, line_says}
use Rattle.live_replies.specs.Known.{known_choice, known_operation}
use Rattle.live_replies.specs.Turns.{Live, Turn, admission, answer_known, answer_standing, begun, command_turn, delivery_turn, event, known_label, line_turn, made, number_of, question_turn, refuses, saying_turn, step_turn, update_known, withdrawal_standing, withdrawal_turn}
use Rattle.live_replies.specs.Texts.{BadLabel, BadNull, Full, IsCommitted, Misfits, Stands}
use Rattle.lang_session.specs.Base.{Violated, base_violation}
use Rattle.yt_live.specs.Streams.{AnyIsSerial, IsSerialCore, Parted, live, of_parts, of_parts_so_far, opened_with, parted, parting, served, so_far, unless_violated, whole_lines, with_front}

-- The core is over the session and updates that its relations admitted, and its history is legal.
abbrev IsSound : Live → Type 0
IsSound L = IsLiving L.session L.core

-- ---- one event

made_sound : (L : Live) (g : Ground) (names : List Name) (H : Option (List PlainEntry)) → IsSound L → IsOfSession L.session g → ((es : List PlainEntry) → H ≡ Some es → IsLegalOver g es) → IsSound (made L g names H).next
made_sound L g names None sound of legal = sound
made_sound L g names (Some es) sound of legal = record { of = of; legal = legal es refl; same = sound.same }

event_sound : (L : Live) (e : Event (machine L.core.over)) → IsSound L → IsSound (event L (grown L.core.over L.core.history e)).next
event_sound L e sound =
    made_sound L L.core.over L.labels (grown L.core.over L.core.history e) sound sound.of (λ es. grown_legal L.core.over L.core.history e es sound.of.some sound.legal)

admission_sound : (L : Live) (label : Name) (op : Operation) → admits_at L.core op ≡ true → IsSound L → IsSound (admission L label op).next
admission_sound L label op fits sound =
    let g = handed L.core.over op in
    let legal : IsLegalOver g L.core.history = ((histories_are_kept L.core.over sound.of.some).handing L.core.history op sound.legal).legal in
    let count = length (updates_at L.core) in
    let own : admits L.session.relations count op ≡ true = ap (λ (rs : List RelationSchema). admits rs count op) (sym sound.same) ∙ fits in
    let of : IsOfSession L.session g = live_grows L.session L.core.over count op sound.of own in
    made_sound L g (L.labels ++ label ∷ []) (grown g L.core.history Admits) sound of (λ es. grown_legal g L.core.history Admits es sound.of.some legal)

-- ---- one line

-- whichever of two turns it is
either : (b : Bool) (x y : Turn) → IsSound x.next → IsSound y.next → IsSound (if b then x else y).next
either true x y one two = one
either false x y one two = two

step_sound : (L : Live) (n : Option ℕ) → IsSound L → IsSound (step_turn L n).next
step_sound L None sound = sound
step_sound L (Some n) sound = event_sound L (Steps n) sound

delivery_sound : (L : Live) (n : Option ℕ) → IsSound L → IsSound (delivery_turn L n).next
delivery_sound L None sound = sound
delivery_sound L (Some n) sound = event_sound L (Delivers n) sound

withdrawal_sound : (L : Live) (n : ℕ) (s : Option Standing) → IsSound L → IsSound (withdrawal_standing L n s).next
withdrawal_sound L n None sound = sound
withdrawal_sound L n (Some s) sound =
    let made = event L (grown L.core.over L.core.history (Withdraws n)) in
    either (nat_le n (committed_at L.core)) (refuses L IsCommitted) (if is_withdrawn s then refuses L (Stands Withdrawn) else made) sound
    (either (is_withdrawn s) (refuses L (Stands Withdrawn)) made sound (event_sound L (Withdraws n) sound))

answer_sound : (L : Live) (n : ℕ) (c : Choice) (s : Option Standing) → IsSound L → IsSound (answer_standing L n c s).next
answer_sound L n c None sound = sound
answer_sound L n c (Some s) sound =
    let made = event L (grown L.core.over L.core.history (Answers n c)) in
    either (is_paused s) (if fits_at L.core n c then made else refuses L Misfits) (refuses L (Stands s))
    (either (fits_at L.core n c) made (refuses L Misfits) (event_sound L (Answers n c) sound) sound) sound

known_sound : (L : Live) (n : ℕ) (c : Option Choice) → IsSound L → IsSound (answer_known L n c).next
known_sound L n None sound = sound
known_sound L n (Some c) sound = answer_sound L n c (standing_at L.core n) sound

-- the update, where it is admitted or not
if_admitted : (L : Live) (label : Name) (op : Operation) (fits : Bool) → admits_at L.core op ≡ fits → IsSound L → IsSound (if fits then admission L label op else refuses L BadNull).next
if_admitted L label op true e sound = admission_sound L label op e sound
if_admitted L label op false e sound = sound

update_sound : (L : Live) (label : Name) (op : Option Operation) → IsSound L → IsSound (update_known L label op).next
update_sound L label None sound = sound
update_sound L label (Some op) sound =
    let count = length (updates_at L.core) in
    let fits = admits_at L.core op in
    either (nat_le 1000 count) (refuses L Full) (if fits then admission L label op else refuses L BadNull) sound
    (if_admitted L label op fits refl sound)

label_sound : (L : Live) (n : Option ℕ) (turn : ℕ → Turn) → IsSound L → ((k : ℕ) → IsSound (turn k).next) → IsSound (known_label L n turn).next
label_sound L None turn sound each = sound
label_sound L (Some n) turn sound each = each n

command_sound : (L : Live) (a : Asked) → IsSound L → IsSound (command_turn L a).next
command_sound L (AskUpdate label curator op) sound =
    either (is_one_of L.labels label) (refuses L BadLabel) (update_known L label (known_operation L.session.relations op)) sound
    (update_sound L label (known_operation L.session.relations op) sound)
command_sound L AskStep sound = step_sound L (lowest_ready_at L.core) sound
command_sound L AskDelivery sound = delivery_sound L (lowest_deliverable_at L.core) sound
command_sound L (AskAnswer label choice) sound =
    label_sound L (number_of L label) (λ n. answer_known L n (known_choice L.session.relations choice)) sound (λ n. known_sound L n (known_choice L.session.relations choice) sound)
command_sound L (AskWithdrawal label) sound = label_sound L (number_of L label) (withdrawal_turn L) sound (λ n. withdrawal_sound L n (standing_at L.core n) sound)
command_sound L (AskQuestion label) sound = label_sound L (number_of L label) (question_turn L) sound (λ n. sound)
command_sound L AskEnd sound = sound

saying_sound : (L : Live) (s : Saying) → IsSound L → IsSound (saying_turn L s).next
saying_sound L Nothing sound = sound
saying_sound L NoForm sound = sound
saying_sound L (Asks a) sound = command_sound L a sound

line_sound : (L : Live) (line : List ℕ) → IsSound L → IsSound (line_turn L line).next
unfolding line_turn
line_sound L line sound = saying_sound L (line_says line) sound

-- ---- all lines

serial_core : (s : SessionData) (core : State) → IsLiving s core → IsSerialCore core
serial_core s core l = record { session = s; of = l.of; legal = l.legal; serial = live_is_serial s core.over core.history l.of l.legal }

served_serial : (L : Live) (lines : List (List ℕ)) → IsSound L → AnyIsSerial (served L lines).core
served_serial L [] sound = serial_core L.session L.core sound
served_serial L (line ∷ lines) sound =
    by (line_turn L line).last (line_sound L line sound) (served_serial (line_turn L line).next lines (line_sound L line sound))
  where
    by : (b : Bool) → IsSound (line_turn L line).next → AnyIsSerial (served (line_turn L line).next lines).core
        → AnyIsSerial (if b then parting (line_turn L line) else with_front (line_turn L line).reply (served (line_turn L line).next lines)).core
    by true here later = serial_core (line_turn L line).next.session (line_turn L line).next.core here
    by false here later = later

-- a session that bytes spell is valid
abbrev AreValid : Type 0
AreValid = (bytes : List ℕ) (s : SessionData) → Spells bytes s → IsSession s

opened_serial : (budget : ℕ) (c : Settings) (text : List ℕ) (lines : List (List ℕ)) → AreValid → 1 ≤ budget → AnyIsSerial (opened_with budget c (read text) lines).core
opened_serial budget c text lines spelled some = by (read text) refl where
  unless : (s : SessionData) → IsSession s → (v : Option Violated) → base_violation s ≡ v → AnyIsSerial (unless_violated v (begun budget c s) lines).core
  unless s valid None meets = served_serial (begun budget c s) lines (opened_living budget c s valid meets some)
  unless s valid (Some v) e = tt

  by : (r : Result SessionData Wrong) → read text ≡ r → AnyIsSerial (opened_with budget c r lines).core
  by (Err wrong) e = tt
  by (Ok s) e = unless s (spelled text s e) (base_violation s) refl

-- whether more bytes may follow or not
pub histories_serial : AreValid → (budget : ℕ) (c : Settings) → 1 ≤ budget → (bytes : List ℕ) → AnyIsSerial (live budget c bytes).core × AnyIsSerial (so_far budget c bytes).core
histories_serial spelled budget c some bytes = (at_end (parted (lines_of bytes)), before_end (parted (whole_lines bytes))) where
  at_end : (p : Option Parted) → AnyIsSerial (of_parts budget c bytes p).core
  at_end None = opened_serial budget c bytes [] spelled some
  at_end (Some p) = opened_serial budget c p.text p.commands spelled some

  before_end : (p : Option Parted) → AnyIsSerial (of_parts_so_far budget c p).core
  before_end None = tt
  before_end (Some p) = opened_serial budget c p.text p.commands spelled some

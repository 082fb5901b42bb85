-- The session of the text at the front, and the stream with what is served after it.
use Rattle.std.proofs.Common.{◌≡◌, ℕ, ◌+◌, ◌≤◌, Bool, true, false, List, [], ◌∷◌, ◌++◌, length, refl, sym, ap, subst, ◌∙◌, arith, append-nil}
use Rattle.std.specs.Prelude.{Option, Some, None, Result, Ok, Err, map, OnOk, IfErr}
use Rattle.std.specs.Io.KnownBytes.{Appends, Consumes, IsAtEnd}
use Rattle.std.proofs.KnownBytes.{Appends-nil, Consumes-nil, Keeps-refl}
use Rattle.base_types.specs.Meanings.{fact_of}
use Rattle.cmd_frame.specs.Devices.{Change, Fails, Takes, TakesSome}
use Rattle.def_language.specs.Faults.{Wrong}
use Rattle.def_language.specs.Lines.{lines_of, read, Spells}
use Rattle.def_language.specs.Sessions.{SessionData}
use Rattle.base_devices.specs.Given.{Kept}
use Rattle.base_devices.specs.declared.lines.LineRefusal.{LineRefusal}
use Rattle.base_devices.specs.declared.lines.LineRefusal.TheVariants as lines
use Rattle.def_machine.specs.Updates.{Settings}
use Rattle.lang_reader.specs.Answers.{wrong_of}
use Rattle.live_replies.specs.Turns.{Live, begun}
use Rattle.lang_session.specs.Base.{Violated, base_violation}
use Rattle.lang_session.specs.Meanings.{session_of}
use Rattle.yt_live.specs.Ends.{Due, Ends, EndsAlone, FailsReply, HasEnded, HasOpened, HasReadAll, IsOver, Opened, Opens, OpensNothing, end_of, RefusesText, Serves, StopsBy, left_of, of_line_refusal, of_lines, of_stream, violation}
use Rattle.yt_live.specs.Streams.{Served, Parted, Ending, GoesOn, RefusesSession, attended, live, of_parts, of_parts_so_far, opened_with, parted, ready_line, served, so_far, unless_violated, whole_lines}
use Rattle.yt_live.specs.declared.ends.LiveEnd.{LiveEnd}
use Rattle.yt_live.specs.declared.ends.LiveEnd.TheVariants as ends
use Rattle.yt_live.specs.declared.openings.Opening.{Opening}
use Rattle.yt_live.specs.declared.serving.TheConstants.{INPUT_LIMIT}
use Rattle.yt_live.proofs.Continuing.{Continues, ends_since, lines_continue, since}
use Rattle.yt_live.proofs.Cutting.{cuts_all, cuts_whole}
use Rattle.yt_live.proofs.Prefixes.{takes_less, takes_none}
use Rattle.yt_live.proofs.Turning.{cut_short, none_left, unmoved}

-- ---- the first reply

-- it was not written whole
pub greets_not : (L : Live) (kept : Kept) (e : LiveEnd) (left : Option (List ℕ)) (reads : ℕ) (out : Change) → FailsReply (ready_line L) out e
    → Ends (of_lines (attended L) kept.bytes) kept.room e (unmoved left reads) out
greets_not L kept e left reads out f =
    cut_short (of_lines (attended L) kept.bytes) kept.room e (unmoved left reads) out [] (ready_line L) (served L (lines_of (kept.bytes ++ left_of left))).replies (Consumes-nil left) (omega arith) refl f

-- it was written, and then the lines were served
pub greeted : (L : Live) (kept : Kept) (e : LiveEnd) (source out : Change) (tmid : Option (List ℕ)) (writes : ℕ) → Appends out.bytes tmid (ready_line L) → out.faults ≤ writes
    → Ends (of_lines (served L) kept.bytes) kept.room e source (since tmid writes out) → Ends (of_lines (attended L) kept.bytes) kept.room e source out
greeted L kept e source out tmid writes first later x =
    ends_since (of_lines (attended L) kept.bytes) (of_lines (served L) kept.bytes) [] (ready_line L) kept.room kept.room source out source.bytes tmid source.faults writes
    (record { at_end = λ more. refl; so_far = λ more. refl }) (Consumes-nil source.bytes) first (omega arith) (omega arith) later e x

-- ---- the session of the text

-- why it is refused is how what is served of it ends, before anything is replied
refused : (budget : ℕ) (c : Settings) (text : List ℕ) (ls : List (List ℕ)) (e : LiveEnd) (taken : Option (List ℕ)) (writes : ℕ) → RefusesText text e → EndsAlone (opened_with budget c (read text) ls) e (unmoved taken writes)
refused budget c text ls (ends.SessionRefused fault) taken writes r =
    subst (λ (x : Result SessionData Wrong). EndsAlone (opened_with budget c x ls) (ends.SessionRefused fault) (unmoved taken writes)) (sym r) (Appends-nil taken, refl)
refused budget c text ls (ends.BaseViolates mapping image session) taken writes r =
    subst (λ (x : Result SessionData Wrong). EndsAlone (opened_with budget c x ls) (ends.BaseViolates mapping image session) (unmoved taken writes)) (sym r.0)
    (subst (λ (v : Option Violated). EndsAlone (unless_violated v (begun budget c (session_of session)) ls) (ends.BaseViolates mapping image session) (unmoved taken writes)) (sym r.1) (Appends-nil taken, refl))
refused budget c text ls ends.Memory taken writes r = takes_none taken taken (opened_with budget c (read text) ls).replies (Keeps-refl taken)
refused budget c text ls ends.Ended taken writes r = absurd r
refused budget c text ls ends.ReadFault taken writes r = absurd r
refused budget c text ls ends.WriteFault taken writes r = absurd r
refused budget c text ls ends.TooLong taken writes r = absurd r

pub alone_refused : (budget : ℕ) (c : Settings) (text : List ℕ) (e : LiveEnd) (taken : Option (List ℕ)) (writes : ℕ) → RefusesText text e → EndsAlone (opened_with budget c (read text) []) e (unmoved taken writes)
alone_refused budget c text e taken writes r = refused budget c text [] e taken writes r

-- before a line of commands was taken
pub text_refused : (budget : ℕ) (c : Settings) (text : List ℕ) (kept : Kept) (e : LiveEnd) (left taken : Option (List ℕ)) (reads writes : ℕ) → RefusesText text e
    → Ends (of_lines (opened_with budget c (read text)) kept.bytes) kept.room e (unmoved left reads) (unmoved taken writes)
text_refused budget c text kept (ends.SessionRefused fault) left taken reads writes r =
    ([], Consumes-nil left, omega arith, refused budget c text (lines_of (kept.bytes ++ [])) (ends.SessionRefused fault) taken writes r)
text_refused budget c text kept (ends.BaseViolates mapping image session) left taken reads writes r =
    ([], Consumes-nil left, omega arith, refused budget c text (lines_of (kept.bytes ++ [])) (ends.BaseViolates mapping image session) taken writes r)
text_refused budget c text kept ends.Memory left taken reads writes r =
    ([], Consumes-nil left, omega arith, refused budget c text (lines_of (kept.bytes ++ left_of left)) ends.Memory taken writes r)
text_refused budget c text kept ends.Ended left taken reads writes r = absurd r
text_refused budget c text kept ends.ReadFault left taken reads writes r = absurd r
text_refused budget c text kept ends.WriteFault left taken reads writes r = absurd r
text_refused budget c text kept ends.TooLong left taken reads writes r = absurd r

-- it is read, and its base violates no mapping
same_served : (budget : ℕ) (c : Settings) (text : List ℕ) (s : SessionData) (ls : List (List ℕ)) → Spells text s → base_violation s ≡ None → opened_with budget c (read text) ls ≡ attended (begun budget c s) ls
same_served budget c text s ls spells none =
    ap (λ (x : Result SessionData Wrong). opened_with budget c x ls) spells ∙ ap (λ (v : Option Violated). unless_violated v (begun budget c s) ls) none

pub attended_so : (budget : ℕ) (c : Settings) (text : List ℕ) (s : SessionData) (L : Live) (kept : Kept) (e : LiveEnd) (source out : Change) → Spells text s → base_violation s ≡ None → L ≡ begun budget c s
    → Ends (of_lines (attended L) kept.bytes) kept.room e source out → Ends (of_lines (opened_with budget c (read text)) kept.bytes) kept.room e source out
attended_so budget c text s L kept e source out spells none same x =
    ends_since (of_lines (opened_with budget c (read text)) kept.bytes) (of_lines (attended L) kept.bytes) [] [] kept.room kept.room source out source.bytes out.bytes source.faults out.faults
    (lines_continue (opened_with budget c (read text)) (attended L) kept.bytes kept.bytes [] [] (λ cut cuts more.
    same_served budget c text s (cut (kept.bytes ++ more)) spells none ∙ ap (λ (l : Live). attended l (cut (kept.bytes ++ more))) (sym same)))
    (Consumes-nil source.bytes) (Appends-nil out.bytes) (omega arith) (omega arith) (omega arith) e x

-- the session alone was told to be ready, or not
pub alone_greeted : (budget : ℕ) (c : Settings) (text : List ℕ) (s : SessionData) (L : Live) (r : Result (Unit {0}) LiveEnd) (out : Change) → Spells text s → base_violation s ≡ None → L ≡ begun budget c s
    → OnOk r (Takes out (ready_line L)) → IfErr r (FailsReply (ready_line L) out) → EndsAlone (opened_with budget c (read text) []) (end_of r) out
alone_greeted budget c text s L r out spells none same ok err =
    subst (λ (t : Served). EndsAlone t (end_of r) out) (sym (same_served budget c text s [] spells none ∙ ap (λ (l : Live). attended l []) (sym same))) (by r ok err)
  where
    by : (r : Result (Unit {0}) LiveEnd) → OnOk r (Takes out (ready_line L)) → IfErr r (FailsReply (ready_line L) out) → EndsAlone (attended L []) (end_of r) out
    by (Ok u) ok err = (subst (Appends out.bytes out.bytes_after) (sym (append-nil (ready_line L))) ok, refl)
    by (Err ends.WriteFault) ok err = (takes_less out.bytes out.bytes_after (ready_line L) [] err.0, err.1)
    by (Err ends.Memory) ok err = takes_none out.bytes out.bytes_after (ready_line L ++ []) err
    by (Err ends.Ended) ok err = absurd err
    by (Err ends.ReadFault) ok err = absurd err
    by (Err ends.TooLong) ok err = absurd err
    by (Err (ends.SessionRefused fault)) ok err = absurd err
    by (Err (ends.BaseViolates mapping image session)) ok err = absurd err

-- ---- the stream

-- lines of commands may follow, or not
pub opened_more : (left left' : Option (List ℕ)) (before after : Kept) (o : Opening) → Opens left left' before after o → o.more ≡ true → HasOpened left left' before after o.text.items
opened_more left left' before after o h more = subst (λ (b : Bool). Opened b left left' before after o.text.items) more h

pub opened_whole : (left left' : Option (List ℕ)) (before after : Kept) (o : Opening) → Opens left left' before after o → o.more ≡ false → HasReadAll left left' o.text.items
opened_whole left left' before after o h more = subst (λ (b : Bool). Opened b left left' before after o.text.items) more h

-- with lines of commands after the session
pub serves_text : (budget : ℕ) (c : Settings) (text : List ℕ) (before kept : Kept) (e : LiveEnd) (source out : Change) (mid : Option (List ℕ)) (reads : ℕ) → before.room ≡ INPUT_LIMIT → HasOpened source.bytes mid before kept text → source.faults ≤ reads
    → Ends (of_lines (opened_with budget c (read text)) kept.bytes) kept.room e (since mid reads source) out → Serves budget c e source out
serves_text budget c text before kept e source out mid reads limit o later x =
    ends_since (of_stream budget c) (of_lines (opened_with budget c (read text)) kept.bytes) o.took [] INPUT_LIMIT kept.room source out mid out.bytes reads out.faults
    (record {
      at_end = λ more. ap (of_parts budget c (o.took ++ more)) (o.parts lines_of cuts_all more);
      so_far = λ more. ap (of_parts_so_far budget c) (o.parts whole_lines cuts_whole more);
    })
    o.taken (Appends-nil out.bytes) (o.room ∙ limit) later (omega arith) e x

-- a prefix of the replies to the session alone
alone_some : (budget : ℕ) (c : Settings) (text : List ℕ) (source out : Change) (r : HasReadAll source.bytes source.bytes_after text) → TakesSome out (opened_with budget c (read text) []).replies
    → TakesSome out (live budget c (r.took ++ left_of source.bytes_after)).replies
alone_some budget c text source out r some =
    subst (λ (l : List ℕ). TakesSome out (live budget c l).replies) (sym (ap (λ l. r.took ++ l) (none_left source.bytes_after r.end) ∙ append-nil r.took))
    (subst (λ (s : Served). TakesSome out s.replies) (sym (r.serves budget c)) some)

-- the session alone
pub serves_alone : (budget : ℕ) (c : Settings) (text : List ℕ) (e : LiveEnd) (source out : Change) → HasReadAll source.bytes source.bytes_after text → EndsAlone (opened_with budget c (read text) []) e out → Serves budget c e source out
serves_alone budget c text ends.Ended source out r a =
    (r.took, r.taken, r.few, subst (λ (s : Served). HasEnded s source out) (sym (r.serves budget c)) (a.0, subst (λ (x : Ending). IsOver x source.bytes_after) (sym a.1) r.end))
serves_alone budget c text ends.WriteFault source out r a = ((r.took, r.taken, r.few, alone_some budget c text source out r a.0), a.1)
serves_alone budget c text (ends.SessionRefused fault) source out r a =
    (r.took, r.taken, r.few, subst (λ (s : Served). StopsBy (RefusesSession (wrong_of fault)) s out) (sym (r.serves budget c)) a)
serves_alone budget c text (ends.BaseViolates mapping image session) source out r a = (
  r.took,
  r.taken,
  r.few,
  subst (λ (s : Served). StopsBy (violation (session_of session) mapping.items (map fact_of image.items)) s out) (sym (r.serves budget c)) a,
)
serves_alone budget c text ends.Memory source out r a = (r.took, r.taken, r.few, alone_some budget c text source out r a)
serves_alone budget c text ends.ReadFault source out r a = absurd a
serves_alone budget c text ends.TooLong source out r a = absurd a

-- no session part was whole
pub opens_not : (budget : ℕ) (c : Settings) (e : LineRefusal) (source : Change) (before : Kept) (taken : Option (List ℕ)) (writes : ℕ) → before.room ≡ INPUT_LIMIT → OpensNothing e source.bytes source.bytes_after before
    → (let r : Result Opening LineRefusal = Err e in r ≡ Err lines.ReadFault → Fails source) → Serves budget c (of_line_refusal e) source (unmoved taken writes)
opens_not budget c lines.ReadFault source before taken writes limit o fails =
    ((o.0, o.1, omega (arith, o.2, limit), subst (λ (p : Option Parted). StopsBy GoesOn (of_parts_so_far budget c p) (unmoved taken writes)) (sym o.3) (Appends-nil taken, refl)), fails refl)
opens_not budget c lines.TooLong source before taken writes limit o fails =
    (o.0, o.1, o.2, o.3 ∙ limit, subst (λ (p : Option Parted). StopsBy GoesOn (of_parts_so_far budget c p) (unmoved taken writes)) (sym o.4) (Appends-nil taken, refl))
opens_not budget c lines.Memory source before taken writes limit o fails =
    (o.0, o.1, omega (arith, o.2, limit), takes_none taken taken (live budget c (o.0 ++ left_of source.bytes_after)).replies (Keeps-refl taken))

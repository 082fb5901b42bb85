-- A run of a session to its end: how it begins, what it ends with, and that it tells what the serial machine tells.
use Rattle.std.proofs.Common.{◌≡◌, ◌∙◌, ap, refl, sym, subst, ℕ, zero, suc, ◌≤◌, true, false, List, [], ◌∷◌, ◌++◌, map, length, append-nil, None, arith}
use Rattle.std.specs.List.{list_all}
use Rattle.std.proofs.lemmas.List.{map-append}
use Rattle.def_machine.specs.Bounds.{admissions_in}
use Rattle.def_machine.specs.Effects.{Entry, Admitted, Stepped, Delivered, Answered, Withdrew}
use Rattle.def_machine.specs.Histories.{event_of}
use Rattle.def_machine.specs.History.{IsHistory}
use Rattle.def_machine.specs.Standings.{is_quiet}
use Rattle.def_machine.specs.Updates.{Settings}
use Rattle.def_machine.proofs.Theorem.{history_law}
use Rattle.def_chase.specs.Mappings.{Rule}
use Rattle.def_chase.specs.Repository.{IsRepository}
use Rattle.def_chase.proofs.Maps.{length_map}
use Rattle.def_steps.specs.Chase.{caused, caused_chase}
use Rattle.def_steps.specs.Serial.{Request}
use Rattle.def_steps.proofs.ChaseLaws.{chase_laws}
use Rattle.def_history.specs.Cores.{Ground, machine, session_over, entries_over, updates_after, IsLegalOver}
use Rattle.def_history.specs.Histories.{submissions}
use Rattle.def_history.specs.PlainEntries.{PlainEntry, WasAdmitted, WasStepped, WasDelivered, WasAnswered, WasWithdrawn, plain_entry}
use Rattle.def_history.proofs.Keeping.{left_by}
use Rattle.def_language.specs.Sessions.{SessionData}
use Rattle.def_language.specs.Validity.{IsSession}
use Rattle.lang_session.specs.Base.{base_violation}
use Rattle.lang_session.specs.Meanings.{request_of, requests_in}
use Rattle.chase_update.specs.Results.{result_in}
use Rattle.chase_update.specs.declared.results.SessionResult.{SessionResult}
use Rattle.run_serial.specs.Meanings.{IsSerialRun}
use Rattle.core_laws.proofs.Checked.{checked_is_admissible, whole_is_serial}
use Rattle.def_record.specs.Headline as headline
use Rattle.core_laws.specs.Laws.{AreRecorded}
use Rattle.work_desk.specs.Closing.{IsWhole, Ends}
use Rattle.core_engine.specs.Results.{IsResultOf}
use Rattle.core_engine.specs.States.{State, ground_of, admissions_from, opened}
use Rattle.work_stale.proofs.Showing.{plain_kept}
use Rattle.work_session.specs.Runs.{is_move, IsRunOf, IsWorked}

-- ---- admissions, and moves after them

module _ (g : Ground) where
  -- Moves are recorded, and admit nothing.
  moves_recorded : (H : List PlainEntry) → list_all is_move H ≡ true → AreRecorded g H
  moves_recorded [] h = refl
  moves_recorded (WasAdmitted i ∷ H) h = let never : false ≡ true = h in cc
  moves_recorded (WasStepped e ∷ H) h = moves_recorded H h
  moves_recorded (WasDelivered e ∷ H) h = moves_recorded H h
  moves_recorded (WasAnswered e ∷ H) h = let never : false ≡ true = h in cc
  moves_recorded (WasWithdrawn e ∷ H) h = let never : false ≡ true = h in cc

  moves_admit : (H : List PlainEntry) → list_all is_move H ≡ true → admissions_in (entries_over g H) ≡ 0
  moves_admit [] h = refl
  moves_admit (WasAdmitted i ∷ H) h = let never : false ≡ true = h in cc
  moves_admit (WasStepped e ∷ H) h = let rest = moves_admit H h in omega (arith, rest)
  moves_admit (WasDelivered e ∷ H) h = let rest = moves_admit H h in omega (arith, rest)
  moves_admit (WasAnswered e ∷ H) h = let never : false ≡ true = h in cc
  moves_admit (WasWithdrawn e ∷ H) h = let never : false ≡ true = h in cc

  -- So are admissions, and each admits one.
  pub all_recorded : (n k : ℕ) (H : List PlainEntry) → list_all is_move H ≡ true → AreRecorded g (admissions_from n k ++ H)
  all_recorded n zero H h = moves_recorded H h
  all_recorded n (suc k) H h = all_recorded (suc n) k H h

  all_admit : (n k : ℕ) (H : List PlainEntry) → list_all is_move H ≡ true → admissions_in (entries_over g (admissions_from n k ++ H)) ≡ k
  all_admit n zero H h = moves_admit H h
  all_admit n (suc k) H h = let rest = all_admit (suc n) k H h in omega (arith, rest)

  -- As many updates are left as were admitted.
  pub updates_left : (K : List PlainEntry) (k : ℕ) (H : List PlainEntry) → 1 ≤ g.budget → IsRepository g.base → IsLegalOver g K → K ≡ admissions_from 1 k ++ H → list_all is_move H ≡ true → length (updates_after g K) ≡ k
  updates_left K k H some sorted legal begins alone =
      let h : IsHistory (machine g) g.settings (session_over g) (record { updates = updates_after g K; entries = entries_over g K }) =
      history_law (machine g) (chase_laws caused g.rules g.budget some) g.settings (session_over g) (map event_of (entries_over g K)) (record { updates = updates_after g K; entries = entries_over g K }) sorted legal in
      sym h.admissions ∙ ap (λ (L : List PlainEntry). admissions_in (entries_over g L)) begins ∙ all_admit 1 k H alone

-- ---- the beginning

-- The history's session has as many updates as the session that was read.
same_length : (s : SessionData) (budget : ℕ) (c : Settings) → length s.updates ≡ length (session_over (ground_of s budget c)).submissions
same_length s budget c =
    let g : Ground = ground_of s budget c in
    sym (ap (λ (rs : List Request). length (submissions g.rules budget rs)) (append-nil (requests_in s))
    ∙ length_map _ (requests_in s) ∙ length_map request_of s.updates)

-- A core to which the whole session was just admitted.
begins_whole : (s : SessionData) (budget : ℕ) (c : Settings) (n : ℕ) → IsSession s → base_violation s ≡ None → n ≡ length s.updates → 1 ≤ budget → IsRepository s.base
    → IsLegalOver (ground_of s budget c) (admissions_from 1 n) → IsWhole (ground_of s budget c) (admissions_from 1 n)
begins_whole s budget c n valid meets count some sorted legal =
    let g : Ground = ground_of s budget c in
    let H : List PlainEntry = admissions_from 1 n in
    record {
      fit = checked_is_admissible budget s valid meets some;
      recorded = subst (AreRecorded g) (append-nil H) (all_recorded g 1 n [] refl);
      all = updates_left g H n [] some sorted legal (sym (append-nil H)) refl ∙ count ∙ same_length s budget c;
    }

-- ---- the end

module _ (ms : List Rule) (B : ℕ) where
  -- Moves of the machine are moves as plain data.
  moves_plain : (es : List (Entry (caused_chase ms B))) → list_all headline.is_move es ≡ true → list_all is_move (map (plain_entry ms B) es) ≡ true
  moves_plain [] h = refl
  moves_plain (Admitted i ∷ es) h = let never : false ≡ true = h in cc
  moves_plain (Stepped d ∷ es) h = moves_plain es h
  moves_plain (Delivered i s ∷ es) h = moves_plain es h
  moves_plain (Answered i c s ∷ es) h = let never : false ≡ true = h in cc
  moves_plain (Withdrew i cs n ∷ es) h = let never : false ≡ true = h in cc

-- What the desk says of the end, of histories as plain data.
ends_run : (s : SessionData) (budget : ℕ) (c : Settings) (n : ℕ) (K : List PlainEntry) → n ≡ length s.updates → Ends (ground_of s budget c) (admissions_from 1 n) K → IsRunOf s budget c K
ends_run s budget c n K count e =
    let g : Ground = ground_of s budget c in
    let H : List PlainEntry = admissions_from 1 n in
    let plain : Entry (machine g) → PlainEntry = plain_entry g.rules g.budget in
    let left = left_by g K e.ends.updates e.ends.legal in
    let begins : K ≡ H ++ map plain e.ends.later =
    sym (plain_kept g.rules g.budget K) ∙ ap (map plain) e.ends.begins ∙ map-append plain (entries_over g H) e.ends.later
    ∙ ap (λ (L : List PlainEntry). L ++ map plain e.ends.later) (plain_kept g.rules g.budget H) in
    record {
      legal = left.legal;
      moves = map plain e.ends.later;
      begins = begins ∙ ap (λ k. admissions_from 1 k ++ map plain e.ends.later) count;
      alone = moves_plain g.rules g.budget e.ends.later e.ends.moves;
      quiet = ap (is_quiet (machine g) c) left.leaves ∙ e.ends.quiet;
    }

-- From the opened core to the one that the workers leave, where x went to the desk and y came back.
pub has_worked : (s : SessionData) (budget : ℕ) (c : Settings) (n : ℕ) (a x y b : State) → IsSession s → base_violation s ≡ None → n ≡ length s.updates → a ≡ opened s budget c n
    → 1 ≤ a.over.budget → IsRepository a.over.base → IsLegalOver a.over a.history → x ≡ a → b ≡ y → y.over ≡ x.over → (IsWhole x.over x.history → Ends x.over x.history y.history) → IsWorked s budget c b
has_worked s budget c n a x y b valid meets count e some sorted legal went back over ends =
    let g : Ground = ground_of s budget c in
    let H : List PlainEntry = admissions_from 1 n in
    let whole : IsWhole g H =
    begins_whole s budget c n valid meets count (subst (λ (z : State). 1 ≤ z.over.budget) e some) (subst (λ (z : State). IsRepository z.over.base) e sorted)
    (subst (λ (z : State). IsLegalOver z.over z.history) e legal) in
    let ended : IsWhole g H → Ends g H y.history = subst (λ (z : State). IsWhole z.over z.history → Ends z.over z.history y.history) (went ∙ e) ends in
    record {
      valid = valid;
      met = meets;
      over = ap (λ (z : State). z.over) back ∙ over ∙ ap (λ (z : State). z.over) (went ∙ e);
      run = subst (λ (z : State). IsRunOf s budget c z.history) (sym back) (ends_run s budget c n y.history count (ended whole));
    }

-- ---- what is told

-- What is told of the core is what the serial machine tells of the session.
pub worked_serially : (s : SessionData) (budget : ℕ) (c : Settings) (core : State) (r : SessionResult) → 1 ≤ core.over.budget → IsRepository core.over.base → IsWorked s budget c core → IsResultOf core r → IsSerialRun budget s r
worked_serially s budget c core r some sorted w told =
    let g : Ground = ground_of s budget c in
    let K : List PlainEntry = core.history in
    let last : State = record { over = g; history = K; relations = core.relations } in
    let same : core ≡ last = (λ i. record { over = w.over i; history = core.history; relations = core.relations }) in
    let some_there : 1 ≤ budget = subst (λ (x : State). 1 ≤ x.over.budget) same some in
    let sorted_there : IsRepository s.base = subst (λ (x : State). IsRepository x.over.base) same sorted in
    let telling : IsResultOf last r = subst (λ (x : State). IsResultOf x r) same told in
    telling ∙ sym (ap result_in (whole_is_serial budget c s (entries_over g K) (updates_after g K) w.valid w.met some_there w.run.legal record {
      recorded = subst (AreRecorded g) (sym w.run.begins) (all_recorded g 1 (length s.updates) w.run.moves w.run.alone);
      admitted = updates_left g K (length s.updates) w.run.moves some_there sorted_there w.run.legal w.run.begins w.run.alone;
      quiet = w.run.quiet;
    }))

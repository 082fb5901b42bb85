-- A history that begins with the admissions of all updates, and goes on by steps and deliveries.
use Rattle.std.specs.Prelude.{slice_get, ◌⊎◌}
use Rattle.std.proofs.Common.{◌≡◌, ℕ, zero, suc, ◌+◌, ◌≤◌, ◌<◌, ap, refl, sym, ◌∙◌, subst, List, [], ◌∷◌, ◌++◌, map, length, length-append, true, Some, arith, inl, inr}
use Rattle.std.specs.List.{list_all}
use Rattle.std.proofs.lemmas.Bool.{and_parts}
use Rattle.audit_claims.specs.Claimed.{told_by}
use Rattle.core_engine.specs.States.{admissions_from}
use Rattle.def_language.specs.Sessions.{SessionData}
use Rattle.def_history.specs.Cores.{Ground, entries_over}
use Rattle.def_history.specs.PlainEntries.{PlainEntry, WasAdmitted, WasStepped, WasDelivered, WasAnswered, WasWithdrawn}
use Rattle.def_machine.specs.Histories.{event_of}
use Rattle.def_machine.specs.Recorded.{is_recorded}
use Rattle.def_machine.specs.Updates.{Settings}
use Rattle.def_chase.proofs.Bools.{differ, none_some, some_same}
use Rattle.def_chase.proofs.Maps.{length_map}
use Rattle.work_session.specs.Runs.{IsRunOf, is_move}
use Rattle.lang_session.specs.Meanings.{request_of}
use Rattle.audit_claims.specs.Verdicts.{AdmitsFirst, IsHistory, IsTurn, trial_of}

move_at : (ms : List PlainEntry) (k : ℕ) (e : PlainEntry) → list_all is_move ms ≡ true → slice_get ms k ≡ Some e → is_move e ≡ true
move_at [] k e all h = absurd (none_some e h)
move_at (x ∷ ms) zero e all h = subst (λ (y : PlainEntry). is_move y ≡ true) (some_same x e h) (and_parts (is_move x) (list_all is_move ms) all).0
move_at (x ∷ ms) (suc k) e all h = move_at ms k e (and_parts (is_move x) (list_all is_move ms) all).1 h

-- An entry is one of the admissions, in order, or stands after them.
part_at : (m n k : ℕ) (ms : List PlainEntry) (e : PlainEntry) → list_all is_move ms ≡ true → slice_get (admissions_from (suc m) n ++ ms) k ≡ Some e
    → ((k < n) × (e ≡ WasAdmitted (suc (m + k)))) ⊎ ((n ≤ k) × (is_move e ≡ true))
part_at m zero k ms e all h = inr (omega arith, move_at ms k e all h)
part_at m (suc n) zero ms e all h =
    let here : suc m ≡ suc (m + zero) = omega arith in
    inl (omega arith, sym (some_same (WasAdmitted (suc m)) e h) ∙ ap WasAdmitted here)
part_at m (suc n) (suc k) ms e all h = elim (part_at (suc m) n k ms e all h) [
  | inl p ↦ let further : suc (suc m + k) ≡ suc (m + suc k) = omega arith in let low : suc k < suc n = (let b = p.0 in omega (arith, b)) in inl (low, p.1 ∙ ap WasAdmitted further)
  | inr p ↦ let high : suc n ≤ suc k = (let b = p.0 in omega (arith, b)) in inr (high, p.1)
]

move_turn : (g : Ground) (k : ℕ) (e : PlainEntry) → length g.requests ≤ k → is_move e ≡ true → IsTurn g k (told_by e)
move_turn g k (WasAdmitted u) h m = differ m
move_turn g k (WasStepped e) h m = h
move_turn g k (WasDelivered e) h m = h
move_turn g k (WasAnswered e) h m = differ m
move_turn g k (WasWithdrawn e) h m = differ m

count_admissions : (m n : ℕ) → length (admissions_from m n) ≡ n
count_admissions m zero = refl
count_admissions m (suc n) = ap suc (count_admissions (suc m) n)

module _ (s : SessionData) (B : ℕ) (c : Settings) (H : List PlainEntry) (r : IsRunOf s B c H) where
  count : length (trial_of s B c).over.requests ≡ length s.updates
  count = length_map request_of s.updates

  first : AdmitsFirst (trial_of s B c).over H
  first k e h = elim (part_at 0 (length s.updates) k r.moves e r.alone (ap (λ (es : List PlainEntry). slice_get es k) (sym r.begins) ∙ h)) [
    | inl p ↦ subst (λ (x : PlainEntry). IsTurn (trial_of s B c).over k (told_by x)) (sym p.1) ((let b = p.0 in omega (arith, b, count)), omega arith)
    | inr p ↦ move_turn (trial_of s B c).over k e (let b = p.0 in omega (arith, b, count)) p.1
  ]

  pub history : IsHistory (trial_of s B c).over H
  history = record { legal = r.legal; first = first }

  pub admitted : length (trial_of s B c).over.requests ≤ length H
  admitted =
      let whole : length H ≡ length s.updates + length r.moves = ap length r.begins ∙ length-append (admissions_from 1 (length s.updates)) r.moves ∙ ap (λ n. n + length r.moves) (count_admissions 1 (length s.updates)) in
      omega (arith, whole, count)

  moves_recorded : (ms : List PlainEntry) → list_all is_move ms ≡ true → list_all is_recorded (map event_of (entries_over (trial_of s B c).over ms)) ≡ true
  moves_recorded [] all = refl
  moves_recorded (WasAdmitted u ∷ ms) all = differ all
  moves_recorded (WasStepped e ∷ ms) all = moves_recorded ms all
  moves_recorded (WasDelivered e ∷ ms) all = moves_recorded ms all
  moves_recorded (WasAnswered e ∷ ms) all = differ all
  moves_recorded (WasWithdrawn e ∷ ms) all = differ all

  all_recorded : (m n : ℕ) (ms : List PlainEntry) → list_all is_move ms ≡ true → list_all is_recorded (map event_of (entries_over (trial_of s B c).over (admissions_from m n ++ ms))) ≡ true
  all_recorded m zero ms all = moves_recorded ms all
  all_recorded m (suc n) ms all = all_recorded (suc m) n ms all

  pub recorded : list_all is_recorded (map event_of (entries_over (trial_of s B c).over H)) ≡ true
  recorded = subst (λ (es : List PlainEntry). list_all is_recorded (map event_of (entries_over (trial_of s B c).over es)) ≡ true) (sym r.begins) (all_recorded 1 (length s.updates) r.moves r.alone)

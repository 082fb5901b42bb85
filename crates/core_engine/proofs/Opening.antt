-- The admissions of all updates of a session are a legal history.
use Rattle.std.proofs.Common.{◌≡◌, ◌∙◌, ap, refl, sym, subst, ℕ, zero, suc, ◌≤◌, ◌+◌, Some, List, [], ◌∷◌, ◌++◌, append-nil, map, length, arith}
use Rattle.std.specs.Prelude.{option_map, slice_get}
use Rattle.core_entries.specs.Meanings.{entry_of}
use Rattle.core_entries.specs.declared.entries.Entry.{Entry}
use Rattle.core_entries.specs.declared.entries.Entry.TheVariants.{Admitted as AdmittedEntry}
use Rattle.def_history.specs.Cores.{Ground, machine, session_over, effect_after}
use Rattle.def_history.specs.CoreLaws.{Leave}
use Rattle.def_history.specs.PlainEntries.{PlainEntry, WasAdmitted, plain_entry}
use Rattle.def_history.proofs.Keeping.{histories_are_kept}
use Rattle.def_machine.specs.Machine.{Machine}
use Rattle.def_machine.specs.Effects.{Admits, Effect, admit_effect, admitted, effect}
use Rattle.def_machine.specs.Updates.{Submission, Update, trail}
use Rattle.def_chase.specs.Mappings.{Rule}
use Rattle.def_chase.specs.Repository.{Change}
use Rattle.def_chase.specs.Values.{Fact}
use Rattle.def_steps.specs.Chase.{caused_chase}
use Rattle.core_queue.specs.Queues.{StandsAt, AreFrom}
use Rattle.core_queue.specs.declared.updates.QueuedUpdate.{QueuedUpdate}
use Rattle.set_versions.specs.Standing.{Kept, StandFor}
use Rattle.set_versions.specs.Trails.{no_trails, numbered, trail_at}
use Rattle.core_engine.specs.Admitted.{admitted_from}
use Rattle.core_engine.specs.Kept.{HaveTrails}
use Rattle.core_engine.specs.States.{admissions_from}

-- ---- one more

pub one_entry : (n k : ℕ) → admissions_from n k ++ WasAdmitted (n + k) ∷ [] ≡ admissions_from n (suc k)
one_entry n zero = let same : n + 0 ≡ n = omega arith in ap (λ m. WasAdmitted m ∷ []) same
one_entry n (suc k) = let same : n + suc k ≡ suc n + k = omega arith in ap (λ es. WasAdmitted n ∷ es) (ap (λ m. admissions_from (suc n) k ++ WasAdmitted m ∷ []) same ∙ one_entry (suc n) k)

one_update : (M : Machine) (n : ℕ) (xs : List (Submission M)) (x : Submission M) → admitted_from M n xs ++ admitted M (n + length xs) x ∷ [] ≡ admitted_from M n (xs ++ x ∷ [])
one_update M n [] x = let same : n + 0 ≡ n = omega arith in ap (λ m. admitted M m x ∷ []) same
one_update M n (y ∷ xs) x = let same : n + suc (length xs) ≡ suc n + length xs = omega arith in ap (λ us. admitted M n y ∷ us) (ap (λ m. admitted_from M (suc n) xs ++ admitted M m x ∷ []) same ∙ one_update M (suc n) xs x)

pub admitted_long : (M : Machine) (n : ℕ) (xs : List (Submission M)) → length (admitted_from M n xs) ≡ length xs
admitted_long M n [] = refl
admitted_long M n (x ∷ xs) = ap suc (admitted_long M (suc n) xs)

next_is : {A : Type 0} (xs : List A) (x : A) (ys : List A) → slice_get (xs ++ x ∷ ys) (length xs) ≡ Some x
next_is [] x ys = refl
next_is (z ∷ xs) x ys = next_is xs x ys

pub one_longer : {A : Type 0} (xs : List A) (x : A) → length (xs ++ x ∷ []) ≡ suc (length xs)
one_longer [] x = refl
one_longer (y ∷ xs) x = ap suc (one_longer xs x)

regroup : {A : Type 0} (xs : List A) (x : A) (ys : List A) → (xs ++ x ∷ []) ++ ys ≡ xs ++ x ∷ ys
regroup [] x ys = refl
regroup (z ∷ xs) x ys = ap (λ zs. z ∷ zs) (regroup xs x ys)

next_number : (n : ℕ) → suc n ≡ 1 + n
next_number n = omega arith

-- ---- all of them

module _ (g : Ground) (some : 1 ≤ g.budget) where
  one_more : (before : List (Submission (machine g))) (x : Submission (machine g)) (rest : List (Submission (machine g))) → (session_over g).submissions ≡ before ++ x ∷ rest
      → Leave g (admissions_from 1 (length before)) (admitted_from (machine g) 1 before) → Leave g (admissions_from 1 (length (before ++ x ∷ []))) (admitted_from (machine g) 1 (before ++ x ∷ []))
  one_more before x rest all h =
      let us : List (Update (machine g)) = admitted_from (machine g) 1 before in
      let y : Effect (machine g) = admit_effect (machine g) us x in
      let long : length us ≡ length before = admitted_long (machine g) 1 before in
      let next : slice_get (session_over g).submissions (length us) ≡ Some x = (λ i. slice_get (all i) (long i)) ∙ next_is before x rest in
      let allowed : effect_after g (admissions_from 1 (length before)) Admits ≡ Some y =
      ap (λ (ws : List (Update (machine g))). effect (machine g) g.settings (session_over g) ws Admits) h.leaves ∙ ap (option_map (admit_effect (machine g) us)) next in
      let more : Leave g (admissions_from 1 (length before) ++ plain_entry g.rules g.budget y.entry ∷ []) y.updates = (histories_are_kept g some).grows (admissions_from 1 (length before)) Admits y h.legal allowed in
      let entries : admissions_from 1 (length before) ++ WasAdmitted (suc (length us)) ∷ [] ≡ admissions_from 1 (length (before ++ x ∷ [])) =
      ap (λ m. admissions_from 1 (length before) ++ WasAdmitted (suc m) ∷ []) long ∙ ap (λ m. admissions_from 1 (length before) ++ WasAdmitted m ∷ []) (next_number (length before)) ∙ one_entry 1 (length before) ∙ ap (admissions_from 1) (sym (one_longer before x)) in
      let updates : us ++ admitted (machine g) (suc (length us)) x ∷ [] ≡ admitted_from (machine g) 1 (before ++ x ∷ []) =
      ap (λ m. us ++ admitted (machine g) (suc m) x ∷ []) long ∙ ap (λ m. us ++ admitted (machine g) m x ∷ []) (next_number (length before)) ∙ one_update (machine g) 1 before x in
      subst (λ H. Leave g H (admitted_from (machine g) 1 (before ++ x ∷ []))) entries
      (subst (λ (ws : List (Update (machine g))). Leave g (admissions_from 1 (length before) ++ WasAdmitted (suc (length us)) ∷ []) ws) updates more)

  all_more : (before rest : List (Submission (machine g))) → (session_over g).submissions ≡ before ++ rest
      → Leave g (admissions_from 1 (length before)) (admitted_from (machine g) 1 before) → Leave g (admissions_from 1 (length (before ++ rest))) (admitted_from (machine g) 1 (before ++ rest))
  all_more before [] all h =
      subst (λ (xs : List (Submission (machine g))). Leave g (admissions_from 1 (length xs)) (admitted_from (machine g) 1 xs)) (sym (append-nil before)) h
  all_more before (x ∷ rest) all h =
      subst (λ (xs : List (Submission (machine g))). Leave g (admissions_from 1 (length xs)) (admitted_from (machine g) 1 xs)) (regroup before x rest)
      (all_more (before ++ x ∷ []) rest (all ∙ sym (regroup before x rest)) (one_more before x rest all h))

  -- Their entries leave all the updates, just admitted.
  pub all_admitted : (xs : List (Submission (machine g))) → (session_over g).submissions ≡ xs → Leave g (admissions_from 1 (length xs)) (admitted_from (machine g) 1 xs)
  all_admitted xs all = all_more [] xs all (histories_are_kept g some).empty

-- ---- versions

module _ (ms : List Rule) (B : ℕ) where
  nothing_yet : (n : ℕ) (xs : List (Submission (caused_chase ms B))) (k : ℕ) → trail_at (trail (caused_chase ms B)) (slice_get (admitted_from (caused_chase ms B) n xs) k) ≡ []
  nothing_yet n [] k = refl
  nothing_yet n (x ∷ xs) zero = refl
  nothing_yet n (x ∷ xs) (suc k) = nothing_yet (suc n) xs k

  no_writes_yet : (xs : List (Submission (caused_chase ms B))) (k : ℕ) → numbered (trail (caused_chase ms B)) (admitted_from (caused_chase ms B) 1 xs) k ≡ []
  no_writes_yet xs zero = refl
  no_writes_yet xs (suc k) = nothing_yet 1 xs k

  -- No update has written.
  pub versions_begin : (D : List Fact) (xs : List (Submission (caused_chase ms B))) (v : Kept) → StandFor v D no_trails → HaveTrails ms B D (admitted_from (caused_chase ms B) 1 xs) v
  versions_begin D xs v h = subst (λ (ts : ℕ → List Change). StandFor v D ts) (sym (λ i k. no_writes_yet xs k i)) h

-- ---- queued updates

-- One more queued update after those from number n on.
pub from_more : (n : ℕ) (rs : List QueuedUpdate) (r : QueuedUpdate) → AreFrom n rs → StandsAt (n + length rs) r → AreFrom n (rs ++ r ∷ [])
from_more n [] r a s = let same : n + 0 ≡ n = omega arith in (subst (λ (m : ℕ). StandsAt m r) same s, tt)
from_more n (q ∷ rs) r a s = let same : n + suc (length rs) ≡ suc n + length rs = omega arith in (a.0, from_more (suc n) rs r a.1 (subst (λ (m : ℕ). StandsAt m r) same s))

-- ---- loops

mapped_more : (xs : List Entry) (y : Entry) → map entry_of (xs ++ y ∷ []) ≡ map entry_of xs ++ entry_of y ∷ []
mapped_more [] y = refl
mapped_more (z ∷ xs) y = ap (λ zs. entry_of z ∷ zs) (mapped_more xs y)

pub one_admission : (es es' : List Entry) (i : ℕ) → map entry_of es ≡ admissions_from 1 i → es' ≡ es ++ AdmittedEntry (i + 1) ∷ [] → map entry_of es' ≡ admissions_from 1 (i + 1)
one_admission es es' i h e =
    let one : i + 1 ≡ 1 + i = omega arith in
    let next : suc i ≡ i + 1 = omega arith in
    ap (map entry_of) e ∙ mapped_more es (AdmittedEntry (i + 1)) ∙ ap (λ (fs : List PlainEntry). fs ++ WasAdmitted (i + 1) ∷ []) h
    ∙ ap (λ m. admissions_from 1 i ++ WasAdmitted m ∷ []) one ∙ one_entry 1 i ∙ ap (admissions_from 1) next

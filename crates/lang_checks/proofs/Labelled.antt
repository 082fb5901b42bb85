-- The update of a label, and an answer to it.
use Rattle.std.proofs.Common.{◌≡◌, ◌∙◌, ℕ, zero, suc, ◌+◌, ◌<◌, ◌≤◌, true, false, List, [], ◌∷◌, length, Some, refl, sym, ap, arith}
use Rattle.std.specs.Prelude.{slice_get, slice_set, nat_le, Result, Ok, Err}
use Rattle.std.proofs.lemmas.Bool.Decides.{nat_tests}
use Rattle.def_chase.specs.Updates.{Choice}
use Rattle.def_language.specs.Names.{Name, place_of}
use Rattle.def_language.specs.Faults.{Kind, LimitReached}
use Rattle.def_language.specs.declared.Which.TheVariants as limit
use Rattle.def_language.specs.Statements.{WrittenChoice}
use Rattle.def_language.specs.Sessions.{SessionData, SessionUpdate, answer_count, labels, most_answers}
use Rattle.def_language.specs.Checks.{add_answer, answered, choice_of, with_answer}
use Rattle.lang_checks.specs.declared.refusals.TakeRefusal.{TakeRefusal}
use Rattle.lang_checks.specs.Answers.{Refuses}
use Rattle.lang_checks.proofs.Carried.{carried}

there : {A : Type 0} (xs : List A) (i : ℕ) → i < length xs → (x : A) × (slice_get xs i ≡ Some x)
there [] i lt = absurd (omega arith)
there (x ∷ xs) zero lt = (x, refl)
there (x ∷ xs) (suc i) lt = there xs i (omega arith)

-- an answer to an update that is there
found : (s : SessionData) (n : Name) (written : WrittenChoice) (i : ℕ) → i ≡ place_of (labels s.updates) n → i < length s.updates → (u : SessionUpdate) × (slice_get s.updates i ≡ Some u) × (add_answer s n written ≡ answered s n written i (Some u))
unfolding add_answer
found s n written i place lt = let u = there s.updates i lt in (u.0, u.1, rw (← place, u.1) refl)

-- there is no room for one more answer
pub no_room : (s : SessionData) (n : Name) (written : WrittenChoice) (i most count : ℕ) → i ≡ place_of (labels s.updates) n → i < length s.updates → most ≡ most_answers s.format → count ≡ answer_count s.updates → most ≤ count → add_answer s n written ≡ Err (LimitReached limit.Answers)
no_room s n written i most count place lt m a full =
    let test : nat_le (most_answers s.format) (answer_count s.updates) ≡ true = rw (← m, ← a) (le_test most count full) in
    (found s n written i place lt).2 ∙ rw test refl
  where
    le_test : (x y : ℕ) → x ≤ y → nat_le x y ≡ true
    le_test x y le = grind (arith, nat_tests)

-- there is
few : (s : SessionData) (most count : ℕ) → most ≡ most_answers s.format → count ≡ answer_count s.updates → count < most → nat_le (most_answers s.format) (answer_count s.updates) ≡ false
few s most count m a lt = rw (← m, ← a) (test most count lt) where
  test : (x y : ℕ) → y < x → nat_le x y ≡ false
  test x y below = grind (arith, nat_tests)

-- the answer does not pass
pub refused : (s : SessionData) (n : Name) (written : WrittenChoice) (i most count : ℕ) (e : TakeRefusal) → i ≡ place_of (labels s.updates) n → i < length s.updates → most ≡ most_answers s.format → count ≡ answer_count s.updates → count < most
    → Refuses e (choice_of s.relations (i + 1) written) → Refuses e (add_answer s n written)
refused s n written i most count e place lt m a room fault = carried e (choice_of s.relations (i + 1) written) (add_answer s n written) (λ k f. (found s n written i place lt).2 ∙ rw (few s most count m a room, f) refl) fault

-- the answer passes
pub passed : (s : SessionData) (n : Name) (written : WrittenChoice) (i most count : ℕ) (choice : Choice) (new : List SessionUpdate) → i ≡ place_of (labels s.updates) n → i < length s.updates → most ≡ most_answers s.format → count ≡ answer_count s.updates → count < most
    → choice_of s.relations (i + 1) written ≡ Ok choice → ((u : SessionUpdate) → slice_get s.updates i ≡ Some u → new ≡ slice_set s.updates i (with_answer u choice)) → add_answer s n written ≡ Ok (record s { updates = new })
passed s n written i most count choice new place lt m a room chosen changed =
    let u = found s n written i place lt in
    u.2 ∙ rw (few s most count m a room, chosen) (ap (λ (us : List SessionUpdate). let r : Result SessionData Kind = Ok (record s { updates = us }) in r) (sym (changed u.0 u.1)))

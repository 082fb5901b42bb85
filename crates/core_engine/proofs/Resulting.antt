-- What is told of a core is told of its updates, and a core that was opened and drained has come to what the serial machine comes to.
use Rattle.std.proofs.Common.{◌≡◌, ◌∙◌, ap, sym, refl, subst, ℕ, zero, suc, ◌≤◌, true, Some, None, List, map, length, arith}
use Rattle.std.specs.Prelude.{Result, Ok, Err, IfOk, OnOk}
use Rattle.def_machine.specs.Bounds.{admissions_in}
use Rattle.def_machine.specs.Histories.{event_of}
use Rattle.def_machine.specs.Serial.{first_stop}
use Rattle.def_machine.specs.Updates.{Settings, Update, below, committed}
use Rattle.def_machine.proofs.Theorem.{history_law}
use Rattle.def_chase.specs.Mappings.{Rule}
use Rattle.def_chase.specs.Repository.{IsRepository}
use Rattle.def_chase.specs.Values.{Fact, outer}
use Rattle.base_types.specs.Contents.{facts_of}
use Rattle.base_types.specs.Listed.{Listed}
use Rattle.base_types.specs.declared.tuples.Tuple.{Tuple}
use Rattle.core_laws.proofs.Growing.{live_is_serial}
use Rattle.def_steps.specs.Serial.{SerialResult, answered}
use Rattle.core_engine.specs.Lives.{CameOf, serially_left}
use Rattle.def_steps.specs.Chase.{caused}
use Rattle.def_steps.proofs.ChaseLaws.{chase_laws}
use Rattle.def_history.specs.AnyOrder.{tells}
use Rattle.def_history.specs.Cores.{Ground, machine, session_over, entries_over, updates_after, IsLegalOver}
use Rattle.def_history.specs.PlainEntries.{PlainEntry}
use Rattle.def_language.specs.Sessions.{RelationSchema, SessionData}
use Rattle.def_language.specs.Validity.{IsSession}
use Rattle.lang_session.specs.Base.{base_violation}
use Rattle.chase_update.specs.Results.{result_in}
use Rattle.chase_update.specs.declared.results.SessionResult.{SessionResult}
use Rattle.run_serial.specs.Meanings.{IsSerialRun}
use Rattle.core_queue.specs.declared.updates.QueuedUpdate.{QueuedUpdate}
use Rattle.set_versions.specs.Standing.{Kept}
use Rattle.core_result.specs.Told.{AreLeft, Tells, AreVersionsOf}
use Rattle.core_laws.specs.Turns.{after_turns}
use Rattle.core_laws.specs.Laws.{AreRecorded, IsAdmitted, over}
use Rattle.core_laws.proofs.Turning.{drained_law}
use Rattle.core_engine.specs.Drained.{HasTurned}
use Rattle.core_engine.specs.Kept.{IsKept}
use Rattle.core_engine.specs.Results.{IsResultOf}
use Rattle.core_engine.specs.States.{State, admissions_from, opened, is_quiet_at}

-- The versions of a core are those of its queue.
versions_of : (g : Ground) (v : Kept) (rs : List QueuedUpdate) (H : List PlainEntry) → IsKept g v rs H → AreVersionsOf g.rules g.budget g.base rs v
versions_of g v rs H k = record { sorted = k.sorted; stand = k.versions }

-- What is told of the queue is told of the updates of the history.
tells_of : {R : List RelationSchema} (g : Ground) (v : Kept) (rs : List QueuedUpdate) (H : List PlainEntry) (s : State) (r : SessionResult) → IsKept g v rs H → record { over = g; history = H; relations = R } ≡ s → Tells g.rules g.budget g.base rs r → IsResultOf s r
tells_of g v rs H s r k same t =
    subst (λ (x : State). IsResultOf x r) same
    (t (session_over g) refl
    ∙ ap (λ (us : List (Update (machine g))). result_in (tells g.rules g.budget (session_over g) us (first_stop (machine g) 1 us))) (sym k.left.leaves))

-- So it is of what lies in the core.
pub result_told : {R : List RelationSchema} (g : Ground) (v : Kept) (rs : List QueuedUpdate) (H : List PlainEntry) (s : State) (qs : List QueuedUpdate) (r : SessionResult) → IsKept g v rs H → record { over = g; history = H; relations = R } ≡ s → qs ≡ rs
    → ((ms : List Rule) (B : ℕ) (D : List Fact) → AreVersionsOf ms B D qs v → Tells ms B D qs r) → IsResultOf s r
result_told g v rs H s qs r k same e t =
    tells_of g v rs H s r k same
    (subst (λ (xs : List QueuedUpdate). Tells g.rules g.budget g.base xs r) e
    (t g.rules g.budget g.base (subst (λ (xs : List QueuedUpdate). AreVersionsOf g.rules g.budget g.base xs v) (sym e) (versions_of g v rs H k))))

-- If a core's history came of a session, what is left of the queue is what the serial machine leaves of the committed updates.
pub left_serially : {R : List RelationSchema} (g : Ground) (v : Kept) (rs : List QueuedUpdate) (H : List PlainEntry) (s : State) (qs : List QueuedUpdate) (ts : Listed Tuple) → CameOf R g → IsKept g v rs H → record { over = g; history = H; relations = R } ≡ s → qs ≡ rs
    → ((ms : List Rule) (B : ℕ) (D : List Fact) → AreVersionsOf ms B D qs v → AreLeft ms B D qs ts) → facts_of ts ≡ serially_left s
left_serially g v rs H s qs ts came k same e t =
    let left : AreLeft g.rules g.budget g.base rs ts =
    subst (λ (xs : List QueuedUpdate). AreLeft g.rules g.budget g.base xs ts) e
    (t g.rules g.budget g.base (subst (λ (xs : List QueuedUpdate). AreVersionsOf g.rules g.budget g.base xs v) (sym e) (versions_of g v rs H k))) in
    let after : facts_of ts ≡ map outer (answered (below (machine g) g.base (updates_after g H) (committed (machine g) (updates_after g H)))) =
    left ∙ ap (λ (ws : List (Update (machine g))). map outer (answered (below (machine g) g.base ws (committed (machine g) ws)))) (sym k.left.leaves) in
    after ∙ sym (ap (λ (r : SerialResult). r.repository) (live_is_serial came.session g H came.of k.left.legal).committed)
    ∙ ap serially_left same

-- ---- a core that was opened

admissions_recorded : (g : Ground) (n k : ℕ) → AreRecorded g (admissions_from n k)
admissions_recorded g n zero = refl
admissions_recorded g n (suc k) = admissions_recorded g (suc n) k

admissions_count : (g : Ground) (n k : ℕ) → admissions_in (entries_over g (admissions_from n k)) ≡ k
admissions_count g n zero = refl
admissions_count g n (suc k) = let rest = admissions_count g (suc n) k in omega (arith, rest)

-- All updates of the session are admitted.
begun : (s : SessionData) (budget : ℕ) (c : Settings) → 1 ≤ budget → IsRepository s.base → (n : ℕ) → n ≡ length s.updates → IsLegalOver (over s budget c) (admissions_from 1 n) → IsAdmitted s budget c (admissions_from 1 n)
begun s budget c some sorted n count legal =
    let g = over s budget c in
    let H = admissions_from 1 n in
    let h = history_law (machine g) (chase_laws caused g.rules g.budget some) g.settings (session_over g) (map event_of (entries_over g H)) (record { updates = updates_after g H; entries = entries_over g H }) sorted legal in
    record {
      legal = legal;
      recorded = admissions_recorded g 1 n;
      all = sym h.admissions ∙ admissions_count g 1 n ∙ count;
    }

-- Drained, it has come to what the serial machine comes to.
pub drained_serially : (s : SessionData) (budget : ℕ) (c : Settings) (n : ℕ) (a b : State) (r : SessionResult) → IsSession s → base_violation s ≡ None → n ≡ length s.updates → a ≡ opened s budget c n
    → 1 ≤ a.over.budget → IsRepository a.over.base → IsLegalOver a.over a.history → HasTurned a b → is_quiet_at b ≡ true → IsResultOf b r → IsSerialRun budget s r
drained_serially s budget c n a b r valid meets count e some sorted legal t quiet told =
    let g = over s budget c in
    let H = admissions_from 1 n in
    let over : b.over ≡ g = t.over ∙ ap (λ (x : State). x.over) e in
    let last : State = record { over = g; history = b.history; relations = b.relations } in
    let same : b ≡ last = λ i. record { over = over i; history = b.history; relations = b.relations } in
    let some_there : 1 ≤ budget = subst (λ (x : State). 1 ≤ x.over.budget) e some in
    let sorted_there : IsRepository s.base = subst (λ (x : State). IsRepository x.over.base) e sorted in
    let legal_there : IsLegalOver g H = subst (λ (x : State). IsLegalOver x.over x.history) e legal in
    let turns : after_turns g t.turns H ≡ Some b.history = subst (λ (x : State). after_turns x.over t.turns x.history ≡ Some b.history) e t.history in
    let rests : is_quiet_at last ≡ true = subst (λ (x : State). is_quiet_at x ≡ true) same quiet in
    let telling : IsResultOf last r = subst (λ (x : State). IsResultOf x r) same told in
    telling ∙ sym (ap result_in (drained_law s budget c t.turns H b.history valid meets sorted_there some_there (begun s budget c some_there sorted_there n count legal_there) turns rests))

-- Of a result: what holds if it is good, and what holds of the good value, give a third.
pub if_ok_both : {A E : Type 0} (r : Result A E) (S : Type 0) (P Q : A → Type 0) → ((x : A) → S → P x → Q x) → OnOk r S → IfOk r P → IfOk r Q
if_ok_both (Ok x) S P Q f s h = f x s h
if_ok_both (Err e) S P Q f s h = tt

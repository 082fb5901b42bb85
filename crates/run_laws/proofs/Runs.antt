-- The serial machine's trails, turn by turn: what is logged of them, and what it makes of the base.
use Rattle.std.specs.Prelude.{take}
use Rattle.std.proofs.Common.{◌≡◌, ℕ, zero, suc, ◌+◌, ◌≤◌, ◌==◌, not, ap, refl, sym, ◌∙◌, subst, List, [], ◌∷◌, map, length, Bool, true, false, cond, arith}
use Rattle.std.specs.Option.{option_map}
use Rattle.std.specs.List.{list_all, AllByRecursion}
use Rattle.def_machine.specs.Rests.{IsRest}
use Rattle.def_machine.specs.Serial.{Rest, Ends, Stops, Turn, Result, after_turn, whole, serial}
use Rattle.def_machine.specs.Updates.{hides, shown}
use Rattle.def_chase.specs.Mappings.{Rule, force_relation}
use Rattle.def_chase.specs.Repository.{Change, apply}
use Rattle.def_chase.specs.Values.{Fact}
use Rattle.def_chase.proofs.Bools.{both, differ}
use Rattle.def_steps.specs.Attempts.{Attempt, outcome_in}
use Rattle.def_steps.specs.Chase.{ending, every, whole_chase}
use Rattle.def_steps.specs.Serial.{answered, turns_in}
use Rattle.def_language.specs.Checks.{rules_of}
use Rattle.def_language.specs.Sessions.{RelationSchema, SessionUpdate, SessionData}
use Rattle.def_language.specs.Validity.{IsFact, IsSession}
use Rattle.lang_session.specs.Meanings.{request_of}
use Rattle.lang_session.proofs.Suiting.{no_force, few_relations}
use Rattle.run_laws.proofs.Attempts.{reached_passing}
use Rattle.run_laws.proofs.Closed.{write_passes}
use Rattle.run_laws.proofs.Enacting.{Acts, AllAct, session_acts}
use Rattle.run_laws.proofs.Fitting.{is_value, fits, fact_fits}
use Rattle.run_laws.proofs.Serial.{Kept, Ending, closed, base_fits, ended, ending_of, shown_kept}
use Rattle.run_serial.specs.Trails.{trailed, trails_by}
use Rattle.run_journal.specs.Format.{IsWrite, logged}
use Rattle.run_journal.specs.Journals.{after_commits, repository_of}
use Rattle.run_laws.specs.Logged.{AreLogged, commits_of, left_after, opening_of}
use Rattle.run_laws.proofs.Writes.{all_logged, all_told}

module _ (s : SessionData) (v : IsSession s) (B : ℕ) (some : 1 ≤ B) (within : B ≤ 1000001) where
  abbrev trails : Result (whole_chase (rules_of s.mappings) B) → List (List Change)
  trails r = (trailed every (rules_of s.mappings) B r).trails

  abbrev turn : ℕ → SessionUpdate → Turn (whole_chase (rules_of s.mappings) B)
  turn below x = record { number = suc below; attempt = 0; operation = x.operation; answers = x.answers }

  abbrev turns : ℕ → List SessionUpdate → List (Turn (whole_chase (rules_of s.mappings) B))
  turns n us = turns_in every (rules_of s.mappings) B n (map request_of us)

  -- ---- one update

  module _ (below : ℕ) (x : SessionUpdate) (D : List Fact) (acts : Acts s.relations below x) (k : Kept s v B some within below D) (P : Attempt)
      (e : whole (whole_chase (rules_of s.mappings) B) D (turn below x) ≡ Ends P) where
    abbrev left : List Fact
    left = apply D (shown (whole_chase (rules_of s.mappings) B) P)

    here : Ending s v B some within below x D acts k P
    here = ending_of s v B some within below x D acts k P e

    own_passes : list_all (write_passes (fits s.relations (suc below)) P.nulls) P.own ≡ true
    own_passes =
        let r : IsRest (whole_chase (rules_of s.mappings) B) D (turn below x) (Ends P) = ended s v B some within D (turn below x) P e in
        (reached_passing every (rules_of s.mappings) B D x.answers (suc below) 0 x.operation (is_value (suc below)) (fits s.relations (suc below)) (closed s v B some within below x D acts k) (base_fits s v B some within below x D acts k) r.0.reached).writes

    -- what is shown of it is nothing, or what it has written
    either : (F : List Change → Type 0) → F [] → F P.own → F (shown (whole_chase (rules_of s.mappings) B) P)
    either F none all = by (hides (option_map ending (outcome_in P.phase)))
      where
        by : (b : Bool) → F (cond b [] P.own)
        by true = none
        by false = all

    turn_logged : suc below ≤ 1000 → AllByRecursion (IsWrite s.relations) (logged (shown (whole_chase (rules_of s.mappings) B) P))
    turn_logged few = either (λ ws. AllByRecursion (IsWrite s.relations) (logged ws)) tt (all_logged s.relations (suc below) P.nulls (omega arith) here.few P.own own_passes)

    turn_told : suc below ≤ 1000 → apply (answered D) (logged (shown (whole_chase (rules_of s.mappings) B) P)) ≡ answered left
    turn_told few =
        either (λ ws. apply (answered D) (logged ws) ≡ answered (apply D ws)) refl
        (sym (all_told s.relations (suc below) P.nulls (omega arith) here.few D P.own k.order own_passes))

    left_kept : Kept s v B some within (suc below) left
    left_kept = shown_kept s v B some within below x D acts k P here

  -- ---- the updates in turn

  turn_writes : (below : ℕ) (x : SessionUpdate) (D : List Fact) → Acts s.relations below x → Kept s v B some within below D → suc below ≤ 1000 → (ts : List (Turn (whole_chase (rules_of s.mappings) B)))
      → ((E : List Fact) → Kept s v B some within (suc below) E → AreLogged s.relations (commits_of (trails (serial (whole_chase (rules_of s.mappings) B) E ts))))
      → (r : Rest (whole_chase (rules_of s.mappings) B)) → whole (whole_chase (rules_of s.mappings) B) D (turn below x) ≡ r
      → AreLogged s.relations (commits_of (trails (after_turn (whole_chase (rules_of s.mappings) B) (λ E. serial (whole_chase (rules_of s.mappings) B) E ts) (suc below) D r)))
  turn_writes below x D acts k few ts rec (Stops P l) e = tt
  turn_writes below x D acts k few ts rec (Ends P) e =
      (turn_logged below x D acts k P e few, rec (apply D (shown (whole_chase (rules_of s.mappings) B) P)) (left_kept below x D acts k P e))

  run_writes : (us : List SessionUpdate) (below : ℕ) (D : List Fact) → AllAct s.relations below us → below + length us ≤ 1000 → Kept s v B some within below D
      → AreLogged s.relations (commits_of (trails (serial (whole_chase (rules_of s.mappings) B) D (turns (suc below) us))))
  run_writes [] below D a few k = tt
  run_writes (x ∷ us) below D a few k =
      turn_writes below x D a.0 k (omega arith) (turns (suc (suc below)) us) (λ E j. run_writes us (suc below) E a.1 (omega arith) j)
      (whole (whole_chase (rules_of s.mappings) B) D (turn below x)) refl

  turn_stands : (below : ℕ) (x : SessionUpdate) (D : List Fact) → Acts s.relations below x → Kept s v B some within below D → suc below ≤ 1000 → (j : ℕ) (ts fewer : List (Turn (whole_chase (rules_of s.mappings) B)))
      → ((E : List Fact) → Kept s v B some within (suc below) E
      → after_commits (answered E) (take j (commits_of (trails (serial (whole_chase (rules_of s.mappings) B) E ts)))) ≡ answered (serial (whole_chase (rules_of s.mappings) B) E fewer).repository)
      → (r : Rest (whole_chase (rules_of s.mappings) B)) → whole (whole_chase (rules_of s.mappings) B) D (turn below x) ≡ r
      → after_commits (answered D) (take (suc j) (commits_of (trails (after_turn (whole_chase (rules_of s.mappings) B) (λ E. serial (whole_chase (rules_of s.mappings) B) E ts) (suc below) D r))))
      ≡ answered (after_turn (whole_chase (rules_of s.mappings) B) (λ E. serial (whole_chase (rules_of s.mappings) B) E fewer) (suc below) D r).repository
  turn_stands below x D acts k few j ts fewer rec (Stops P l) e = refl
  turn_stands below x D acts k few j ts fewer rec (Ends P) e =
      ap (λ (E : List Fact). after_commits E (take j (commits_of (trails (serial (whole_chase (rules_of s.mappings) B) (apply D (shown (whole_chase (rules_of s.mappings) B) P)) ts)))))
      (turn_told below x D acts k P e few)
      ∙ rec (apply D (shown (whole_chase (rules_of s.mappings) B) P)) (left_kept below x D acts k P e)

  run_stands : (us : List SessionUpdate) (j below : ℕ) (D : List Fact) → AllAct s.relations below us → below + length us ≤ 1000 → Kept s v B some within below D
      → after_commits (answered D) (take j (commits_of (trails (serial (whole_chase (rules_of s.mappings) B) D (turns (suc below) us)))))
      ≡ answered (serial (whole_chase (rules_of s.mappings) B) D (turns_in every (rules_of s.mappings) B (suc below) (take j (map request_of us)))).repository
  run_stands us zero below D a few k = refl
  run_stands [] (suc j) below D a few k = refl
  run_stands (x ∷ us) (suc j) below D a few k =
      turn_stands below x D a.0 k (omega arith) j (turns (suc (suc below)) us) (turns_in every (rules_of s.mappings) B (suc (suc below)) (take j (map request_of us)))
      (λ E i. run_stands us j (suc below) E a.1 (omega arith) i)
      (whole (whole_chase (rules_of s.mappings) B) D (turn below x)) refl

-- ---- how many trails there are

none_few : (n : ℕ) → 0 ≤ n
none_few n = omega arith

one_more : (n m : ℕ) → n ≤ m → suc n ≤ suc m
one_more n m l = omega arith

turn_few : (ms : List Rule) (B n : ℕ) (D : List Fact) (ts : List (Turn (whole_chase ms B))) → ((E : List Fact) → length (trailed every ms B (serial (whole_chase ms B) E ts)).trails ≤ length ts)
    → (r : Rest (whole_chase ms B)) → length (trailed every ms B (after_turn (whole_chase ms B) (λ E. serial (whole_chase ms B) E ts) n D r)).trails ≤ suc (length ts)
turn_few ms B n D ts rec (Stops P l) = none_few (suc (length ts))
turn_few ms B n D ts rec (Ends P) = one_more _ _ (rec (apply D (shown (whole_chase ms B) P)))

few_trails : (ms : List Rule) (B : ℕ) (ts : List (Turn (whole_chase ms B))) (D : List Fact) → length (trailed every ms B (serial (whole_chase ms B) D ts)).trails ≤ length ts
few_trails ms B [] D = none_few 0
few_trails ms B (t ∷ ts) D = turn_few ms B t.number D ts (λ E. few_trails ms B ts E) (whole (whole_chase ms B) D t)

turns_many : (ms : List Rule) (B : ℕ) (us : List SessionUpdate) (n : ℕ) → length (turns_in every ms B n (map request_of us)) ≡ length us
turns_many ms B [] n = refl
turns_many ms B (x ∷ us) n = ap suc (turns_many ms B us (suc n))

pub session_few : (B : ℕ) (s : SessionData) → length (trails_by B s) ≤ length s.updates
session_few B s =
    subst (λ n. length (trails_by B s) ≤ n) (turns_many (rules_of s.mappings) B s.updates 1)
    (few_trails (rules_of s.mappings) B (turns_in every (rules_of s.mappings) B 1 (map request_of s.updates)) s.base)

-- ---- a whole session

facts_fit : (rs : List RelationSchema) → length rs ≤ 128 → (ts : List Fact) → AllByRecursion (IsFact rs 0) ts → list_all (fits rs 0 0) ts ≡ true
facts_fit rs few [] h = refl
facts_fit rs few (t ∷ ts) h = both (fits rs 0 0 t) (list_all (fits rs 0 0) ts) (fact_fits rs 0 0 t (no_force rs t.relation (length t.values) few h.0.0) h.0) (facts_fit rs few ts h.1)

-- all of a base is told
base_told : (rs : List RelationSchema) → length rs ≤ 128 → (ts : List Fact) → AllByRecursion (IsFact rs 0) ts → answered ts ≡ ts
base_told rs few [] h = refl
base_told rs few (t ∷ ts) h = by (t.relation == force_relation) (no_force rs t.relation (length t.values) few h.0.0) (base_told rs few ts h.1)
  where
    by : (b : Bool) → b ≡ false → answered ts ≡ ts → cond (not b) (t ∷ answered ts) (answered ts) ≡ t ∷ ts
    by true e rest = differ (sym e)
    by false e rest = ap (λ (us : List Fact). t ∷ us) rest

module _ (s : SessionData) (v : IsSession s) (B : ℕ) (some : 1 ≤ B) (within : B ≤ 1000001) where
  begun : Kept s v B some within 0 s.base
  begun = record { order = v.base_order; fit = facts_fit s.relations (few_relations s v) s.base v.base }

  pub session_writes : AreLogged s.relations (commits_of (trails_by B s))
  session_writes = run_writes s v B some within s.updates 0 s.base (session_acts s v) (omega (arith, v.update_count)) begun

  pub session_stands : (j : ℕ) → repository_of (opening_of s) (take j (commits_of (trails_by B s))) ≡ left_after j B s
  session_stands j =
      ap (λ (D : List Fact). after_commits D (take j (commits_of (trails_by B s)))) (sym (base_told s.relations (few_relations s v) s.base v.base))
      ∙ run_stands s v B some within s.updates j 0 s.base (session_acts s v) (omega (arith, v.update_count)) begun

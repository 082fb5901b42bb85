-- What the serial machine leaves of a valid session fits it; a mapping stays in force, and one whose update is done is in force.
use Rattle.std.specs.Prelude.{slice_get}
use Rattle.std.proofs.Common.{◌≡◌, ℕ, zero, suc, ◌+◌, ◌*◌, ◌≤◌, ◌<◌, ◌^◌, ◌==◌, ap, refl, sym, ◌∙◌, subst, List, [], ◌∷◌, ◌++◌, map, length, Bool, true, false, not, cond, Option, Some, None, is_some, arith}
use Rattle.std.specs.Option.{option_map}
use Rattle.std.specs.List.{list_all, AllByRecursion}
use Rattle.std.proofs.lemmas.Bool.{and_parts}
use Rattle.def_machine.specs.Updates.{hides, shown}
use Rattle.def_machine.specs.Rests.{IsRest}
use Rattle.def_machine.specs.Serial.{Rest, Ends, Stops, Turn, Result, after_turn, whole, serial}
use Rattle.def_chase.specs.Values.{Fact}
use Rattle.def_chase.specs.Repository.{IsRepository, has, apply}
use Rattle.def_chase.specs.Mappings.{Rule, force_relation, force}
use Rattle.def_chase.specs.Updates.{Enacts}
use Rattle.def_chase.proofs.Bools.{differ, none_some, some_same}
use Rattle.def_chase.proofs.Sets.{apply_in_order}
use Rattle.def_steps.specs.Attempts.{Outcome, Done, Phase, Start, Look, Generate, Asked, Ended, Attempt, outcome_in}
use Rattle.def_steps.specs.Chase.{ending, every, whole_chase}
use Rattle.def_steps.specs.Serial.{Finished, answered, finished, finished_so, told, turns_in}
use Rattle.def_steps.proofs.Passing.{all_weaker}
use Rattle.def_steps.proofs.SerialHolding.{whole_rests}
use Rattle.def_language.specs.Sessions.{RelationSchema, SessionUpdate, SessionData}
use Rattle.def_language.specs.Checks.{rules_of}
use Rattle.def_language.specs.Validity.{IsFact, IsSession}
use Rattle.lang_session.specs.Meanings.{request_of}
use Rattle.run_laws.proofs.Closed.{Closed}
use Rattle.run_laws.proofs.Attempts.{view_passes, reached_passing, force_stays, forces}
use Rattle.run_laws.proofs.Fitting.{is_value, fits, fits_later, fits_settled, fact_is}
use Rattle.run_laws.proofs.Closing.{tests_closed}
use Rattle.run_laws.proofs.Enacting.{Acts, AllAct}

-- ---- outcomes

done_ends : (ph : Phase) → outcome_in ph ≡ Some Done → ph ≡ Ended Done
done_ends Start e = absurd (none_some Done e)
done_ends Look e = absurd (none_some Done e)
done_ends (Generate r) e = absurd (none_some Done e)
done_ends (Asked q) e = absurd (none_some Done e)
done_ends (Ended o) e = ap Ended (some_same o Done e)

module _ (s : SessionData) (v : IsSession s) (B : ℕ) (some : 1 ≤ B) (within : B ≤ 1000001) where
  abbrev ms : List Rule
  ms = rules_of s.mappings

  -- What is kept from update to update: the tuples are in order, and fit the session with nulls of so many updates.
  pub record Kept (below : ℕ) (D : List Fact) : Type 0 where
    pub order : IsRepository D
    pub fit : list_all (fits s.relations below 0) D ≡ true

  pub kept_later : (below more : ℕ) (D : List Fact) → below ≤ more → Kept below D → Kept more D
  kept_later below more D l k = record { order = k.order; fit = all_weaker (fits s.relations below 0) (fits s.relations more 0) (λ t h. fits_later s.relations below more 0 0 l (omega arith) t h) D k.fit }

  -- ---- one update

  abbrev pub turn : ℕ → SessionUpdate → Turn (whole_chase (rules_of s.mappings) B)
  turn below x = record { number = suc below; attempt = 0; operation = x.operation; answers = x.answers }

  pub ended : (D : List Fact) (t : Turn (whole_chase (rules_of s.mappings) B)) (P : Attempt) → whole (whole_chase (rules_of s.mappings) B) D t ≡ Ends P → IsRest (whole_chase (rules_of s.mappings) B) D t (Ends P)
  ended D t P e = subst (λ x. IsRest (whole_chase (rules_of s.mappings) B) D t x) e (whole_rests every (rules_of s.mappings) B some D t)

  module _ (below : ℕ) (x : SessionUpdate) (D : List Fact) (acts : Acts s.relations below x) (k : Kept below D) where
    pub closed : Closed (rules_of s.mappings) x.operation (suc below) 0 (is_value (suc below)) (fits s.relations (suc below))
    closed = tests_closed s v below x.operation acts.0 acts.1

    pub base_fits : list_all (fits s.relations (suc below) 0) D ≡ true
    base_fits = (kept_later below (suc below) D (omega arith) k).fit

    -- what holds of an update's end
    pub record Ending (P : Attempt) : Type 0 where
      pub few : P.nulls < 2 ^ 32
      pub fit : list_all (fits s.relations (suc below) P.nulls) (apply D P.own) ≡ true
      pub stays : (n : ℕ) → has D (force n) ≡ true → has (apply D P.own) (force n) ≡ true
      pub enacts : (n : ℕ) → x.operation ≡ Enacts n → P.phase ≡ Ended Done → has (apply D P.own) (force n) ≡ true
      pub outcome : is_some (option_map ending (outcome_in P.phase)) ≡ true

    pub ending_of : (P : Attempt) → whole (whole_chase (rules_of s.mappings) B) D (turn below x) ≡ Ends P → Ending P
    ending_of P e =
        let r : IsRest (whole_chase (rules_of s.mappings) B) D (turn below x) (Ends P) = ended D (turn below x) P e in
        let g = reached_passing every (rules_of s.mappings) B D x.answers (suc below) 0 x.operation (is_value (suc below)) (fits s.relations (suc below)) closed base_fits r.0.reached in
        let nulls : P.nulls ≤ 128 * P.steps = g.few in
        let steps : P.steps ≤ B = r.0.few in
        record {
          few = omega arith;
          fit = view_passes every (rules_of s.mappings) B D x.answers (suc below) 0 x.operation (is_value (suc below)) (fits s.relations (suc below)) closed base_fits P g;
          stays = λ n h. force_stays (fits s.relations (suc below)) P.nulls n D P.own g.writes h;
          enacts = λ n f d. forces every (rules_of s.mappings) B D x.answers (suc below) 0 x.operation (is_value (suc below)) (fits s.relations (suc below)) closed base_fits P n g f d;
          outcome = r.1;
        }

    shows : (P : Attempt) (F : List Fact → Type 0) → F D → F (apply D P.own) → F (apply D (shown (whole_chase (rules_of s.mappings) B) P))
    shows P F x y = by (hides (option_map ending (outcome_in P.phase)))
      where
        by : (b : Bool) → F (apply D (cond b [] P.own))
        by true = x
        by false = y

    pub shown_kept : (P : Attempt) → Ending P → Kept (suc below) (apply D (shown (whole_chase (rules_of s.mappings) B) P))
    shown_kept P g =
        shows P (Kept (suc below)) (kept_later below (suc below) D (omega arith) k)
        (record {
          order = apply_in_order D P.own k.order;
          fit = all_weaker (fits s.relations (suc below) P.nulls) (fits s.relations (suc below) 0) (λ t h. fits_settled s.relations (suc below) P.nulls t g.few h) (apply D P.own) g.fit;
        })

    shown_stays : (P : Attempt) (n : ℕ) → Ending P → has D (force n) ≡ true → has (apply D (shown (whole_chase (rules_of s.mappings) B) P)) (force n) ≡ true
    shown_stays P n g h = shows P (λ E. has E (force n) ≡ true) h (g.stays n h)

    done_shown : (P : Attempt) → P.phase ≡ Ended Done → shown (whole_chase (rules_of s.mappings) B) P ≡ P.own
    done_shown P e = ap (λ (ph : Phase). cond (hides (option_map ending (outcome_in ph))) [] P.own) e

    shown_enacts : (P : Attempt) (n : ℕ) → Ending P → x.operation ≡ Enacts n → P.phase ≡ Ended Done → has (apply D (shown (whole_chase (rules_of s.mappings) B) P)) (force n) ≡ true
    shown_enacts P n g e d = ap (λ ws. has (apply D ws) (force n)) (done_shown P d) ∙ g.enacts n e d

  -- ---- the updates in turn

  abbrev finishes : Result (whole_chase (rules_of s.mappings) B) → List Finished
  finishes r = (told every (rules_of s.mappings) B r).finishes

  -- What is left of some updates taken in turn over D.
  pub record Left (below : ℕ) (us : List SessionUpdate) (D : List Fact) (r : Result (whole_chase (rules_of s.mappings) B)) : Type 0 where
    pub kept : Kept (below + length us) r.repository
    pub stays : (n : ℕ) → has D (force n) ≡ true → has r.repository (force n) ≡ true
    pub enacts : (i n : ℕ) (f : Finished) (x : SessionUpdate) → slice_get (told every (rules_of s.mappings) B r).finishes i ≡ Some f → f.outcome ≡ Done → slice_get us i ≡ Some x → x.operation ≡ Enacts n
        → has r.repository (force n) ≡ true

  finish_done : (n : ℕ) (P : Attempt) (rest : List Finished) (f : Finished) → is_some (option_map ending (outcome_in P.phase)) ≡ true → slice_get (finished n P ++ rest) 0 ≡ Some f → f.outcome ≡ Done → outcome_in P.phase ≡ Some Done
  finish_done n P rest f ends e d = by (outcome_in P.phase) ends e
    where
      by : (o : Option Outcome) → is_some (option_map ending o) ≡ true → slice_get (finished_so n P o ++ rest) 0 ≡ Some f → o ≡ Some Done
      by None g h = differ g
      by (Some o) g h = ap Some (ap (λ (z : Finished). z.outcome) (some_same _ f h) ∙ d)

  finish_later : (n : ℕ) (P : Attempt) (rest : List Finished) (i : ℕ) → is_some (option_map ending (outcome_in P.phase)) ≡ true → slice_get (finished n P ++ rest) (suc i) ≡ slice_get rest i
  finish_later n P rest i ends = by (outcome_in P.phase) ends
    where
      by : (o : Option Outcome) → is_some (option_map ending o) ≡ true → slice_get (finished_so n P o ++ rest) (suc i) ≡ slice_get rest i
      by None g = differ g
      by (Some o) g = refl

  turn_left : (below : ℕ) (x : SessionUpdate) (us : List SessionUpdate) (D : List Fact) → Acts s.relations below x → Kept below D → (ts : List (Turn (whole_chase (rules_of s.mappings) B)))
      → ((E : List Fact) → Kept (suc below) E → Left (suc below) us E (serial (whole_chase (rules_of s.mappings) B) E ts))
      → (r : Rest (whole_chase (rules_of s.mappings) B)) → whole (whole_chase (rules_of s.mappings) B) D (turn below x) ≡ r
      → Left below (x ∷ us) D (after_turn (whole_chase (rules_of s.mappings) B) (λ E. serial (whole_chase (rules_of s.mappings) B) E ts) (suc below) D r)
  turn_left below x us D acts k ts rec (Stops P l) e =
      record { kept = kept_later below (below + length (x ∷ us)) D (omega arith) k; stays = λ n h. h; enacts = λ i n f y g d at o. absurd (none_some f g) }
  turn_left below x us D acts k ts rec (Ends P) e =
      let g : Ending below x D acts k P = ending_of below x D acts k P e in
      let r : Left (suc below) us (apply D (shown (whole_chase (rules_of s.mappings) B) P)) (serial (whole_chase (rules_of s.mappings) B) (apply D (shown (whole_chase (rules_of s.mappings) B) P)) ts) =
      rec (apply D (shown (whole_chase (rules_of s.mappings) B) P)) (shown_kept below x D acts k P g) in
      let longer : suc below + length us ≡ below + length (x ∷ us) = omega arith in
      record {
        kept = subst (λ n. Kept n (serial (whole_chase (rules_of s.mappings) B) (apply D (shown (whole_chase (rules_of s.mappings) B) P)) ts).repository) longer r.kept;
        stays = λ n h. r.stays n (shown_stays below x D acts k P n g h);
        enacts = at g r;
      }
    where
      at : Ending below x D acts k P → Left (suc below) us (apply D (shown (whole_chase (rules_of s.mappings) B) P)) (serial (whole_chase (rules_of s.mappings) B) (apply D (shown (whole_chase (rules_of s.mappings) B) P)) ts)
          → (i n : ℕ) (f : Finished) (y : SessionUpdate)
          → slice_get (finished (suc below) P ++ (told every (rules_of s.mappings) B (serial (whole_chase (rules_of s.mappings) B) (apply D (shown (whole_chase (rules_of s.mappings) B) P)) ts)).finishes) i ≡ Some f
          → f.outcome ≡ Done → slice_get (x ∷ us) i ≡ Some y → y.operation ≡ Enacts n → has (serial (whole_chase (rules_of s.mappings) B) (apply D (shown (whole_chase (rules_of s.mappings) B) P)) ts).repository (force n) ≡ true
      at g r zero n f y h d z o =
          r.stays n (shown_enacts below x D acts k P n g (ap (λ (w : SessionUpdate). w.operation) (some_same x y z) ∙ o) (done_ends P.phase (finish_done (suc below) P _ f g.outcome h d)))
      at g r (suc i) n f y h d z o = r.enacts i n f y (sym (finish_later (suc below) P _ i g.outcome) ∙ h) d z o

  pub serial_left : (us : List SessionUpdate) (below : ℕ) (D : List Fact) → AllAct s.relations below us → Kept below D
      → Left below us D (serial (whole_chase (rules_of s.mappings) B) D (turns_in every (rules_of s.mappings) B (suc below) (map request_of us)))
  serial_left [] below D a k = record { kept = kept_later below (below + 0) D (omega arith) k; stays = λ n h. h; enacts = λ i n f y g d at o. absurd (none_some f g) }
  serial_left (x ∷ us) below D a k =
      turn_left below x us D a.0 k (turns_in every (rules_of s.mappings) B (suc (suc below)) (map request_of us)) (λ E j. serial_left us (suc below) E a.1 j)
      (whole (whole_chase (rules_of s.mappings) B) D (turn below x)) refl

-- ---- what is answered

-- Of what fits, the tuples that say of no mapping that it is in force are tuples of relations.
pub answered_facts : (rs : List RelationSchema) (most : ℕ) (D : List Fact) → list_all (fits rs most 0) D ≡ true → AllByRecursion (IsFact rs most) (answered D)
answered_facts rs most [] h = tt
answered_facts rs most (t ∷ D) h =
    let e = and_parts (fits rs most 0 t) (list_all (fits rs most 0) D) h in
    by (not (t.relation == force_relation)) refl e.0 (answered_facts rs most D e.1)
  where
    by : (b : Bool) → not (t.relation == force_relation) ≡ b → fits rs most 0 t ≡ true → AllByRecursion (IsFact rs most) (answered D) → AllByRecursion (IsFact rs most) (cond b (t ∷ answered D) (answered D))
    by true f g rest = (fact_is rs most 0 t (omega arith) g f, rest)
    by false f g rest = rest

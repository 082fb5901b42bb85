-- The steps of the serial machine lead from the base to what it leaves, so what is told along them is true.
use Rattle.std.specs.Prelude.{slice_get, is_some, if◌then◌else◌, filter, reverse}
use Rattle.std.specs.Option.{option_map}
use Rattle.std.specs.List.{AllByRecursion, flat_map}
use Rattle.std.proofs.Common.{◌≡◌, ◌∙◌, ◌⊎◌, inl, inr, ap, refl, sym, subst, ℕ, zero, suc, ◌≤◌, ◌==◌, Bool, true, false, not, ◌&&◌, cond, Option, Some, None, List, [], ◌∷◌, ◌++◌, map}
use Rattle.std.proofs.lemmas.Bool.{and_parts, or_cases}
use Rattle.std.proofs.lemmas.List.{reverse-append}
use Rattle.def_machine.specs.Updates.{shown}
use Rattle.def_machine.specs.Standings.{Lack, lack, next_answer}
use Rattle.def_machine.specs.Steps.{next_move, next_state}
use Rattle.def_machine.specs.Rests.{IsRest}
use Rattle.def_machine.specs.Serial.{Rest, Ends, Stops, Turn, run, whole, serial, go_on, after_turn}
use Rattle.def_machine.proofs.Basics.{if_both}
use Rattle.def_chase.specs.Values.{Fact, same_fact}
use Rattle.def_chase.specs.Repository.{Insert, has, apply}
use Rattle.def_chase.specs.Mappings.{Rule, all_in, force_relation}
use Rattle.def_chase.specs.Updates.{Operation, Choice}
use Rattle.def_chase.specs.Laws.{HaveNoNulls}
use Rattle.def_chase.proofs.Bools.{differ, none_some, some_same, or_left, or_right}
use Rattle.def_chase.proofs.Members.{has-filter}
use Rattle.def_chase.proofs.Rewritings.{inserted_all}
use Rattle.def_chase.proofs.Searches.{all_join}
use Rattle.def_chase.proofs.Sets.{has-apply, same_exact, same_itself}
use Rattle.def_steps.specs.Attempts.{Outcome, Done, Spent, Refused, Ended, Attempt, begun, outcome_in}
use Rattle.def_steps.specs.Chase.{ending, every, whole_chase}
use Rattle.def_steps.specs.Serial.{answered, at_rest, turns_of}
use Rattle.def_steps.proofs.Reaching.{fitted}
use Rattle.def_steps.proofs.SerialHolding.{whole_rests}
use Rattle.def_steps.proofs.Steady.{apply_join}
use Rattle.def_provenance.specs.Puts.{Way, Inserts, Generates, Rewrites, Step, puts, deleted}
use Rattle.def_provenance.specs.Courses.{step_next, unless_lacking, steps_from, whole_steps, is_done_with, if_done, steps_after, serial_steps}
use Rattle.def_provenance.specs.Reasons.{Reason, source, how_by, reason_at, rooted, premises, sought_before, explained}
use Rattle.def_provenance.specs.Truths.{IsTrueAt, IsTrueBy, IsTrue, IsNumbered, ReasonsAreTrue}
use Rattle.def_provenance.proofs.Going.{PhaseRight, WayRight, step_right}
use Rattle.def_provenance.proofs.Unified.{has-join}

-- ---- courses

-- What the step puts it puts as its way says.
abbrev StepRight : List Rule → Step → Type 0
StepRight ms s = (t : Fact) → puts s t ≡ true → WayRight ms s.before s.writes t s.way

-- The steps, the last one first, lead from D to E, each right.
abbrev LeadsTo : List Rule → List Fact → List Step → List Fact → Type 0
LeadsTo ms D [] E = E ≡ D
LeadsTo ms D (s ∷ earlier) E = (E ≡ apply s.before s.writes) × StepRight ms s × LeadsTo ms D earlier s.before

-- The steps in turn.
abbrev Leads : List Rule → List Fact → List Step → List Fact → Type 0
Leads ms D [] E = E ≡ D
Leads ms D (s ∷ ss) E = (s.before ≡ D) × StepRight ms s × Leads ms (apply D s.writes) ss E

leads_join : (ms : List Rule) (D F E : List Fact) (ss later : List Step) → Leads ms D ss F → Leads ms F later E → Leads ms D (ss ++ later) E
leads_join ms D F E [] later a b = subst (λ G. Leads ms G later E) a b
leads_join ms D F E (s ∷ ss) later a b = (a.0, a.1, leads_join ms (apply D s.writes) F E ss later a.2 b)

first_step : (ms : List Rule) (D E : List Fact) (s : Step) (xs : List Step) → s.before ≡ D → StepRight ms s → LeadsTo ms (apply D s.writes) xs E → LeadsTo ms D (xs ++ s ∷ []) E
first_step ms D E s [] e r l = (l ∙ ap (λ G. apply G s.writes) (sym e), r, e)
first_step ms D E s (x ∷ xs) e r l = (l.0, l.1, first_step ms D x.before s xs e r l.2)

turned : (ms : List Rule) (D E : List Fact) (ss : List Step) → Leads ms D ss E → LeadsTo ms D (reverse ss) E
turned ms D E [] l = l
turned ms D E (s ∷ ss) l =
    subst (λ xs. LeadsTo ms D xs E) (sym (reverse-append (s ∷ []) ss))
    (first_step ms D E s (reverse ss) l.0 l.1 (turned ms (apply D s.writes) E ss l.2))

-- ---- one update

not_put : (a b : Bool) → (not a && b) ≡ true → (a ≡ false) × (b ≡ true)
not_put true b e = differ e
not_put false b e = (refl, e)

module _ (ms : List Rule) (B : ℕ) (some : 1 ≤ B) (plain : HaveNoNulls ms) (numbered : AllByRecursion IsNumbered ms) where
  -- the steps of an attempt lead to what its end leaves
  steps_lead : (op : Operation) (D : List Fact) (answers : List Choice) (k : ℕ) (P Q : Attempt) → PhaseRight ms (apply D P.own) P.phase
      → run (whole_chase ms B) op D answers k P ≡ Ends Q → Leads ms (apply D P.own) (steps_from every ms B op D answers k P) (apply D Q.own)
  steps_lead op D answers zero P Q h e = ap (λ (x : Rest (whole_chase ms B)). apply D (at_rest every ms B x).0.own) (sym e)
  steps_lead op D answers (suc k) P Q h e = by (is_some (option_map ending (outcome_in P.phase))) refl (lack (whole_chase ms B) answers P) refl e (λ S g f. steps_lead op D answers k S Q g f)
    where
      goes : (o : Option Rattle.def_machine.specs.Machine.Outcome) → is_some o ≡ false → o ≡ None
      goes None f = refl
      goes (Some x) f = differ (sym f)

      by : (b : Bool) → is_some (option_map ending (outcome_in P.phase)) ≡ b → (o : Option Lack) → lack (whole_chase ms B) answers P ≡ o
          → (if b then Ends P else go_on (whole_chase ms B) (run (whole_chase ms B) op D answers k) P (next_state (whole_chase ms B) op D answers P) o) ≡ Ends Q
          → ((S : Attempt) → PhaseRight ms (apply D S.own) S.phase → run (whole_chase ms B) op D answers k S ≡ Ends Q → Leads ms (apply D S.own) (steps_from every ms B op D answers k S) (apply D Q.own))
          → Leads ms (apply D P.own) (if b then [] else unless_lacking o (step_next every ms B op D answers P ∷ steps_from every ms B op D answers k (next_state (whole_chase ms B) op D answers P))) (apply D Q.own)
      by true f o g x rec = ap (λ (y : Rest (whole_chase ms B)). apply D (at_rest every ms B y).0.own) (sym x)
      by false f (Some l) g x rec = absurd (none_some l (sym (ap (λ (y : Rest (whole_chase ms B)). (at_rest every ms B y).1) x)))
      by false f None g x rec =
          let r = step_right ms plain numbered D P.own P (next_answer (whole_chase ms B) answers P) P.phase h (fitted every ms B answers P P.phase refl g (goes _ f)) in
          let there = apply_join D P.own (next_move (whole_chase ms B) op D answers P).writes in (
            refl,
            λ t p. let q = not_put (has (apply D P.own) t) (has (apply (apply D P.own) (next_move (whole_chase ms B) op D answers P).writes) t) p in r.1 t q.0 q.1,
            subst (λ F. Leads ms F (steps_from every ms B op D answers k (next_state (whole_chase ms B) op D answers P)) (apply D Q.own)) there
                (rec (next_state (whole_chase ms B) op D answers P)
                (if_both (PhaseRight ms (apply D (P.own ++ (next_move (whole_chase ms B) op D answers P).writes))) _ (next_move (whole_chase ms B) op D answers P).phase (Ended Spent)
                (λ _. subst (λ F. PhaseRight ms F (next_move (whole_chase ms B) op D answers P).phase) (sym there) r.0) (λ _. tt)) x),
          )

  -- ---- the updates in turn

  turn_leads : (D : List Fact) (t : Turn (whole_chase ms B)) (ts : List (Turn (whole_chase ms B)))
      → ((F : List Fact) → Leads ms F (serial_steps every ms B F ts) (serial (whole_chase ms B) F ts).repository)
      → (x : Rest (whole_chase ms B)) → whole (whole_chase ms B) D t ≡ x
      → Leads ms D (steps_after every ms B (λ F. serial_steps every ms B F ts) D (whole_steps every ms B D t) x) (after_turn (whole_chase ms B) (λ F. serial (whole_chase ms B) F ts) t.number D x).repository
  turn_leads D t ts rec (Stops P l) e = refl
  turn_leads D t ts rec (Ends P) e =
      leads_join ms D (apply D (shown (whole_chase ms B) P)) _ (if_done P (whole_steps every ms B D t)) (serial_steps every ms B (apply D (shown (whole_chase ms B) P)) ts)
      (by (outcome_in P.phase) refl) (rec (apply D (shown (whole_chase ms B) P)))
    where
      done : is_some (option_map ending (outcome_in P.phase)) ≡ true
      done = (subst (λ x. IsRest (whole_chase ms B) D t x) e (whole_rests every ms B some D t)).1

      by : (o : Option Outcome) → outcome_in P.phase ≡ o
          → Leads ms D (if is_done_with o then whole_steps every ms B D t else []) (apply D (if Rattle.def_machine.specs.Updates.hides (option_map ending o) then [] else P.own))
      by None f = differ (ap (λ x. is_some (option_map ending x)) (sym f) ∙ done)
      by (Some Done) f = steps_lead t.operation D t.answers B (begun t.number t.attempt t.operation) P tt e
      by (Some Spent) f = refl
      by (Some (Refused n)) f = refl

  serial_leads : (D : List Fact) (ts : List (Turn (whole_chase ms B))) → Leads ms D (serial_steps every ms B D ts) (serial (whole_chase ms B) D ts).repository
  serial_leads D [] = refl
  serial_leads D (t ∷ ts) = turn_leads D t ts (λ F. serial_leads F ts) (whole (whole_chase ms B) D t) refl

-- ---- what is told

module _ (ms : List Rule) (D : List Fact) (all : List Step) where
  -- the step is one of all
  abbrev Listed : Step → Type 0
  Listed s = (i : ℕ) × (slice_get all i ≡ Some s)

  -- all that is sought is there
  abbrev AreThere : List Fact → List Fact → Type 0
  AreThere E ts = (t : Fact) → has ts t ≡ true → has E t ≡ true

  image_there : (E ts : List Fact) → all_in E ts ≡ true → AreThere E ts
  image_there E [] a t h = differ h
  image_there E (s ∷ ts) a t h =
      let x = and_parts (has E s) (all_in E ts) a in
      elim (or_cases (same_fact t s) (has ts t) h) [ inl e ↦ ap (has E) (same_exact t s e) ∙ x.0 | inr e ↦ image_there E ts x.1 t e ]

  -- the reason at the step that put a tuple is true
  true_at : (s : Step) (t : Fact) (w : Way) → s.way ≡ w → WayRight ms s.before s.writes t w → IsTrueAt ms s t (how_by s.update s.step (deleted s.writes) t w)
  true_at s t Inserts e r = tt
  true_at s t (Generates n image) e r = r
  true_at s t (Rewrites f) e r = record { by = f; is_way = e; present = r.0; gone = r.1; becomes = r.2 }

  is_true : (s : Step) (t : Fact) → Listed s → puts s t ≡ true → (w : Way) → s.way ≡ w → IsTrueAt ms s t (how_by s.update s.step (deleted s.writes) t w)
      → IsTrueBy ms D all t (how_by s.update s.step (deleted s.writes) t w)
  is_true s t l p Inserts e r = record { place = l.0; step = s; there = l.1; put = p; said = ap (how_by s.update s.step (deleted s.writes) t) e; true_there = r }
  is_true s t l p (Generates n image) e r = record { place = l.0; step = s; there = l.1; put = p; said = ap (how_by s.update s.step (deleted s.writes) t) e; true_there = r }
  is_true s t l p (Rewrites f) e r = record { place = l.0; step = s; there = l.1; put = p; said = ap (how_by s.update s.step (deleted s.writes) t) e; true_there = r }

  -- what it rests on stood before the step
  rests_before : (s : Step) (t : Fact) (w : Way) → WayRight ms s.before s.writes t w → AreThere s.before (premises (how_by s.update s.step (deleted s.writes) t w))
  rests_before s t Inserts r u h = differ h
  rests_before s t (Generates n image) r u h = image_there s.before image r.present u h
  rests_before s t (Rewrites f) r u h =
      elim (or_cases (same_fact u (source (deleted s.writes) t f)) false h) [ inl e ↦ ap (has s.before) (same_exact u (source (deleted s.writes) t f) e) ∙ r.0 | inr e ↦ differ e ]

  made_true : (s : Step) → Listed s → StepRight ms s → (ts : List Fact) → AllByRecursion (IsTrue ms D all) (map (reason_at s) (filter (puts s) ts))
  made_true s l r [] = tt
  made_true s l r (t ∷ ts) = by (puts s t) refl (made_true s l r ts)
    where
      by : (b : Bool) → puts s t ≡ b → AllByRecursion (IsTrue ms D all) (map (reason_at s) (filter (puts s) ts)) → AllByRecursion (IsTrue ms D all) (map (reason_at s) (cond b (t ∷ filter (puts s) ts) (filter (puts s) ts)))
      by true p rest = (is_true s t l p s.way refl (true_at s t s.way refl (r t p)), rest)
      by false p rest = rest

  premises_there : (s : Step) → StepRight ms s → (ts : List Fact) → AreThere s.before (flat_map (λ (x : Reason). premises x.how) (map (reason_at s) (filter (puts s) ts)))
  premises_there s r [] u h = differ h
  premises_there s r (t ∷ ts) u h = by (puts s t) refl h (premises_there s r ts u)
    where
      rest : List Fact
      rest = flat_map (λ (x : Reason). premises x.how) (map (reason_at s) (filter (puts s) ts))

      by : (b : Bool) → puts s t ≡ b → has (flat_map (λ (x : Reason). premises x.how) (map (reason_at s) (cond b (t ∷ filter (puts s) ts) (filter (puts s) ts)))) u ≡ true
          → (has (flat_map (λ (x : Reason). premises x.how) (map (reason_at s) (filter (puts s) ts))) u ≡ true → has s.before u ≡ true) → has s.before u ≡ true
      by true p g rec =
          elim (or_cases (has (premises (reason_at s t).how) u) (has rest u) (sym (has-join (premises (reason_at s t).how) rest u) ∙ g)) [
            | inl e ↦ rests_before s t s.way (r t p) u e
            | inr e ↦ rec e
          ]
      by false p g rec = rec g

  -- what is sought before a step stood before it
  sought_there : (s : Step) → StepRight ms s → (ts : List Fact) → AreThere (apply s.before s.writes) ts → AreThere s.before (sought_before (puts s) (map (reason_at s) (filter (puts s) ts)) ts)
  sought_there s r ts there u h =
      elim (or_cases (has more u) (has (filter (λ t. not (puts s t)) ts) u)
      (sym (inserted_all (has (filter (λ t. not (puts s t)) ts) u) more u) ∙ sym (has-apply (filter (λ t. not (puts s t)) ts) (map Insert more) u) ∙ h)) [
        | inl e ↦ premises_there s r ts u e
        | inr e ↦
            let x = and_parts (has ts u) (not (puts s u)) (sym (has-filter (λ t. not (puts s t)) ts u) ∙ e) in
            stood (has s.before u) (has (apply s.before s.writes) u) (there u x.0) x.1
      ]
    where
      more : List Fact
      more = flat_map (λ (x : Reason). premises x.how) (map (reason_at s) (filter (puts s) ts))

      stood : (a b : Bool) → b ≡ true → not (not a && b) ≡ true → a ≡ true
      stood true b e f = refl
      stood false true e f = differ f
      stood false false e f = e

  base_true : (ts : List Fact) → AreThere D ts → AllByRecursion (IsTrue ms D all) (map rooted ts)
  base_true [] there = tt
  base_true (t ∷ ts) there = (there t (or_left (same_fact t t) (has ts t) (same_itself t)), base_true ts (λ u h. there u (or_right (same_fact u t) (has ts u) h)))

  told_true : (E : List Fact) (ss : List Step) → ((i : ℕ) (s : Step) → slice_get ss i ≡ Some s → Listed s) → LeadsTo ms D ss E → (ts : List Fact) → AreThere E ts
      → AllByRecursion (IsTrue ms D all) (explained ss ts)
  told_true E [] listed l ts there = base_true ts (λ t h. ap (λ F. has F t) (sym l) ∙ there t h)
  told_true E (s ∷ ss) listed l ts there =
      all_join (IsTrue ms D all) (map (reason_at s) (filter (puts s) ts)) _ (made_true s (listed 0 s refl) l.1 ts)
      (told_true s.before ss (λ i x e. listed (suc i) x e) l.2 (sought_before (puts s) (map (reason_at s) (filter (puts s) ts)) ts)
      (sought_there s l.1 ts (λ t h. ap (λ F. has F t) (sym l.0) ∙ there t h)))

-- ---- the last one first

last_or : (xs : List Step) (s x : Step) (i : ℕ) → slice_get (xs ++ s ∷ []) i ≡ Some x → (slice_get xs i ≡ Some x) ⊎ (s ≡ x)
last_or [] s x zero e = inr (some_same s x e)
last_or [] s x (suc i) e = absurd (none_some x e)
last_or (y ∷ xs) s x zero e = inl e
last_or (y ∷ xs) s x (suc i) e = last_or xs s x i e

listed_turned : (ss : List Step) (i : ℕ) (x : Step) → slice_get (reverse ss) i ≡ Some x → Listed [] [] ss x
listed_turned [] i x e = absurd (none_some x e)
listed_turned (s ∷ ss) i x e =
    elim (last_or (reverse ss) s x i (ap (λ l. slice_get l i) (sym (reverse-append (s ∷ []) ss)) ∙ e)) [
      | inl f ↦ let r = listed_turned ss i x f in (suc r.0, r.1)
      | inr f ↦ (0, ap Some f)
    ]

pub reasons_true : ReasonsAreTrue
reasons_true ms B D rs t reasons some plain numbered e = by (has (answered repository) t) refl e
  where
    ss : List Step
    ss = serial_steps every ms B D (turns_of ms B rs)

    repository : List Fact
    repository = (serial (whole_chase ms B) D (turns_of ms B rs)).repository

    there : has (answered repository) t ≡ true → (u : Fact) → has (t ∷ []) u ≡ true → has repository u ≡ true
    there h u k =
        elim (or_cases (same_fact u t) false k) [
          | inl f ↦ ap (has repository) (same_exact u t f) ∙ (and_parts (has repository t) (not (t.relation == force_relation)) (sym (has-filter (λ s. not (s.relation == force_relation)) repository t) ∙ h)).0
          | inr f ↦ differ f
        ]

    by : (b : Bool) → has (answered repository) t ≡ b → (if b then Some (explained (reverse ss) (t ∷ [])) else None) ≡ Some reasons → AllByRecursion (IsTrue ms D ss) reasons
    by false h f = absurd (none_some reasons f)
    by true h f =
        subst (AllByRecursion (IsTrue ms D ss)) (some_same (explained (reverse ss) (t ∷ [])) reasons f)
        (told_true ms D ss repository (reverse ss) (listed_turned ss) (turned ms D repository ss (serial_leads ms B some plain numbered D (turns_of ms B rs))) (t ∷ []) (there h))

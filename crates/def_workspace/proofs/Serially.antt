-- A run of an op is one of the serial machine, step by step.
use Rattle.std.proofs.Common.{◌≡◌, ◌∙◌, ap, sym, subst, refl, ℕ, zero, suc, true, false, Bool, ◌&&◌, not, ◌==◌, Option, Some, None, is_some, List, [], ◌∷◌, ◌++◌, length, map, append_assoc, find, cond, ◌||◌, ◌≤◌, arith, if◌then◌else◌}
use Rattle.std.specs.Option.{option_map, option_and_then}
use Rattle.std.specs.List.{list_any, list_all, slice_get}
use Rattle.std.proofs.lemmas.Bool.{ne_eqb}
use Rattle.std.proofs.lemmas.List.{append-nil}
use Rattle.def_machine.specs.Serial.{Ends, run as machine_run}
use Rattle.def_chase.specs.Values.{Fact, same_fact, outer}
use Rattle.def_chase.proofs.Bools.{none_some, some_same, or_left, or_right, both}
use Rattle.def_chase.proofs.Sets.{same_itself}
use Rattle.def_chase.specs.Updates.{Operation, Choice, Expand, Unify, Drop}
use Rattle.def_steps.specs.Attempts.{Outcome, Done, Spent, Refused, Question, Positive, Negative, Phase, Start, Look, Generate, Asked, Ended, Attempt, outcome_in, question_in, begun}
use Rattle.def_steps.specs.Chase.{chase}
use Rattle.def_steps.specs.Questions.{fits, is_outer_of}
use Rattle.def_workspace.specs.Lines.{Given, Asked as AskedFor}
use Rattle.def_workspace.specs.Names.{Names, fact_named}
use Rattle.def_workspace.specs.Runs.{Setting, Thread, Rested, Rests, Halts, rules_of, move_by, next, by_phase, by_choice, fitting, fitting_at, fitting_if, choice_for, called, all_called, some_called, asked_by, run, drawn, answered, same_asked, Reason, TooLong, begun_with, run_op}
use Rattle.def_workspace.specs.RunLaws.{OpsAreSerial}

-- The attempt ended so, and the choices that the op took go on from those given.
pub record GoesOn (s : Setting) (D : List Fact) (k : ℕ) (P : Attempt) (cs : List Choice) (Q : Attempt) (ds : List Choice) : Type 0 where
  pub more : List Choice
  pub all : ds ≡ cs ++ more
  pub done : Q.phase ≡ Ended Done
  pub ends : machine_run (chase s.scope (rules_of s.active) s.steps) P.operation D ds k P ≡ Ends Q

-- ---- steps of the machine

module _ (s : Setting) (D : List Fact) (ds : List Choice) (k : ℕ) (P : Attempt) where
  -- With no question it makes the next step.
  pub goes : outcome_in P.phase ≡ None → question_in P.phase ≡ None
      → machine_run (chase s.scope (rules_of s.active) s.steps) P.operation D ds (suc k) P
      ≡ machine_run (chase s.scope (rules_of s.active) s.steps) P.operation D ds k (next s D P None)
  goes o q = rw (o, q) refl

  -- At a question with an answer that fits it makes the step of that answer.
  pub goes_by : (q : Question) (c : Choice) → P.phase ≡ Asked q → slice_get ds P.taken ≡ Some c → fits q c ≡ true
      → machine_run (chase s.scope (rules_of s.active) s.steps) P.operation D ds (suc k) P
      ≡ machine_run (chase s.scope (rules_of s.active) s.steps) P.operation D ds k (next s D P (Some c))
  goes_by q c e g f = rw (e, g, f) refl

  -- At its end it ends.
  pub rests : (o : Outcome) → P.phase ≡ Ended o → machine_run (chase s.scope (rules_of s.active) s.steps) P.operation D ds (suc k) P ≡ Ends P
  rests o e = rw e refl

-- ---- answers that fit

-- What a search finds passes each test that it passes.
found_any : {A : Type 0} (p q : A → Bool) (xs : List A) (y : A) → find p xs ≡ Some y → q y ≡ true → list_any q xs ≡ true
found_any p q [] y e h = absurd (none_some y e)
found_any p q (x ∷ xs) y e h = by (p x) e (λ f. found_any p q xs y f h)
  where
    by : (b : Bool) → cond b (Some x) (find p xs) ≡ Some y → (find p xs ≡ Some y → list_any q xs ≡ true) → (q x || list_any q xs) ≡ true
    by true f later = or_left (q x) (list_any q xs) (ap q (some_same x y f) ∙ h)
    by false f later = or_right (q x) (list_any q xs) (later f)

-- A tuple that is called so is one of them, by its outer form.
called_outer : (ns : Names) (ts : List Fact) (o u : Fact) → called ns ts o ≡ Some u → is_outer_of ts (outer u) ≡ true
called_outer ns ts o u e = found_any (λ t. same_fact (fact_named ns t) o) (λ t. same_fact (outer t) (outer u)) ts u e (same_itself (outer u))

-- What comes of an option that is mapped.
mapped : {A B : Type 0} (f : A → B) (o : Option A) (y : B) → option_map f o ≡ Some y → (x : A) × (o ≡ Some x) × (f x ≡ y)
mapped f None y e = absurd (none_some y e)
mapped f (Some x) y e = (x, refl, some_same (f x) y e)

all_outer : (ns : Names) (ts os us : List Fact) → all_called ns ts os ≡ Some us → list_all (is_outer_of ts) (map outer us) ≡ true
all_outer ns ts [] us e = ap (λ vs. list_all (is_outer_of ts) (map outer vs)) (sym (some_same [] us e))
all_outer ns ts (o ∷ os) us e = by (called ns ts o) (all_called ns ts os) refl (λ vs d. all_outer ns ts os vs d) e
  where
    by : (a : Option Fact) (b : Option (List Fact)) → called ns ts o ≡ a
        → ((vs : List Fact) → b ≡ Some vs → list_all (is_outer_of ts) (map outer vs) ≡ true)
        → option_and_then (λ t. option_map (λ vs. t ∷ vs) b) a ≡ Some us → list_all (is_outer_of ts) (map outer us) ≡ true
    by None b c later f = absurd (none_some us f)
    by (Some t) None c later f = absurd (none_some us f)
    by (Some t) (Some vs) c later f =
        subst (λ xs. list_all (is_outer_of ts) (map outer xs) ≡ true) (some_same (t ∷ vs) us f)
        (both (is_outer_of ts (outer t)) (list_all (is_outer_of ts) (map outer vs)) (called_outer ns ts o t c) (later vs refl))

abbrev is_some_list : List Fact → Type 0
is_some_list [] = ⊥
is_some_list (t ∷ ts) = Unit {0}

no_list : (t : Fact) (ts : List Fact) → t ∷ ts ≡ [] → ⊥
no_list t ts e = subst is_some_list e tt

some_outer : (ns : Names) (ts os us : List Fact) → some_called ns ts os ≡ Some us
    → (not (length (map outer us) == 0) && list_all (is_outer_of ts) (map outer us)) ≡ true
some_outer ns ts [] us e = absurd (none_some us e)
some_outer ns ts (o ∷ os) [] e = absurd (by (called ns ts o) (all_called ns ts os) e)
  where
    by : (a : Option Fact) (b : Option (List Fact)) → option_and_then (λ t. option_map (λ vs. t ∷ vs) b) a ≡ Some [] → ⊥
    by None b f = none_some [] f
    by (Some t) None f = none_some [] f
    by (Some t) (Some vs) f = no_list t vs (some_same (t ∷ vs) [] f)
some_outer ns ts (o ∷ os) (u ∷ us) e =
    both (not (length (map outer (u ∷ us)) == 0)) _ (ap not (ne_eqb (suc (length (map outer us))) 0 (λ h. absurd (omega (arith, h))))) (all_outer ns ts (o ∷ os) (u ∷ us) e)

-- The choice for a question fits it.
choice_fits : (ns : Names) (q : Question) (c d : Choice) → choice_for ns q c ≡ Some d → fits q d ≡ true
choice_fits ns (Positive r t cs) Expand d e = ap (fits (Positive r t cs)) (sym (some_same Expand d e))
choice_fits ns (Positive r t cs) (Unify o) d e =
    let m = mapped (λ (u : Fact). Unify (outer u)) (called ns cs o) d e in
    ap (fits (Positive r t cs)) (sym m.2) ∙ called_outer ns cs o m.0 m.1
choice_fits ns (Positive r t cs) (Drop os) d e = absurd (none_some d e)
choice_fits ns (Negative n ts) Expand d e = absurd (none_some d e)
choice_fits ns (Negative n ts) (Unify o) d e = absurd (none_some d e)
choice_fits ns (Negative n ts) (Drop os) d e =
    let m = mapped (λ (us : List Fact). Drop (map outer us)) (some_called ns ts os) d e in
    ap (fits (Negative n ts)) (sym m.2) ∙ some_outer ns ts os m.0 m.1

-- An answer that fits is a choice that fits.
fitting_fits : (s : Setting) (ns : Names) (q : Question) (gs : List Given) (d : Choice) → fitting s.active ns q gs ≡ Some d → fits q d ≡ true
fitting_fits s ns q [] d e = absurd (none_some d e)
fitting_fits s ns q (g ∷ gs) d e = by (asked_by s.active ns q) e
  where
    same : (a : AskedFor) (b : Bool) → fitting_if b ns q g.choice ≡ Some d → fits q d ≡ true
    same a true f = choice_fits ns q g.choice d f
    same a false f = absurd (none_some d f)

    by : (o : Option AskedFor) → fitting_at ns q g o ≡ Some d → fits q d ≡ true
    by None f = absurd (none_some d f)
    by (Some a) f = same a (same_asked a g.asked) f

-- ---- the run

at_place : (cs : List Choice) (c : Choice) (es : List Choice) → slice_get ((cs ++ c ∷ []) ++ es) (length cs) ≡ Some c
at_place [] c es = refl
at_place (x ∷ cs) c es = at_place cs c es

one_longer : (cs : List Choice) (c : Choice) → length (cs ++ c ∷ []) ≡ suc (length cs)
one_longer [] c = refl
one_longer (x ∷ cs) c = ap suc (one_longer cs c)

abbrev is_halt : Rested → Type 0
is_halt (Rests P cs t) = ⊥
is_halt (Halts r t) = Unit {0}

abbrev attempt_in : Attempt → Rested → Attempt
attempt_in d (Rests P cs t) = P
attempt_in d (Halts r t) = d

abbrev choices_in : List Choice → Rested → List Choice
choices_in d (Rests P cs t) = cs
choices_in d (Halts r t) = d

no_halt : (r : Reason) (t : Thread) (Q : Attempt) (ds : List Choice) (u : Thread) → Halts r t ≡ Rests Q ds u → ⊥
no_halt r t Q ds u e = subst is_halt e tt

-- With no step left.
module _ (s : Setting) (D : List Fact) (P : Attempt) (cs : List Choice) (t : Thread) (Q : Attempt) (ds : List Choice) (u : Thread) where
  abbrev stops : Attempt → List Choice → Thread → Rested
  stops R es v = Halts TooLong v

  no_answer : (q : Question) (o : Option Choice) → by_choice s D stops P q cs t o ≡ Rests Q ds u → GoesOn s D zero P cs Q ds
  no_answer q None f = absurd (no_halt _ _ Q ds u f)
  no_answer q (Some c) f = absurd (no_halt _ _ Q ds u f)

  none_left : (f : Phase) → P.phase ≡ f → by_phase s D stops P cs t f ≡ Rests Q ds u → GoesOn s D zero P cs Q ds
  none_left Start p f = absurd (no_halt _ _ Q ds u f)
  none_left Look p f = absurd (no_halt _ _ Q ds u f)
  none_left (Generate r) p f = absurd (no_halt _ _ Q ds u f)
  none_left (Asked q) p f = no_answer q (fitting s.active t.names q t.answers) f
  none_left (Ended Done) p f =
      record { more = []; all = sym (ap (choices_in cs) f) ∙ sym (append-nil cs); done = ap (λ R. R.phase) (sym (ap (attempt_in P) f)) ∙ p; ends = ap Ends (ap (attempt_in P) f) }
  none_left (Ended Spent) p f = absurd (no_halt _ _ Q ds u f)
  none_left (Ended (Refused m)) p f = absurd (no_halt _ _ Q ds u f)

-- With a step left, if it goes on so from every later state.
module _ (s : Setting) (D : List Fact) (k : ℕ) (P : Attempt) (cs : List Choice) (t : Thread) (Q : Attempt) (ds : List Choice) (u : Thread)
    (n : P.taken ≡ length cs) (later : (R : Attempt) (es : List Choice) (v : Thread) → R.taken ≡ length es → run s D k R es v ≡ Rests Q ds u → GoesOn s D k R es Q ds) where
  abbrev on : Attempt → List Choice → Thread → Rested
  on R es v = run s D k R es v

  after_step : outcome_in P.phase ≡ None → question_in P.phase ≡ None
      → run s D k (next s D P None) cs (drawn s P (move_by s D P None) t) ≡ Rests Q ds u → GoesOn s D (suc k) P cs Q ds
  after_step c q f =
      let taken : (next s D P None).taken ≡ length cs = ap (λ o. if is_some o then suc P.taken else P.taken) q ∙ n in
      let g : GoesOn s D k (next s D P None) cs Q ds = later (next s D P None) cs (drawn s P (move_by s D P None) t) taken f in
      record { more = g.more; all = g.all; done = g.done; ends = goes s D ds k P c q ∙ g.ends }

  by_answer : (q : Question) → P.phase ≡ Asked q → (o : Option Choice) → fitting s.active t.names q t.answers ≡ o
      → by_choice s D on P q cs t o ≡ Rests Q ds u → GoesOn s D (suc k) P cs Q ds
  by_answer q p None h f = absurd (no_halt _ _ Q ds u f)
  by_answer q p (Some c) h f =
      let taken : (next s D P (Some c)).taken ≡ length (cs ++ c ∷ []) =
      ap (λ g. if is_some (question_in g) then suc P.taken else P.taken) p ∙ (ap suc n ∙ sym (one_longer cs c)) in
      let g : GoesOn s D k (next s D P (Some c)) (cs ++ c ∷ []) Q ds =
      later (next s D P (Some c)) (cs ++ c ∷ []) (drawn s P (move_by s D P (Some c)) (answered q c t)) taken f in
      let there : slice_get ds P.taken ≡ Some c =
      ap (λ m. slice_get ds m) n ∙ (ap (λ xs. slice_get xs (length cs)) g.all ∙ at_place cs c g.more) in
      record {
        more = c ∷ g.more;
        all = g.all ∙ append_assoc cs (c ∷ []) g.more;
        done = g.done;
        ends = goes_by s D ds k P q c p there (fitting_fits s t.names q t.answers c h) ∙ g.ends;
      }

  one_step : (f : Phase) → P.phase ≡ f → by_phase s D on P cs t f ≡ Rests Q ds u → GoesOn s D (suc k) P cs Q ds
  one_step Start p f = after_step (ap outcome_in p) (ap question_in p) f
  one_step Look p f = after_step (ap outcome_in p) (ap question_in p) f
  one_step (Generate r) p f = after_step (ap outcome_in p) (ap question_in p) f
  one_step (Asked q) p f = by_answer q p (fitting s.active t.names q t.answers) refl f
  one_step (Ended Done) p f =
      record {
        more = [];
        all = sym (ap (choices_in cs) f) ∙ sym (append-nil cs);
        done = ap (λ R. R.phase) (sym (ap (attempt_in P) f)) ∙ p;
        ends = rests s D ds k P Done p ∙ ap Ends (ap (attempt_in P) f);
      }
  one_step (Ended Spent) p f = absurd (no_halt _ _ Q ds u f)
  one_step (Ended (Refused m)) p f = absurd (no_halt _ _ Q ds u f)

pub goes_on : (s : Setting) (D : List Fact) (k : ℕ) (P : Attempt) (cs : List Choice) (t : Thread) (Q : Attempt) (ds : List Choice) (u : Thread)
    → P.taken ≡ length cs → run s D k P cs t ≡ Rests Q ds u → GoesOn s D k P cs Q ds
goes_on s D zero P cs t Q ds u n e = none_left s D P cs t Q ds u P.phase refl e
goes_on s D (suc k) P cs t Q ds u n e =
    one_step s D k P cs t Q ds u n (λ R es v c d. goes_on s D k R es v Q ds u c d) P.phase refl e

-- An op that comes to rest has ended done.
pub op_is_done : (s : Setting) (D : List Fact) (seq : ℕ) (op : Operation) (t : Thread) (P : Attempt) (cs : List Choice) (u : Thread)
    → run_op s D seq op t ≡ Rests P cs u → P.phase ≡ Ended Done
op_is_done s D seq op t P cs u e = (goes_on s D s.steps (begun seq 0 op) [] (begun_with D op t) P cs u refl e).done

-- It made a step.
pub op_has_steps : (s : Setting) (D : List Fact) (k seq : ℕ) (op : Operation) (t : Thread) (P : Attempt) (cs : List Choice) (u : Thread)
    → run s D k (begun seq 0 op) [] t ≡ Rests P cs u → 1 ≤ k
op_has_steps s D zero seq op t P cs u e = absurd (no_halt _ _ P cs u e)
op_has_steps s D (suc k) seq op t P cs u e = omega arith

pub ops_are_serial : OpsAreSerial
ops_are_serial s D seq op t P cs u e = (goes_on s D s.steps (begun seq 0 op) [] (begun_with D op t) P cs u refl e).ends

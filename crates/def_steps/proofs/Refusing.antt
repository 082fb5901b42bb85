-- Only a start is refused, and it has written nothing.
use Rattle.std.specs.Prelude.{◌==◌, nat_lt, is_some, if◌then◌else◌, slice_get}
use Rattle.std.proofs.Common.{◌≡◌, ℕ, suc, ap, refl, sym, ◌∙◌, List, [], ◌∷◌, ◌++◌, map, length, append-nil, Bool, true, false, ◌||◌, cond, Option, Some, None}
use Rattle.std.specs.Option.{option_map}
use Rattle.std.proofs.lemmas.Bool.{both_ways}
use Rattle.def_machine.specs.Trees.{Node, result_of}
use Rattle.def_machine.specs.Updates.{Read}
use Rattle.def_machine.specs.Standings.{next_answer}
use Rattle.def_machine.specs.Runs.{Reached, start, more}
use Rattle.def_chase.specs.Values.{NullName, Fact, under}
use Rattle.def_chase.specs.Repository.{Change, Insert, Delete}
use Rattle.def_chase.specs.Mappings.{Rule, force}
use Rattle.def_chase.specs.Unifier.{unifier}
use Rattle.def_chase.specs.Violations.{Direction, Forward, Backward, Scope}
use Rattle.def_chase.proofs.Bools.{none_some}
use Rattle.def_chase.specs.Queries.{Query, Present, Violation, Specific, Occurs, Reply, value}
use Rattle.def_chase.specs.Updates.{Operation, Adds, Removes, Replaces, Enacts, direction_of, Choice, Expand, Unify, Drop}
use Rattle.def_steps.specs.Attempts.{Outcome, Done, Spent, Refused, Repair, Question, Positive, Negative, Phase, Start, Look, Generate, Asked, Ended, Attempt, outcome_in}
use Rattle.def_steps.specs.Rewriting.{in_order, rewrite, null_of, nulls_in, moved_nulls, right_atoms, generated, next_atom}
use Rattle.def_steps.specs.Questions.{candidate}
use Rattle.def_steps.specs.Steps.{Move, Asking, makes, tuples_of, is_yes, image_in, Holders, resolve, unless_none, find_nulls, negative, repair, repair_or, look_at, look_from, compared, generate, gather, unify, answer, step_in, step, moved}
use Rattle.def_steps.specs.Chase.{ending, chase}
use Rattle.def_steps.specs.Origins.{RefusedWritesNothing}

abbrev is_refused : Phase → Bool
is_refused Start = false
is_refused Look = false
is_refused (Generate r) = false
is_refused (Asked q) = false
is_refused (Ended Done) = false
is_refused (Ended Spent) = false
is_refused (Ended (Refused n)) = true

abbrev is_start : Phase → Bool
is_start Start = true
is_start Look = false
is_start (Generate r) = false
is_start (Asked q) = false
is_start (Ended o) = false

module _ (val : Query → Reply) where
  -- the move leads on to a later phase, and no refusal
  abbrev LeadsOn : Asking → Type 0
  LeadsOn x = (is_refused (result_of val x).phase ≡ false) × (is_start (result_of val x).phase ≡ false)

  -- the move of a start, which may refuse: then it writes nothing
  abbrev MayRefuse : Asking → Type 0
  MayRefuse x = (is_refused (result_of val x).phase ≡ true → (result_of val x).writes ≡ []) × (is_start (result_of val x).phase ≡ false)

  either : (P : Asking → Type 0) (b : Bool) (x y : Asking) → P x → P y → P (cond b x y)
  either P true x y f g = f
  either P false x y f g = g

  fine : (x : Asking) → LeadsOn x → MayRefuse x
  fine x h = (λ e. absurd (both_ways (is_refused (result_of val x).phase) h.0 e), h.1)

  unless_may : (n : NullName) (ts : List Fact) (rest : Asking) → MayRefuse rest → MayRefuse (unless_none n ts rest)
  unless_may n [] rest h = (λ e. refl, refl)
  unless_may n (t ∷ ts) rest h = h

  found_may : (ns : List NullName) (go : Holders → Asking) → ((holders : Holders) → MayRefuse (go holders)) → MayRefuse (find_nulls ns go)
  found_may [] go h = h []
  found_may (n ∷ ns) go h =
      unless_may n (tuples_of (val (Occurs n.update n.place))) _
      (found_may ns (λ holders. go ((n, tuples_of (val (Occurs n.update n.place))) ∷ holders)) (λ holders. h ((n, tuples_of (val (Occurs n.update n.place))) ∷ holders)))

  look_on : (ws : List Change) → LeadsOn (makes ws Look)
  look_on ws = (refl, refl)

  start_may : (op : Operation) → MayRefuse (Rattle.def_steps.specs.Steps.start op)
  start_may (Adds t) =
      found_may (nulls_in t.values) _
      (λ holders. either MayRefuse (is_yes (val (Present (under (resolve holders) t)))) (makes [] Look) (makes (Insert (under (resolve holders) t) ∷ []) Look) (fine (makes [] Look) (look_on [])) (fine (makes (Insert (under (resolve holders) t) ∷ []) Look) (look_on (Insert (under (resolve holders) t) ∷ []))))
  start_may (Removes t) =
      found_may (nulls_in t.values) _
      (λ holders. either MayRefuse (is_yes (val (Present (under (resolve holders) t)))) (makes (Delete (under (resolve holders) t) ∷ []) Look) (makes [] Look) (fine (makes (Delete (under (resolve holders) t) ∷ []) Look) (look_on (Delete (under (resolve holders) t) ∷ []))) (fine (makes [] Look) (look_on [])))
  start_may (Replaces n v) = unless_may n (tuples_of (val (Occurs n.update n.place))) _ (found_may (null_of v) _ (λ holders. (λ e. absurd (both_ways false refl e), refl)))
  start_may (Enacts n) = fine (makes (Insert (force n) ∷ []) Look) (look_on (Insert (force n) ∷ []))

  negative_on : (n : ℕ) (ts : List Fact) → LeadsOn (negative n ts)
  negative_on n [] = (refl, refl)
  negative_on n (t ∷ []) = (refl, refl)
  negative_on n (t ∷ s ∷ ts) = (refl, refl)

  repair_on : (P : Attempt) (d : Direction) (n : ℕ) (m : Rule) (image : List Fact) → LeadsOn (repair P d n m image)
  repair_on P Forward n m image = (refl, refl)
  repair_on P Backward n m image = negative_on n (in_order image)

  repaired_on : (P : Attempt) (n : ℕ) (m : Rule) (o : Option (List Fact)) (rest : Asking) → LeadsOn rest → LeadsOn (repair_or P n m o rest)
  repaired_on P n m None rest h = h
  repaired_on P n m (Some image) rest h = repair_on P (direction_of P.operation) n m image

  look_leads : (P : Attempt) (n : ℕ) (ms : List Rule) → LeadsOn (look_from P n ms)
  look_leads P n [] = (refl, refl)
  look_leads P n (m ∷ ms) =
      let rest = look_from P (suc n) ms in
      let looked : LeadsOn (look_at P n m (look_from P (suc n) ms)) = repaired_on P n m (image_in (val (Violation n))) (look_from P (suc n) ms) (look_leads P (suc n) ms) in
      either LeadsOn (m.since == 0) (look_at P n m rest) _ looked
      (either LeadsOn (nat_lt P.number m.since) rest _ (look_leads P (suc n) ms)
      (either LeadsOn (is_yes (val (Present (force n)))) (look_at P n m rest) rest looked (look_leads P (suc n) ms)))

  next_on : (ms : List Rule) (ws : List Change) (r : Repair) → LeadsOn (makes ws (next_atom ms r))
  next_on ms ws r = by (nat_lt (suc r.atom) (length (right_atoms (slice_get ms r.mapping))))
    where
      by : (b : Bool) → LeadsOn (makes ws (cond b (Generate record { mapping = r.mapping; binding = r.binding; atom = suc r.atom }) Look))
      by true = (refl, refl)
      by false = (refl, refl)

  compared_on : (ms : List Rule) (r : Repair) (t : Fact) (cs : List Fact) → LeadsOn (compared ms r t cs)
  compared_on ms r t [] = next_on ms (Insert t ∷ []) r
  compared_on ms r t (c ∷ cs) = (refl, refl)

  generate_on : (ms : List Rule) (r : Repair) (t : Fact) → LeadsOn (generate ms r t)
  generate_on ms r t =
      either LeadsOn (is_yes (val (Present t))) (makes [] (next_atom ms r)) (Node (Specific t) (λ b. compared ms r t (tuples_of b))) (next_on ms [] r) (compared_on ms r t (tuples_of (val (Specific t))))

  gather_on : (ns : List NullName) (go : List Fact → Asking) → ((ts : List Fact) → LeadsOn (go ts)) → LeadsOn (gather ns go)
  gather_on [] go h = h []
  gather_on (n ∷ ns) go h = gather_on ns (λ ts. go (tuples_of (val (Occurs n.update n.place)) ++ ts)) (λ ts. h (tuples_of (val (Occurs n.update n.place)) ++ ts))

  answer_on : (ms : List Rule) (q : Question) (c : Choice) → LeadsOn (answer ms q c)
  answer_on ms (Positive r t cs) Expand = next_on ms (Insert t ∷ []) r
  answer_on ms (Positive r t cs) (Unify o) =
      gather_on (moved_nulls t (candidate t cs o)) _ (λ ts. next_on ms (rewrite (unifier t (candidate t cs o)) (in_order ts)) record { mapping = r.mapping; binding = map (unifier t (candidate t cs o)) r.binding; atom = r.atom })
  answer_on ms (Positive r t cs) (Drop os) = (refl, refl)
  answer_on ms (Negative n ts) Expand = (refl, refl)
  answer_on ms (Negative n ts) (Unify o) = (refl, refl)
  answer_on ms (Negative n ts) (Drop os) = (refl, refl)

  -- what a step does to an attempt that has written nothing where it starts
  step_refuses : (ms : List Rule) (P : Attempt) (c : Option Choice) (p : Phase) → outcome_in p ≡ None → (is_start p ≡ true → P.own ≡ []) → MayRefuse (step_in ms P c p) × (is_refused (result_of val (step_in ms P c p)).phase ≡ true → P.own ≡ [])
  step_refuses ms P c Start o h = (start_may P.operation, λ e. h refl)
  step_refuses ms P c Look o h = let l = look_leads P 0 ms in (fine (look_from P 0 ms) l, λ e. absurd (both_ways _ l.0 e))
  step_refuses ms P c (Generate r) o h = let l = generate_on ms r (generated ms r) in (fine (generate ms r (generated ms r)) l, λ e. absurd (both_ways _ l.0 e))
  step_refuses ms P None (Asked q) o h = (fine (makes [] (Asked q)) (refl, refl), λ e. absurd (both_ways false refl e))
  step_refuses ms P (Some c) (Asked q) o h = let l = answer_on ms q c in (fine (answer ms q c) l, λ e. absurd (both_ways _ l.0 e))
  step_refuses ms P c (Ended e) o h = absurd (none_some e (sym o))

-- An attempt that starts, or is refused, has written nothing.
pub record Unwritten (P : Attempt) : Type 0 where
  pub started : is_start P.phase ≡ true → P.own ≡ []
  pub refused : is_refused P.phase ≡ true → P.own ≡ []

module _ (scope : Operation → Scope) (ms : List Rule) (B : ℕ) (D : List Fact) (answers : List Choice) (u a : ℕ) (op : Operation) where
  spent_not : (b : Bool) (m : Move) (own : List Change) → (is_refused m.phase ≡ true → own ≡ []) → is_refused (if b then m.phase else Ended Spent) ≡ true → own ≡ []
  spent_not true m own h e = h e
  spent_not false m own h e = absurd (both_ways false refl e)

  start_not : (b : Bool) (m : Move) → is_start m.phase ≡ false → is_start (if b then m.phase else Ended Spent) ≡ false
  start_not true m h = h
  start_not false m h = refl

  unmapped : (o : Option Outcome) → option_map ending o ≡ None → o ≡ None
  unmapped None e = refl
  unmapped (Some x) e = absurd (none_some _ (sym e))

  reached_unwritten : {P : Attempt} {log : List (Read (chase scope ms B))} → Reached (chase scope ms B) D answers u a op P log → Unwritten P
  reached_unwritten start = record { started = λ e. refl; refused = λ e. refl }
  reached_unwritten (more {P} r going able) =
      let s : Unwritten P = reached_unwritten r in
      let c : Option Choice = next_answer (chase scope ms B) answers P in
      let m : Move = result_of (λ q. value ms q D P.own (scope op)) (step ms P c) in
      let f = step_refuses (λ q. value ms q D P.own (scope op)) ms P c P.phase (unmapped (outcome_in P.phase) going) s.started in
      let none : is_refused m.phase ≡ true → P.own ++ m.writes ≡ [] = λ e. ap (λ ws. P.own ++ ws) (f.0.0 e) ∙ append-nil P.own ∙ f.1 e in
      record {
        started = λ e. absurd (both_ways _ (start_not (is_some (outcome_in m.phase) || nat_lt (suc P.steps) B) m f.0.1) e);
        refused = spent_not (is_some (outcome_in m.phase) || nat_lt (suc P.steps) B) m (P.own ++ m.writes) none;
      }

pub refused_writes_nothing : RefusedWritesNothing
refused_writes_nothing scope ms B D answers u a op P log n r e = (reached_unwritten scope ms B D answers u a op r).refused (ap is_refused e)

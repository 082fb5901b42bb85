-- Where a step comes to a question, it writes nothing and asks about what is there.
use Rattle.std.proofs.Common.{◌≡◌, ℕ, suc, ap, refl, sym, ◌∙◌, subst, List, [], ◌∷◌, ◌++◌, map, length, filter, append-nil, Bool, true, false, ◌||◌, cond, Option, Some, None, arith}
use Rattle.std.specs.Prelude.{◌==◌, if◌then◌else◌, nat_lt, is_some, slice_get}
use Rattle.std.specs.Option.{option_map}
use Rattle.std.specs.List.{list_all}
use Rattle.std.proofs.lemmas.Bool.{both_ways, false≢true}
use Rattle.def_machine.specs.Trees.{Node, result_of}
use Rattle.def_machine.specs.Updates.{Read}
use Rattle.def_machine.specs.Standings.{next_answer}
use Rattle.def_machine.specs.Runs.{Reached, start, more}
use Rattle.def_chase.specs.Values.{NullName, Fact, under}
use Rattle.def_chase.specs.Repository.{Change, Insert, Delete, has, apply}
use Rattle.def_chase.specs.Mappings.{Rule, force, in_force}
use Rattle.def_chase.specs.Specific.{more_specific}
use Rattle.def_chase.specs.Unifier.{unifier}
use Rattle.def_chase.specs.Violations.{Direction, Forward, Backward, Scope, first_violation}
use Rattle.def_chase.specs.Queries.{Query, Present, Specific, Occurs, Reply, Yes, No, scope_at, value}
use Rattle.def_chase.specs.Updates.{Operation, Adds, Removes, Replaces, Enacts, direction_of, Choice, Expand, Unify, Drop}
use Rattle.def_chase.proofs.Bools.{none_some}
use Rattle.def_steps.specs.Attempts.{Outcome, Done, Spent, Repair, Question, Positive, Negative, Phase, Start, Look, Generate, Asked, Ended, Attempt, outcome_in}
use Rattle.def_steps.specs.Rewriting.{in_order, rewrite, null_of, nulls_in, moved_nulls, right_atoms, generated, next_atom}
use Rattle.def_steps.specs.Questions.{fits, candidate}
use Rattle.def_steps.specs.Steps.{Move, Asking, makes, tuples_of, is_yes, Holders, resolve, unless_none, find_nulls, image_in, negative, repair, repair_or, look_at, look_from, compared, generate, gather, answer, step_in, step, moved}
use Rattle.def_steps.specs.Chase.{ending, caused, caused_chase}
use Rattle.def_steps.specs.Looking.{NoneLater, found_or, first_in_force}
use Rattle.def_steps.specs.Timely.{in_time, repairs_plainly, acts_in_time}
use Rattle.def_steps.proofs.Steady.{Fitted, Tail, tail_next, first_reply, image_back}
use Rattle.def_steps.proofs.Reaching.{Steady, reached_steady, fitted}
use Rattle.def_steps.proofs.Timely.{none_later, view_in_time}
use Rattle.def_history.specs.Asked.{IsAsked}

abbrev is_asked : Phase → Bool
is_asked Start = false
is_asked Look = false
is_asked (Generate r) = false
is_asked (Asked q) = true
is_asked (Ended o) = false

module _ (ms : List Rule) (scope : Scope) (D : List Fact) (own : List Change) where
  abbrev E : List Fact
  E = apply D own

  abbrev val : Query → Reply
  val q = value ms q D own scope

  -- the move asks nothing
  abbrev Quiet : Asking → Type 0
  Quiet x = is_asked (result_of val x).phase ≡ false

  -- a move that asks writes nothing, and what it asks is so
  abbrev pub AsksRight : Move → Type 0
  AsksRight m = (q : Question) → m.phase ≡ Asked q → (m.writes ≡ []) × IsAsked ms scope own E q

  quiet : (x : Asking) → Quiet x → AsksRight (result_of val x)
  quiet x h q e = absurd (both_ways (is_asked (result_of val x).phase) h (ap is_asked e))

  either : (P : Asking → Type 0) (b : Bool) (x y : Asking) → P x → P y → P (cond b x y)
  either P true x y f g = f
  either P false x y f g = g

  -- ---- Start

  unless_quiet : (n : NullName) (ts : List Fact) (rest : Asking) → Quiet rest → Quiet (unless_none n ts rest)
  unless_quiet n [] rest h = refl
  unless_quiet n (t ∷ ts) rest h = h

  found_quiet : (ns : List NullName) (go : Holders → Asking) → ((holders : Holders) → Quiet (go holders)) → Quiet (find_nulls ns go)
  found_quiet [] go h = h []
  found_quiet (n ∷ ns) go h =
      unless_quiet n (tuples_of (val (Occurs n.update n.place))) _
      (found_quiet ns (λ holders. go ((n, tuples_of (val (Occurs n.update n.place))) ∷ holders)) (λ holders. h ((n, tuples_of (val (Occurs n.update n.place))) ∷ holders)))

  start_quiet : (op : Operation) → Quiet (Rattle.def_steps.specs.Steps.start op)
  start_quiet (Adds t) =
      found_quiet (nulls_in t.values) _ (λ holders. either Quiet (is_yes (val (Present (under (resolve holders) t)))) (makes [] Look) (makes (Insert (under (resolve holders) t) ∷ []) Look) refl refl)
  start_quiet (Removes t) =
      found_quiet (nulls_in t.values) _ (λ holders. either Quiet (is_yes (val (Present (under (resolve holders) t)))) (makes (Delete (under (resolve holders) t) ∷ []) Look) (makes [] Look) refl refl)
  start_quiet (Replaces n v) = unless_quiet n (tuples_of (val (Occurs n.update n.place))) _ (found_quiet (null_of v) _ (λ holders. refl))
  start_quiet (Enacts n) = refl

  -- ---- Look

  -- the tuples are those of the first violation
  negative_right : (n : ℕ) (image : List Fact) → first_in_force scope own 0 ms E ≡ Some (n, image) → (ts : List Fact) → ts ≡ in_order image → AsksRight (result_of val (negative n ts))
  negative_right n image f [] e = quiet (negative n []) refl
  negative_right n image f (t ∷ []) e = quiet (negative n (t ∷ [])) refl
  negative_right n image f (t ∷ s ∷ ts) e = λ q h. (refl, subst (IsAsked ms scope own E) (asked_same h) (record { image = image; first = f; distinct = e; several = omega arith }))
    where
      asked_same : {x y : Question} → Asked x ≡ Asked y → x ≡ y
      asked_same g = cc

  repair_right : (P : Attempt) (d : Direction) (n : ℕ) (m : Rule) (image : List Fact) → first_in_force scope own 0 ms E ≡ Some (n, image) → AsksRight (result_of val (repair P d n m image))
  repair_right P Forward n m image f = quiet (repair P Forward n m image) refl
  repair_right P Backward n m image f = negative_right n image f (in_order image) refl

  -- ---- Generate

  next_quiet : (ws : List Change) (r : Repair) → Quiet (makes ws (next_atom ms r))
  next_quiet ws r = by (nat_lt (suc r.atom) (length (right_atoms (slice_get ms r.mapping))))
    where
      by : (b : Bool) → Quiet (makes ws (cond b (Generate record { mapping = r.mapping; binding = r.binding; atom = suc r.atom }) Look))
      by true = refl
      by false = refl

  compared_right : (r : Repair) (t : Fact) → t ≡ generated ms r → has E t ≡ false → (cs : List Fact) → cs ≡ filter (λ s. more_specific s t) E → AsksRight (result_of val (compared ms r t cs))
  compared_right r t g h [] e = quiet (compared ms r t []) (next_quiet (Insert t ∷ []) r)
  compared_right r t g h (c ∷ cs) e = λ q f. (refl, subst (IsAsked ms scope own E) (asked_same f) (record { is_generated = g; absent = h; candidates = e; some = omega arith }))
    where
      asked_same : {x y : Question} → Asked x ≡ Asked y → x ≡ y
      asked_same g = cc

  generate_right : (r : Repair) (t : Fact) → t ≡ generated ms r → AsksRight (result_of val (generate ms r t))
  generate_right r t g = by (has E t) refl
    where
      by : (b : Bool) → has E t ≡ b → AsksRight (result_of val (cond (is_yes (cond b Yes No)) (makes [] (next_atom ms r)) (Node (Specific t) (λ b. compared ms r t (tuples_of b)))))
      by true e = quiet (makes [] (next_atom ms r)) (next_quiet [] r)
      by false e = compared_right r t g e (filter (λ s. more_specific s t) E) refl

  -- ---- Asked

  gather_quiet : (ns : List NullName) (go : List Fact → Asking) → ((ts : List Fact) → Quiet (go ts)) → Quiet (gather ns go)
  gather_quiet [] go h = h []
  gather_quiet (n ∷ ns) go h = gather_quiet ns (λ ts. go (tuples_of (val (Occurs n.update n.place)) ++ ts)) (λ ts. h (tuples_of (val (Occurs n.update n.place)) ++ ts))

  answer_quiet : (q : Question) (c : Choice) → fits q c ≡ true → Quiet (answer ms q c)
  answer_quiet (Positive r t cs) Expand f = next_quiet (Insert t ∷ []) r
  answer_quiet (Positive r t cs) (Unify o) f =
      gather_quiet (moved_nulls t (candidate t cs o)) _ (λ ts. next_quiet (rewrite (unifier t (candidate t cs o)) (in_order ts)) record { mapping = r.mapping; binding = map (unifier t (candidate t cs o)) r.binding; atom = r.atom })
  answer_quiet (Positive r t cs) (Drop os) f = absurd (false≢true f)
  answer_quiet (Negative n ts) Expand f = absurd (false≢true f)
  answer_quiet (Negative n ts) (Unify o) f = absurd (false≢true f)
  answer_quiet (Negative n ts) (Drop os) f = refl

module _ (ms : List Rule) (scope : Scope) (D : List Fact) (P : Attempt) (none : NoneLater P.number 0 ms (apply D P.own)) where
  abbrev Right : Asking → Type 0
  Right x = AsksRight ms scope D P.own (result_of (val ms scope D P.own) x)

  abbrev First : ℕ → List Rule → Option (ℕ × List Fact)
  First n rs = first_in_force scope P.own n rs (apply D P.own)

  -- the look finds the first violation of all, if the mappings before these have none
  look_right : (n : ℕ) (rs : List Rule) → Tail 0 ms scope D P.own n rs → NoneLater P.number n rs (apply D P.own) → First 0 ms ≡ First n rs → Right (look_from P n rs)
  look_right n [] t later f = quiet ms scope D P.own (makes [] (Ended Done)) refl
  look_right n (m ∷ rs) t later f =
      by (m.since == 0) refl (nat_lt P.number m.since) refl (has (apply D P.own) (force n)) refl (λ e. look_right (suc n) rs (tail_next 0 ms scope D P.own n m rs t) later.1 e)
    where
      Rest : Type 0
      Rest = First 0 ms ≡ First (suc n) rs → Right (look_from P (suc n) rs)

      -- what follows where the mapping is not in force
      skipped : in_force n m (apply D P.own) ≡ false → Rest → Right (look_from P (suc n) rs)
      skipped e rest = rest (f ∙ ap (λ b. if b then found_or n (first_violation (scope_at scope P.own n) P.own m (apply D P.own)) (First (suc n) rs) else First (suc n) rs) e)

      repaired : (o : Option (List Fact)) → First 0 ms ≡ found_or n o (First (suc n) rs) → Rest → Right (repair_or P n m o (look_from P (suc n) rs))
      repaired None e rest = rest e
      repaired (Some image) e rest = repair_right ms scope D P.own P (direction_of P.operation) n m image e

      looked : in_force n m (apply D P.own) ≡ true → Rest → Right (look_at P n m (look_from P (suc n) rs))
      looked e rest =
          subst (λ o. Right (repair_or P n m o (look_from P (suc n) rs)))
          (sym (ap image_in (first_reply 0 ms scope D P.own n m rs t) ∙ image_back (first_violation (scope_at scope P.own n) P.own m (apply D P.own))))
          (repaired (first_violation (scope_at scope P.own n) P.own m (apply D P.own))
          (f ∙ ap (λ b. if b then found_or n (first_violation (scope_at scope P.own n) P.own m (apply D P.own)) (First (suc n) rs) else First (suc n) rs) e) rest)

      by : (a : Bool) → (m.since == 0) ≡ a → (b : Bool) → nat_lt P.number m.since ≡ b → (c : Bool) → has (apply D P.own) (force n) ≡ c → Rest
          → Right (cond a (look_at P n m (look_from P (suc n) rs)) (cond b (look_from P (suc n) rs) (Node (Present (force n)) (λ r. cond (is_yes r) (look_at P n m (look_from P (suc n) rs)) (look_from P (suc n) rs)))))
      by true x b y c z rest = looked (ap (λ g. g || has (apply D P.own) (force n)) x) rest
      by false x true y c z rest = skipped (later.0 y) rest
      by false x false y true z rest =
          subst (λ g. Right (cond (is_yes (cond g Yes No)) (look_at P n m (look_from P (suc n) rs)) (look_from P (suc n) rs))) (sym z) (looked (λ i. x i || z i) rest)
      by false x false y false z rest =
          subst (λ g. Right (cond (is_yes (cond g Yes No)) (look_at P n m (look_from P (suc n) rs)) (look_from P (suc n) rs))) (sym z) (skipped (λ i. x i || z i) rest)

  pub step_right : (c : Option Choice) (p : Phase) → Fitted p c → outcome_in p ≡ None → Right (step_in ms P c p)
  step_right c Start f o = quiet ms scope D P.own (step_in ms P c Start) (start_quiet ms scope D P.own P.operation)
  step_right c Look f o = look_right 0 ms (λ j. ap (slice_get ms) (omega arith)) none refl
  step_right c (Generate r) f o = generate_right ms scope D P.own r (generated ms r) refl
  step_right None (Asked q) f o = absurd f
  step_right (Some c) (Asked q) f o = quiet ms scope D P.own (answer ms q c) (answer_quiet ms scope D P.own q c f)
  step_right c (Ended e) f o = absurd (none_some e (sym o))

-- ---- every state that is reached

module _ (ms : List Rule) (B : ℕ) (D : List Fact) (answers : List Choice) (u a : ℕ) (op : Operation) (plain : repairs_plainly ms ≡ true) (acts : acts_in_time ms u op ≡ true) (base : list_all (in_time ms u) D ≡ true) where
  unmapped : (o : Option Outcome) → option_map ending o ≡ None → o ≡ None
  unmapped None e = refl
  unmapped (Some x) e = absurd (none_some _ (sym e))

  none_now : {P : Attempt} {log : List (Read (caused_chase ms B))} → Reached (caused_chase ms B) D answers u a op P log → NoneLater P.number 0 ms (apply D P.own)
  none_now {P} r =
      let s : Steady u ms caused D op P = reached_steady caused ms B D answers u a op r in
      subst (λ n. NoneLater n 0 ms (apply D P.own)) (sym s.number)
      (none_later ms u (apply D P.own) (view_in_time caused ms B D answers u a op plain acts base r) 0 ms (λ j. ap (slice_get ms) (omega arith)))

  -- a question that is reached is asked about what is there
  moved_right : (P : Attempt) (m : Move) (b : Bool) → AsksRight ms (caused op) D P.own m → (q : Question) → (if b then m.phase else Ended Spent) ≡ Asked q → IsAsked ms (caused op) (P.own ++ m.writes) (apply D (P.own ++ m.writes)) q
  moved_right P m true h q e =
      let r = h q e in
      let same : P.own ++ m.writes ≡ P.own = ap (λ ws. P.own ++ ws) r.0 ∙ append-nil P.own in
      subst (λ ws. IsAsked ms (caused op) ws (apply D ws) q) (sym same) r.1
  moved_right P m false h q e = absurd (false≢true (ap is_asked e))

  pub reached_right : {P : Attempt} {log : List (Read (caused_chase ms B))} → Reached (caused_chase ms B) D answers u a op P log → (q : Question) → P.phase ≡ Asked q → IsAsked ms (caused op) P.own (apply D P.own) q
  reached_right start q e = absurd (false≢true (ap is_asked e))
  reached_right (more {P} r going able) q e =
      let c : Option Choice = next_answer (caused_chase ms B) answers P in
      let m : Move = result_of (λ x. value ms x D P.own (caused op)) (step ms P c) in
      moved_right P m (is_some (outcome_in m.phase) || nat_lt (suc P.steps) B)
      (step_right ms (caused op) D P (none_now r) c P.phase (fitted caused ms B answers P P.phase refl able going) (unmapped (outcome_in P.phase) going)) q e

-- A step asks for the violations of mappings in force alone.
use Rattle.std.specs.Prelude.{◌==◌, nat_lt, slice_get, Option, Some, None}
use Rattle.std.proofs.Common.{◌≡◌, ℕ, suc, ap, refl, sym, ◌∙◌, subst, List, [], ◌∷◌, ◌++◌, Bool, true, false, cond, arith}
use Rattle.std.specs.List.{AllByRecursion}
use Rattle.def_machine.specs.Trees.{Node, log_of}
use Rattle.def_chase.specs.Values.{NullName, Fact, under}
use Rattle.def_chase.specs.Repository.{Change, has, apply}
use Rattle.def_chase.specs.Mappings.{Rule, force, in_force}
use Rattle.def_chase.specs.Violations.{Direction, Forward, Backward, Scope}
use Rattle.def_chase.specs.Queries.{Query, Present, Violation, Specific, Occurs, Reply, Yes, No, value}
use Rattle.def_chase.specs.Updates.{Operation, Adds, Removes, Replaces, Enacts, direction_of, Choice, Expand, Unify, Drop}
use Rattle.def_chase.specs.Caused.{Looked}
use Rattle.def_chase.proofs.Bools.{some_same, or_left, or_right}
use Rattle.def_steps.specs.Attempts.{Repair, Question, Positive, Negative, Phase, Start, Look, Generate, Asked, Ended, Attempt}
use Rattle.def_steps.specs.Rewriting.{in_order, null_of, nulls_in, moved_nulls, generated, next_atom}
use Rattle.def_steps.specs.Questions.{candidate}
use Rattle.def_steps.specs.Steps.{Asking, makes, tuples_of, is_yes, image_in, Holders, resolve, unless_none, find_nulls, start, negative, repair, repair_or, look_at, look_from, compared, generate, gather, answer, step_in}
use Rattle.def_steps.proofs.Steady.{Tail, tail_next}

module _ (ms : List Rule) (scope : Scope) (D : List Fact) (own : List Change) where
  abbrev pub Fine : Query → Type 0
  Fine q = Looked ms q (apply D own)

  abbrev pub answers : Query → Reply
  answers q = value ms q D own scope

  -- Each query that the tree asks is fine.
  abbrev pub AsksFine : Asking → Type 0
  AsksFine t = AllByRecursion (λ (r : Query × Reply). Fine r.0) (log_of answers t)

  present_fine : (t : Fact) → Fine (Present t)
  present_fine t i m e f = cc

  specific_fine : (t : Fact) → Fine (Specific t)
  specific_fine t i m e f = cc

  occurs_fine : (u k : ℕ) → Fine (Occurs u k)
  occurs_fine u k i m e f = cc

  either_fine : (b : Bool) (x y : Asking) → AsksFine x → AsksFine y → AsksFine (cond b x y)
  either_fine true x y a b = a
  either_fine false x y a b = b

  unless_fine : (n : NullName) (ts : List Fact) (rest : Asking) → AsksFine rest → AsksFine (unless_none n ts rest)
  unless_fine n [] rest a = tt
  unless_fine n (t ∷ ts) rest a = a

  found_fine : (ns : List NullName) (go : Holders → Asking) → ((holders : Holders) → AsksFine (go holders)) → AsksFine (find_nulls ns go)
  found_fine [] go a = a []
  found_fine (n ∷ ns) go a = (
    occurs_fine n.update n.place,
    unless_fine n (tuples_of (answers (Occurs n.update n.place))) _ (found_fine ns (λ holders. go ((n, tuples_of (answers (Occurs n.update n.place))) ∷ holders)) (λ holders. a ((n, tuples_of (answers (Occurs n.update n.place))) ∷ holders))),
  )

  start_fine : (op : Operation) → AsksFine (start op)
  start_fine (Adds t) = found_fine (nulls_in t.values) _ (λ holders. (present_fine (under (resolve holders) t), either_fine (is_yes (answers (Present (under (resolve holders) t)))) (makes [] Look) _ tt tt))
  start_fine (Removes t) = found_fine (nulls_in t.values) _ (λ holders. (present_fine (under (resolve holders) t), either_fine (is_yes (answers (Present (under (resolve holders) t)))) _ (makes [] Look) tt tt))
  start_fine (Replaces n v) = (occurs_fine n.update n.place, unless_fine n (tuples_of (answers (Occurs n.update n.place))) _ (found_fine (null_of v) _ (λ holders. tt)))
  start_fine (Enacts n) = tt

  negative_fine : (n : ℕ) (ts : List Fact) → AsksFine (negative n ts)
  negative_fine n [] = tt
  negative_fine n (t ∷ []) = tt
  negative_fine n (t ∷ s ∷ ts) = tt

  repair_fine : (P : Attempt) (d : Direction) (n : ℕ) (m : Rule) (image : List Fact) → AsksFine (repair P d n m image)
  repair_fine P Forward n m image = tt
  repair_fine P Backward n m image = negative_fine n (in_order image)

  repaired_fine : (P : Attempt) (n : ℕ) (m : Rule) (o : Option (List Fact)) (rest : Asking) → AsksFine rest → AsksFine (repair_or P n m o rest)
  repaired_fine P n m None rest a = a
  repaired_fine P n m (Some image) rest a = repair_fine P (direction_of P.operation) n m image

  number_of : (i j : ℕ) → Violation i ≡ Violation j → i ≡ j
  number_of i j e = cc

  violation_fine : (n : ℕ) (m : Rule) → slice_get ms n ≡ Some m → in_force n m (apply D own) ≡ true → Fine (Violation n)
  violation_fine n m e f i l q g =
      let same : n ≡ i = number_of n i q in
      let one : m ≡ l = some_same m l (sym e ∙ ap (slice_get ms) same ∙ g) in
      (λ k. in_force (sym same k) (sym one k) (apply D own)) ∙ f

  look_fine : (P : Attempt) (n : ℕ) (rs : List Rule) → Tail 0 ms scope D own n rs → AsksFine (look_from P n rs)
  look_fine P n [] t = tt
  look_fine P n (m ∷ rs) t = by (m.since == 0) refl (nat_lt P.number m.since) (has (apply D own) (force n)) refl (look_fine P (suc n) rs (tail_next 0 ms scope D own n m rs t))
    where
      at : slice_get ms n ≡ Some m
      at = ap (slice_get ms) (omega arith) ∙ sym (t 0)

      looked : in_force n m (apply D own) ≡ true → AsksFine (look_from P (suc n) rs) → AsksFine (look_at P n m (look_from P (suc n) rs))
      looked f rest = (violation_fine n m at f, repaired_fine P n m (image_in (answers (Violation n))) (look_from P (suc n) rs) rest)

      by : (a : Bool) → (m.since == 0) ≡ a → (b c : Bool) → has (apply D own) (force n) ≡ c → AsksFine (look_from P (suc n) rs)
          → AsksFine (cond a (look_at P n m (look_from P (suc n) rs)) (cond b (look_from P (suc n) rs) (Node (Present (force n)) (λ r. cond (is_yes r) (look_at P n m (look_from P (suc n) rs)) (look_from P (suc n) rs)))))
      by true x b c z rest = looked (or_left (m.since == 0) (has (apply D own) (force n)) x) rest
      by false x true c z rest = rest
      by false x false true z rest =
          (present_fine (force n), subst (λ g. AsksFine (cond (is_yes (cond g Yes No)) (look_at P n m (look_from P (suc n) rs)) (look_from P (suc n) rs))) (sym z) (looked (or_right (m.since == 0) (has (apply D own) (force n)) z) rest))
      by false x false false z rest =
          (present_fine (force n), subst (λ g. AsksFine (cond (is_yes (cond g Yes No)) (look_at P n m (look_from P (suc n) rs)) (look_from P (suc n) rs))) (sym z) rest)

  compared_fine : (r : Repair) (t : Fact) (cs : List Fact) → AsksFine (compared ms r t cs)
  compared_fine r t [] = tt
  compared_fine r t (c ∷ cs) = tt

  generate_fine : (r : Repair) (t : Fact) → AsksFine (generate ms r t)
  generate_fine r t = (present_fine t, either_fine (is_yes (answers (Present t))) (makes [] (next_atom ms r)) (Node (Specific t) (λ b. compared ms r t (tuples_of b))) tt (specific_fine t, compared_fine r t (tuples_of (answers (Specific t)))))

  gather_fine : (ns : List NullName) (go : List Fact → Asking) → ((ts : List Fact) → AsksFine (go ts)) → AsksFine (gather ns go)
  gather_fine [] go a = a []
  gather_fine (n ∷ ns) go a = (occurs_fine n.update n.place, gather_fine ns (λ ts. go (tuples_of (answers (Occurs n.update n.place)) ++ ts)) (λ ts. a (tuples_of (answers (Occurs n.update n.place)) ++ ts)))

  answer_fine : (q : Question) (c : Choice) → AsksFine (answer ms q c)
  answer_fine (Positive r t cs) Expand = tt
  answer_fine (Positive r t cs) (Unify o) = gather_fine (moved_nulls t (candidate t cs o)) _ (λ ts. tt)
  answer_fine (Positive r t cs) (Drop os) = tt
  answer_fine (Negative n ts) Expand = tt
  answer_fine (Negative n ts) (Unify o) = tt
  answer_fine (Negative n ts) (Drop os) = tt

  pub step_fine : (P : Attempt) (c : Option Choice) (p : Phase) → AsksFine (step_in ms P c p)
  step_fine P c Start = start_fine P.operation
  step_fine P c Look = look_fine P 0 ms (λ j. ap (slice_get ms) (omega arith))
  step_fine P c (Generate r) = generate_fine r (generated ms r)
  step_fine P None (Asked q) = tt
  step_fine P (Some c) (Asked q) = answer_fine q c
  step_fine P c (Ended o) = tt

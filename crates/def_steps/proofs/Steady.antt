-- One step keeps what makes the caused violations all violations, and ends Done only where the mappings looked at hold.
use Rattle.std.specs.Prelude.{◌==◌, find, filter, unwrap_or, nat_lt, Option, Some, None}
use Rattle.std.proofs.Common.{◌≡◌, ℕ, suc, ◌+◌, ap, refl, sym, ◌∙◌, subst, List, [], ◌∷◌, ◌++◌, map, length, Bool, true, false, ◌||◌, ◌&&◌, cond, arith}
use Rattle.std.specs.List.{list_all, slice_get}
use Rattle.std.proofs.lemmas.Bool.{false≢true, and_parts, both_ways}
use Rattle.def_machine.specs.Trees.{Node, result_of}
use Rattle.def_chase.specs.Values.{NullName, Fact, same_fact, under, outer}
use Rattle.def_chase.specs.Repository.{Change, Insert, Delete, change, has, apply}
use Rattle.def_chase.specs.Mappings.{Rule, Holds, force, in_force}
use Rattle.def_chase.specs.Specific.{more_specific}
use Rattle.def_chase.specs.Violations.{Direction, Forward, Backward, Scope, Every, first_violation}
use Rattle.def_chase.specs.Queries.{Query, Present, Violation, Specific, Occurs, Reply, image_reply, violation_reply, scope_at, holds_null, value}
use Rattle.def_chase.specs.Updates.{Operation, Adds, Removes, Replaces, Enacts, direction_of, Choice, Expand, Unify, Drop}
use Rattle.def_chase.specs.Caused.{is_delete, Keeping}
use Rattle.def_chase.proofs.Violations.{none_violates}
use Rattle.def_chase.proofs.Rewritings.{inserting, keeping_none}
use Rattle.def_steps.specs.Attempts.{Outcome, Done, Spent, Refused, Repair, Question, Positive, Negative, Phase, Start, Look, Generate, Asked, Ended, Attempt}
use Rattle.def_steps.specs.Rewriting.{in_order, null_of, nulls_in, moved_nulls, standing_for, generated, next_atom, right_atoms}
use Rattle.def_steps.specs.Questions.{is_outer_of, fits, candidate, named}
use Rattle.def_steps.specs.Steps.{Move, Asking, makes, tuples_of, is_yes, image_in, Holders, resolve, unless_none, find_nulls, start, negative, repair, repair_or, look_at, look_from, compared, generate, gather, unify, answer, step_in}
use Rattle.def_steps.specs.Looking.{LookedHold}
use Rattle.def_steps.proofs.Gathered.{occurs, gathered, unifying, replacement, standing_named}

abbrev pub IsForward : Direction → Type 0
IsForward Forward = Unit {0}
IsForward Backward = ⊥

abbrev pub IsBackward : Direction → Type 0
IsBackward Forward = ⊥
IsBackward Backward = Unit {0}

-- What a question promises: forward ones are positive, with candidates that are more specific; backward ones are negative.
abbrev pub SoundQuestion : Direction → Question → Type 0
SoundQuestion d (Positive r t cs) = IsForward d × (list_all (λ s. more_specific s t) cs ≡ true)
SoundQuestion d (Negative n ts) = IsBackward d

-- What an end promises over what the attempt leaves: Done in the full scope, that the mappings looked at hold.
abbrev pub SoundEnd : ℕ → List Rule → Scope → List Fact → Outcome → Type 0
SoundEnd u ms scope E Done = scope ≡ Every → LookedHold u 0 ms E
SoundEnd u ms scope E Spent = Unit {0}
SoundEnd u ms scope E (Refused n) = Unit {0}

-- What a phase promises over the repository with the own writes.
abbrev pub SoundPhase : ℕ → List Rule → Scope → Direction → List Fact → Phase → Type 0
SoundPhase u ms scope d E Start = Unit {0}
SoundPhase u ms scope d E Look = Unit {0}
SoundPhase u ms scope d E (Generate r) = IsForward d
SoundPhase u ms scope d E (Asked q) = SoundQuestion d q
SoundPhase u ms scope d E (Ended o) = SoundEnd u ms scope E o

-- The next answer fits, where the phase asks; the attempt has not ended.
abbrev pub Fitted : Phase → Option Choice → Type 0
Fitted Start c = Unit {0}
Fitted Look c = Unit {0}
Fitted (Generate r) c = Unit {0}
Fitted (Asked q) None = ⊥
Fitted (Asked q) (Some c) = fits q c ≡ true
Fitted (Ended o) c = ⊥

-- ---- small facts

pub apply_join : (D : List Fact) (ws vs : List Change) → apply D (ws ++ vs) ≡ apply (apply D ws) vs
apply_join D [] vs = refl
apply_join D (w ∷ ws) vs = apply_join (change D w) ws vs

pub all_filter : {A : Type 0} (q : A → Bool) (E : List A) → list_all q (filter q E) ≡ true
all_filter q [] = refl
all_filter q (u ∷ E) = by (q u) refl (all_filter q E)
  where
    by : (b : Bool) → q u ≡ b → list_all q (filter q E) ≡ true → list_all q (cond b (u ∷ filter q E) (filter q E)) ≡ true
    by true e rest = (λ i. e i && rest i)
    by false e rest = rest

all_deletes : (ts : List Fact) → list_all is_delete (map Delete ts) ≡ true
all_deletes [] = refl
all_deletes (t ∷ ts) = all_deletes ts

-- A candidate of that outer form is one of those that pass.
pub candidate_passes : (q : Fact → Bool) (t : Fact) (cs : List Fact) (o : Fact) → list_all q cs ≡ true → is_outer_of cs o ≡ true → q (candidate t cs o) ≡ true
candidate_passes q t [] o a e = absurd (false≢true e)
candidate_passes q t (s ∷ cs) o a e = let p = and_parts (q s) (list_all q cs) a in by (same_fact (outer s) o) e p.0 (λ k. candidate_passes q t cs o p.1 k)
  where
    by : (b : Bool) → (b || is_outer_of cs o) ≡ true → q s ≡ true → (is_outer_of cs o ≡ true → q (candidate t cs o) ≡ true)
        → q (unwrap_or (cond b (Some s) (find (λ s. same_fact (outer s) o) cs)) t) ≡ true
    by true k h rest = h
    by false k h rest = rest k

pub image_back : (o : Option (List Fact)) → image_in (image_reply o) ≡ o
image_back None = refl
image_back (Some ts) = refl

-- ---- the rows, over a repository D with own writes, in a scope

module _ (u : ℕ) (ms : List Rule) (scope : Scope) (D : List Fact) (own : List Change) where
  abbrev pub E : List Fact
  E = apply D own

  abbrev pub val : Query → Reply
  val q = value ms q D own scope

  abbrev FineMove : Direction → Move → Type 0
  FineMove d m = Keeping d E m.writes × SoundPhase u ms scope d (apply E m.writes) m.phase

  unless_ok : (OK : Move → Type 0) (n : NullName) (ts : List Fact) (rest : Asking) → OK (result_of val (makes [] (Ended (Refused n)))) → ((t : Fact) (us : List Fact) → ts ≡ t ∷ us → OK (result_of val rest)) → OK (result_of val (unless_none n ts rest))
  unless_ok OK n [] rest a b = a
  unless_ok OK n (t ∷ ts) rest a b = b t ts refl

  pub found_ok : (OK : Move → Type 0) (ns : List NullName) (go : Holders → Asking) → ((n : NullName) → OK (result_of val (makes [] (Ended (Refused n))))) → ((holders : Holders) → OK (result_of val (go holders)))
      → OK (result_of val (find_nulls ns go))
  found_ok OK [] go a b = b []
  found_ok OK (n ∷ ns) go a b =
      unless_ok OK n (occurs E n) (find_nulls ns (λ holders. go ((n, occurs E n) ∷ holders))) (a n)
      (λ t us e. found_ok OK ns (λ holders. go ((n, occurs E n) ∷ holders)) a (λ holders. b ((n, occurs E n) ∷ holders)))

  pub gathered_is : (ns : List NullName) (go : List Fact → Asking) → result_of val (gather ns go) ≡ result_of val (go (gathered E ns))
  gathered_is [] go = refl
  gathered_is (n ∷ ns) go = gathered_is ns (λ ts. go (occurs E n ++ ts))

  if_ok : (OK : Move → Type 0) (b : Bool) (x y : Asking) → OK (result_of val x) → OK (result_of val y) → OK (result_of val (cond b x y))
  if_ok OK true x y a b = a
  if_ok OK false x y a b = b

  start_ok : (op : Operation) → FineMove (direction_of op) (result_of val (start op))
  start_ok (Adds t) =
      found_ok (FineMove Forward) (nulls_in t.values) _ (λ n. (inserting E [], tt))
      (λ holders. let s : Fact = under (resolve holders) t in if_ok (FineMove Forward) (is_yes (val (Present s))) (makes [] Look) (makes (Insert s ∷ []) Look) (inserting E [], tt) (inserting E (s ∷ []), tt))
  start_ok (Removes t) =
      found_ok (FineMove Backward) (nulls_in t.values) _ (λ n. (refl, tt))
      (λ holders. let s : Fact = under (resolve holders) t in if_ok (FineMove Backward) (is_yes (val (Present s))) (makes (Delete s ∷ []) Look) (makes [] Look) (refl, tt) (refl, tt))
  start_ok (Replaces n v) =
      unless_ok (FineMove Forward) n (occurs E n) _ (inserting E [], tt)
      (λ t us e. found_ok (FineMove Forward) (null_of v) _ (λ m. (inserting E [], tt))
      (λ holders. (replacement E n (standing_for n (occurs E n)) (resolve holders v) (standing_named n (occurs E n) (all_filter (holds_null n.update n.place) E) t us e), tt)))
  start_ok (Enacts n) = (inserting E (force n ∷ []), tt)

  negative_ok : (n : ℕ) (ts : List Fact) → FineMove Backward (result_of val (negative n ts))
  negative_ok n [] = (refl, tt)
  negative_ok n (t ∷ []) = (refl, tt)
  negative_ok n (t ∷ s ∷ ts) = (refl, tt)

  repair_ok : (P : Attempt) (d : Direction) (n : ℕ) (m : Rule) (image : List Fact) → FineMove d (result_of val (repair P d n m image))
  repair_ok P Forward n m image = (inserting E [], tt)
  repair_ok P Backward n m image = negative_ok n (in_order image)

  -- ---- Look

  -- the list is that of the mappings from number n on
  abbrev pub Tail : ℕ → List Rule → Type 0
  Tail n rs = (j : ℕ) → slice_get rs j ≡ slice_get ms (n + j)

  pub tail_next : (n : ℕ) (m : Rule) (rs : List Rule) → Tail n (m ∷ rs) → Tail (suc n) rs
  tail_next n m rs t j = t (suc j) ∙ ap (slice_get ms) (omega arith)

  pub first_reply : (n : ℕ) (m : Rule) (rs : List Rule) → Tail n (m ∷ rs) → val (Violation n) ≡ image_reply (first_violation (scope_at scope own n) own m E)
  first_reply n m rs t = ap (λ (o : Option Rule). violation_reply o (scope_at scope own n) own E) (ap (slice_get ms) (omega arith) ∙ sym (t 0))

  look_ok : (P : Attempt) (n : ℕ) (rs : List Rule) → Tail n rs → (scope ≡ Every → LookedHold P.number n rs E → LookedHold u 0 ms E) → FineMove (direction_of P.operation) (result_of val (look_from P n rs))
  look_ok P n [] t into = (keeping_none (direction_of P.operation) E, λ e. into e tt)
  look_ok P n (m ∷ rs) t into = by (m.since == 0) refl (nat_lt P.number m.since) refl (has E (force n)) refl
      (λ h. look_ok P (suc n) rs (tail_next n m rs t) (λ e k. into e (h e, k)))
    where
      OK : Asking → Type 0
      OK x = FineMove (direction_of P.operation) (result_of val x)

      Rest : Type 0
      Rest = (scope ≡ Every → nat_lt P.number m.since ≡ false → in_force n m E ≡ true → Holds m E) → OK (look_from P (suc n) rs)

      held : (o : Option (List Fact)) → o ≡ first_violation (scope_at scope own n) own m E → Rest → OK (repair_or P n m o (look_from P (suc n) rs))
      held None e rest = rest (λ s a f. none_violates m own E (sym (e ∙ (λ i. first_violation (scope_at (s i) own n) own m E))))
      held (Some image) e rest = repair_ok P (direction_of P.operation) n m image

      looked : Rest → OK (look_at P n m (look_from P (suc n) rs))
      looked rest = held (image_in (val (Violation n))) (ap image_in (first_reply n m rs t) ∙ image_back (first_violation (scope_at scope own n) own m E)) rest

      by : (a : Bool) → (m.since == 0) ≡ a → (b : Bool) → nat_lt P.number m.since ≡ b → (c : Bool) → has E (force n) ≡ c → Rest
          → OK (cond a (look_at P n m (look_from P (suc n) rs)) (cond b (look_from P (suc n) rs) (Node (Present (force n)) (λ r. cond (is_yes r) (look_at P n m (look_from P (suc n) rs)) (look_from P (suc n) rs)))))
      by true x b y c z rest = looked rest
      by false x true y c z rest = rest (λ s a f. absurd (both_ways (nat_lt P.number m.since) a y))
      by false x false y true z rest = subst (λ g. OK (cond (is_yes (cond g Rattle.def_chase.specs.Queries.Yes Rattle.def_chase.specs.Queries.No)) (look_at P n m (look_from P (suc n) rs)) (look_from P (suc n) rs))) (sym z) (looked rest)
      by false x false y false z rest =
          subst (λ g. OK (cond (is_yes (cond g Rattle.def_chase.specs.Queries.Yes Rattle.def_chase.specs.Queries.No)) (look_at P n m (look_from P (suc n) rs)) (look_from P (suc n) rs))) (sym z)
          (rest (λ s a f. absurd (both_ways (in_force n m E) (λ i. x i || z i) f)))

  -- ---- Generate

  next_sound : (F : List Fact) (r : Repair) → SoundPhase u ms scope Forward F (next_atom ms r)
  next_sound F r = by (nat_lt (suc r.atom) (length (right_atoms (slice_get ms r.mapping))))
    where
      by : (b : Bool) → SoundPhase u ms scope Forward F (cond b (Generate record { mapping = r.mapping; binding = r.binding; atom = suc r.atom }) Look)
      by true = tt
      by false = tt

  compared_ok : (r : Repair) (t : Fact) (cs : List Fact) → list_all (λ s. more_specific s t) cs ≡ true → FineMove Forward (result_of val (compared ms r t cs))
  compared_ok r t [] h = (inserting E (t ∷ []), next_sound _ r)
  compared_ok r t (c ∷ cs) h = (inserting E [], (tt, h))

  generate_ok : (r : Repair) (t : Fact) → FineMove Forward (result_of val (generate ms r t))
  generate_ok r t =
      if_ok (FineMove Forward) (is_yes (val (Present t))) (makes [] (next_atom ms r)) (Node (Specific t) (λ b. compared ms r t (tuples_of b))) (inserting E [], next_sound _ r)
      (compared_ok r t (filter (λ s. more_specific s t) E) (all_filter (λ s. more_specific s t) E))

  -- ---- Asked

  unify_ok : (r : Repair) (t c : Fact) → more_specific c t ≡ true → FineMove Forward (result_of val (unify ms r t c))
  unify_ok r t c h = subst (λ (m : Move). FineMove Forward m) (sym (gathered_is (moved_nulls t c) _)) (unifying E t c h, next_sound _ _)

  forward : (d : Direction) (m : Move) → IsForward d → FineMove Forward m → FineMove d m
  forward Forward m f h = h
  forward Backward m f h = absurd f

  backward : (d : Direction) (m : Move) → IsBackward d → FineMove Backward m → FineMove d m
  backward Forward m f h = absurd f
  backward Backward m f h = h

  answer_ok : (d : Direction) (q : Question) (c : Choice) → SoundQuestion d q → fits q c ≡ true → FineMove d (result_of val (answer ms q c))
  answer_ok d (Positive r t cs) Expand s e = forward d (result_of val (answer ms (Positive r t cs) Expand)) s.0 (inserting E (t ∷ []), next_sound _ r)
  answer_ok d (Positive r t cs) (Unify o) s e = forward d (result_of val (unify ms r t (candidate t cs o))) s.0 (unify_ok r t (candidate t cs o) (candidate_passes (λ s. more_specific s t) t cs o s.1 e))
  answer_ok d (Positive r t cs) (Drop os) s e = absurd (false≢true e)
  answer_ok d (Negative n ts) Expand s e = absurd (false≢true e)
  answer_ok d (Negative n ts) (Unify o) s e = absurd (false≢true e)
  answer_ok d (Negative n ts) (Drop os) s e = backward d (result_of val (answer ms (Negative n ts) (Drop os))) s (all_deletes (named ts os), tt)

  pub step_ok : (P : Attempt) (c : Option Choice) (p : Phase) → P.number ≡ u → SoundPhase u ms scope (direction_of P.operation) E p → Fitted p c → FineMove (direction_of P.operation) (result_of val (step_in ms P c p))
  step_ok P c Start e s f = start_ok P.operation
  step_ok P c Look e s f = look_ok P 0 ms (λ j. ap (slice_get ms) (omega arith)) (λ z h. subst (λ k. LookedHold k 0 ms E) e h)
  step_ok P c (Generate r) e s f = forward (direction_of P.operation) (result_of val (generate ms r (generated ms r))) s (generate_ok r (generated ms r))
  step_ok P None (Asked q) e s f = absurd f
  step_ok P (Some c) (Asked q) e s f = answer_ok (direction_of P.operation) q c s f
  step_ok P c (Ended o) e s f = absurd f

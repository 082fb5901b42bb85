-- Where the values and tuples that an update writes come from: a test that the repository's tuples, fresh nulls and generated tuples pass is passed by all that it writes.
use Rattle.std.specs.Prelude.{◌==◌, find, filter, unwrap_or, nat_lt, slice_get, pos}
use Rattle.std.proofs.Common.{◌≡◌, ℕ, zero, suc, ◌+◌, ◌≤◌, ap, refl, sym, ◌∙◌, subst, List, [], ◌∷◌, map, length, Bool, true, false, cond, Option, Some, None, arith}
use Rattle.std.specs.Option.{option_map}
use Rattle.std.specs.List.{list_any, list_all, range_with_len, AllByRecursion}
use Rattle.std.proofs.lemmas.Bool.{false≢true, and_parts, both_ways}
use Rattle.def_machine.specs.Trees.{Node, result_of}
use Rattle.def_chase.specs.Values.{NullName, Datum, Number, Text, Unknown, Fact, same_fact, same_datum, under, outer}
use Rattle.def_chase.specs.Repository.{Change, Insert, Delete, apply}
use Rattle.def_chase.specs.Mappings.{Rule, Pattern, fact_under, listed, force}
use Rattle.def_chase.specs.Matching.{Known, nothing_known, learn_all, lists_of}
use Rattle.def_chase.specs.Specific.{is_constant, more_specific}
use Rattle.def_chase.specs.Unifier.{unifier}
use Rattle.def_chase.specs.Violations.{Direction, Forward, Backward, Scope, violates, first_violation}
use Rattle.def_chase.specs.Queries.{Query, Present, Violation, Specific, Reply, scope_at, holds_null, value}
use Rattle.def_chase.specs.Updates.{Operation, Adds, Removes, Replaces, Enacts, direction_of, Choice, Expand, Unify, Drop}
use Rattle.def_chase.specs.Caused.{KeepsConstants}
use Rattle.def_chase.proofs.Bools.{both, none_some}
use Rattle.def_chase.proofs.Learning.{same_datum_exact}
use Rattle.def_chase.proofs.Unified.{unifier_constants}
use Rattle.def_steps.specs.Attempts.{Outcome, Spent, Refused, Repair, Question, Positive, Negative, Phase, Start, Look, Generate, Asked, Ended, Attempt, outcome_in}
use Rattle.def_steps.specs.Rewriting.{in_order, rewrite, replacing, null_of, nulls_in, moved_nulls, standing_for, binding_at, binding_of, fresh_nulls, right_atoms, fact_at, generated, next_atom}
use Rattle.def_steps.specs.Questions.{fits, candidate, named}
use Rattle.def_steps.specs.Steps.{Move, Asking, makes, tuples_of, is_yes, image_in, Holders, null_for, resolve, unless_none, find_nulls, start, negative, repair, repair_or, look_at, look_from, compared, generate, unify, answer, step_in}
use Rattle.def_steps.proofs.Gathered.{occurs, gathered, names, standing_named}
use Rattle.def_steps.proofs.Steady.{Fitted, Tail, tail_next, first_reply, image_back, all_filter, candidate_passes, gathered_is}
use Rattle.def_steps.proofs.Passing.{all_join, all_kept, all_weaker, all_mapped, found_passes_all, found_passes_too, lists_all, all_in_order, KnownPass, AllKnownPass, learnt_passes, unifier_passes}

-- Tests of values and of tuples, by how many nulls are drawn: more pass the more are drawn.
-- They are closed for attempt a of update u at the operation: what it makes of what passes passes.
pub record Closed (ms : List Rule) (op : Operation) (u a : ℕ) (p : ℕ → Datum → Bool) (q : ℕ → Fact → Bool) : Type 0 where
  pub constants : (k : ℕ) (d : Datum) → is_constant d ≡ true → p k d ≡ true
  pub later : (k j : ℕ) (d : Datum) → p k d ≡ true → p (k + j) d ≡ true
  pub fresh : (k j i : ℕ) → 1 ≤ i → i ≤ j → p (k + j) (Unknown record { update = u; attempt = a; place = k + i }) ≡ true
  pub values : (k : ℕ) (t : Fact) → q k t ≡ true → list_all (p k) t.values ≡ true
  pub tuples_later : (k j : ℕ) (t : Fact) → q k t ≡ true → q (k + j) t ≡ true
  pub substituted : (k : ℕ) (f : Datum → Datum) → KeepsConstants f → ((d : Datum) → p k d ≡ true → p k (f d) ≡ true) → (t : Fact) → q k t ≡ true → q k (under f t) ≡ true
  pub generated : (k n i : ℕ) (m : Rule) (b : Pattern) → slice_get ms n ≡ Some m → slice_get m.right i ≡ Some b → (ds : List Datum) → list_all (p k) ds ≡ true → q k (fact_under (listed ds) b) ≡ true
  pub nowhere : (k : ℕ) → q k record { relation = 0; values = [] } ≡ true
  pub added : (t : Fact) → op ≡ Adds t → (k : ℕ) (f : Datum → Datum) → ((d : Datum) → p k (f d) ≡ true) → q k (under f t) ≡ true
  pub enacted : (n : ℕ) → op ≡ Enacts n → (k : ℕ) → q k (force n) ≡ true

-- A write passes: an inserted tuple, and the values of a deleted one.
abbrev pub write_passes : (ℕ → Datum → Bool) → (ℕ → Fact → Bool) → ℕ → Change → Bool
write_passes p q k (Insert t) = q k t
write_passes p q k (Delete t) = list_all (p k) t.values

-- What a phase holds passes.
abbrev pub PhasePasses : (ℕ → Datum → Bool) → (ℕ → Fact → Bool) → ℕ → Phase → Type 0
PhasePasses p q k Start = Unit {0}
PhasePasses p q k Look = Unit {0}
PhasePasses p q k (Generate r) = list_all (p k) r.binding ≡ true
PhasePasses p q k (Asked (Positive r t cs)) = (list_all (p k) r.binding ≡ true) × (q k t ≡ true) × (list_all (q k) cs ≡ true) × (list_all (λ s. more_specific s t) cs ≡ true)
PhasePasses p q k (Asked (Negative n ts)) = list_all (q k) ts ≡ true
PhasePasses p q k (Ended o) = Unit {0}

module _ (ms : List Rule) (op : Operation) (u a : ℕ) (p : ℕ → Datum → Bool) (q : ℕ → Fact → Bool) (c : Closed ms op u a p q) where
  abbrev writes_pass : ℕ → List Change → Type 0
  writes_pass k ws = list_all (write_passes p q k) ws ≡ true

  abbrev MovePasses : ℕ → Move → Type 0
  MovePasses k m = writes_pass (k + m.drawn) m.writes × PhasePasses p q (k + m.drawn) m.phase

  module _ (scope : Scope) (D : List Fact) (own : List Change) (k : ℕ) (all : list_all (q k) (apply D own) ≡ true) where
    abbrev E : List Fact
    E = apply D own

    abbrev val : Query → Reply
    val x = value ms x D own scope

    abbrev OK : Asking → Type 0
    OK x = MovePasses k (result_of val x)

    made : (ws : List Change) (ph : Phase) → writes_pass k ws → PhasePasses p q k ph → OK (makes ws ph)
    made ws ph x y = let e : k ≡ k + 0 = omega arith in subst (λ n. writes_pass n ws × PhasePasses p q n ph) e (x, y)

    deletes_pass : (ts : List Fact) → list_all (q k) ts ≡ true → writes_pass k (map Delete ts)
    deletes_pass ts h = all_mapped (q k) (write_passes p q k) Delete (λ t e. c.values k t e) ts h

    insertions_pass : (ts : List Fact) → list_all (q k) ts ≡ true → writes_pass k (map Insert ts)
    insertions_pass ts h = all_mapped (q k) (write_passes p q k) Insert (λ t e. e) ts h

    rewrite_passes : (f : Datum → Datum) → KeepsConstants f → ((d : Datum) → p k d ≡ true → p k (f d) ≡ true) → (ts : List Fact) → list_all (q k) ts ≡ true → writes_pass k (rewrite f ts)
    rewrite_passes f e g ts h =
        all_join (write_passes p q k) (map Delete ts) (map Insert (in_order (map (under f) ts))) (deletes_pass ts h)
        (insertions_pass (in_order (map (under f) ts)) (all_in_order (q k) (map (under f) ts) (all_mapped (q k) (q k) (under f) (λ t x. c.substituted k f e g t x) ts h)))

    -- ---- Start

    -- what was found holds tuples that pass
    abbrev HoldersPass : Holders → Type 0
    HoldersPass holders = AllByRecursion (λ (e : NullName × List Fact). list_all (q k) e.1 ≡ true) holders

    zero_passes : p k (Number (pos 0)) ≡ true
    zero_passes = c.constants k (Number (pos 0)) refl

    occurs_pass : (n : NullName) → list_all (q k) (occurs E n) ≡ true
    occurs_pass n = all_kept (q k) (holds_null n.update n.place) E all

    standing_passes : (n : NullName) (ts : List Fact) → list_all (q k) ts ≡ true → p k (standing_for n ts) ≡ true
    standing_passes n [] h = zero_passes
    standing_passes n (t ∷ ts) h = found_passes_too (p k) (names n) (Number (pos 0)) t.values (c.values k t (and_parts (q k t) (list_all (q k) ts) h).0) zero_passes

    null_passes : (holders : Holders) → HoldersPass holders → (n : NullName) → p k (null_for holders n) ≡ true
    null_passes [] h n = zero_passes
    null_passes (e ∷ holders) h n = by (same_datum (Unknown e.0) (Unknown n)) (null_passes holders h.1 n)
      where
        by : (b : Bool) → p k (unwrap_or (option_map (λ (e : NullName × List Fact). standing_for e.0 e.1) (find (λ (e : NullName × List Fact). same_datum (Unknown e.0) (Unknown n)) holders)) (Number (pos 0))) ≡ true
            → p k (unwrap_or (option_map (λ (e : NullName × List Fact). standing_for e.0 e.1) (cond b (Some e) (find (λ (e : NullName × List Fact). same_datum (Unknown e.0) (Unknown n)) holders))) (Number (pos 0))) ≡ true
        by true r = standing_passes e.0 e.1 h.0
        by false r = r

    resolved_passes : (holders : Holders) → HoldersPass holders → (d : Datum) → p k (resolve holders d) ≡ true
    resolved_passes holders h (Number i) = c.constants k (Number i) refl
    resolved_passes holders h (Text w) = c.constants k (Text w) refl
    resolved_passes holders h (Unknown n) = null_passes holders h n

    unless_passes : (n : NullName) (ts : List Fact) (rest : Asking) → ((t : Fact) (us : List Fact) → ts ≡ t ∷ us → OK rest) → OK (unless_none n ts rest)
    unless_passes n [] rest b = made [] (Ended (Refused n)) refl tt
    unless_passes n (t ∷ ts) rest b = b t ts refl

    found_passes : (ns : List NullName) (go : Holders → Asking) → ((holders : Holders) → HoldersPass holders → OK (go holders)) → OK (find_nulls ns go)
    found_passes [] go b = b [] tt
    found_passes (n ∷ ns) go b =
        unless_passes n (occurs E n) (find_nulls ns (λ holders. go ((n, occurs E n) ∷ holders)))
        (λ t us e. found_passes ns (λ holders. go ((n, occurs E n) ∷ holders)) (λ holders h. b ((n, occurs E n) ∷ holders) (occurs_pass n, h)))

    either_passes : (b : Bool) (x y : Asking) → OK x → OK y → OK (cond b x y)
    either_passes true x y g h = g
    either_passes false x y g h = h

    one_passes : (w : Change) → write_passes p q k w ≡ true → writes_pass k (w ∷ [])
    one_passes w h = both (write_passes p q k w) true h refl

    all_values_pass : (f : Datum → Datum) → ((d : Datum) → p k (f d) ≡ true) → (ds : List Datum) → list_all (p k) (map f ds) ≡ true
    all_values_pass f h [] = refl
    all_values_pass f h (d ∷ ds) = both (p k (f d)) (list_all (p k) (map f ds)) (h d) (all_values_pass f h ds)

    replaced_passes : (x y d : Datum) → p k y ≡ true → p k d ≡ true → p k (replacing x y d) ≡ true
    replaced_passes x y d e h = by (same_datum d x)
      where
        by : (b : Bool) → p k (cond b y d) ≡ true
        by true = e
        by false = h

    -- a named null is no constant, so replacing it leaves these
    replaced_keeps : (n : NullName) (x y : Datum) → names n x ≡ true → KeepsConstants (replacing x y)
    replaced_keeps n x y h = (λ i. by (Number i) refl (same_datum (Number i) x) refl, λ w. by (Text w) refl (same_datum (Text w) x) refl)
      where
        by : (d : Datum) → names n d ≡ false → (b : Bool) → same_datum d x ≡ b → cond b y d ≡ d
        by d f true e = absurd (both_ways (names n d) f (ap (names n) (same_datum_exact d x e) ∙ h))
        by d f false e = refl

    start_passes : (o : Operation) → op ≡ o → OK (start o)
    start_passes (Adds t) e =
        found_passes (nulls_in t.values) _
        (λ holders h. let s : Fact = under (resolve holders) t in
        either_passes (is_yes (val (Present s))) (makes [] Look) (makes (Insert s ∷ []) Look) (made [] Look refl tt)
        (made (Insert s ∷ []) Look (one_passes (Insert s) (c.added t e k (resolve holders) (resolved_passes holders h))) tt))
    start_passes (Removes t) e =
        found_passes (nulls_in t.values) _
        (λ holders h. let s : Fact = under (resolve holders) t in
        either_passes (is_yes (val (Present s))) (makes (Delete s ∷ []) Look) (makes [] Look)
        (made (Delete s ∷ []) Look (one_passes (Delete s) (all_values_pass (resolve holders) (resolved_passes holders h) t.values)) tt) (made [] Look refl tt))
    start_passes (Replaces n v) e =
        unless_passes n (occurs E n) _
        (λ t us f. found_passes (null_of v) _
        (λ holders h. let x : Datum = standing_for n (occurs E n) in let y : Datum = resolve holders v in
        made (rewrite (replacing x y) (occurs E n)) Look
        (rewrite_passes (replacing x y) (replaced_keeps n x y (standing_named n (occurs E n) (all_filter (holds_null n.update n.place) E) t us f))
        (λ d g. replaced_passes x y d (resolved_passes holders h v) g) (occurs E n) (occurs_pass n)) tt))
    start_passes (Enacts n) e = made (Insert (force n) ∷ []) Look (one_passes (Insert (force n)) (c.enacted n e k)) tt

    -- ---- Look

    negative_passes : (n : ℕ) (ts : List Fact) → list_all (q k) ts ≡ true → OK (negative n ts)
    negative_passes n [] h = made [] Look refl tt
    negative_passes n (t ∷ []) h = made (Delete t ∷ []) Look (one_passes (Delete t) (c.values k t (and_parts (q k t) true h).0)) tt
    negative_passes n (t ∷ s ∷ ts) h = made [] (Asked (Negative n (t ∷ s ∷ ts))) refl h

    listed_passes : (l : Known) → KnownPass (p k) l → (vs : List ℕ) → list_all (p k) (map (λ v. unwrap_or (l v) (Number (pos 0))) vs) ≡ true
    listed_passes l h [] = refl
    listed_passes l h (v ∷ vs) = both (p k (unwrap_or (l v) (Number (pos 0)))) _ (by (l v) refl) (listed_passes l h vs)
      where
        by : (o : Option Datum) → l v ≡ o → p k (unwrap_or o (Number (pos 0))) ≡ true
        by None e = zero_passes
        by (Some d) e = h v d e

    binding_passes : (m : Rule) (image : List Fact) → list_all (q k) image ≡ true → list_all (p k) (binding_of m image) ≡ true
    binding_passes m image h =
        by (learn_all m.left image nothing_known)
        (learnt_passes (p k) m.left image nothing_known (all_weaker (q k) (λ t. list_all (p k) t.values) (λ t e. c.values k t e) image h) (λ v d e. absurd (none_some d e)))
      where
        by : (o : Option Known) → AllKnownPass (p k) o → list_all (p k) (binding_at m.universal o) ≡ true
        by None g = refl
        by (Some l) g = listed_passes l g (range_with_len 0 m.universal)

    fresh_pass : (P : Attempt) → P.number ≡ u → P.attempt ≡ a → P.nulls ≡ k → (n i j : ℕ) → 1 ≤ i → i + j ≤ n + 1
        → list_all (p (k + n)) (map (λ l. Unknown record { update = P.number; attempt = P.attempt; place = P.nulls + l }) (range_with_len i j)) ≡ true
    fresh_pass P e f g n i zero h l = refl
    fresh_pass P e f g n i (suc j) h l =
        both (p (k + n) (Unknown record { update = P.number; attempt = P.attempt; place = P.nulls + i })) _
        ((λ z. p (k + n) (Unknown record { update = e z; attempt = f z; place = g z + i })) ∙ c.fresh k n i h (omega arith))
        (fresh_pass P e f g n (i + 1) j (omega arith) (omega arith))

    repair_passes : (P : Attempt) → P.number ≡ u → P.attempt ≡ a → P.nulls ≡ k → (d : Direction) (n : ℕ) (m : Rule) (image : List Fact) → list_all (q k) image ≡ true → OK (repair P d n m image)
    repair_passes P e f g Forward n m image h = (
      refl,
      all_join (p (k + m.existential)) (binding_of m image) (fresh_nulls P m.existential)
          (all_weaker (p k) (p (k + m.existential)) (λ d x. c.later k m.existential d x) (binding_of m image) (binding_passes m image h))
          (fresh_pass P e f g m.existential 1 m.existential (omega arith) (omega arith)),
    )
    repair_passes P e f g Backward n m image h = negative_passes n (in_order image) (all_in_order (q k) image h)

    look_passes : (P : Attempt) → P.number ≡ u → P.attempt ≡ a → P.nulls ≡ k → (n : ℕ) (rs : List Rule) → Tail 0 ms scope D own n rs → OK (look_from P n rs)
    look_passes P e f g n [] t = made [] (Ended Rattle.def_steps.specs.Attempts.Done) refl tt
    look_passes P e f g n (m ∷ rs) t = by (m.since == 0) (nat_lt P.number m.since) (look_passes P e f g (suc n) rs (tail_next 0 ms scope D own n m rs t))
      where
        found : (o : Option (List Fact)) → o ≡ first_violation (scope_at scope own n) own m (apply D own) → OK (look_from P (suc n) rs) → OK (repair_or P n m o (look_from P (suc n) rs))
        found None x rest = rest
        found (Some image) x rest =
            repair_passes P e f g (direction_of P.operation) n m image
            (found_passes_all (λ ts. list_all (q k) ts ≡ true) (violates (scope_at scope own n) own m (apply D own)) (lists_of (length m.left) (apply D own)) image (lists_all (q k) (length m.left) (apply D own) all) (sym x))

        looked : OK (look_from P (suc n) rs) → OK (look_at P n m (look_from P (suc n) rs))
        looked rest = found (image_in (value ms (Violation n) D own scope)) (ap image_in (first_reply 0 ms scope D own n m rs t) ∙ image_back (first_violation (scope_at scope own n) own m (apply D own))) rest

        by : (x y : Bool) → OK (look_from P (suc n) rs)
            → OK (cond x (look_at P n m (look_from P (suc n) rs)) (cond y (look_from P (suc n) rs) (Node (Present (force n)) (λ r. cond (is_yes r) (look_at P n m (look_from P (suc n) rs)) (look_from P (suc n) rs)))))
        by true y rest = looked rest
        by false true rest = rest
        by false false rest = either_passes (is_yes (value ms (Present (force n)) D own scope)) (look_at P n m (look_from P (suc n) rs)) (look_from P (suc n) rs) (looked rest) rest

    -- ---- Generate

    next_passes : (r : Repair) → list_all (p k) r.binding ≡ true → PhasePasses p q k (next_atom ms r)
    next_passes r h = by (nat_lt (suc r.atom) (length (right_atoms (slice_get ms r.mapping))))
      where
        by : (b : Bool) → PhasePasses p q k (cond b (Generate record { mapping = r.mapping; binding = r.binding; atom = suc r.atom }) Look)
        by true = h
        by false = tt

    generated_passes : (r : Repair) → list_all (p k) r.binding ≡ true → q k (generated ms r) ≡ true
    generated_passes r h = by (slice_get ms r.mapping) refl
      where
        at : (m : Rule) → slice_get ms r.mapping ≡ Some m → (o : Option Pattern) → slice_get m.right r.atom ≡ o → q k (fact_at r.binding o) ≡ true
        at m e None f = c.nowhere k
        at m e (Some b) f = c.generated k r.mapping r.atom m b e f r.binding h

        by : (o : Option Rule) → slice_get ms r.mapping ≡ o → q k (fact_at r.binding (slice_get (right_atoms o) r.atom)) ≡ true
        by None e = c.nowhere k
        by (Some m) e = at m e (slice_get m.right r.atom) refl

    compared_passes : (r : Repair) (t : Fact) (cs : List Fact) → list_all (p k) r.binding ≡ true → q k t ≡ true → list_all (q k) cs ≡ true → list_all (λ s. more_specific s t) cs ≡ true → OK (compared ms r t cs)
    compared_passes r t [] h e g s = made (Insert t ∷ []) (next_atom ms r) (one_passes (Insert t) e) (next_passes r h)
    compared_passes r t (x ∷ cs) h e g s = made [] (Asked (Positive r t (x ∷ cs))) refl (h, e, g, s)

    generate_passes : (r : Repair) (t : Fact) → list_all (p k) r.binding ≡ true → q k t ≡ true → OK (generate ms r t)
    generate_passes r t h e =
        either_passes (is_yes (val (Present t))) (makes [] (next_atom ms r)) (Node (Specific t) (λ b. compared ms r t (tuples_of b))) (made [] (next_atom ms r) refl (next_passes r h))
        (compared_passes r t (filter (λ s. more_specific s t) E) h e (all_kept (q k) (λ s. more_specific s t) E all) (all_filter (λ s. more_specific s t) E))

    -- ---- Asked

    gathered_pass : (ns : List NullName) → list_all (q k) (gathered E ns) ≡ true
    gathered_pass [] = refl
    gathered_pass (n ∷ ns) = all_join (q k) (occurs E n) (gathered E ns) (occurs_pass n) (gathered_pass ns)

    unify_passes : (r : Repair) (t s : Fact) → list_all (p k) r.binding ≡ true → q k s ≡ true → more_specific s t ≡ true → OK (unify ms r t s)
    unify_passes r t s h e g =
        let f : Datum → Datum = unifier t s in
        let passes : (d : Datum) → p k d ≡ true → p k (unifier t s d) ≡ true = λ d x. unifier_passes (p k) t s (c.values k s e) d x in
        subst (λ (m : Move). MovePasses k m) (sym (gathered_is 0 ms scope D own (moved_nulls t s) _))
        (made (rewrite (unifier t s) (in_order (gathered E (moved_nulls t s)))) (next_atom ms record { mapping = r.mapping; binding = map (unifier t s) r.binding; atom = r.atom })
        (rewrite_passes (unifier t s) (unifier_constants t s g) passes (in_order (gathered E (moved_nulls t s))) (all_in_order (q k) (gathered E (moved_nulls t s)) (gathered_pass (moved_nulls t s))))
        (next_passes record { mapping = r.mapping; binding = map (unifier t s) r.binding; atom = r.atom } (all_mapped (p k) (p k) (unifier t s) passes r.binding h)))

    answer_passes : (x : Question) (y : Choice) → PhasePasses p q k (Asked x) → fits x y ≡ true → OK (answer ms x y)
    answer_passes (Positive r t cs) Expand h e = made (Insert t ∷ []) (next_atom ms r) (one_passes (Insert t) h.1) (next_passes r h.0)
    answer_passes (Positive r t cs) (Unify o) h e = unify_passes r t (candidate t cs o) h.0 (candidate_passes (q k) t cs o h.2 e) (candidate_passes (λ s. more_specific s t) t cs o h.3 e)
    answer_passes (Positive r t cs) (Drop os) h e = absurd (false≢true e)
    answer_passes (Negative n ts) Expand h e = absurd (false≢true e)
    answer_passes (Negative n ts) (Unify o) h e = absurd (false≢true e)
    answer_passes (Negative n ts) (Drop os) h e = made (map Delete (named ts os)) Look (deletes_pass (named ts os) (all_kept (q k) (λ t. list_any (same_fact (outer t)) os) ts h)) tt

    pub step_passes : (P : Attempt) (y : Option Choice) (ph : Phase) → P.number ≡ u → P.attempt ≡ a → P.nulls ≡ k → op ≡ P.operation → PhasePasses p q k ph → Fitted ph y → OK (step_in ms P y ph)
    step_passes P y Start e f g o h x = start_passes P.operation o
    step_passes P y Look e f g o h x = look_passes P e f g 0 ms (λ j. ap (slice_get ms) (omega arith))
    step_passes P y (Generate r) e f g o h x = generate_passes r (generated ms r) h (generated_passes r h)
    step_passes P None (Asked z) e f g o h x = absurd x
    step_passes P (Some y) (Asked z) e f g o h x = answer_passes z y h x
    step_passes P y (Ended z) e f g o h x = absurd x

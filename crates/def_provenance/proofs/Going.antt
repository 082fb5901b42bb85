-- Each step goes on from a repair whose image stands in the repository, and what it puts it puts as its way says.
use Rattle.std.specs.Prelude.{◌==◌, nat_lt, slice_get, filter, find, unwrap_or, pos}
use Rattle.std.specs.Option.{option_map}
use Rattle.std.proofs.Common.{◌≡◌, ◌∙◌, ap, refl, sym, subst, ℕ, zero, suc, ◌+◌, ◌<◌, Bool, true, false, not, ◌||◌, ◌&&◌, cond, Option, Some, None, List, [], ◌∷◌, ◌++◌, map, length, arith}
use Rattle.std.specs.List.{list_all, AllByRecursion}
use Rattle.std.proofs.lemmas.Bool.{and_parts, both_ways, ltb-true}
use Rattle.def_machine.specs.Trees.{Node, result_of}
use Rattle.def_chase.specs.Values.{NullName, Datum, Number, Text, Unknown, Fact, same_fact, under}
use Rattle.def_chase.specs.Repository.{Change, Insert, Delete, has, apply}
use Rattle.def_chase.specs.Mappings.{Rule, Pattern, image_under, listed, all_in, force}
use Rattle.def_chase.specs.Matching.{Known, nothing_known, learn_all, lists_of, extends}
use Rattle.def_chase.specs.Specific.{more_specific}
use Rattle.def_chase.specs.Unifier.{unifier}
use Rattle.def_chase.specs.Violations.{Direction, Forward, Backward, Every, violates, violated_at, first_violation}
use Rattle.def_chase.specs.Queries.{Query, Present, Violation, Specific, Reply, holds_null, value}
use Rattle.def_chase.specs.Updates.{Operation, Adds, Removes, Replaces, Enacts, direction_of, Choice, Expand, Unify, Drop}
use Rattle.def_chase.specs.Laws.{HasNoNull, HaveNoNulls}
use Rattle.def_chase.proofs.Among.{all_present}
use Rattle.def_chase.proofs.Atoms.{leaves_left}
use Rattle.def_chase.proofs.Bools.{differ, both, or_left, or_right}
use Rattle.def_chase.proofs.Learning.{same_datum_itself}
use Rattle.def_chase.proofs.Members.{has-filter}
use Rattle.def_chase.proofs.Searches.{all_at, found_passes}
use Rattle.def_chase.proofs.Sets.{has-insert, same_exact, same_itself}
use Rattle.def_chase.proofs.Unified.{unifier_constants}
use Rattle.def_steps.specs.Attempts.{Refused, Repair, Question, Positive, Negative, Phase, Start, Look, Generate, Asked, Ended, Attempt}
use Rattle.def_steps.specs.Rewriting.{in_order, rewrite, replacing, null_of, nulls_in, moved_nulls, standing_for, binding_of, fresh_nulls, right_atoms, fact_at, generated, next_atom}
use Rattle.def_steps.specs.Questions.{fits, candidate}
use Rattle.def_steps.specs.Steps.{Move, Asking, makes, tuples_of, is_yes, image_in, null_for, resolve, unless_none, find_nulls, start, negative, repair, repair_or, look_at, look_from, compared, generate, unify, answer, step_in}
use Rattle.def_steps.proofs.Gathered.{occurs, gathered}
use Rattle.def_steps.proofs.Steady.{Fitted, Tail, tail_next, first_reply, image_back, all_filter, candidate_passes, found_ok, gathered_is}
use Rattle.def_provenance.specs.Puts.{Way, Inserts, Generates, Rewrites, deleted, left_atoms, image_of, stands_for, way_of_start, way_of_question, way_in}
use Rattle.def_provenance.specs.Reasons.{source}
use Rattle.def_provenance.specs.Truths.{IsGenerated, IsNumbered}
use Rattle.def_provenance.proofs.Grounded.{still}
use Rattle.def_provenance.proofs.Images.{begun_image, image_substituted}
use Rattle.def_provenance.proofs.Unified.{after_rewriting, rewritten_there, all_carried}

-- The repair in hand: its image stands in E, and it is at a right atom of its mapping.
pub record InHand (ms : List Rule) (E : List Fact) (r : Repair) : Type 0 where
  pub rule : Rule
  pub named : slice_get ms r.mapping ≡ Some rule
  pub present : all_in E (image_under (listed r.binding) rule.left) ≡ true
  pub next : Pattern
  pub placed : slice_get rule.right r.atom ≡ Some next

-- What holds in a phase over E.
abbrev pub PhaseRight : List Rule → List Fact → Phase → Type 0
PhaseRight ms E Start = Unit {0}
PhaseRight ms E Look = Unit {0}
PhaseRight ms E (Generate r) = InHand ms E r
PhaseRight ms E (Asked (Positive r t cs)) = InHand ms E r × (t ≡ generated ms r) × (list_all (λ s. more_specific s t) cs ≡ true)
PhaseRight ms E (Asked (Negative n ts)) = Unit {0}
PhaseRight ms E (Ended o) = Unit {0}

-- The source of t stands in E, is one of the tuples deleted, and the substitution takes it to t.
abbrev pub IsSource : List Fact → (Datum → Datum) → Fact → List Fact → Type 0
IsSource E f t ds = (has E (source ds t f) ≡ true) × (has ds (source ds t f) ≡ true) × (under f (source ds t f) ≡ t)

-- A tuple that these writes put is put as the way says.
abbrev pub WayRight : List Rule → List Fact → List Change → Fact → Way → Type 0
WayRight ms E ws t Inserts = Unit {0}
WayRight ms E ws t (Generates n image) = IsGenerated ms n E image t
WayRight ms E ws t (Rewrites f) = IsSource E f t (deleted ws)

-- So are all that a move puts, and in the phase after it holds what has to.
abbrev pub MoveRight : List Rule → List Fact → Way → Move → Type 0
MoveRight ms E w m = PhaseRight ms (apply E m.writes) m.phase × ((t : Fact) → has E t ≡ false → has (apply E m.writes) t ≡ true → WayRight ms E m.writes t w)

-- ---- small facts

inside : {A : Type 0} (xs : List A) (i : ℕ) → i < length xs → (x : A) × (slice_get xs i ≡ Some x)
inside [] i h = absurd (omega arith)
inside (x ∷ xs) zero h = (x, refl)
inside (x ∷ xs) (suc i) h = inside xs i (omega arith)

all_stay : (E us ts : List Fact) → all_in E ts ≡ true → all_in (apply E (map Insert us)) ts ≡ true
all_stay E us [] h = refl
all_stay E us (t ∷ ts) h = let x = and_parts (has E t) (all_in E ts) h in both _ _ (still E us t x.0) (all_stay E us ts x.1)

none_deleted : (us : List Fact) → deleted (map Insert us) ≡ []
none_deleted [] = refl
none_deleted (u ∷ us) = none_deleted us

deleted_first : (ts us : List Fact) → deleted (map Delete ts ++ map Insert us) ≡ ts
deleted_first [] us = none_deleted us
deleted_first (t ∷ ts) us = ap (λ l. t ∷ l) (deleted_first ts us)

-- The tuple is one of these, and is taken to t.
abbrev IsTakenTo : (Datum → Datum) → Fact → List Fact → Fact → Type 0
IsTakenTo f t ds s = (has ds s ≡ true) × (under f s ≡ t)

-- So is the source of an image of theirs.
found_source : (f : Datum → Datum) (t : Fact) (ds : List Fact) → has (map (under f) ds) t ≡ true → IsTakenTo f t ds (source ds t f)
found_source f t [] h = differ h
found_source f t (d ∷ ds) h = by (same_fact t (under f d)) refl h (λ k. found_source f t ds k)
  where
    by : (b : Bool) → same_fact t (under f d) ≡ b → (b || has (map (under f) ds) t) ≡ true → (has (map (under f) ds) t ≡ true → IsTakenTo f t ds (source ds t f))
        → IsTakenTo f t (d ∷ ds) (unwrap_or (cond b (Some d) (find (λ x. same_fact t (under f x)) ds)) t)
    by true g k rest = (or_left (same_fact d d) (has ds d) (same_itself d), sym (same_exact t (under f d) g))
    by false g k rest = let r = rest k in (or_right (same_fact (source ds t f) d) (has ds (source ds t f)) r.0, r.1)

module _ (ms : List Rule) (plain : HaveNoNulls ms) (numbered : AllByRecursion IsNumbered ms) (D : List Fact) (own : List Change) where
  abbrev E : List Fact
  E = apply D own

  abbrev val : Query → Reply
  val q = value ms q D own Every

  abbrev Right : Way → Asking → Type 0
  Right w x = MoveRight ms E w (result_of val x)

  either : (w : Way) (b : Bool) (x y : Asking) → Right w x → Right w y → Right w (cond b x y)
  either w true x y g h = g
  either w false x y g h = h

  -- what writes nothing puts nothing
  quiet : (w : Way) (ph : Phase) → PhaseRight ms E ph → Right w (makes [] ph)
  quiet w ph h = (h, λ t a b. absurd (both_ways (has E t) a b))

  -- what is put by a rewriting has a source
  rewrites_right : (f : Datum → Datum) (ts : List Fact) → ((s : Fact) → has ts s ≡ true → has E s ≡ true) → (ph : Phase) → PhaseRight ms (apply E (rewrite f ts)) ph
      → Right (Rewrites f) (makes (rewrite f ts) ph)
  rewrites_right f ts there ph h = (
    h,
    λ t a b.
        subst (λ (ds : List Fact). IsSource E f t ds) (sym (deleted_first ts (in_order (map (under f) ts))))
        (from t (found_source f t ts (either_image (has (map (under f) ts) t) (has E t) (not (has ts t)) a (sym (after_rewriting E f ts t) ∙ b)))),
  )
    where
      either_image : (i e n : Bool) → e ≡ false → (i || (e && n)) ≡ true → i ≡ true
      either_image true e n g k = refl
      either_image false true n g k = differ (sym g)
      either_image false false n g k = k

      from : (t : Fact) → IsTakenTo f t ts (source ts t f) → IsSource E f t ts
      from t g = (there (source ts t f) g.0, g.0, g.1)

  occurs_there : (n : NullName) (s : Fact) → has (occurs E n) s ≡ true → has E s ≡ true
  occurs_there n s h = (and_parts (has E s) (holds_null n.update n.place s) (sym (has-filter (holds_null n.update n.place) E s) ∙ h)).0

  -- ---- Start

  unless_right : (w : Way) (n : NullName) (ts : List Fact) (rest : Asking) → Right w rest → Right w (unless_none n ts rest)
  unless_right w n [] rest h = quiet w (Ended (Refused n)) tt
  unless_right w n (t ∷ ts) rest h = h

  found_null : (m : NullName) → null_for ((m, occurs E m) ∷ []) m ≡ standing_for m (occurs E m)
  found_null m =
      ap (λ b. unwrap_or (option_map (λ (e : NullName × List Fact). standing_for e.0 e.1) (cond b (Some (m, occurs E m)) None)) (Number (pos 0))) (same_datum_itself (Unknown m))

  replaced_right : (n : NullName) (v : Datum)
      → Right (Rewrites (replacing (stands_for E (Unknown n)) (stands_for E v)))
      (find_nulls (null_of v) (λ holders. makes (rewrite (replacing (standing_for n (occurs E n)) (resolve holders v)) (occurs E n)) Look))
  replaced_right n (Number i) = rewrites_right (replacing (standing_for n (occurs E n)) (Number i)) (occurs E n) (occurs_there n) Look tt
  replaced_right n (Text w) = rewrites_right (replacing (standing_for n (occurs E n)) (Text w)) (occurs E n) (occurs_there n) Look tt
  replaced_right n (Unknown m) =
      unless_right (Rewrites (replacing (standing_for n (occurs E n)) (standing_for m (occurs E m)))) m (occurs E m) _
      (subst (λ (y : Datum). Right (Rewrites (replacing (standing_for n (occurs E n)) (standing_for m (occurs E m)))) (makes (rewrite (replacing (standing_for n (occurs E n)) y) (occurs E n)) Look))
      (sym (found_null m))
      (rewrites_right (replacing (standing_for n (occurs E n)) (standing_for m (occurs E m))) (occurs E n) (occurs_there n) Look tt))

  start_right : (op : Operation) → Right (way_of_start E op) (start op)
  start_right (Adds t) =
      found_ok 0 ms Every D own (λ m. MoveRight ms E Inserts m) (nulls_in t.values) _ (λ n. quiet Inserts (Ended (Refused n)) tt)
      (λ holders. either Inserts (is_yes (val (Present (under (resolve holders) t)))) (makes [] Look) (makes (Insert (under (resolve holders) t) ∷ []) Look) (tt, λ s a b. tt) (tt, λ s a b. tt))
  start_right (Removes t) =
      found_ok 0 ms Every D own (λ m. MoveRight ms E Inserts m) (nulls_in t.values) _ (λ n. quiet Inserts (Ended (Refused n)) tt)
      (λ holders. either Inserts (is_yes (val (Present (under (resolve holders) t)))) (makes (Delete (under (resolve holders) t) ∷ []) Look) (makes [] Look) (tt, λ s a b. tt) (tt, λ s a b. tt))
  start_right (Replaces n v) =
      unless_right (Rewrites (replacing (stands_for E (Unknown n)) (stands_for E v))) n (occurs E n) _ (replaced_right n v)
  start_right (Enacts n) = (tt, λ s a b. tt)

  -- ---- Look

  negative_right : (n : ℕ) (ts : List Fact) → Right Inserts (negative n ts)
  negative_right n [] = (tt, λ s a b. tt)
  negative_right n (t ∷ []) = (tt, λ s a b. tt)
  negative_right n (t ∷ s ∷ ts) = (tt, λ u a b. tt)

  -- the repair of the first violation has its image in hand
  begun_in_hand : (n : ℕ) (m : Rule) (image : List Fact) (rest : List Datum) → slice_get ms n ≡ Some m → first_violation Every own m E ≡ Some image
      → InHand ms E record { mapping = n; binding = binding_of m image ++ rest; atom = 0 }
  begun_in_hand n m image rest named found = by (learn_all m.left image nothing_known) refl (found_passes (violates Every own m E) (lists_of (length m.left) E) image found)
    where
      placed_at : (k : Known) → learn_all m.left image nothing_known ≡ Some k → (bs : List Pattern) → m.right ≡ bs → (not (extends k bs E) && true) ≡ true
          → InHand ms E record { mapping = n; binding = binding_of m image ++ rest; atom = 0 }
      placed_at k e [] g h = differ h
      placed_at k e (b ∷ bs) g h =
          record {
            rule = m;
            named = named;
            present = ap (all_in E) (begun_image m image k rest (all_at IsNumbered ms n m numbered named) e) ∙ all_present (length m.left) E (violates Every own m E) image found;
            next = b;
            placed = ap (λ (l : List Pattern). slice_get l 0) g;
          }

      by : (o : Option Known) → learn_all m.left image nothing_known ≡ o → violated_at Every own m E image o ≡ true → InHand ms E record { mapping = n; binding = binding_of m image ++ rest; atom = 0 }
      by None e h = differ h
      by (Some k) e h = placed_at k e m.right refl h

  repair_right : (P : Attempt) (d : Direction) (n : ℕ) (m : Rule) (image : List Fact) → slice_get ms n ≡ Some m → first_violation Every own m E ≡ Some image → Right Inserts (repair P d n m image)
  repair_right P Forward n m image named found = (begun_in_hand n m image (fresh_nulls P m.existential) named found, λ s a b. tt)
  repair_right P Backward n m image named found = negative_right n (in_order image)

  look_right : (P : Attempt) (n : ℕ) (rs : List Rule) → Tail 0 ms Every D own n rs → Right Inserts (look_from P n rs)
  look_right P n [] t = (tt, λ s a b. tt)
  look_right P n (m ∷ rs) t = by (m.since == 0) (nat_lt P.number m.since) (look_right P (suc n) rs (tail_next 0 ms Every D own n m rs t))
    where
      named : slice_get ms n ≡ Some m
      named = let e : n ≡ n + 0 = omega arith in ap (slice_get ms) e ∙ sym (t 0)

      found : (o : Option (List Fact)) → o ≡ first_violation Every own m (apply D own) → Right Inserts (look_from P (suc n) rs) → Right Inserts (repair_or P n m o (look_from P (suc n) rs))
      found None x rest = rest
      found (Some image) x rest = repair_right P (direction_of P.operation) n m image named (sym x)

      looked : Right Inserts (look_from P (suc n) rs) → Right Inserts (look_at P n m (look_from P (suc n) rs))
      looked rest = found (image_in (value ms (Violation n) D own Every)) (ap image_in (first_reply 0 ms Every D own n m rs t) ∙ image_back (first_violation Every own m (apply D own))) rest

      by : (x y : Bool) → Right Inserts (look_from P (suc n) rs)
          → Right Inserts (cond x (look_at P n m (look_from P (suc n) rs)) (cond y (look_from P (suc n) rs) (Node (Present (force n)) (λ r. cond (is_yes r) (look_at P n m (look_from P (suc n) rs)) (look_from P (suc n) rs)))))
      by true y rest = looked rest
      by false true rest = rest
      by false false rest = either Inserts (is_yes (value ms (Present (force n)) D own Every)) (look_at P n m (look_from P (suc n) rs)) (look_from P (suc n) rs) (looked rest) rest

  -- ---- Generate

  next_right : (F : List Fact) (r : Repair) → InHand ms F r → PhaseRight ms F (next_atom ms r)
  next_right F r h = by (nat_lt (suc r.atom) (length (right_atoms (slice_get ms r.mapping)))) (ap (λ o. nat_lt (suc r.atom) (length (right_atoms o))) (sym h.named))
    where
      by : (b : Bool) → nat_lt (suc r.atom) (length h.rule.right) ≡ b → PhaseRight ms F (cond b (Generate record { mapping = r.mapping; binding = r.binding; atom = suc r.atom }) Look)
      by true e = let x = inside h.rule.right (suc r.atom) (ltb-true (suc r.atom) (length h.rule.right) e) in record { rule = h.rule; named = h.named; present = h.present; next = x.0; placed = x.1 }
      by false e = tt

  abbrev way_of : Repair → Way
  way_of r = Generates r.mapping (image_of ms r.mapping r.binding)

  -- what a repair inserts is generated
  is_generated : (r : Repair) → InHand ms E r → (s : Fact) → s ≡ generated ms r → IsGenerated ms r.mapping E (image_of ms r.mapping r.binding) s
  is_generated r h s e =
      let image : image_under (listed r.binding) h.rule.left ≡ image_of ms r.mapping r.binding = ap (λ o. image_under (listed r.binding) (left_atoms o)) (sym h.named) in
      record {
        mapping = h.rule;
        named = h.named;
        binding = listed r.binding;
        is_image = image;
        present = ap (all_in E) (sym image) ∙ h.present;
        place = r.atom;
        atom = h.next;
        on_the_right = h.placed;
        is_tuple = ap (fact_at r.binding) (sym h.placed) ∙ ap (λ o. fact_at r.binding (slice_get (right_atoms o) r.atom)) (sym h.named) ∙ sym e;
      }

  inserts_right : (r : Repair) (t : Fact) → InHand ms E r → t ≡ generated ms r → Right (way_of r) (makes (Insert t ∷ []) (next_atom ms r))
  inserts_right r t h e = (
    next_right (apply E (Insert t ∷ [])) r record { rule = h.rule; named = h.named; present = all_stay E (t ∷ []) (image_under (listed r.binding) h.rule.left) h.present; next = h.next; placed = h.placed },
    λ s a b. is_generated r h s (same_exact s t (new (same_fact s t) (has E s) a (sym (has-insert E t s) ∙ b)) ∙ e),
  )
    where
      new : (x y : Bool) → y ≡ false → (x || y) ≡ true → x ≡ true
      new true y g k = refl
      new false y g k = differ (sym g ∙ k)

  compared_right : (r : Repair) (t : Fact) → InHand ms E r → t ≡ generated ms r → (cs : List Fact) → list_all (λ s. more_specific s t) cs ≡ true → Right (way_of r) (compared ms r t cs)
  compared_right r t h e [] g = inserts_right r t h e
  compared_right r t h e (c ∷ cs) g = quiet (way_of r) (Asked (Positive r t (c ∷ cs))) (h, e, g)

  generate_right : (r : Repair) → InHand ms E r → Right (way_of r) (generate ms r (generated ms r))
  generate_right r h =
      either (way_of r) (is_yes (val (Present (generated ms r)))) (makes [] (next_atom ms r)) (Node (Specific (generated ms r)) (λ b. compared ms r (generated ms r) (tuples_of b)))
      (quiet (way_of r) (next_atom ms r) (next_right E r h))
      (compared_right r (generated ms r) h refl (filter (λ s. more_specific s (generated ms r)) E) (all_filter (λ s. more_specific s (generated ms r)) E))

  -- ---- Asked

  unify_right : (r : Repair) (t c : Fact) → InHand ms E r → more_specific c t ≡ true → Right (Rewrites (unifier t c)) (unify ms r t c)
  unify_right r t c h g =
      subst (λ (m : Move). MoveRight ms E (Rewrites (unifier t c)) m) (sym (gathered_is 0 ms Every D own (moved_nulls t c) _))
      (rewrites_right (unifier t c) (in_order (gathered E (moved_nulls t c))) (rewritten_there E t c g) (next_atom ms record { mapping = r.mapping; binding = map (unifier t c) r.binding; atom = r.atom })
      (next_right (apply E (rewrite (unifier t c) (in_order (gathered E (moved_nulls t c))))) record { mapping = r.mapping; binding = map (unifier t c) r.binding; atom = r.atom }
      record {
        rule = h.rule;
        named = h.named;
        present =
            ap (all_in (apply E (rewrite (unifier t c) (in_order (gathered E (moved_nulls t c))))))
            (image_substituted (unifier t c) (unifier_constants t c g) r.binding h.rule.left (leaves_left (unifier t c) (unifier_constants t c g) h.rule (all_at HasNoNull ms r.mapping h.rule plain h.named)))
            ∙ all_carried E t c g (image_under (listed r.binding) h.rule.left) h.present;
        next = h.next;
        placed = h.placed;
      }))

  answer_right : (q : Question) (c : Choice) → PhaseRight ms E (Asked q) → fits q c ≡ true → Right (way_of_question ms q (Some c)) (answer ms q c)
  answer_right (Positive r t cs) Expand h e = inserts_right r t h.0 h.1
  answer_right (Positive r t cs) (Unify o) h e = unify_right r t (candidate t cs o) h.0 (candidate_passes (λ s. more_specific s t) t cs o h.2 e)
  answer_right (Positive r t cs) (Drop os) h e = differ e
  answer_right (Negative n ts) Expand h e = differ e
  answer_right (Negative n ts) (Unify o) h e = differ e
  answer_right (Negative n ts) (Drop os) h e = (tt, λ s a b. tt)

  pub step_right : (P : Attempt) (c : Option Choice) (ph : Phase) → PhaseRight ms E ph → Fitted ph c → MoveRight ms E (way_in ms E P.operation c ph) (result_of val (step_in ms P c ph))
  step_right P c Start h f = start_right P.operation
  step_right P c Look h f = look_right P 0 ms (λ j. ap (slice_get ms) (omega arith))
  step_right P c (Generate r) h f = generate_right r h
  step_right P None (Asked q) h f = absurd f
  step_right P (Some c) (Asked q) h f = answer_right q c h f
  step_right P c (Ended o) h f = absurd f

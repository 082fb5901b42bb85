-- A shift of attempt numbers goes through every step: the shifted attempt asks the shifted queries and makes the shifted move.
use Rattle.std.specs.Prelude.{◌==◌, nat_lt, slice_get, find, unwrap_or, pos}
use Rattle.std.proofs.Common.{◌≡◌, ℕ, suc, ◌+◌, ap, refl, sym, ◌∙◌, subst, List, [], ◌∷◌, ◌++◌, map, length, Bool, true, false, cond, Option, Some, None}
use Rattle.std.specs.Option.{option_map}
use Rattle.std.specs.List.{range_with_len, AllByRecursion}
use Rattle.def_machine.specs.Trees.{Leaf, Node, result_of, log_of}
use Rattle.def_chase.specs.Values.{NullName, Datum, Number, Text, Unknown, Fact, same_datum, under}
use Rattle.def_chase.specs.Repository.{Change, Insert, Delete}
use Rattle.def_chase.specs.Mappings.{Rule}
use Rattle.def_chase.specs.Unifier.{unifier}
use Rattle.def_chase.specs.Violations.{Direction, Forward, Backward}
use Rattle.def_chase.specs.Queries.{Query, Present, Specific, Reply, Yes, No, Image, Nothing, Tuples, value}
use Rattle.def_chase.specs.Updates.{Operation, Adds, Removes, Replaces, Enacts, direction_of, Choice, Expand, Unify, Drop}
use Rattle.def_chase.specs.Laws.{HasNoNull, HaveNoNulls}
use Rattle.def_chase.specs.Shifts.{shift, shift_fact, shift_change, shift_query, shift_reply}
use Rattle.def_chase.proofs.Maps.{map_join, cond_map}
use Rattle.def_chase.proofs.Searches.{all_at}
use Rattle.def_chase.proofs.Atoms.{Leaves, leaves_right}
use Rattle.def_chase.proofs.ShiftedQueries.{value_shifts}
use Rattle.def_steps.specs.Attempts.{Repair, Question, Positive, Negative, Phase, Start, Look, Generate, Asked, Ended, Attempt}
use Rattle.def_steps.specs.Rewriting.{in_order, rewrite, replacing, null_of, nulls_in, moved_nulls, standing_for, binding_of, fresh_nulls, right_atoms, generated, next_atom}
use Rattle.def_steps.specs.Questions.{candidate, named}
use Rattle.def_steps.specs.Steps.{Move, Asking, makes, tuples_of, is_yes, image_in, Holders, null_for, resolve, unless_none, find_nulls, start, negative, repair, repair_or, look_at, look_from, compared, generate, gather, unify, answer, step_in, step}
use Rattle.def_steps.specs.Shifting.{shift_repair, shift_question, shift_phase, shift_attempt, shift_move, shift_read, StepsShift}
use Rattle.def_steps.proofs.ShiftedWords.{shift_moves_nulls, shift_null, moved_nulls_shift, deletes_shift, in_order_shifts, values_shift, rewrite_shifts, replacing_shifts, standing_shifts, binding_of_shifts, fact_at_shifts, candidate_shifts, named_shifts}
use Rattle.def_chase.proofs.ShiftedSpecific.{unifier_shifts}

abbrev move_of : List Change → Phase → Move
move_of ws p = record { writes = ws; phase = p; drawn = 0 }

module _ (n : ℕ → ℕ) where
  -- The second tree asks the shifted queries, and at shifted answers makes the shifted move.
  abbrev pub Alike : Asking → Asking → Type 0
  Alike (Leaf m) (Leaf l) = l ≡ shift_move n m
  Alike (Leaf m) (Node q l) = ⊥
  Alike (Node q k) (Leaf m) = ⊥
  Alike (Node q k) (Node p l) = (p ≡ shift_query n q) × ((r : Reply) → Alike (k r) (l (shift_reply n r)))

  pub alike_result : (val other : Query → Reply) → ((q : Query) → other (shift_query n q) ≡ shift_reply n (val q)) → (t s : Asking) → Alike t s → result_of other s ≡ shift_move n (result_of val t)
  alike_result val other e (Leaf m) (Leaf l) h = h
  alike_result val other e (Leaf m) (Node p l) h = absurd h
  alike_result val other e (Node q k) (Leaf m) h = absurd h
  alike_result val other e (Node q k) (Node p l) h =
      ap (λ r. result_of other (l r)) (ap other h.0 ∙ e q) ∙ alike_result val other e (k (val q)) (l (shift_reply n (val q))) (h.1 (val q))

  pub alike_log : (val other : Query → Reply) → ((q : Query) → other (shift_query n q) ≡ shift_reply n (val q)) → (t s : Asking) → Alike t s → log_of other s ≡ map (shift_read n) (log_of val t)
  alike_log val other e (Leaf m) (Leaf l) h = refl
  alike_log val other e (Leaf m) (Node p l) h = absurd h
  alike_log val other e (Node q k) (Leaf m) h = absurd h
  alike_log val other e (Node q k) (Node p l) h =
      let a : other p ≡ shift_reply n (val q) = ap other h.0 ∙ e q in
      (λ i. (h.0 i, a i) ∷ log_of other (l (a i))) ∙ ap (λ rs. shift_read n (q, val q) ∷ rs) (alike_log val other e (k (val q)) (l (shift_reply n (val q))) (h.1 (val q)))

  tuples_shift : (r : Reply) → tuples_of (shift_reply n r) ≡ map (shift_fact n) (tuples_of r)
  tuples_shift Yes = refl
  tuples_shift No = refl
  tuples_shift (Image ts) = refl
  tuples_shift Nothing = refl
  tuples_shift (Tuples ts) = refl

  yes_shifts : (r : Reply) → is_yes (shift_reply n r) ≡ is_yes r
  yes_shifts Yes = refl
  yes_shifts No = refl
  yes_shifts (Image ts) = refl
  yes_shifts Nothing = refl
  yes_shifts (Tuples ts) = refl

  image_shifts : (r : Reply) → image_in (shift_reply n r) ≡ option_map (map (shift_fact n)) (image_in r)
  image_shifts Yes = refl
  image_shifts No = refl
  image_shifts (Image ts) = refl
  image_shifts Nothing = refl
  image_shifts (Tuples ts) = refl

  -- a test of an answer goes the same way
  either_alike : (b c : Bool) → c ≡ b → (x x' y y' : Asking) → Alike x y → Alike x' y' → Alike (cond b x x') (cond c y y')
  either_alike b c e x x' y y' f g = subst (λ d. Alike (cond b x x') (cond d y y')) (sym e) (by b)
    where
      by : (b : Bool) → Alike (cond b x x') (cond b y y')
      by true = f
      by false = g

  -- ---- Start

  abbrev shift_entry : NullName × List Fact → NullName × List Fact
  shift_entry e = (e.0, map (shift_fact n) e.1)

  null_for_shifts : (holders : Holders) (m : NullName) → null_for (map shift_entry holders) m ≡ shift n (null_for holders m)
  null_for_shifts [] m = refl
  null_for_shifts (e ∷ holders) m = by (same_datum (Unknown e.0) (Unknown m)) (null_for_shifts holders m)
    where
      by : (b : Bool) → null_for (map shift_entry holders) m ≡ shift n (null_for holders m)
          → unwrap_or (option_map (λ (e : NullName × List Fact). standing_for e.0 e.1) (cond b (Some (shift_entry e)) (find (λ (e : NullName × List Fact). same_datum (Unknown e.0) (Unknown m)) (map shift_entry holders)))) (Number (pos 0))
          ≡ shift n (unwrap_or (option_map (λ (e : NullName × List Fact). standing_for e.0 e.1) (cond b (Some e) (find (λ (e : NullName × List Fact). same_datum (Unknown e.0) (Unknown m)) holders))) (Number (pos 0)))
      by true rest = standing_shifts n e.0 e.1
      by false rest = rest

  resolve_shifts : (holders : Holders) (d : Datum) → resolve (map shift_entry holders) d ≡ shift n (resolve holders d)
  resolve_shifts holders (Number i) = refl
  resolve_shifts holders (Text w) = refl
  resolve_shifts holders (Unknown m) = null_for_shifts holders m

  resolved_shifts : (holders : Holders) (ds : List Datum) → map (resolve (map shift_entry holders)) ds ≡ map (shift n) (map (resolve holders) ds)
  resolved_shifts holders [] = refl
  resolved_shifts holders (d ∷ ds) = λ i. resolve_shifts holders d i ∷ resolved_shifts holders ds i

  tuple_shifts : (holders : Holders) (t : Fact) → under (resolve (map shift_entry holders)) t ≡ shift_fact n (under (resolve holders) t)
  tuple_shifts holders t = ap (λ ds. record { relation = t.relation; values = ds }) (resolved_shifts holders t.values)

  unless_alike : (m : NullName) (ts : List Fact) (x y : Asking) → Alike x y → Alike (unless_none m ts x) (unless_none m (map (shift_fact n) ts) y)
  unless_alike m [] x y h = refl
  unless_alike m (t ∷ ts) x y h = h

  found_alike : (ns : List NullName) (go to : Holders → Asking) → ((holders : Holders) → Alike (go holders) (to (map shift_entry holders))) → Alike (find_nulls ns go) (find_nulls ns to)
  found_alike [] go to h = h []
  found_alike (m ∷ ns) go to h = (
    refl,
    λ r. subst (λ (us : List Fact). Alike (unless_none m (tuples_of r) (find_nulls ns (λ holders. go ((m, tuples_of r) ∷ holders)))) (unless_none m us (find_nulls ns (λ holders. to ((m, us) ∷ holders)))))
        (sym (tuples_shift r))
        (unless_alike m (tuples_of r) (find_nulls ns (λ holders. go ((m, tuples_of r) ∷ holders))) (find_nulls ns (λ holders. to ((m, map (shift_fact n) (tuples_of r)) ∷ holders)))
        (found_alike ns (λ holders. go ((m, tuples_of r) ∷ holders)) (λ holders. to ((m, map (shift_fact n) (tuples_of r)) ∷ holders)) (λ holders. h ((m, tuples_of r) ∷ holders)))),
  )

  adds_alike : (s t : Fact) → t ≡ shift_fact n s
      → Alike (Node (Present s) (λ a. cond (is_yes a) (makes [] Look) (makes (Insert s ∷ []) Look))) (Node (Present t) (λ a. cond (is_yes a) (makes [] Look) (makes (Insert t ∷ []) Look)))
  adds_alike s t e = (ap Present e, λ r. either_alike (is_yes r) (is_yes (shift_reply n r)) (yes_shifts r) (makes [] Look) (makes (Insert s ∷ []) Look) (makes [] Look) (makes (Insert t ∷ []) Look) refl (ap (λ u. move_of (Insert u ∷ []) Look) e))

  removes_alike : (s t : Fact) → t ≡ shift_fact n s
      → Alike (Node (Present s) (λ a. cond (is_yes a) (makes (Delete s ∷ []) Look) (makes [] Look))) (Node (Present t) (λ a. cond (is_yes a) (makes (Delete t ∷ []) Look) (makes [] Look)))
  removes_alike s t e = (ap Present e, λ r. either_alike (is_yes r) (is_yes (shift_reply n r)) (yes_shifts r) (makes (Delete s ∷ []) Look) (makes [] Look) (makes (Delete t ∷ []) Look) (makes [] Look) (ap (λ u. move_of (Delete u ∷ []) Look) e) refl)

  abbrev replace_row : NullName → Datum → List Fact → Asking
  replace_row m v ts = unless_none m ts (find_nulls (null_of v) (λ holders. makes (rewrite (replacing (standing_for m ts) (resolve holders v)) ts) Look))

  replaced_shifts : (m : NullName) (v : Datum) (ts : List Fact) (holders : Holders)
      → rewrite (replacing (standing_for m (map (shift_fact n) ts)) (resolve (map shift_entry holders) v)) (map (shift_fact n) ts) ≡ map (shift_change n) (rewrite (replacing (standing_for m ts) (resolve holders v)) ts)
  replaced_shifts m v ts holders =
      (λ i. rewrite (replacing (standing_shifts n m ts i) (resolve_shifts holders v i)) (map (shift_fact n) ts))
      ∙ rewrite_shifts n (replacing (shift n (standing_for m ts)) (shift n (resolve holders v))) (replacing (standing_for m ts) (resolve holders v)) (replacing_shifts n (standing_for m ts) (resolve holders v)) ts

  start_alike : (op : Operation) → Alike (start op) (start op)
  start_alike (Adds t) = found_alike (nulls_in t.values) _ _ (λ holders. adds_alike (under (resolve holders) t) (under (resolve (map shift_entry holders)) t) (tuple_shifts holders t))
  start_alike (Removes t) = found_alike (nulls_in t.values) _ _ (λ holders. removes_alike (under (resolve holders) t) (under (resolve (map shift_entry holders)) t) (tuple_shifts holders t))
  start_alike (Replaces m v) = (
    refl,
    λ r. subst (λ (us : List Fact). Alike (replace_row m v (tuples_of r)) (replace_row m v us)) (sym (tuples_shift r))
        (unless_alike m (tuples_of r) _ _ (found_alike (null_of v) _ _ (λ holders. ap (λ ws. move_of ws Look) (replaced_shifts m v (tuples_of r) holders)))),
  )
  start_alike (Enacts i) = refl

  -- ---- Look

  fresh_shift : (P : Attempt) (k : ℕ) → fresh_nulls (shift_attempt n P) k ≡ map (shift n) (fresh_nulls P k)
  fresh_shift P k = each (range_with_len 1 k)
    where
      each : (ks : List ℕ) → map (λ k. Unknown record { update = P.number; attempt = P.attempt + n P.number; place = P.nulls + k }) ks ≡ map (shift n) (map (λ k. Unknown record { update = P.number; attempt = P.attempt; place = P.nulls + k }) ks)
      each [] = refl
      each (k ∷ ks) = ap (λ l. Unknown record { update = P.number; attempt = P.attempt + n P.number; place = P.nulls + k } ∷ l) (each ks)

  negative_alike : (m : ℕ) (ts : List Fact) → Alike (negative m ts) (negative m (map (shift_fact n) ts))
  negative_alike m [] = refl
  negative_alike m (t ∷ []) = refl
  negative_alike m (t ∷ s ∷ ts) = refl

  repair_alike : (P : Attempt) (d : Direction) (m : ℕ) (r : Rule) → HasNoNull r → (image : List Fact) → Alike (repair P d m r image) (repair (shift_attempt n P) d m r (map (shift_fact n) image))
  repair_alike P Forward m r h image =
      ap (λ b. generating b) ((λ i. binding_of_shifts n r h image i ++ fresh_shift P r.existential i) ∙ sym (map_join (shift n) (binding_of r image) (fresh_nulls P r.existential)))
    where
      generating : List Datum → Move
      generating b = record { writes = []; phase = Generate record { mapping = m; binding = b; atom = 0 }; drawn = r.existential }
  repair_alike P Backward m r h image =
      subst (λ (ts : List Fact). Alike (negative m (in_order image)) (negative m ts)) (sym (in_order_shifts n image)) (negative_alike m (in_order image))

  repaired_alike : (P : Attempt) (m : ℕ) (r : Rule) → HasNoNull r → (o : Option (List Fact)) (x y : Asking) → Alike x y → Alike (repair_or P m r o x) (repair_or (shift_attempt n P) m r (option_map (map (shift_fact n)) o) y)
  repaired_alike P m r h None x y e = e
  repaired_alike P m r h (Some image) x y e = repair_alike P (direction_of P.operation) m r h image

  look_alike : (P : Attempt) (m : ℕ) (rs : List Rule) → AllByRecursion HasNoNull rs → Alike (look_from P m rs) (look_from (shift_attempt n P) m rs)
  look_alike P m [] h = refl
  look_alike P m (r ∷ rs) h =
      let x = look_from P (suc m) rs in
      let y = look_from (shift_attempt n P) (suc m) rs in
      let rest : Alike (look_from P (suc m) rs) (look_from (shift_attempt n P) (suc m) rs) = look_alike P (suc m) rs h.1 in
      let looked : Alike (look_at P m r (look_from P (suc m) rs)) (look_at (shift_attempt n P) m r (look_from (shift_attempt n P) (suc m) rs)) = (
        refl,
        λ a. subst (λ o. Alike (repair_or P m r (image_in a) (look_from P (suc m) rs)) (repair_or (shift_attempt n P) m r o (look_from (shift_attempt n P) (suc m) rs))) (sym (image_shifts a))
            (repaired_alike P m r h.0 (image_in a) (look_from P (suc m) rs) (look_from (shift_attempt n P) (suc m) rs) rest),
      ) in
      either_alike (r.since == 0) (r.since == 0) refl (look_at P m r x) _ (look_at (shift_attempt n P) m r y) _ looked
      (either_alike (nat_lt P.number r.since) (nat_lt P.number r.since) refl x _ y _ rest
      (refl, λ a. either_alike (is_yes a) (is_yes (shift_reply n a)) (yes_shifts a) (look_at P m r x) x (look_at (shift_attempt n P) m r y) y looked rest))

  -- ---- Generate

  next_shifts : (ms : List Rule) (r : Repair) → next_atom ms (shift_repair n r) ≡ shift_phase n (next_atom ms r)
  next_shifts ms r = cond_map (shift_phase n) (nat_lt (suc r.atom) (length (right_atoms (slice_get ms r.mapping)))) (Generate record { mapping = r.mapping; binding = r.binding; atom = suc r.atom }) Look

  leaves_of : (ms : List Rule) → HaveNoNulls ms → (m : ℕ) (o : Option Rule) → slice_get ms m ≡ o → Leaves (shift n) (right_atoms o)
  leaves_of ms h m None e = tt
  leaves_of ms h m (Some r) e = leaves_right (shift n) (shift_moves_nulls n) r (all_at HasNoNull ms m r h e)

  generated_shifts : (ms : List Rule) → HaveNoNulls ms → (r : Repair) → generated ms (shift_repair n r) ≡ shift_fact n (generated ms r)
  generated_shifts ms h r = fact_at_shifts n r.binding (right_atoms (slice_get ms r.mapping)) r.atom (leaves_of ms h r.mapping (slice_get ms r.mapping) refl)

  compared_alike : (ms : List Rule) (r : Repair) (t : Fact) (cs : List Fact) → Alike (compared ms r t cs) (compared ms (shift_repair n r) (shift_fact n t) (map (shift_fact n) cs))
  compared_alike ms r t [] = ap (λ p. move_of (Insert (shift_fact n t) ∷ []) p) (next_shifts ms r)
  compared_alike ms r t (c ∷ cs) = refl

  generate_alike : (ms : List Rule) (r : Repair) (t : Fact) → Alike (generate ms r t) (generate ms (shift_repair n r) (shift_fact n t))
  generate_alike ms r t = (
    refl,
    λ a. either_alike (is_yes a) (is_yes (shift_reply n a)) (yes_shifts a) (makes [] (next_atom ms r)) (Node (Specific t) (λ b. compared ms r t (tuples_of b)))
        (makes [] (next_atom ms (shift_repair n r))) (Node (Specific (shift_fact n t)) (λ b. compared ms (shift_repair n r) (shift_fact n t) (tuples_of b)))
        (ap (λ p. move_of [] p) (next_shifts ms r))
        (refl, λ b. subst (λ (cs : List Fact). Alike (compared ms r t (tuples_of b)) (compared ms (shift_repair n r) (shift_fact n t) cs)) (sym (tuples_shift b)) (compared_alike ms r t (tuples_of b))),
  )

  -- ---- Asked

  gather_alike : (ns : List NullName) (go to : List Fact → Asking) → ((ts : List Fact) → Alike (go ts) (to (map (shift_fact n) ts))) → Alike (gather ns go) (gather (map (shift_null n) ns) to)
  gather_alike [] go to h = h []
  gather_alike (m ∷ ns) go to h = (
    refl,
    λ r. gather_alike ns (λ ts. go (tuples_of r ++ ts)) (λ ts. to (tuples_of (shift_reply n r) ++ ts))
        (λ ts. subst (λ (us : List Fact). Alike (go (tuples_of r ++ ts)) (to us)) (map_join (shift_fact n) (tuples_of r) ts ∙ ap (λ l. l ++ map (shift_fact n) ts) (sym (tuples_shift r))) (h (tuples_of r ++ ts))),
  )

  unify_alike : (ms : List Rule) (r : Repair) (t c : Fact) → Alike (unify ms r t c) (unify ms (shift_repair n r) (shift_fact n t) (shift_fact n c))
  unify_alike ms r t c =
      subst (λ (ns : List NullName). Alike (unify ms r t c) (gather ns unified_row)) (sym (moved_nulls_shift n t c)) (gather_alike (moved_nulls t c) _ _ same)
    where
      unified_row : List Fact → Asking
      unified_row ts =
          makes (rewrite (unifier (shift_fact n t) (shift_fact n c)) (in_order ts))
          (next_atom ms record { mapping = r.mapping; binding = map (unifier (shift_fact n t) (shift_fact n c)) (map (shift n) r.binding); atom = r.atom })

      phases : next_atom ms record { mapping = r.mapping; binding = map (unifier (shift_fact n t) (shift_fact n c)) (map (shift n) r.binding); atom = r.atom }
          ≡ shift_phase n (next_atom ms record { mapping = r.mapping; binding = map (unifier t c) r.binding; atom = r.atom })
      phases =
          ap (λ (b : List Datum). next_atom ms record { mapping = r.mapping; binding = b; atom = r.atom }) (values_shift n (unifier (shift_fact n t) (shift_fact n c)) (unifier t c) (unifier_shifts n t c) r.binding)
          ∙ next_shifts ms record { mapping = r.mapping; binding = map (unifier t c) r.binding; atom = r.atom }

      writes_shift : (ts : List Fact) → rewrite (unifier (shift_fact n t) (shift_fact n c)) (in_order (map (shift_fact n) ts)) ≡ map (shift_change n) (rewrite (unifier t c) (in_order ts))
      writes_shift ts = ap (rewrite (unifier (shift_fact n t) (shift_fact n c))) (in_order_shifts n ts) ∙ rewrite_shifts n (unifier (shift_fact n t) (shift_fact n c)) (unifier t c) (unifier_shifts n t c) (in_order ts)

      same : (ts : List Fact) → Alike (makes (rewrite (unifier t c) (in_order ts)) (next_atom ms record { mapping = r.mapping; binding = map (unifier t c) r.binding; atom = r.atom })) (unified_row (map (shift_fact n) ts))
      same ts = λ i. move_of (writes_shift ts i) (phases i)

  answer_alike : (ms : List Rule) (q : Question) (c : Choice) → Alike (answer ms q c) (answer ms (shift_question n q) c)
  answer_alike ms (Positive r t cs) Expand = ap (λ p. move_of (Insert (shift_fact n t) ∷ []) p) (next_shifts ms r)
  answer_alike ms (Positive r t cs) (Unify o) =
      subst (λ (s : Fact). Alike (unify ms r t (candidate t cs o)) (unify ms (shift_repair n r) (shift_fact n t) s)) (sym (candidate_shifts n t cs o)) (unify_alike ms r t (candidate t cs o))
  answer_alike ms (Positive r t cs) (Drop os) = refl
  answer_alike ms (Negative m ts) Expand = refl
  answer_alike ms (Negative m ts) (Unify o) = refl
  answer_alike ms (Negative m ts) (Drop os) = ap (λ ws. move_of ws Look) (ap (map Delete) (named_shifts n ts os) ∙ deletes_shift n (named ts os))

  pub step_alike : (ms : List Rule) → HaveNoNulls ms → (P : Attempt) (c : Option Choice) (p : Phase) → Alike (step_in ms P c p) (step_in ms (shift_attempt n P) c (shift_phase n p))
  step_alike ms h P c Start = start_alike P.operation
  step_alike ms h P c Look = look_alike P 0 ms h
  step_alike ms h P c (Generate r) = subst (λ (t : Fact). Alike (generate ms r (generated ms r)) (generate ms (shift_repair n r) t)) (sym (generated_shifts ms h r)) (generate_alike ms r (generated ms r))
  step_alike ms h P None (Asked q) = refl
  step_alike ms h P (Some c) (Asked q) = answer_alike ms q c
  step_alike ms h P c (Ended o) = refl

pub steps_shift : StepsShift
steps_shift n scope ms D P c plain =
    record {
      reads = alike_log n (λ q. value ms q D P.own scope) (λ q. value ms q (map (shift_fact n) D) (map (shift_change n) P.own) scope) (λ q. value_shifts n ms q D P.own scope plain) (step ms P c) (step ms (shift_attempt n P) c) (step_alike n ms plain P c P.phase);
      move = alike_result n (λ q. value ms q D P.own scope) (λ q. value ms q (map (shift_fact n) D) (map (shift_change n) P.own) scope) (λ q. value_shifts n ms q D P.own scope plain) (step ms P c) (step ms (shift_attempt n P) c) (step_alike n ms plain P c P.phase);
    }

-- A shift of attempt numbers goes through violations and every query.
use Rattle.std.proofs.Common.{◌≡◌, ℕ, ap, refl, ◌∙◌, List, [], ◌∷◌, map, Bool, true, false, not, ◌||◌, ◌&&◌, cond, length, Option, Some, None}
use Rattle.std.specs.List.{list_any, slice_get}
use Rattle.std.specs.Option.{option_map}
use Rattle.std.specs.Prelude.{is_some, filter}
use Rattle.def_chase.specs.Values.{Fact, same_fact}
use Rattle.def_chase.specs.Repository.{Change, Insert, Delete, has, apply, inserted_after, inserts}
use Rattle.def_chase.specs.Mappings.{Pattern, Rule, force}
use Rattle.def_chase.specs.Matching.{Known, nothing_known, learn_atom, learn_all}
use Rattle.def_chase.specs.Specific.{more_specific}
use Rattle.def_chase.specs.Violations.{Forward, Backward, Scope, Every, Caused, deletes_match, in_scope, violated_at, violates, first_violation}
use Rattle.def_chase.specs.Queries.{holds_null, image_reply, violation_reply, scope_at, Query, Present, Violation, Specific, Occurs, Yes, No, Tuples, value}
use Rattle.def_chase.specs.Shifts.{shift, shift_fact, shift_change, shift_query, shift_reply}
use Rattle.def_chase.specs.Laws.{HasNoNull, HaveNoNulls}
use Rattle.def_chase.specs.Caused.{KeepsConstants}
use Rattle.def_chase.proofs.Searches.{all_at}
use Rattle.def_chase.proofs.Maps.{any_map, some_map, filter_map}
use Rattle.def_chase.proofs.Atoms.{LeavesTerms, Leaves, leaves_left, leaves_right}
use Rattle.def_chase.proofs.Shifted.{same_fact_shifts, has_shifts, apply_shifts, holds_null_shifts}
use Rattle.def_chase.proofs.ShiftedMatches.{shift_known, learn_atom_shifts, learn_all_shifts, found_shifts, extends_shifts}
use Rattle.def_chase.proofs.ShiftedSpecific.{specific_shifts}

shift_keeps_constants : (n : ℕ → ℕ) → KeepsConstants (shift n)
shift_keeps_constants n = (λ i. refl, λ w. refl)

module _ (n : ℕ → ℕ) where
  -- ---- violations

  inserted_shifts : (b : Bool) (ws : List Change) (t : Fact) → inserted_after b (map (shift_change n) ws) (shift_fact n t) ≡ inserted_after b ws t
  inserted_shifts b [] t = refl
  inserted_shifts b (Insert s ∷ ws) t = ap (λ c. inserted_after (c || b) (map (shift_change n) ws) (shift_fact n t)) (same_fact_shifts n t s) ∙ inserted_shifts (same_fact t s || b) ws t
  inserted_shifts b (Delete s ∷ ws) t = ap (λ c. inserted_after (b && not c) (map (shift_change n) ws) (shift_fact n t)) (same_fact_shifts n t s) ∙ inserted_shifts (b && not (same_fact t s)) ws t

  deletes_shifts : (k : Known) (a : Pattern) → LeavesTerms (shift n) a.terms → (w : Change) → deletes_match (shift_known n k) a (shift_change n w) ≡ deletes_match k a w
  deletes_shifts k a l (Insert t) = refl
  deletes_shifts k a l (Delete t) = ap is_some (learn_atom_shifts n a l t k) ∙ some_map (shift_known n) (learn_atom a t k)

  some_deleted : (k : Known) (own : List Change) (as' : List Pattern) → Leaves (shift n) as' → list_any (λ a. list_any (deletes_match (shift_known n k) a) (map (shift_change n) own)) as' ≡ list_any (λ a. list_any (deletes_match k a) own) as'
  some_deleted k own [] l = refl
  some_deleted k own (a ∷ as') l = λ i. any_map (shift_change n) (deletes_match (shift_known n k) a) (deletes_match k a) (deletes_shifts k a l.0) own i || some_deleted k own as' l.1 i

  scope_shifts : (scope : Scope) (own : List Change) (m : Rule) → Leaves (shift n) m.right → (image : List Fact) (k : Known) → in_scope scope (map (shift_change n) own) m (map (shift_fact n) image) (shift_known n k) ≡ in_scope scope own m image k
  scope_shifts Every own m l image k = refl
  scope_shifts (Caused Forward) own m l image k = any_map (shift_fact n) (inserted_after false (map (shift_change n) own)) (inserted_after false own) (inserted_shifts false own) image
  scope_shifts (Caused Backward) own m l image k = some_deleted k own m.right l

  violated_shifts : (scope : Scope) (own : List Change) (m : Rule) → Leaves (shift n) m.right → (E image : List Fact) (o : Option Known)
      → violated_at scope (map (shift_change n) own) m (map (shift_fact n) E) (map (shift_fact n) image) (option_map (shift_known n) o) ≡ violated_at scope own m E image o
  violated_shifts scope own m l E image None = refl
  violated_shifts scope own m l E image (Some k) = λ i. not (extends_shifts n k m.right l E i) && scope_shifts scope own m l image k i

  violates_shifts : (scope : Scope) (own : List Change) (m : Rule) → Leaves (shift n) m.left → Leaves (shift n) m.right → (E image : List Fact)
      → violates scope (map (shift_change n) own) m (map (shift_fact n) E) (map (shift_fact n) image) ≡ violates scope own m E image
  violates_shifts scope own m l r E image =
      ap (violated_at scope (map (shift_change n) own) m (map (shift_fact n) E) (map (shift_fact n) image)) (learn_all_shifts n m.left l image nothing_known)
      ∙ violated_shifts scope own m r E image (learn_all m.left image nothing_known)

  pub first_shifts : (scope : Scope) (own : List Change) (m : Rule) → HasNoNull m → (E : List Fact) → first_violation scope (map (shift_change n) own) m (map (shift_fact n) E) ≡ option_map (map (shift_fact n)) (first_violation scope own m E)
  first_shifts scope own m h E =
      found_shifts n (violates scope (map (shift_change n) own) m (map (shift_fact n) E)) (violates scope own m E) (violates_shifts scope own m (leaves_left (shift n) (shift_keeps_constants n) m h) (leaves_right (shift n) (shift_keeps_constants n) m h) E) (length m.left) E

  -- ---- mappings in force

  -- A shift leaves the tuples that put mappings in force.
  pub inserts_force_shifts : (i : ℕ) (own : List Change) → list_any (inserts (force i)) (map (shift_change n) own) ≡ list_any (inserts (force i)) own
  inserts_force_shifts i own = any_map (shift_change n) (inserts (force i)) (inserts (force i)) by own
    where
      by : (w : Change) → inserts (force i) (shift_change n w) ≡ inserts (force i) w
      by (Insert t) = same_fact_shifts n (force i) t
      by (Delete t) = refl

  pub scope_at_shifts : (scope : Scope) (own : List Change) (i : ℕ) → scope_at scope (map (shift_change n) own) i ≡ scope_at scope own i
  scope_at_shifts Every own i = refl
  scope_at_shifts (Caused Forward) own i = ap (λ b. cond b Every (Caused Forward)) (inserts_force_shifts i own)
  scope_at_shifts (Caused Backward) own i = refl

  -- ---- queries

  image_shifts : (o : Option (List Fact)) → image_reply (option_map (map (shift_fact n)) o) ≡ shift_reply n (image_reply o)
  image_shifts None = refl
  image_shifts (Some ts) = refl

  pub value_shifts : (ms : List Rule) (q : Query) (D : List Fact) (own : List Change) (scope : Scope) → HaveNoNulls ms
      → value ms (shift_query n q) (map (shift_fact n) D) (map (shift_change n) own) scope ≡ shift_reply n (value ms q D own scope)
  value_shifts ms (Present t) D own scope h =
      ap (λ b. cond b Yes No) (ap (λ E. has E (shift_fact n t)) (apply_shifts n D own) ∙ has_shifts n (apply D own) t) ∙ by (has (apply D own) t)
    where
      by : (b : Bool) → cond b Yes No ≡ shift_reply n (cond b Yes No)
      by true = refl
      by false = refl
  value_shifts ms (Violation i) D own scope h =
      ap (λ s. violation_reply (slice_get ms i) s (map (shift_change n) own) (apply (map (shift_fact n) D) (map (shift_change n) own))) (scope_at_shifts scope own i) ∙ by (scope_at scope own i) (slice_get ms i) refl
    where
      by : (s : Scope) (o : Option Rule) → slice_get ms i ≡ o → violation_reply o s (map (shift_change n) own) (apply (map (shift_fact n) D) (map (shift_change n) own)) ≡ shift_reply n (violation_reply o s own (apply D own))
      by s None e = refl
      by s (Some r) e =
          ap (λ E. image_reply (first_violation s (map (shift_change n) own) r E)) (apply_shifts n D own)
          ∙ ap image_reply (first_shifts s own r (all_at HasNoNull ms i r h e) (apply D own)) ∙ image_shifts (first_violation s own r (apply D own))
  value_shifts ms (Specific t) D own scope h =
      ap (λ E. Tuples (filter (λ s. more_specific s (shift_fact n t)) E)) (apply_shifts n D own)
      ∙ ap Tuples (filter_map (shift_fact n) (λ s. more_specific s (shift_fact n t)) (λ s. more_specific s t) (λ s. specific_shifts n s t) (apply D own))
  value_shifts ms (Occurs u k) D own scope h =
      ap (λ E. Tuples (filter (holds_null u k) E)) (apply_shifts n D own)
      ∙ ap Tuples (filter_map (shift_fact n) (holds_null u k) (holds_null u k) (holds_null_shifts n u k) (apply D own))

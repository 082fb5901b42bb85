-- Tuples that are called by names, in turn.
use Rattle.std.proofs.Common.{◌≡◌, ◌∙◌, ap, refl, sym, ℕ, ◌+◌, ◌<◌, ◌≤◌, Bool, true, false, cond, List, [], ◌∷◌, ◌++◌, map, length, drop, get_or, Option, Some, None, append_assoc}
use Rattle.std.specs.Option.{option_map, option_and_then}
use Rattle.std.proofs.lemmas.List.{append-nil, drop_more, drop_all, map_push}
use Rattle.base_types.specs.Meanings.{fact_of}
use Rattle.base_types.specs.declared.tuples.Tuple.{Tuple}
use Rattle.def_chase.specs.Values.{Fact, same_fact}
use Rattle.def_workspace.specs.Names.{Names, fact_named}
use Rattle.def_workspace.specs.Runs.{called, all_called, some_called}

-- Forms that are some are all called.
pub some_forms : (ns : Names) (ts : List Fact) (os : List Tuple) → (os ≡ [] → ⊥) → some_called ns ts (map fact_of os) ≡ all_called ns ts (map fact_of os)
some_forms ns ts [] h = absurd (h refl)
some_forms ns ts (o ∷ os) h = refl

-- ---- one form

module _ (ns : Names) (o : Fact) (ts : List Tuple) (a : Option Fact) where
  next_is : (i : ℕ) (t : Tuple) (b : Bool) → i < length ts → t ≡ get_or ts i t → b ≡ same_fact (fact_named ns (fact_of t)) o
      → called ns (map fact_of (drop i ts)) o ≡ cond b (Some (fact_of t)) (called ns (map fact_of (drop (i + 1) ts)) o)
  next_is i t b h e tells =
      ap (λ (us : List Tuple). called ns (map fact_of us) o) (drop_more ts i t h ∙ ap (λ (u : Tuple). u ∷ drop (i + 1) ts) (sym e))
      ∙ ap (λ (c : Bool). cond c (Some (fact_of t)) (called ns (map fact_of (drop (i + 1) ts)) o)) (sym tells)

  -- A tuple is passed over,
  pub passed : (i : ℕ) (t : Tuple) (b : Bool) → i < length ts → t ≡ get_or ts i t → b ≡ same_fact (fact_named ns (fact_of t)) o → b ≡ false
      → called ns (map fact_of (drop i ts)) o ≡ a → called ns (map fact_of (drop (i + 1) ts)) o ≡ a
  passed i t b h e tells isnt so_far =
      sym (next_is i t b h e tells ∙ ap (λ (c : Bool). cond c (Some (fact_of t)) (called ns (map fact_of (drop (i + 1) ts)) o)) isnt) ∙ so_far

  -- or met,
  pub met : (i : ℕ) (t : Tuple) (b : Bool) → i < length ts → t ≡ get_or ts i t → b ≡ same_fact (fact_named ns (fact_of t)) o → b ≡ true
      → called ns (map fact_of (drop i ts)) o ≡ a → Some (fact_of t) ≡ a
  met i t b h e tells is so_far =
      sym (next_is i t b h e tells ∙ ap (λ (c : Bool). cond c (Some (fact_of t)) (called ns (map fact_of (drop (i + 1) ts)) o)) is) ∙ so_far

  -- or there is none.
  pub none_met : (i : ℕ) → length ts ≤ i → called ns (map fact_of (drop i ts)) o ≡ a → None ≡ a
  none_met i h so_far = sym (ap (λ (us : List Tuple). called ns (map fact_of us) o) (drop_all i ts h)) ∙ so_far

-- ---- forms in turn

-- The tuples of the other forms, after these.
abbrev pub after_called : List Fact → Option (List Fact) → Option (List Fact)
after_called us o = option_map (λ vs. us ++ vs) o

module _ (ns : Names) (ts : List Fact) (os : List Tuple) (a : Option (List Fact)) where
  abbrev pub CalledSoFar : ℕ → List Tuple → Type 0
  CalledSoFar i chosen = after_called (map fact_of chosen) (all_called ns ts (map fact_of (drop i os))) ≡ a

  none_before : (o : Option (List Fact)) → after_called [] o ≡ o
  none_before None = refl
  none_before (Some vs) = refl

  -- None is called yet.
  pub called_start : (chosen : List Tuple) → chosen ≡ [] → all_called ns ts (map fact_of os) ≡ a → CalledSoFar 0 chosen
  called_start chosen e so = ap (λ (l : List Tuple). after_called (map fact_of l) (all_called ns ts (map fact_of os))) e ∙ none_before (all_called ns ts (map fact_of os)) ∙ so

  next_form : (i : ℕ) (o : Tuple) (u : Option Fact) → i < length os → o ≡ get_or os i o → u ≡ called ns ts (fact_of o)
      → all_called ns ts (map fact_of (drop i os)) ≡ option_and_then (λ t. option_map (λ us. t ∷ us) (all_called ns ts (map fact_of (drop (i + 1) os)))) u
  next_form i o u h e is =
      ap (λ (ps : List Tuple). all_called ns ts (map fact_of ps)) (drop_more os i o h ∙ ap (λ (p : Tuple). p ∷ drop (i + 1) os) (sym e))
      ∙ ap (option_and_then (λ t. option_map (λ us. t ∷ us) (all_called ns ts (map fact_of (drop (i + 1) os))))) (sym is)

  one_after : (us : List Fact) (t : Fact) (r : Option (List Fact)) → after_called us (option_map (λ vs. t ∷ vs) r) ≡ after_called (us ++ t ∷ []) r
  one_after us t None = refl
  one_after us t (Some vs) = ap Some (sym (append_assoc us (t ∷ []) vs))

  -- One is called,
  pub called_on : (i : ℕ) (o : Tuple) (chosen next : List Tuple) (t : Tuple) → i < length os → o ≡ get_or os i o → Some (fact_of t) ≡ called ns ts (fact_of o) → next ≡ chosen ++ t ∷ []
      → CalledSoFar i chosen → CalledSoFar (i + 1) next
  called_on i o chosen next t h e is more so_far =
      ap (λ (us : List Tuple). after_called (map fact_of us) (all_called ns ts (map fact_of (drop (i + 1) os)))) more
      ∙ ap (λ (us : List Fact). after_called us (all_called ns ts (map fact_of (drop (i + 1) os)))) (map_push fact_of chosen t)
      ∙ sym (one_after (map fact_of chosen) (fact_of t) (all_called ns ts (map fact_of (drop (i + 1) os))))
      ∙ sym (ap (after_called (map fact_of chosen)) (next_form i o (Some (fact_of t)) h e is))
      ∙ so_far

  -- or none,
  pub called_none : (i : ℕ) (o : Tuple) (chosen : List Tuple) → i < length os → o ≡ get_or os i o → None ≡ called ns ts (fact_of o) → CalledSoFar i chosen → None ≡ a
  called_none i o chosen h e is so_far = sym (ap (after_called (map fact_of chosen)) (next_form i o None h e is)) ∙ so_far

  -- or all were.
  pub called_all : (i : ℕ) (chosen : List Tuple) → length os ≤ i → CalledSoFar i chosen → Some (map fact_of chosen) ≡ a
  called_all i chosen h so_far =
      ap Some (sym (append-nil (map fact_of chosen)))
      ∙ sym (ap (λ (ps : List Tuple). after_called (map fact_of chosen) (all_called ns ts (map fact_of ps))) (drop_all i os h))
      ∙ so_far

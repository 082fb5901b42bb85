-- A shift of attempt numbers goes through matching.
use Rattle.std.proofs.Common.{◌≡◌, ℕ, zero, suc, ap, refl, sym, ◌∙◌, List, [], ◌∷◌, ◌++◌, map, Bool, true, false, cond, length, Option, Some, None}
use Rattle.std.specs.List.{flat_map}
use Rattle.std.specs.Option.{option_and_then, option_map}
use Rattle.std.specs.Prelude.{◌==◌, find, is_some}
use Rattle.def_chase.specs.Values.{Datum, Fact, same_datum}
use Rattle.def_chase.specs.Mappings.{Slot, Var, Const, Pattern}
use Rattle.def_chase.specs.Matching.{Known, learn, learn_at, learn_terms, learn_atom, learn_all, lists_of, extends}
use Rattle.def_chase.specs.Shifts.{shift, shift_fact}
use Rattle.def_chase.proofs.Maps.{find_map, map_join, some_map}
use Rattle.def_chase.proofs.Atoms.{LeavesTerms, Leaves}
use Rattle.def_chase.proofs.Shifted.{same_datum_shifts}

-- What is known of each variable, shifted.
abbrev pub shift_known : (ℕ → ℕ) → Known → Known
shift_known n k v = option_map (shift n) (k v)

module _ (n : ℕ → ℕ) where
  -- ---- learning

  learn_shifts : (k : Known) (v : ℕ) (d : Datum) → learn (shift_known n k) v (shift n d) ≡ (shift_known n) (learn k v d)
  learn_shifts k v d = λ i w. by w (w == v) i
    where
      by : (w : ℕ) (b : Bool) → cond b (Some (shift n d)) (option_map (shift n) (k w)) ≡ option_map (shift n) (cond b (Some d) (k w))
      by w true = refl
      by w false = refl

  if_shifts : (k : Known) (b : Bool) → cond b (Some (shift_known n k)) None ≡ option_map (shift_known n) (cond b (Some k) None)
  if_shifts k true = refl
  if_shifts k false = refl

  learn_at_shifts : (o : Option Datum) (k : Known) (v : ℕ) (d : Datum) → learn_at (option_map (shift n) o) (shift_known n k) v (shift n d) ≡ option_map (shift_known n) (learn_at o k v d)
  learn_at_shifts None k v d = ap Some (learn_shifts k v d)
  learn_at_shifts (Some e) k v d = ap (λ b. cond b (Some (shift_known n k)) None) (same_datum_shifts n e d) ∙ if_shifts k (same_datum e d)

  learn_terms_shifts : (ps : List Slot) → LeavesTerms (shift n) ps → (ds : List Datum) (k : Known) → learn_terms ps (map (shift n) ds) (shift_known n k) ≡ option_map (shift_known n) (learn_terms ps ds k)
  learn_terms_shifts [] l [] k = refl
  learn_terms_shifts [] l (d ∷ ds) k = refl
  learn_terms_shifts (p ∷ ps) l [] k = refl
  learn_terms_shifts (Var v ∷ ps) l (d ∷ ds) k = ap (option_and_then (learn_terms ps (map (shift n) ds))) (learn_at_shifts (k v) k v d) ∙ by (learn_at (k v) k v d) (λ j. learn_terms_shifts ps l ds j)
    where
      by : (o : Option Known) → ((j : Known) → learn_terms ps (map (shift n) ds) (shift_known n j) ≡ option_map (shift_known n) (learn_terms ps ds j)) → option_and_then (learn_terms ps (map (shift n) ds)) (option_map (shift_known n) o) ≡ option_map (shift_known n) (option_and_then (learn_terms ps ds) o)
      by None h = refl
      by (Some j) h = h j
  learn_terms_shifts (Const e ∷ ps) l (d ∷ ds) k =
      ap (λ b. option_and_then (learn_terms ps (map (shift n) ds)) (cond b (Some (shift_known n k)) None)) (ap (λ z. same_datum z (shift n d)) (sym l.0) ∙ same_datum_shifts n e d) ∙ by (same_datum e d) (learn_terms_shifts ps l.1 ds k)
    where
      by : (b : Bool) → learn_terms ps (map (shift n) ds) (shift_known n k) ≡ option_map (shift_known n) (learn_terms ps ds k)
          → option_and_then (learn_terms ps (map (shift n) ds)) (cond b (Some (shift_known n k)) None) ≡ option_map (shift_known n) (option_and_then (learn_terms ps ds) (cond b (Some k) None))
      by true h = h
      by false h = refl

  pub learn_atom_shifts : (a : Pattern) → LeavesTerms (shift n) a.terms → (t : Fact) (k : Known) → learn_atom a (shift_fact n t) (shift_known n k) ≡ option_map (shift_known n) (learn_atom a t k)
  learn_atom_shifts a l t k = by (a.relation == t.relation)
    where
      by : (b : Bool) → cond b (learn_terms a.terms (map (shift n) t.values) (shift_known n k)) None ≡ option_map (shift_known n) (cond b (learn_terms a.terms t.values k) None)
      by true = learn_terms_shifts a.terms l t.values k
      by false = refl

  pub learn_all_shifts : (as' : List Pattern) → Leaves (shift n) as' → (ts : List Fact) (k : Known) → learn_all as' (map (shift_fact n) ts) (shift_known n k) ≡ option_map (shift_known n) (learn_all as' ts k)
  learn_all_shifts [] l [] k = refl
  learn_all_shifts [] l (t ∷ ts) k = refl
  learn_all_shifts (a ∷ as') l [] k = refl
  learn_all_shifts (a ∷ as') l (t ∷ ts) k = ap (option_and_then (learn_all as' (map (shift_fact n) ts))) (learn_atom_shifts a l.0 t k) ∙ by (learn_atom a t k) (λ j. learn_all_shifts as' l.1 ts j)
    where
      by : (o : Option Known) → ((j : Known) → learn_all as' (map (shift_fact n) ts) (shift_known n j) ≡ option_map (shift_known n) (learn_all as' ts j))
          → option_and_then (learn_all as' (map (shift_fact n) ts)) (option_map (shift_known n) o) ≡ option_map (shift_known n) (option_and_then (learn_all as' ts) o)
      by None h = refl
      by (Some j) h = h j

  -- ---- lists of tuples

  begun_shifts : (t : Fact) (ls : List (List Fact)) → map (λ l. shift_fact n t ∷ l) (map (map (shift_fact n)) ls) ≡ map (map (shift_fact n)) (map (λ l. t ∷ l) ls)
  begun_shifts t [] = refl
  begun_shifts t (l ∷ ls) = ap (λ ks. (shift_fact n t ∷ map (shift_fact n) l) ∷ ks) (begun_shifts t ls)

  next_shifts : (D : List Fact) (ls : List (List Fact)) → flat_map (λ t. map (λ l. t ∷ l) (map (map (shift_fact n)) ls)) (map (shift_fact n) D) ≡ map (map (shift_fact n)) (flat_map (λ t. map (λ l. t ∷ l) ls) D)
  next_shifts [] ls = refl
  next_shifts (t ∷ D) ls = (λ i. begun_shifts t ls i ++ next_shifts D ls i) ∙ sym (map_join (map (shift_fact n)) (map (λ l. t ∷ l) ls) (flat_map (λ t. map (λ l. t ∷ l) ls) D))

  pub lists_shifts : (m : ℕ) (D : List Fact) → lists_of m (map (shift_fact n) D) ≡ map (map (shift_fact n)) (lists_of m D)
  lists_shifts zero D = refl
  lists_shifts (suc m) D = ap (λ ls. flat_map (λ t. map (λ l. t ∷ l) ls) (map (shift_fact n) D)) (lists_shifts m D) ∙ next_shifts D (lists_of m D)

  pub found_shifts : (p q : List Fact → Bool) → ((ts : List Fact) → p (map (shift_fact n) ts) ≡ q ts) → (m : ℕ) (D : List Fact) → find p (lists_of m (map (shift_fact n) D)) ≡ option_map (map (shift_fact n)) (find q (lists_of m D))
  found_shifts p q h m D = ap (find p) (lists_shifts m D) ∙ find_map (map (shift_fact n)) p q h (lists_of m D)

  pub extends_shifts : (k : Known) (right : List Pattern) → Leaves (shift n) right → (E : List Fact) → extends (shift_known n k) right (map (shift_fact n) E) ≡ extends k right E
  extends_shifts k right l E =
      ap is_some (found_shifts (λ ts. is_some (learn_all right ts (shift_known n k))) (λ ts. is_some (learn_all right ts k)) (λ ts. ap is_some (learn_all_shifts right l ts k) ∙ some_map (shift_known n) (learn_all right ts k)) (length right) E)
      ∙ some_map (map (shift_fact n)) (find (λ ts. is_some (learn_all right ts k)) (lists_of (length right) E))

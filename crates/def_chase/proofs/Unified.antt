-- The test decides what is more specific, and the unifier makes the two tuples one and leaves what is no null of the first.
use Rattle.std.proofs.Common.{◌≡◌, ℕ, zero, suc, ap, refl, sym, ◌∙◌, List, [], ◌∷◌, map, Bool, true, false, not, ◌||◌, ◌&&◌, cond, length, Option, Some, None, inl, inr, arith}
use Rattle.std.specs.Bool.{Decides}
use Rattle.std.specs.Cmp.{eq_by_cmp_equiv}
use Rattle.std.specs.List.{list_any, list_all, zip}
use Rattle.std.specs.Option.{option_map}
use Rattle.std.specs.Ordering.{is_lt}
use Rattle.std.specs.Prelude.{ℤ, ◌==◌, find, unwrap_or}
use Rattle.std.proofs.lemmas.Bool.{false≢true, and_parts, eqb-true, eq-eqb}
use Rattle.std.proofs.lemmas.List.{length-map}
use Rattle.def_chase.specs.Values.{Datum, Number, Text, Unknown, Fact, datum_cmp, same_datum, under}
use Rattle.def_chase.specs.Specific.{IsMoreSpecific, is_constant, graph, agree, more_specific, image_of}
use Rattle.def_chase.specs.Unifier.{after, lesser, least_after, unifier}
use Rattle.def_chase.specs.Laws.{UnifierUnites}
use Rattle.def_chase.specs.Caused.{KeepsConstants}
use Rattle.def_chase.proofs.Bools.{both, or_left, or_right, first_off}
use Rattle.def_chase.proofs.Order.{datum_total}
use Rattle.def_chase.proofs.Searches.{all_first, all_second}
use Rattle.def_chase.proofs.Learning.{same_datum_exact, same_datum_itself}
use Rattle.def_chase.proofs.Substitutions.{map_twice, map_each, constant_left}
use Rattle.def_chase.proofs.Walks.{among, same_end}

abbrev pub Graph : Type 0
Graph = List (Datum × Datum)

abbrev lookup : Graph → Datum → Datum
lookup g x = unwrap_or (option_map (λ p. p.1) (find (λ p. same_datum p.0 x) g)) x

pub swapped : (x y : Datum) → same_datum x y ≡ same_datum y x
swapped x y = (eq_by_cmp_equiv datum_total).symm x y

pub not_found : (x : Datum) (ts ss : List Datum) → among ts x ≡ false → lookup (zip ts ss) x ≡ x
not_found x [] ss e = refl
not_found x (t ∷ ts) [] e = refl
not_found x (t ∷ ts) (s ∷ ss) e =
    let p = first_off (same_datum x t) (among ts x) e in
    ap (λ b. unwrap_or (option_map (λ p. p.1) (cond b (Some (t, s)) (find (λ p. same_datum p.0 x) (zip ts ss)))) x) (swapped t x ∙ p.0) ∙ not_found x ts ss p.1

abbrev keeps_constant : Datum × Datum → Bool
keeps_constant p = not (is_constant p.0) || same_datum p.0 p.1

constant_kept : (g : Graph) (x : Datum) → list_all keeps_constant g ≡ true → is_constant x ≡ true → lookup g x ≡ x
constant_kept [] x e c = refl
constant_kept (p ∷ g) x e c = let q = and_parts (keeps_constant p) (list_all keeps_constant g) e in by (same_datum p.0 x) refl q.0 (constant_kept g x q.1 c)
  where
    by : (b : Bool) → same_datum p.0 x ≡ b → keeps_constant p ≡ true → lookup g x ≡ x → unwrap_or (option_map (λ p. p.1) (cond b (Some p) (find (λ p. same_datum p.0 x) g))) x ≡ x
    by true h k rest =
        let at : p.0 ≡ x = same_datum_exact p.0 x h in
        let same : same_datum p.0 p.1 ≡ true = ap (λ b. not b || same_datum p.0 p.1) (sym (ap is_constant at ∙ c)) ∙ k in
        sym (same_datum_exact p.0 p.1 same) ∙ at
    by false h k rest = rest

-- ---- the parts of the test

abbrev one_relation : Fact → Fact → Bool
one_relation s t = s.relation == t.relation

abbrev one_length : Fact → Fact → Bool
one_length s t = length s.values == length t.values

abbrev each_agrees : Graph → Bool
each_agrees g = list_all (λ p. keeps_constant p && list_all (agree p) g) g

pub record Parts (s t : Fact) : Type 0 where
  pub relation : s.relation ≡ t.relation
  pub length : Rattle.std.proofs.Common.length s.values ≡ Rattle.std.proofs.Common.length t.values
  pub constants : list_all keeps_constant (graph t s) ≡ true
  pub agrees : list_all (λ p. list_all (agree p) (graph t s)) (graph t s) ≡ true

parts_of : (s t : Fact) → more_specific s t ≡ true → Parts s t
parts_of s t e =
    let a = and_parts (one_relation s t && one_length s t) (each_agrees (graph t s)) e in
    let b = and_parts (one_relation s t) (one_length s t) a.0 in
    record {
      relation = eqb-true s.relation t.relation b.0;
      length = eqb-true _ _ b.1;
      constants = all_first keeps_constant (λ p. list_all (agree p) (graph t s)) (graph t s) a.1;
      agrees = all_second keeps_constant (λ p. list_all (agree p) (graph t s)) (graph t s) a.1;
    }

found : (g : Graph) (x y : Datum) → list_all (agree (x, y)) g ≡ true → list_any (λ p. same_datum p.0 x) g ≡ true → lookup g x ≡ y
found [] x y a m = absurd (false≢true m)
found (p ∷ g) x y a m =
    let q = and_parts (agree (x, y) p) (list_all (agree (x, y)) g) a in
    by (same_datum p.0 x) refl q.0 m (λ k. found g x y q.1 k)
  where
    by : (b : Bool) → same_datum p.0 x ≡ b → agree (x, y) p ≡ true → (b || list_any (λ p. same_datum p.0 x) g) ≡ true → (list_any (λ p. same_datum p.0 x) g ≡ true → lookup g x ≡ y)
        → unwrap_or (option_map (λ p. p.1) (cond b (Some p) (find (λ p. same_datum p.0 x) g))) x ≡ y
    by true h k any rest = sym (same_datum_exact y p.1 (ap (λ b. not b || same_datum y p.1) (sym (swapped x p.0 ∙ h)) ∙ k))
    by false h k any rest = rest any

found_each : (g : Graph) (ts ss : List Datum) → length ss ≡ length ts → list_all (λ q. list_all (agree q) g) (zip ts ss) ≡ true
    → list_all (λ q. list_any (λ p. same_datum p.0 q.0) g) (zip ts ss) ≡ true → map (lookup g) ts ≡ ss
found_each g [] [] n a m = refl
found_each g [] (s ∷ ss) n a m = absurd (omega arith)
found_each g (t ∷ ts) [] n a m = absurd (omega arith)
found_each g (t ∷ ts) (s ∷ ss) n a m =
    let p = and_parts (list_all (agree (t, s)) g) (list_all (λ q. list_all (agree q) g) (zip ts ss)) a in
    let q = and_parts (list_any (λ p. same_datum p.0 t) g) (list_all (λ q. list_any (λ p. same_datum p.0 q.0) g) (zip ts ss)) m in
    let k : length ss ≡ length ts = omega arith in
    λ i. found g t s p.0 q.0 i ∷ found_each g ts ss k p.1 q.1 i

self_found : (h g : Graph) → ((x : Datum) → list_any (λ p. same_datum p.0 x) g ≡ true → list_any (λ p. same_datum p.0 x) h ≡ true) → list_all (λ q. list_any (λ p. same_datum p.0 q.0) h) g ≡ true
self_found h [] into = refl
self_found h (q ∷ g) into =
    both _ _ (into q.0 (or_left (same_datum q.0 q.0) _ (same_datum_itself q.0))) (self_found h g (λ x e. into x (or_right (same_datum q.0 x) _ e)))

-- The images take the first tuple to the second.
pub image_is : (s t : Fact) → more_specific s t ≡ true → map (image_of t s) t.values ≡ s.values
image_is s t e = let p = parts_of s t e in found_each (graph t s) t.values s.values p.length p.agrees (self_found (graph t s) (graph t s) (λ x h. h))

pub image_constants : (s t : Fact) → more_specific s t ≡ true → (x : Datum) → is_constant x ≡ true → image_of t s x ≡ x
image_constants s t e x c = constant_kept (graph t s) x (parts_of s t e).constants c

-- ---- the converse

module _ (to : Datum → Datum) (numbers : (i : ℤ) → to (Number i) ≡ Number i) (words : (w : List ℕ) → to (Text w) ≡ Text w) where
  constant_ok : (x : Datum) → keeps_constant (x, to x) ≡ true
  constant_ok (Number i) = ap (same_datum (Number i)) (numbers i) ∙ same_datum_itself (Number i)
  constant_ok (Text w) = ap (same_datum (Text w)) (words w) ∙ same_datum_itself (Text w)
  constant_ok (Unknown n) = refl

  agree_two : (x y : Datum) → agree (x, to x) (y, to y) ≡ true
  agree_two x y = by (same_datum x y) refl
    where
      by : (b : Bool) → same_datum x y ≡ b → (not b || same_datum (to x) (to y)) ≡ true
      by true e = ap (λ z. same_datum (to x) (to z)) (sym (same_datum_exact x y e)) ∙ same_datum_itself (to x)
      by false e = refl

  agree_all : (x : Datum) (ys : List Datum) → list_all (agree (x, to x)) (zip ys (map to ys)) ≡ true
  agree_all x [] = refl
  agree_all x (y ∷ ys) = both (agree (x, to x) (y, to y)) _ (agree_two x y) (agree_all x ys)

  test_all : (xs ys : List Datum) → list_all (λ p. keeps_constant p && list_all (agree p) (zip ys (map to ys))) (zip xs (map to xs)) ≡ true
  test_all [] ys = refl
  test_all (x ∷ xs) ys = both _ _ (both _ _ (constant_ok x) (agree_all x ys)) (test_all xs ys)

pub specific_decides : (s t : Fact) → Decides (more_specific s t) (IsMoreSpecific s t)
specific_decides s t = (
  λ e. record {
    one_relation = (parts_of s t e).relation;
    to = image_of t s;
    numbers = λ i. image_constants s t e (Number i) refl;
    words = λ w. image_constants s t e (Text w) refl;
    moves = image_is s t e;
  },
  λ x. both _ _ (both _ _ (eq-eqb s.relation t.relation x.one_relation) (eq-eqb _ _ (ap length (sym x.moves) ∙ length-map t.values x.to)))
      (ap (λ ds. each_agrees (zip t.values ds)) (sym x.moves) ∙ test_all x.to x.numbers x.words t.values t.values),
)

-- ---- the unifier

after_fixed : (g : Datum → Datum) (x : Datum) → g x ≡ x → (n : ℕ) → after n g x ≡ x
after_fixed g x e zero = refl
after_fixed g x e (suc n) = ap (after n g) e ∙ after_fixed g x e n

lesser_same : (x : Datum) → lesser x x ≡ x
lesser_same x = by (is_lt (datum_cmp x x))
  where
    by : (b : Bool) → cond b x x ≡ x
    by true = refl
    by false = refl

least_fixed : (g : Datum → Datum) (x : Datum) → g x ≡ x → (n : ℕ) → least_after n g x ≡ x
least_fixed g x e zero = refl
least_fixed g x e (suc n) = ap (λ y. lesser x (least_after n g y)) e ∙ ap (lesser x) (least_fixed g x e n) ∙ lesser_same x

fixed : (t s : Fact) (x : Datum) → image_of t s x ≡ x → unifier t s x ≡ x
fixed t s x e = ap (least_after (length t.values) (image_of t s)) (after_fixed (image_of t s) x e (length t.values)) ∙ least_fixed (image_of t s) x e (length t.values)

-- What stands nowhere in t stays.
pub unifier_others : (t s : Fact) (x : Datum) → among t.values x ≡ false → unifier t s x ≡ x
unifier_others t s x e = fixed t s x (not_found x t.values s.values e)

pub unifier_constants : (t s : Fact) → more_specific s t ≡ true → KeepsConstants (unifier t s)
unifier_constants t s e = (λ i. fixed t s (Number i) (image_constants s t e (Number i) refl), λ w. fixed t s (Text w) (image_constants s t e (Text w) refl))

-- The unifier makes the two tuples one.
pub unified : (s t : Fact) → more_specific s t ≡ true → under (unifier t s) s ≡ under (unifier t s) t
unified s t e =
    let values : map (unifier t s) s.values ≡ map (unifier t s) t.values =
    ap (map (unifier t s)) (sym (image_is s t e)) ∙ sym (map_twice (image_of t s) (unifier t s) t.values)
    ∙ map_each (λ x. unifier t s (image_of t s x)) (unifier t s) (same_end (image_of t s) t.values (λ x h. not_found x t.values s.values h)) t.values in
    λ i. record { relation = (parts_of s t e).relation i; values = values i }

pub unifier_laws : UnifierUnites
unifier_laws s t e = record { unites = unified s t e; constants = constant_left (unifier t s) (unifier_constants t s e); others = unifier_others t s }

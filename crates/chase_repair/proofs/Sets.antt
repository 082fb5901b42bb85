-- Ordered sets of what means values of an order, and tuples put in one after the other.
use Rattle.std.proofs.Common.{◌≡◌, ℕ, ◌+◌, ◌<◌, ap, refl, sym, ◌∙◌, ◌-◌, ◌≤◌, List, [], ◌∷◌, ◌++◌, map, take, drop, length, get_or, arith}
use Rattle.std.proofs.lemmas.List.{map-append, map_more, take_more, take_rest, append-nil}
use Rattle.std.proofs.lemmas.Grind.{flat_map-append}
use Rattle.std.specs.List.{flat_map}
use Rattle.std.specs.BTreeSet.{insert_key}
use Rattle.def_chase.specs.Values.{Fact, null_cmp}
use Rattle.base_types.specs.declared.nulls.Null.{Null}
use Rattle.base_types.specs.Meanings.{null_of}
use Rattle.def_steps.specs.Rewriting.{in_order, sorted_nulls}
use Rattle.def_chase.specs.Repository.{Change, Insert, change, apply}
use Rattle.std.specs.Ordering.{match_ordering, on}
use Rattle.std.specs.declared.cmp.Ordering.{Ordering}
use Rattle.std.specs.declared.cmp.Ordering.TheVariants.{Less, Equal, Greater}

-- A key put in among those that mean the keys.
pub insert_mapped : {A B : Type 0} (f : A → B) (cmp : B → B → Ordering) (k : A) (ks : List A) → map f (insert_key (on f cmp) ks k) ≡ insert_key cmp (map f ks) (f k)
insert_mapped f cmp k [] = refl
insert_mapped f cmp k (x ∷ ks) = by (cmp (f k) (f x)) (insert_mapped f cmp k ks)
  where
    by : (o : Ordering) → map f (insert_key (on f cmp) ks k) ≡ insert_key cmp (map f ks) (f k)
        → map f (match_ordering o (k ∷ x ∷ ks) (x ∷ ks) (x ∷ insert_key (on f cmp) ks k)) ≡ match_ordering o (f k ∷ f x ∷ map f ks) (f x ∷ map f ks) (f x ∷ insert_key cmp (map f ks) (f k))
    by Less h = refl
    by Equal h = refl
    by Greater h = ap (λ l. f x ∷ l) h

apply_more : (D : List Fact) (ws : List Change) (w : Change) → apply D (ws ++ w ∷ []) ≡ apply (apply D ws) (w ∷ [])
apply_more D [] w = refl
apply_more D (v ∷ ws) w = apply_more (change D v) ws w

-- One tuple more is put in.
pub one_more : (D E F ts us : List Fact) (t : Fact) → E ≡ apply D (map Insert ts) → F ≡ apply E (Insert t ∷ []) → us ≡ ts ++ t ∷ [] → F ≡ apply D (map Insert us)
one_more D E F ts us t e f h = f ∙ ap (λ (G : List Fact). apply G (Insert t ∷ [])) e ∙ sym (apply_more D (map Insert ts) (Insert t)) ∙ ap (apply D) (sym (ap (map Insert) h ∙ map-append Insert ts (t ∷ [])))

-- The facts of the tuples up to the place that a loop has come to.
pub facts_more : {A B : Type 0} (f : A → B) (xs : List A) (i : ℕ) (x : A) → i < length xs → x ≡ get_or xs i x → map f (take (i + 1) xs) ≡ map f (take i xs) ++ f x ∷ []
facts_more f xs i x h is = map_more f xs i x h ∙ ap (λ y. map f (take i xs) ++ f y ∷ []) (sym is)

-- The images of these facts.
pub images_more : {A B C : Type 0} (g : B → C) (f : A → B) (xs : List A) (i : ℕ) (x : A) → i < length xs → x ≡ get_or xs i x → map g (map f (take (i + 1) xs)) ≡ map g (map f (take i xs)) ++ g (f x) ∷ []
images_more g f xs i x h is = ap (map g) (facts_more f xs i x h is) ∙ map-append g (map f (take i xs)) (f x ∷ [])

-- The first null put in among the others.
pub sorted_more : (ns : List Null) (ks new : List Null) (d : Null) → 1 ≤ length ns → new ≡ insert_key (on null_of null_cmp) ks (get_or ns 0 d)
    → map null_of ks ≡ sorted_nulls (map null_of (take (length ns - 1) (drop 1 ns))) → map null_of new ≡ sorted_nulls (map null_of ns)
sorted_more ns ks new d h e f = by ns h e (f ∙ ap (λ l. sorted_nulls (map null_of l)) (take_rest ns 1))
  where
    by : (ns : List Null) → 1 ≤ length ns → new ≡ insert_key (on null_of null_cmp) ks (get_or ns 0 d) → map null_of ks ≡ sorted_nulls (map null_of (drop 1 ns)) → map null_of new ≡ sorted_nulls (map null_of ns)
    by [] h e f = absurd (omega arith)
    by (n ∷ ns) h e f = ap (map null_of) e ∙ insert_mapped null_of null_cmp n ks ∙ ap (λ l. insert_key null_cmp l (null_of n)) f

apply_all : (D : List Fact) (ws vs : List Change) → apply D (ws ++ vs) ≡ apply (apply D ws) vs
apply_all D [] vs = refl
apply_all D (w ∷ ws) vs = apply_all (change D w) ws vs

-- All of a list are put in after those that were.
pub all_more : (E F ts us vs : List Fact) → E ≡ in_order ts → F ≡ apply E (map Insert us) → vs ≡ ts ++ us → F ≡ in_order vs
all_more E F ts us vs e f h = f ∙ ap (λ (G : List Fact). apply G (map Insert us)) e ∙ sym (apply_all [] (map Insert ts) (map Insert us)) ∙ ap (apply []) (sym (ap (map Insert) h ∙ map-append Insert ts us))

-- The lists up to the place that a loop has come to, one after another.
pub lists_more : {A B : Type 0} (f : A → List B) (xs : List A) (i : ℕ) (x : A) → i < length xs → x ≡ get_or xs i x → flat_map f (take (i + 1) xs) ≡ flat_map f (take i xs) ++ f x
lists_more f xs i x h is =
    ap (flat_map f) (take_more xs i x h ∙ ap (λ y. take i xs ++ y ∷ []) (sym is)) ∙ flat_map-append f (take i xs) (x ∷ []) ∙ ap (λ l. flat_map f (take i xs) ++ l) (append-nil (f x))

-- What passes a test throughout lists, repositories and matches passes it after searches, writes and rewritings.
use Rattle.std.specs.Prelude.{find, filter, unwrap_or, ◌==◌}
use Rattle.std.proofs.Common.{◌≡◌, ℕ, zero, suc, refl, subst, List, [], ◌∷◌, ◌++◌, map, length, Bool, true, false, not, cond, Option, Some, None}
use Rattle.std.specs.Option.{option_map, option_and_then}
use Rattle.std.specs.Ordering.{is_lt}
use Rattle.std.specs.List.{list_all, slice_index_or, flat_map, zip, AllByRecursion}
use Rattle.std.specs.BTreeSet.{insert_key}
use Rattle.std.proofs.lemmas.Bool.{and_parts}
use Rattle.def_chase.specs.Values.{Datum, Fact, datum_cmp, fact_cmp, same_fact, same_datum}
use Rattle.def_chase.specs.Repository.{Change, Insert, Delete, apply}
use Rattle.def_chase.specs.Mappings.{Slot, Var, Const, Pattern}
use Rattle.def_chase.specs.Matching.{Known, learn_at, learn_term, learn_terms, learn_atom, learn_all, lists_of}
use Rattle.def_chase.specs.Specific.{image_of}
use Rattle.def_chase.specs.Unifier.{after, least_after, unifier}
use Rattle.def_chase.proofs.Bools.{both, none_some, some_same}
use Rattle.def_chase.proofs.Sets.{by_place}
use Rattle.def_steps.specs.Rewriting.{in_order}

-- ---- lists

pub all_join : {A : Type 0} (p : A → Bool) (xs ys : List A) → list_all p xs ≡ true → list_all p ys ≡ true → list_all p (xs ++ ys) ≡ true
all_join p [] ys a b = b
all_join p (x ∷ xs) ys a b = let q = and_parts (p x) (list_all p xs) a in both (p x) (list_all p (xs ++ ys)) q.0 (all_join p xs ys q.1 b)

pub all_kept : {A : Type 0} (p q : A → Bool) (xs : List A) → list_all p xs ≡ true → list_all p (filter q xs) ≡ true
all_kept p q [] a = refl
all_kept p q (x ∷ xs) a = let e = and_parts (p x) (list_all p xs) a in by (q x) e.0 (all_kept p q xs e.1)
  where
    by : (b : Bool) → p x ≡ true → list_all p (filter q xs) ≡ true → list_all p (cond b (x ∷ filter q xs) (filter q xs)) ≡ true
    by true e rest = both (p x) (list_all p (filter q xs)) e rest
    by false e rest = rest

pub all_weaker : {A : Type 0} (p q : A → Bool) → ((x : A) → p x ≡ true → q x ≡ true) → (xs : List A) → list_all p xs ≡ true → list_all q xs ≡ true
all_weaker p q h [] a = refl
all_weaker p q h (x ∷ xs) a = let e = and_parts (p x) (list_all p xs) a in both (q x) (list_all q xs) (h x e.0) (all_weaker p q h xs e.1)

pub all_mapped : {A B : Type 0} (p : A → Bool) (q : B → Bool) (f : A → B) → ((x : A) → p x ≡ true → q (f x) ≡ true) → (xs : List A) → list_all p xs ≡ true → list_all q (map f xs) ≡ true
all_mapped p q f h [] a = refl
all_mapped p q f h (x ∷ xs) a = let e = and_parts (p x) (list_all p xs) a in both (q (f x)) (list_all q (map f xs)) (h x e.0) (all_mapped p q f h xs e.1)

-- What is found passes what all pass.
pub found_passes_all : {A : Type 0} (P : A → Type 0) (p : A → Bool) (xs : List A) (x : A) → AllByRecursion P xs → find p xs ≡ Some x → P x
found_passes_all P p [] x a e = absurd (none_some x e)
found_passes_all P p (y ∷ ys) x a e = by (p y) e (found_passes_all P p ys x a.1)
  where
    by : (b : Bool) → cond b (Some y) (find p ys) ≡ Some x → (find p ys ≡ Some x → P x) → P x
    by true h rest = subst P (some_same y x h) a.0
    by false h rest = rest h

pub found_passes_too : {A : Type 0} (q p : A → Bool) (d : A) (xs : List A) → list_all q xs ≡ true → q d ≡ true → q (unwrap_or (find p xs) d) ≡ true
found_passes_too q p d [] a e = e
found_passes_too q p d (x ∷ xs) a e = let h = and_parts (q x) (list_all q xs) a in by (p x) h.0 (found_passes_too q p d xs h.1 e)
  where
    by : (b : Bool) → q x ≡ true → q (unwrap_or (find p xs) d) ≡ true → q (unwrap_or (cond b (Some x) (find p xs)) d) ≡ true
    by true h rest = h
    by false h rest = rest

pub index_passes : {A : Type 0} (q : A → Bool) (d : A) (xs : List A) (i : ℕ) → list_all q xs ≡ true → q d ≡ true → q (slice_index_or xs i d) ≡ true
index_passes q d [] i a e = e
index_passes q d (x ∷ xs) zero a e = (and_parts (q x) (list_all q xs) a).0
index_passes q d (x ∷ xs) (suc i) a e = index_passes q d xs i (and_parts (q x) (list_all q xs) a).1 e

-- ---- lists of tuples

begun_all : (q : Fact → Bool) (t : Fact) → q t ≡ true → (ls : List (List Fact)) → AllByRecursion (λ ts. list_all q ts ≡ true) ls → AllByRecursion (λ ts. list_all q ts ≡ true) (map (λ ts. t ∷ ts) ls)
begun_all q t e [] a = tt
begun_all q t e (l ∷ ls) a = (both (q t) (list_all q l) e a.0, begun_all q t e ls a.1)

rec_join : {A : Type 0} (P : A → Type 0) (xs ys : List A) → AllByRecursion P xs → AllByRecursion P ys → AllByRecursion P (xs ++ ys)
rec_join P [] ys a b = b
rec_join P (x ∷ xs) ys a b = (a.0, rec_join P xs ys a.1 b)

next_all : (q : Fact → Bool) (ls : List (List Fact)) → AllByRecursion (λ ts. list_all q ts ≡ true) ls → (E : List Fact) → list_all q E ≡ true → AllByRecursion (λ ts. list_all q ts ≡ true) (flat_map (λ t. map (λ ts. t ∷ ts) ls) E)
next_all q ls a [] e = tt
next_all q ls a (t ∷ E) e =
    let h = and_parts (q t) (list_all q E) e in
    rec_join (λ ts. list_all q ts ≡ true) (map (λ ts. t ∷ ts) ls) (flat_map (λ t. map (λ ts. t ∷ ts) ls) E) (begun_all q t h.0 ls a) (next_all q ls a E h.1)

pub lists_all : (q : Fact → Bool) (n : ℕ) (E : List Fact) → list_all q E ≡ true → AllByRecursion (λ ts. list_all q ts ≡ true) (lists_of n E)
lists_all q zero E e = (refl, tt)
lists_all q (suc n) E e = next_all q (lists_of n E) (lists_all q n E e) E e

-- ---- repositories

-- An inserted tuple passes.
abbrev pub insert_passes : (Fact → Bool) → Change → Bool
insert_passes q (Insert t) = q t
insert_passes q (Delete t) = true

all_inserted : (q : Fact → Bool) (D : List Fact) (t : Fact) → list_all q D ≡ true → q t ≡ true → list_all q (insert_key fact_cmp D t) ≡ true
all_inserted q [] t a e = both (q t) true e refl
all_inserted q (u ∷ D) t a e =
    let h = and_parts (q u) (list_all q D) a in
    by_place fact_cmp (λ l. list_all q l ≡ true) (fact_cmp t u) (t ∷ u ∷ D) (u ∷ D) (u ∷ insert_key fact_cmp D t)
    (λ o. both (q t) (list_all q (u ∷ D)) e a) (λ o. a) (λ o. both (q u) (list_all q (insert_key fact_cmp D t)) h.0 (all_inserted q D t h.1 e))

pub all_applied : (q : Fact → Bool) (D : List Fact) (ws : List Change) → list_all q D ≡ true → list_all (insert_passes q) ws ≡ true → list_all q (apply D ws) ≡ true
all_applied q D [] a b = a
all_applied q D (Insert t ∷ ws) a b =
    let h = and_parts (q t) (list_all (insert_passes q) ws) b in
    all_applied q (insert_key fact_cmp D t) ws (all_inserted q D t a h.0) h.1
all_applied q D (Delete t ∷ ws) a b = all_applied q (filter (λ s. not (same_fact t s)) D) ws (all_kept q (λ s. not (same_fact t s)) D a) b

pub inserts_pass : (q : Fact → Bool) (ts : List Fact) → list_all q ts ≡ true → list_all (insert_passes q) (map Insert ts) ≡ true
inserts_pass q ts a = all_mapped q (insert_passes q) Insert (λ t e. e) ts a

pub all_in_order : (q : Fact → Bool) (ts : List Fact) → list_all q ts ≡ true → list_all q (in_order ts) ≡ true
all_in_order q ts a = all_applied q [] (map Insert ts) refl (inserts_pass q ts a)

-- ---- matches

-- What is known of every variable passes.
abbrev pub KnownPass : (Datum → Bool) → Known → Type 0
KnownPass p k = (v : ℕ) (d : Datum) → k v ≡ Some d → p d ≡ true

abbrev pub AllKnownPass : (Datum → Bool) → Option Known → Type 0
AllKnownPass p None = Unit {0}
AllKnownPass p (Some k) = KnownPass p k

term_passes : (p : Datum → Bool) (s : Slot) (d : Datum) (k : Known) → p d ≡ true → KnownPass p k → AllKnownPass p (learn_term s d k)
term_passes p (Var v) d k e h = by (k v)
  where
    here : (w x : ℕ) (b : Bool) (y : Datum) → cond b (Some d) (k w) ≡ Some y → p y ≡ true
    here w x true y q = subst (λ z. p z ≡ true) (some_same d y q) e
    here w x false y q = h w y q

    kept : (b : Bool) → AllKnownPass p (cond b (Some k) None)
    kept true = h
    kept false = tt

    by : (o : Option Datum) → AllKnownPass p (learn_at o k v d)
    by None = λ w y q. here w v (w == v) y q
    by (Some x) = kept (same_datum x d)
term_passes p (Const x) d k e h = kept (same_datum x d)
  where
    kept : (b : Bool) → AllKnownPass p (cond b (Some k) None)
    kept true = h
    kept false = tt

then_passes : (p : Datum → Bool) (f : Known → Option Known) → ((k : Known) → KnownPass p k → AllKnownPass p (f k)) → (o : Option Known) → AllKnownPass p o → AllKnownPass p (option_and_then f o)
then_passes p f h None a = tt
then_passes p f h (Some k) a = h k a

terms_pass : (p : Datum → Bool) (ss : List Slot) (ds : List Datum) (k : Known) → list_all p ds ≡ true → KnownPass p k → AllKnownPass p (learn_terms ss ds k)
terms_pass p [] [] k e h = h
terms_pass p [] (d ∷ ds) k e h = tt
terms_pass p (s ∷ ss) [] k e h = tt
terms_pass p (s ∷ ss) (d ∷ ds) k e h =
    let a = and_parts (p d) (list_all p ds) e in
    then_passes p (learn_terms ss ds) (λ l g. terms_pass p ss ds l a.1 g) (learn_term s d k) (term_passes p s d k a.0 h)

atom_passes : (p : Datum → Bool) (a : Pattern) (t : Fact) (k : Known) → list_all p t.values ≡ true → KnownPass p k → AllKnownPass p (learn_atom a t k)
atom_passes p a t k e h = by (a.relation == t.relation)
  where
    by : (b : Bool) → AllKnownPass p (cond b (learn_terms a.terms t.values k) None)
    by true = terms_pass p a.terms t.values k e h
    by false = tt

-- What is learnt from tuples whose values pass passes.
pub learnt_passes : (p : Datum → Bool) (as' : List Pattern) (ts : List Fact) (k : Known) → list_all (λ t. list_all p t.values) ts ≡ true → KnownPass p k → AllKnownPass p (learn_all as' ts k)
learnt_passes p [] [] k e h = h
learnt_passes p [] (t ∷ ts) k e h = tt
learnt_passes p (a ∷ as') [] k e h = tt
learnt_passes p (a ∷ as') (t ∷ ts) k e h =
    let q = and_parts (list_all p t.values) (list_all (λ t. list_all p t.values) ts) e in
    then_passes p (learn_all as' ts) (λ l g. learnt_passes p as' ts l q.1 g) (learn_atom a t k) (atom_passes p a t k q.0 h)

-- ---- the unifier

image_passes : (p : Datum → Bool) (t s : Fact) → list_all p s.values ≡ true → (x : Datum) → p x ≡ true → p (image_of t s x) ≡ true
image_passes p t s a x e = go t.values s.values a
  where
    go : (ts ss : List Datum) → list_all p ss ≡ true → p (unwrap_or (option_map (λ (q : Datum × Datum). q.1) (find (λ (q : Datum × Datum). same_datum q.0 x) (zip ts ss))) x) ≡ true
    go [] ss b = e
    go (y ∷ ts) [] b = e
    go (y ∷ ts) (z ∷ ss) b = let h = and_parts (p z) (list_all p ss) b in by (same_datum y x) h.0 (go ts ss h.1)
      where
        by : (c : Bool) → p z ≡ true → p (unwrap_or (option_map (λ (q : Datum × Datum). q.1) (find (λ (q : Datum × Datum). same_datum q.0 x) (zip ts ss))) x) ≡ true
            → p (unwrap_or (option_map (λ (q : Datum × Datum). q.1) (cond c (Some (y, z)) (find (λ (q : Datum × Datum). same_datum q.0 x) (zip ts ss)))) x) ≡ true
        by true h rest = h
        by false h rest = rest

after_passes : (p : Datum → Bool) (g : Datum → Datum) → ((x : Datum) → p x ≡ true → p (g x) ≡ true) → (n : ℕ) (x : Datum) → p x ≡ true → p (after n g x) ≡ true
after_passes p g h zero x e = e
after_passes p g h (suc n) x e = after_passes p g h n (g x) (h x e)

least_passes : (p : Datum → Bool) (g : Datum → Datum) → ((x : Datum) → p x ≡ true → p (g x) ≡ true) → (n : ℕ) (x : Datum) → p x ≡ true → p (least_after n g x) ≡ true
least_passes p g h zero x e = e
least_passes p g h (suc n) x e = by (is_lt (datum_cmp (least_after n g (g x)) x)) (least_passes p g h n (g x) (h x e))
  where
    by : (b : Bool) → p (least_after n g (g x)) ≡ true → p (cond b (least_after n g (g x)) x) ≡ true
    by true q = q
    by false q = e

-- The unifier takes what passes to what passes, where the values of the more specific tuple do.
pub unifier_passes : (p : Datum → Bool) (t s : Fact) → list_all p s.values ≡ true → (x : Datum) → p x ≡ true → p (unifier t s x) ≡ true
unifier_passes p t s a x e =
    least_passes p (image_of t s) (image_passes p t s a) (length t.values) (after (length t.values) (image_of t s) x)
    (after_passes p (image_of t s) (image_passes p t s a) (length t.values) x e)

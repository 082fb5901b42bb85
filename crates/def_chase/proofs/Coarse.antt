-- The coarse law: the value of a query is that over the tuples of the relations that it mentions.
use Rattle.std.proofs.Common.{◌≡◌, ℕ, zero, suc, ap, refl, sym, ◌∙◌, List, [], ◌∷◌, ◌++◌, map, Bool, true, false, not, ◌||◌, ◌&&◌, cond, length, Option, Some, None}
use Rattle.std.specs.List.{list_any, list_all, flat_map, slice_get}
use Rattle.std.specs.Option.{option_map, option_and_then}
use Rattle.std.specs.Prelude.{◌==◌, find, is_some, filter}
use Rattle.std.proofs.lemmas.Bool.{false≢true, and_parts, eqb-true, eq-eqb}
use Rattle.def_chase.specs.Values.{Fact}
use Rattle.def_chase.specs.Repository.{Change, IsRepository, has, apply, inserted_after}
use Rattle.def_chase.specs.Mappings.{Rule, Pattern}
use Rattle.def_chase.specs.Matching.{Known, nothing_known, learn_terms, learn_all, lists_of, extends}
use Rattle.def_chase.specs.Specific.{more_specific}
use Rattle.def_chase.specs.Violations.{Scope, in_scope, violated_at, violates, first_violation}
use Rattle.def_chase.specs.Queries.{Present, Violation, Specific, Occurs, Yes, No, Tuples, image_reply, violation_reply, scope_at, value}
use Rattle.def_chase.specs.Mentions.{rule_mentions, is_mentioned}
use Rattle.def_chase.specs.Laws.{CoarseLaw}
use Rattle.def_chase.proofs.Bools.{both, or_left, or_right, differ}
use Rattle.def_chase.proofs.Sets.{has-apply, same_repository, apply_in_order, filter_in_order}
use Rattle.def_chase.proofs.Searches.{find_join, find_none, find_same, first_some, filter_within, filter_all}
use Rattle.def_chase.proofs.Members.{has-filter}
use Rattle.def_chase.proofs.Among.{find_under}

-- ---- sets

-- Two repositories that agree where q holds still do after the same writes.
pub after_agree : (q : Fact → Bool) (D E : List Fact) (own : List Change) → IsRepository D → IsRepository E → filter q D ≡ filter q E → filter q (apply D own) ≡ filter q (apply E own)
after_agree q D E own d e h =
    same_repository (filter q (apply D own)) (filter q (apply E own)) (filter_in_order q (apply D own) (apply_in_order D own d)) (filter_in_order q (apply E own) (apply_in_order E own e))
    (λ s. has-filter q (apply D own) s ∙ at s (q s) refl ∙ sym (has-filter q (apply E own) s))
  where
    and_yes : (b : Bool) → b ≡ (b && true)
    and_yes true = refl
    and_yes false = refl

    and_no : (b c : Bool) → (b && false) ≡ (c && false)
    and_no true true = refl
    and_no true false = refl
    and_no false true = refl
    and_no false false = refl

    at : (s : Fact) (b : Bool) → q s ≡ b → (has (apply D own) s && q s) ≡ (has (apply E own) s && q s)
    at s true f =
        let same : has D s ≡ has E s =
        and_yes (has D s) ∙ ap (λ b. has D s && b) (sym f) ∙ sym (has-filter q D s) ∙ ap (λ F. has F s) h ∙ has-filter q E s ∙ ap (λ b. has E s && b) f ∙ sym (and_yes (has E s)) in
        ap (λ b. b && q s) (has-apply D own s ∙ ap (λ b. inserted_after b own s) same ∙ sym (has-apply E own s))
    at s false f = ap (λ b. has (apply D own) s && b) f ∙ and_no (has (apply D own) s) (has (apply E own) s) ∙ ap (λ b. has (apply E own) s && b) (sym f)

-- ---- the first list that passes

abbrev pub next_lists : List (List Fact) → List Fact → List (List Fact)
next_lists ls D = flat_map (λ t. map (λ l. t ∷ l) ls) D

next_within : (q : Fact → Bool) (p : List Fact → Bool) (ls ks : List (List Fact))
    → ((t : Fact) → q t ≡ true → find (λ l. p (t ∷ l)) ls ≡ find (λ l. p (t ∷ l)) ks) → ((t : Fact) → q t ≡ false → (l : List Fact) → p (t ∷ l) ≡ false)
    → (D : List Fact) → find p (next_lists ls D) ≡ find p (next_lists ks (filter q D))
next_within q p ls ks keep drops [] = refl
next_within q p ls ks keep drops (t ∷ D) =
    find_join p (map (λ l. t ∷ l) ls) (next_lists ls D) ∙ ap (λ o. first_some o (find p (next_lists ls D))) (find_under p t ls) ∙ by (q t) refl (next_within q p ls ks keep drops D)
  where
    by : (b : Bool) → q t ≡ b → find p (next_lists ls D) ≡ find p (next_lists ks (filter q D))
        → first_some (option_map (λ l. t ∷ l) (find (λ l. p (t ∷ l)) ls)) (find p (next_lists ls D)) ≡ find p (next_lists ks (cond b (t ∷ filter q D) (filter q D)))
    by true e r =
        (λ i. first_some (option_map (λ l. t ∷ l) (keep t e i)) (r i)) ∙ ap (λ o. first_some o (find p (next_lists ks (filter q D)))) (sym (find_under p t ks))
        ∙ sym (find_join p (map (λ l. t ∷ l) ks) (next_lists ks (filter q D)))
    by false e r = ap (λ o. first_some (option_map (λ l. t ∷ l) o) (find p (next_lists ls D))) (find_none (λ l. p (t ∷ l)) (λ l. drops t e l) ls) ∙ r

pub lists_within : (q : Fact → Bool) (n : ℕ) (p : List Fact → Bool) → ((ts : List Fact) → p ts ≡ true → list_all q ts ≡ true) → (E : List Fact) → find p (lists_of n E) ≡ find p (lists_of n (filter q E))
lists_within q zero p h E = refl
lists_within q (suc n) p h E =
    next_within q p (lists_of n E) (lists_of n (filter q E))
    (λ t e. lists_within q n (λ l. p (t ∷ l)) (λ l k. (and_parts (q t) (list_all q l) (h (t ∷ l) k)).1) E)
    (λ t e l. by t l e (p (t ∷ l)) refl) E
  where
    by : (t : Fact) (l : List Fact) → q t ≡ false → (b : Bool) → p (t ∷ l) ≡ b → b ≡ false
    by t l e false f = refl
    by t l e true f = absurd (false≢true (sym e ∙ (and_parts (q t) (list_all q l) (h (t ∷ l) f)).0))

-- ---- violations

abbrev HasRelation : (Fact → Bool) → List Pattern → Type 0
HasRelation q [] = Unit {0}
HasRelation q (a ∷ as') = ((t : Fact) → (a.relation == t.relation) ≡ true → q t ≡ true) × HasRelation q as'

learned_within : (q : Fact → Bool) (as' : List Pattern) → HasRelation q as' → (ts : List Fact) (k : Known) → is_some (learn_all as' ts k) ≡ true → list_all q ts ≡ true
learned_within q [] r [] k h = refl
learned_within q [] r (t ∷ ts) k h = differ h
learned_within q (a ∷ as') r [] k h = differ h
learned_within q (a ∷ as') r (t ∷ ts) k h = by (a.relation == t.relation) refl h (λ j g. learned_within q as' r.1 ts j g)
  where
    rest : (o : Option Known) → is_some (option_and_then (learn_all as' ts) o) ≡ true → ((j : Known) → is_some (learn_all as' ts j) ≡ true → list_all q ts ≡ true) → list_all q ts ≡ true
    rest None h rec = differ h
    rest (Some j) h rec = rec j h

    by : (b : Bool) → (a.relation == t.relation) ≡ b → is_some (option_and_then (learn_all as' ts) (cond b (learn_terms a.terms t.values k) None)) ≡ true
        → ((j : Known) → is_some (learn_all as' ts j) ≡ true → list_all q ts ≡ true) → list_all q (t ∷ ts) ≡ true
    by true e h rec = both (q t) (list_all q ts) (r.0 t e) (rest (learn_terms a.terms t.values k) h rec)
    by false e h rec = differ h

extends_within : (q : Fact → Bool) (k : Known) (right : List Pattern) → HasRelation q right → (E : List Fact) → extends k right E ≡ extends k right (filter q E)
extends_within q k right r E = ap is_some (lists_within q (length right) (λ ts. is_some (learn_all right ts k)) (λ ts h. learned_within q right r ts k h) E)

violated_within : (q : Fact → Bool) (scope : Scope) (own : List Change) (m : Rule) → HasRelation q m.right → (E image : List Fact) (o : Option Known)
    → violated_at scope own m E image o ≡ violated_at scope own m (filter q E) image o
violated_within q scope own m r E image None = refl
violated_within q scope own m r E image (Some k) = ap (λ b. not b && in_scope scope own m image k) (extends_within q k m.right r E)

first_within : (q : Fact → Bool) (scope : Scope) (own : List Change) (m : Rule) → HasRelation q m.left → HasRelation q m.right → (E : List Fact)
    → first_violation scope own m E ≡ first_violation scope own m (filter q E)
first_within q scope own m l r E =
    lists_within q (length m.left) (violates scope own m E) (λ ts h. learned_within q m.left l ts nothing_known (learned ts (learn_all m.left ts nothing_known) h)) E
    ∙ find_same (violates scope own m E) (violates scope own m (filter q E)) (λ ts. violated_within q scope own m r E ts (learn_all m.left ts nothing_known)) (lists_of (length m.left) (filter q E))
  where
    learned : (ts : List Fact) (o : Option Known) → violated_at scope own m E ts o ≡ true → is_some o ≡ true
    learned ts None h = differ h
    learned ts (Some k) h = refl

any_left : (p : Pattern → Bool) (xs ys : List Pattern) → list_any p xs ≡ true → list_any p (xs ++ ys) ≡ true
any_left p [] ys h = differ h
any_left p (x ∷ xs) ys h = by (p x) h (any_left p xs ys)
  where
    by : (b : Bool) → (b || list_any p xs) ≡ true → (list_any p xs ≡ true → list_any p (xs ++ ys) ≡ true) → (b || list_any p (xs ++ ys)) ≡ true
    by true h r = refl
    by false h r = r h

any_right : (p : Pattern → Bool) (xs ys : List Pattern) → list_any p ys ≡ true → list_any p (xs ++ ys) ≡ true
any_right p [] ys h = h
any_right p (x ∷ xs) ys h = or_right (p x) (list_any p (xs ++ ys)) (any_right p xs ys h)

-- Where q holds of the tuples of every relation that the atoms have, it holds of each atom.
has_relation : (q : Fact → Bool) (as' : List Pattern) → ((t : Fact) → list_any (λ a. a.relation == t.relation) as' ≡ true → q t ≡ true) → HasRelation q as'
has_relation q [] h = tt
has_relation q (a ∷ as') h = (λ t e. h t (or_left (a.relation == t.relation) (list_any (λ a. a.relation == t.relation) as') e), has_relation q as' (λ t e. h t (or_right (a.relation == t.relation) _ e)))

specific_relation : (s t : Fact) → more_specific s t ≡ true → (t.relation == s.relation) ≡ true
specific_relation s t h =
    eq-eqb t.relation s.relation (sym (eqb-true s.relation t.relation (and_parts (s.relation == t.relation) (length s.values == length t.values) (and_parts ((s.relation == t.relation) && (length s.values == length t.values)) _ h).0).0))

pub coarse_law : CoarseLaw
coarse_law ms (Present t) D E own scope d e h =
    let q : Fact → Bool = is_mentioned ms (Present t) in
    let at : q t ≡ true = eq-eqb t.relation t.relation refl in
    let there : (F : List Fact) → has F t ≡ has (filter q F) t = λ F. and_yes (has F t) ∙ ap (λ b. has F t && b) (sym at) ∙ sym (has-filter q F t) in
    ap (λ b. cond b Yes No) (there (apply D own) ∙ ap (λ F. has F t) (after_agree q D E own d e h) ∙ sym (there (apply E own)))
  where
    and_yes : (b : Bool) → b ≡ (b && true)
    and_yes true = refl
    and_yes false = refl
coarse_law ms (Violation i) D E own scope d e h = by (scope_at scope own i) (slice_get ms i) h
  where
    by : (s : Scope) (o : Option Rule) → filter (λ t. rule_mentions o t.relation) D ≡ filter (λ t. rule_mentions o t.relation) E → violation_reply o s own (apply D own) ≡ violation_reply o s own (apply E own)
    by s None h = refl
    by s (Some r) h =
        let q : Fact → Bool = λ t. rule_mentions (Some r) t.relation in
        let left : HasRelation q r.left = has_relation q r.left (λ t k. any_left (λ a. a.relation == t.relation) r.left r.right k) in
        let right : HasRelation q r.right = has_relation q r.right (λ t k. any_right (λ a. a.relation == t.relation) r.left r.right k) in
        ap image_reply (first_within q s own r left right (apply D own) ∙ ap (first_violation s own r) (after_agree q D E own d e h) ∙ sym (first_within q s own r left right (apply E own)))
coarse_law ms (Specific t) D E own scope d e h =
    let q : Fact → Bool = is_mentioned ms (Specific t) in
    let p : Fact → Bool = λ s. more_specific s t in
    ap Tuples (filter_within p q (λ s k. specific_relation s t k) (apply D own) ∙ ap (filter p) (after_agree q D E own d e h) ∙ sym (filter_within p q (λ s k. specific_relation s t k) (apply E own)))
coarse_law ms (Occurs u k) D E own scope d e h = ap (λ F. value ms (Occurs u k) F own scope) (sym (filter_all D) ∙ h ∙ filter_all E)

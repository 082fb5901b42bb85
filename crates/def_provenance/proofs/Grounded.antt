-- What a reason rests on has its reason after it.
use Rattle.std.proofs.Common.{◌≡◌, ◌∙◌, ap, refl, sym, Bool, true, false, ◌&&◌, ◌||◌, not, List, [], ◌∷◌, ◌++◌, map, filter, find, Some}
use Rattle.std.specs.Prelude.{if◌then◌else◌}
use Rattle.std.specs.List.{AllByRecursion, flat_map}
use Rattle.std.proofs.lemmas.List.{append-nil}
use Rattle.def_chase.specs.Values.{Fact, same_fact}
use Rattle.def_chase.specs.Repository.{Insert, apply, has, inserted_after}
use Rattle.def_chase.proofs.Sets.{has-apply, same_exact, same_itself}
use Rattle.def_chase.proofs.Members.{has-filter}
use Rattle.def_provenance.specs.Puts.{Step, puts}
use Rattle.def_provenance.specs.Reasons.{Reason, rooted, reason_at, premises, sought_before, explained}
use Rattle.def_provenance.specs.Laws.{is_told, origin, AreGrounded, ExplanationsAreGrounded}

-- With other reasons before it a tuple's reason stands as well.
told_after : (rs more : List Reason) (t : Fact) → is_told more t ≡ true → is_told (rs ++ more) t ≡ true
told_after [] more t e = e
told_after (r ∷ rs) more t e = by (same_fact t r.tuple) (told_after rs more t e)
  where
    by : (b : Bool) → is_told (rs ++ more) t ≡ true → (b || is_told (rs ++ more) t) ≡ true
    by true k = refl
    by false k = k

told_before : (rs more : List Reason) (t : Fact) → is_told rs t ≡ true → is_told (rs ++ more) t ≡ true
told_before [] more t e = absurd (Rattle.std.proofs.lemmas.Bool.false≢true e)
told_before (r ∷ rs) more t e = by (same_fact t r.tuple) e (λ k. told_before rs more t k)
  where
    by : (b : Bool) → (b || is_told rs t) ≡ true → (is_told rs t ≡ true → is_told (rs ++ more) t ≡ true) → (b || is_told (rs ++ more) t) ≡ true
    by true k rec = refl
    by false k rec = rec k

-- The reasons made for tuples are for these tuples.
made_for : (reason : Fact → Reason) → ((u : Fact) → (reason u).tuple ≡ u) → (us : List Fact) (t : Fact) → has us t ≡ is_told (map reason us) t
made_for reason is [] t = refl
made_for reason is (u ∷ us) t = λ i. same_fact t (sym (is u) i) || made_for reason is us t i

inserted_stays : (ts : List Fact) (t : Fact) → inserted_after true (map Insert ts) t ≡ true
inserted_stays [] t = refl
inserted_stays (s ∷ ts) t = by (same_fact t s) (inserted_stays ts t)
  where
    by : (b : Bool) → inserted_after true (map Insert ts) t ≡ true → inserted_after (b || true) (map Insert ts) t ≡ true
    by true e = e
    by false e = e

-- What was sought is still, where tuples are added.
pub still : (D ts : List Fact) (t : Fact) → has D t ≡ true → has (apply D (map Insert ts)) t ≡ true
still D ts t e = has-apply D (map Insert ts) t ∙ ap (λ b. inserted_after b (map Insert ts) t) e ∙ inserted_stays ts t

added_from : (b : Bool) (ts : List Fact) (t : Fact) → has ts t ≡ true → inserted_after b (map Insert ts) t ≡ true
added_from b [] t e = absurd (Rattle.std.proofs.lemmas.Bool.false≢true e)
added_from b (s ∷ ts) t e = by (same_fact t s) e (λ c k. added_from c ts t k) (inserted_stays ts t)
  where
    by : (c : Bool) → (c || has ts t) ≡ true → ((d : Bool) → has ts t ≡ true → inserted_after d (map Insert ts) t ≡ true) → inserted_after true (map Insert ts) t ≡ true
        → inserted_after (c || b) (map Insert ts) t ≡ true
    by true k rec stays = stays
    by false k rec stays = rec b k

-- What is added is sought.
added : (D ts : List Fact) (t : Fact) → has ts t ≡ true → has (apply D (map Insert ts)) t ≡ true
added D ts t e = has-apply D (map Insert ts) t ∙ added_from (has D t) ts t e

told_all : (ss : List Step) (sought : List Fact) (t : Fact) → has sought t ≡ true → is_told (explained ss sought) t ≡ true
told_all [] sought t e = sym (made_for rooted (λ u. refl) sought t) ∙ e
told_all (s ∷ ss) sought t e = by (puts s t) refl (λ k. told_all ss next t k)
  where
    rs : List Reason
    rs = map (reason_at s) (filter (puts s) sought)

    next : List Fact
    next = sought_before (puts s) rs sought

    first : (b : Bool) → has sought t ≡ true → puts s t ≡ b → has (filter (λ u. not (puts s u)) sought) t ≡ not b
    first b k f = has-filter (λ u. not (puts s u)) sought t ∙ (λ i. k i && not (f i))

    by : (b : Bool) → puts s t ≡ b → (has next t ≡ true → is_told (explained ss next) t ≡ true) → is_told (rs ++ explained ss next) t ≡ true
    by true f rec =
        told_before rs (explained ss next) t
        (sym (made_for (reason_at s) (λ u. refl) (filter (puts s) sought) t)
        ∙ (has-filter (puts s) sought t ∙ (λ i. e i && f i)))
    by false f rec = told_after rs (explained ss next) t (rec (still (filter (λ u. not (puts s u)) sought) (flat_map (λ (r : Reason). premises r.how) rs) t (first false e f)))

-- What each of the reasons rests on is told after all of them.
abbrev AllToldIn : List Reason → List Reason → Type 0
AllToldIn rs later = (t : Fact) → has (flat_map (λ (r : Reason). premises r.how) rs) t ≡ true → is_told later t ≡ true

has-join : (xs ys : List Fact) (t : Fact) → has (xs ++ ys) t ≡ (has xs t || has ys t)
has-join [] ys t = refl
has-join (x ∷ xs) ys t = by (same_fact t x) (has-join xs ys t)
  where
    by : (b : Bool) → has (xs ++ ys) t ≡ (has xs t || has ys t) → (b || has (xs ++ ys) t) ≡ ((b || has xs t) || has ys t)
    by true e = refl
    by false e = e

either_left : (a b : Bool) → a ≡ true → (a || b) ≡ true
either_left true b e = refl
either_left false b e = absurd (Rattle.std.proofs.lemmas.Bool.false≢true e)

either_right : (a b : Bool) → b ≡ true → (a || b) ≡ true
either_right true b e = refl
either_right false b e = e

each_told : (ts : List Fact) (later : List Reason) → ((t : Fact) → has ts t ≡ true → is_told later t ≡ true) → AllByRecursion (λ t. is_told later t ≡ true) ts
each_told [] later h = tt
each_told (t ∷ ts) later h =
    (h t (either_left (same_fact t t) (has ts t) (same_itself t)), each_told ts later (λ u k. h u (either_right (same_fact u t) (has ts u) k)))

grounded_on : (rs later : List Reason) → AllToldIn rs later → AreGrounded later → AreGrounded (rs ++ later)
grounded_on [] later h g = g
grounded_on (r ∷ rs) later h g = (
  each_told (premises r.how) (rs ++ later)
      (λ t k. told_after rs later t
      (h t (has-join (premises r.how) (flat_map (λ (x : Reason). premises x.how) rs) t ∙ either_left (has (premises r.how) t) _ k))),
  grounded_on rs later
      (λ t k. h t (has-join (premises r.how) (flat_map (λ (x : Reason). premises x.how) rs) t ∙ either_right (has (premises r.how) t) _ k)) g,
)

rooted_grounded : (ts : List Fact) → AreGrounded (map rooted ts)
rooted_grounded [] = tt
rooted_grounded (t ∷ ts) = (tt, rooted_grounded ts)

all_grounded : (ss : List Step) (sought : List Fact) → AreGrounded (explained ss sought)
all_grounded [] sought = rooted_grounded sought
all_grounded (s ∷ ss) sought =
    let rs = map (reason_at s) (filter (puts s) sought) in
    let next = sought_before (puts s) rs sought in
    grounded_on rs (explained ss next)
    (λ t k. told_all ss next t (added (filter (λ u. not (puts s u)) sought) (flat_map (λ (r : Reason). premises r.how) rs) t k))
    (all_grounded ss next)

-- ---- origins

abbrev for_it : Fact → Reason → Bool
for_it t r = same_fact t r.tuple

-- Among the reasons made for tuples the first for one of them is its own.
made_first : (reason : Fact → Reason) → ((u : Fact) → (reason u).tuple ≡ u) → (us : List Fact) (rest : List Reason) (t : Fact) → has us t ≡ true → find (for_it t) (map reason us ++ rest) ≡ Some (reason t)
made_first reason is [] rest t e = absurd (Rattle.std.proofs.lemmas.Bool.false≢true e)
made_first reason is (u ∷ us) rest t e = by (same_fact t (reason u).tuple) refl (λ k. made_first reason is us rest t k)
  where
    away : (b : Bool) → (b || has us t) ≡ true → b ≡ false → has us t ≡ true
    away true k f = absurd (Rattle.std.proofs.lemmas.Bool.false≢true (sym f))
    away false k f = k

    by : (b : Bool) → same_fact t (reason u).tuple ≡ b → (has us t ≡ true → find (for_it t) (map reason us ++ rest) ≡ Some (reason t))
        → (if b then Some (reason u) else find (for_it t) (map reason us ++ rest)) ≡ Some (reason t)
    by true f rec = ap (λ v. Some (reason v)) (sym (same_exact t u (ap (same_fact t) (sym (is u)) ∙ f)))
    by false f rec = rec (away (same_fact t u) e (ap (same_fact t) (sym (is u)) ∙ f))

-- After those made for other tuples.
made_for_others : (reason : Fact → Reason) → ((u : Fact) → (reason u).tuple ≡ u) → (us : List Fact) (rest : List Reason) (t : Fact) → has us t ≡ false → find (for_it t) (map reason us ++ rest) ≡ find (for_it t) rest
made_for_others reason is [] rest t e = refl
made_for_others reason is (u ∷ us) rest t e = by (same_fact t (reason u).tuple) refl (λ k. made_for_others reason is us rest t k)
  where
    other : (b : Bool) → (b || has us t) ≡ false → b ≡ false
    other true k = k
    other false k = refl

    none : (b : Bool) → (b || has us t) ≡ false → has us t ≡ false
    none true k = absurd (Rattle.std.proofs.lemmas.Bool.false≢true (sym k))
    none false k = k

    by : (b : Bool) → same_fact t (reason u).tuple ≡ b → (has us t ≡ false → find (for_it t) (map reason us ++ rest) ≡ find (for_it t) rest)
        → (if b then Some (reason u) else find (for_it t) (map reason us ++ rest)) ≡ find (for_it t) rest
    by true f rec = absurd (Rattle.std.proofs.lemmas.Bool.false≢true (sym (other (same_fact t u) e) ∙ (ap (same_fact t) (sym (is u)) ∙ f)))
    by false f rec = rec (none (same_fact t u) e)

first_told : (ss : List Step) (sought : List Fact) (t : Fact) → has sought t ≡ true → find (for_it t) (explained ss sought) ≡ Some (origin ss t)
first_told [] sought t e = ap (find (for_it t)) (sym (append-nil (map rooted sought))) ∙ made_first rooted (λ u. refl) sought [] t e
first_told (s ∷ ss) sought t e = by (puts s t) refl (λ k. first_told ss next t k)
  where
    rs : List Reason
    rs = map (reason_at s) (filter (puts s) sought)

    next : List Fact
    next = sought_before (puts s) rs sought

    by : (b : Bool) → puts s t ≡ b → (has next t ≡ true → find (for_it t) (explained ss next) ≡ Some (origin ss t))
        → find (for_it t) (rs ++ explained ss next) ≡ Some (if b then reason_at s t else origin ss t)
    by true f rec = made_first (reason_at s) (λ u. refl) (filter (puts s) sought) (explained ss next) t (has-filter (puts s) sought t ∙ (λ i. e i && f i))
    by false f rec =
        made_for_others (reason_at s) (λ u. refl) (filter (puts s) sought) (explained ss next) t (has-filter (puts s) sought t ∙ (λ i. e i && f i))
        ∙ rec
        (still (filter (λ u. not (puts s u)) sought) (flat_map (λ (r : Reason). premises r.how) rs) t
        (has-filter (λ u. not (puts s u)) sought t ∙ (λ i. e i && not (f i))))

pub reasons_grounded : ExplanationsAreGrounded
reasons_grounded ss sought = record { grounded = all_grounded ss sought; told = told_all ss sought; first = first_told ss sought }

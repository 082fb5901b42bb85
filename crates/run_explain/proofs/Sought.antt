-- What is taken out of what is sought.
use Rattle.std.specs.Prelude.{if◌then◌else◌}
use Rattle.std.proofs.Common.{◌≡◌, ◌∙◌, ap, refl, sym, subst, Bool, true, false, ◌&&◌, ◌||◌, not, List, [], ◌∷◌, ◌++◌, filter}
use Rattle.def_chase.specs.Values.{Fact, same_fact}
use Rattle.def_chase.specs.Repository.{Insert, Delete, IsRepository, has, change}
use Rattle.def_chase.proofs.Members.{has-filter}
use Rattle.def_chase.proofs.Sets.{has-delete, has-insert, filter_in_order, insert_in_order, same_repository, same_exact}

has-last : (ts : List Fact) (u t : Fact) → has (ts ++ u ∷ []) t ≡ (has ts t || same_fact t u)
has-last [] u t = by (same_fact t u)
  where
    by : (b : Bool) → (b || false) ≡ (false || b)
    by true = refl
    by false = refl
has-last (s ∷ ts) u t = ap (λ b. same_fact t s || b) (has-last ts u t) ∙ by (same_fact t s) (has ts t) (same_fact t u)
  where
    by : (a b c : Bool) → (a || (b || c)) ≡ ((a || b) || c)
    by true b c = refl
    by false b c = refl

-- With one more taken out fewer are left.
pub left_on : (S D : List Fact) (ts : List Fact) (u : Fact) → ((t : Fact) → has D t ≡ (has S t && not (has ts t)))
    → (t : Fact) → has (change D (Delete u)) t ≡ (has S t && not (has (ts ++ u ∷ []) t))
left_on S D ts u h t =
    has-delete D u t
    ∙ (λ i. h t i && not (same_fact t u))
    ∙ by (has S t) (has ts t) (same_fact t u)
    ∙ ap (λ b. has S t && not b) (sym (has-last ts u t))
  where
    by : (a b c : Bool) → ((a && not b) && not c) ≡ (a && not (b || c))
    by true true c = refl
    by true false c = refl
    by false b c = refl

-- One that was sought is taken.
pub taken_on : (S D T : List Fact) (ts : List Fact) (u : Fact) → ((t : Fact) → has D t ≡ (has S t && not (has ts t))) → ((t : Fact) → has T t ≡ (has S t && has ts t))
    → has D u ≡ true → (t : Fact) → has (change T (Insert u)) t ≡ (has S t && has (ts ++ u ∷ []) t)
taken_on S D T ts u h k e t =
    has-insert T u t
    ∙ (λ i. same_fact t u || k t i)
    ∙ by (same_fact t u) refl
    ∙ ap (λ b. has S t && b) (sym (has-last ts u t))
  where
    there : (a b : Bool) → (a && not b) ≡ true → a ≡ true
    there true b e = refl
    there false b e = e

    sought : has S u ≡ true
    sought = there (has S u) (has ts u) (sym (h u) ∙ e)

    joined : (a b : Bool) → a ≡ true → true ≡ (a && (b || true))
    joined true true e = refl
    joined true false e = refl
    joined false b e = sym e

    apart : (a b : Bool) → (a && b) ≡ (a && (b || false))
    apart true true = refl
    apart true false = refl
    apart false b = refl

    by : (b : Bool) → same_fact t u ≡ b → (b || (has S t && has ts t)) ≡ (has S t && (has ts t || b))
    by true f = joined (has S t) (has ts t) (ap (has S) (same_exact t u f) ∙ sought)
    by false f = apart (has S t) (has ts t)

-- One that was not is not.
pub passed_on : (S D T : List Fact) (ts : List Fact) (u : Fact) → ((t : Fact) → has D t ≡ (has S t && not (has ts t))) → ((t : Fact) → has T t ≡ (has S t && has ts t))
    → has D u ≡ false → (t : Fact) → has T t ≡ (has S t && has (ts ++ u ∷ []) t)
passed_on S D T ts u h k e t =
    k t ∙ by (same_fact t u) refl ∙ ap (λ b. has S t && b) (sym (has-last ts u t))
  where
    gone : (a b : Bool) → (a && not b) ≡ false → (a && b) ≡ (a && (b || true))
    gone true true e = refl
    gone true false e = sym e
    gone false b e = refl

    apart : (a b : Bool) → (a && b) ≡ (a && (b || false))
    apart true true = refl
    apart true false = refl
    apart false b = refl

    by : (b : Bool) → same_fact t u ≡ b → (has S t && has ts t) ≡ (has S t && (has ts t || b))
    by true f = gone (has S t) (has ts t) (sym (h t) ∙ (ap (has D) (same_exact t u f) ∙ e))
    by false f = apart (has S t) (has ts t)

-- What is left and what was taken, in order.
pub left_all : (S D ts : List Fact) → IsRepository S → IsRepository D → ((t : Fact) → has D t ≡ (has S t && not (has ts t))) → D ≡ filter (λ t. not (has ts t)) S
left_all S D ts s d h =
    same_repository D (filter (λ t. not (has ts t)) S) d (filter_in_order (λ t. not (has ts t)) S s) (λ t. h t ∙ sym (has-filter (λ u. not (has ts u)) S t))

pub taken_all : (S T ts : List Fact) → IsRepository S → IsRepository T → ((t : Fact) → has T t ≡ (has S t && has ts t)) → T ≡ filter (has ts) S
taken_all S T ts s d h =
    same_repository T (filter (has ts) S) d (filter_in_order (has ts) S s) (λ t. h t ∙ sym (has-filter (has ts) S t))

-- Both orders are kept, and what is left and what was taken of one more.
pub record AreTaken (S D T ts : List Fact) : Type 0 where
  pub sorted : IsRepository D
  pub sorted_taken : IsRepository T
  pub left : (t : Fact) → has D t ≡ (has S t && not (has ts t))
  pub taken : (t : Fact) → has T t ≡ (has S t && has ts t)

pub taken_step : (S D T D' T' ts : List Fact) (u : Fact) → AreTaken S D T ts → D' ≡ change D (Delete u) → T' ≡ (if has D u then change T (Insert u) else T)
    → AreTaken S D' T' (ts ++ u ∷ [])
taken_step S D T D' T' ts u a e f =
    by (has D u) refl f
  where
    by : (b : Bool) → has D u ≡ b → T' ≡ (if b then change T (Insert u) else T) → AreTaken S D' T' (ts ++ u ∷ [])
    by true h g =
        record {
          sorted = subst IsRepository (sym e) (filter_in_order (λ s. not (same_fact u s)) D a.sorted);
          sorted_taken = subst IsRepository (sym g) (insert_in_order T u a.sorted_taken);
          left = λ t. ap (λ E. has E t) e ∙ left_on S D ts u a.left t;
          taken = λ t. ap (λ E. has E t) g ∙ taken_on S D T ts u a.left a.taken h t;
        }
    by false h g =
        record {
          sorted = subst IsRepository (sym e) (filter_in_order (λ s. not (same_fact u s)) D a.sorted);
          sorted_taken = subst IsRepository (sym g) a.sorted_taken;
          left = λ t. ap (λ E. has E t) e ∙ left_on S D ts u a.left t;
          taken = λ t. ap (λ E. has E t) g ∙ passed_on S D T ts u a.left a.taken h t;
        }

-- Where nothing was taken yet all is left.
pub all_left : (S : List Fact) → filter (λ t. not (has [] t)) S ≡ S
all_left [] = refl
all_left (s ∷ S) = ap (λ T. s ∷ T) (all_left S)

pub none_taken : (S : List Fact) → filter (has []) S ≡ []
none_taken [] = refl
none_taken (s ∷ S) = none_taken S

-- One more, as sets.
pub taken_next : (S D T D' T' ts : List Fact) (u : Fact) → IsRepository S → D ≡ filter (λ t. not (has ts t)) S → T ≡ filter (has ts) S
    → D' ≡ change D (Delete u) → T' ≡ (if has D u then change T (Insert u) else T)
    → (D' ≡ filter (λ t. not (has (ts ++ u ∷ []) t)) S) × (T' ≡ filter (has (ts ++ u ∷ [])) S)
taken_next S D T D' T' ts u s d t e f =
    let before : AreTaken S D T ts =
    record {
      sorted = subst IsRepository (sym d) (filter_in_order (λ v. not (has ts v)) S s);
      sorted_taken = subst IsRepository (sym t) (filter_in_order (has ts) S s);
      left = λ v. ap (λ E. has E v) d ∙ has-filter (λ w. not (has ts w)) S v;
      taken = λ v. ap (λ E. has E v) t ∙ has-filter (has ts) S v;
    } in
    let next = taken_step S D T D' T' ts u before e f in
    (left_all S D' (ts ++ u ∷ []) s next.sorted next.left, taken_all S T' (ts ++ u ∷ []) s next.sorted_taken next.taken)

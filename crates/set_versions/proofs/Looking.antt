-- Look-ups by a test on keys, after an entry is put in or taken out.
use Rattle.std.proofs.Common.{◌≡◌, ap, refl, sym, ◌∙◌, suc, length, List, [], ◌∷◌, Bool, true, false, not, ◌&&◌, cond, find, filter, Option, Some, None, unwrap_or}
use Rattle.std.proofs.lemmas.Bool.{eqb-true}
use Rattle.std.specs.Prelude.{◌==◌}
use Rattle.std.specs.BTreeMap.{insert_entry}
use Rattle.std.specs.Cmp.{IsTotalOrder, Equal-is, tied_back}
use Rattle.std.specs.List.{AllByRecursion}
use Rattle.std.specs.Option.{option_map}
use Rattle.std.specs.Ordering.{is_eq, match_ordering, ordering_reverse}
use Rattle.std.specs.declared.cmp.Ordering.{Ordering}
use Rattle.std.specs.declared.cmp.Ordering.TheVariants.{Less, Equal, Greater}
use Rattle.def_chase.proofs.Bools.{differ}
use Rattle.base_tree.specs.Orders.{without}
use Rattle.set_versions.specs.Indexed.{set_entry}
use Rattle.set_versions.specs.Marked.{no_marks, is_nowhere}
use Rattle.set_versions.specs.declared.marks.Marks.{Marks}

-- The value at the first key that passes.
abbrev pub look : {K V : Type 0} → (K → Bool) → List (K × V) → Option V
look test es = option_map (λ e. e.1) (find (λ e. test e.0) es)

module _ {K V : Type 0} {R : K → K → Ordering} (o : IsTotalOrder R) (test : K → Bool) (one : (x y : K) → test x ≡ true → test y ≡ is_eq (R x y)) where
  -- After an insertion the key has the value, and the others have what they had.
  pub look_insert : (es : List (K × V)) (k : K) (v : V) → look test (insert_entry R es k v) ≡ cond (test k) (Some v) (look test es)
  look_insert [] k v = by (test k)
    where
      by : (b : Bool) → option_map (λ (e : K × V). e.1) (cond b (Some (k, v)) None) ≡ cond b (Some v) None
      by true = refl
      by false = refl
  look_insert (e ∷ es) k v = by (R k e.0) refl (test k) refl (test e.0) refl (look_insert es k v)
    where
      by : (a : Ordering) → R k e.0 ≡ a → (b : Bool) → test k ≡ b → (c : Bool) → test e.0 ≡ c → look test (insert_entry R es k v) ≡ cond (test k) (Some v) (look test es)
          → look test (match_ordering a ((k, v) ∷ e ∷ es) ((e.0, v) ∷ es) (e ∷ insert_entry R es k v)) ≡ cond (test k) (Some v) (look test (e ∷ es))
      by Less h true p c q i = rw p refl
      by Less h false p c q i = rw p refl
      by Equal h true p true q i = rw (p, q) refl
      by Equal h true p false q i = differ (sym q ∙ one k e.0 p ∙ ap is_eq h)
      by Equal h false p true q i = differ (sym p ∙ one e.0 k q ∙ ap is_eq (o.antisymm e.0 k ∙ ap ordering_reverse h))
      by Equal h false p false q i = rw (p, q) refl
      by Greater h true p true q i = differ (sym (ap is_eq h) ∙ sym (one k e.0 p) ∙ q)
      by Greater h false p true q i = rw (p, q) refl
      by Greater h b p false q i = rw q i

  abbrev nothing : Option V
  nothing = None

  -- After a removal the key has nothing, and the others have what they had.
  pub look_without : (es : List (K × V)) (k : K) → look test (without R k es) ≡ cond (test k) None (look test es)
  look_without [] k = by (test k)
    where
      by : (b : Bool) → nothing ≡ cond b nothing nothing
      by true = refl
      by false = refl
  look_without (e ∷ es) k = by (is_eq (R k e.0)) refl (test k) refl (test e.0) refl (look_without es k)
    where
      by : (a : Bool) → is_eq (R k e.0) ≡ a → (b : Bool) → test k ≡ b → (c : Bool) → test e.0 ≡ c → look test (without R k es) ≡ cond (test k) None (look test es)
          → look test (cond (not a) (e ∷ without R k es) (without R k es)) ≡ cond (test k) None (look test (e ∷ es))
      by true h true p c q i = rw p (rw p at i)
      by true h false p true q i = differ (sym p ∙ one e.0 k q ∙ ap is_eq (tied_back o k e.0 ((Equal-is (R k e.0)).0 h)))
      by true h false p false q i = rw q i
      by false h true p true q i = differ (sym h ∙ sym (one k e.0 p) ∙ q)
      by false h false p true q i = rw (p, q) refl
      by false h b p false q i = rw q i

-- ---- marks

-- The marks at the first key that passes.
abbrev pub marks_by : {K : Type 0} → (K → Bool) → List (K × Marks) → Marks
marks_by test es = unwrap_or (look test es) no_marks

nowhere_is : (m : Marks) → is_nowhere m ≡ true → m ≡ no_marks
nowhere_is m h = by m.in_base m.chain h
  where
    by : (b : Bool) (l : List _) → (not b && (length l == 0)) ≡ true → record { in_base = b; chain = l } ≡ no_marks
    by true l h = differ h
    by false [] h = refl
    by false (x ∷ l) h = let z : suc (length l) ≡ 0 = eqb-true (suc (length l)) 0 h in absurd (cc)

module _ {K : Type 0} {R : K → K → Ordering} (o : IsTotalOrder R) (test : K → Bool) (one : (x y : K) → test x ≡ true → test y ≡ is_eq (R x y)) where
  -- After marks are set the key has them, and the others have what they had.
  pub marks_set : (es : List (K × Marks)) (k : K) (m : Marks) → marks_by test (set_entry R es k m) ≡ cond (test k) m (marks_by test es)
  marks_set es k m = by (is_nowhere m) refl
    where
      gone : (b : Bool) (f : Option Marks) → is_nowhere m ≡ true → unwrap_or (cond b None f) no_marks ≡ cond b m (unwrap_or f no_marks)
      gone true f h = sym (nowhere_is m h)
      gone false f h = refl

      there : (b : Bool) (f : Option Marks) → unwrap_or (cond b (Some m) f) no_marks ≡ cond b m (unwrap_or f no_marks)
      there true f = refl
      there false f = refl

      by : (b : Bool) → is_nowhere m ≡ b → marks_by test (cond b (without R k es) (insert_entry R es k m)) ≡ cond (test k) m (marks_by test es)
      by true h = ap (λ f. unwrap_or f no_marks) (look_without o test one es k) ∙ gone (test k) (look test es) h
      by false h = ap (λ f. unwrap_or f no_marks) (look_insert o test one es k m) ∙ there (test k) (look test es)

-- ---- what holds of all entries

all_insert : {K V : Type 0} (R : K → K → Ordering) (P : K × V → Type 0) (es : List (K × V)) (k : K) (v : V) → AllByRecursion P es → P (k, v) → ((x : K) (w : V) → P (x, w) → P (x, v)) → AllByRecursion P (insert_entry R es k v)
all_insert R P [] k v a p put = (p, tt)
all_insert {K} {V} R P (e ∷ es) k v a p put = by (R k e.0) (all_insert R P es k v a.1 p put)
  where
    by : (o : Ordering) → AllByRecursion P (insert_entry R es k v) → AllByRecursion P (match_ordering o ((k, v) ∷ e ∷ es) ((e.0, v) ∷ es) (e ∷ insert_entry R es k v))
    by Less i = (p, a)
    by Equal i = (put e.0 e.1 a.0, a.1)
    by Greater i = (a.0, i)

all_filter : {X : Type 0} (P : X → Type 0) (p : X → Bool) (xs : List X) → AllByRecursion P xs → AllByRecursion P (filter p xs)
all_filter P p [] a = tt
all_filter P p (x ∷ xs) a = by (p x) (all_filter P p xs a.1)
  where
    by : (b : Bool) → AllByRecursion P (filter p xs) → AllByRecursion P (cond b (x ∷ filter p xs) (filter p xs))
    by true i = (a.0, i)
    by false i = i

-- What holds of each entry holds after marks are set, if it holds of the new entry and of each key with the new marks.
pub all_set : {K : Type 0} (R : K → K → Ordering) (P : K × Marks → Type 0) (es : List (K × Marks)) (k : K) (m : Marks) → AllByRecursion P es → P (k, m) → ((x : K) (n : Marks) → P (x, n) → P (x, m)) → AllByRecursion P (set_entry R es k m)
all_set {K} R P es k m a p put = by (is_nowhere m)
  where
    by : (b : Bool) → AllByRecursion P (cond b (without R k es) (insert_entry R es k m))
    by true = all_filter P _ es a
    by false = all_insert R P es k m a p put

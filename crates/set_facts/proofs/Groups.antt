-- What a write of one group makes of its column.
use Rattle.std.proofs.Common.{◌≡◌, ℕ, ap, refl, sym, ◌∙◌, subst, List, [], ◌∷◌, length, suc-ne-zero, Bool, true, false, ◌&&◌, ◌||◌, not, cond, Option, Some, None}
use Rattle.std.specs.HashMap.{get}
use Rattle.std.specs.Cmp.{Equal-is}
use Rattle.std.specs.Prelude.{◌↔◌, ◌==◌, IsTrue, unwrap_or, Result, Ok, Err, OnOk, OnErr}
use Rattle.std.proofs.lemmas.Bool.{eqb-true}
use Rattle.def_chase.specs.Values.{Datum, Number, Text, Unknown, Fact, same_fact, same_datum, datum_cmp}
use Rattle.def_chase.specs.Repository.{has, change, Insert, Delete}
use Rattle.def_chase.proofs.Bools.{and-true, differ, none_some, some_same}
use Rattle.def_chase.proofs.Order.{datum_exact}
use Rattle.def_chase.proofs.Sets.{has-insert, has-delete}
use Rattle.def_chase.proofs.Unified.{swapped}
use Rattle.base_types.specs.Meanings.{datum_of}
use Rattle.base_types.specs.declared.values.Value.{Value}
use Rattle.base_types.specs.declared.values.Value.TheVariants.{Int, Word, Null}
use Rattle.set_facts.specs.Indexes.{Kept, group_in, Adds, Drops}

-- Two values are the same where they mean the same.
abbrev pub same_value : Value → Value → Bool
same_value v w = same_datum (datum_of v) (datum_of w)

-- A value that means d.
pub value_for : (d : Datum) → (q : Value) × (datum_of q ≡ d)
value_for (Number i) = (Int i, refl)
value_for (Text w) = (Word (record { items = w; spare = 0 }), refl)
value_for (Unknown n) = (Null (record { update = n.update; attempt = n.attempt; place = n.place }), refl)

pub same_exact : (x y : Datum) → same_datum x y ≡ true → x ≡ y
same_exact x y e = datum_exact x y ((Equal-is (datum_cmp x y)).0 e)

-- ---- results

pub where_ok : {T E P Q : Type 0} (r : Result T E) → (P → Q) → OnOk r P → OnOk r Q
where_ok (Ok x) f p = f p
where_ok (Err x) f p = tt

pub where_err : {T E P Q : Type 0} (r : Result T E) → (P → Q) → OnErr r P → OnErr r Q
where_err (Ok x) f p = tt
where_err (Err x) f p = f p

pub held_err : {T E P : Type 0} (r : Result T E) → P → OnErr r P
held_err (Ok x) p = tt
held_err (Err x) p = p

-- ---- the group that is written

-- Where the group at one value becomes what f makes of it and of being the tuple, the column becomes what f makes of it and of being the tuple at the value.
pub group_changes : (f : Bool → Bool → Bool) → ((a : Bool) → f a false ≡ a) → (m n : Kept) (v : Value) (o : Option (List Fact)) (t : Fact) → ((q : Value) → get same_value n q ≡ cond (same_value v q) o (get same_value m q))
    → ((u : Fact) → has (unwrap_or o []) u ≡ f (has (group_in m (datum_of v)) u) (same_fact u t)) → (d : Datum) (u : Fact) → has (group_in n d) u ≡ f (has (group_in m d) u) (same_datum d (datum_of v) && same_fact u t)
group_changes f idle m n v o t g k d u =
    let q = (value_for d).0 in
    let e : datum_of q ≡ d = (value_for d).1 in
    subst (λ (x : Datum). has (group_in n x) u ≡ f (has (group_in m x) u) (same_datum x (datum_of v) && same_fact u t)) e
    (ap (λ (x : Option (List Fact)). has (unwrap_or x []) u) (g q) ∙ by q (same_value v q) refl ∙ ap (λ b. f (has (group_in m (datum_of q)) u) (b && same_fact u t)) (swapped (datum_of v) (datum_of q)))
  where
    by : (q : Value) (b : Bool) → same_value v q ≡ b → has (unwrap_or (cond b o (get same_value m q)) []) u ≡ f (has (group_in m (datum_of q)) u) (b && same_fact u t)
    by q true e = k u ∙ ap (λ (x : Datum). f (has (group_in m x) u) (same_fact u t)) (same_exact (datum_of v) (datum_of q) e)
    by q false e = sym (idle (has (group_in m (datum_of q)) u))

-- Where the group at one value becomes what it is, the column stays the same.
pub group_stays : (m n : Kept) (v : Value) (w : List Fact) → ((q : Value) → get same_value n q ≡ cond (same_value v q) (Some w) (get same_value m q)) → w ≡ group_in m (datum_of v) → (d : Datum) → group_in n d ≡ group_in m d
group_stays m n v w g k d =
    let q = (value_for d).0 in
    let e : datum_of q ≡ d = (value_for d).1 in
    subst (λ (x : Datum). group_in n x ≡ group_in m x) e (ap (λ (x : Option (List Fact)). unwrap_or x []) (g q) ∙ by q (same_value v q) refl)
  where
    by : (q : Value) (b : Bool) → same_value v q ≡ b → unwrap_or (cond b (Some w) (get same_value m q)) [] ≡ group_in m (datum_of q)
    by q true e = k ∙ ap (group_in m) (same_exact (datum_of v) (datum_of q) e)
    by q false e = refl

-- ---- a tuple more

pub or-false : (a : Bool) → (a || false) ≡ a
or-false true = refl
or-false false = refl

-- What the group at the value becomes where the tuple is put in.
pub more_in_group : (m : Kept) (v : Datum) (D E : List Fact) (t u : Fact) → D ≡ group_in m v → E ≡ change D (Insert t) → has E u ≡ (has (group_in m v) u || same_fact u t)
more_in_group m v D E t u e f = ap (λ (F : List Fact). has F u) f ∙ has-insert D t u ∙ swap (same_fact u t) (has D u) ∙ ap (λ (F : List Fact). has F u || same_fact u t) e
  where
    swap : (a b : Bool) → (a || b) ≡ (b || a)
    swap true true = refl
    swap true false = refl
    swap false true = refl
    swap false false = refl

-- A write of the group at one value that adds the tuple there adds it in the column.
pub group_adds : (m n : Kept) (v : Value) (w : List Fact) (t : Fact) → ((q : Value) → get same_value n q ≡ cond (same_value v q) (Some w) (get same_value m q))
    → ((u : Fact) → has w u ≡ (has (group_in m (datum_of v)) u || same_fact u t)) → Adds (datum_of v) t m n
group_adds m n v w t = group_changes (λ a b. a || b) or-false m n v (Some w) t

-- ---- a tuple less

-- A write of the group at one value that drops the tuple there drops it in the column.
pub group_drops : (m n : Kept) (v : Value) (o : Option (List Fact)) (t : Fact) → ((q : Value) → get same_value n q ≡ cond (same_value v q) o (get same_value m q))
    → ((u : Fact) → has (unwrap_or o []) u ≡ (has (group_in m (datum_of v)) u && not (same_fact u t))) → Drops (datum_of v) t m n
group_drops = group_changes (λ a b. a && not b) and-true

-- What the group at the value becomes where the tuple is taken away.
pub left_in_group : (m : Kept) (v : Value) (D E : List Fact) (t u : Fact) → Some D ≡ get same_value m v → E ≡ change D (Delete t) → has E u ≡ (has (group_in m (datum_of v)) u && not (same_fact u t))
left_in_group m v D E t u e f = ap (λ (F : List Fact). has F u) f ∙ has-delete D t u ∙ ap (λ (o : Option (List Fact)). has (unwrap_or o []) u && not (same_fact u t)) e

-- Where there is no group at the value nothing has to go.
pub nothing_drops : (m : Kept) (v : Value) (t : Fact) → None ≡ get same_value m v → Drops (datum_of v) t m m
nothing_drops m v t e d u = by (same_datum d (datum_of v)) refl
  where
    nothing : same_datum d (datum_of v) ≡ true → has (group_in m d) u ≡ false
    nothing f = ap (λ (x : Datum). has (group_in m x) u) (same_exact d (datum_of v) f) ∙ ap (λ (o : Option (List Fact)). has (unwrap_or o []) u) (sym e)

    by : (b : Bool) → same_datum d (datum_of v) ≡ b → has (group_in m d) u ≡ (has (group_in m d) u && not (b && same_fact u t))
    by true f = nothing f ∙ sym (ap (λ b. b && not (same_fact u t)) (nothing f))
    by false f = sym (and-true (has (group_in m d) u))

-- Where the group at the value is empty, it may go.
pub vacant_drops : (m n : Kept) (v : Value) (t : Fact) → ((q : Value) → get same_value n q ≡ cond (same_value v q) None (get same_value m q)) → Some [] ≡ get same_value m v → Drops (datum_of v) t m n
vacant_drops m n v t g e = group_drops m n v None t g (λ u. ap (λ (o : Option (List Fact)). has (unwrap_or o []) u && not (same_fact u t)) e)

pub drops_twice : (v : Datum) (t : Fact) (l m n : Kept) → Drops v t l m → Drops v t m n → Drops v t l n
drops_twice v t l m n h k d u = k d u ∙ ap (λ b. b && not (same_datum d v && same_fact u t)) (h d u) ∙ once (has (group_in l d) u) (not (same_datum d v && same_fact u t))
  where
    once : (a b : Bool) → ((a && b) && b) ≡ (a && b)
    once true true = refl
    once true false = refl
    once false b = refl

-- A group has no tuple exactly where it is empty.
pub is_emptied : (w : List Fact) (n : ℕ) (o : Option (List Fact)) → n ≡ length w → o ≡ Some w → IsTrue (n == 0) ↔ (o ≡ Some [])
is_emptied [] n o e f = (λ h. f, λ g. ap (λ k. k == 0) e)
is_emptied (u ∷ w) n o e f = (λ h. absurd (suc-ne-zero (length w) (sym e ∙ eqb-true n 0 h)), λ g. absurd (empty (some_same (u ∷ w) [] (sym f ∙ g))))
  where
    empty : u ∷ w ≡ [] → ⊥
    empty h = suc-ne-zero (length w) (ap length h)

-- Where there is no group none is empty.
pub not_emptied : (o p : Option (List Fact)) → o ≡ p → None ≡ p → IsTrue false ↔ (o ≡ Some [])
not_emptied o p e n = (λ h. differ h, λ g. absurd (none_some [] (n ∙ sym e ∙ g)))

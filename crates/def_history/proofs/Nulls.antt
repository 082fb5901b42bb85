-- The nulls in what a history leaves are those of the base and of the present attempts of lower updates.
use Rattle.std.proofs.Common.{◌≡◌, ℕ, zero, suc, ◌≤◌, ◌<◌, ap, refl, ◌∙◌, List, [], ◌∷◌, Bool, true, false, not, ◌||◌, ◌&&◌, length, Option, Some, None, arith, map}
use Rattle.std.specs.Prelude.{◌==◌, nat_lt, if◌then◌else◌, slice_get}
use Rattle.std.specs.List.{list_any, list_all}
use Rattle.std.proofs.lemmas.Bool.{and_parts, both_ways, eqb-true, ltb-true, lt-ltb, le-ltb}
use Rattle.def_machine.specs.Updates.{Update, hides, trail, below}
use Rattle.def_machine.specs.Histories.{event_of}
use Rattle.def_machine.specs.History.{IsHistory}
use Rattle.def_machine.proofs.Basics.{length_from}
use Rattle.def_machine.proofs.Carried.{carried}
use Rattle.def_machine.proofs.Theorem.{history_law}
use Rattle.def_chase.specs.Values.{Datum, Number, Text, Unknown, Fact, same_datum, same_fact, outer}
use Rattle.def_chase.specs.Repository.{Change, Insert, Delete, has, apply}
use Rattle.def_chase.specs.Mappings.{Rule}
use Rattle.def_chase.specs.Specific.{is_constant}
use Rattle.def_chase.specs.Laws.{is_by, are_by}
use Rattle.def_chase.proofs.Bools.{both, or_left, or_right}
use Rattle.def_chase.proofs.Learning.{same_datum_exact}
use Rattle.def_chase.proofs.OuterForms.{outer_forms}
use Rattle.def_chase.proofs.Sets.{same_exact}
use Rattle.def_steps.specs.Chase.{caused, caused_chase}
use Rattle.def_steps.specs.Origins.{stands_in, is_drawn, comes_from, written}
use Rattle.def_steps.specs.Shifting.{is_of_base}
use Rattle.def_steps.proofs.ChaseLaws.{chase_laws}
use Rattle.def_steps.proofs.Origins.{nulls_come_from}
use Rattle.def_steps.proofs.Passing.{all_weaker, insert_passes, all_applied}
use Rattle.def_history.specs.Nulls.{numbered, drew, is_present, are_present, NullsArePresent}
use Rattle.def_history.proofs.Attempts.{attempt_in, attempts_of}

-- ---- what stands in a repository

value_of : (p : Datum → Bool) (ds : List Datum) (d : Datum) → list_all p ds ≡ true → list_any (same_datum d) ds ≡ true → p d ≡ true
value_of p [] d a h = absurd (both_ways false refl h)
value_of p (x ∷ ds) d a h = let q = and_parts (p x) (list_all p ds) a in by (same_datum d x) refl h q.0 (value_of p ds d q.1)
  where
    by : (b : Bool) → same_datum d x ≡ b → (b || list_any (same_datum d) ds) ≡ true → p x ≡ true → (list_any (same_datum d) ds ≡ true → p d ≡ true) → p d ≡ true
    by true e g y rest = ap p (same_datum_exact d x e) ∙ y
    by false e g y rest = rest g

stands_passes : (p : Datum → Bool) (D : List Fact) (d : Datum) → list_all (λ t. list_all p t.values) D ≡ true → stands_in D d ≡ true → p d ≡ true
stands_passes p [] d a h = absurd (both_ways false refl h)
stands_passes p (t ∷ D) d a h = let q = and_parts (list_all p t.values) (list_all (λ t. list_all p t.values) D) a in by (list_any (same_datum d) t.values) refl h (value_of p t.values d q.0) (stands_passes p D d q.1)
  where
    by : (b : Bool) → list_any (same_datum d) t.values ≡ b → (b || stands_in D d) ≡ true → (list_any (same_datum d) t.values ≡ true → p d ≡ true) → (stands_in D d ≡ true → p d ≡ true) → p d ≡ true
    by true e g here rest = here e
    by false e g here rest = rest g

member_passes : (q : Fact → Bool) (E : List Fact) (t : Fact) → list_all q E ≡ true → has E t ≡ true → q t ≡ true
member_passes q [] t a h = absurd (both_ways false refl h)
member_passes q (s ∷ E) t a h = let p = and_parts (q s) (list_all q E) a in by (same_fact t s) refl h p.0 (member_passes q E t p.1)
  where
    by : (b : Bool) → same_fact t s ≡ b → (b || has E t) ≡ true → q s ≡ true → (has E t ≡ true → q t ≡ true) → q t ≡ true
    by true e g x rest = ap q (same_exact t s e) ∙ x
    by false e g x rest = rest g

module _ (ms : List Rule) (B : ℕ) (us : List (Update (caused_chase ms B))) where
  -- ---- one value

  present_later : (n m : ℕ) → n ≤ m → (d : Datum) → is_present ms B us n d ≡ true → is_present ms B us m d ≡ true
  present_later n m l (Number i) h = refl
  present_later n m l (Text w) h = refl
  present_later n m l (Unknown x) h = by ((x.update == 0) && (x.attempt == 0)) (nat_lt n x.update) refl (nat_lt m x.update) refl h
    where
      by : (a b : Bool) → nat_lt n x.update ≡ b → (c : Bool) → nat_lt m x.update ≡ c → (a || (not b && drew ms B (numbered us x.update) x)) ≡ true → (a || (not c && drew ms B (numbered us x.update) x)) ≡ true
      by true b e c f h = refl
      by false b e false f h = (and_parts (not b) (drew ms B (numbered us x.update) x) h).1
      by false true e true f h = absurd (both_ways false refl h)
      by false false e true f h =
          let above : m < x.update = ltb-true m x.update f in
          absurd (both_ways (nat_lt n x.update) e (lt-ltb n x.update (omega arith)))

  base_present : (d : Datum) → is_of_base d ≡ true → is_by (λ u. 0) d ≡ true → is_present ms B us 0 d ≡ true
  base_present (Number i) h a = refl
  base_present (Text w) h a = refl
  base_present (Unknown m) h a = or_left ((m.update == 0) && (m.attempt == 0)) _ (both (m.update == 0) (m.attempt == 0) h a)

  base_values : (ds : List Datum) → list_all is_of_base ds ≡ true → list_all (is_by (λ u. 0)) ds ≡ true → list_all (is_present ms B us 0) ds ≡ true
  base_values [] h a = refl
  base_values (d ∷ ds) h a =
      let x = and_parts (is_of_base d) (list_all is_of_base ds) h in let y = and_parts (is_by (λ u. 0) d) (list_all (is_by (λ u. 0)) ds) a in
      both (is_present ms B us 0 d) _ (base_present d x.0 y.0) (base_values ds x.1 y.1)

  base_facts : (D : List Fact) → list_all (λ t. list_all is_of_base t.values) D ≡ true → list_all (are_by (λ u. 0)) D ≡ true → list_all (are_present ms B us 0) D ≡ true
  base_facts [] h a = refl
  base_facts (t ∷ D) h a =
      let x = and_parts (list_all is_of_base t.values) (list_all (λ t. list_all is_of_base t.values) D) h in let y = and_parts (are_by (λ u. 0) t) (list_all (are_by (λ u. 0)) D) a in
      both (are_present ms B us 0 t) _ (base_values t.values x.0 y.0) (base_facts D x.1 y.1)

  drawn_present : (k : ℕ) (u : Update (caused_chase ms B)) → slice_get us k ≡ Some u → u.withdrawn ≡ false → hides ((caused_chase ms B).outcome u.state) ≡ false
      → (d : Datum) → is_drawn (suc k) u.attempt u.state.nulls d ≡ true → is_present ms B us (suc k) d ≡ true
  drawn_present k u g w o (Number i) h = refl
  drawn_present k u g w o (Text x) h = refl
  drawn_present k u g w o (Unknown m) h =
      let x = and_parts (m.update == suc k) _ h in
      let number : m.update ≡ suc k = eqb-true m.update (suc k) x.0 in
      let there : numbered us m.update ≡ Some u = ap (numbered us) number ∙ g in
      or_right ((m.update == 0) && (m.attempt == 0)) _
      (both (not (nat_lt (suc k) m.update)) _ (ap not (le-ltb (suc k) m.update (omega arith)))
      (ap (λ o. drew ms B o m) there ∙ both (not u.withdrawn) _ (ap not w) (both (not (hides ((caused_chase ms B).outcome u.state))) _ (ap not o) x.1)))

  value_present : (k : ℕ) (u : Update (caused_chase ms B)) (D : List Fact) → slice_get us k ≡ Some u → u.withdrawn ≡ false → hides ((caused_chase ms B).outcome u.state) ≡ false → list_all (are_present ms B us k) D ≡ true
      → (d : Datum) → comes_from D (suc k) u.attempt u.state.nulls d ≡ true → is_present ms B us (suc k) d ≡ true
  value_present k u D g w o a d h =
      by (is_constant d) refl (stands_in D d) refl h
    where
      constant : (d : Datum) → is_constant d ≡ true → is_present ms B us (suc k) d ≡ true
      constant (Number i) e = refl
      constant (Text x) e = refl
      constant (Unknown m) e = absurd (both_ways false refl e)

      by : (b : Bool) → is_constant d ≡ b → (c : Bool) → stands_in D d ≡ c → (b || (c || is_drawn (suc k) u.attempt u.state.nulls d)) ≡ true → is_present ms B us (suc k) d ≡ true
      by true e c f h = constant d e
      by false e true f h = present_later k (suc k) (omega arith) d (stands_passes (is_present ms B us k) D d a f)
      by false e false f h = drawn_present k u g w o d h

  -- ---- what an update writes

  -- all nulls of the trail are present
  abbrev TrailPresent : ℕ → List Change → Type 0
  TrailPresent k ws = list_all (λ w. are_present ms B us (suc k) (written w)) ws ≡ true

  trail_present : (k : ℕ) (u : Update (caused_chase ms B)) → slice_get us k ≡ Some u
      → (u.withdrawn ≡ false → hides ((caused_chase ms B).outcome u.state) ≡ false → TrailPresent k u.state.own) → TrailPresent k (trail (caused_chase ms B) u)
  trail_present k u g h = by u.withdrawn refl (hides ((caused_chase ms B).outcome u.state)) refl
    where
      by : (w : Bool) → u.withdrawn ≡ w → (o : Bool) → hides ((caused_chase ms B).outcome u.state) ≡ o → TrailPresent k (if w then [] else (if o then [] else u.state.own))
      by true e o f = refl
      by false e true f = refl
      by false e false f = h e f

  inserts_present : (k : ℕ) (w : Change) → are_present ms B us (suc k) (written w) ≡ true → insert_passes (are_present ms B us (suc k)) w ≡ true
  inserts_present k (Insert t) h = h
  inserts_present k (Delete t) h = refl

  after_trail : (k : ℕ) (D : List Fact) (ws : List Change) → list_all (are_present ms B us k) D ≡ true → TrailPresent k ws → list_all (are_present ms B us (suc k)) (apply D ws) ≡ true
  after_trail k D ws a h =
      all_applied (are_present ms B us (suc k)) D ws
      (all_weaker (are_present ms B us k) (are_present ms B us (suc k)) (λ t e. all_weaker (is_present ms B us k) (is_present ms B us (suc k)) (present_later k (suc k) (omega arith)) t.values e) D a)
      (all_weaker (λ w. are_present ms B us (suc k) (written w)) (insert_passes (are_present ms B us (suc k))) (inserts_present k) ws h)

  -- ---- one attempt of each update

  present_by : (n : ℕ) (d : Datum) → is_present ms B us n d ≡ true → is_by (attempts_of ms B us) d ≡ true
  present_by n (Number i) h = refl
  present_by n (Text w) h = refl
  present_by n (Unknown m) h = by ((m.update == 0) && (m.attempt == 0)) refl h
    where
      drawn : (o : Option (Update (caused_chase ms B))) → drew ms B o m ≡ true → (m.attempt == attempt_in ms B o) ≡ true
      drawn None e = absurd (both_ways false refl e)
      drawn (Some u) e =
          (and_parts (m.attempt == u.attempt) _ (and_parts (not (hides ((caused_chase ms B).outcome u.state))) _ (and_parts (not u.withdrawn) _ e).1).1).0

      at : (i : ℕ) → drew ms B (numbered us i) m ≡ true → (m.attempt == attempts_of ms B us i) ≡ true
      at zero e = absurd (both_ways false refl e)
      at (suc j) e = drawn (slice_get us j) e

      by : (b : Bool) → ((m.update == 0) && (m.attempt == 0)) ≡ b → (b || (not (nat_lt n m.update) && drew ms B (numbered us m.update) m)) ≡ true → (m.attempt == attempts_of ms B us m.update) ≡ true
      by true e g =
          let x = and_parts (m.update == 0) (m.attempt == 0) e in
          let zeroth : m.update ≡ 0 = eqb-true m.update 0 x.0 in
          ap (λ i. m.attempt == attempts_of ms B us i) zeroth ∙ x.1
      by false e g = at m.update (and_parts (not (nat_lt n m.update)) _ g).1

  apart_in : (n : ℕ) (E : List Fact) → list_all (are_present ms B us n) E ≡ true → (s t : Fact) → has E s ≡ true → has E t ≡ true → outer s ≡ outer t → s ≡ t
  apart_in n E a s t f g e =
      outer_forms.one (attempts_of ms B us) s t
      (all_weaker (is_present ms B us n) (is_by (attempts_of ms B us)) (present_by n) s.values (member_passes (are_present ms B us n) E s a f))
      (all_weaker (is_present ms B us n) (is_by (attempts_of ms B us)) (present_by n) t.values (member_passes (are_present ms B us n) E t a g)) e

pub nulls_are_present : NullsArePresent
nulls_are_present ms B s S H us fit h =
    record {
      trails = λ k u g. made k u g (lower k (length_from us k u g));
      views = lower;
      apart = λ k x t b. apart_in ms B us k (below (caused_chase ms B) S.base us k) (lower k b) x t;
    }
  where
    history : IsHistory (caused_chase ms B) s S record { updates = us; entries = H }
    history = history_law (caused_chase ms B) (chase_laws caused ms B fit.some_step) s S (map event_of H) record { updates = us; entries = H } fit.in_order h

    made : (k : ℕ) (u : Update (caused_chase ms B)) → slice_get us k ≡ Some u → list_all (are_present ms B us k) (below (caused_chase ms B) S.base us k) ≡ true
        → TrailPresent ms B us k (trail (caused_chase ms B) u)
    made k u g a =
        trail_present ms B us k u g
        (λ w o. all_weaker (λ x. list_all (comes_from (below (caused_chase ms B) S.base us k) (suc k) u.attempt u.state.nulls) (written x).values) (λ x. are_present ms B us (suc k) (written x))
        (λ x e. all_weaker (comes_from (below (caused_chase ms B) S.base us k) (suc k) u.attempt u.state.nulls) (is_present ms B us (suc k)) (value_present ms B us k u (below (caused_chase ms B) S.base us k) g w o a) (written x).values e)
        u.state.own
        (nulls_come_from caused ms B (below (caused_chase ms B) S.base us k) u.answers (suc k) u.attempt u.operation u.state u.log fit.constants (history.runs k u g w)))

    lower : (k : ℕ) → k ≤ length us → list_all (are_present ms B us k) (below (caused_chase ms B) S.base us k) ≡ true
    lower k b =
        carried (caused_chase ms B) (chase_laws caused ms B fit.some_step) (λ n E. list_all (are_present ms B us n) E ≡ true) S.base us k b
        (base_facts ms B us S.base fit.base fit.first)
        (λ i u j g a. after_trail ms B us i (below (caused_chase ms B) S.base us i) (trail (caused_chase ms B) u) a (made i u g a))

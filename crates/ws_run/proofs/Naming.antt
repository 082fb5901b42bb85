-- Nulls that get names in turn.
use Rattle.std.proofs.Common.{◌≡◌, ◌∙◌, ap, refl, sym, ℕ, zero, suc, ◌+◌, ◌-◌, ◌<◌, ◌≤◌, ◌==◌, Bool, true, false, not, ◌&&◌, ◌||◌, List, [], ◌∷◌, ◌++◌, map, reverse, drop, find, Option, Some, None, arith}
use Rattle.std.specs.List.{list_any, slice_get}
use Rattle.std.proofs.lemmas.List.{reverse-append}
use Rattle.base_types.specs.Contents.{facts_of}
use Rattle.chase_repair.specs.Bound.{Bound}
use Rattle.def_chase.specs.Values.{Datum, NullName}
use Rattle.def_workspace.specs.Lines.{Given}
use Rattle.def_workspace.specs.Names.{Names}
use Rattle.def_workspace.specs.Places.{Cause, Place, Places, Giving, among, same_cause, place_found, found_or_more, giving}
use Rattle.def_workspace.specs.Runs.{Active, Setting, Thread, draw_one, draw_from, drawn_by}
use Rattle.ws_lines.specs.Meanings.{source_of}
use Rattle.ws_names.specs.Meanings.{places_of}
use Rattle.ws_run.specs.Drawing.{drawn_for, with_name, HasDrawnOne}
use Rattle.ws_run.specs.DrawnMeanings.{draw_next, draw_all, HasNext}
use Rattle.ws_run.specs.Meanings.{thread_of}
use Rattle.ws_run.specs.Moves.{moved_over, ways_of}
use Rattle.ws_run.specs.declared.drawing.Drawn.{Drawn}
use Rattle.ws_run.specs.declared.threads.Step.{Step}
use Rattle.ws_run.specs.declared.threads.Thread.{Thread as ThreadOfProgram}

-- ---- places that were given, in any order

any_of_both : {A : Type 0} (p : A → Bool) (xs ys : List A) → list_any p (xs ++ ys) ≡ (list_any p xs || list_any p ys)
any_of_both p [] ys = refl
any_of_both p (x ∷ xs) ys = by (p x) (any_of_both p xs ys)
  where
    by : (b : Bool) → list_any p (xs ++ ys) ≡ (list_any p xs || list_any p ys) → (b || list_any p (xs ++ ys)) ≡ ((b || list_any p xs) || list_any p ys)
    by true e = refl
    by false e = e

or_in_turn : (a b : Bool) → (a || (b || false)) ≡ (b || a)
or_in_turn true true = refl
or_in_turn true false = refl
or_in_turn false true = refl
or_in_turn false false = refl

pub among_reversed : (ns : List ℕ) (n : ℕ) → among (reverse ns) n ≡ among ns n
among_reversed [] n = refl
among_reversed (k ∷ ks) n =
    ap (λ (l : List ℕ). among l n) (reverse-append (k ∷ []) ks)
    ∙ any_of_both (λ (j : ℕ). j == n) (reverse ks) (k ∷ [])
    ∙ ap (λ (b : Bool). b || ((k == n) || false)) (among_reversed ks n)
    ∙ or_in_turn (among ks n) (k == n)

pub giving_reversed : (ps : Places) (ns : List ℕ) (c : Cause) → giving ps (reverse ns) c ≡ giving ps ns c
giving_reversed ps ns c = λ i. found_or_more (find (λ (p : Place). same_cause p.cause c && not (among_reversed ns p.number i)) ps) ps c

pushed_reversed : (ns : List ℕ) (n : ℕ) → reverse (ns ++ n ∷ []) ≡ n ∷ reverse ns
pushed_reversed ns n = reverse-append ns (n ∷ [])

-- ---- one null

-- The place of the cause.
abbrev gives : ThreadOfProgram → Cause → Giving
gives t c = giving (places_of t.places) (reverse t.given.items) c

-- The thread after a null got its name.
pub named : (ns names : Names) (t u : ThreadOfProgram) (gs : List Given) (c : Cause) (number place : ℕ) (n : NullName)
    → place ≡ (giving (places_of t.places) t.given.items c).number
    → places_of u.places ≡ (giving (places_of t.places) t.given.items c).places
    → u.given.items ≡ t.given.items ++ place ∷ []
    → u.taken ≡ t.taken
    → u.steps.items ≡ t.steps.items
    → names ≡ ns ++ (n, record { update = number; attempt = 0; place = place }) ∷ []
    → HasDrawnOne number n c (thread_of ns t gs) (thread_of names u gs)
named ns names t u gs c number place n is_place is_table is_given is_taken is_steps is_names =
    let same : gives t c ≡ giving (places_of t.places) t.given.items c = giving_reversed (places_of t.places) t.given.items c in
    let at : place ≡ (gives t c).number = is_place ∙ sym (ap (λ (h : Giving). h.number) same) in
    let in_names : names ≡ ns ++ (n, record { update = number; attempt = 0; place = (gives t c).number }) ∷ [] =
    is_names ∙ ap (λ (k : ℕ). ns ++ (n, record { update = number; attempt = 0; place = k }) ∷ []) at in
    let in_places : places_of u.places ≡ (gives t c).places = is_table ∙ sym (ap (λ (h : Giving). h.places) same) in
    let in_given : reverse u.given.items ≡ (gives t c).number ∷ reverse t.given.items =
    ap reverse is_given ∙ pushed_reversed t.given.items place ∙ ap (λ (k : ℕ). k ∷ reverse t.given.items) at in
    λ i. record {
      names = in_names i;
      places = in_places i;
      given = in_given i;
      answers = drop (is_taken i) gs;
      taken = is_taken i;
      moves = moved_over (ways_of (is_steps i));
    }

-- ---- nulls in turn

-- None are drawn.
pub none_drawn : (s : Setting) (seq k n : ℕ) (b : Option Bound) (t : Thread) → n ≡ 0 → drawn_for s seq n k b t ≡ t
none_drawn s seq k n b t e = ap (λ (m : ℕ). drawn_for s seq m k b t) e ∙ by b
  where
    at : (ds : List Datum) (a : Option Active) → drawn_by s.number seq 0 k ds a t ≡ t
    at ds None = refl
    at ds (Some a) = refl

    by : (o : Option Bound) → drawn_for s seq 0 k o t ≡ t
    by None = refl
    by (Some c) = at c.values (slice_get s.active c.mapping)

-- One more gets its name.
pub drawn_on : (d e : Drawn) (nulls p : ℕ) (t u w : Thread) → p < nulls → u ≡ draw_next d (p + 1) t → HasNext d e → draw_all d (nulls - p) p t ≡ w
    → draw_all e (nulls - (p + 1)) (p + 1) u ≡ w
drawn_on d e nulls p t u w h is next so_far =
    let left : nulls - p ≡ suc (nulls - (p + 1)) = omega (arith, h) in
    let after : p + 1 ≡ suc p = omega arith in
    let more : e.variable ≡ suc d.variable = next.variable ∙ omega arith in
    (λ i. draw_from (next.number i) (next.op i) (source_of (next.source i)) (facts_of (next.image i)) (nulls - (p + 1)) (suc (after i)) (more i) u)
    ∙ ap (draw_from d.number d.op (source_of d.source) (facts_of d.image) (nulls - (p + 1)) (suc (suc p)) (suc d.variable)) (is ∙ ap (λ (k : ℕ). draw_next d k t) after)
    ∙ sym (ap (λ (m : ℕ). draw_all d m p t) left)
    ∙ so_far

-- All have theirs.
pub drawn_all : (d : Drawn) (nulls p : ℕ) (t w : Thread) → nulls ≤ p → draw_all d (nulls - p) p t ≡ w → t ≡ w
drawn_all d nulls p t w h so_far =
    let none : nulls - p ≡ 0 = omega (arith, h) in
    sym (ap (λ (m : ℕ). draw_all d m p t) none) ∙ so_far

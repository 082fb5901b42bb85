-- Over a repository where the mappings in force hold, queries have one value in the full and the caused scope.
use Rattle.std.proofs.Common.{◌||◌, ◌⊎◌, inl, inr, ◌≡◌, ℕ, ap, refl, sym, ◌∙◌, List, Bool, true, false, not, ◌&&◌, cond, length, Option, Some, None}
use Rattle.std.specs.List.{list_any, slice_get}
use Rattle.def_chase.specs.Values.{Fact}
use Rattle.def_chase.specs.Repository.{Change, apply, inserts}
use Rattle.def_chase.specs.Mappings.{Rule, all_in, Holds, force, in_force}
use Rattle.def_chase.specs.Matching.{Known, nothing_known, learn_all, lists_of, extends}
use Rattle.def_chase.specs.Violations.{Direction, Forward, Backward, Every, Caused, in_scope, violated_at, violates, first_violation}
use Rattle.def_chase.specs.Queries.{Present, Violation, Specific, Occurs, image_reply, violation_reply, scope_at}
use Rattle.def_chase.specs.Laws.{HasNoNull}
use Rattle.def_chase.specs.Caused.{Kept, CausedIsAll, CausedValues}
use Rattle.def_chase.proofs.Bools.{differ}
use Rattle.def_chase.proofs.Searches.{all_weaker, all_at, find_alike}
use Rattle.def_chase.proofs.Among.{lists_in}
use Rattle.def_chase.proofs.Atoms.{leaves_left, leaves_right}
use Rattle.def_chase.proofs.Forward.{caused_forward}
use Rattle.def_chase.proofs.Backward.{caused_backward}
use Rattle.def_chase.proofs.Force.{holds_at, force_from, deletes_insert_none}

caused : (d : Direction) (m : Rule) (D : List Fact) (own : List Change) → Kept d D own → HasNoNull m → Holds m D
    → (image : List Fact) (k : Known) → learn_all m.left image nothing_known ≡ Some k → all_in (apply D own) image ≡ true → extends k m.right (apply D own) ≡ false
    → in_scope (Caused d) own m image k ≡ true
caused Forward m D own c n holds image k e present unmet =
    caused_forward m D own image k c (leaves_left c.by c.constants m n) (leaves_right c.by c.constants m n) holds e present unmet
caused Backward m D own c n holds image k e present unmet = caused_backward m D own image k c holds e present unmet

violates_alike : (d : Direction) (m : Rule) (D : List Fact) (own : List Change) → Kept d D own → HasNoNull m → Holds m D
    → (image : List Fact) → all_in (apply D own) image ≡ true → violates Every own m (apply D own) image ≡ violates (Caused d) own m (apply D own) image
violates_alike d m D own c n holds image present = by (learn_all m.left image nothing_known) refl
  where
    at : (k : Known) → learn_all m.left image nothing_known ≡ Some k → (b : Bool) → extends k m.right (apply D own) ≡ b → (not b && true) ≡ (not b && in_scope (Caused d) own m image k)
    at k e true h = refl
    at k e false h = sym (caused d m D own c n holds image k e present h)

    by : (o : Option Known) → learn_all m.left image nothing_known ≡ o → violated_at Every own m (apply D own) image o ≡ violated_at (Caused d) own m (apply D own) image o
    by None e = refl
    by (Some k) e = at k e (extends k m.right (apply D own)) refl

pub caused_is_all : CausedIsAll
caused_is_all d m D own n holds c =
    find_alike (violates Every own m (apply D own)) (violates (Caused d) own m (apply D own)) (lists_of (length m.left) (apply D own))
    (all_weaker (λ ts. all_in (apply D own) ts ≡ true) _ (λ ts h. violates_alike d m D own c n holds ts h) (lists_of (length m.left) (apply D own)) (lists_in (length m.left) (apply D own)))

-- ---- every query

-- A mapping in force after the writes that the writes did not put in force was in force before.
before_or_whole : (d : Direction) (i : ℕ) (m : Rule) (D : List Fact) (own : List Change) → Kept d D own → in_force i m (apply D own) ≡ true
    → (scope_at (Caused d) own i ≡ Every) ⊎ ((scope_at (Caused d) own i ≡ Caused d) × (in_force i m D ≡ true))
before_or_whole Forward i m D own c f = by (list_any (inserts (force i)) own) (force_from i m D own f)
  where
    by : (b : Bool) → (in_force i m D || b) ≡ true → (cond b Every (Caused Forward) ≡ Every) ⊎ ((cond b Every (Caused Forward) ≡ Caused Forward) × (in_force i m D ≡ true))
    by true h = inl refl
    by false h = inr (refl, or_none (in_force i m D) h)
      where
        or_none : (a : Bool) → (a || false) ≡ true → a ≡ true
        or_none true h = refl
        or_none false h = h
before_or_whole Backward i m D own c f = inr (refl, or_none (in_force i m D) (list_any (inserts (force i)) own) (deletes_insert_none (force i) own c) (force_from i m D own f))
  where
    or_none : (a b : Bool) → b ≡ false → (a || b) ≡ true → a ≡ true
    or_none true b e h = refl
    or_none false b e h = differ (sym e ∙ h)

pub caused_values : CausedValues
caused_values d ms (Present t) D own n h c l = refl
caused_values d ms (Specific t) D own n h c l = refl
caused_values d ms (Occurs u k) D own n h c l = refl
caused_values d ms (Violation i) D own n h c l = by (slice_get ms i) refl
  where
    at : (m : Rule) → slice_get ms i ≡ Some m → (scope_at (Caused d) own i ≡ Every) ⊎ ((scope_at (Caused d) own i ≡ Caused d) × (in_force i m D ≡ true))
        → image_reply (first_violation Every own m (apply D own)) ≡ image_reply (first_violation (scope_at (Caused d) own i) own m (apply D own))
    at m e (inl s) = ap (λ s. image_reply (first_violation s own m (apply D own))) (sym s)
    at m e (inr p) = ap image_reply (caused_is_all d m D own (all_at HasNoNull ms i m n e) (holds_at D ms h i m e p.1) c) ∙ ap (λ s. image_reply (first_violation s own m (apply D own))) (sym p.0)

    by : (o : Option Rule) → slice_get ms i ≡ o → violation_reply o Every own (apply D own) ≡ violation_reply o (scope_at (Caused d) own i) own (apply D own)
    by None e = refl
    by (Some m) e = at m e (before_or_whole d i m D own c (l i m refl e))

-- Which mappings are in force after writes, and that each of them holds.
use Rattle.std.proofs.Common.{◌≡◌, ℕ, zero, suc, ◌+◌, ap, refl, sym, ◌∙◌, subst, List, [], ◌∷◌, Bool, true, false, not, ◌||◌, ◌&&◌, Some, inl, inr, arith}
use Rattle.std.specs.List.{list_any, list_all, slice_get}
use Rattle.std.specs.Prelude.{◌==◌}
use Rattle.std.proofs.lemmas.Bool.{or_cases}
use Rattle.def_chase.specs.Values.{Fact, same_fact}
use Rattle.def_chase.specs.Repository.{Change, Insert, Delete, has, apply, inserted_after, inserts}
use Rattle.def_chase.specs.Mappings.{Rule, force, in_force, Holds, HoldFrom, AllHold}
use Rattle.def_chase.specs.Caused.{is_delete}
use Rattle.def_chase.proofs.Bools.{differ, none_some, some_same, or_left}
use Rattle.def_chase.proofs.Sets.{has-apply}

-- ---- after writes

-- What the last write leaves there was there before, or was inserted.
pub was_or_inserted : (before : Bool) (ws : List Change) (t : Fact) → inserted_after before ws t ≡ true → (before || list_any (inserts t) ws) ≡ true
was_or_inserted before [] t h = or_left before false h
was_or_inserted before (Insert s ∷ ws) t h = around (same_fact t s) before (list_any (inserts t) ws) (was_or_inserted (same_fact t s || before) ws t h)
  where
    around : (s b c : Bool) → ((s || b) || c) ≡ true → (b || (s || c)) ≡ true
    around true true c e = refl
    around true false c e = refl
    around false b c e = e
was_or_inserted before (Delete s ∷ ws) t h = past before (not (same_fact t s)) (list_any (inserts t) ws) (was_or_inserted (before && not (same_fact t s)) ws t h)
  where
    past : (b n c : Bool) → ((b && n) || c) ≡ true → (b || c) ≡ true
    past true n c e = refl
    past false n c e = e

-- A mapping in force after writes was so before, or the writes put it in force.
pub force_from : (n : ℕ) (m : Rule) (D : List Fact) (ws : List Change) → in_force n m (apply D ws) ≡ true → (in_force n m D || list_any (inserts (force n)) ws) ≡ true
force_from n m D ws h =
    elim (or_cases (m.since == 0) (has (apply D ws) (force n)) h) [
      | inl e ↦ or_left (in_force n m D) (list_any (inserts (force n)) ws) (or_left (m.since == 0) (has D (force n)) e)
      | inr e ↦ around (m.since == 0) (has D (force n)) (list_any (inserts (force n)) ws) (was_or_inserted (has D (force n)) ws (force n) (sym (has-apply D ws (force n)) ∙ e))
    ]
  where
    around : (a b c : Bool) → (b || c) ≡ true → ((a || b) || c) ≡ true
    around true b c e = refl
    around false b c e = e

-- Writes that only delete put no mapping in force.
pub deletes_insert_none : (t : Fact) (ws : List Change) → list_all is_delete ws ≡ true → list_any (inserts t) ws ≡ false
deletes_insert_none t [] h = refl
deletes_insert_none t (Insert s ∷ ws) h = differ h
deletes_insert_none t (Delete s ∷ ws) h = deletes_insert_none t ws h

-- ---- all mappings in force hold

module _ (D : List Fact) where
  hold_at : (k : ℕ) (ms : List Rule) → HoldFrom k ms D → (n : ℕ) (m : Rule) → slice_get ms n ≡ Some m → in_force (n + k) m D ≡ true → Holds m D
  hold_at k [] h n m e f = absurd (none_some m e)
  hold_at k (l ∷ ms) h zero m e f = subst (λ (l : Rule). in_force k l D ≡ true → Holds l D) (some_same l m e) h.0 (let same : k ≡ zero + k = omega arith in ap (λ i. in_force i m D) same ∙ f)
  hold_at k (l ∷ ms) h (suc n) m e f = hold_at (suc k) ms h.1 n m e (let same : n + suc k ≡ suc n + k = omega arith in ap (λ i. in_force i m D) same ∙ f)

  -- Each mapping that is in force holds.
  pub holds_at : (ms : List Rule) → AllHold ms D → (n : ℕ) (m : Rule) → slice_get ms n ≡ Some m → in_force n m D ≡ true → Holds m D
  holds_at ms h n m e f = hold_at zero ms h n m e (let same : n + zero ≡ n = omega arith in ap (λ i. in_force i m D) same ∙ f)

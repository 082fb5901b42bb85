-- A test of values that constants and fresh nulls pass is passed by all values that an attempt makes of what passes it.
use Rattle.std.proofs.Common.{◌≡◌, ℕ, zero, suc, ◌+◌, ◌≤◌, subst, List, [], ◌∷◌, map, Bool, true, refl, Some}
use Rattle.std.specs.Prelude.{slice_get, pos}
use Rattle.std.specs.List.{list_all}
use Rattle.std.proofs.lemmas.Bool.{and_parts}
use Rattle.def_chase.specs.Values.{Datum, Number, Unknown}
use Rattle.def_chase.specs.Mappings.{Slot, Var, Const, Pattern, Rule, value_under, listed}
use Rattle.def_chase.specs.Specific.{is_constant}
use Rattle.def_chase.specs.Updates.{Operation}
use Rattle.def_chase.specs.Laws.{is_no_null, has_no_null, HasNoNull, HaveNoNulls}
use Rattle.def_chase.proofs.Bools.{both, none_some, some_same}
use Rattle.def_chase.proofs.Searches.{all_at}
use Rattle.def_steps.proofs.Passing.{all_weaker, all_mapped, index_passes}
use Rattle.def_steps.proofs.Made.{Closed}

module _ (p : ℕ → Datum → Bool) (constants : (k : ℕ) (d : Datum) → is_constant d ≡ true → p k d ≡ true) where
  terms_pass : (k : ℕ) (ds : List Datum) → list_all (p k) ds ≡ true → (ts : List Slot) → list_all is_no_null ts ≡ true → list_all (p k) (map (value_under (listed ds)) ts) ≡ true
  terms_pass k ds h [] e = refl
  terms_pass k ds h (Var v ∷ ts) e = both _ _ (index_passes (p k) (Number (pos 0)) ds v h (constants k (Number (pos 0)) refl)) (terms_pass k ds h ts e)
  terms_pass k ds h (Const d ∷ ts) e = let x = and_parts (is_constant d) (list_all is_no_null ts) e in both _ _ (constants k d x.0) (terms_pass k ds h ts x.1)

  right_at : (m : Rule) (i : ℕ) (b : Pattern) → HasNoNull m → slice_get m.right i ≡ Some b → list_all is_no_null b.terms ≡ true
  right_at m i b h e = at m.right i (and_parts (list_all has_no_null m.left) (list_all has_no_null m.right) h).1 e
    where
      at : (bs : List Pattern) (i : ℕ) → list_all has_no_null bs ≡ true → slice_get bs i ≡ Some b → list_all is_no_null b.terms ≡ true
      at [] i x f = absurd (none_some b f)
      at (y ∷ bs) zero x f = subst (λ (z : Pattern). list_all is_no_null z.terms ≡ true) (some_same y b f) (and_parts (has_no_null y) (list_all has_no_null bs) x).0
      at (y ∷ bs) (suc i) x f = at bs i (and_parts (has_no_null y) (list_all has_no_null bs) x).1 f

  all_pass : (k : ℕ) (f : Datum → Datum) → ((d : Datum) → p k (f d) ≡ true) → (ds : List Datum) → list_all (p k) (map f ds) ≡ true
  all_pass k f h [] = refl
  all_pass k f h (d ∷ ds) = both _ _ (h d) (all_pass k f h ds)

  pub value_tests : (ms : List Rule) (op : Operation) (u a : ℕ) → HaveNoNulls ms → ((k j : ℕ) (d : Datum) → p k d ≡ true → p (k + j) d ≡ true)
      → ((k j i : ℕ) → 1 ≤ i → i ≤ j → p (k + j) (Unknown record { update = u; attempt = a; place = k + i }) ≡ true)
      → Closed ms op u a p (λ k t. list_all (p k) t.values)
  value_tests ms op u a plain later fresh =
      record {
        constants = constants;
        later = later;
        fresh = fresh;
        values = λ k t e. e;
        tuples_later = λ k j t e. all_weaker (p k) (p (k + j)) (λ d x. later k j d x) t.values e;
        substituted = λ k f c h t e. all_mapped (p k) (p k) f h t.values e;
        generated = λ k n i m b e f ds h. terms_pass k ds h b.terms (right_at m i b (all_at HasNoNull ms n m plain e) f);
        nowhere = λ k. refl;
        added = λ t e k f h. all_pass k f h t.values;
        enacted = λ n e k. both _ _ (constants k (Number (pos n)) refl) refl;
      }

-- The walk back through the entries for what an update shows.
use Rattle.std.proofs.Common.{◌≡◌, ℕ, ◌≤◌, ◌+◌, ◌-◌, ap, sym, refl, ◌∙◌, List, [], ◌∷◌, ◌++◌, take, length, map, Bool, true, false, ◌||◌, arith}
use Rattle.std.specs.Prelude.{if◌then◌else◌, get_or}
use Rattle.std.specs.List.{list_any}
use Rattle.std.proofs.lemmas.List.{map_more}
use Rattle.core_entries.specs.Meanings.{entry_of}
use Rattle.core_entries.specs.declared.entries.Entry.{Entry}
use Rattle.def_machine.specs.Cascade.{has_number}
use Rattle.def_machine.proofs.Basics.{if_true, if_false}
use Rattle.def_chase.specs.Repository.{Change}
use Rattle.def_history.specs.PlainEntries.{PlainEntry}
use Rattle.work_stale.specs.Shown.{taken_in, shown_by, trail_by}
use Rattle.work_stale.specs.Stale.{any_of}
use Rattle.work_stale.proofs.Showing.{trail_more}

or_flat : (a b c : Bool) → (a || (b || c)) ≡ ((a || b) || c)
or_flat true b c = refl
or_flat false b c = refl

or_swap : (a b : Bool) → (a || b) ≡ (b || a)
or_swap true true = refl
or_swap true false = refl
or_swap false true = refl
or_swap false false = refl

pub any_join : {A : Type 0} (f : A → Bool) (xs ys : List A) → list_any f (xs ++ ys) ≡ (list_any f xs || list_any f ys)
any_join f [] ys = refl
any_join f (x ∷ xs) ys = ap (λ b. f x || b) (any_join f xs ys) ∙ or_flat (f x) (list_any f xs) (list_any f ys)

-- what is shown after one entry more: nothing where that takes it away, else what it shows, or what was shown before
shown_last : (p : ℕ → Bool) (i : ℕ) (H : List PlainEntry) (d : PlainEntry)
    → any_of p (trail_by i (H ++ d ∷ [])) ≡ (if has_number (taken_in d) i then false else (any_of p (shown_by i d) || any_of p (trail_by i H)))
shown_last p i H d = ap (any_of p) (trail_more i H d) ∙ by (has_number (taken_in d) i) (trail_by i H) (shown_by i d)
  where
    by : (b : Bool) (ws vs : List Change) → any_of p (if b then [] else ws ++ vs) ≡ (if b then false else (any_of p vs || any_of p ws))
    by true ws vs = refl
    by false ws vs = any_join _ ws vs ∙ or_swap (any_of p ws) (any_of p vs)

module _ (p : ℕ → Bool) (i n : ℕ) (es : List Entry) (d : Entry) (some : 1 ≤ n) (few : n ≤ length es) (is : d ≡ get_or es (n - 1) d) where
  -- of the last of the first n entries, and those before it
  last_shown : any_of p (trail_by i (map entry_of (take n es))) ≡ (if has_number (taken_in (entry_of d)) i then false else (any_of p (shown_by i (entry_of d)) || any_of p (trail_by i (map entry_of (take (n - 1) es)))))
  last_shown =
      let place : n ≡ n - 1 + 1 = omega (arith, some) in
      ap (λ m. any_of p (trail_by i (map entry_of (take m es)))) place
      ∙ ap (λ ds. any_of p (trail_by i ds)) (map_more entry_of es (n - 1) d (omega (arith, some, few)) ∙ ap (λ x. map entry_of (take (n - 1) es) ++ entry_of x ∷ []) (sym is))
      ∙ shown_last p i (map entry_of (take (n - 1) es)) (entry_of d)

  pub taken_last : has_number (taken_in (entry_of d)) i ≡ true → any_of p (trail_by i (map entry_of (take n es))) ≡ false
  taken_last h = last_shown ∙ if_true (has_number (taken_in (entry_of d)) i) false _ h

  pub not_taken_last : has_number (taken_in (entry_of d)) i ≡ false → any_of p (trail_by i (map entry_of (take n es))) ≡ (any_of p (shown_by i (entry_of d)) || any_of p (trail_by i (map entry_of (take (n - 1) es))))
  not_taken_last h = last_shown ∙ if_false (has_number (taken_in (entry_of d)) i) false _ h

-- The last marker below a number, step by step.
use Rattle.std.proofs.Common.{◌≡◌, ℕ, zero, suc, ◌<◌, ap, refl, sym, ◌∙◌, List, [], ◌∷◌, ◌++◌, Bool, true, false, not, ◌&&◌, ◌||◌, cond, find, Option, Some, None, unwrap_or, arith}
use Rattle.std.specs.List.{AllByRecursion}
use Rattle.std.specs.List.Sorted.{IsStrictlySortedBy}
use Rattle.std.specs.Map.{keys_of}
use Rattle.std.specs.Option.{option_map, option_or}
use Rattle.std.specs.Ordering.{is_eq, nat_cmp, MatchOrdering}
use Rattle.std.specs.declared.cmp.Ordering.{Ordering}
use Rattle.std.specs.declared.cmp.Ordering.TheVariants.{Less, Equal, Greater}
use Rattle.std.specs.declared.cmp.Reverse.{Reverse}
use Rattle.std.proofs.lemmas.Bool.{lt-ltb, le-ltb}
use Rattle.std.proofs.lemmas.Cmp.{ranked}
use Rattle.def_chase.specs.Values.{Fact, same_fact}
use Rattle.def_chase.specs.Repository.{Change, Insert, Delete, inserted_after}
use Rattle.base_tree.specs.Orders.{IsOrdered, is_at}
use Rattle.set_versions.specs.Chains.{newest_cmp, AreMarks}
use Rattle.set_versions.specs.Unders.{is_under, less_is}
use Rattle.set_versions.specs.Marked.{stands}
use Rattle.set_versions.specs.Standing.{mark_in, written, last_written}
use Rattle.set_versions.specs.Trails.{writes_below}
use Rattle.set_versions.specs.declared.marks.Marks.{Marks}

-- ---- the chain

-- The last marker below n.
abbrev last_under : ℕ → List (Reverse ℕ × Bool) → Option Bool
last_under n es = option_map (λ e. e.1) (find (λ e. is_under n e.0) es)

abbrev mark_at : ℕ → List (Reverse ℕ × Bool) → Option Bool
mark_at n es = option_map (λ e. e.1) (find (is_at newest_cmp (record { 0 = n })) es)

none_under : (es : List (Reverse ℕ × Bool)) → last_under 0 es ≡ None
none_under [] = refl
none_under (e ∷ es) = rw (le-ltb e.0.0 0 (omega arith)) (none_under es)

-- After a marker of a lower update there is none of update n.
none_at : (n : ℕ) (e : Reverse ℕ) (es : List (Reverse ℕ × Bool)) → e.0 < n → AllByRecursion (λ y. newest_cmp e y ≡ Less) (keys_of es) → mark_at n es ≡ None
none_at n e [] h a = refl
none_at n e (f ∷ es) h a = by (nat_cmp f.0.0 n) (ranked f.0.0 n (nat_cmp f.0.0 n) refl) (less_is f.0.0 e.0 a.0) (none_at n e es h a.1)
  where
    by : (o : Ordering) → MatchOrdering o (f.0.0 < n) (f.0.0 ≡ n) (n < f.0.0) → f.0.0 < e.0 → mark_at n es ≡ None → option_map (λ (g : Reverse ℕ × Bool). g.1) (cond (is_eq o) (Some f) (find (is_at newest_cmp (record { 0 = n })) es)) ≡ None
    by Less m b i = i
    by Equal m b i = absurd (omega arith)
    by Greater m b i = i

-- The last marker below n + 1 is that of update n, and where there is none the last below n.
pub next_under : (n : ℕ) (es : List (Reverse ℕ × Bool)) → IsOrdered newest_cmp es → last_under (suc n) es ≡ option_or (mark_at n es) (last_under n es)
unfolding IsStrictlySortedBy
next_under n [] s = refl
next_under n (e ∷ es) s = by (nat_cmp e.0.0 n) (ranked e.0.0 n (nat_cmp e.0.0 n) refl) (next_under n es s.1)
  where
    by : (o : Ordering) → MatchOrdering o (e.0.0 < n) (e.0.0 ≡ n) (n < e.0.0) → last_under (suc n) es ≡ option_or (mark_at n es) (last_under n es)
        → last_under (suc n) (e ∷ es) ≡ option_or (option_map (λ (g : Reverse ℕ × Bool). g.1) (cond (is_eq o) (Some e) (find (is_at newest_cmp (record { 0 = n })) es))) (last_under n (e ∷ es))
    by Less m i =
        let up : e.0.0 < suc n = omega arith in
        rw (lt-ltb e.0.0 (suc n) up, lt-ltb e.0.0 n m, none_at n e.0 es m s.0) refl
    by Equal m i = let up : e.0.0 < suc n = omega arith in rw (lt-ltb e.0.0 (suc n) up) refl
    by Greater m i = rw (le-ltb e.0.0 (suc n) (omega arith), le-ltb e.0.0 n (omega arith)) i

-- ---- writes

inserted_both : (b : Bool) (ws vs : List Change) (t : Fact) → inserted_after b (ws ++ vs) t ≡ inserted_after (inserted_after b ws t) vs t
inserted_both b [] vs t = refl
inserted_both b (Insert s ∷ ws) vs t = inserted_both (same_fact t s || b) ws vs t
inserted_both b (Delete s ∷ ws) vs t = inserted_both (b && not (same_fact t s)) ws vs t

or_later : (b : Bool) (m : Option Bool) (c : Bool) → (c || unwrap_or m b) ≡ unwrap_or (option_or (cond c (Some true) None) m) b
or_later b m true = refl
or_later b m false = refl

and_later : (b : Bool) (m : Option Bool) (c : Bool) → (unwrap_or m b && not c) ≡ unwrap_or (option_or (cond c (Some false) None) m) b
and_later b m true = and-false (unwrap_or m b)
  where
    and-false : (a : Bool) → (a && false) ≡ false
    and-false true = refl
    and-false false = refl
and_later b m false = and-true (unwrap_or m b)
  where
    and-true : (a : Bool) → (a && true) ≡ a
    and-true true = refl
    and-true false = refl

-- Whether the tuple is there after writes is what the last of them says, and else what was said before.
pub inserted_last : (b : Bool) (m : Option Bool) (ws : List Change) (t : Fact) → inserted_after (unwrap_or m b) ws t ≡ unwrap_or (last_written m ws t) b
inserted_last b m [] t = refl
inserted_last b m (Insert s ∷ ws) t = ap (λ c. inserted_after c ws t) (or_later b m (same_fact t s)) ∙ inserted_last b (option_or (written (Insert s) t) m) ws t
inserted_last b m (Delete s ∷ ws) t = ap (λ c. inserted_after c ws t) (and_later b m (same_fact t s)) ∙ inserted_last b (option_or (written (Delete s) t) m) ws t

or_unwrap : (a c : Option Bool) (b : Bool) → unwrap_or (option_or a c) b ≡ unwrap_or a (unwrap_or c b)
or_unwrap None c b = refl
or_unwrap (Some x) c b = refl

-- What stands for update n is what the writes of the lower ones leave.
pub stands_after : (trail : ℕ → List Change) (t : Fact) (m : Marks) → AreMarks m → ((v : ℕ) → mark_in m v ≡ last_written None (trail v) t) → (n : ℕ) → stands n m ≡ inserted_after m.in_base (writes_below trail n) t
stands_after trail t m s h zero = ap (λ o. unwrap_or o m.in_base) (none_under m.chain)
stands_after trail t m s h (suc n) =
    ap (λ o. unwrap_or o m.in_base) (next_under n m.chain s)
    ∙ or_unwrap (mark_in m n) (last_under n m.chain) m.in_base
    ∙ ap (λ o. unwrap_or o (stands n m)) (h n)
    ∙ sym (inserted_last (stands n m) None (trail n) t)
    ∙ ap (λ b. inserted_after b (trail n) t) (stands_after trail t m s h n)
    ∙ sym (inserted_both m.in_base (writes_below trail n) (trail n) t)

-- Steps whose queries are answered by a function: what they come to, and that the queries grow fewer.
use Rattle.std.proofs.Common.{◌≡◌, ◌∙◌, ap, refl, sym, subst, Bool, ℕ, zero, suc, ◌+◌, ◌-◌, ◌<◌, ◌≤◌, Option, Some, None, List, [], ◌∷◌, ◌++◌, length, take, drop, map, arith}
use Rattle.std.proofs.Math.Seq.{take-length}
use Rattle.std.proofs.lemmas.List.{length-drop}
use Rattle.def_machine.specs.Trees.{Leaf, Node, result_of, log_of}
use Rattle.def_chase.specs.Queries.{Query, Reply, Violation, Nothing, value}
use Rattle.base_types.specs.Meanings.{change_of}
use Rattle.base_types.specs.declared.updates.Write.{Write}
use Rattle.def_chase.specs.Values.{Fact}
use Rattle.def_chase.specs.Repository.{Change}
use Rattle.def_chase.specs.Violations.{Direction, Caused}
use Rattle.def_chase.specs.Updates.{Choice, direction_of}
use Rattle.def_chase.specs.Mappings.{Rule}
use Rattle.chase_query.specs.Kinds.{IsOfKind}
use Rattle.chase_eval.specs.Watched.{Watched, AreSettled}
use Rattle.def_steps.specs.Attempts.{Attempt}
use Rattle.def_steps.specs.Steps.{Asking, step, moved}
use Rattle.chase_update.specs.Courses.{Course, coming_to, by_reply, first_asked}
use Rattle.chase_update.specs.Settled.{FindsNone, IsShorter}
use Rattle.chase_update.specs.Wishes.{Wish, WishesReply, TakesAnswer}
use Rattle.run_step.specs.Turns.{stepped}

by_same : (val : Query → Reply) (t : Course) (q : Query) (a : Reply) → first_asked t ≡ Some q → a ≡ val q → result_of val (by_reply t a) ≡ result_of val t
by_same val (Leaf P) q a e h = refl
by_same val (Node p k) q a e h =
    let same : p ≡ q = cc in
    ap (λ r. result_of val (k r)) (h ∙ ap val (sym same))

by_fewer : (val : Query → Reply) (t : Course) (q : Query) (a : Reply) → first_asked t ≡ Some q → a ≡ val q → length (log_of val (by_reply t a)) < length (log_of val t)
by_fewer val (Leaf P) q a e h = absurd (none_asked q e)
  where
    none_asked : (q : Query) → None ≡ Some q → ⊥
    none_asked q e = cc
by_fewer val (Node p k) q a e h =
    let same : p ≡ q = cc in
    let left : length (log_of val (k a)) ≡ length (log_of val (k (val p))) = ap (λ r. length (log_of val (k r))) (h ∙ ap val (sym same)) in
    omega (arith, left)

-- Where s comes to the same as t with no more queries, the answer to its first query leads to the same result.
pub answered_same : (val : Query → Reply) (t s u : Course) (q : Query) (a : Reply) → IsShorter val t s → first_asked s ≡ Some q → a ≡ val q → u ≡ by_reply s a → result_of val u ≡ result_of val t
answered_same val t s u q a p e h f = ap (result_of val) f ∙ (by_same val s q a e h ∙ p.same)

-- At least one query fewer is left after it.
pub answered_fewer : (val : Query → Reply) (t s u : Course) (q : Query) (a : Reply) → IsShorter val t s → first_asked s ≡ Some q → a ≡ val q → u ≡ by_reply s a → length (log_of val u) < length (log_of val t)
answered_fewer val t s u q a p e h f =
    let less : length (log_of val u) < length (log_of val s) = subst (λ (v : Course). length (log_of val v) < length (log_of val s)) (sym f) (by_fewer val s q a e h) in
    let fewer = p.fewer in
    omega (arith, less, fewer)

-- A step of P leads to P moved by what it comes to.
pub comes_to : (val : Query → Reply) (B : ℕ) (P : Attempt) (t : Asking) → result_of val (coming_to B P t) ≡ moved B P (result_of val t)
comes_to val B P (Leaf m) = refl
comes_to val B P (Node q k) = comes_to val B P (k (val q))

-- An answer of the query's kind is one that is taken.
pub takes : (ms : List Rule) (w : Wish) (q : Query) (a : Reply) → WishesReply q ≡ w → IsOfKind ms q a → TakesAnswer ms w a
takes ms w q a e h = subst (λ (v : Wish). TakesAnswer ms v a) e h

-- What the view answers is the value over these mappings, where it is the one that it was.
pub answers_there : (ms : List Rule) (q : Query) (a : Reply) (v w : Watched) → v ≡ w → w.rules ≡ ms
    → a ≡ value v.rules q v.below v.own (Caused v.heading) → a ≡ value ms q w.below w.own (Caused w.heading)
answers_there ms q a v w e r h =
    h ∙ ap (λ (u : Watched). value u.rules q u.below u.own (Caused u.heading)) e ∙ ap (λ (rs : List Rule). value rs q w.below w.own (Caused w.heading)) r

-- What the view says is settled has no violation over them.
pub settled_there : (ms : List Rule) (marks : List Bool) (v w : Watched) → v ≡ w → w.rules ≡ ms → AreSettled v marks → FindsNone (λ q. value ms q w.below w.own (Caused w.heading)) marks
settled_there ms marks v w e r a n m = sym (answers_there ms (Violation n) Nothing v w e r (sym (a n m)))

-- What the step of P comes to, where it is answered from what P sees.
pub stepped_is : (ms : List Rule) (B : ℕ) (D : List Fact) (P : Attempt) (c : Option Choice) (t : Course) (below : List Fact) (own : List Change) (h : Direction)
    → below ≡ D → own ≡ P.own → h ≡ direction_of P.operation → t ≡ coming_to B P (step ms P c)
    → result_of (λ q. value ms q below own (Caused h)) t ≡ stepped ms B D P c
stepped_is ms B D P c t below own h e f g k =
    (λ i. result_of (λ q. value ms q (e i) (f i) (Caused (g i))) (k i)) ∙ comes_to (λ q. value ms q D P.own (Caused (direction_of P.operation))) B P (step ms P c)

dropped : (n : ℕ) (ws : List Write) → take n (map change_of ws) ++ map change_of (drop n ws) ≡ map change_of ws
dropped zero ws = refl
dropped (suc n) [] = refl
dropped (suc n) (w ∷ ws) = ap (λ (vs : List Change). change_of w ∷ vs) (dropped n ws)

-- The first writes that were seen, and those after them, are all.
pub seen_all : (n : ℕ) (ws vs : List Write) (own : List Change) → vs ≡ ws → take n (map change_of ws) ≡ own → own ++ map change_of (take (length vs - n) (drop n vs)) ≡ map change_of ws
seen_all n ws vs own e f =
    ap (λ (us : List Write). own ++ map change_of (take (length us - n) (drop n us))) e
    ∙ ap (λ (first : List Change). first ++ map change_of (take (length ws - n) (drop n ws))) (sym f)
    ∙ ap (λ (us : List Write). take n (map change_of ws) ++ map change_of us) (ap (λ k. take k (drop n ws)) (sym (length-drop n ws)) ∙ take-length (drop n ws))
    ∙ dropped n ws

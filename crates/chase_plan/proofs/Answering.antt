-- Steps whose queries are answered by a function: what they come to, and what they read.
use Rattle.std.proofs.Common.{◌≡◌, ◌∙◌, ap, refl, sym, subst, ℕ, suc, ◌<◌, Option, Some, None, List, [], ◌∷◌, ◌++◌, append_assoc, length, map, arith}
use Rattle.def_machine.specs.Trees.{Leaf, Node, result_of, log_of}
use Rattle.base_types.specs.Meanings.{change_of}
use Rattle.base_types.specs.declared.updates.Write.{Write}
use Rattle.def_chase.specs.Queries.{Query, Reply, value}
use Rattle.def_chase.specs.Values.{Fact}
use Rattle.def_chase.specs.Repository.{Change}
use Rattle.def_chase.specs.Violations.{Direction, Caused}
use Rattle.def_chase.specs.Updates.{Choice, direction_of}
use Rattle.def_chase.specs.Mappings.{Rule}
use Rattle.chase_query.specs.Kinds.{IsOfKind}
use Rattle.chase_query.specs.Meanings.{Read, read_of, reads_in}
use Rattle.chase_query.specs.declared.log.Logged.{Logged}
use Rattle.chase_query.specs.declared.log.Logged.TheVariants.{Asked}
use Rattle.chase_query.specs.declared.log.LoggedRead.{LoggedRead}
use Rattle.chase_query.proofs.Entries.{with_last}
use Rattle.def_steps.specs.Attempts.{Attempt}
use Rattle.def_steps.specs.Steps.{Asking, step, moved}
use Rattle.chase_update.specs.Courses.{Course, coming_to, by_reply, first_asked}
use Rattle.chase_update.specs.Wishes.{Wish, WishesReply, TakesAnswer}
use Rattle.chase_update.specs.Settled.{IsShorter}
use Rattle.chase_update.specs.Logged.{read_after}
use Rattle.chase_plan.specs.Planned.{answers_over, next_attempt, next_reads}

-- What a course asks first, answered so, and what is left of it.
pub record IsOn (val : Query → Reply) (t : Course) (q : Query) (a : Reply) : Type 0 where
  pub same : result_of val (by_reply t a) ≡ result_of val t
  pub log : log_of val t ≡ (q, a) ∷ log_of val (by_reply t a)

pub goes_on : (val : Query → Reply) (t : Course) (q : Query) (a : Reply) → first_asked t ≡ Some q → a ≡ val q → IsOn val t q a
goes_on val (Leaf P) q a e h = absurd (none_asked q e)
  where
    none_asked : (q : Query) → None ≡ Some q → ⊥
    none_asked q e = cc
goes_on val (Node p k) q a e h =
    let same : p ≡ q = cc in
    let answer : a ≡ val p = h ∙ ap val (sym same) in
    record {
      same = ap (λ r. result_of val (k r)) answer;
      log = λ i. (same i, sym answer i) ∷ log_of val (k (sym answer i));
    }

length_map : (ws : List Write) → length (map change_of ws) ≡ length ws
length_map [] = refl
length_map (w ∷ ws) = ap suc (length_map ws)

-- How many writes there are.
pub made_so_far : (ws : List Write) (own : List Change) → map change_of ws ≡ own → length ws ≡ length own
made_so_far ws own e = sym (length_map ws) ∙ ap length e

-- A step of P leads to P moved by what it comes to, with the same reads.
pub comes_to : (val : Query → Reply) (B : ℕ) (P : Attempt) (t : Asking) → result_of val (coming_to B P t) ≡ moved B P (result_of val t)
comes_to val B P (Leaf m) = refl
comes_to val B P (Node q k) = comes_to val B P (k (val q))

pub comes_by : (val : Query → Reply) (B : ℕ) (P : Attempt) (t : Asking) → log_of val (coming_to B P t) ≡ log_of val t
comes_by val B P (Leaf m) = refl
comes_by val B P (Node q k) = ap (λ es. (q, val q) ∷ es) (comes_by val B P (k (val q)))

-- An answer of the query's kind is one that is taken.
pub takes : (ms : List Rule) (w : Wish) (q : Query) (a : Reply) → WishesReply q ≡ w → IsOfKind ms q a → TakesAnswer ms w a
takes ms w q a e h = subst (λ (v : Wish). TakesAnswer ms v a) e h

-- What the queries of the step of P come to over D, where they are answered from what P sees.
pub planned : (ms : List Rule) (B : ℕ) (D : List Fact) (P : Attempt) (c : Option Choice) (t : Course) (below : List Fact) (own : List Change) (h : Direction)
    → below ≡ D → own ≡ P.own → h ≡ direction_of P.operation → t ≡ coming_to B P (step ms P c)
    → result_of (λ q. value ms q below own (Caused h)) t ≡ next_attempt ms B D P c
planned ms B D P c t below own h e f g k =
    (λ i. result_of (λ q. value ms q (e i) (f i) (Caused (g i))) (k i)) ∙ comes_to (answers_over ms D P) B P (step ms P c)

pub planned_reads : (ms : List Rule) (B n : ℕ) (D : List Fact) (P : Attempt) (c : Option Choice) (t : Course) (below : List Fact) (own : List Change) (h : Direction)
    → below ≡ D → own ≡ P.own → h ≡ direction_of P.operation → t ≡ coming_to B P (step ms P c) → n ≡ length P.own
    → map (read_after n) (log_of (λ q. value ms q below own (Caused h)) t) ≡ next_reads ms D P c
planned_reads ms B n D P c t below own h e f g k m =
    (λ i. map (read_after (m i)) (log_of (λ q. value ms q (e i) (f i) (Caused (g i))) (k i)))
    ∙ ap (map (read_after (length P.own))) (comes_by (answers_over ms D P) B P (step ms P c))

-- One more read, and what is left to be read.
pub reads_on : (val : Query → Reply) (n : ℕ) (t u : Course) (q : Query) (a : Reply) (rs made : List Logged) (r : LoggedRead) (all : List Read) → IsOn val t q a
    → u ≡ by_reply t a → made ≡ rs ++ Asked r ∷ [] → read_of r ≡ read_after n (q, a)
    → reads_in rs ++ map (read_after n) (log_of val t) ≡ all → reads_in made ++ map (read_after n) (log_of val u) ≡ all
reads_on val n t u q a rs made r all on f e same h =
    (λ i. with_last made rs (Asked r) (read_after n (q, a) ∷ []) e (ap (λ x. x ∷ []) same) i ++ map (read_after n) (log_of val (f i)))
    ∙ append_assoc (reads_in rs) (read_after n (q, a) ∷ []) (map (read_after n) (log_of val (by_reply t a)))
    ∙ ap (λ es. reads_in rs ++ map (read_after n) es) (sym on.log)
    ∙ h

-- Fewer queries are left, of those that are asked after some were passed.
pub fewer : (val : Query → Reply) (s t u : Course) (q : Query) (a : Reply) → IsShorter val s t → IsOn val t q a → u ≡ by_reply t a → length (log_of val u) < length (log_of val s)
fewer val s t u q a passed on f =
    let few = passed.fewer in
    let same : length (log_of val u) ≡ length (log_of val (by_reply t a)) = ap (λ v. length (log_of val v)) f in
    let more : length (log_of val t) ≡ suc (length (log_of val (by_reply t a))) = ap length on.log in
    omega (arith, same, more, few)

-- Programs that come to the same with no more queries: a look that passes a mapping without a violation, and the step and the course that it is in.
use Rattle.std.proofs.Common.{◌≡◌, ◌∙◌, ℕ, suc, arith, ap, sym, refl, List, drop, length, Option, Some, None}
use Rattle.std.specs.Prelude.{slice_get}
use Rattle.def_machine.specs.Trees.{Tree, Leaf, Node, result_of, log_of}
use Rattle.def_chase.specs.Mappings.{Rule}
use Rattle.def_chase.specs.Queries.{Query, Reply, Violation, Nothing}
use Rattle.def_steps.specs.Attempts.{Attempt}
use Rattle.def_steps.specs.Steps.{Asking, moved, image_in, repair_or, look_from}
use Rattle.chase_update.specs.Rows.{Violating, repaired, look_on, goes_on, row_tree}
use Rattle.chase_update.specs.Courses.{coming_to}
use Rattle.chase_update.specs.Settled.{IsShorter}

-- The program itself.
pub as_it_is : {A : Type 0} (val : Query → Reply) (t : Tree Query Reply A) → IsShorter val t t
as_it_is val t = record { same = refl; fewer = omega arith }

-- One after the other.
pub shorter_on : {A : Type 0} (val : Query → Reply) (t u w : Tree Query Reply A) → IsShorter val t u → IsShorter val u w → IsShorter val t w
shorter_on val t u w a b =
    let first = a.fewer in
    let then = b.fewer in
    record { same = b.same ∙ a.same; fewer = omega (arith, first, then) }

pub none_found : (P : Attempt) (n : ℕ) (o : Option Rule) (a : Reply) (rest : Asking) → a ≡ Nothing → repaired P n o (image_in a) rest ≡ rest
none_found P n None a rest e = refl
none_found P n (Some m) a rest e = ap (λ b. repair_or P n m (image_in b) rest) e

-- A mapping without a violation is passed.
pub passes_settled : (val : Query → Reply) (ms : List Rule) (P : Attempt) (n j next : ℕ) → j ≡ suc n → val (Violation n) ≡ Nothing
    → row_tree ms P (Violating next) ≡ look_from P j (drop j ms) → IsShorter val (row_tree ms P (Violating n)) (row_tree ms P (Violating next))
passes_settled val ms P n j next e nothing h =
    let on : goes_on ms P (Violating n) (val (Violation n)) ≡ row_tree ms P (Violating next) =
    none_found P n (slice_get ms n) (val (Violation n)) (look_on ms P n) nothing ∙ (sym (ap (λ k. look_from P k (drop k ms)) e) ∙ sym h) in
    let asks : length (log_of val (goes_on ms P (Violating n) (val (Violation n)))) ≡ length (log_of val (row_tree ms P (Violating next))) = ap (λ t. length (log_of val t)) on in
    record { same = sym (ap (result_of val) on); fewer = omega (arith, asks) }

comes_to : (val : Query → Reply) (B : ℕ) (P : Attempt) (t : Asking) → result_of val (coming_to B P t) ≡ moved B P (result_of val t)
comes_to val B P (Leaf m) = refl
comes_to val B P (Node q k) = comes_to val B P (k (val q))

asks_alike : (val : Query → Reply) (B : ℕ) (P : Attempt) (t : Asking) → length (log_of val (coming_to B P t)) ≡ length (log_of val t)
asks_alike val B P (Leaf m) = refl
asks_alike val B P (Node q k) = ap suc (asks_alike val B P (k (val q)))

-- So is the course of a step.
pub shorter_step : (val : Query → Reply) (B : ℕ) (P : Attempt) (t u : Asking) → IsShorter val t u → IsShorter val (coming_to B P t) (coming_to B P u)
shorter_step val B P t u s =
    let old = asks_alike val B P t in
    let new = asks_alike val B P u in
    let fewer = s.fewer in
    record { same = comes_to val B P u ∙ (ap (moved B P) s.same ∙ sym (comes_to val B P t)); fewer = omega (arith, old, new, fewer) }

-- A look that passes mappings without a violation, with a read of each.
use Rattle.std.proofs.Common.{◌≡◌, ◌∙◌, ◌+◌, ◌-◌, ◌≤◌, ℕ, suc, ap, arith, sym, subst, refl, List, [], ◌∷◌, ◌++◌, append_assoc, append-nil, drop, map}
use Rattle.std.specs.Prelude.{slice_get}
use Rattle.def_machine.specs.Trees.{Tree, Leaf, Node, log_of}
use Rattle.def_chase.specs.Mappings.{Rule}
use Rattle.def_chase.specs.Queries.{Query, Reply, Violation, Nothing}
use Rattle.chase_query.specs.Meanings.{Read, finds_none, passing}
use Rattle.chase_query.proofs.Entries.{passage_on}
use Rattle.def_steps.specs.Attempts.{Attempt}
use Rattle.def_steps.specs.Steps.{Asking, look_from}
use Rattle.chase_update.specs.Rows.{Violating, look_on, goes_on, row_tree}
use Rattle.chase_update.specs.Courses.{coming_to}
use Rattle.chase_update.specs.Logged.{read_after, IsLogged}
use Rattle.chase_update.proofs.Shorter.{as_it_is, shorter_on, none_found, passes_settled, shorter_step}

-- Nothing was passed.
pub logged_none : {A : Type 0} (val : Query → Reply) (n : ℕ) (t : Tree Query Reply A) (reads : List Read) → IsLogged val n t reads t reads
logged_none val n t reads = record { shorter = as_it_is val t; reads = refl }

-- One after the other.
pub logged_on : {A : Type 0} (val : Query → Reply) (n : ℕ) (t u w : Tree Query Reply A) (before mid after : List Read) → IsLogged val n t before u mid → IsLogged val n u mid w after → IsLogged val n t before w after
logged_on val n t u w before mid after a b = record { shorter = shorter_on val t u w a.shorter b.shorter; reads = a.reads ∙ b.reads }

-- One mapping was passed, with its read.
pub logs_settled : (val : Query → Reply) (ms : List Rule) (P : Attempt) (n made j next : ℕ) (before after : List Read) → j ≡ suc n → val (Violation n) ≡ Nothing
    → row_tree ms P (Violating next) ≡ look_from P j (drop j ms) → after ≡ before ++ finds_none n made ∷ []
    → IsLogged val made (row_tree ms P (Violating n)) before (row_tree ms P (Violating next)) after
logs_settled val ms P n made j next before after e nothing h f =
    let on : goes_on ms P (Violating n) (val (Violation n)) ≡ row_tree ms P (Violating next) =
    none_found P n (slice_get ms n) (val (Violation n)) (look_on ms P n) nothing ∙ (sym (ap (λ k. look_from P k (drop k ms)) e) ∙ sym h) in
    record {
      shorter = passes_settled val ms P n j next e nothing h;
      reads =
          (λ i. before ++ read_after made (Violation n, nothing i) ∷ map (read_after made) (log_of val (on i)))
          ∙ sym (append_assoc before (finds_none n made ∷ []) (map (read_after made) (log_of val (row_tree ms P (Violating next)))))
          ∙ ap (λ rs. rs ++ map (read_after made) (log_of val (row_tree ms P (Violating next)))) (sym f);
    }

asks_so : (val : Query → Reply) (B : ℕ) (P : Attempt) (t : Asking) → log_of val (coming_to B P t) ≡ log_of val t
asks_so val B P (Leaf m) = refl
asks_so val B P (Node q k) = ap (λ es. (q, val q) ∷ es) (asks_so val B P (k (val q)))

-- So it is in the course of a step.
pub logged_step : (val : Query → Reply) (n B : ℕ) (P : Attempt) (t u : Asking) (before after : List Read) → IsLogged val n t before u after → IsLogged val n (coming_to B P t) before (coming_to B P u) after
logged_step val n B P t u before after l = record {
  shorter = shorter_step val B P t u l.shorter;
  reads =
      ap (λ es. before ++ map (read_after n) es) (asks_so val B P t) ∙ l.reads
      ∙ ap (λ es. after ++ map (read_after n) es) (sym (asks_so val B P u));
}

-- A passage begins with no mapping.
pub passage_begins : {A : Type 0} (val : Query → Reply) (t : Tree Query Reply A) (from made : ℕ) (before : List Read) → IsLogged val made t before t (before ++ passing from (from - from) made)
passage_begins val t from made before =
    let none : from - from ≡ 0 = omega arith in
    subst (λ rs. IsLogged val made t before t rs) (sym (ap (λ k. before ++ passing from k made) none ∙ append-nil before)) (logged_none val made t before)

-- It goes on by one mapping without a violation.
pub passage_goes_on : (val : Query → Reply) (ms : List Rule) (P : Attempt) (from k made : ℕ) (before : List Read) → from ≤ k
    → IsLogged val made (row_tree ms P (Violating from)) before (row_tree ms P (Violating k)) (before ++ passing from (k - from) made)
    → val (Violation k) ≡ Nothing → row_tree ms P (Violating (k + 1)) ≡ look_from P (k + 1) (drop (k + 1) ms)
    → IsLogged val made (row_tree ms P (Violating from)) before (row_tree ms P (Violating (k + 1))) (before ++ passing from (k + 1 - from) made)
passage_goes_on val ms P from k made before h passed nothing next =
    let one : k + 1 - from ≡ suc (k - from) = omega (arith, h) in
    let here : from + (k - from) ≡ k = omega (arith, h) in
    let more : passing from (k + 1 - from) made ≡ passing from (k - from) made ++ finds_none k made ∷ [] =
    ap (λ j. passing from j made) one ∙ passage_on from (k - from) made ∙ ap (λ m. passing from (k - from) made ++ finds_none m made ∷ []) here in
    logged_on val made (row_tree ms P (Violating from)) (row_tree ms P (Violating k)) (row_tree ms P (Violating (k + 1))) before (before ++ passing from (k - from) made) (before ++ passing from (k + 1 - from) made) passed
    (logs_settled val ms P k made (k + 1) (k + 1) (before ++ passing from (k - from) made) (before ++ passing from (k + 1 - from) made) (omega arith) nothing next
    (ap (λ rs. before ++ rs) more ∙ sym (append_assoc before (passing from (k - from) made) (finds_none k made ∷ []))))

-- A passage of one mapping.
pub passage_of_one : (n k made : ℕ) (before : List Read) → k ≡ n + 1 → before ++ passing n (k - n) made ≡ before ++ finds_none n made ∷ []
passage_of_one n k made before e =
    let one : k - n ≡ 1 = omega (arith, e) in
    ap (λ j. before ++ passing n j made) one

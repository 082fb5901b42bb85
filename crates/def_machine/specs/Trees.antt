-- A program that may ask a database questions, as a tree: a node is a question, its branches are the answers, and a leaf is a
-- result.
use Rattle.std.specs.Prelude.{List, [], ◌∷◌, ◌≡◌}
use Rattle.std.specs.List.{AllByRecursion}

-- Either the program is at its end, with a result, or it asks a question and goes on with the answer.
pub data Tree (Q R A : Type 0) : Type 0 where
  Leaf : A → Tree Q R A
  Node : Q → (R → Tree Q R A) → Tree Q R A

-- The result if each question q is answered by `val q`.
abbrev pub result_of : {Q R A : Type 0} → (Q → R) → Tree Q R A → A
result_of val (Leaf a) = a
result_of val (Node q k) = result_of val (k (val q))

-- The log: the questions that are asked then, each with its answer, in order.
abbrev pub log_of : {Q R A : Type 0} → (Q → R) → Tree Q R A → List (Q × R)
log_of val (Leaf a) = []
log_of val (Node q k) = (q, val q) ∷ log_of val (k (val q))

-- One program, then another one that starts from its result.
abbrev pub then_tree : {Q R A B : Type 0} → Tree Q R A → (A → Tree Q R B) → Tree Q R B
then_tree (Leaf a) f = f a
then_tree (Node q k) f = Node q (λ r. then_tree (k r) f)

-- `val` gives each logged question its logged answer.
abbrev pub AreAnswers : {Q R : Type 0} → (Q → R) → List (Q × R) → Type 0
AreAnswers val rs = AllByRecursion (λ r. val r.0 ≡ r.1) rs

-- The log has the program's questions in turn, each with the answer by which it goes on, up to the result b. It does not say who
-- answered, or when: the answers may be from different states of the database.
abbrev pub Leads : {Q R A : Type 0} → List (Q × R) → Tree Q R A → A → Type 0
Leads [] (Leaf a) b = a ≡ b
Leads [] (Node q k) b = ⊥
Leads (e ∷ es) (Leaf a) b = ⊥
Leads (e ∷ es) (Node q k) b = (e.0 ≡ q) × Leads es (k e.1) b

-- A program's result and log depend on the answers in its log alone, and go by its parts.
use Rattle.std.proofs.Common.{◌≡◌, ap, refl, ◌∙◌, ◌∷◌, ◌++◌}
use Rattle.def_machine.specs.Trees.{Tree, Leaf, Node, result_of, log_of, AreAnswers}

-- ---- replay: one who gives the logged answers leads to the same result by the same log

pub replayed : {Q R A : Type 0} (val other : Q → R) (p : Tree Q R A) → AreAnswers other (log_of val p) → result_of other p ≡ result_of val p
replayed val other (Leaf a) h = refl
replayed val other (Node q k) h = ap (λ a. result_of other (k a)) h.0 ∙ replayed val other (k (val q)) h.1

pub replayed_log : {Q R A : Type 0} (val other : Q → R) (p : Tree Q R A) → AreAnswers other (log_of val p) → log_of other p ≡ log_of val p
replayed_log val other (Leaf a) h = refl
replayed_log val other (Node q k) h = ap (λ a. (q, a) ∷ log_of other (k a)) h.0 ∙ ap (λ rs. (q, val q) ∷ rs) (replayed_log val other (k (val q)) h.1)

-- ---- one program after another

-- ---- the same program with its questions put otherwise

-- ---- one more step at the end

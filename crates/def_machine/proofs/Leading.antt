-- What a log leads to: whoever gives its answers leads to its result, and logs join as programs do.
use Rattle.std.proofs.Common.{◌≡◌, ap, refl, sym, ◌∙◌, List, [], ◌∷◌, ◌++◌}
use Rattle.def_machine.specs.Trees.{Tree, Leaf, Node, result_of, log_of, AreAnswers, Leads}
use Rattle.def_machine.specs.TreeLaw.{IsReplay}

module _ {Q R : Type 0} where
  -- the log that val makes leads to its result
  pub leads_made : {A : Type 0} (val : Q → R) (t : Tree Q R A) → Leads (log_of val t) t (result_of val t)
  leads_made val (Leaf a) = refl
  leads_made val (Node q k) = (refl, leads_made val (k (val q)))

  -- a val that agrees with the log makes the same result and the same log
  pub leads_result : {A : Type 0} (val : Q → R) (L : List (Q × R)) (t : Tree Q R A) (b : A) → AreAnswers val L → Leads L t b → result_of val t ≡ b
  leads_result val [] (Leaf a) b v h = h
  leads_result val [] (Node q k) b v h = absurd h
  leads_result val (e ∷ L) (Leaf a) b v h = absurd h
  leads_result val (e ∷ L) (Node q k) b v h = ap (λ r. result_of val (k r)) (ap val (sym h.0) ∙ v.0) ∙ leads_result val L (k e.1) b v.1 h.1

  pub leads_log : {A : Type 0} (val : Q → R) (L : List (Q × R)) (t : Tree Q R A) (b : A) → AreAnswers val L → Leads L t b → log_of val t ≡ L
  leads_log val [] (Leaf a) b v h = refl
  leads_log val [] (Node q k) b v h = absurd h
  leads_log val (e ∷ L) (Leaf a) b v h = absurd h
  leads_log val (e ∷ L) (Node q k) b v h =
      (λ i. (sym h.0 i, (ap val (sym h.0) ∙ v.0) i) ∷ log_of val (k ((ap val (sym h.0) ∙ v.0) i))) ∙ ap (λ es. e ∷ es) (leads_log val L (k e.1) b v.1 h.1)

  pub is_replay : {A : Type 0} (t : Tree Q R A) → IsReplay t
  is_replay t = record {
    made = λ val. leads_made val t;
    result = λ val L b v h. leads_result val L t b v h;
    log = λ val L b v h. leads_log val L t b v h;
  }

-- An attempt whose reads are valid over a repository is the machine's run there, and the reads of a run are valid.
use Rattle.std.proofs.Common.{◌≡◌, ℕ, ap, sym, refl, subst, ◌∙◌, List, ◌++◌, true, map, take, length, append_assoc, append-nil, []}
use Rattle.std.specs.List.{list_all}
use Rattle.std.proofs.lemmas.List.Folds.{list_all-append}
use Rattle.std.proofs.lemmas.Bool.{and_parts, and_from}
use Rattle.std.proofs.Math.Seq.{take-append_seam}
use Rattle.def_machine.specs.Trees.{Tree, Leaf, Node, log_of, AreAnswers}
use Rattle.def_machine.specs.Machine.{Machine, Laws}
use Rattle.def_machine.specs.Updates.{Read}
use Rattle.def_machine.specs.Reads.{is_valid}
use Rattle.def_machine.specs.Steps.{val, next_step, next_move, next_state, step_log}
use Rattle.def_machine.specs.Runs.{Reached, start, more}
use Rattle.def_machine.specs.Replay.{ReplayLaw, PlanLaw}
use Rattle.def_machine.proofs.TreeLaws.{replayed, replayed_log}

-- the reads that a step's queries log
abbrev pub logged : (M : Machine) → M.Operation → M.Repository → M.State → Tree M.Query M.Reply M.Move → List (Read M)
logged M op D P t = map (λ r. record { query = r.0; answer = r.1; own = length (M.own P) }) (log_of (val M op D P) t)

module _ (M : Machine) (L : Laws M) where
  logged_valid : (op : M.Operation) (D : M.Repository) (P : M.State) (own : List M.Write) → take (length (M.own P)) own ≡ M.own P → (t : Tree M.Query M.Reply M.Move) → list_all (is_valid M op D own) (logged M op D P t) ≡ true
  logged_valid op D P own h (Leaf a) = refl
  logged_valid op D P own h (Node q k) =
      and_from _ _
      (ap (λ ws. M.same (M.value op q D (M.own P)) (M.value op q D ws)) h ∙ L.same_self (M.value op q D (M.own P)))
      (logged_valid op D P own h (k (val M op D P q)))

  logged_answers : (op : M.Operation) (D E : M.Repository) (P : M.State) (own : List M.Write) → take (length (M.own P)) own ≡ M.own P → (t : Tree M.Query M.Reply M.Move) → list_all (is_valid M op E own) (logged M op D P t) ≡ true → AreAnswers (val M op E P) (log_of (val M op D P) t)
  logged_answers op D E P own h (Leaf a) v = tt
  logged_answers op D E P own h (Node q k) v =
      let parts = and_parts _ _ v in
      (sym (L.same_is _ _ parts.0 ∙ ap (λ ws. M.value op q E ws) h), logged_answers op D E P own h (k (val M op D P q)) parts.1)

  -- own writes before and after a step
  own_after : (P : M.State) (m : M.Move) (rest own : List M.Write) → own ≡ M.own (M.moved P m) ++ rest → own ≡ M.own P ++ (M.writes m ++ rest)
  own_after P m rest own h = h ∙ ap (λ ws. ws ++ rest) (L.moved_own P m) ∙ append_assoc (M.own P) (M.writes m) rest

  own_before : (P : M.State) (rest own : List M.Write) → own ≡ M.own P ++ rest → take (length (M.own P)) own ≡ M.own P
  own_before P rest own h = ap (λ ws. take (length (M.own P)) ws) h ∙ take-append_seam (M.own P) rest

  -- also where the attempt went on since: own are the writes up to now
  pub reads_valid : {D : M.Repository} {answers : List M.Choice} {n a : ℕ} {op : M.Operation} {P : M.State} {log : List (Read M)} → (rest own : List M.Write) → own ≡ M.own P ++ rest → Reached M D answers n a op P log → list_all (is_valid M op D own) log ≡ true
  reads_valid rest own h start = refl
  reads_valid {D} {answers} {op} rest own h (more {P} {log} r going able) =
      let m : M.Move = next_move M op D answers P in
      let g : own ≡ M.own P ++ (M.writes m ++ rest) = own_after P m rest own h in
      list_all-append (is_valid M op D own) log (step_log M op D answers P)
      ∙ and_from _ _ (reads_valid (M.writes m ++ rest) own g r) (logged_valid op D P own (own_before P (M.writes m ++ rest) own g) (next_step M answers P))

  pub replay : {D : M.Repository} {answers : List M.Choice} {n a : ℕ} {op : M.Operation} {P : M.State} {log : List (Read M)} → (E : M.Repository) (rest own : List M.Write) → own ≡ M.own P ++ rest → Reached M D answers n a op P log → list_all (is_valid M op E own) log ≡ true → Reached M E answers n a op P log
  replay E rest own h start v = start
  replay {D} {answers} {n} {a} {op} E rest own h (more {P} {log} r going able) v =
      let m : M.Move = next_move M op D answers P in
      let g : own ≡ M.own P ++ (M.writes m ++ rest) = own_after P m rest own h in
      let parts = and_parts _ _ (sym (list_all-append (is_valid M op E own) log (step_log M op D answers P)) ∙ v) in
      let same : AreAnswers (val M op E P) (log_of (val M op D P) (next_step M answers P)) = logged_answers op D E P own (own_before P (M.writes m ++ rest) own g) (next_step M answers P) parts.1 in
      let again : Reached M E answers n a op (next_state M op E answers P) (log ++ step_log M op E answers P) = more (replay E (M.writes m ++ rest) own g r parts.0) going able in
      subst (λ (l : List (M.Query × M.Reply)). Reached M E answers n a op (next_state M op D answers P) (log ++ map (λ r. record { query = r.0; answer = r.1; own = length (M.own P) }) l))
      (replayed_log (val M op D P) (val M op E P) (next_step M answers P) same)
      (subst (λ x. Reached M E answers n a op (M.moved P x) (log ++ step_log M op E answers P)) (replayed (val M op D P) (val M op E P) (next_step M answers P) same) again)

  pub replay_law : ReplayLaw M
  replay_law D answers n a op P log r = record {
    valid = reads_valid [] (M.own P) (sym (append-nil (M.own P))) r;
    elsewhere = λ E v. replay E [] (M.own P) (sym (append-nil (M.own P))) r v;
  }

  pub plan_law : PlanLaw M
  plan_law op D E answers P v =
      let own : take (length (M.own P)) (M.own P) ≡ M.own P = own_before P [] (M.own P) (sym (append-nil (M.own P))) in
      let same : AreAnswers (val M op E P) (log_of (val M op D P) (next_step M answers P)) = logged_answers op D E P (M.own P) own (next_step M answers P) v in (
        replayed (val M op D P) (val M op E P) (next_step M answers P) same,
        ap (λ (l : List (M.Query × M.Reply)). map (λ r. record { query = r.0; answer = r.1; own = length (M.own P) }) l) (replayed_log (val M op D P) (val M op E P) (next_step M answers P) same),
      )

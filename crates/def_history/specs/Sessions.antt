-- Admissible sessions: timely ones, those with one more timely update, and the sessions of the worked histories.
use Rattle.std.specs.Prelude.{◌≡◌, ℕ, suc, ◌≤◌, true, List, [], ◌∷◌, length}
use Rattle.std.specs.List.{list_all}
use Rattle.def_machine.specs.Updates.{Submission, Session}
use Rattle.def_machine.specs.Recorded.{with_more}
use Rattle.def_chase.specs.Values.{Fact}
use Rattle.def_chase.specs.Repository.{IsRepository}
use Rattle.def_chase.specs.Mappings.{Rule, AllHold}
use Rattle.def_chase.specs.Laws.{are_by, HaveNoNulls}
use Rattle.def_steps.specs.Chase.{caused_chase}
use Rattle.def_steps.specs.Serial.{Request}
use Rattle.def_steps.specs.Shifting.{IsBase}
use Rattle.def_steps.specs.Timely.{repairs_plainly, acts_in_time, ActInTime}
use Rattle.def_steps.specs.Rows.{copying, one_in}
use Rattle.def_steps.specs.SessionRows.{insert_delete, taking, taken_null, added_copying, added_mapping}
use Rattle.def_history.specs.Histories.{session_of}
use Rattle.def_history.specs.Admissible.{is_plain, IsAdmissible, requests}
use Rattle.def_history.specs.CascadeRows.{joining, four_updates, joining_twice, four_insertions}

-- Conditions under which a session is admissible, and the requests of a session.
pub record SessionsAreAdmissible : Type 0 where
  -- the updates of the session act in time
  pub timely : (ms : List Rule) (B : ℕ) (D : List Fact) (rs : List Request) → 1 ≤ B → IsRepository D → AllHold ms D → list_all is_plain D ≡ true → IsBase D → list_all (are_by (λ u. 0)) D ≡ true → HaveNoNulls ms
      → repairs_plainly ms ≡ true → ActInTime ms 1 rs → IsAdmissible ms B (session_of ms B D rs [])
  -- an admissible session stays so if one more update that acts in time is handed in
  pub grows : (ms : List Rule) (B : ℕ) (S : Session (caused_chase ms B)) (x : Submission (caused_chase ms B)) → IsAdmissible ms B S → acts_in_time ms (suc (length S.submissions)) x.operation ≡ true
      → IsAdmissible ms B (with_more S (x ∷ []))
  -- the session has the requests that it was made from
  pub same : (ms : List Rule) (B : ℕ) (D : List Fact) (rs : List Request) → requests ms B (session_of ms B D rs []) ≡ rs
  -- the sessions of the worked histories are admissible
  pub conflict : IsAdmissible copying 100 (session_of copying 100 [] insert_delete [])
  pub taken : IsAdmissible taking 100 (session_of taking 100 [] taken_null [])
  pub added : IsAdmissible added_copying 100 (session_of added_copying 100 (one_in 0 ∷ []) added_mapping [])
  pub cascade : IsAdmissible joining 100 (session_of joining 100 [] four_updates [])
  pub two_levels : IsAdmissible joining_twice 100 (session_of joining_twice 100 [] four_insertions [])

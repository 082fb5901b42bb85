-- The sessions of the chase that the laws are about. Their submissions include the updates handed in later.
use Rattle.std.specs.Prelude.{◌≡◌, ℕ, suc, ◌≤◌, ◌==◌, Bool, true, not, List, map, Some, slice_get}
use Rattle.std.specs.List.{list_all}
use Rattle.def_machine.specs.Machine.{Machine}
use Rattle.def_machine.specs.Updates.{Submission, Session}
use Rattle.def_chase.specs.Values.{Fact}
use Rattle.def_chase.specs.Repository.{IsRepository}
use Rattle.def_chase.specs.Mappings.{Rule, force_relation, AllHold}
use Rattle.def_chase.specs.Laws.{are_by, HaveNoNulls}
use Rattle.def_steps.specs.Chase.{caused_chase}
use Rattle.def_steps.specs.Serial.{Request}
use Rattle.def_steps.specs.Shifting.{IsBase}
use Rattle.def_steps.specs.Timely.{repairs_plainly, acts_in_time}

-- The tuple is of a relation that a session can spell, so it puts no mapping in force.
abbrev pub is_plain : Fact → Bool
is_plain t = not (t.relation == force_relation)

module _ (ms : List Rule) (B : ℕ) where
  -- The machine of the chase with these mappings and this budget, whose attempts look at the violations that they caused.
  abbrev M : Machine
  M = caused_chase ms B

  -- The session's mappings, budget of steps, base and updates are such as a session can spell.
  pub record IsAdmissible (S : Session M) : Type 0 where
    -- an attempt may make a step
    pub some_step : 1 ≤ B
    -- the base is a repository in which the mappings in force hold, and it puts none in force
    pub in_order : IsRepository S.base
    pub hold : AllHold ms S.base
    pub plain : list_all is_plain S.base ≡ true
    -- its nulls are of update 0 and attempt 0
    pub base : IsBase S.base
    pub first : list_all (are_by (λ u. 0)) S.base ≡ true
    -- no mapping has a null among its constants, and none repairs by putting a mapping in force
    pub constants : HaveNoNulls ms
    pub repairs : repairs_plainly ms ≡ true
    -- no update inserts a tuple that puts a mapping in force, or adds a mapping whose `since` is above its own number
    pub timely : (k : ℕ) (x : Submission M) → slice_get S.submissions k ≡ Some x → acts_in_time ms (suc k) x.operation ≡ true

  -- The updates of the session as the serial machine has them.
  abbrev pub requests : Session M → List Request
  requests S = map (λ (x : Submission M). record { operation = x.operation; answers = x.answers }) S.submissions

-- The walks upwards that evaluate only reads that mention one of the written relations.
use Rattle.std.specs.Prelude.{◌≡◌, ◌==◌, ◌++◌, ℕ, suc, Bool, true, not, ◌&&◌, ◌||◌, if◌then◌else◌, List, [], ◌∷◌, map, flat_map, Option, None, option_map, option_to_list, is_some}
use Rattle.std.specs.List.{list_any}
use Rattle.def_machine.specs.Cascade.{Cause, Conflict, Depends, Member, has_number, is_live, reads_of, with_member, without_member, writer_for}
use Rattle.def_machine.specs.Machine.{Machine}
use Rattle.def_machine.specs.Reads.{Changed, all_valid, first_that, is_valid, value_now}
use Rattle.def_machine.specs.Updates.{Deps, Precise, Coarse, Read, Update, trail}
use Rattle.def_chase.specs.Mappings.{Rule}
use Rattle.def_chase.specs.Repository.{Change}
use Rattle.def_chase.specs.Updates.{Operation}
use Rattle.def_chase.specs.Values.{Fact}
use Rattle.def_steps.specs.Chase.{caused_chase, relation_of}
use Rattle.audit_replay.specs.Changes.{meets}

-- The relation is not among these.
abbrev pub is_none_of : List ℕ → ℕ → Bool
is_none_of relations r = not (list_any (λ k. k == r) relations)

-- All reads of the updates that pass the test are valid. W lies below the first update, which has number n.
abbrev pub AreValidThat : (M : Machine) → (ℕ → Update M → Bool) → ℕ → M.Repository → List (Update M) → Type 0
AreValidThat M p n W [] = Unit {0}
AreValidThat M p n W (u ∷ us) = (p n u ≡ true → all_valid M W u ≡ true) × AreValidThat M p (suc n) (M.apply W (trail M u)) us

-- All reads of all updates are valid.
abbrev pub AreValid : (M : Machine) → ℕ → M.Repository → List (Update M) → Type 0
AreValid M n W us = AreValidThat M (λ i u. true) n W us

-- The update is live, and not among these numbers.
abbrev pub is_open : (M : Machine) → ℕ → List ℕ → ℕ → Update M → Bool
is_open M c firsts n u = is_live M c n u && not (has_number firsts n)

module _ (ms : List Rule) (B : ℕ) where
  abbrev M : Machine
  M = caused_chase ms B

  -- The first logged read of the update that mentions one of the relations and is not valid over D, which lies below the update.
  abbrev pub met_change : List ℕ → List Fact → Update M → Option (Changed M)
  met_change relations D u =
      option_map (λ t. record { read = t.0; old = t.1.answer; new = value_now M u.operation D (M.own u.state) t.1 })
      (first_that (λ r. meets ms relations r.query && not (is_valid M u.operation D (M.own u.state) r)) u.log)

  -- This read of update n, if the update is live, as a conflict with update j.
  abbrev pub met_conflict : ℕ → ℕ → List ℕ → List Fact → ℕ → Update M → Option (Cause M)
  met_conflict c j relations D n u =
      if is_live M c n u then option_map (λ x. Conflict n x.read j x.old x.new) (met_change relations D u) else None

  -- The conflicts of the updates in order; the first is update n.
  abbrev pub met_conflicts : ℕ → ℕ → List ℕ → List Fact → ℕ → List (Update M) → List (Cause M)
  met_conflicts c j relations D n [] = []
  met_conflicts c j relations D n (u ∷ us) = option_to_list (met_conflict c j relations D n u) ++ met_conflicts c j relations (M.apply D (trail M u)) (suc n) us

  -- One of the members wrote a relation that the read mentions.
  abbrev pub is_reached : List (Member M) → Read M → Bool
  is_reached members r = list_any (λ m. reads_of M r m.trail) members

  -- If dependence is tested by values, the read depends on a member only if it has another value.
  abbrev pub has_turned : Deps → Operation → List Fact → List Change → Read M → Bool
  has_turned Precise op D own r = not (is_valid M op D own r)
  has_turned Coarse op D own r = true

  -- The dependence of update n on these members, if the update is live: by its first read that mentions what one of them wrote
  -- and depends on it.
  abbrev pub met_dependence : Deps → ℕ → List Fact → List (Member M) → ℕ → Update M → Option (Cause M)
  met_dependence deps c D members n u =
      if is_live M c n u then option_map (λ t. Depends n t.0 (writer_for M t.1 members)) (first_that (λ r. is_reached members r && has_turned deps u.operation D (M.own u.state) r) u.log) else None

  -- The dependence of update n, if it is not among the first members.
  abbrev pub met_join : Deps → ℕ → List ℕ → List Fact → List (Member M) → ℕ → Update M → Option (Cause M)
  met_join deps c firsts D members n u = if has_number firsts n then None else met_dependence deps c D members n u

  -- The dependences of the updates in order; an update with a dependence joins the members.
  abbrev pub met_cascade : Deps → ℕ → List ℕ → List Fact → List (Member M) → ℕ → List (Update M) → List (Cause M)
  met_cascade deps c firsts D members n [] = []
  met_cascade deps c firsts D members n (u ∷ us) =
      let joins = met_join deps c firsts D members n u in
      let b = has_number firsts n || is_some joins in
      option_to_list joins ++ met_cascade deps c firsts (without_member M b D u) (with_member M b members n u) (suc n) us

  -- The relations of the trails of members.
  abbrev pub relations_in : List (Member M) → List ℕ
  relations_in members = flat_map (λ m. map relation_of m.trail) members

-- Conflicts and cascade in one walk upwards: the cause of restart, if any, of each update above the one that the event acts on.
use Rattle.std.specs.Prelude.{ℕ, suc, Bool, if◌then◌else◌, List, [], ◌∷◌, Option, Some, None, is_some}
use Rattle.def_machine.specs.Machine.{Machine}
use Rattle.def_machine.specs.Updates.{Update, Deps, trail}
use Rattle.def_machine.specs.Cascade.{Cause, Conflict, Depends, Member, conflict_of, dependence_of, with_member, without_member, begun_again}

-- The first, if it is there, or else the second.
abbrev pub or_else : {A : Type 0} → Option A → Option A → Option A
or_else None b = b
or_else (Some a) b = Some a

-- The cause of restart of update n, if there is one: a conflict, if conflicts are looked for, or else a dependence. `whole` is
-- the repository below it with all trails, `without` is the one without the members' trails.
abbrev pub cause_of : (M : Machine) → Deps → Bool → ℕ → ℕ → M.Repository → M.Repository → List (Member M) → ℕ → Update M
    → Option (Cause M)
cause_of M deps conflicting c j whole without members n u =
    or_else (if conflicting then conflict_of M c j whole n u else None) (dependence_of M deps c without members n u)

-- The causes of restart of the updates, taken upwards; the first of the list is update n.
abbrev pub settle : (M : Machine) → Deps → Bool → ℕ → ℕ → M.Repository → M.Repository → List (Member M) → ℕ
    → List (Update M) → List (Option (Cause M))
settle M deps conflicting c j whole without members n [] = []
settle M deps conflicting c j whole without members n (u ∷ us) =
    let x = cause_of M deps conflicting c j whole without members n u in
    x ∷ settle M deps conflicting c j (M.apply whole (trail M u)) (without_member M (is_some x) without u) (with_member M (is_some x) members n u) (suc n) us

-- The updates, with those that have a cause restarted; the first is update n.
abbrev pub restart : (M : Machine) → ℕ → List (Option (Cause M)) → List (Update M) → List (Update M)
restart M n xs [] = []
restart M n [] (u ∷ us) = u ∷ us
restart M n (x ∷ xs) (u ∷ us) = (if is_some x then begun_again M n u else u) ∷ restart M (suc n) xs us

-- The causes, with this one first if it is a conflict.
abbrev pub if_conflict : {M : Machine} → Cause M → List (Cause M) → List (Cause M)
if_conflict (Conflict i read j old new) cs = Conflict i read j old new ∷ cs
if_conflict (Depends i read on) cs = cs

-- The causes, with this one first if it is a dependence.
abbrev pub if_dependence : {M : Machine} → Cause M → List (Cause M) → List (Cause M)
if_dependence (Conflict i read j old new) cs = cs
if_dependence (Depends i read on) cs = Depends i read on ∷ cs

-- The conflicts among the causes.
abbrev pub conflicts_in : {M : Machine} → List (Option (Cause M)) → List (Cause M)
conflicts_in [] = []
conflicts_in (None ∷ xs) = conflicts_in xs
conflicts_in (Some x ∷ xs) = if_conflict x (conflicts_in xs)

-- The dependences among the causes.
abbrev pub dependences_in : {M : Machine} → List (Option (Cause M)) → List (Cause M)
dependences_in [] = []
dependences_in (None ∷ xs) = dependences_in xs
dependences_in (Some x ∷ xs) = if_dependence x (dependences_in xs)

-- The state of each update, and the writes that other updates see: trail, below and view.
use Rattle.std.specs.Prelude.{ℕ, suc, Bool, true, false, ◌||◌, if◌then◌else◌, List, [], ◌∷◌, take, Option, Some, None, is_some}
use Rattle.std.specs.List.{flat_map}
use Rattle.def_machine.specs.Machine.{Machine, Outcome, Done, Spent, Refused}

-- A logged read: the query, its answer, and the number of writes that the attempt had made when it asked.
pub record Read (M : Machine) : Type 0 where
  pub query : M.Query
  pub answer : M.Reply
  pub own : ℕ

-- An update with its present attempt. Its number is its place in the list of updates, from 1.
pub record Update (M : Machine) : Type 0 where
  pub operation : M.Operation
  pub attempt : ℕ
  pub state : M.State
  -- the reads of the present attempt, in order
  pub log : List (Read M)
  pub withdrawn : Bool
  -- the delivered answers, and the recorded ones that are not delivered yet
  pub answers : List M.Choice
  pub inbox : List M.Choice

-- An update as it is handed in, with the answers recorded for it.
pub record Submission (M : Machine) : Type 0 where
  pub operation : M.Operation
  pub answers : List M.Choice

-- The session of a history: the repository at its beginning, and all updates in number order, also those handed in later.
pub record Session (M : Machine) : Type 0 where
  pub base : M.Repository
  pub submissions : List (Submission M)

-- How the dependence on an update that lost its writes is tested: by the values of reads, or by the relations that they mention.
pub data Deps : Type 0 where
  Precise : Deps
  Coarse : Deps

-- The settings: after `retries` retries an update waits for all lower ones; and the kind of dependence.
pub record Settings : Type 0 where
  pub retries : ℕ
  pub deps : Deps

-- The attempt hides its writes: it ended spent or refused.
abbrev pub hides : Option Outcome → Bool
hides None = false
hides (Some Done) = false
hides (Some Spent) = true
hides (Some Refused) = true

-- The writes that an attempt shows.
abbrev pub shown : (M : Machine) → M.State → List M.Write
shown M P = if hides (M.outcome P) then [] else M.own P

-- The writes that an update shows to those above it.
abbrev pub trail : (M : Machine) → Update M → List M.Write
trail M u = if u.withdrawn then [] else shown M u.state

-- The repository below update k + 1: the base with the trails of the first k updates.
abbrev pub below : (M : Machine) → M.Repository → List (Update M) → ℕ → M.Repository
below M D us k = M.apply D (flat_map (trail M) (take k us))

-- The view of update k + 1: the repository below it, with its own trail.
abbrev pub view : (M : Machine) → M.Repository → List (Update M) → ℕ → M.Repository
view M D us k = below M D us (suc k)

-- The update is over: it was withdrawn, or its attempt has ended.
abbrev pub is_over : (M : Machine) → Update M → Bool
is_over M u = u.withdrawn || is_some (M.outcome u.state)

-- The number of committed updates: the length of the longest prefix of updates that are over.
abbrev pub committed : (M : Machine) → List (Update M) → ℕ
committed M [] = 0
committed M (u ∷ us) = if is_over M u then suc (committed M us) else 0

-- Small histories, worked by hand: which entry makes a step stale that has read relation 0.
use Rattle.std.specs.Prelude.{◌≡◌, ℕ, List, [], ◌∷◌, ◌++◌, Option, Some, None}
use Rattle.def_machine.specs.Machine.{Spent}
use Rattle.def_machine.specs.Standings.{Standing, Ready, Ended}
use Rattle.def_chase.specs.Values.{Fact}
use Rattle.def_chase.specs.Repository.{Change, Insert, Delete}
use Rattle.def_chase.specs.Queries.{Present, No}
use Rattle.chase_query.specs.Meanings.{Read}
use Rattle.def_history.specs.PlainEntries.{PlainCause, Dependent, PlainEntry, WasAdmitted, WasStepped, WasWithdrawn}
use Rattle.work_stale.specs.Stale.{stale_by}

-- A tuple of the relation, and a read of whether it is there.
abbrev pub tuple : ℕ → Fact
tuple r = record { relation = r; values = [] }

abbrev pub asks_for : ℕ → Read
asks_for r = record { query = Present (tuple r); reply = No; own = 0 }

-- Three updates are admitted.
abbrev pub three : List PlainEntry
three = WasAdmitted 1 ∷ WasAdmitted 2 ∷ WasAdmitted 3 ∷ []

-- The cause by which update i restarts; a step of update i, with its standing after it, its writes and the causes of its
-- restarts.
abbrev pub dependence : ℕ → PlainCause
dependence i = Dependent (record { reader = i; read = 1; on = 1 })

abbrev pub a_step : ℕ → Standing → List Change → List PlainCause → PlainEntry
a_step i s ws cs = WasStepped (record { update = i; attempt = 0; standing = s; writes = ws; causes = cs; committed = 0 })

-- A step of update i that adds a tuple to relation r.
abbrev pub adds : ℕ → ℕ → PlainEntry
adds i r = a_step i Ready (Insert (tuple r) ∷ []) []

-- A step of update i that deletes a tuple of relation 2, and restarts update j.
abbrev pub restarts : ℕ → ℕ → PlainEntry
restarts i j = a_step i Ready (Delete (tuple 2) ∷ []) (dependence j ∷ [])

-- A step of update i that ends its attempt spent.
abbrev pub is_spent : ℕ → PlainEntry
is_spent i = a_step i (Ended Spent) [] []

-- Update i is withdrawn.
abbrev pub withdrawal : ℕ → PlainEntry
withdrawal i = WasWithdrawn (record { update = i; causes = []; committed = 0 })

-- The first entry, after the first `since`, that makes a step of update i stale that has read relation 0.
abbrev pub first_for : ℕ → List PlainEntry → ℕ → Option ℕ
first_for i H since = stale_by [] i (asks_for 0 ∷ []) H since

pub record Rows : Type 0 where
  -- a lower update adds to the relation
  pub lower : first_for 3 (three ++ adds 1 1 ∷ adds 2 0 ∷ []) 3 ≡ Some 5
  -- the entry that adds to the relation came before the step was planned
  pub before : first_for 3 (three ++ adds 2 0 ∷ adds 2 1 ∷ []) 4 ≡ None
  -- the writes of the update itself and of those above it do not make it stale
  pub upper : first_for 2 (three ++ adds 2 0 ∷ adds 3 0 ∷ []) 3 ≡ None
  -- a lower update that had added to it is restarted, or ends spent, or is withdrawn
  pub restarted : first_for 3 (three ++ adds 2 0 ∷ restarts 1 2 ∷ []) 4 ≡ Some 5
  pub spent : first_for 3 (three ++ adds 2 0 ∷ is_spent 2 ∷ []) 4 ≡ Some 5
  pub withdrawn : first_for 3 (three ++ adds 2 0 ∷ adds 2 1 ∷ withdrawal 2 ∷ []) 4 ≡ Some 6
  -- a lower update is restarted that had added only to another relation
  pub elsewhere : first_for 3 (three ++ adds 2 1 ∷ restarts 1 2 ∷ []) 4 ≡ None
  -- a lower update is restarted again, and has shown nothing since its last restart
  pub again : first_for 3 (three ++ adds 2 0 ∷ restarts 1 2 ∷ restarts 1 2 ∷ []) 5 ≡ None
  -- the update itself is restarted
  pub itself : first_for 3 (three ++ adds 1 1 ∷ restarts 1 3 ∷ []) 4 ≡ Some 5
  -- the history has fewer entries than `since`
  pub past : first_for 3 (three ++ adds 1 0 ∷ []) 9 ≡ None

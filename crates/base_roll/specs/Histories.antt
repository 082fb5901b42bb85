-- Histories: any list of appends on one disk, with any faults. After a fault the records are read again. The type of records, and
-- which bytes have which records, are parameters.
use Rattle.std.specs.Prelude.{◌≡◌, ℕ, ◌<◌, ◌⊎◌, List, [], ◌∷◌, ◌++◌}
use Rattle.base_devices.specs.States.{State, GoesOn, LeavesOnly, IsLeft, IsSettled}

-- the bytes have these records, or these and one more
abbrev pub IsBeforeOrAfter : {R : Type 0} → (List R → List ℕ → Type 0) → List R → R → List ℕ → Type 0
IsBeforeOrAfter has records more bytes = has records bytes ⊎ has (records ++ more ∷ []) bytes

-- The effect of an append on its disk, acknowledged or not: a crash at any moment of it leaves the records with or without the
-- new one.
pub record IsAppending {R : Type 0} (has : List R → List ℕ → Type 0) (records : List R) (more : R) (old new : State) : Type 0 where
  pub goes : GoesOn old new
  pub images : LeavesOnly old new (IsBeforeOrAfter has records more)

-- The effect of reading on its disk, whatever the answer: a crash at any moment of it leaves bytes that a crash before it might
-- have left.
pub record IsReading (old new : State) : Type 0 where
  pub goes : GoesOn old new
  pub images : LeavesOnly old new (IsLeft old)
  pub same : new.bytes ≡ old.bytes
  pub read : IsLeft new new.bytes

-- A turn, with the disk after it: a record is acknowledged; a record is not, because of a fault; the records are read again; or
-- that reading fails.
pub data Turn (R D : Type 0) : Type 0 where
  Acknowledged : R → D → Turn R D
  Broken : R → D → Turn R D
  Opened : D → Turn R D
  NotOpened : D → Turn R D

-- The knowledge of a history: all records are in hand, or all before one that may be there or not.
pub data Knowledge (R : Type 0) : Type 0 where
  InHand : List R → Knowledge R
  InDoubt : List R → R → Knowledge R

-- the records are on the disk, and nothing is pending
abbrev pub IsAtRest : {R : Type 0} → (List R → List ℕ → Type 0) → State → List R → Type 0
IsAtRest has disk records = has records disk.bytes × IsSettled disk

-- The turns come one after the other, from a disk on. A record is appended only if the others are in hand; after a fault they are
-- read again first.
abbrev pub IsHistory : {R D : Type 0} → (List R → List ℕ → Type 0) → (D → State) → D → Knowledge R → List (Turn R D) → Type 0
IsHistory has state d known [] = Unit {0}
IsHistory has state d (InHand records) (Acknowledged more next ∷ turns) =
    IsAppending has records more (state d) (state next) × IsAtRest has (state next) (records ++ more ∷ []) × IsHistory has state next (InHand (records ++ more ∷ [])) turns
IsHistory has state d (InHand records) (Broken more next ∷ turns) =
    IsAppending has records more (state d) (state next) × IsLeft (state next) (state next).bytes × IsHistory has state next (InDoubt records more) turns
IsHistory has state d (InHand records) (Opened next ∷ turns) =
    IsReading (state d) (state next) × IsSettled (state next) × IsHistory has state next (InHand records) turns
IsHistory has state d (InHand records) (NotOpened next ∷ turns) = ⊥
IsHistory has state d (InDoubt records more) (Acknowledged other next ∷ turns) = ⊥
IsHistory has state d (InDoubt records more) (Broken other next ∷ turns) = ⊥
IsHistory has state d (InDoubt records more) (Opened next ∷ turns) =
    (found : List _) × IsReading (state d) (state next) × IsAtRest has (state next) found × IsHistory has state next (InHand found) turns
IsHistory has state d (InDoubt records more) (NotOpened next ∷ turns) =
    IsReading (state d) (state next) × IsHistory has state next (InDoubt records more) turns

abbrev pub disk_after : {R D : Type 0} → Turn R D → D
disk_after (Acknowledged more d) = d
disk_after (Broken more d) = d
disk_after (Opened d) = d
disk_after (NotOpened d) = d

-- the disk after the last turn
abbrev pub last_disk : {R D : Type 0} → D → List (Turn R D) → D
last_disk d [] = d
last_disk d (turn ∷ turns) = last_disk (disk_after turn) turns

-- The records of these turns that a crash at moment k may leave, in their order: all that were acknowledged by then, any of those
-- that broke, and none or the first of those whose turn is not over by then.
abbrev pub Keeps : {R D : Type 0} → ℕ → (D → State) → List (Turn R D) → List R → Type 0
Keeps k state [] kept = kept ≡ []
Keeps k state (Acknowledged one d ∷ turns) kept =
    ((kept ≡ []) × (k < (state d).now)) ⊎ ((more : List _) × (kept ≡ one ∷ more) × Keeps k state turns more)
Keeps k state (Broken one d ∷ turns) kept =
    Keeps k state turns kept ⊎ ((more : List _) × (kept ≡ one ∷ more) × Keeps k state turns more)
Keeps k state (Opened d ∷ turns) kept = Keeps k state turns kept
Keeps k state (NotOpened d ∷ turns) kept = Keeps k state turns kept

-- The bytes, left by a crash at moment k, have these records, and after them those that are kept of the turns.
pub record IsKept {R D : Type 0} (has : List R → List ℕ → Type 0) (k : ℕ) (state : D → State) (records : List R) (turns : List (Turn R D)) (bytes : List ℕ) : Type 0 where
  pub later : List R
  pub has_them : has (records ++ later) bytes
  pub kept : Keeps k state turns later

-- Records in a file over the lives of many processes: each opens the bytes that the one before it left, and is ended at some
-- moment.
use Rattle.std.specs.Prelude.{◌≡◌, ℕ, ◌≤◌, List, [], ◌∷◌, ◌++◌}
use Rattle.base_devices.specs.States.{State, IsSettled}
use Rattle.base_roll.specs.Histories.{Turn, InHand, IsHistory, Keeps, last_disk}

-- The life of a process. `before` are the bytes of the file before its disk, and `ahead` the records in them. Then come the disk
-- that it opened, its turns, the moment at which it was ended, and the bytes left on the disk.
pub record Life (R D : Type 0) : Type 0 where
  pub before : List ℕ
  pub ahead : List R
  pub start : D
  pub turns : List (Turn R D)
  pub moment : ℕ
  pub left : List ℕ

-- the bytes of its disk have these records, after those that stand before the disk
abbrev pub HasAfter : {R D : Type 0} → (List R → List ℕ → Type 0) → Life R D → List R → List ℕ → Type 0
HasAfter has life records bytes = has (life.ahead ++ records) (life.before ++ bytes)

-- The life of a process that found these bytes: nothing is pending when it has opened them, it appends after the records that it
-- found, and the bytes left are those that a crash at its last moment may leave.
pub record IsLife {R D : Type 0} (has : List R → List ℕ → Type 0) (state : D → State) (found : List ℕ) (life : Life R D) : Type 0 where
  pub opened : life.before ++ (state life.start).bytes ≡ found
  pub ahead : (records : List R) → has records found → (others : List R) × (records ≡ life.ahead ++ others)
  pub settled : IsSettled (state life.start)
  pub history : (records : List R) → has (life.ahead ++ records) found → IsHistory (HasAfter has life) state life.start (InHand records) life.turns
  pub first : (state life.start).now ≤ life.moment
  pub last : life.moment ≤ (state (last_disk life.start life.turns)).now
  pub image : (state (last_disk life.start life.turns)).image life.moment life.left

-- the lives lead from the bytes that the first finds to those that the last leaves
abbrev pub AreLives : {R D : Type 0} → (List R → List ℕ → Type 0) → (D → State) → List ℕ → List (Life R D) → List ℕ → Type 0
AreLives has state found [] left = left ≡ found
AreLives has state found (life ∷ lives) left = IsLife has state found life × AreLives has state (life.before ++ life.left) lives left

-- The kept records are, life by life, those that are kept of its turns at its last moment.
abbrev pub KeepsAll : {R D : Type 0} → (D → State) → List (Life R D) → List R → Type 0
KeepsAll state [] kept = kept ≡ []
KeepsAll state (life ∷ lives) kept =
    (own : List _) × (later : List _) × (kept ≡ own ++ later) × Keeps life.moment state life.turns own × KeepsAll state lives later

-- the bytes have these records, and after them those that are kept of the lives
pub record AreKept {R D : Type 0} (has : List R → List ℕ → Type 0) (state : D → State) (records : List R) (lives : List (Life R D)) (left : List ℕ) : Type 0 where
  pub later : List R
  pub has_them : has (records ++ later) left
  pub kept : KeepsAll state lives later

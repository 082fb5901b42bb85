-- Which tuples concern which queries, and which writes meet which reads, row by row. The attempt inserted A(1, 2), and the one
-- mapping is A(x, y), B(y, z) -> C(x, z).
use Rattle.std.specs.Prelude.{◌≡◌, ℕ, Bool, true, false, List, [], ◌∷◌, pos}
use Rattle.def_chase.specs.Values.{Number, Fact}
use Rattle.def_chase.specs.Repository.{Change, Insert, Delete}
use Rattle.def_chase.specs.Mappings.{Var, Pattern, Rule, force}
use Rattle.def_chase.specs.Queries.{Present, Violation, Image, Nothing}
use Rattle.def_chase.specs.Violations.{Forward, Backward}
use Rattle.chase_query.specs.Meanings.{Read}
use Rattle.core_conflict.specs.Concerns.{concerns, meets, is_met}
use Rattle.core_conflict.specs.declared.concerns.Sense.{Sense}
use Rattle.core_conflict.specs.declared.concerns.Sense.TheVariants.{Came, Went}

-- The tuple of relation r with these two numbers.
abbrev pub pair : ℕ → ℕ → ℕ → Fact
pair r i j = record { relation = r; values = Number (pos i) ∷ Number (pos j) ∷ [] }

-- The atom of relation r with these two variables.
abbrev pub atom : ℕ → ℕ → ℕ → Pattern
atom r v w = record { relation = r; terms = Var v ∷ Var w ∷ [] }

-- A is relation 0, B is 1 and C is 2; x, y and z are the variables 0, 1 and 2.
abbrev pub join : List Rule
join = record { since = 0; universal = 3; existential = 0; left = atom 0 0 1 ∷ atom 1 1 2 ∷ []; right = atom 2 0 2 ∷ [] } ∷ []

-- What the attempt wrote.
abbrev pub wrote : List Change
wrote = Insert (pair 0 1 2) ∷ []

-- Whether the tuple concerns the violation of that mapping, forward with these own writes.
abbrev pub decides : List Change → Fact → Bool
decides own t = concerns join Forward own (Violation 0) t

-- A read of the violation of that mapping that found none, and one that found the attempt's tuple and another.
abbrev pub in_vain : Read
in_vain = record { query = Violation 0; reply = Nothing; own = 1 }

abbrev pub found : Read
found = record { query = Violation 0; reply = Image (pair 0 1 2 ∷ pair 1 2 5 ∷ []); own = 1 }

-- Whether the write meets the read, forward with what the attempt wrote.
abbrev pub hits : Sense → Read → Change → Bool
hits g r w = meets join Forward wrote g r w

pub record ConcernRows : Type 0 where
  -- B(2, 5) has the value of y, B(3, 5) has not
  pub joined : decides wrote (pair 1 2 5) ≡ true
  pub apart : decides wrote (pair 1 3 5) ≡ false
  -- C(1, 9) has the value of x, C(4, 9) has not
  pub met : decides wrote (pair 2 1 9) ≡ true
  pub other : decides wrote (pair 2 4 9) ≡ false
  -- another tuple of A stands in no match with this one, the tuple itself does
  pub beside : decides wrote (pair 0 7 8) ≡ false
  pub itself : decides wrote (pair 0 1 2) ≡ true
  -- a deletion causes nothing forward, and neither does an insertion of another relation
  pub deleted : decides (Delete (pair 0 1 2) ∷ []) (pair 1 2 5) ≡ false
  pub elsewhere : decides (Insert (pair 3 1 2) ∷ []) (pair 1 2 5) ≡ false
  -- if the attempt put the mapping in force, each tuple of its relations may decide
  pub enacted : decides (Insert (force 0) ∷ []) (pair 1 3 5) ≡ true
  -- backward a tuple on the left decides if it joins with a deletion, and on the right each does
  pub backward : concerns join Backward (Delete (pair 2 1 9) ∷ []) (Violation 0) (pair 0 1 7) ≡ true
  pub beside_it : concerns join Backward (Delete (pair 2 1 9) ∷ []) (Violation 0) (pair 0 4 7) ≡ false
  pub on_right : concerns join Backward (Delete (pair 2 1 9) ∷ []) (Violation 0) (pair 2 4 8) ≡ true
  pub inserted : concerns join Backward wrote (Violation 0) (pair 0 1 2) ≡ false
  pub unread : concerns join Backward (Delete (pair 2 1 9) ∷ []) (Violation 0) (pair 3 1 9) ≡ false
  -- there is no mapping 1
  pub missing : concerns join Forward wrote (Violation 1) (pair 1 2 5) ≡ false
  -- `Present` is asked of one tuple
  pub asked : concerns join Forward wrote (Present (pair 1 2 5)) (pair 1 2 5) ≡ true
  pub unasked : concerns join Forward wrote (Present (pair 1 2 5)) (pair 1 2 6) ≡ false
  -- a read that found no violation is met by what comes on the left, and by what goes on the right
  pub left_comes : hits Came in_vain (Insert (pair 1 2 5)) ≡ true
  pub left_goes : hits Came in_vain (Delete (pair 1 2 5)) ≡ false
  pub right_comes : hits Came in_vain (Insert (pair 2 1 9)) ≡ false
  pub right_goes : hits Came in_vain (Delete (pair 2 1 9)) ≡ true
  -- if an insertion went, its tuple is gone; if a deletion went, its tuple is there now
  pub left_undone : hits Went in_vain (Insert (pair 1 2 5)) ≡ false
  pub right_undone : hits Went in_vain (Insert (pair 2 1 9)) ≡ true
  pub given_back : hits Went in_vain (Delete (pair 1 2 5)) ≡ true
  -- a write does not meet it if its tuple joins with none that the attempt wrote
  pub joins_none : hits Came in_vain (Insert (pair 1 3 5)) ≡ false
  -- one that found a violation is met by each that joins
  pub found_comes : hits Came found (Insert (pair 2 1 9)) ≡ true
  pub found_goes : hits Came found (Delete (pair 1 2 5)) ≡ true
  -- backward too, what comes meets it on the left, and what goes on the right
  pub back_comes : meets join Backward (Delete (pair 2 1 9) ∷ []) Came in_vain (Insert (pair 0 1 7)) ≡ true
  pub back_goes : meets join Backward (Delete (pair 2 1 9) ∷ []) Came in_vain (Delete (pair 0 1 7)) ≡ false
  pub back_right : meets join Backward (Delete (pair 2 1 9) ∷ []) Came in_vain (Insert (pair 2 4 9)) ≡ false
  -- if the attempt put the mapping in force, each write of its relations meets both
  pub all_enacted : meets join Forward (Insert (force 0) ∷ []) Came in_vain (Insert (pair 2 4 9)) ≡ true
  -- trails meet a read by any of their writes
  pub trails : is_met join Forward wrote Came ((Insert (pair 1 3 5) ∷ []) ∷ (Insert (pair 3 0 0) ∷ Insert (pair 1 2 5) ∷ []) ∷ []) in_vain ≡ true
  pub unmet : is_met join Forward wrote Came ((Insert (pair 1 3 5) ∷ Delete (pair 1 2 5) ∷ []) ∷ []) in_vain ≡ false

-- The operations that curators ask for, and the answers of people to questions of the chase.
use Rattle.std.specs.Prelude.{ℕ, List}
use Rattle.def_chase.specs.Values.{NullName, Datum, Fact}
use Rattle.def_chase.specs.Violations.{Direction, Forward, Backward}

-- The operation of an update: insert a tuple, delete a tuple, replace a null by a value everywhere, or put the mapping of this
-- number in force. A null in it is named by its outer form.
pub data Operation : Type 0 where
  Adds : Fact → Operation
  Removes : Fact → Operation
  Replaces : NullName → Datum → Operation
  Enacts : ℕ → Operation

-- The direction of repairs: a deletion is repaired by further deletions, everything else by insertions.
abbrev pub direction_of : Operation → Direction
direction_of (Adds t) = Forward
direction_of (Removes t) = Backward
direction_of (Replaces n v) = Forward
direction_of (Enacts n) = Forward

-- An answer: insert the generated tuple as it is; unify it with the candidate of this outer form; or delete the tuples of the
-- left side with these outer forms.
pub data Choice : Type 0 where
  Expand : Choice
  Unify : Fact → Choice
  Drop : List Fact → Choice

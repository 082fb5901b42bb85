-- A repository is a finite set of tuples, kept as the list of its members in strictly rising order.
use Rattle.std.specs.Prelude.{Bool, false, not, ◌&&◌, ◌||◌, List, [], ◌∷◌, filter}
use Rattle.std.specs.List.{list_any}
use Rattle.std.specs.List.Sorted.{IsStrictlySortedBy}
use Rattle.std.specs.BTreeSet.{insert_key}
use Rattle.def_chase.specs.Values.{Fact, fact_cmp, same_fact}

-- A write: the insertion or the deletion of one tuple.
pub data Change : Type 0 where
  Insert : Fact → Change
  Delete : Fact → Change

-- Each tuple comes before all that follow it, so none stands twice.
abbrev pub IsRepository : List Fact → Type 0
IsRepository = IsStrictlySortedBy fact_cmp

-- The tuple is in the repository.
abbrev pub has : List Fact → Fact → Bool
has D t = list_any (same_fact t) D

-- The repository after one write. An insertion of a tuple that is there, and a deletion of one that is not, change nothing.
abbrev pub change : List Fact → Change → List Fact
change D (Insert t) = insert_key fact_cmp D t
change D (Delete t) = filter (λ s. not (same_fact t s)) D

-- The repository after the writes, in turn.
abbrev pub apply : List Fact → List Change → List Fact
apply D [] = D
apply D (w ∷ ws) = apply (change D w) ws

-- Whether the last write of the tuple is an insertion; `before` if there is no write of it.
abbrev pub inserted_after : Bool → List Change → Fact → Bool
inserted_after before [] t = before
inserted_after before (Insert s ∷ ws) t = inserted_after (same_fact t s || before) ws t
inserted_after before (Delete s ∷ ws) t = inserted_after (before && not (same_fact t s)) ws t

-- The write inserts the tuple.
abbrev pub inserts : Fact → Change → Bool
inserts t (Insert s) = same_fact t s
inserts t (Delete s) = false

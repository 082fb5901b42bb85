-- The meaning of versions: a base, and the trail of each update.
use Rattle.std.specs.Prelude.{◌≡◌, ℕ, suc, Bool, true, false, not, ◌&&◌, cond, List, [], ◌∷◌, ◌++◌, find, Option, Some, None}
use Rattle.std.specs.Option.{option_map, option_or}
use Rattle.base_types.specs.declared.tuples.Tuple.{Tuple}
use Rattle.def_machine.specs.Updates.{Update, trail, below}
use Rattle.def_chase.specs.Mappings.{Rule}
use Rattle.def_chase.specs.Repository.{Change, Insert, Delete, IsRepository, has, apply}
use Rattle.def_chase.specs.Updates.{Operation}
use Rattle.def_chase.specs.Values.{Fact, same_fact}
use Rattle.def_chase.specs.Violations.{Scope}
use Rattle.def_steps.specs.Chase.{chase}
use Rattle.base_tree.specs.Orders.{is_at}
use Rattle.set_facts.specs.Overlaid.{overlaid}
use Rattle.set_versions.specs.Based.{base_marks}
use Rattle.set_versions.specs.Chains.{newest_cmp, AreRows}
use Rattle.set_versions.specs.Marked.{marks_at, no_marks, visible}
use Rattle.set_versions.specs.Trails.{SameBut, writes_below, numbered}
use Rattle.set_versions.specs.declared.marks.Marks.{Marks}

-- The contents of versions: a base, its taken tuples, whose marks stand in the rows instead, and rows of tuples with their marks.
pub record Kept : Type 0 where
  pub base : List Fact
  pub taken : List Fact
  pub rows : List (Tuple × Marks)

-- The base has the tuple, and it is not taken.
abbrev pub is_left : Kept → Fact → Bool
is_left v t = has v.base t && not (has v.taken t)

-- The marks of tuple t: those of the base if the base has it and it is not taken, otherwise those of its row.
abbrev pub known_at : Kept → Fact → Marks
known_at v t = cond (is_left v t) base_marks (marks_at v.rows t)

-- The base and the rows are in order, and no tuple that is left in the base has a row.
pub record AreKept (v : Kept) : Type 0 where
  pub order : IsRepository v.base
  pub rows : AreRows v.rows
  pub apart : (t : Fact) → is_left v t ≡ true → marks_at v.rows t ≡ no_marks

-- The tuples that update n sees: the base without the taken tuples, and the tuples of the rows that it sees.
abbrev pub seen : ℕ → Kept → List Fact
seen n v = overlaid v.base v.taken (visible n v.rows)

-- Whether update n's last write of the tuple was an insertion, if it wrote the tuple.
abbrev pub mark_in : Marks → ℕ → Option Bool
mark_in m n = option_map (λ e. e.1) (find (is_at newest_cmp (record { 0 = n })) m.chain)

-- Whether the write inserts or deletes tuple t; None if it is of another tuple.
abbrev pub written : Change → Fact → Option Bool
written (Insert s) t = cond (same_fact t s) (Some true) None
written (Delete s) t = cond (same_fact t s) (Some false) None

-- Whether the last write of t among the writes is an insertion; m if none is of t.
abbrev pub last_written : Option Bool → List Change → Fact → Option Bool
last_written m [] t = m
last_written m (w ∷ ws) t = last_written (option_or (written w t) m) ws t

-- The versions mean base D and these trails.
pub record StandFor (v : Kept) (D : List Fact) (trails : ℕ → List Change) : Type 0 where
  pub kept : AreKept v
  pub base : (t : Fact) → (known_at v t).in_base ≡ has D t
  pub marks : (n : ℕ) (t : Fact) → mark_in (known_at v t) n ≡ last_written None (trails n) t

-- Whatever the versions stood for, update n now has these writes after its others.
abbrev pub Published : ℕ → List Change → Kept → Kept → Type 0
Published n ws old new = (D : List Fact) (before after : ℕ → List Change) → StandFor old D before → after n ≡ before n ++ ws → SameBut n before after → StandFor new D after

-- If these were all the writes of update n, it now has none.
abbrev pub Retracted : ℕ → List Change → Kept → Kept → Type 0
Retracted n ws old new = (D : List Fact) (before after : ℕ → List Change) → StandFor old D before → before n ≡ ws → after n ≡ [] → SameBut n before after → StandFor new D after

-- Update n sees the base with the writes of the lower updates, in the order of their numbers.
abbrev pub SeenLaw : Type 0
SeenLaw = (v : Kept) (D : List Fact) (trails : ℕ → List Change) → IsRepository D → StandFor v D trails → (n : ℕ) → seen n v ≡ apply D (writes_below trails n)

-- In a history of the chase, in which item k of the list is update k + 1, an update sees the repository below it.
abbrev pub BelowLaw : Type 0
BelowLaw =
    (scope : Operation → Scope) (ms : List Rule) (B : ℕ) (v : Kept) (D : List Fact) (us : List (Update (chase scope ms B))) → IsRepository D
    → StandFor v D (numbered (trail (chase scope ms B)) us) → (k : ℕ) → seen (suc k) v ≡ below (chase scope ms B) D us k

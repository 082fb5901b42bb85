-- How writes change the marks of each tuple.
use Rattle.std.specs.Prelude.{ℕ, true, false, cond, List, [], ◌∷◌}
use Rattle.std.specs.BTreeMap.{insert_entry}
use Rattle.def_chase.specs.Values.{Fact, same_fact}
use Rattle.def_chase.specs.Repository.{Change, Insert, Delete}
use Rattle.base_tree.specs.Orders.{without}
use Rattle.set_versions.specs.Chains.{newest_cmp}
use Rattle.set_versions.specs.declared.marks.Marks.{Marks}
use Rattle.set_versions.specs.declared.marks.Touch.{Touch}
use Rattle.set_versions.specs.declared.marks.Touch.TheVariants.{Mark, Unmark}

-- The marks after a change.
abbrev pub touched : Touch → Marks → Marks
touched (Mark n b) m = record { in_base = m.in_base; chain = insert_entry newest_cmp m.chain (record { 0 = n }) b }
touched (Unmark n) m = record { in_base = m.in_base; chain = without newest_cmp (record { 0 = n }) m.chain }

-- The marks of t after a change to the marks of s.
abbrev pub touched_at : Touch → Fact → Fact → Marks → Marks
touched_at c s t m = cond (same_fact t s) (touched c m) m

-- The marks of t after one write of update n.
abbrev pub written_at : ℕ → Change → Fact → Marks → Marks
written_at n (Insert s) t m = touched_at (Mark n true) s t m
written_at n (Delete s) t m = touched_at (Mark n false) s t m

-- The marks of t after the writes of update n are made in turn.
abbrev pub published_at : ℕ → List Change → Fact → Marks → Marks
published_at n [] t m = m
published_at n (w ∷ ws) t m = published_at n ws t (written_at n w t m)

-- The marks of t after one write of update n is taken back.
abbrev pub unwritten_at : ℕ → Change → Fact → Marks → Marks
unwritten_at n (Insert s) t m = touched_at (Unmark n) s t m
unwritten_at n (Delete s) t m = touched_at (Unmark n) s t m

-- The marks of t after the writes of update n are taken back in turn.
abbrev pub retracted_at : ℕ → List Change → Fact → Marks → Marks
retracted_at n [] t m = m
retracted_at n (w ∷ ws) t m = retracted_at n ws t (unwritten_at n w t m)

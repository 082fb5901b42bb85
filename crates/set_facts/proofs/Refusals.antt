-- An index to which a tuple was added only in part, as where memory is wanting.
use Rattle.std.proofs.Common.{◌≡◌, ap, ◌∙◌, List, true, false, ◌||◌, ◌&&◌}
use Rattle.std.specs.declared.vec.Vec.{Vec}
use Rattle.std.specs.declared.alloc.Global.{Global}
use Rattle.def_chase.specs.Values.{Fact, same_fact}
use Rattle.def_chase.specs.Repository.{has}
use Rattle.set_facts.specs.Indexes.{Kept, kept_at, is_in, IsIndex, IsIndexBut, AddsAtMostOne, DropsOne}
use Rattle.set_facts.proofs.Keeping.{one_stays, one_swept}

-- What has at most the tuple added is an index but for it.
pub index_but : (D : List Fact) (ls ms : List (Vec Kept Global)) (t : Fact) → IsIndex D ls → AddsAtMostOne t ls ms → IsIndexBut D t ms
index_but D ls ms t x h r c d u = h r c d u ∙ ap (λ b. b || ((is_in r c d t && same_fact u t) && has (kept_at ms r c d) u)) (x r c d u)

-- A tuple of the set is no more than the index has to keep.
pub index_stays : (D : List Fact) (ms : List (Vec Kept Global)) (t : Fact) → IsIndexBut D t ms → has D t ≡ true → IsIndex D ms
index_stays D ms t x e r c d u = one_stays (is_in r c d) D t u (has (kept_at ms r c d) u) (x r c d u) e

-- A tuple that is not in the set may be swept.
pub index_swept : (D : List Fact) (ms ns : List (Vec Kept Global)) (t : Fact) → IsIndexBut D t ms → DropsOne t ms ns → has D t ≡ false → IsIndex D ns
index_swept D ms ns t x h e r c d u = one_swept (is_in r c d) D t u (has (kept_at ms r c d) u) (has (kept_at ns r c d) u) (x r c d u) (h r c d u) e

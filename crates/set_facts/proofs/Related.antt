-- What a write of the columns of one relation makes of the index.
use Rattle.std.proofs.Common.{◌≡◌, ◌<◌, ◌∙◌, List, [], ◌∷◌, ◌++◌, ◌&&◌, ◌||◌}
use Rattle.std.specs.declared.vec.Vec.{Vec}
use Rattle.std.specs.declared.alloc.Global.{Global}
use Rattle.def_chase.specs.Values.{Fact, same_fact}
use Rattle.def_chase.specs.Repository.{has}
use Rattle.set_facts.specs.Indexes.{Kept, kept_at, is_in, AddsAtMostOne, AddsOne}
use Rattle.set_facts.proofs.Changing.{may_add}

-- ---- writes that want memory

-- Where the tuple is added where it has its values, nothing else is.
pub adds_at_most : (t : Fact) (rs ss : List (Vec Kept Global)) → AddsOne t rs ss → AddsAtMostOne t rs ss
adds_at_most t rs ss h r c d u = may_add (has (kept_at rs r c d) u) (is_in r c d t && same_fact u t) (has (kept_at ss r c d) u) (h r c d u)

-- Nodes and links as contracts see them: their entries, in order.
use Rattle.std.specs.Prelude.{List, [], ◌∷◌, ◌++◌, Option, Some, None}
use Rattle.std.specs.declared.alloc.Global.{Global}
use Rattle.std.specs.declared.sync.Arc.{Arc}
use Rattle.base_tree.specs.declared.branch.Node.{Node}

-- The entries of a node.
abbrev pub entries : {K V : Type 0} → Node K V → List (K × V)
entries n = n.left ++ n.entry ∷ n.right

-- The entries that a link leads to.
abbrev pub entries_at : {K V : Type 0} → Option (Arc (Node K V) Global) → List (K × V)
entries_at None = []
entries_at (Some a) = entries a.value

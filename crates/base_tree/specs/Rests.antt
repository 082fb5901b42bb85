-- The entries that a cursor has still to give.
use Rattle.std.specs.Prelude.{List, [], ◌∷◌, ◌++◌, filter, Option, Some, None, ⊤}
use Rattle.std.specs.Borrow.{Bor}
use Rattle.std.specs.List.{AllByRecursion}
use Rattle.std.specs.Ordering.{is_lt}
use Rattle.std.specs.declared.cmp.Ordering.{Ordering}
use Rattle.base_tree.specs.Orders.{IsOrdered}
use Rattle.base_tree.specs.declared.branch.Node.{Node}

-- A node's own entry, and the entries of its right side.
abbrev pub pending_of : {K V : Type 0} → Option (Bor (Node K V)) → List (K × V)
pending_of None = []
pending_of (Some n) = n.now.entry ∷ n.now.right

-- The own entries and right sides of all nodes of a path, the last node first.
abbrev pub pending : {K V : Type 0} → List (Option (Bor (Node K V))) → List (K × V)
pending [] = []
pending (o ∷ os) = pending os ++ pending_of o

module _ {K V : Type 0} (R : K → K → Ordering) where
  -- There is a node, and the entries of its right side are in order.
  abbrev pub IsOrderedAt : Option (Bor (Node K V)) → Type 0
  IsOrderedAt None = ⊥
  IsOrderedAt (Some n) = IsOrdered R n.now.right

  -- Each place of the path has a node, and the entries of its right side are in order.
  abbrev pub IsPath : List (Option (Bor (Node K V))) → Type 0
  IsPath os = AllByRecursion IsOrderedAt os

  -- The entry, and all entries of the tree above it.
  abbrev pub rest_of : Option (Bor (List (K × V)) × Bor (K × V)) → List (K × V)
  rest_of None = []
  rest_of (Some d) = d.1.now ∷ filter (λ e. is_lt (R d.1.now.0 e.0)) d.0.now

  -- The tree is in order.
  abbrev pub IsDeep : Option (Bor (List (K × V)) × Bor (K × V)) → Type 0
  IsDeep None = ⊤
  IsDeep (Some d) = IsOrdered R d.0.now

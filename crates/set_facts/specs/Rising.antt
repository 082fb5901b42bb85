-- The tuples of a set that is a list or a tree.
use Rattle.std.specs.Prelude.{◌≡◌, List}
use Rattle.std.specs.List.{AllByRecursion}
use Rattle.std.specs.declared.cmp.Ordering.TheVariants.{Greater}
use Rattle.def_chase.specs.Values.{Fact, fact_cmp}
use Rattle.set_facts.specs.declared.listed.Held.{Held}
use Rattle.set_facts.specs.declared.listed.Held.TheVariants.{Listed, Tree}

-- The tuples of the list or of the tree.
abbrev pub tuples_held : Held → List Fact
tuples_held (Listed tuples) = tuples
tuples_held (Tree facts) = facts

-- The tuple comes after each of these.
abbrev pub IsAfter : Fact → List Fact → Type 0
IsAfter t D = AllByRecursion (λ u. fact_cmp t u ≡ Greater) D

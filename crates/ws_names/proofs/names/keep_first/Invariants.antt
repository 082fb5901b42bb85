use Rattle.std.proofs.Common.{◌≡◌, length, take}
use Rattle.ws_names.specs.Firsts.{IsIndexOf}
use Rattle.ws_names.specs.Meanings.{name_in, null_in}
use Rattle.ws_names.proofs.names.keep_first.Given as goal

-- The maps are those of the pairs that are left, and the first pairs are kept.
abbrev pub invariant-pairs : goal.invariant-pairs
invariant-pairs l = record {
  names : IsIndexOf null_in l.drawn.items l.names;
  nulls : IsIndexOf name_in l.drawn.items l.nulls;
  kept : take l.count l.drawn.items ≡ take l.count l.fn.drawn.items;
}

-- How many pairs are left.
abbrev pub decreases-pairs : goal.decreases-pairs
decreases-pairs l = length l.drawn.items

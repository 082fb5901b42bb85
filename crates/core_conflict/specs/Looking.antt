-- The search through the reads of an attempt, and its view during the search.
use Rattle.std.specs.Prelude.{◌≡◌, ◌≤◌, ℕ, List, take, length, map, Option}
use Rattle.base_types.specs.Contents.{rules_in}
use Rattle.base_types.specs.Meanings.{change_of, heading_of}
use Rattle.chase_eval.specs.Seen.{Seen}
use Rattle.def_chase.specs.Values.{Fact}
use Rattle.def_chase.specs.Repository.{Change}
use Rattle.chase_query.specs.Meanings.{Read}
use Rattle.core_conflict.specs.Changes.{Changed, first_changed_from}
use Rattle.core_conflict.specs.Trails.{trails_of}
use Rattle.core_conflict.specs.declared.concerns.Reader.{Reader}
use Rattle.core_conflict.specs.declared.concerns.Trail.{Trail}

-- The view is over D, with the first n of these own writes.
pub record SeesFirst (D : List Fact) (own : List Change) (n : ℕ) (v : Seen) : Type 0 where
  pub few : n ≤ length own
  pub seen : v ≡ record { below = D; own = take n own }

-- The first of these reads that the trails meet and whose value over D differs, for this reader; the first of the list has
-- number n.
abbrev pub changed_from : Reader → List Trail → List Fact → ℕ → List Read → Option Changed
changed_from r trails D n rs =
    first_changed_from (rules_in r.mappings.now) (heading_of r.direction) D (map change_of r.own.now) r.sense (trails_of trails) n rs

-- The questions at a frontier, and the answers that fit them.
use Rattle.std.specs.Prelude.{◌==◌, Bool, true, false, not, ◌&&◌, List, length, filter, find, unwrap_or}
use Rattle.std.specs.List.{list_any, list_all}
use Rattle.def_chase.specs.Values.{Fact, same_fact, outer}
use Rattle.def_chase.specs.Updates.{Choice, Expand, Unify, Drop}
use Rattle.def_steps.specs.Attempts.{Question, Positive, Negative}

-- o is the outer form of one of the tuples.
abbrev pub is_outer_of : List Fact → Fact → Bool
is_outer_of ts o = list_any (λ t. same_fact (outer t) o) ts

-- To a positive question with these candidates, `expand` fits, and so does `unify` with the outer form of a candidate.
abbrev pub fits_positive : List Fact → Choice → Bool
fits_positive cs Expand = true
fits_positive cs (Unify o) = is_outer_of cs o
fits_positive cs (Drop os) = false

-- To a negative question with these tuples, `delete` of at least one of them fits, each named by its outer form; a repeated one
-- counts once.
abbrev pub fits_negative : List Fact → Choice → Bool
fits_negative ts Expand = false
fits_negative ts (Unify o) = false
fits_negative ts (Drop os) = not (length os == 0) && list_all (is_outer_of ts) os

-- The answer fits the question.
abbrev pub fits : Question → Choice → Bool
fits (Positive r t cs) c = fits_positive cs c
fits (Negative n ts) c = fits_negative ts c

-- The first candidate with the outer form o; t if there is none.
abbrev pub candidate : Fact → List Fact → Fact → Fact
candidate t cs o = unwrap_or (find (λ s. same_fact (outer s) o) cs) t

-- The tuples whose outer forms are named, in their order.
abbrev pub named : List Fact → List Fact → List Fact
named ts os = filter (λ t. list_any (same_fact (outer t)) os) ts

-- A set with some tuples taken away and some put in, and the lesser of two tuples.
use Rattle.std.specs.BTreeSet.{insert_key}
use Rattle.std.specs.Ordering.{is_gt}
use Rattle.std.specs.Prelude.{not, cond, List, [], ◌∷◌, filter, Option, Some, None}
use Rattle.def_chase.specs.Values.{Fact, fact_cmp}
use Rattle.def_chase.specs.Repository.{has}

-- The set with each of the tuples put in.
abbrev pub put_all : List Fact → List Fact → List Fact
put_all D [] = D
put_all D (t ∷ ts) = insert_key fact_cmp (put_all D ts) t

-- The set without the tuples that are gone, and with those that are added.
abbrev pub overlaid : List Fact → List Fact → List Fact → List Fact
overlaid D gone added = put_all (filter (λ s. not (has gone s)) D) added

-- The lesser of two tuples, or the only one that is there.
abbrev pub lesser : Option Fact → Option Fact → Option Fact
lesser None o = o
lesser (Some s) None = Some s
lesser (Some s) (Some t) = Some (cond (is_gt (fact_cmp s t)) t s)

-- What reasons mean, and which reasons a note gives.
use Rattle.std.specs.Prelude.{◌≡◌, List, ◌++◌, map, filter}
use Rattle.def_chase.specs.Values.{Fact}
use Rattle.def_chase.specs.Repository.{has}
use Rattle.base_types.specs.Contents.{facts_of}
use Rattle.base_types.specs.Listed.{Listed}
use Rattle.base_types.specs.Meanings.{fact_of}
use Rattle.def_provenance.specs.Notes.{Noted, reason_by}
use Rattle.def_provenance.specs.Reasons as meant
use Rattle.def_provenance.specs.Reasons.{sought_before}
use Rattle.run_explain.specs.declared.reasons.How.{How}
use Rattle.run_explain.specs.declared.reasons.How.TheVariants.{Base, Inserted, Generated, Rewritten}
use Rattle.run_explain.specs.declared.reasons.Reason.{Reason}

-- How a tuple came to be there, as a `How` says.
abbrev pub how_of : How → meant.How
how_of Base = meant.FromBase
how_of (Inserted u s) = meant.Inserted u s
how_of (Generated u s n image) = meant.Generated u s n (facts_of image)
how_of (Rewritten u s t) = meant.Rewritten u s (fact_of t)

-- The reason that a `Reason` stands for.
abbrev pub reason_of : Reason → meant.Reason
reason_of r = record { tuple = fact_of r.tuple; how = how_of r.how }

-- The reasons of a list.
abbrev pub reasons_in : Listed Reason → List meant.Reason
reasons_in rs = map reason_of rs.items

-- The reasons for the tuples sought that this step put were added; what they rest on is sought in their place.
abbrev pub HasTold : Noted → Listed Reason → List Fact → Listed Reason → List Fact → Type 0
HasTold n rs sought rs' sought' =
    (reasons_in rs' ≡ reasons_in rs ++ map (reason_by n) (filter (has n.puts) sought))
    × (sought' ≡ sought_before (has n.puts) (map (reason_by n) (filter (has n.puts) sought)) sought)

-- A worked row: a realistic session of travel data, with a cycle of mappings, both directions and four answers.
use Rattle.std.specs.Prelude.{◌≡◌, List, [], ◌∷◌, codes}
use Rattle.def_chase.specs.Values.{Datum, Text, Fact}
use Rattle.def_chase.specs.Mappings.{Var, Rule}
use Rattle.def_chase.specs.Updates.{Adds, Removes, Replaces, Expand, Unify, Drop}
use Rattle.def_steps.specs.Attempts.{Done}
use Rattle.def_steps.specs.Serial.{Request, serial_result}
use Rattle.def_steps.specs.RowWords.{null, named_null, fact, atom, rule, request, ends, all_end}

-- Relations City 0, Airport 1, Attraction 2, Tour 3, Review 4, Convention 5, Excursion 6:
-- City(c) -> Airport(a, l, c); Airport(a, l, c) -> City(l), City(c);
-- Attraction(l, n), Tour(n, co, s) -> Review(co, n, r); Convention(c, x), Tour(n, co, c) -> Excursion(x, n)
abbrev pub travel : List Rule
travel =
    rule 1 2 (atom 0 (Var 0 ∷ []) ∷ []) (atom 1 (Var 1 ∷ Var 2 ∷ Var 0 ∷ []) ∷ [])
    ∷ rule 3 0 (atom 1 (Var 0 ∷ Var 1 ∷ Var 2 ∷ []) ∷ []) (atom 0 (Var 1 ∷ []) ∷ atom 0 (Var 2 ∷ []) ∷ [])
    ∷ rule 4 1 (atom 2 (Var 0 ∷ Var 1 ∷ []) ∷ atom 3 (Var 1 ∷ Var 2 ∷ Var 3 ∷ []) ∷ []) (atom 4 (Var 2 ∷ Var 1 ∷ Var 4 ∷ []) ∷ [])
    ∷ rule 4 0 (atom 5 (Var 0 ∷ Var 1 ∷ []) ∷ atom 3 (Var 2 ∷ Var 3 ∷ Var 0 ∷ []) ∷ []) (atom 6 (Var 1 ∷ Var 2 ∷ []) ∷ [])
    ∷ []

abbrev pub syracuse : Datum
syracuse = Text (codes "Syracuse")

abbrev pub ithaca : Datum
ithaca = Text (codes "Ithaca")

abbrev pub syr : Datum
syr = Text (codes "SYR")

abbrev pub nyc : Datum
nyc = Text (codes "NYC")

abbrev pub geneva : Datum
geneva = Text (codes "Geneva")

abbrev pub winery : Datum
winery = Text (codes "Geneva Winery")

abbrev pub falls : Datum
falls = Text (codes "Niagara Falls")

abbrev pub niagara : Datum
niagara = Text (codes "Niagara")

abbrev pub xyz : Datum
xyz = Text (codes "XYZ")

abbrev pub science : Datum
science = Text (codes "Science Conf")

abbrev pub vldb : Datum
vldb = Text (codes "VLDB")

abbrev pub abc : Datum
abc = Text (codes "ABC")

abbrev pub splendid : Datum
splendid = Text (codes "splendid")

abbrev pub wet : Datum
wet = Text (codes "wet")

abbrev pub jfk : Datum
jfk = Text (codes "JFK")

abbrev pub travel_base : List Fact
travel_base =
    fact 0 (ithaca ∷ [])
    ∷ fact 0 (syracuse ∷ [])
    ∷ fact 1 (syr ∷ syracuse ∷ ithaca ∷ [])
    ∷ fact 1 (syr ∷ syracuse ∷ syracuse ∷ [])
    ∷ fact 2 (geneva ∷ winery ∷ [])
    ∷ fact 3 (winery ∷ xyz ∷ syracuse ∷ [])
    ∷ fact 4 (xyz ∷ winery ∷ null 0 1 ∷ [])
    ∷ fact 5 (syracuse ∷ science ∷ [])
    ∷ fact 6 (science ∷ winery ∷ [])
    ∷ []

abbrev pub travel_updates : List Request
travel_updates =
    request (Adds (fact 0 (nyc ∷ []))) (Unify (fact 0 (nyc ∷ [])) ∷ [])
    ∷ request (Replaces (named_null 1 1) jfk) []
    ∷ request (Removes (fact 4 (xyz ∷ winery ∷ null 0 1 ∷ []))) (Drop (fact 3 (winery ∷ xyz ∷ syracuse ∷ []) ∷ []) ∷ [])
    ∷ request (Adds (fact 3 (falls ∷ abc ∷ nyc ∷ []))) []
    ∷ request (Adds (fact 5 (nyc ∷ vldb ∷ []))) []
    ∷ request (Adds (fact 2 (niagara ∷ falls ∷ []))) []
    ∷ request (Adds (fact 4 (abc ∷ falls ∷ splendid ∷ []))) []
    ∷ request (Removes (fact 1 (syr ∷ syracuse ∷ ithaca ∷ []))) []
    ∷ request (Replaces (named_null 6 1) wet) []
    ∷ request (Adds (fact 0 (geneva ∷ []))) (Expand ∷ Unify (fact 1 (syr ∷ syracuse ∷ syracuse ∷ [])) ∷ [])
    ∷ []

-- The repository after the session.
abbrev pub travelled : List Fact
travelled =
    fact 0 (geneva ∷ [])
    ∷ fact 0 (nyc ∷ [])
    ∷ fact 0 (syracuse ∷ [])
    ∷ fact 1 (jfk ∷ nyc ∷ nyc ∷ [])
    ∷ fact 1 (syr ∷ syracuse ∷ syracuse ∷ [])
    ∷ fact 1 (null 10 1 ∷ syracuse ∷ geneva ∷ [])
    ∷ fact 2 (geneva ∷ winery ∷ [])
    ∷ fact 2 (niagara ∷ falls ∷ [])
    ∷ fact 3 (falls ∷ abc ∷ nyc ∷ [])
    ∷ fact 4 (abc ∷ falls ∷ splendid ∷ [])
    ∷ fact 4 (abc ∷ falls ∷ wet ∷ [])
    ∷ fact 5 (nyc ∷ vldb ∷ [])
    ∷ fact 5 (syracuse ∷ science ∷ [])
    ∷ fact 6 (science ∷ winery ∷ [])
    ∷ fact 6 (vldb ∷ falls ∷ [])
    ∷ []

abbrev pub Travels : Type 0
Travels =
    serial_result travel 100 travel_base travel_updates
    ≡ all_end
    (ends 1 Done 8 2 ∷ ends 2 Done 2 0 ∷ ends 3 Done 4 0 ∷ ends 4 Done 2 0 ∷ ends 5 Done 4 0 ∷ ends 6 Done 4 1 ∷ ends 7 Done 2 0 ∷ ends 8 Done 3 0 ∷ ends 9 Done 2 0 ∷ ends 10 Done 11 4 ∷ [])
    travelled

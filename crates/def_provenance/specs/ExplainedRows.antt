-- Worked rows: explanations of tuples that small sessions leave, as an independent implementation gives them.
use Rattle.std.specs.Prelude.{◌≡◌, ℕ, List, [], ◌∷◌, Option, Some, None, codes}
use Rattle.def_chase.specs.Values.{Datum, Text, Fact}
use Rattle.def_chase.specs.Mappings.{Var, Rule}
use Rattle.def_chase.specs.Updates.{Adds, Removes, Unify}
use Rattle.def_steps.specs.RowWords.{num, null, fact, atom, rule, request}
use Rattle.def_steps.specs.Rows.{one_in, washington, city, country, capital, capitals}
use Rattle.def_steps.specs.Travel.{travel, travel_base, travel_updates, nyc, geneva, winery, falls, niagara, vldb, abc, wet, jfk}
use Rattle.def_provenance.specs.Reasons.{Inserted, Generated, Rewritten, How, Reason, rooted, explanation}

abbrev pub reason : Fact → How → Reason
reason t how = record { tuple = t; how = how }

-- ---- a tuple that is put, taken away and put again

abbrev pub put_again : Option (List Reason)
put_again = explanation [] 100 [] (request (Adds (one_in 0)) [] ∷ request (Removes (one_in 0)) [] ∷ request (Adds (one_in 0)) [] ∷ []) (one_in 0)

-- ---- relations P 0, R 1, S 2, T 3; P(x, y) -> R(x, y), S(y)

abbrev pub splits : List Rule
splits = rule 2 0 (atom 0 (Var 0 ∷ Var 1 ∷ []) ∷ []) (atom 1 (Var 0 ∷ Var 1 ∷ []) ∷ atom 2 (Var 1 ∷ []) ∷ []) ∷ []

abbrev pub pair : ℕ → Datum → Fact
pair r d = fact r (d ∷ num 2 ∷ [])

abbrev pub split : Fact → Option (List Reason)
split t = explanation splits 100 (pair 1 (num 1) ∷ fact 3 (null 0 1 ∷ []) ∷ []) (request (Adds (pair 0 (null 0 1))) (Unify (pair 1 (num 1)) ∷ []) ∷ []) t

-- ---- the data of cities, countries and capitals, and of travel

abbrev pub of_capitals : Fact → Option (List Reason)
of_capitals t = explanation capitals 100 (country washington ∷ []) (request (Adds city) (Unify (country washington) ∷ []) ∷ []) t

abbrev pub travelling : Fact → Option (List Reason)
travelling t = explanation travel 100 travel_base travel_updates t

abbrev pub tour : Fact
tour = fact 3 (falls ∷ abc ∷ nyc ∷ [])

abbrev pub convention : Fact
convention = fact 5 (nyc ∷ vldb ∷ [])

abbrev pub attraction : Fact
attraction = fact 2 (niagara ∷ falls ∷ [])

abbrev pub excursion : Fact
excursion = fact 6 (vldb ∷ falls ∷ [])

abbrev pub review : Datum → Fact
review d = fact 4 (abc ∷ falls ∷ d ∷ [])

abbrev pub airport : Datum → Datum → Fact
airport a l = fact 1 (a ∷ l ∷ nyc ∷ [])

-- The explanations of these tuples.
pub record Explained : Type 0 where
  pub capital_generated : of_capitals (capital washington) ≡ Some (reason (capital washington) (Generated 1 5 0 (city ∷ [])) ∷ reason city (Inserted 1 1) ∷ [])
  pub capital_absent : of_capitals (capital (Text (codes "X"))) ≡ None
  -- the last step that puts a tuple is its origin
  pub put_twice : put_again ≡ Some (reason (one_in 0) (Inserted 3 1) ∷ [])
  -- the image is as an earlier unification of its repair left it
  pub image_unified :
      split (fact 2 (num 2 ∷ []))
      ≡ Some (reason (fact 2 (num 2 ∷ [])) (Generated 1 5 0 (pair 0 (num 1) ∷ []))
      ∷ reason (pair 0 (num 1)) (Rewritten 1 4 (pair 0 (null 0 1)))
      ∷ reason (pair 0 (null 0 1)) (Inserted 1 1)
      ∷ [])
  pub base_rewritten :
      split (fact 3 (num 1 ∷ [])) ≡ Some (reason (fact 3 (num 1 ∷ [])) (Rewritten 1 4 (fact 3 (null 0 1 ∷ []))) ∷ rooted (fact 3 (null 0 1 ∷ [])) ∷ [])
  pub excursion_generated :
      travelling excursion
      ≡ Some (reason excursion (Generated 5 3 3 (convention ∷ tour ∷ [])) ∷ reason convention (Inserted 5 1) ∷ reason tour (Inserted 4 1) ∷ [])
  pub review_rewritten :
      travelling (review wet)
      ≡ Some (reason (review wet) (Rewritten 9 1 (review (null 6 1)))
      ∷ reason (review (null 6 1)) (Generated 6 3 2 (attraction ∷ tour ∷ []))
      ∷ reason attraction (Inserted 6 1)
      ∷ reason tour (Inserted 4 1)
      ∷ [])
  pub airport_rewritten :
      travelling (airport jfk nyc)
      ≡ Some (reason (airport jfk nyc) (Rewritten 2 1 (airport (null 1 1) nyc))
      ∷ reason (airport (null 1 1) nyc) (Rewritten 1 6 (airport (null 1 1) (null 1 2)))
      ∷ reason (airport (null 1 1) (null 1 2)) (Generated 1 3 0 (fact 0 (nyc ∷ []) ∷ []))
      ∷ reason (fact 0 (nyc ∷ [])) (Inserted 1 1)
      ∷ [])
  pub attraction_rooted : travelling (fact 2 (geneva ∷ winery ∷ [])) ≡ Some (rooted (fact 2 (geneva ∷ winery ∷ [])) ∷ [])

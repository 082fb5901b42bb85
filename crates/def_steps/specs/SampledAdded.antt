-- Sessions drawn at random with mappings that updates add, and the results of an independent implementation of the rules.
use Rattle.std.specs.Prelude.{◌≡◌, List, [], ◌∷◌, codes}
use Rattle.def_machine.specs.Standings.{Missing}
use Rattle.def_chase.specs.Values.{Text, Fact}
use Rattle.def_chase.specs.Mappings.{Var, Const, Rule}
use Rattle.def_chase.specs.Updates.{Adds, Removes, Replaces, Enacts, Expand, Unify, Drop}
use Rattle.def_steps.specs.Attempts.{Done, Spent, Refused, Positive, Negative}
use Rattle.def_steps.specs.Serial.{Request, serial_result}
use Rattle.def_steps.specs.RowWords.{num, named_null, null, fact, atom, rule, added_rule, request, repair, ends, all_end, stop_at}

-- ---- the first

abbrev pub first_rules : List Rule
first_rules =
    rule 1 2 (atom 0 (Var 0 ∷ []) ∷ []) (atom 1 (Var 1 ∷ []) ∷ atom 0 (Var 2 ∷ []) ∷ [])
    ∷ rule 2 2 (atom 1 (Var 0 ∷ []) ∷ atom 0 (Var 1 ∷ []) ∷ []) (atom 0 (Var 2 ∷ []) ∷ atom 1 (Var 3 ∷ []) ∷ [])
    ∷ added_rule 1 1 1 (atom 1 (Var 0 ∷ []) ∷ []) (atom 1 (Var 1 ∷ []) ∷ atom 0 (Var 1 ∷ []) ∷ [])
    ∷ []

abbrev pub first_base : List Fact
first_base =
    fact 0 (num 1 ∷ [])
    ∷ fact 1 (null 0 3 ∷ [])
    ∷ []

abbrev pub first_updates : List Request
first_updates =
    request (Enacts 2) (Unify (fact 1 (null 0 3 ∷ [])) ∷ Unify (fact 0 (num 1 ∷ [])) ∷ [])
    ∷ request (Replaces (named_null 1 1) (null 1 1)) []
    ∷ request (Adds (fact 0 (num 2 ∷ []))) []
    ∷ []

abbrev pub first_left : List Fact
first_left =
    fact 0 (num 1 ∷ [])
    ∷ fact 0 (num 2 ∷ [])
    ∷ fact 1 (num 1 ∷ [])
    ∷ []

-- ---- the second

abbrev pub second_rules : List Rule
second_rules =
    rule 1 0 (atom 0 (Var 0 ∷ []) ∷ atom 0 (Var 0 ∷ []) ∷ []) (atom 2 (Var 0 ∷ []) ∷ [])
    ∷ rule 0 1 (atom 0 (Const (num 2) ∷ []) ∷ []) (atom 0 (Var 0 ∷ []) ∷ [])
    ∷ rule 1 0 (atom 2 (Var 0 ∷ []) ∷ []) (atom 1 (Var 0 ∷ []) ∷ [])
    ∷ added_rule 2 1 1 (atom 0 (Var 0 ∷ []) ∷ []) (atom 1 (Const (num 2) ∷ []) ∷ atom 0 (Var 1 ∷ []) ∷ [])
    ∷ []

abbrev pub second_updates : List Request
second_updates =
    request (Adds (fact 0 (num 1 ∷ []))) []
    ∷ request (Enacts 3) (Expand ∷ [])
    ∷ request (Removes (fact 2 (num 1 ∷ []))) []
    ∷ []

abbrev pub second_left : List Fact
second_left =
    fact 1 (num 1 ∷ [])
    ∷ []

-- ---- the third

abbrev pub third_rules : List Rule
third_rules =
    rule 2 2 (atom 2 (Var 0 ∷ Var 1 ∷ []) ∷ []) (atom 2 (Const (num 2) ∷ Var 2 ∷ []) ∷ atom 1 (Var 3 ∷ Var 1 ∷ []) ∷ [])
    ∷ added_rule 1 1 0 (atom 0 (Var 0 ∷ []) ∷ []) (atom 1 (Var 0 ∷ Var 0 ∷ []) ∷ [])
    ∷ []

abbrev pub third_updates : List Request
third_updates =
    request (Enacts 1) (Expand ∷ [])
    ∷ request (Adds (fact 2 (Text (codes "#(,") ∷ num 1 ∷ []))) (Expand ∷ Expand ∷ Expand ∷ Expand ∷ Unify (fact 2 (num 2 ∷ null 2 3 ∷ [])) ∷ Expand ∷ [])
    ∷ request (Adds (fact 2 (Text (codes "#(,") ∷ num 3 ∷ []))) (Expand ∷ [])
    ∷ []

abbrev pub third_left : List Fact
third_left =
    fact 1 (null 2 2 ∷ num 1 ∷ [])
    ∷ fact 1 (null 2 4 ∷ null 2 1 ∷ [])
    ∷ fact 1 (null 2 6 ∷ null 2 3 ∷ [])
    ∷ fact 1 (null 2 8 ∷ null 2 5 ∷ [])
    ∷ fact 2 (num 2 ∷ null 2 1 ∷ [])
    ∷ fact 2 (num 2 ∷ null 2 3 ∷ [])
    ∷ fact 2 (num 2 ∷ null 2 5 ∷ [])
    ∷ fact 2 (Text (codes "#(,") ∷ num 1 ∷ [])
    ∷ []

-- ---- the fourth

abbrev pub fourth_rules : List Rule
fourth_rules =
    rule 3 1 (atom 0 (Var 0 ∷ Var 1 ∷ []) ∷ atom 1 (Var 2 ∷ Var 1 ∷ Var 2 ∷ []) ∷ []) (atom 1 (Var 2 ∷ Var 1 ∷ Var 3 ∷ []) ∷ [])
    ∷ rule 1 2 (atom 1 (Var 0 ∷ Const (num 2) ∷ Var 0 ∷ []) ∷ []) (atom 0 (Var 0 ∷ Var 1 ∷ []) ∷ atom 0 (Var 2 ∷ Var 2 ∷ []) ∷ [])
    ∷ rule 2 0 (atom 0 (Var 0 ∷ Var 0 ∷ []) ∷ atom 0 (Var 0 ∷ Var 1 ∷ []) ∷ []) (atom 1 (Const (num 1) ∷ Var 1 ∷ Var 1 ∷ []) ∷ atom 1 (Var 0 ∷ Var 1 ∷ Var 1 ∷ []) ∷ [])
    ∷ added_rule 2 2 1 (atom 0 (Var 0 ∷ Var 1 ∷ []) ∷ []) (atom 1 (Var 2 ∷ Const (num 1) ∷ Var 0 ∷ []) ∷ [])
    ∷ []

abbrev pub fourth_base : List Fact
fourth_base =
    fact 0 (null 0 1 ∷ num 1 ∷ [])
    ∷ fact 1 (num 3 ∷ Text (195 ∷ 169 ∷ []) ∷ num 2 ∷ [])
    ∷ []

abbrev pub fourth_updates : List Request
fourth_updates =
    request (Adds (fact 0 (num 1 ∷ num 1 ∷ []))) []
    ∷ request (Enacts 3) []
    ∷ request (Replaces (named_null 0 1) (num 1)) []
    ∷ []

abbrev pub fourth_left : List Fact
fourth_left =
    fact 0 (null 0 1 ∷ num 1 ∷ [])
    ∷ fact 1 (num 3 ∷ Text (195 ∷ 169 ∷ []) ∷ num 2 ∷ [])
    ∷ []

-- ---- the fifth

abbrev pub fifth_rules : List Rule
fifth_rules =
    rule 2 2 (atom 2 (Var 0 ∷ Var 1 ∷ []) ∷ []) (atom 2 (Var 2 ∷ Var 3 ∷ []) ∷ atom 2 (Const (num 1) ∷ Var 2 ∷ []) ∷ [])
    ∷ rule 1 2 (atom 0 (Var 0 ∷ []) ∷ []) (atom 0 (Var 1 ∷ []) ∷ atom 1 (Var 2 ∷ []) ∷ [])
    ∷ added_rule 1 3 0 (atom 1 (Var 0 ∷ []) ∷ atom 2 (Var 1 ∷ Var 2 ∷ []) ∷ []) (atom 0 (Var 2 ∷ []) ∷ [])
    ∷ []

abbrev pub fifth_base : List Fact
fifth_base =
    fact 0 (num 1 ∷ [])
    ∷ fact 0 (null 0 1 ∷ [])
    ∷ fact 1 (num 1 ∷ [])
    ∷ fact 2 (num 1 ∷ null 0 3 ∷ [])
    ∷ fact 2 (null 0 3 ∷ null 0 1 ∷ [])
    ∷ []

abbrev pub fifth_updates : List Request
fifth_updates =
    request (Enacts 2) (Unify (fact 0 (num 1 ∷ [])) ∷ [])
    ∷ request (Removes (fact 0 (null 0 1 ∷ []))) (Drop (fact 2 (num 1 ∷ null 0 1 ∷ []) ∷ []) ∷ [])
    ∷ request (Adds (fact 2 (num 1 ∷ num 2 ∷ []))) []
    ∷ request (Removes (fact 0 (num 2 ∷ []))) []
    ∷ []

abbrev pub fifth_left : List Fact
fifth_left =
    fact 0 (num 1 ∷ [])
    ∷ fact 0 (num 2 ∷ [])
    ∷ fact 1 (num 1 ∷ [])
    ∷ fact 2 (num 1 ∷ num 1 ∷ [])
    ∷ fact 2 (num 1 ∷ num 2 ∷ [])
    ∷ []

-- ---- the sixth

abbrev pub sixth_rules : List Rule
sixth_rules =
    rule 2 1 (atom 0 (Var 0 ∷ []) ∷ atom 1 (Var 0 ∷ Var 1 ∷ []) ∷ []) (atom 1 (Var 1 ∷ Var 2 ∷ []) ∷ [])
    ∷ added_rule 2 2 0 (atom 1 (Var 0 ∷ Var 1 ∷ []) ∷ atom 1 (Var 1 ∷ Var 0 ∷ []) ∷ []) (atom 0 (Const (num 1) ∷ []) ∷ [])
    ∷ []

abbrev pub sixth_base : List Fact
sixth_base =
    fact 0 (num 2 ∷ [])
    ∷ fact 1 (num 1 ∷ null 0 3 ∷ [])
    ∷ []

abbrev pub sixth_updates : List Request
sixth_updates =
    request (Adds (fact 0 (num 1 ∷ []))) (Unify (fact 1 (num 1 ∷ null 0 3 ∷ [])) ∷ Expand ∷ [])
    ∷ request (Enacts 1) []
    ∷ request (Adds (fact 1 (num 2 ∷ num 1 ∷ []))) []
    ∷ request (Removes (fact 0 (num 1 ∷ []))) (Drop (fact 1 (num 2 ∷ num 1 ∷ []) ∷ []) ∷ [])
    ∷ request (Adds (fact 1 (num 2 ∷ num 2 ∷ []))) []
    ∷ []

abbrev pub sixth_left : List Fact
sixth_left =
    fact 0 (num 1 ∷ [])
    ∷ fact 0 (num 2 ∷ [])
    ∷ fact 1 (num 2 ∷ num 2 ∷ [])
    ∷ []

-- ---- what is made of them

pub record SampledAddedMappings : Type 0 where
  pub first : serial_result first_rules 14 first_base first_updates ≡ all_end (ends 1 Done 7 1 ∷ ends 2 (Refused (named_null 1 1)) 1 0 ∷ ends 3 Done 2 0 ∷ []) first_left
  pub second : serial_result second_rules 6 [] second_updates ≡ all_end (ends 1 Done 6 0 ∷ ends 2 Spent 6 1 ∷ ends 3 Done 3 0 ∷ []) second_left
  pub third : serial_result third_rules 20 [] third_updates ≡ stop_at (ends 1 Done 2 0 ∷ ends 2 Done 20 8 ∷ []) 3 (Positive (repair 0 (num 2 ∷ null 3 1 ∷ null 3 3 ∷ null 3 4 ∷ []) 0) (fact 2 (num 2 ∷ null 3 3 ∷ [])) (fact 2 (num 2 ∷ null 2 1 ∷ []) ∷ fact 2 (num 2 ∷ null 2 3 ∷ []) ∷ fact 2 (num 2 ∷ null 2 5 ∷ []) ∷ fact 2 (num 2 ∷ null 3 1 ∷ []) ∷ [])) Missing third_left
  pub fourth : serial_result fourth_rules 2 fourth_base fourth_updates ≡ all_end (ends 1 Spent 2 0 ∷ ends 2 Spent 2 1 ∷ ends 3 Spent 2 0 ∷ []) fourth_left
  pub fifth : serial_result fifth_rules 14 fifth_base fifth_updates ≡ stop_at (ends 1 Done 5 0 ∷ ends 2 Done 4 0 ∷ ends 3 Done 4 0 ∷ []) 4 (Negative 2 (fact 1 (num 1 ∷ []) ∷ fact 2 (num 1 ∷ num 2 ∷ []) ∷ [])) Missing fifth_left
  pub sixth : serial_result sixth_rules 5 sixth_base sixth_updates ≡ all_end (ends 1 Done 5 1 ∷ ends 2 Done 2 0 ∷ ends 3 Done 2 0 ∷ ends 4 Done 5 0 ∷ ends 5 Done 4 0 ∷ []) sixth_left

-- Sessions drawn at random, with the results of an independent implementation of the rules, written in another language from
-- their description.
use Rattle.std.specs.Prelude.{◌≡◌, List, [], ◌∷◌, codes, negsuc}
use Rattle.def_machine.specs.Standings.{Missing, Misfit}
use Rattle.def_chase.specs.Values.{Number, Text, Fact}
use Rattle.def_chase.specs.Mappings.{Var, Const, Rule}
use Rattle.def_chase.specs.Updates.{Adds, Removes, Replaces, Expand, Unify, Drop}
use Rattle.def_steps.specs.Attempts.{Done, Spent, Refused, Positive}
use Rattle.def_steps.specs.Serial.{Request, serial_result}
use Rattle.def_steps.specs.RowWords.{num, named_null, null, fact, atom, rule, request, repair, ends, all_end, stop_at}

-- ---- the first

abbrev pub first_rules : List Rule
first_rules =
    rule 2 1 (atom 0 (Var 0 ∷ []) ∷ atom 0 (Var 1 ∷ []) ∷ []) (atom 0 (Var 2 ∷ []) ∷ atom 1 (Var 1 ∷ Var 0 ∷ []) ∷ [])
    ∷ rule 1 1 (atom 0 (Var 0 ∷ []) ∷ atom 0 (Const (num 2) ∷ []) ∷ []) (atom 1 (Var 1 ∷ Var 0 ∷ []) ∷ [])
    ∷ []

abbrev pub first_updates : List Request
first_updates =
    request (Replaces (named_null 0 1) (null 0 1)) []
    ∷ request (Adds (fact 0 (num 2 ∷ []))) (Unify (fact 0 (num 2 ∷ [])) ∷ [])
    ∷ request (Adds (fact 0 (Text (195 ∷ 169 ∷ []) ∷ []))) (Unify (fact 0 (Text (195 ∷ 169 ∷ []) ∷ [])) ∷ Expand ∷ Expand ∷ Unify (fact 1 (num 2 ∷ num 2 ∷ [])) ∷ Unify (fact 0 (Text (195 ∷ 169 ∷ []) ∷ [])) ∷ Unify (fact 1 (num 2 ∷ num 2 ∷ [])) ∷ [])
    ∷ []

abbrev pub first_left : List Fact
first_left =
    fact 0 (num 2 ∷ [])
    ∷ fact 1 (num 2 ∷ num 2 ∷ [])
    ∷ []

-- ---- the second

abbrev pub second_rules : List Rule
second_rules =
    rule 3 0 (atom 3 (Var 0 ∷ Var 1 ∷ []) ∷ atom 0 (Var 2 ∷ []) ∷ []) (atom 1 (Var 2 ∷ Var 2 ∷ []) ∷ [])
    ∷ []

abbrev pub second_base : List Fact
second_base =
    fact 0 (null 0 3 ∷ [])
    ∷ fact 1 (num 9223372036854775807 ∷ num 1 ∷ [])
    ∷ fact 1 (null 0 3 ∷ null 0 3 ∷ [])
    ∷ fact 2 (num 2 ∷ num 2 ∷ Text (116 ∷ 9 ∷ 98 ∷ []) ∷ [])
    ∷ fact 3 (num 2 ∷ null 0 1 ∷ [])
    ∷ []

abbrev pub second_updates : List Request
second_updates =
    request (Adds (fact 3 (num 2 ∷ num 2 ∷ []))) []
    ∷ request (Removes (fact 1 (null 0 3 ∷ null 0 3 ∷ []))) (Drop (fact 3 (num 2 ∷ num 2 ∷ []) ∷ []) ∷ Drop (fact 0 (null 0 3 ∷ []) ∷ fact 3 (num 2 ∷ null 0 1 ∷ []) ∷ []) ∷ [])
    ∷ request (Adds (fact 0 (num 2 ∷ []))) []
    ∷ []

abbrev pub second_left : List Fact
second_left =
    fact 0 (num 2 ∷ [])
    ∷ fact 1 (num 9223372036854775807 ∷ num 1 ∷ [])
    ∷ fact 2 (num 2 ∷ num 2 ∷ Text (116 ∷ 9 ∷ 98 ∷ []) ∷ [])
    ∷ []

-- ---- the third

abbrev pub third_rules : List Rule
third_rules =
    rule 1 1 (atom 1 (Var 0 ∷ Var 0 ∷ []) ∷ []) (atom 0 (Var 1 ∷ []) ∷ [])
    ∷ rule 1 1 (atom 0 (Var 0 ∷ []) ∷ []) (atom 1 (Var 1 ∷ Var 1 ∷ []) ∷ atom 1 (Var 0 ∷ Var 0 ∷ []) ∷ [])
    ∷ []

abbrev pub third_base : List Fact
third_base =
    fact 1 (num 1 ∷ null 0 3 ∷ [])
    ∷ fact 2 (null 0 3 ∷ [])
    ∷ []

abbrev pub third_updates : List Request
third_updates =
    request (Adds (fact 1 (num 1 ∷ num 1 ∷ []))) (Unify (fact 1 (num 1 ∷ num 1 ∷ [])) ∷ Expand ∷ [])
    ∷ request (Adds (fact 1 (null 0 3 ∷ null 0 3 ∷ []))) (Expand ∷ [])
    ∷ request (Adds (fact 1 (num 1 ∷ num 1 ∷ []))) (Expand ∷ [])
    ∷ []

abbrev pub third_left : List Fact
third_left =
    fact 1 (num 1 ∷ null 0 3 ∷ [])
    ∷ fact 2 (null 0 3 ∷ [])
    ∷ []

-- ---- the fourth

abbrev pub fourth_rules : List Rule
fourth_rules =
    rule 1 0 (atom 1 (Var 0 ∷ []) ∷ []) (atom 0 (Const (num 1) ∷ Var 0 ∷ []) ∷ [])
    ∷ rule 2 1 (atom 2 (Var 0 ∷ []) ∷ atom 1 (Var 1 ∷ []) ∷ []) (atom 0 (Var 2 ∷ Var 1 ∷ []) ∷ atom 0 (Const (num 1) ∷ Var 1 ∷ []) ∷ [])
    ∷ rule 1 0 (atom 3 (Var 0 ∷ []) ∷ atom 2 (Var 0 ∷ []) ∷ []) (atom 0 (Const (num 2) ∷ Var 0 ∷ []) ∷ [])
    ∷ []

abbrev pub fourth_base : List Fact
fourth_base =
    fact 0 (num 1 ∷ null 0 1 ∷ [])
    ∷ fact 1 (null 0 1 ∷ [])
    ∷ fact 2 (Number (negsuc 9223372036854775807) ∷ [])
    ∷ []

abbrev pub fourth_updates : List Request
fourth_updates =
    request (Replaces (named_null 0 1) (num 2)) []
    ∷ request (Adds (fact 2 (Text (195 ∷ 169 ∷ []) ∷ []))) []
    ∷ request (Adds (fact 1 (null 2 1 ∷ []))) (Expand ∷ [])
    ∷ request (Removes (fact 0 (num 1 ∷ num 2 ∷ []))) []
    ∷ []

abbrev pub fourth_left : List Fact
fourth_left =
    fact 0 (num 1 ∷ num 2 ∷ [])
    ∷ fact 1 (num 2 ∷ [])
    ∷ fact 2 (Number (negsuc 9223372036854775807) ∷ [])
    ∷ fact 2 (Text (195 ∷ 169 ∷ []) ∷ [])
    ∷ []

-- ---- the fifth

abbrev pub fifth_rules : List Rule
fifth_rules =
    rule 1 1 (atom 0 (Var 0 ∷ []) ∷ []) (atom 3 (Var 0 ∷ []) ∷ atom 2 (Var 1 ∷ []) ∷ [])
    ∷ rule 1 0 (atom 0 (Var 0 ∷ []) ∷ []) (atom 1 (Var 0 ∷ Var 0 ∷ []) ∷ [])
    ∷ []

abbrev pub fifth_updates : List Request
fifth_updates =
    request (Adds (fact 0 (num 9223372036854775807 ∷ []))) []
    ∷ request (Adds (fact 0 (null 1 1 ∷ []))) (Expand ∷ Unify (fact 2 (num 3 ∷ [])) ∷ Expand ∷ [])
    ∷ request (Removes (fact 1 (num 9223372036854775807 ∷ num 9223372036854775807 ∷ []))) []
    ∷ []

abbrev pub fifth_left : List Fact
fifth_left =
    fact 0 (num 9223372036854775807 ∷ [])
    ∷ fact 1 (num 9223372036854775807 ∷ num 9223372036854775807 ∷ [])
    ∷ fact 2 (null 1 1 ∷ [])
    ∷ fact 3 (num 9223372036854775807 ∷ [])
    ∷ []

-- ---- the sixth

abbrev pub sixth_rules : List Rule
sixth_rules =
    rule 1 0 (atom 2 (Const (num 2) ∷ Var 0 ∷ []) ∷ []) (atom 3 (Var 0 ∷ Var 0 ∷ []) ∷ atom 3 (Var 0 ∷ Var 0 ∷ []) ∷ [])
    ∷ []

abbrev pub sixth_base : List Fact
sixth_base =
    fact 0 (num 2 ∷ [])
    ∷ fact 0 (Text (195 ∷ 169 ∷ []) ∷ [])
    ∷ fact 0 (null 0 1 ∷ [])
    ∷ fact 2 (null 0 2 ∷ num 1 ∷ [])
    ∷ []

abbrev pub sixth_updates : List Request
sixth_updates =
    request (Replaces (named_null 0 2) (num 2)) []
    ∷ request (Removes (fact 0 (num 2 ∷ []))) []
    ∷ []

abbrev pub sixth_left : List Fact
sixth_left =
    fact 0 (Text (195 ∷ 169 ∷ []) ∷ [])
    ∷ fact 0 (null 0 1 ∷ [])
    ∷ fact 2 (num 2 ∷ num 1 ∷ [])
    ∷ fact 3 (num 1 ∷ num 1 ∷ [])
    ∷ []

-- ---- the seventh

abbrev pub seventh_rules : List Rule
seventh_rules =
    rule 1 2 (atom 2 (Var 0 ∷ []) ∷ []) (atom 0 (Var 1 ∷ Var 2 ∷ Var 0 ∷ []) ∷ [])
    ∷ rule 2 0 (atom 1 (Var 0 ∷ Var 1 ∷ Var 0 ∷ []) ∷ []) (atom 2 (Var 1 ∷ []) ∷ [])
    ∷ rule 2 0 (atom 0 (Var 0 ∷ Var 1 ∷ Var 1 ∷ []) ∷ atom 0 (Var 1 ∷ Var 1 ∷ Var 1 ∷ []) ∷ []) (atom 3 (Var 1 ∷ []) ∷ [])
    ∷ []

abbrev pub seventh_base : List Fact
seventh_base =
    fact 0 (num 1 ∷ num 2 ∷ num 1 ∷ [])
    ∷ fact 0 (null 0 1 ∷ num 1 ∷ num 1 ∷ [])
    ∷ fact 1 (null 0 1 ∷ num 3 ∷ num 2 ∷ [])
    ∷ fact 2 (num 1 ∷ [])
    ∷ fact 3 (num 2 ∷ [])
    ∷ []

abbrev pub seventh_updates : List Request
seventh_updates =
    request (Replaces (named_null 0 1) (null 0 1)) []
    ∷ request (Replaces (named_null 0 1) (num 2)) []
    ∷ request (Adds (fact 0 (Text (codes "a") ∷ num 1 ∷ num 2 ∷ []))) []
    ∷ request (Adds (fact 1 (num 1 ∷ num 2 ∷ num 1 ∷ []))) []
    ∷ request (Adds (fact 1 (Text (codes "a") ∷ null 0 1 ∷ Text (codes "a") ∷ []))) (Expand ∷ [])
    ∷ []

abbrev pub seventh_left : List Fact
seventh_left =
    fact 0 (num 1 ∷ num 2 ∷ num 1 ∷ [])
    ∷ fact 0 (Text (codes "a") ∷ num 1 ∷ num 2 ∷ [])
    ∷ fact 0 (null 0 1 ∷ num 1 ∷ num 1 ∷ [])
    ∷ fact 1 (num 1 ∷ num 2 ∷ num 1 ∷ [])
    ∷ fact 1 (null 0 1 ∷ num 3 ∷ num 2 ∷ [])
    ∷ fact 2 (num 1 ∷ [])
    ∷ fact 2 (num 2 ∷ [])
    ∷ fact 3 (num 2 ∷ [])
    ∷ []

-- ---- what is made of them

pub record SampledSessions : Type 0 where
  pub first : serial_result first_rules 20 [] first_updates ≡ all_end (ends 1 (Refused (named_null 0 1)) 1 0 ∷ ends 2 Done 6 1 ∷ ends 3 Spent 20 5 ∷ []) first_left
  pub second : serial_result second_rules 6 second_base second_updates ≡ all_end (ends 1 Done 2 0 ∷ ends 2 Done 6 0 ∷ ends 3 Done 2 0 ∷ []) second_left
  pub third : serial_result third_rules 8 third_base third_updates ≡ stop_at (ends 1 Spent 8 2 ∷ []) 2 (Positive (repair 1 (null 2 1 ∷ null 2 2 ∷ []) 1) (fact 1 (null 2 1 ∷ null 2 1 ∷ [])) (fact 1 (null 0 3 ∷ null 0 3 ∷ []) ∷ fact 1 (null 2 2 ∷ null 2 2 ∷ []) ∷ [])) Missing third_left
  pub fourth : serial_result fourth_rules 2 fourth_base fourth_updates ≡ all_end (ends 1 Done 2 0 ∷ ends 2 Done 2 0 ∷ ends 3 (Refused (named_null 2 1)) 1 0 ∷ ends 4 Spent 2 0 ∷ []) fourth_left
  pub fifth : serial_result fifth_rules 8 [] fifth_updates ≡ stop_at (ends 1 Done 7 1 ∷ []) 2 (Positive (repair 0 (null 1 1 ∷ null 2 1 ∷ []) 1) (fact 2 (null 2 1 ∷ [])) (fact 2 (null 1 1 ∷ []) ∷ [])) Misfit fifth_left
  pub sixth : serial_result sixth_rules 8 sixth_base sixth_updates ≡ all_end (ends 1 Done 5 0 ∷ ends 2 Done 2 0 ∷ []) sixth_left
  pub seventh : serial_result seventh_rules 5 seventh_base seventh_updates ≡ all_end (ends 1 Done 2 0 ∷ ends 2 Spent 5 2 ∷ ends 3 Done 2 0 ∷ ends 4 Done 4 0 ∷ ends 5 Spent 5 2 ∷ []) seventh_left

-- Mappings of the program, as a session has them.
use Rattle.std.proofs.Common.{◌≡◌, List, [], ◌∷◌, ◌++◌, map, refl, ap}
use Rattle.base_types.specs.declared.mappings.Mapping.{Mapping}
use Rattle.base_types.specs.Meanings.{rule_of}
use Rattle.def_language.specs.Sessions.{mapping_names}
use Rattle.def_language.specs.Checks.{rules_of}
use Rattle.lang_schema.specs.Meanings.{session_mapping_of}

pub rules_are : (ms : List Mapping) (m : Mapping) → rules_of (map session_mapping_of ms ++ session_mapping_of m ∷ []) ≡ map rule_of ms ++ rule_of m ∷ []
rules_are [] m = refl
rules_are (x ∷ ms) m = ap (λ rs. rule_of x ∷ rs) (rules_are ms m)

pub names_are : (ms : List Mapping) → mapping_names (map session_mapping_of ms) ≡ map (λ m. m.name.items) ms
names_are [] = refl
names_are (x ∷ ms) = ap (λ ns. x.name.items ∷ ns) (names_are ms)

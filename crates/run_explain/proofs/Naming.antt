-- The name of the mapping of a number.
use Rattle.std.proofs.Common.{◌≡◌, refl, ℕ, zero, suc, List, [], ◌∷◌, map, Some, None}
use Rattle.std.specs.Prelude.{slice_get}
use Rattle.base_types.specs.declared.mappings.Mapping.{Mapping}
use Rattle.def_language.specs.Printing.{name_of}
use Rattle.def_language.specs.Sessions.{mapping_names}
use Rattle.lang_schema.specs.Meanings.{session_mapping_of}

pub mapping_name_at : (ms : List Mapping) (i : ℕ) (m : Mapping) → slice_get ms i ≡ Some m → name_of (mapping_names (map session_mapping_of ms)) i ≡ m.name.items
mapping_name_at [] i m at = cc
mapping_name_at (x ∷ ms) zero m at = cc
mapping_name_at (x ∷ ms) (suc i) m at = mapping_name_at ms i m at

pub no_mapping_name_at : (ms : List Mapping) (i : ℕ) → slice_get ms i ≡ None → name_of (mapping_names (map session_mapping_of ms)) i ≡ []
no_mapping_name_at [] i at = refl
no_mapping_name_at (x ∷ ms) zero at = cc
no_mapping_name_at (x ∷ ms) (suc i) at = no_mapping_name_at ms i at

use Rattle.std.proofs.Common.{◌≡◌, map, length, ◌++◌, ◌∷◌, []}
use Rattle.base_types.specs.Meanings.{rule_of}
use Rattle.def_language.specs.Cycles.{leads}
use Rattle.lang_checks.specs.Tables.{IsTableOf}
use Rattle.lang_checks.proofs.cycles.table_of.Given as goal

abbrev pub invariant-loop-relation : goal.invariant-loop-relation
invariant-loop-relation l = IsTableOf (leads (map rule_of l.mappings ++ rule_of l.last ∷ [])) l.rows.items × (length l.rows.items ≡ l.relation)

use Rattle.std.proofs.Common.{◌≡◌, map, length, ◌++◌, ◌∷◌, []}
use Rattle.base_types.specs.Meanings.{rule_of}
use Rattle.def_language.specs.Cycles.{leads, through}
use Rattle.lang_checks.specs.Tables.{IsTableOf}
use Rattle.lang_checks.proofs.cycles.has_plain_cycle.Given as goal

abbrev pub invariant-loop-between : goal.invariant-loop-between
invariant-loop-between l = IsTableOf (through (leads (map rule_of l.mappings ++ rule_of l.last ∷ [])) l.between) l.rows.items × (length l.rows.items ≡ l.relations)

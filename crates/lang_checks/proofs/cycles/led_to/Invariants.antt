use Rattle.std.proofs.Common.{◌≡◌, ℕ, ◌<◌, map, take}
use Rattle.base_types.specs.Meanings.{rule_of}
use Rattle.def_language.specs.Cycles.{leads}
use Rattle.lang_checks.specs.Tables.{among}
use Rattle.lang_checks.proofs.cycles.led_to.Given as goal

abbrev pub invariant-loop-mapping : goal.invariant-loop-mapping
invariant-loop-mapping l = (s : ℕ) → s < 128 → among l.found s ≡ leads (map rule_of (take l.mapping-index l.mappings)) l.relation s

use Rattle.std.proofs.Common.{◌≡◌, ℕ, ◌<◌, map, take}
use Rattle.std.specs.Prelude.{◌==◌, ◌&&◌}
use Rattle.std.specs.List.{list_any}
use Rattle.base_types.specs.Meanings.{pattern_of}
use Rattle.def_language.specs.Cycles.{is_plain}
use Rattle.lang_checks.specs.Tables.{among}
use Rattle.lang_checks.proofs.cycles.plain_right.Given as goal

abbrev pub invariant-loop-atom : goal.invariant-loop-atom
invariant-loop-atom l = (s : ℕ) → s < 128 → among l.found s ≡ list_any (λ a. (a.relation == s) && is_plain l.mapping.universal a) (map pattern_of (take l.atom-index l.atom-items))

use Rattle.std.proofs.Common.{◌≡◌, map, take}
use Rattle.base_types.specs.Meanings.{fact_of}
use Rattle.base_json.specs.Lines.{with_all}
use Rattle.run_explain.specs.Texts.{fact_json}
use Rattle.run_explain.proofs.texts.with_each_fact.Given as goal

-- The facts so far.
abbrev pub invariant-loop-tuple : goal.invariant-loop-tuple
invariant-loop-tuple l = l.line ≡ with_all l.initial.line (map (fact_json l.schema) (map fact_of (take l.tuple-index l.tuples)))

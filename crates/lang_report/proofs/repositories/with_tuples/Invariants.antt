use Rattle.std.proofs.Common.{◌≡◌, map, take}
use Rattle.base_types.specs.Meanings.{fact_of}
use Rattle.lang_print.specs.Lines.{with_lines}
use Rattle.lang_report.specs.Results.{tuple_words}
use Rattle.lang_report.proofs.repositories.with_tuples.Given as goal

abbrev pub invariant-loop-tuple : goal.invariant-loop-tuple
invariant-loop-tuple l = l.page ≡ with_lines (λ words. words) l.initial.page (map (tuple_words l.schema) (map fact_of (take l.tuple-index l.tuples)))

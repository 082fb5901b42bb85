use Rattle.std.proofs.Common.{◌≡◌, map, take}
use Rattle.base_types.specs.Meanings.{fact_of}
use Rattle.lang_print.specs.Lines.{with_lines}
use Rattle.lang_report.specs.Results.{candidate_lines}
use Rattle.lang_report.proofs.questions.with_candidates.Given as goal

abbrev pub invariant-loop-tuple : goal.invariant-loop-tuple
invariant-loop-tuple l = l.page ≡ with_lines (λ words. words) l.initial.page (candidate_lines l.schema (map fact_of (take l.tuple-index l.tuples)))

use Rattle.std.proofs.Common.{◌≡◌, map, take}
use Rattle.std.specs.List.{flat_map}
use Rattle.lang_session.specs.Meanings.{session_of}
use Rattle.run_explain.specs.ReasonMeanings.{reason_of}
use Rattle.run_explain.specs.Texts.{reason_line}
use Rattle.run_explain.proofs.texts.explanation_text.Given as goal

-- The lines of the reasons so far.
abbrev pub invariant-loop-reason : goal.invariant-loop-reason
invariant-loop-reason l = l.text.items ≡ flat_map (reason_line (session_of l.session)) (map reason_of (take l.reason-index l.explanation.items))

use Rattle.std.proofs.Common.{◌≡◌, map, take}
use Rattle.core_entries.specs.Meanings.{cause_of}
use Rattle.base_json.specs.Lines.{with_all}
use Rattle.audit_trace.specs.Traces.{cause_json}
use Rattle.audit_trace.proofs.causes.with_each_cause.Given as goal

abbrev pub invariant-loop-cause : goal.invariant-loop-cause
invariant-loop-cause l = l.line ≡ with_all l.initial.line (map cause_json (map cause_of (take l.cause-index l.causes)))

use Rattle.std.proofs.Common.{◌≡◌, map, take}
use Rattle.base_types.specs.Meanings.{change_of}
use Rattle.base_json.specs.Lines.{with_all}
use Rattle.audit_trace.specs.Traces.{write_json}
use Rattle.audit_trace.proofs.writes.with_each_write.Given as goal

abbrev pub invariant-loop-write : goal.invariant-loop-write
invariant-loop-write l = l.line ≡ with_all l.initial.line (map (write_json l.schema) (map change_of (take l.write-index l.writes)))

use Rattle.base_json.proofs.Adding.{lined}
use Rattle.audit_trace.proofs.traces.with_line.Goals as goal

pub returns : goal.returns
returns c = lined _ _ _ _ _ _ c.after.ensures c.in_ok-with_entry.ensures c.into_text-more.ensures c.in_ok-push.ensures.items

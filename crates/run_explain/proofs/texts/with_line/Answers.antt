use Rattle.base_json.proofs.Adding.{lined}
use Rattle.run_explain.proofs.texts.with_line.Goals as goal

pub returns : goal.returns
returns c = record { line = lined _ _ _ _ _ _ c.after.ensures c.in_ok-with_reason.ensures.json c.into_text-more.ensures c.in_ok-push.ensures.items }

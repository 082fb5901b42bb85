use Rattle.std.specs.Prelude.{◌+◌}
use Rattle.std.proofs.Common.{sym, subst, ◌∙◌}
use Rattle.audit_claims.specs.Verdicts.{IsFaultIn, NotAllowed, early}
use Rattle.audit_verdict.proofs.Judged.{all_are, some_are_not}
use Rattle.audit_verdict.proofs.Lined.{as_many}
use Rattle.audit_verdict.proofs.judging.at_the_end.Goals as goal

pub returns-then-whole : goal.returns-then-whole
returns-then-whole c = record {
  verdict = λ t lines stands count. (
    stands.H,
    stands.replays.history,
    stands.told,
    all_are t.over stands.H c.args.replay.now stands.replays c.is_whole-whole.result c.is_whole-whole.ensures.whole c.if-whole.true,
    count ∙ sym (as_many t.relations lines stands.H stands.told),
    c.is_quiet.ensures.quiet t.over stands.H stands.replays.replay,
  );
}

pub returns-else-whole : goal.returns-else-whole
returns-else-whole c = record {
  verdict = λ t lines stands count.
      subst (λ k. IsFaultIn t lines (k + 2) NotAllowed) (sym count)
      (early stands.H stands.replays.history stands.told (some_are_not t.over stands.H c.args.replay.now stands.replays c.is_whole-whole.result c.is_whole-whole.ensures.whole c.if-whole.false));
}

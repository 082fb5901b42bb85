use Rattle.std.proofs.Common.{refl, inl, inr, arith}
use Rattle.lang_session.specs.Meanings.{session_of}
use Rattle.base_roll.proofs.Gates.{split_byte}
use Rattle.run_journal.proofs.Heads.{some_of, none_of, nothing, next_of, no_next}
use Rattle.run_journal.proofs.SoFar.{read_more, breaks, no_commit_breaks, too_many_breaks}
use Rattle.run_journal.proofs.reading.read_commits.Goals as goal

pub returns-in_default : goal.returns-in_default
returns-in_default c = record {
  held = tt;
  fault = inr (breaks c.args.bytes.now (session_of c.args.session.now) c.records.commits _ c.records.rest.now c.records.facts c.records.invariant refl (inl (nothing c.records.rest.now (omega arith))));
}

pub returns-in_default-checked_add : goal.returns-in_default-checked_add
returns-in_default-checked_add c = record {
  held = tt;
  fault = inr (too_many_breaks c.args.bytes.now (session_of c.args.session.now) c.records.commits _ c.records.rest.now _ c.records.facts c.records.invariant refl
      (split_byte c.records.rest.now c.in-len1-up.len_at_least (omega arith)) (no_next c.checked_add.result c.records.commits c.in_default-checked_add.is c.checked_add.ensures));
}

pub returns-in_default-2 : goal.returns-in_default-2
returns-in_default-2 c = record {
  held = tt;
  fault = inr (no_commit_breaks c.args.bytes.now (session_of c.args.session.now) c.records.commits c.in-Some.number _ c.records.rest.now _ c.records.facts c.records.invariant refl
      (split_byte c.records.rest.now c.in-len1-up.len_at_least (omega arith)) (next_of c.checked_add.result c.records.commits c.in-Some.number c.in-Some.is c.checked_add.ensures)
      (none_of c.in_ok-more.field-0 c.in_default-2.is c.in_ok-more.ensures.none));
}

pub records-preserved : goal.records-preserved
records-preserved c =
    read_more c.args.bytes.now (session_of c.args.session.now) c.records.commits c.in-Some.number c.records.rest.now _ c.in-Some-2.more.now c.records.facts c.take_commit.new.facts c.records.invariant
    (split_byte c.records.rest.now c.in-len1-up.len_at_least (omega arith)) (next_of c.checked_add.result c.records.commits c.in-Some.number c.in-Some.is c.checked_add.ensures)
    (some_of _ c.in_ok-more.field-0 _ c.in-Some-2.is c.in_ok-more.ensures.some)

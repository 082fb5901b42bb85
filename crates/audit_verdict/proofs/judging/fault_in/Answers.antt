use Rattle.std.proofs.Common.{sym, subst, ◌∙◌}
use Rattle.std.proofs.lemmas.Bool.{false≢true}
use Rattle.audit_replay.specs.Replays.{HasMade}
use Rattle.audit_claims.specs.Claims.{IsClaimOn, claim_meant}
use Rattle.audit_verdict.proofs.Lines.{another, formless, goes_on, not_allowed, still}
use Rattle.audit_verdict.proofs.judging.fault_in.Goals as goal

pub returns-in_default-clause-judged : goal.returns-in_default-clause-judged
returns-in_default-clause-judged c =
    formless c.args.schema.now c.args.line.now c.args.replay.now c.args.replay.now (subst (IsClaimOn c.args.schema.now c.args.line.now) c.in_default.is c.in_ok-claim.ensures.claim)

pub returns-in_default-2-clause-judged : goal.returns-in_default-2-clause-judged
returns-in_default-2-clause-judged c =
    let told = subst (IsClaimOn c.args.schema.now c.args.line.now) c.in-Some.is c.in_ok-claim.ensures.claim in
    not_allowed c.args.schema.now c.args.line.now c.args.replay.now c.make.new.self (claim_meant c.in-Some.claim) told c.in-Some-event_of.event c.in-Some-event_of.ensures.event
    (subst (HasMade c.in-Some-event_of.event c.args.replay.now c.make.new.self) c.in_default-2.is c.in_ok-entry.ensures.made)

pub returns-then-branch-clause-judged : goal.returns-then-branch-clause-judged
returns-then-branch-clause-judged c =
    let told = subst (IsClaimOn c.args.schema.now c.args.line.now) c.in-Some.is c.in_ok-claim.ensures.claim in
    let made = subst (HasMade c.in-Some-event_of.event c.args.replay.now c.make.new.self) c.in-Some-2.is c.in_ok-entry.ensures.made in
    goes_on c.args.schema.now c.args.line.now c.args.replay.now c.make.new.self (claim_meant c.in-Some.claim) told c.in-Some-event_of.event c.in-Some-event_of.ensures.event
    c.in-Some-2.entry (λ t H r. c.attempts_are_runs.ensures t.over.rules t.over.budget r.some) made (c.in_ok-tells.ensures.tells.0 c.if-branch.true)

pub returns-clause-judged : goal.returns-clause-judged
returns-clause-judged c =
    let told = subst (IsClaimOn c.args.schema.now c.args.line.now) c.in-Some.is c.in_ok-claim.ensures.claim in
    let made = subst (HasMade c.in-Some-event_of.event c.args.replay.now c.make.new.self) c.in-Some-2.is c.in_ok-entry.ensures.made in
    another c.args.schema.now c.args.line.now c.args.replay.now c.make.new.self (claim_meant c.in-Some.claim) told c.in-Some-event_of.event c.in-Some-event_of.ensures.event
    c.in-Some-2.entry made (λ own. false≢true (sym c.if-branch.false ∙ c.in_ok-tells.ensures.tells.1 own))

pub returns-then-branch-clause-replay : goal.returns-then-branch-clause-replay
returns-then-branch-clause-replay c = still c.in-Some-event_of.event c.args.replay.now c.make.new.self c.in_ok-entry.field-0 c.requires.replay c.in_ok-entry.ensures.made

pub returns-clause-replay : goal.returns-clause-replay
returns-clause-replay c = still c.in-Some-event_of.event c.args.replay.now c.make.new.self c.in_ok-entry.field-0 c.requires.replay c.in_ok-entry.ensures.made

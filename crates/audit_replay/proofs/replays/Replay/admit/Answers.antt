use Rattle.std.proofs.Common.{◌≡◌, ◌∙◌, ap, refl, sym, suc, length, arith, rules}
use Rattle.std.specs.Prelude.{slice_get}
use Rattle.audit_replay.proofs.Following.{admission_follows, none_admitted}
use Rattle.audit_replay.proofs.Restarting.{within}
use Rattle.set_facts.proofs.Groups.{held_err}
use Rattle.audit_replay.proofs.Going.{left_with}
use Rattle.audit_replay.proofs.replays.Replay.admit.Goals as goal

pub returns-in_default : goal.returns-in_default
returns-in_default c =
    let many : length c.args.self.now.updates.items ≡ c.len-place.result = search rules in
    record { made = λ g H k. (none_admitted g H c.args.self.now k (c.in_default.ensures.there ∙ ap (slice_get c.args.self.now.handed.now) (sym many)), k); err = tt }

pub number_at-update-requires : goal.number_at-update-requires
number_at-update-requires c =
    let l = within c.args.self.now.handed.now c.len-place.result c.in-Some.next.now (sym c.in-Some.ensures.there) in
    record { few = omega (arith, l, c.requires.replay.replays.few) }

pub returns : goal.returns
returns c =
    let many : length c.args.self.now.updates.items ≡ c.len-place.result = search rules in
    record {
      made =
          λ g H k. admission_follows g H c.args.self.now _ c.in-Some.next.now c.number_at-update.result c.in_ok-audited.audited k (c.in-Some.ensures.there ∙ ap (slice_get c.args.self.now.handed.now) (sym many)) (c.number_at-update.ensures.number ∙ ap suc (sym many))
          c.in_ok-audited.ensures.admitted c.in_ok-audited.ensures.place refl refl refl refl refl c.in_ok-push.ensures.items;
      err = tt;
    }

pub returns-in_err-audited-clause-err : goal.returns-in_err-audited-clause-err
returns-in_err-audited-clause-err c = held_err c.from_residual.result (left_with c.args.self.now _ c.args.self.now.updates.items refl c.requires.replay.replays.numbers refl refl refl refl)

pub returns-in_err-push-clause-err : goal.returns-in_err-push-clause-err
returns-in_err-push-clause-err c = held_err c.from_residual-in_err-push.result (left_with c.args.self.now _ c.args.self.now.updates.items c.in_err-push.ensures.items c.requires.replay.replays.numbers refl refl refl refl)

use Rattle.std.proofs.Common.{◌∙◌, List, subst, sym}
use Rattle.base_limits.specs.Within.{AreWithin}
use Rattle.chase_plan.specs.Settled.{AreValidOver}
use Rattle.chase_query.specs.Meanings.{reads_in}
use Rattle.chase_query.specs.declared.log.Logged.{Logged}
use Rattle.core_engine.proofs.Planning.{can_step, steps_left, stands_applied, number_few, has_settled, snapshot_taken}
use Rattle.core_engine.proofs.plans.snapshot_of.Goals as goal

pub of-requires : goal.of-requires
of-requires c = record { within = subst AreWithin (sym c.list.ensures.rules) c.requires.within }

pub invariant_of-result : goal.invariant_of-result
invariant_of-result c =
    record {
      wanted = can_step c.args.item.now c.in_ok-program.program _ c.requires.ready c.in_ok-answer.ensures.wanted c.in_ok-program.ensures.same;
      left = steps_left c.args.item.now c.in_ok-program.program c.args.budget c.in_ok-program.ensures.same c.requires.left;
      applied = stands_applied _ c.args.versions.now c.in_ok-versions.versions c.args.item.now c.number.result c.in_ok-program.program c.in_ok-versions.ensures.same c.number.ensures.number c.in_ok-program.ensures.same c.requires.held;
      settled = has_settled _ c.of.result c.args.versions.now c.in_ok-versions.versions c.args.item.now c.number.result c.in_ok-program.program c.in_ok-settled.settled (c.of.ensures.rules ∙ c.list.ensures.rules) c.in_ok-versions.ensures.same c.number.ensures.number c.in_ok-program.ensures.same c.requires.held
          (λ D valid. c.in_ok-settled.ensures.settled D (subst (λ (rs : List Logged). AreValidOver c.args.mappings.now D c.args.item.now.program.attempt (reads_in rs)) (sym c.as_slice.ensures.items) valid));
      few = number_few _ c.args.versions.now c.args.item.now c.number.result c.number.ensures.number c.requires.held;
    }

pub returns : goal.returns
returns c =
    record {
      taken =
          snapshot_taken _ c.of.result c.args.budget c.args.versions.now c.in_ok-versions.versions c.args.item.now c.number.result c.in_ok-program.program _ (c.of.ensures.rules ∙ c.list.ensures.rules) c.in_ok-versions.ensures.same c.number.ensures.number
          c.in_ok-program.ensures.same c.in_ok-answer.ensures.next;
    }

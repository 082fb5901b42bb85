use Rattle.std.proofs.Common.{◌∙◌, ◌+◌, ap, sym}
use Rattle.std.specs.Prelude.{slice_set}
use Rattle.std.proofs.lemmas.Result.{err_from_is_err_and}
use Rattle.base_types.specs.Meanings.{choice_of}
use Rattle.def_language.specs.Sessions.{answer_count, curators, labels}
use Rattle.def_language.specs.Checks.{with_answer}
use Rattle.lang_checks.proofs.Answering.{changed_at, counted, few, more_answers, same_answers, standing, unchanged}
use Rattle.lang_checks.proofs.updates.Updates.answer.Goals as goal

pub invariant_of-self : goal.invariant_of-self
invariant_of-self c =
    let x = c.index_mut.result.now in
    let us = c.self.inside.updates.items in
    let there = standing us c.args.self.now c.args.place x c.self.view_is c.requires.there c.index_mut.ensures.value in
    let same = unchanged us c.args.place x (record { update = x.update; answers = c.push.new.self }) there (same_answers x c.push.new.self c.in_err-push.ensures.err) in (
      c.self.invariant.0 ∙ ap labels (sym same),
      c.self.invariant.1 ∙ ap curators (sym same),
      c.self.invariant.2 ∙ ap answer_count (sym same),
      few us c.args.place _ c.self.invariant.3,
    )

pub returns-in_err-push-clause-err : goal.returns-in_err-push-clause-err
returns-in_err-push-clause-err c =
    let x = c.index_mut.result.now in
    let us = c.self.inside.updates.items in
    let there = standing us c.args.self.now c.args.place x c.self.view_is c.requires.there c.index_mut.ensures.value in
    let p = err_from_is_err_and c.from_residual.result c.from_residual.ensures.1 in
    rw p.1 (unchanged us c.args.place x (record { update = x.update; answers = c.push.new.self }) there (same_answers x c.push.new.self c.in_err-push.ensures.err) ∙ c.self.view_is)

pub invariant_of-self-2 : goal.invariant_of-self-2
invariant_of-self-2 c =
    let x = c.index_mut.result.now in
    let us = c.self.inside.updates.items in
    let there = standing us c.args.self.now c.args.place x c.self.view_is c.requires.there c.index_mut.ensures.value in
    let more = counted us c.args.place x (record { update = x.update; answers = c.push.new.self }) (choice_of c.args.choice) there (more_answers x c.push.new.self c.args.choice c.in_ok-push.ensures.ok) in (
      c.self.invariant.0 ∙ sym more.0,
      c.self.invariant.1 ∙ sym more.1,
      ap (λ n. n + 1) c.self.invariant.2 ∙ sym more.2,
      few us c.args.place _ c.self.invariant.3,
    )

pub returns-clause-ok : goal.returns-clause-ok
returns-clause-ok c = λ u at.
    let x = c.index_mut.result.now in
    let us = c.self.inside.updates.items in
    let there = standing us c.args.self.now c.args.place x c.self.view_is c.requires.there c.index_mut.ensures.value in
    changed_at us c.args.place x (record { update = x.update; answers = c.push.new.self }) (choice_of c.args.choice) u there (more_answers x c.push.new.self c.args.choice c.in_ok-push.ensures.ok) (rw c.self.view_is at)
    ∙ ap (λ ms. slice_set ms c.args.place (with_answer u (choice_of c.args.choice))) c.self.view_is

use Rattle.std.proofs.lemmas.Result.{err_from_is_err_and}
use Rattle.base_types.specs.Meanings.{choice_of as choice_meant}
use Rattle.lang_forms.specs.Statements.{choice_of as choice_written}
use Rattle.lang_checks.proofs.Labelled.{no_room, passed, refused}
use Rattle.lang_checks.proofs.draft.Draft.add_answer.Goals as goal

pub returns-then-most_answers-answer_count-clause-taken :
    goal.returns-then-most_answers-answer_count-clause-taken
returns-then-most_answers-answer_count-clause-taken c =
    rw (c.limit.ensures, ← c.self.view_is) (no_room _ c.args.label.items (choice_written c.args.choice) c.in-Some.place c.most_answers.result c.answer_count.result c.in-Some.ensures.place c.in-Some.ensures.within.0 c.most_answers.ensures.most c.answer_count.ensures.count c.if-most_answers-answer_count.true)

pub returns-in_err-choice-clause-taken : goal.returns-in_err-choice-clause-taken
returns-in_err-choice-clause-taken c =
    let p = err_from_is_err_and c.from_residual.result c.from_residual.ensures.1 in
    rw (p.1, p.2, ← c.self.view_is) (refused _ c.args.label.items (choice_written c.args.choice) c.in-Some.place c.most_answers.result c.answer_count.result c.in_err-choice.field-0.0 c.in-Some.ensures.place c.in-Some.ensures.within.0 c.most_answers.ensures.most c.answer_count.ensures.count c.if-most_answers-answer_count.false c.in_err-choice.ensures)

pub returns-clause-taken : goal.returns-clause-taken
returns-clause-taken c =
    rw (← c.self.view_is) (passed _ c.args.label.items (choice_written c.args.choice) c.in-Some.place c.most_answers.result c.answer_count.result (choice_meant c.in_ok-choice.choice) c.answer.new.self c.in-Some.ensures.place c.in-Some.ensures.within.0 c.most_answers.ensures.most c.answer_count.ensures.count c.if-most_answers-answer_count.false c.in_ok-choice.ensures c.in_ok-answer.ensures.ok)

use Rattle.std.proofs.Common.{◌∙◌, sym, subst}
use Rattle.def_chase.specs.Queries.{Query, Reply, value}
use Rattle.def_chase.specs.Violations.{Caused}
use Rattle.chase_query.specs.Kinds.{IsOfKind}
use Rattle.chase_query.specs.Meanings.{query_of, reply_of}
use Rattle.chase_query.proofs.OfKind.{values_are_of_kind}
use Rattle.chase_update.specs.Courses.{course}
use Rattle.chase_update.specs.Wishes.{wish}
use Rattle.run_step.proofs.Answered.{answers_there, answered_same, answered_fewer, settled_there, takes}
use Rattle.run_step.proofs.stepping.answer_all.Goals as goal

pub take-taken-requires : goal.take-taken-requires
take-taken-requires c =
    let ms = c.args.mappings.now in
    let q = query_of c.in-Read.query.now in
    record {
      kind = takes ms (wish c.pass.new.self) q (reply_of c.in_ok-answer.answer) c.in-Read.ensures.want
          (subst (IsOfKind ms q) (sym (answers_there ms q (reply_of c.in_ok-answer.answer) c.queries.view c.args.view.now c.queries.invariant.same c.requires.rules c.in_ok-answer.ensures.value))
          (values_are_of_kind ms q c.args.view.now.below c.args.view.now.own (Caused c.args.view.now.heading) c.requires.sorted));
    }

pub queries-smaller : goal.queries-smaller
queries-smaller c =
    let ms = c.args.mappings.now in
    let val : Query → Reply = λ q. value ms q c.args.view.now.below c.args.view.now.own (Caused c.args.view.now.heading) in
    answered_fewer val (course ms c.queries.program) (course ms c.pass.new.self) (course ms c.take-taken.new.self) (query_of c.in-Read.query.now) (reply_of c.in_ok-answer.answer)
    (c.pass.ensures.passed val (settled_there ms c.settled.result.now c.queries.view c.args.view.now c.queries.invariant.same c.requires.rules c.settled.ensures.nothing))
    (c.in-Read.ensures.first ms)
    (answers_there ms (query_of c.in-Read.query.now) (reply_of c.in_ok-answer.answer) c.queries.view c.args.view.now c.queries.invariant.same c.requires.rules c.in_ok-answer.ensures.value) c.in_ok-taken.ensures.step

pub queries-preserved : goal.queries-preserved
queries-preserved c =
    let ms = c.args.mappings.now in
    let val : Query → Reply = λ q. value ms q c.args.view.now.below c.args.view.now.own (Caused c.args.view.now.heading) in
    record {
      same = cc;
      together =
          answered_same val (course ms c.queries.program) (course ms c.pass.new.self) (course ms c.take-taken.new.self) (query_of c.in-Read.query.now) (reply_of c.in_ok-answer.answer)
          (c.pass.ensures.passed val (settled_there ms c.settled.result.now c.queries.view c.args.view.now c.queries.invariant.same c.requires.rules c.settled.ensures.nothing))
          (c.in-Read.ensures.first ms)
          (answers_there ms (query_of c.in-Read.query.now) (reply_of c.in_ok-answer.answer) c.queries.view c.args.view.now c.queries.invariant.same c.requires.rules c.in_ok-answer.ensures.value) c.in_ok-taken.ensures.step
          ∙ c.queries.invariant.together;
    }

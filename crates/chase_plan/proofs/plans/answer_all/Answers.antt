use Rattle.std.proofs.Common.{◌≡◌, ◌∙◌, ap, sym, subst, List}
use Rattle.def_machine.specs.Trees.{result_of}
use Rattle.def_chase.specs.Queries.{Query, Reply, value}
use Rattle.def_chase.specs.Mappings.{Rule}
use Rattle.def_chase.specs.Violations.{Caused}
use Rattle.base_types.specs.Meanings.{heading_of}
use Rattle.chase_query.specs.Kinds.{IsOfKind}
use Rattle.chase_eval.specs.Watched.{AreSettled, seen_over}
use Rattle.chase_query.specs.Meanings.{query_of, reply_of}
use Rattle.chase_query.proofs.OfKind.{values_are_of_kind}
use Rattle.chase_update.specs.Courses.{course}
use Rattle.chase_update.specs.Settled.{FindsNone}
use Rattle.chase_update.specs.Wishes.{wish}
use Rattle.chase_plan.proofs.Answering.{goes_on, takes, reads_on, fewer}
use Rattle.chase_plan.proofs.plans.answer_all.Goals as goal

pub take-requires : goal.take-requires
take-requires g c =
    let ms = c.args.mappings.now in
    let q = query_of c.in-Read.query.now in
    let val : Query → Reply = λ p. value ms p c.args.view.now.below c.args.view.now.own (Caused (heading_of c.args.direction)) in
    let answer : reply_of c.in_ok-answer.answer ≡ val q = c.in_ok-answer.ensures.value ∙ ap (λ rules. value rules (query_of c.in_ok-query.query) c.args.view.now.below c.args.view.now.own (Caused (heading_of c.args.direction))) c.list.ensures.rules ∙ ap val c.in_ok-query.ensures.same in
    record {
      kind = takes ms (wish c.pass_logged.new.self) q (reply_of c.in_ok-answer.answer) c.in-Read.ensures.want
          (subst (IsOfKind ms q) (sym answer) (values_are_of_kind ms q c.args.view.now.below c.args.view.now.own (Caused (heading_of c.args.direction)) c.requires.sorted));
    }

pub queries-smaller : goal.queries-smaller
queries-smaller g c =
    let ms = c.args.mappings.now in
    let q = query_of c.in-Read.query.now in
    let val : Query → Reply = λ p. value ms p c.args.view.now.below c.args.view.now.own (Caused (heading_of c.args.direction)) in
    let answer : reply_of c.in_ok-answer.answer ≡ val q = c.in_ok-answer.ensures.value ∙ ap (λ rules. value rules (query_of c.in_ok-query.query) c.args.view.now.below c.args.view.now.own (Caused (heading_of c.args.direction))) c.list.ensures.rules ∙ ap val c.in_ok-query.ensures.same in
    let passed = c.in_ok-pass_logged.ensures.passed val (subst (FindsNone val) (sym c.marks.ensures.marks) c.queries.invariant.settled) in
    fewer val (course ms c.queries.program) (course ms c.pass_logged.new.self) (course ms c.take.new.self) q (reply_of c.in_ok-answer.answer)
    passed.shorter (goes_on val (course ms c.pass_logged.new.self) q (reply_of c.in_ok-answer.answer) (c.in-Read.ensures.first ms) answer) c.in_ok-take.ensures.step

pub queries-preserved : goal.queries-preserved
queries-preserved g c =
    let ms = c.args.mappings.now in
    let q = query_of c.in-Read.query.now in
    let a = reply_of c.in_ok-answer.answer in
    let val : Query → Reply = λ p. value ms p c.args.view.now.below c.args.view.now.own (Caused (heading_of c.args.direction)) in
    let answer : a ≡ val q = c.in_ok-answer.ensures.value ∙ ap (λ rules. value rules (query_of c.in_ok-query.query) c.args.view.now.below c.args.view.now.own (Caused (heading_of c.args.direction))) c.list.ensures.rules ∙ ap val c.in_ok-query.ensures.same in
    let passed = c.in_ok-pass_logged.ensures.passed val (subst (FindsNone val) (sym c.marks.ensures.marks) c.queries.invariant.settled) in
    let on = goes_on val (course ms c.pass_logged.new.self) q a (c.in-Read.ensures.first ms) answer in
    record {
      together = ap (result_of val) c.in_ok-take.ensures.step ∙ on.same ∙ passed.shorter.same ∙ c.queries.invariant.together;
      read =
          reads_on val c.args.made (course ms c.pass_logged.new.self) (course ms c.take.new.self) q a c.pass_logged.new.log.items _ _ _ on
          c.in_ok-take.ensures.step c.in_ok-push.ensures.ok (λ i. record { query = c.in_ok-query.ensures.same i; reply = a; own = c.args.made }) (sym passed.reads ∙ c.queries.invariant.read);
      settled = subst (λ (rules : List Rule). AreSettled (seen_over rules (heading_of c.args.direction) c.args.view.now) c.eval.new.settled) c.list.ensures.rules c.eval.ensures.settled;
    }

use Rattle.std.proofs.Common.{◌∙◌, ◌+◌, arith, refl, subst, sym}
use Rattle.chase_query.specs.Meanings.{reads_in}
use Rattle.chase_update.specs.Logged.{IsLogged}
use Rattle.chase_update.specs.Rows.{Violating, row_tree}
use Rattle.chase_update.proofs.Logging.{logged_on, logs_settled, passage_of_one}
use Rattle.chase_update.proofs.settled.log_marked.Goals as goal

pub places-preserved-then-place-end : goal.places-preserved-then-place-end
places-preserved-then-place-end c = λ val P finds number.
    let ms = c.args.mappings.now in
    let k = c.places.place in
    let end = c.end_of_passage-end.result in
    let before = reads_in c.places.log.items in
    logged_on val c.args.made (row_tree ms P (Violating c.args.from)) (row_tree ms P (Violating k)) (row_tree ms P (Violating end)) (reads_in c.args.log.now.items) before (reads_in c.log_passage.new.log.items) (c.places.invariant val P finds number)
    (subst (λ rs. IsLogged val c.args.made (row_tree ms P (Violating k)) before (row_tree ms P (Violating end)) rs) (sym c.in_ok-log_passage.ensures.logged) (c.end_of_passage-end.ensures.passed P.number c.args.made before val P finds refl))

pub places-preserved : goal.places-preserved
places-preserved c = λ val P finds number.
    let ms = c.args.mappings.now in
    let k = c.places.place in
    let next = c.in-Some.next in
    let before = reads_in c.places.log.items in
    let after = reads_in c.log_passage-in-Some.new.log.items in
    logged_on val c.args.made (row_tree ms P (Violating c.args.from)) (row_tree ms P (Violating k)) (row_tree ms P (Violating next)) (reads_in c.args.log.now.items) before after (c.places.invariant val P finds number)
    (logs_settled val ms P k c.args.made (k + 1) next before after (omega arith) (finds k (sym c.is_marked.ensures.mark ∙ c.places-test.true)) (c.in-Some.ensures.look P number)
    (c.in_ok-log_passage-in-Some.ensures.logged ∙ passage_of_one k (k + 1) c.args.made before refl))

use Rattle.std.proofs.Common.{◌∙◌, ap, map, subst, sym}
use Rattle.std.specs.Option.{option_map}
use Rattle.def_machine.specs.Updates.{shown}
use Rattle.def_chase.specs.Repository.{IsRepository}
use Rattle.def_chase.proofs.Sets.{apply_in_order}
use Rattle.chase_update.specs.Results.{finish_of, lack_of, stop_of}
use Rattle.lang_session.specs.Meanings.{request_of, update_of}
use Rattle.def_steps.specs.Chase.{caused_chase}
use Rattle.run_serial.specs.Runs.{after}
use Rattle.run_serial.proofs.Onward.{goes_on, stops_here}
use Rattle.run_serial.proofs.runs.turn.Goals as goal

pub returns-in_ok-stop-in-Some-clause-told : goal.returns-in_ok-stop-in-Some-clause-told
returns-in_ok-stop-in-Some-clause-told c = λ rs.
    ap (after (map finish_of c.args.finishes.now.items))
    (stops_here c.args.mappings.now c.args.budget c.args.facts.now c.args.number (request_of (update_of c.args.update.now)) rs
    c.in_ok-rest.rest.program.attempt (lack_of c.in-Some.lack) (stop_of c.in_ok-stop-in-Some.field-0)
    (c.in_ok-rest.ensures.rest ∙ ap (λ l. (c.in_ok-rest.rest.program.attempt, option_map lack_of l)) c.in-Some.is)
    c.in_ok-stop-in-Some.ensures.told)

pub returns-in_ok-end-in-None-clause-sorted : goal.returns-in_ok-end-in-None-clause-sorted
returns-in_ok-end-in-None-clause-sorted c =
    let ms = c.args.mappings.now in
    subst IsRepository (sym (c.in_ok-end-in-None.ensures.kept ms c.args.budget))
    (apply_in_order c.args.facts.now (shown (caused_chase ms c.args.budget) c.in_ok-rest.rest.program.attempt) c.requires.sorted)

pub returns-in_ok-end-in-None-clause-told : goal.returns-in_ok-end-in-None-clause-told
returns-in_ok-end-in-None-clause-told c = λ rs.
    goes_on c.args.mappings.now c.args.budget c.args.facts.now c.end.new.facts c.args.number (request_of (update_of c.args.update.now)) rs
    c.in_ok-rest.rest.program.attempt (map finish_of c.args.finishes.now.items) (map finish_of c.end.new.finishes.items)
    (c.in_ok-rest.ensures.rest ∙ ap (λ l. (c.in_ok-rest.rest.program.attempt, option_map lack_of l)) c.in-None.is)
    (c.in_ok-end-in-None.ensures.told c.args.number)
    (c.in_ok-end-in-None.ensures.kept c.args.mappings.now c.args.budget)

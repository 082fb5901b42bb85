use Rattle.std.proofs.Common.{◌∙◌, ap, subst, sym}
use Rattle.std.specs.Option.{option_map}
use Rattle.def_machine.specs.Updates.{shown}
use Rattle.def_chase.specs.Repository.{IsRepository}
use Rattle.def_chase.proofs.Sets.{apply_in_order}
use Rattle.chase_update.specs.Results.{lack_of, stop_of}
use Rattle.lang_session.specs.Meanings.{request_of, update_of}
use Rattle.def_steps.specs.Chase.{caused_chase}
use Rattle.run_serial.specs.Trails.{after, trails_of}
use Rattle.run_serial.proofs.Leaving.{goes_on, stops_here}
use Rattle.run_serial.proofs.trailing.turn.Goals as goal

pub returns-in_ok-stop-in-Some-clause-left : goal.returns-in_ok-stop-in-Some-clause-left
returns-in_ok-stop-in-Some-clause-left c = λ rs.
    ap (after (trails_of c.args.trails.now))
    (stops_here c.args.mappings.now c.args.budget c.args.facts.now c.args.number (request_of (update_of c.args.update.now)) rs
    c.in_ok-rest.rest.program.attempt (lack_of c.in-Some.lack) (stop_of c.in_ok-stop-in-Some.field-0)
    (c.in_ok-rest.ensures.rest ∙ ap (λ l. (c.in_ok-rest.rest.program.attempt, option_map lack_of l)) c.in-Some.is)
    c.in_ok-stop-in-Some.ensures.told)

pub returns-in_ok-end-in-None-clause-sorted : goal.returns-in_ok-end-in-None-clause-sorted
returns-in_ok-end-in-None-clause-sorted c =
    let ms = c.args.mappings.now in
    subst IsRepository (sym (c.in_ok-end-in-None.ensures.kept ms c.args.budget))
    (apply_in_order c.args.facts.now (shown (caused_chase ms c.args.budget) c.in_ok-rest.rest.program.attempt) c.requires.sorted)

pub returns-in_ok-end-in-None-clause-left : goal.returns-in_ok-end-in-None-clause-left
returns-in_ok-end-in-None-clause-left c = λ rs.
    goes_on c.args.mappings.now c.args.budget c.args.facts.now c.end.new.facts c.args.number (request_of (update_of c.args.update.now)) rs
    c.in_ok-rest.rest.program.attempt (trails_of c.args.trails.now) (trails_of c.end.new.trails)
    (c.in_ok-rest.ensures.rest ∙ ap (λ l. (c.in_ok-rest.rest.program.attempt, option_map lack_of l)) c.in-None.is)
    (c.in_ok-end-in-None.ensures.left c.args.mappings.now c.args.budget)
    (c.in_ok-end-in-None.ensures.kept c.args.mappings.now c.args.budget)

use Rattle.std.specs.Prelude.{if◌then◌else◌}
use Rattle.std.proofs.Common.{◌∙◌, ◌+◌, ◌++◌, ap, map, subst, sym, List, [], append_assoc}
use Rattle.std.specs.Option.{option_map}
use Rattle.def_machine.specs.Updates.{shown}
use Rattle.def_chase.specs.Repository.{IsRepository}
use Rattle.def_chase.proofs.Sets.{apply_in_order}
use Rattle.chase_update.specs.Results.{finish_of, lack_of, stop_of}
use Rattle.lang_session.specs.Meanings.{request_of, update_of}
use Rattle.def_steps.specs.Attempts.{outcome_in}
use Rattle.def_steps.specs.Chase.{caused_chase}
use Rattle.def_provenance.specs.Courses.{is_done_with}
use Rattle.def_provenance.specs.Notes.{Noted}
use Rattle.run_serial.specs.Runs.{after}
use Rattle.run_serial.proofs.Onward.{goes_on, stops_here}
use Rattle.run_note.specs.Meanings.{note_of}
use Rattle.run_explain.specs.Turns.{noted_from}
use Rattle.run_explain.proofs.Turning.{noted_on, noted_stop}
use Rattle.run_explain.proofs.runs.close.Goals as goal

pub returns-in_ok-stop-in-Some-clause-told : goal.returns-in_ok-stop-in-Some-clause-told
returns-in_ok-stop-in-Some-clause-told c = λ ms B u h rs.
    ap (after (map finish_of c.args.finishes.now.items))
    (stops_here ms B c.args.facts.now c.args.number (request_of (update_of u)) rs
    c.args.taken.program.attempt (lack_of c.in-Some.lack) (stop_of c.in_ok-stop-in-Some.field-0)
    (h.0 ∙ ap (λ l. (c.args.taken.program.attempt, option_map lack_of l)) c.in-Some.is)
    c.in_ok-stop-in-Some.ensures.told)

pub returns-in_ok-stop-in-Some-clause-noted : goal.returns-in_ok-stop-in-Some-clause-noted
returns-in_ok-stop-in-Some-clause-noted c = λ ms B u h rs.
    ap (λ (ns : List Noted). map note_of c.args.notes.now.items ++ ns)
    (noted_stop ms B c.args.facts.now c.args.number (request_of (update_of u)) rs
    c.args.taken.program.attempt (lack_of c.in-Some.lack)
    (h.0 ∙ ap (λ l. (c.args.taken.program.attempt, option_map lack_of l)) c.in-Some.is))

pub returns-in_ok-ended-in-None-clause-sorted : goal.returns-in_ok-ended-in-None-clause-sorted
returns-in_ok-ended-in-None-clause-sorted c =
    subst IsRepository (sym (c.in_ok-ended-in-None.ensures.kept [] 0))
    (apply_in_order c.args.facts.now (shown (caused_chase [] 0) c.args.taken.program.attempt) c.requires.sorted)

pub returns-in_ok-ended-in-None-clause-told : goal.returns-in_ok-ended-in-None-clause-told
returns-in_ok-ended-in-None-clause-told c = λ ms B u h rs.
    goes_on ms B c.args.facts.now c.ended.new.facts c.args.number (request_of (update_of u)) rs
    c.args.taken.program.attempt (map finish_of c.args.finishes.now.items) (map finish_of c.ended.new.finishes.items)
    (h.0 ∙ ap (λ l. (c.args.taken.program.attempt, option_map lack_of l)) c.in-None.is)
    (c.in_ok-ended-in-None.ensures.told c.args.number)
    (c.in_ok-ended-in-None.ensures.kept ms B)

pub returns-in_ok-ended-in-None-clause-noted : goal.returns-in_ok-ended-in-None-clause-noted
returns-in_ok-ended-in-None-clause-noted c = λ ms B u h rs.
    let P = c.args.taken.program.attempt in
    let before = map note_of c.args.notes.now.items in
    let later = noted_from ms B c.ended.new.facts (c.args.number + 1) rs in
    ap (λ (ns : List Noted). before ++ ns)
    (noted_on ms B c.args.facts.now c.ended.new.facts c.args.number (request_of (update_of u)) rs P
    (h.0 ∙ ap (λ l. (P, option_map lack_of l)) c.in-None.is)
    (c.in_ok-ended-in-None.ensures.kept ms B))
    ∙ ap (λ (ns : List Noted). before ++ ((if is_done_with (outcome_in P.phase) then ns else []) ++ later)) (sym h.1)
    ∙ sym (append_assoc before (if is_done_with (outcome_in P.phase) then map note_of c.args.taken.notes.items else []) later)
    ∙ ap (λ (ns : List Noted). ns ++ later) (sym c.in_ok-ended-in-None.ensures.noted)

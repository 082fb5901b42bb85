use Rattle.std.proofs.Common.{◌∙◌, ap, List, map}
use Rattle.std.specs.Option.{option_map, option_copied}
use Rattle.def_chase.specs.Repository.{Change, apply}
use Rattle.base_types.specs.Meanings.{choice_of, fact_of}
use Rattle.chase_eval.specs.Watched.{Watched}
use Rattle.chase_update.specs.Courses.{between}
use Rattle.def_provenance.specs.Notes.{note}
use Rattle.def_provenance.specs.Puts.{way_in}
use Rattle.run_step.specs.Turns.{stepped}
use Rattle.run_note.specs.Meanings.{way_of}
use Rattle.run_note.specs.Steps.{step_of}
use Rattle.run_note.proofs.Writing.{note_made}
use Rattle.run_note.proofs.made.noted.Goals as goal

pub returns-clause-note : goal.returns-clause-note
returns-clause-note c =
    let ms = c.args.mappings.now in
    let view = c.args.view.now in
    let P = c.args.program.now.attempt in
    let choice = option_map choice_of (option_copied c.args.choice) in
    note_made ms c.args.budget view.below P choice c.carry_out.new.program c.number.result c.steps.result (way_of c.in_ok-way.way)
    (map fact_of c.in_ok-changed.changed.deleted.items) (map fact_of c.in_ok-changed.changed.puts.items)
    (c.in_ok-changed.ensures.stepped ∙ ap (λ (v : Watched). between (stepped ms c.args.budget v.below P choice)) c.way.ensures.same)
    c.number.ensures.number c.steps.ensures.steps
    (c.in_ok-way.ensures.way ∙ ap (λ (own : List Change). way_in ms (apply view.below own) P.operation choice P.phase) c.requires.seen)
    (c.in_ok-changed.ensures.changed.0 ∙ ap (λ (v : Watched). (note (step_of ms v.below P choice)).deleted) c.way.ensures.same)
    (c.in_ok-changed.ensures.changed.1 ∙ ap (λ (v : Watched). (note (step_of ms v.below P choice)).puts) c.way.ensures.same)

use Rattle.std.proofs.Common.{◌∙◌, ◌-◌, ap, map, sym}
use Rattle.std.proofs.Math.Bool.{or-false}
use Rattle.base_types.specs.Contents.{rules_in}
use Rattle.base_types.specs.Meanings.{change_of, heading_of}
use Rattle.chase_query.specs.Meanings.{reads_of, read_of}
use Rattle.chase_query.specs.declared.log.Logged.{Logged}
use Rattle.core_conflict.specs.Changes.{meets_any_apart}
use Rattle.core_conflict.specs.Concerns.{is_met_apart}
use Rattle.core_conflict.specs.Trails.{trails_of}
use Rattle.core_conflict.proofs.Unmet.{passage_unmet}
use Rattle.core_conflict.proofs.concerns.Reader.meets_entry_apart.Goals as goal

pub returns-in-Asked : goal.returns-in-Asked
returns-in-Asked c =
    let r = c.args.self.now in
    let ms = rules_in r.mappings.now in
    let h = heading_of r.direction in
    let own = map change_of r.own.now in
    let ts = trails_of c.args.trails.now in
    c.is_met_apart.ensures ∙ sym (or-false (is_met_apart ms h own r.sense ts (read_of c.in-Asked.read)))
    ∙ ap (λ (e : Logged). meets_any_apart ms h own r.sense ts (reads_of e)) (sym c.in-Asked.is)

pub returns-in-Passed : goal.returns-in-Passed
returns-in-Passed c =
    let r = c.args.self.now in
    let ms = rules_in r.mappings.now in
    let h = heading_of r.direction in
    let own = map change_of r.own.now in
    let ts = trails_of c.args.trails.now in
    let passage = c.in-Passed.field-0 in
    passage_unmet ms h own r.sense ts passage.start (passage.end - passage.start) passage.own ∙ ap (λ (e : Logged). meets_any_apart ms h own r.sense ts (reads_of e)) (sym c.in-Passed.is)

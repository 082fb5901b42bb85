-- What values become by the steps of a run.
use Rattle.std.specs.Prelude.{List, [], ◌∷◌, map}
use Rattle.def_chase.specs.Values.{Datum}
use Rattle.def_provenance.specs.Puts.{Way, Inserts, Generates, Rewrites}
use Rattle.run_note.specs.Meanings.{way_of}
use Rattle.ws_run.specs.declared.threads.Step.{Step}

-- What a value becomes by a step that went this way.
abbrev pub moved_way : Way → Datum → Datum
moved_way Inserts d = d
moved_way (Generates n image) d = d
moved_way (Rewrites f) d = f d

-- What it becomes by steps in turn.
abbrev pub moved_over : List Way → Datum → Datum
moved_over [] d = d
moved_over (w ∷ ws) d = moved_over ws (moved_way w d)

abbrev pub step_way : Step → Way
step_way s = way_of s.note.way

abbrev pub ways_of : List Step → List Way
ways_of ss = map step_way ss

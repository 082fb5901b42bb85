-- What notes mean.
use Rattle.base_types.specs.Contents.{facts_of}
use Rattle.base_types.specs.Maps.{images_of, moved_by}
use Rattle.base_types.specs.Meanings.{datum_of}
use Rattle.def_chase.specs.Values.{Datum}
use Rattle.def_provenance.specs.Puts.{Way, Inserts, Generates, Rewrites}
use Rattle.def_provenance.specs.Notes.{Noted}
use Rattle.def_steps.specs.Rewriting.{replacing}
use Rattle.run_note.specs.declared.notes.Way.{Way as WayOfProgram}
use Rattle.run_note.specs.declared.notes.Way.TheVariants.{Inserts as InsertsWay, Generates as GeneratesWay, Rewrites as RewritesWay}
use Rattle.run_note.specs.declared.notes.Rewriting.{Rewriting}
use Rattle.run_note.specs.declared.notes.Rewriting.TheVariants.{Replaces, Unifies}
use Rattle.run_note.specs.declared.notes.Note.{Note}

-- The substitution that a `Rewriting` stands for.
abbrev pub rewriting_of : Rewriting → Datum → Datum
rewriting_of (Replaces from to) = replacing (datum_of from) (datum_of to)
rewriting_of (Unifies sub) = moved_by (images_of sub)

-- The way that a `Way` stands for.
abbrev pub way_of : WayOfProgram → Way
way_of InsertsWay = Inserts
way_of (GeneratesWay n image) = Generates n (facts_of image)
way_of (RewritesWay r) = Rewrites (rewriting_of r)

-- What a `Note` notes.
abbrev pub note_of : Note → Noted
note_of n = record { update = n.update; step = n.step; way = way_of n.way; deleted = facts_of n.deleted; puts = facts_of n.puts }

-- The notes of the steps of a run: of each step that puts a tuple, with the tuples that it puts.
use Rattle.std.specs.Prelude.{ℕ, List, [], ◌∷◌, ◌++◌, map, filter}
use Rattle.std.specs.List.{flat_map}
use Rattle.def_chase.specs.Values.{Fact}
use Rattle.def_chase.specs.Repository.{has}
use Rattle.def_provenance.specs.Puts.{Way, Step, puts, inserted, deleted}
use Rattle.def_provenance.specs.Reasons.{Reason, how_by, rooted, sought_before}

-- A note: a step, with the tuples that it put and those that it deleted.
pub record Noted : Type 0 where
  pub update : ℕ
  pub step : ℕ
  pub way : Way
  pub deleted : List Fact
  pub puts : List Fact

abbrev pub note : Step → Noted
note s =
    record {
      update = s.update;
      step = s.step;
      way = s.way;
      deleted = deleted s.writes;
      puts = filter (puts s) (inserted s.writes);
    }

-- The note, unless nothing was put.
abbrev pub unless_none : List Fact → Noted → List Noted
unless_none [] n = []
unless_none (t ∷ ts) n = n ∷ []

-- The note of a step; none if the step puts no tuple.
abbrev pub noted : Step → List Noted
noted s = unless_none (note s).puts (note s)

-- The notes of steps, in their order.
abbrev pub notes_of : List Step → List Noted
notes_of ss = flat_map noted ss

-- The reason for a tuple at the step that put it, by the step's note.
abbrev pub reason_by : Noted → Fact → Reason
reason_by n t = record { tuple = t; how = how_by n.update n.step n.deleted t n.way }

-- The reasons for these tuples by these notes, the last one first.
abbrev pub told_by : List Noted → List Fact → List Reason
told_by [] sought = map rooted sought
told_by (n ∷ earlier) sought =
    map (reason_by n) (filter (has n.puts) sought)
    ++ told_by earlier (sought_before (has n.puts) (map (reason_by n) (filter (has n.puts) sought)) sought)

-- The nulls that a mapping draws, as the program goes over them.
use Rattle.std.specs.Prelude.{◌≡◌, ℕ, suc, ◌+◌}
use Rattle.base_types.specs.Contents.{facts_of}
use Rattle.def_workspace.specs.Runs.{Thread, draw_one, draw_from}
use Rattle.ws_lines.specs.Meanings.{source_of}
use Rattle.ws_run.specs.declared.drawing.Drawn.{Drawn}

-- The null at place k gets its name.
abbrev pub draw_next : Drawn → ℕ → Thread → Thread
draw_next d k t = draw_one d.number d.op (source_of d.source) (facts_of d.image) k d.variable t

-- The n nulls after the first k get their names.
abbrev pub draw_all : Drawn → ℕ → ℕ → Thread → Thread
draw_all d n k t = draw_from d.number d.op (source_of d.source) (facts_of d.image) n (suc k) d.variable t

-- The next variable comes.
pub record HasNext (d e : Drawn) : Type 0 where
  pub number : e.number ≡ d.number
  pub op : e.op ≡ d.op
  pub source : e.source ≡ d.source
  pub image : e.image ≡ d.image
  pub variable : e.variable ≡ d.variable + 1

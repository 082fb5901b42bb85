use Rattle.std.proofs.Common.{◌∙◌, sym}
use Rattle.def_language.specs.Names.{same_name}
use Rattle.lang_schema.proofs.Named.{position_map}
use Rattle.lang_schema.proofs.names.Names.find.Goals as goal

pub returns-clause-place : goal.returns-clause-place
returns-clause-place c = rw (← c.self.view_is, ← c.as_slice.ensures.items) (c.get_index_of.ensures.index ∙ sym (position_map (λ k. k.items) (same_name c.as_slice.result.now) c.self.inside.names.keys))

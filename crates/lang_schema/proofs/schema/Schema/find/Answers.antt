use Rattle.std.proofs.Common.{◌∙◌}
use Rattle.lang_schema.proofs.Named.{key_place}
use Rattle.lang_schema.proofs.schema.Schema.find.Goals as goal

pub returns-in-Some : goal.returns-in-Some
returns-in-Some c = record { place = rw (← c.self.view_is, ← c.as_slice.ensures.items) (c.in-Some.ensures.index ∙ key_place (λ k. k.items) c.as_slice.result.now c.self.inside.relations.entries) }

pub returns-in-None : goal.returns-in-None
returns-in-None c = record { place = rw (← c.self.view_is, ← c.as_slice.ensures.items) (c.in-None.ensures.index ∙ key_place (λ k. k.items) c.as_slice.result.now c.self.inside.relations.entries) }

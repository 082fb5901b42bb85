use Rattle.std.proofs.Common.{sym}
use Rattle.lang_schema.proofs.Named.{name_at}
use Rattle.lang_schema.proofs.schema.Schema.name.Goals as goal

pub returns-in-Some : goal.returns-in-Some
returns-in-Some c = record { name = rw (← c.self.view_is, c.as_slice.ensures.value) (name_at (λ k. k.items) c.self.inside.relations.entries c.args.relation c.in-Some.name.now c.in-Some.field-0-1.now (sym c.in-Some.ensures.entry)) }

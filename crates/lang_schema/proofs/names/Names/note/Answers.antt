use Rattle.lang_schema.proofs.Noted.{noted}
use Rattle.lang_schema.proofs.names.Names.note.Goals as goal

pub returns-clause-ok : goal.returns-clause-ok
returns-clause-ok c = rw (c.in_ok-insert.ensures.keys, ← c.self.view_is) (noted (λ k. k.items) c.self.inside.names.keys c.args.name)

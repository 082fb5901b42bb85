use Rattle.std.proofs.Common.{◌≡◌, ◌∙◌, ap, List}
use Rattle.base_types.specs.Meanings.{operation_of}
use Rattle.def_language.specs.Sessions.{RelationSchema}
use Rattle.lang_session.specs.Admissible.{admits}
use Rattle.core_engine.specs.States.{State}
use Rattle.core_engine.proofs.cores.Core.admits.Goals as goal

pub returns : goal.returns
returns c =
    let relations : c.self.inside.schema.now ≡ c.args.self.now.relations = ap (λ (t : State). t.relations) c.self.view_is in
    let count = c.count.ensures.count in
    record { admits = c.admits.ensures.admits ∙ (λ i. admits (relations i) (count i) (operation_of c.args.update.now.operation)) }

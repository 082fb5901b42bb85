use Rattle.std.proofs.Common.{◌∙◌, ap}
use Rattle.std.specs.Prelude.{is_some}
use Rattle.def_language.specs.Names.{same_name}
use Rattle.def_language.specs.Sessions.{relation_names}
use Rattle.lang_schema.proofs.Named.{has_place}
use Rattle.lang_checks.proofs.limits.has_relation.Goals as goal

pub returns : goal.returns
returns c = record { one = c.is_some.ensures ∙ ap is_some c.find.ensures.place ∙ has_place (same_name c.args.name.now.items) (relation_names c.args.schema.now) }

use Rattle.std.proofs.Common.{◌∙◌, sym}
use Rattle.def_language.specs.Names.{same_name}
use Rattle.lang_schema.proofs.Known.{after_last}
use Rattle.lang_schema.proofs.variables.Variables.place_of.Goals as goal

pub returns-in-None : goal.returns-in-None
returns-in-None c = rw (← c.self.view_is) (c.len.ensures.length ∙ sym (after_last (same_name c.args.name.now.items) c.self.inside.names.items c.in-None.ensures.place))

use Rattle.std.proofs.Common.{◌∙◌, sym}
use Rattle.run_explain.proofs.Naming.{mapping_name_at, no_mapping_name_at}
use Rattle.run_explain.proofs.texts.mapping_name.Goals as goal

pub returns-in-Some : goal.returns-in-Some
returns-in-Some c = record { name = c.as_slice.ensures.items ∙ sym (mapping_name_at c.args.mappings.now.items c.args.number c.in-Some.mapping.now (sym c.in-Some.ensures.item)) }

pub returns-in-None : goal.returns-in-None
returns-in-None c = record { name = sym (no_mapping_name_at c.args.mappings.now.items c.args.number (sym c.in-None.ensures.item)) }

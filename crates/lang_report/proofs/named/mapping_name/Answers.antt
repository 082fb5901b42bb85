use Rattle.std.proofs.Common.{◌∙◌, sym}
use Rattle.lang_report.proofs.Told.{mapping_name_at, no_mapping_name_at}
use Rattle.lang_report.proofs.named.mapping_name.Goals as goal

pub returns-in-Some : goal.returns-in-Some
returns-in-Some c = c.as_slice.ensures.items ∙ sym (mapping_name_at c.args.mappings.now.items c.args.number c.in-Some.mapping.now (sym c.in-Some.ensures.item))

pub returns-in-None : goal.returns-in-None
returns-in-None c = sym (no_mapping_name_at c.args.mappings.now.items c.args.number (sym c.in-None.ensures.item))

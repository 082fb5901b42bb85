use Rattle.std.proofs.Common.{◌∙◌}
use Rattle.set_versions.proofs.Seeing.{all_reached}
use Rattle.set_versions.proofs.tables.Table.cursor.Goals as goal

pub returns : goal.returns
returns c = record { rows = c.cursor.ensures.rest ∙ all_reached c.self.inside.rows ∙ c.self.view_is }

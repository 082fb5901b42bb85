use Rattle.std.proofs.Common.{ap, sym, map, ◌∙◌}
use Rattle.std.specs.Prelude.{reverse}
use Rattle.base_types.specs.Contents.{changes_of}
use Rattle.audit_replay.specs.Levels.{top}
use Rattle.audit_replay.proofs.Descending.{top_descended}
use Rattle.audit_replay.proofs.levels.Levels.facts.Goals as goal

pub returns : goal.returns
returns c = record { top = sym (top_descended c.self.inside.facts (reverse (map changes_of c.self.inside.back.items))) ∙ ap top c.self.view_is }

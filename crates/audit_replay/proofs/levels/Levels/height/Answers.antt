use Rattle.std.proofs.Common.{◌≡◌, ap, sym, suc, map, length, ◌∙◌, rules}
use Rattle.base_types.specs.Contents.{changes_of}
use Rattle.std.proofs.lemmas.List.{length-map}
use Rattle.audit_replay.proofs.Descending.{many_kept}
use Rattle.audit_replay.proofs.levels.Levels.height.Goals as goal

pub returns : goal.returns
returns c =
    let many : length c.self.inside.back.items ≡ c.len.result = search rules in
    record { height = sym (ap length c.self.view_is) ∙ (many_kept c.self.inside.facts (map changes_of c.self.inside.back.items) ∙ ap suc (length-map c.self.inside.back.items changes_of ∙ many)) }

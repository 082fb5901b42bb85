use Rattle.std.proofs.Common.{◌∙◌, ap, sym}
use Rattle.std.specs.Prelude.{is_some}
use Rattle.def_chase.specs.Cursors.{is_of}
use Rattle.def_chase.proofs.Searches.{found_any}
use Rattle.set_facts.proofs.plain.PlainFacts.lacks.Goals as goal

pub returns : goal.returns
returns c = record { none = λ h. sym (found_any (is_of c.args.relation) c.args.self.now) ∙ ap is_some (c.ends_before.ensures.none h) }

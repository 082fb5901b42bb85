use Rattle.std.proofs.Common.{ap, sym, ◌∙◌, find}
use Rattle.std.specs.Option.{option_map}
use Rattle.base_tree.proofs.Keeping.{find_keys}
use Rattle.base_tree.proofs.sets.TreeSet.seek.Goals as goal

pub returns-in-Some-clause-found : goal.returns-in-Some-clause-found
returns-in-Some-clause-found g c =
    let p = g.C.Cut.reaches c.args.cut.now in
    ap (option_map (λ e. e.0)) c.in-Some.ensures.found ∙ sym (find_keys p c.self.inside.map) ∙ ap (find p) c.self.view_is

pub returns-in-None-clause-found : goal.returns-in-None-clause-found
returns-in-None-clause-found g c =
    let p = g.C.Cut.reaches c.args.cut.now in
    ap (option_map (λ e. e.0)) c.in-None.ensures.found ∙ sym (find_keys p c.self.inside.map) ∙ ap (find p) c.self.view_is

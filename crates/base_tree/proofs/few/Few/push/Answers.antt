use Rattle.std.proofs.Common.{◌≤◌, ap, sym, subst, ◌∙◌, ◌∷◌, []}
use Rattle.base_tree.specs.Few.{Batch, with_first}
use Rattle.base_tree.proofs.Places.{one_more}
use Rattle.base_tree.proofs.few.Few.push.Goals as goal

pub returns : goal.returns
returns g c =
    let room = subst (λ n. 1 ≤ n) (ap (λ (b : Batch g.row.T.Denot). b.room) (sym c.self.view_is)) c.requires.room in
    record {
      added =
          one_more c.self.inside.items.items c.push.new.self.items c.self.inside.given c.args.item c.push.ensures.items c.self.invariant.1 room
          ∙ ap (λ (b : Batch g.row.T.Denot). with_first b (c.args.item.now ∷ [])) c.self.view_is;
    }

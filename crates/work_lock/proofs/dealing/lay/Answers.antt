use Rattle.std.proofs.Common.{ap, ◌≡◌, ◌∷◌, ◌++◌, ◌∙◌, [], Some}
use Rattle.work_lock.proofs.Ends.{opens}
use Rattle.work_lock.proofs.dealing.lay.Goals as goal

pub new-requires : goal.new-requires
new-requires g c =
    let i = rw c.in_default.is at c.push.ensures.items in
    let items : c.push.new.self.items ≡ Some c.args.value ∷ [] = i ∙ ap (λ l. l ++ Some c.args.value ∷ []) c.new-slots.ensures.items in
    rw (items, c.of-about.ensures) (opens g.V.Grows.entries c.args.value c.length-length.result c.length-length.ensures)

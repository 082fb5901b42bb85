use Rattle.std.proofs.Common.{◌≡◌, map, take}
use Rattle.base_types.proofs.copying.ListTryCopy.copy.Given as goal

-- What has been copied means the same as what has been gone over.
abbrev pub invariant-loop-item : goal.invariant-loop-item
invariant-loop-item g l = map g.T.TryCopy.meaning l.all.items ≡ map g.T.TryCopy.meaning (take l.item-index l.item-items)

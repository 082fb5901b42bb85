use Rattle.std.proofs.Common.{◌≡◌, take, map}
use Rattle.lang_schema.proofs.names.Names.list.Given as goal

abbrev pub invariant-loop-name : goal.invariant-loop-name
invariant-loop-name l = map (λ n. n.items) l.names.items ≡ map (λ n. n.items) (take l.name-index l.name-items)

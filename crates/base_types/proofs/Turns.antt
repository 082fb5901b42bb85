-- One turn of a comparison item by item: a difference decides, and else the rest does.
use Rattle.std.proofs.Common.{◌≡◌, refl, true, false}
use Rattle.std.specs.declared.cmp.Ordering.{Ordering}
use Rattle.std.specs.declared.cmp.Ordering.TheVariants.{Less, Equal, Greater}
use Rattle.std.specs.Ordering.{is_ne, ordering_then}

pub decides : (o rest : Ordering) → is_ne o ≡ true → o ≡ ordering_then o rest
decides Less rest e = refl
decides Equal rest e = cc
decides Greater rest e = refl

pub defers : (o rest : Ordering) → is_ne o ≡ false → rest ≡ ordering_then o rest
defers Less rest e = cc
defers Equal rest e = refl
defers Greater rest e = cc

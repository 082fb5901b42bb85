-- What is found is there, whatever it is read as.
use Rattle.std.proofs.Common.{◌≡◌, refl, is_some, Option, Some, None}
use Rattle.std.specs.Option.{option_map}

pub read_some : {A B : Type 0} (f : A → B) (o : Option A) → is_some o ≡ is_some (option_map f o)
read_some f None = refl
read_some f (Some x) = refl

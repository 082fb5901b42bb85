-- Substitutions of values in tuples: the one that moves nothing, one after another, and what they leave.
use Rattle.std.proofs.Common.{◌≡◌, ap, refl, ◌∙◌, List, [], ◌∷◌, map, true}
use Rattle.def_chase.specs.Values.{Datum, Number, Text, Unknown, Fact, under}
use Rattle.def_chase.specs.Specific.{is_constant}
use Rattle.def_chase.specs.Caused.{KeepsConstants}
use Rattle.def_chase.proofs.Bools.{differ}

pub map_same : (ds : List Datum) → map (λ d. d) ds ≡ ds
map_same [] = refl
map_same (d ∷ ds) = ap (λ l. d ∷ l) (map_same ds)

pub map_twice : (f g : Datum → Datum) (ds : List Datum) → map (λ d. g (f d)) ds ≡ map g (map f ds)
map_twice f g [] = refl
map_twice f g (d ∷ ds) = ap (λ l. g (f d) ∷ l) (map_twice f g ds)

pub map_each : (f g : Datum → Datum) → ((x : Datum) → f x ≡ g x) → (xs : List Datum) → map f xs ≡ map g xs
map_each f g h xs = λ i. map (λ x. h x i) xs

pub under_same : (t : Fact) → under (λ x. x) t ≡ t
under_same t = ap (λ ds. record { relation = t.relation; values = ds }) (map_same t.values)

pub under_twice : (f g : Datum → Datum) (t : Fact) → under (λ x. g (f x)) t ≡ under g (under f t)
under_twice f g t = ap (λ ds. record { relation = t.relation; values = ds }) (map_twice f g t.values)

-- A substitution leaves constants.
pub constant_left : (f : Datum → Datum) → KeepsConstants f → (d : Datum) → is_constant d ≡ true → f d ≡ d
constant_left f c (Number i) e = c.0 i
constant_left f c (Text w) e = c.1 w
constant_left f c (Unknown n) e = differ e

pub keeps_none : KeepsConstants (λ x. x)
keeps_none = (λ i. refl, λ w. refl)

pub keeps_twice : (f g : Datum → Datum) → KeepsConstants f → KeepsConstants g → KeepsConstants (λ x. g (f x))
keeps_twice f g c d = (λ i. ap g (c.0 i) ∙ d.0 i, λ w. ap g (c.1 w) ∙ d.1 w)

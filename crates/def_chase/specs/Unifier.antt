-- The unifier of a tuple and a more specific one: each null is followed along its images to the end of its walk.
use Rattle.std.specs.Prelude.{ℕ, zero, suc, if◌then◌else◌, length}
use Rattle.std.specs.Ordering.{is_lt}
use Rattle.def_chase.specs.Values.{Datum, Fact, datum_cmp}
use Rattle.def_chase.specs.Specific.{image_of}

-- The value after n steps of g.
abbrev pub after : ℕ → (Datum → Datum) → Datum → Datum
after zero g x = x
after (suc n) g x = after n g (g x)

-- The lesser of two values.
abbrev pub lesser : Datum → Datum → Datum
lesser x y = if is_lt (datum_cmp y x) then y else x

-- The least of x and the n values that follow it along g.
abbrev pub least_after : ℕ → (Datum → Datum) → Datum → Datum
least_after zero g x = x
least_after (suc n) g x = lesser x (least_after n g (g x))

-- The end of the walk from x along the images of t in s. After as many steps as t has values, the walk stands still or goes round
-- a cycle. Its end is the value where it stands, or the least value of the cycle.
abbrev pub unifier : Fact → Fact → Datum → Datum
unifier t s x = let n = length t.values in let g = image_of t s in least_after n g (after n g x)

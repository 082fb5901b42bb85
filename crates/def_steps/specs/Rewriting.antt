-- Parts of the steps: rewriting by a substitution, the nulls of a tuple, generated tuples and fresh nulls.
use Rattle.std.specs.Prelude.{ℕ, suc, ◌+◌, nat_lt, Bool, not, if◌then◌else◌, List, [], ◌∷◌, ◌++◌, map, length, filter, Option, Some, None, find, unwrap_or, pos}
use Rattle.std.specs.List.{list_any, slice_get, flat_map, range_with_len}
use Rattle.std.specs.BTreeSet.{insert_key}
use Rattle.def_chase.specs.Values.{Datum, Number, Text, Unknown, NullName, Fact, same_datum, null_cmp, under}
use Rattle.def_chase.specs.Repository.{Change, Insert, Delete, apply}
use Rattle.def_chase.specs.Mappings.{Rule, Pattern, fact_under, listed}
use Rattle.def_chase.specs.Matching.{Known, nothing_known, learn_all}
use Rattle.def_chase.specs.Unifier.{unifier}
use Rattle.def_chase.specs.Queries.{is_named}
use Rattle.def_steps.specs.Attempts.{Repair, Phase, Generate, Look, Attempt}

-- The tuples in order, each once.
abbrev pub in_order : List Fact → List Fact
in_order ts = apply [] (map Insert ts)

-- Rewriting by a substitution: a deletion of each tuple, then an insertion of each distinct substituted tuple, in order.
abbrev pub rewrite : (Datum → Datum) → List Fact → List Change
rewrite f ts = map Delete ts ++ map Insert (in_order (map (under f) ts))

-- The substitution of y for x.
abbrev pub replacing : Datum → Datum → Datum → Datum
replacing x y d = if same_datum d x then y else d

-- The value as a list of one null, if it is a null.
abbrev pub null_of : Datum → List NullName
null_of (Number i) = []
null_of (Text w) = []
null_of (Unknown n) = n ∷ []

-- The two names are of the same null.
abbrev pub same_null : NullName → NullName → Bool
same_null m n = same_datum (Unknown m) (Unknown n)

-- The nulls that are not among `seen`, each once.
abbrev pub distinct_from : List NullName → List NullName → List NullName
distinct_from seen [] = []
distinct_from seen (n ∷ ns) = if list_any (same_null n) seen then distinct_from seen ns else n ∷ distinct_from (n ∷ seen) ns

-- The distinct nulls among the values, in order of first position.
abbrev pub nulls_in : List Datum → List NullName
nulls_in ds = distinct_from [] (flat_map null_of ds)

-- The nulls in their order.
abbrev pub sorted_nulls : List NullName → List NullName
sorted_nulls [] = []
sorted_nulls (n ∷ ns) = insert_key null_cmp (sorted_nulls ns) n

-- The nulls of t that the unifier of t and s moves, in order.
abbrev pub moved_nulls : Fact → Fact → List NullName
moved_nulls t s = filter (λ n. not (same_datum (unifier t s (Unknown n)) (Unknown n))) (sorted_nulls (nulls_in t.values))

-- The first null with the outer name of n in the first of the tuples; the number 0 if there is none.
abbrev pub standing_for : NullName → List Fact → Datum
standing_for n [] = Number (pos 0)
standing_for n (t ∷ ts) = unwrap_or (find (is_named n.update n.place) t.values) (Number (pos 0))

-- The values of the first n variables, given the known values; the number 0 for an unknown one.
abbrev pub binding_at : ℕ → Option Known → List Datum
binding_at n None = []
binding_at n (Some k) = map (λ v. unwrap_or (k v) (Number (pos 0))) (range_with_len 0 n)

-- The values of the variables on the left if the left side has this image.
abbrev pub binding_of : Rule → List Fact → List Datum
binding_of m image = binding_at m.universal (learn_all m.left image nothing_known)

-- The next n fresh nulls of the attempt.
abbrev pub fresh_nulls : Attempt → ℕ → List Datum
fresh_nulls P n = map (λ k. Unknown record { update = P.number; attempt = P.attempt; place = P.nulls + k }) (range_with_len 1 n)

-- The right atoms of a mapping, if there is one.
abbrev pub right_atoms : Option Rule → List Pattern
right_atoms None = []
right_atoms (Some m) = m.right

-- The tuple of the atom under the values.
abbrev pub fact_at : List Datum → Option Pattern → Fact
fact_at ds None = record { relation = 0; values = [] }
fact_at ds (Some a) = fact_under (listed ds) a

-- The generated tuple of a repair: its next right atom under its values.
abbrev pub generated : List Rule → Repair → Fact
generated ms r = fact_at r.binding (slice_get (right_atoms (slice_get ms r.mapping)) r.atom)

-- The phase after a right atom: the next one is generated, and after the last one comes a look.
abbrev pub next_atom : List Rule → Repair → Phase
next_atom ms r =
    if nat_lt (suc r.atom) (length (right_atoms (slice_get ms r.mapping)))
    then Generate record { mapping = r.mapping; binding = r.binding; atom = suc r.atom }
    else Look

-- Pairs of nulls with their names: found by either, added, taken back, and values by names.
use Rattle.std.proofs.Common.{◌≡◌, ◌∙◌, ap, refl, sym, subst, ℕ, ◌+◌, ◌<◌, ◌≤◌, Bool, true, false, IsTrue, OnOk, OnErr, Result, Ok, Err, List, [], ◌∷◌, ◌++◌, map, length, take, find, get_or, Option, length-append, arith}
use Rattle.std.specs.Option.{option_map, option_and_then}
use Rattle.std.specs.Result.{is_err}
use Rattle.std.specs.List.{slice_get}
use Rattle.std.proofs.lemmas.List.{map-append, take-append-le, take_all, take-map, take_more}
use Rattle.std.specs.BTreeMap.{BTreeMap}
use Rattle.base_types.specs.Meanings.{datum_of, fact_of}
use Rattle.base_types.specs.declared.nulls.Null.{Null}
use Rattle.base_types.specs.declared.tuples.Tuple.{Tuple}
use Rattle.base_types.specs.declared.values.Value.{Value}
use Rattle.def_chase.specs.Values.{Datum, NullName}
use Rattle.def_workspace.specs.Names.{Names, datum_named, fact_named}
use Rattle.ws_names.specs.Firsts.{AreSameFirsts, IsIndexOf, NotesFirst, ForgetsFirst, is_same, place_in}
use Rattle.ws_names.specs.Meanings.{IsPopped, name_in, null_in, pair_of}
use Rattle.ws_names.specs.declared.names.Pair.{Pair}
use Rattle.ws_names.proofs.Indexed.{added, same_index, taken_out, undone, found_at, found_under}

-- ---- found

-- The pair at the place that the map has is the first of its kind.
pub pair_found : (key : Pair → Null) (p : NullName × NullName → Bool) (ps : List Pair) (view : List (NullName × NullName)) (m : BTreeMap Null ℕ) (q : Null)
    (o : Option ℕ) (r : Option Pair) → IsIndexOf key ps m → ((x : Pair) → p (pair_of x) ≡ is_same (key x) q) → map pair_of ps ≡ view → place_in m q ≡ o
    → r ≡ option_and_then (slice_get ps) o → option_map pair_of r ≡ find p view
pair_found key p ps view m q o r index same is at found =
    ap (option_map pair_of) (found ∙ ap (option_and_then (slice_get ps)) (sym at) ∙ found_at key ps m index q ∙ sym (λ i. find (λ (x : Pair). same x i) ps))
    ∙ found_under pair_of p ps
    ∙ ap (find p) is

-- ---- added

pub names_added : (ps qs : List Pair) (p : Pair) (i : ℕ) (m n : BTreeMap Null ℕ) → IsIndexOf null_in ps m → NotesFirst p.null i m n → i ≡ length ps → qs ≡ ps ++ p ∷ [] → IsIndexOf null_in qs n
names_added ps qs p i m n index notes at more =
    subst (λ (l : List Pair). IsIndexOf null_in l n) (sym more) (added null_in ps p m n index (subst (λ (j : ℕ). NotesFirst p.null j m n) at notes))

pub nulls_added : (ps qs : List Pair) (p : Pair) (i : ℕ) (m n : BTreeMap Null ℕ) → IsIndexOf name_in ps m → NotesFirst p.name i m n → i ≡ length ps → qs ≡ ps ++ p ∷ [] → IsIndexOf name_in qs n
nulls_added ps qs p i m n index notes at more =
    subst (λ (l : List Pair). IsIndexOf name_in l n) (sym more) (added name_in ps p m n index (subst (λ (j : ℕ). NotesFirst p.name j m n) at notes))

-- It was noted and forgotten again.
pub names_undone : (ps qs : List Pair) (k : Null) (i : ℕ) (m n o : BTreeMap Null ℕ) → IsIndexOf null_in ps m → NotesFirst k i m n → ForgetsFirst k i n o → i ≡ length ps → qs ≡ ps → IsIndexOf null_in qs o
names_undone ps qs k i m n o index notes forgets at same =
    subst (λ (l : List Pair). IsIndexOf null_in l o) (sym same)
    (undone null_in ps record { null = k; name = k } m n o index (subst (λ (j : ℕ). NotesFirst k j m n) at notes) (subst (λ (j : ℕ). ForgetsFirst k j n o) at forgets))

-- The names of nulls are as before.
pub nulls_same : (ps qs : List Pair) (m n : BTreeMap Null ℕ) → IsIndexOf name_in ps m → AreSameFirsts m n → qs ≡ ps → IsIndexOf name_in qs n
nulls_same ps qs m n index same is = subst (λ (l : List Pair). IsIndexOf name_in l n) (sym is) (same_index name_in ps m n index same)

-- What holds after a refusal, or after none.
pub erred : {A B : Type 0} (r : Result A B) (P : Type 0) → OnErr r P → is_err r ≡ true → P
erred (Ok a) P h e = let never : false ≡ true = e in cc
erred (Err b) P h e = h

pub passed : {A B : Type 0} (r : Result A B) (P : Type 0) → OnOk r P → is_err r ≡ false → P
passed (Ok a) P h e = h
passed (Err b) P h e = let never : true ≡ false = e in cc

-- ---- taken back

one_longer : (ps qs : List Pair) (p : Pair) → ps ≡ qs ++ p ∷ [] → length ps ≡ length qs + 1
one_longer ps qs p e = ap (λ (l : List Pair). length l) e ∙ length-append qs (p ∷ [])

-- One pair less is left.
pub kept_on : (all ps qs : List Pair) (p : Pair) (k : ℕ) → take k ps ≡ take k all → IsPopped k ps qs p → take k qs ≡ take k all
kept_on all ps qs p k so_far pop =
    let long : length ps ≡ length qs + 1 = one_longer ps qs p pop.last in
    let many : k < length ps = pop.many in
    let within : k ≤ length qs = omega (arith, long, many) in
    sym (ap (λ (l : List Pair). take k l) pop.last ∙ take-append-le k qs (p ∷ []) within) ∙ so_far

pub fewer_left : (ps qs : List Pair) (p : Pair) (k : ℕ) → IsPopped k ps qs p → length qs < length ps
fewer_left ps qs p k pop =
    let long : length ps ≡ length qs + 1 = one_longer ps qs p pop.last in
    omega (arith, long)

-- The maps are those of the pairs that are left.
pub names_left : (ps qs : List Pair) (p : Pair) (k i : ℕ) (m n : BTreeMap Null ℕ) → IsIndexOf null_in ps m → IsPopped k ps qs p → i ≡ length qs → ForgetsFirst p.null i m n → IsIndexOf null_in qs n
names_left ps qs p k i m n index pop at forgets =
    taken_out null_in qs p m n (subst (λ (l : List Pair). IsIndexOf null_in l m) pop.last index) (subst (λ (j : ℕ). ForgetsFirst p.null j m n) at forgets)

pub nulls_left : (ps qs : List Pair) (p : Pair) (k i : ℕ) (m n : BTreeMap Null ℕ) → IsIndexOf name_in ps m → IsPopped k ps qs p → i ≡ length qs → ForgetsFirst p.name i m n → IsIndexOf name_in qs n
nulls_left ps qs p k i m n index pop at forgets =
    taken_out name_in qs p m n (subst (λ (l : List Pair). IsIndexOf name_in l m) pop.last index) (subst (λ (j : ℕ). ForgetsFirst p.name j m n) at forgets)

-- The first are left.
pub kept_all : (all ps qs : List Pair) (k : ℕ) → take k ps ≡ take k all → length ps ≤ k → qs ≡ ps → qs ≡ take k all
kept_all all ps qs k so_far few same = same ∙ sym (take_all k ps few) ∙ so_far

pub kept_pairs : (ps qs : List Pair) (k : ℕ) (view after : List (NullName × NullName)) → map pair_of ps ≡ view → map pair_of qs ≡ after → qs ≡ take k ps → after ≡ take k view
kept_pairs ps qs k view after was is e = sym is ∙ ap (map pair_of) e ∙ sym (take-map pair_of k ps) ∙ ap (take k) was

-- ---- values by names

-- One value more that is the same by all names.
pub named_more : (ns : Names) (vs : List Value) (i : ℕ) (v : Value) → i < length vs → v ≡ get_or vs i v → datum_named ns (datum_of v) ≡ datum_of v
    → map (datum_named ns) (map datum_of (take i vs)) ≡ map datum_of (take i vs) → map (datum_named ns) (map datum_of (take (i + 1) vs)) ≡ map datum_of (take (i + 1) vs)
named_more ns vs i v h e same so_far =
    let more : take (i + 1) vs ≡ take i vs ++ v ∷ [] = take_more vs i v h ∙ ap (λ (w : Value). take i vs ++ w ∷ []) (sym e) in
    let apart : map datum_of (take (i + 1) vs) ≡ map datum_of (take i vs) ++ datum_of v ∷ [] = ap (map datum_of) more ∙ map-append datum_of (take i vs) (v ∷ []) in
    ap (map (datum_named ns)) apart
    ∙ map-append (datum_named ns) (map datum_of (take i vs)) (datum_of v ∷ [])
    ∙ (λ j. so_far j ++ same j ∷ [])
    ∙ sym apart

pub named_all : (ns : Names) (vs : List Value) (i : ℕ) → length vs ≤ i → map (datum_named ns) (map datum_of (take i vs)) ≡ map datum_of (take i vs)
    → map (datum_named ns) (map datum_of vs) ≡ map datum_of vs
named_all ns vs i h so_far =
    let all : take i vs ≡ vs = take_all i vs h in
    sym (ap (λ (ws : List Value). map (datum_named ns) (map datum_of ws)) all) ∙ so_far ∙ ap (map datum_of) all

-- A tuple without nulls is shared.
pub shared_named : (ns : Names) (t u : Tuple) (b : Bool) → b ≡ true → (IsTrue b → (ms : Names) → map (datum_named ms) (map datum_of t.values.items) ≡ map datum_of t.values.items)
    → u ≡ t → fact_of u ≡ fact_named ns (fact_of t)
shared_named ns t u b is same e =
    ap fact_of e ∙ sym (ap (λ (ds : List Datum). record { relation = t.relation; values = ds }) (same (subst IsTrue (sym is) refl) ns))

-- Which update puts which mapping in force, by the numbers of both.
use Rattle.std.specs.Prelude.{slice_get, filter, ◌-◌}
use Rattle.std.proofs.Common.{◌≡◌, ℕ, zero, suc, ◌+◌, ◌≤◌, ◌<◌, ◌^◌, ap, refl, sym, ◌∙◌, subst, List, [], ◌∷◌, ◌++◌, length, length-append, Bool, true, false, cond, Some, arith}
use Rattle.std.specs.List.{AllByRecursion}
use Rattle.std.proofs.lemmas.Bool.{both_ways}
use Rattle.def_chase.specs.Updates.{Operation, Adds, Removes, Replaces, Enacts}
use Rattle.def_chase.proofs.Bools.{none_some, some_same}
use Rattle.def_language.specs.Sessions.{RelationSchema, SessionMapping, SessionUpdate, SessionData, is_initial, initial_mappings, added_mappings}
use Rattle.def_language.specs.Validity.{IsOperation, AreUpdates, enacted, enactments, sinces, IsSession}

-- ---- the numbers of mappings are small

sinces_below : (place bound : ℕ) (ms : List SessionMapping) → place + length ms ≤ bound → AllByRecursion (λ (e : ℕ × ℕ). e.0 < bound) (sinces place ms)
sinces_below place bound [] h = tt
sinces_below place bound (m ∷ ms) h = ((omega arith), sinces_below (place + 1) bound ms (omega arith))

pub enactments_below : (s : SessionData) → IsSession s → AllByRecursion (λ (e : ℕ × ℕ). e.0 < 2 ^ 63) (enactments 1 s.updates)
enactments_below s v =
    let whole : length s.mappings ≡ length (initial_mappings s.mappings) + length (added_mappings s.mappings) = ap length v.added_last ∙ length-append (initial_mappings s.mappings) (added_mappings s.mappings) in
    let few : length s.mappings ≤ 64 = v.mapping_count in
    subst (λ es. AllByRecursion (λ (e : ℕ × ℕ). e.0 < 2 ^ 63) es) (sym v.added_by_updates)
    (sinces_below (length (initial_mappings s.mappings)) (2 ^ 63) (added_mappings s.mappings) (omega arith))

-- ---- updates one by one

-- An operation of an update that has a number of others below it, which puts in force only a mapping of a small number.
abbrev pub Acts : List RelationSchema → ℕ → SessionUpdate → Type 0
Acts rs below x = IsOperation rs below x.operation × ((n : ℕ) → x.operation ≡ Enacts n → n < 2 ^ 63)

abbrev pub AllAct : List RelationSchema → ℕ → List SessionUpdate → Type 0
AllAct rs below [] = Unit {0}
AllAct rs below (x ∷ us) = Acts rs below x × AllAct rs (suc below) us

first_small : (number : ℕ) (es : List (ℕ × ℕ)) (o op : Operation) → o ≡ op → AllByRecursion (λ (e : ℕ × ℕ). e.0 < 2 ^ 63) (enacted number o ++ es) → (n : ℕ) → op ≡ Enacts n → n < 2 ^ 63
first_small number es o op e h n f = (subst (λ z. AllByRecursion (λ (e : ℕ × ℕ). e.0 < 2 ^ 63) (enacted number z ++ es)) (e ∙ f) h).0

rest_small : (number : ℕ) (es : List (ℕ × ℕ)) (o : Operation) → AllByRecursion (λ (e : ℕ × ℕ). e.0 < 2 ^ 63) (enacted number o ++ es) → AllByRecursion (λ (e : ℕ × ℕ). e.0 < 2 ^ 63) es
rest_small number es (Adds t) h = h
rest_small number es (Removes t) h = h
rest_small number es (Replaces n d) h = h
rest_small number es (Enacts n) h = h.1

updates_act : (rs : List RelationSchema) (below : ℕ) (us : List SessionUpdate) → AreUpdates rs below us → AllByRecursion (λ (e : ℕ × ℕ). e.0 < 2 ^ 63) (enactments (below + 1) us) → AllAct rs below us
updates_act rs below [] h e = tt
updates_act rs below (x ∷ us) h e =
    let next : below + 1 ≡ suc below = omega arith in (
      (h.0.1, λ n f. first_small (below + 1) (enactments (below + 1 + 1) us) x.operation x.operation refl e n f),
      updates_act rs (suc below) us (subst (λ n. AreUpdates rs n us) next h.1)
          (subst (λ n. AllByRecursion (λ (e : ℕ × ℕ). e.0 < 2 ^ 63) (enactments (n + 1) us)) next (rest_small (below + 1) (enactments (below + 1 + 1) us) x.operation e)),
    )

pub session_acts : (s : SessionData) → IsSession s → AllAct s.relations 0 s.updates
session_acts s v = updates_act s.relations 0 s.updates v.updates (enactments_below s v)

-- ---- the update of each added mapping

-- The mapping of this number is put in force by the update of that one.
pub record ByUpdate (all : List SessionUpdate) (mapping update : ℕ) : Type 0 where
  pub by : SessionUpdate
  pub there : slice_get all (update - 1) ≡ Some by
  pub does : by.operation ≡ Enacts mapping

enactments_by : (all us : List SessionUpdate) (i number : ℕ) → number ≡ i + 1 → ((j : ℕ) → slice_get us j ≡ slice_get all (i + j)) → AllByRecursion (λ (e : ℕ × ℕ). ByUpdate all e.0 e.1) (enactments number us)
enactments_by all [] i number e t = tt
enactments_by all (x ∷ us) i number e t =
    by x.operation refl (enactments_by all us (i + 1) (number + 1) (omega arith) (λ j. t (suc j) ∙ ap (slice_get all) (omega arith)))
  where
    place : i + 0 ≡ number - 1
    place = omega arith

    by : (op : Operation) → x.operation ≡ op → AllByRecursion (λ (e : ℕ × ℕ). ByUpdate all e.0 e.1) (enactments (number + 1) us)
        → AllByRecursion (λ (e : ℕ × ℕ). ByUpdate all e.0 e.1) (enacted number op ++ enactments (number + 1) us)
    by (Adds u) f rest = rest
    by (Removes u) f rest = rest
    by (Replaces n d) f rest = rest
    by (Enacts n) f rest = (record { by = x; there = ap (slice_get all) (sym place) ∙ sym (t 0); does = f }, rest)

sinces_by : (all : List SessionUpdate) (place : ℕ) (ms : List SessionMapping) → AllByRecursion (λ (e : ℕ × ℕ). ByUpdate all e.0 e.1) (sinces place ms) → (j : ℕ) (m : SessionMapping) → slice_get ms j ≡ Some m → ByUpdate all (place + j) m.rule.since
sinces_by all place [] h j m e = absurd (none_some m e)
sinces_by all place (x ∷ ms) h zero m e =
    let same : x ≡ m = some_same x m e in
    let here : place ≡ place + 0 = omega arith in
    subst (λ n. ByUpdate all n m.rule.since) here (subst (λ (y : SessionMapping). ByUpdate all place y.rule.since) same h.0)
sinces_by all place (x ∷ ms) h (suc j) m e = let next : place + 1 + j ≡ place + suc j = omega arith in subst (λ n. ByUpdate all n m.rule.since) next (sinces_by all (place + 1) ms h.1 j m e)

-- an item of two joined lists is in the first, or in the second
joined : {A : Type 0} (P : ℕ → Type 0) (xs ys : List A) (n : ℕ) (x : A) → slice_get (xs ++ ys) n ≡ Some x → (slice_get xs n ≡ Some x → P n) → ((j : ℕ) → slice_get ys j ≡ Some x → P (length xs + j)) → P n
joined P [] ys n x e front back = let same : 0 + n ≡ n = omega arith in subst P same (back n e)
joined P (y ∷ xs) ys zero x e front back = front e
joined P (y ∷ xs) ys (suc n) x e front back = joined (λ k. P (suc k)) xs ys n x e front (λ j f. let same : length (y ∷ xs) + j ≡ suc (length xs + j) = omega arith in subst P same (back j f))

kept_passes : {A : Type 0} (p : A → Bool) (xs : List A) (n : ℕ) (x : A) → slice_get (filter p xs) n ≡ Some x → p x ≡ true
kept_passes p [] n x e = absurd (none_some x e)
kept_passes p (y ∷ xs) n x e = by (p y) refl n e (λ k f. kept_passes p xs k x f)
  where
    by : (b : Bool) → p y ≡ b → (k : ℕ) → slice_get (cond b (y ∷ filter p xs) (filter p xs)) k ≡ Some x → ((j : ℕ) → slice_get (filter p xs) j ≡ Some x → p x ≡ true) → p x ≡ true
    by true f zero g rest = ap p (sym (some_same y x g)) ∙ f
    by true f (suc k) g rest = rest k g
    by false f k g rest = rest k g

-- A mapping that is not in force from the start is put in force by the update that it names.
pub added_by : (s : SessionData) → IsSession s → (n : ℕ) (m : SessionMapping) → slice_get s.mappings n ≡ Some m → is_initial m ≡ false → ByUpdate s.updates n m.rule.since
added_by s v n m e off =
    joined (λ k. ByUpdate s.updates k m.rule.since) (initial_mappings s.mappings) (added_mappings s.mappings) n m (ap (λ (ms : List SessionMapping). slice_get ms n) (sym v.added_last) ∙ e)
    (λ f. absurd (both_ways (is_initial m) off (kept_passes is_initial s.mappings n m f)))
    (λ j f. sinces_by s.updates (length (initial_mappings s.mappings)) (added_mappings s.mappings) entries j m f)
  where
    entries : AllByRecursion (λ (e : ℕ × ℕ). ByUpdate s.updates e.0 e.1) (sinces (length (initial_mappings s.mappings)) (added_mappings s.mappings))
    entries = subst (λ es. AllByRecursion (λ (e : ℕ × ℕ). ByUpdate s.updates e.0 e.1) es) v.added_by_updates (enactments_by s.updates s.updates 0 1 (omega arith) (λ j. ap (slice_get s.updates) (omega arith)))

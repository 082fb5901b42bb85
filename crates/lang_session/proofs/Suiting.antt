-- A valid session has no null in a mapping, nothing of the relation that says which mappings are in force, and each update enacts its own mapping.
use Rattle.std.proofs.Common.{arith, ◌≡◌, ap, refl, sym, ◌∙◌, cond, subst, List, [], ◌∷◌, ◌++◌, map, ℕ, suc, ◌+◌, ◌==◌, ◌<◌, ◌≤◌, length, nat_lt, Bool, true, false, not, ◌&&◌, Some, slice_get, ◌⊎◌, inl, inr}
use Rattle.std.specs.List.{list_all, AllByRecursion}
use Rattle.std.proofs.lemmas.Bool.Decides.{nat_tests}
use Rattle.std.proofs.lemmas.Option.{slice_get_within}
use Rattle.def_chase.specs.Values.{Number, Text, Unknown, Fact}
use Rattle.def_chase.specs.Mappings.{Slot, Var, Const, Pattern, Rule, force_relation}
use Rattle.def_chase.specs.Updates.{Operation, Adds, Removes, Replaces, Enacts}
use Rattle.def_chase.specs.Laws.{is_no_null, has_no_null, HaveNoNulls}
use Rattle.def_steps.specs.Timely.{in_time, is_plain_atom, repairs_plainly, not_after, enacts_by, acts_in_time, ActInTime, IsTimely}
use Rattle.def_language.specs.Sessions.{RelationSchema, SessionMapping, SessionUpdate, SessionData, initial_mappings, added_mappings, most_relations}
use Rattle.def_language.specs.Checks.{rules_of}
use Rattle.def_language.specs.Validity.{HasColumns, IsSlot, IsAtom, IsFact, IsMapping, IsOperation, AreUpdates, enacted, enactments, sinces, IsSession}
use Rattle.lang_session.specs.Meanings.{request_of, requests_in}

-- ---- no nulls

slot_no_null : (count : ℕ) (x : Slot) → IsSlot count x → is_no_null x ≡ true
slot_no_null count (Var v) h = refl
slot_no_null count (Const (Number z)) h = refl
slot_no_null count (Const (Text t)) h = refl
slot_no_null count (Const (Unknown n)) h = absurd h

both : (a b : Bool) → a ≡ true → b ≡ true → (a && b) ≡ true
both true true p q = refl
both true false p q = q
both false b p q = p

slots_no_null : (count : ℕ) (xs : List Slot) → AllByRecursion (IsSlot count) xs → list_all is_no_null xs ≡ true
slots_no_null count [] h = refl
slots_no_null count (x ∷ xs) h = both (is_no_null x) (list_all is_no_null xs) (slot_no_null count x h.0) (slots_no_null count xs h.1)

atoms_no_null : (rs : List RelationSchema) (count : ℕ) (ps : List Pattern) → AllByRecursion (IsAtom rs count) ps → list_all has_no_null ps ≡ true
atoms_no_null rs count [] h = refl
atoms_no_null rs count (a ∷ ps) h = both (has_no_null a) (list_all has_no_null ps) (slots_no_null count a.terms h.0.1) (atoms_no_null rs count ps h.1)

pub mappings_no_null : (rs : List RelationSchema) (ms : List SessionMapping) → AllByRecursion (IsMapping rs) ms → HaveNoNulls (rules_of ms)
mappings_no_null rs [] h = tt
mappings_no_null rs (m ∷ ms) h = (
  both (list_all has_no_null m.rule.left) (list_all has_no_null m.rule.right)
      (atoms_no_null rs (length m.variables) m.rule.left h.0.left.2) (atoms_no_null rs (length m.variables) m.rule.right h.0.right.2),
  mappings_no_null rs ms h.1,
)

-- ---- nothing of the relation that says which mappings are in force

-- a relation of a session has a number below 128
pub no_force : (rs : List RelationSchema) (r columns : ℕ) → length rs ≤ 128 → HasColumns rs r columns → (r == force_relation) ≡ false
no_force rs r columns few (s, there, _) =
    let below : r < length rs = slice_get_within rs r s there in
    let apart : (r == 65535) ≡ false = grind (arith, nat_tests) in apart

pub few_relations : (s : SessionData) → IsSession s → length s.relations ≤ 128
few_relations s v = by s.format v.format v.relation_count
  where
    wider : length s.relations ≤ 64 → length s.relations ≤ 128
    wider h = omega arith

    by : (f : ℕ) → (f ≡ 1) ⊎ (f ≡ 2) → length s.relations ≤ most_relations f → length s.relations ≤ 128
    by f (inl e) h = wider (subst (λ n. length s.relations ≤ most_relations n) e h)
    by f (inr e) h = subst (λ n. length s.relations ≤ most_relations n) e h

atoms_plain : (rs : List RelationSchema) (count : ℕ) (ps : List Pattern) → length rs ≤ 128 → AllByRecursion (IsAtom rs count) ps → list_all is_plain_atom ps ≡ true
atoms_plain rs count [] few h = refl
atoms_plain rs count (a ∷ ps) few h =
    both (is_plain_atom a) (list_all is_plain_atom ps) (ap not (no_force rs a.relation (length a.terms) few h.0.0)) (atoms_plain rs count ps few h.1)

mappings_plain : (rs : List RelationSchema) (ms : List SessionMapping) → length rs ≤ 128 → AllByRecursion (IsMapping rs) ms → repairs_plainly (rules_of ms) ≡ true
mappings_plain rs [] few h = refl
mappings_plain rs (m ∷ ms) few h =
    both (list_all is_plain_atom m.rule.right) (repairs_plainly (rules_of ms)) (atoms_plain rs (length m.variables) m.rule.right few h.0.right.2) (mappings_plain rs ms few h.1)

in_time_if : (ms : List Rule) (u : ℕ) (t : Fact) → (t.relation == force_relation) ≡ false → in_time ms u t ≡ true
in_time_if ms u t e = ap (λ b. cond b (enacts_by ms u t.values) true) e

base_in_time : (rs : List RelationSchema) (ms : List Rule) (ts : List Fact) → length rs ≤ 128 → AllByRecursion (IsFact rs 0) ts → list_all (in_time ms 0) ts ≡ true
base_in_time rs ms [] few h = refl
base_in_time rs ms (t ∷ ts) few h =
    both (in_time ms 0 t) (list_all (in_time ms 0) ts) (in_time_if ms 0 t (no_force rs t.relation (length t.values) few h.0.0)) (base_in_time rs ms ts few h.1)

-- ---- each update enacts the mapping that it adds

-- Of the mappings at the end of a list, the one of a number has the `since` that stands with the number.
abbrev Timed : List Rule → List (ℕ × ℕ) → Type 0
Timed ms [] = Unit {0}
Timed ms (e ∷ es) = (not_after e.1 (slice_get ms e.0) ≡ true) × Timed ms es

self_not_after : (ms : List Rule) (n : ℕ) (m : Rule) → slice_get ms n ≡ Some m → not_after m.since (slice_get ms n) ≡ true
self_not_after ms n m e = ap (not_after m.since) e ∙ (let off : nat_lt m.since m.since ≡ false = grind (arith, nat_tests) in ap not off)

at_seam : (front : List SessionMapping) (m : SessionMapping) (back : List SessionMapping) → slice_get (rules_of (front ++ m ∷ back)) (length front) ≡ Some m.rule
at_seam [] m back = refl
at_seam (x ∷ front) m back = at_seam front m back

join : (front : List SessionMapping) (m : SessionMapping) (back : List SessionMapping) → (front ++ m ∷ []) ++ back ≡ front ++ m ∷ back
join [] m back = refl
join (x ∷ front) m back = ap (λ (l : List SessionMapping). x ∷ l) (join front m back)

longer : (front : List SessionMapping) (m : SessionMapping) → length (front ++ m ∷ []) ≡ length front + 1
longer [] m = refl
longer (x ∷ front) m = let h : length (front ++ m ∷ []) ≡ length front + 1 = longer front m in omega arith

sinces_timed : (front back : List SessionMapping) → Timed (rules_of (front ++ back)) (sinces (length front) back)
sinces_timed front [] = tt
sinces_timed front (m ∷ back) = (
  self_not_after (rules_of (front ++ m ∷ back)) (length front) m.rule (at_seam front m back),
  subst (λ (ms : List SessionMapping). Timed (rules_of ms) (sinces (length front + 1) back)) (join front m back)
      (subst (λ n. Timed (rules_of ((front ++ m ∷ []) ++ back)) (sinces n back)) (longer front m) (sinces_timed (front ++ m ∷ []) back)),
)

timed_append : (ms : List Rule) (es fs : List (ℕ × ℕ)) → Timed ms (es ++ fs) → Timed ms fs
timed_append ms [] fs h = h
timed_append ms (e ∷ es) fs h = timed_append ms es fs h.1

acts : (rs : List RelationSchema) (ms : List Rule) (u most : ℕ) (op : Operation) (es : List (ℕ × ℕ)) → length rs ≤ 128 → IsOperation rs most op → Timed ms (enacted u op ++ es) → acts_in_time ms u op ≡ true
acts rs ms u most (Adds t) es few h e = ap not (no_force rs t.relation (length t.values) few h.0)
acts rs ms u most (Removes t) es few h e = refl
acts rs ms u most (Replaces n d) es few h e = refl
acts rs ms u most (Enacts place) es few h e = e.0

act_in_time : (rs : List RelationSchema) (ms : List Rule) (u : ℕ) (us : List SessionUpdate) → length rs ≤ 128 → AreUpdates rs u us → Timed ms (enactments (u + 1) us) → ActInTime ms (suc u) (map request_of us)
act_in_time rs ms u [] few h e = tt
act_in_time rs ms u (x ∷ us) few h e =
    let next : u + 1 ≡ suc u = omega arith in
    let now : Timed ms (enactments (suc u) (x ∷ us)) = subst (λ n. Timed ms (enactments n (x ∷ us))) next e in (
      acts rs ms (suc u) u x.operation (enactments (suc u + 1) us) few h.0.1 now,
      act_in_time rs ms (suc u) us few (subst (λ n. AreUpdates rs n us) next h.1) (timed_append ms (enacted (suc u) x.operation) (enactments (suc u + 1) us) now),
    )

pub timely : (s : SessionData) → IsSession s → IsTimely (rules_of s.mappings) s.base (requests_in s)
timely s v =
    record {
      mappings = mappings_plain s.relations s.mappings (few_relations s v) v.mappings;
      base = base_in_time s.relations (rules_of s.mappings) s.base (few_relations s v) v.base;
      updates = act_in_time s.relations (rules_of s.mappings) 0 s.updates (few_relations s v) v.updates
          (subst (λ es. Timed (rules_of s.mappings) es) (sym v.added_by_updates)
          (subst (λ (ms : List SessionMapping). Timed (rules_of ms) (sinces (length (initial_mappings s.mappings)) (added_mappings s.mappings))) (sym v.added_last)
          (sinces_timed (initial_mappings s.mappings) (added_mappings s.mappings))));
    }

-- The printed relations, mappings and tuples of a session build it up to its updates.
use Rattle.std.proofs.Common.{◌≡◌, ℕ, ◌+◌, ◌<◌, ◌≤◌, Bool, true, false, List, [], ◌∷◌, ◌++◌, length, refl, sym, ap, ◌∙◌, subst, arith, append_assoc, append-nil, length-append}
use Rattle.std.specs.Prelude.{Ok, pos, map, nat_le, not, ◌&&◌}
use Rattle.std.specs.List.{AllByRecursion}
use Rattle.std.specs.List.Sorted.{IsStrictlySortedBy}
use Rattle.std.specs.BTreeSet.{insert_key}
use Rattle.std.specs.Ordering.{ordering_reverse}
use Rattle.std.specs.declared.cmp.Ordering.TheVariants.{Less, Greater}
use Rattle.std.proofs.lemmas.Bool.Decides.{nat_tests}
use Rattle.std.proofs.lemmas.List.{map-append}
use Rattle.def_chase.specs.Values.{Fact, fact_cmp}
use Rattle.def_chase.specs.Repository.{has}
use Rattle.def_chase.specs.Mappings.{Rule}
use Rattle.def_chase.proofs.Order.{fact_total}
use Rattle.def_language.specs.Names.{Name, is_one_of}
use Rattle.def_language.specs.Statements.{Relation, Mapping, Base}
use Rattle.def_language.specs.Forms.{Section, Relations, Mappings, Tuples, rank}
use Rattle.def_language.specs.Sessions.{RelationSchema, SessionMapping, SessionUpdate, SessionData, relation_names, mapping_names, most_relations, most_tuples}
use Rattle.def_language.specs.Cycles.{HasPlainCycle}
use Rattle.def_language.specs.Checks.{taken, add_relation, mappings_full, rules_of, add_mapping, add_tuple}
use Rattle.def_language.specs.Printing.{written_fact, written_mapping}
use Rattle.def_language.specs.Validity.{AreNew, AreNames, IsName, IsRelation, IsFact, IsMapping}
use Rattle.def_language.proofs.Closure.{cycle_grows, no_cycle_found}
use Rattle.def_language.proofs.Means.{fact_means, mapping_means}
use Rattle.def_language.proofs.Spoken.{fact_printed, fact_sayable, mapping_printed, mapping_sayable, mapping_members}
use Rattle.def_language.proofs.Runs.{Fits, Runs, last_section}

-- a session so far
abbrev pub so_far : ℕ → List RelationSchema → List SessionMapping → List Fact → List SessionUpdate → SessionData
so_far f relations mappings base updates = record { format = f; relations = relations; mappings = mappings; base = base; updates = updates }

pub room_left : (n most : ℕ) → n < most → nat_le most n ≡ false
room_left n most lt = grind (arith, nat_tests)

-- names after one more
pub next_names : {A : Type 0} (called : A → Name) (before : List A) (x : A) (names : List Name) → AreNew (map called before ++ called x ∷ []) names → AreNew (map called (before ++ x ∷ [])) names
next_names called before x names new = subst (λ (ns : List Name). AreNew ns names) (sym (map-append called before (x ∷ []))) new

-- ---- relations

relation_fits : (f : ℕ) (r : RelationSchema) → IsName r.name → IsRelation r → Fits Relations f (Relation r.name (pos r.arity))
relation_fits f r named good =
    let high : r.arity ≤ 8 = good.1 in
    record { after_header = tt; begun = omega arith; open_ = omega arith; in_order = omega arith; sayable = tt; words = ((refl, tt), ((named, tt), ((omega arith, tt), tt))); members = tt }

relation_added : (f : ℕ) (before : List RelationSchema) (r : RelationSchema) → is_one_of (relation_names before) r.name ≡ false → IsRelation r → length before < most_relations f
    → taken (so_far f before [] [] []) (Relation r.name (pos r.arity)) ≡ Ok (so_far f (before ++ r ∷ []) [] [] [])
unfolding add_relation
relation_added f before r new good lt =
    let low : 1 ≤ r.arity = good.0 in
    let high : r.arity ≤ 8 = good.1 in
    let fits : (nat_le 1 r.arity && nat_le r.arity 8) ≡ true = grind (arith, nat_tests) in
    rw (new, fits, room_left (length before) (most_relations f) lt) refl

pub relations_run : (f : ℕ) (before rs : List RelationSchema) → AreNew (relation_names before) (relation_names rs) → AllByRecursion IsRelation rs → length before + length rs ≤ most_relations f
    → Runs Relations (so_far f before [] [] []) (map (λ r. Relation r.name (pos r.arity)) rs) (so_far f (before ++ rs) [] [] [])
relations_run f before [] new all le = ap (λ (rs : List RelationSchema). so_far f rs [] [] []) (sym (append-nil before))
relations_run f before (r ∷ rs) new all le =
    let others = relations_run f (before ++ r ∷ []) rs (next_names (λ (s : RelationSchema). s.name) before r (relation_names rs) new.2) all.1 (omega (arith, length-append before (r ∷ []))) in (
      relation_fits f r new.0 all.0,
      (
        so_far f (before ++ r ∷ []) [] [] [],
        relation_added f before r new.1 all.0 (omega arith),
        subst (λ (xs : List RelationSchema). Runs Relations (so_far f (before ++ r ∷ []) [] [] []) (map (λ s. Relation s.name (pos s.arity)) rs) (so_far f xs [] [] [])) (append_assoc before (r ∷ []) rs) others,
      ),
    )

pub still_relations : (rs : List RelationSchema) → last_section Relations (map (λ r. Relation r.name (pos r.arity)) rs) ≡ Relations
still_relations [] = refl
still_relations (r ∷ rs) = still_relations rs

-- ---- mappings

-- what a mapping adds, one of the session or of an update
pub mapping_added : (a : SessionData) (m : SessionMapping) → AreNames (relation_names a.relations) → IsMapping a.relations m → is_one_of (mapping_names a.mappings) m.name ≡ false
    → mappings_full a.mappings m.rule.since ≡ false → (HasPlainCycle (length a.relations) (rules_of (a.mappings ++ m ∷ [])) → ⊥)
    → add_mapping a m.rule.since (written_mapping a.relations m) ≡ Ok (so_far a.format a.relations (a.mappings ++ m ∷ []) a.base a.updates)
unfolding add_mapping
mapping_added a m names good new room none =
    rw (new, room, mapping_means a.relations m names good, no_cycle_found (length a.relations) (rules_of (a.mappings ++ m ∷ [])) none) refl

-- a front of mappings without a plain cycle has none
pub front_acyclic : (n : ℕ) (before : List SessionMapping) (m : SessionMapping) (more : List SessionMapping) → (HasPlainCycle n (rules_of (before ++ m ∷ more)) → ⊥) → HasPlainCycle n (rules_of (before ++ m ∷ [])) → ⊥
front_acyclic n before m more none c =
    let e : rules_of (before ++ m ∷ []) ++ rules_of more ≡ rules_of (before ++ m ∷ more) =
    sym (map-append (λ (x : SessionMapping). x.rule) (before ++ m ∷ []) more) ∙ ap rules_of (append_assoc before (m ∷ []) more) in
    none (subst (λ (ms : List Rule). HasPlainCycle n ms) e (cycle_grows n (rules_of (before ++ m ∷ [])) (rules_of more) c))

pub initial_room : (ms : List SessionMapping) (since : ℕ) → since ≡ 0 → length ms < 64 → mappings_full ms since ≡ false
initial_room ms since none lt = rw (room_left (length ms) 64 lt, none) refl

module _ (f : ℕ) (relations : List RelationSchema) (names : AreNames (relation_names relations)) (some : AllByRecursion IsRelation relations) where
  pub mappings_run : (section : Section) (before ms : List SessionMapping) → 1 ≤ rank section → rank section ≤ 2 → AreNew (mapping_names before) (mapping_names ms) → AllByRecursion (IsMapping relations) ms
      → AllByRecursion (λ m. m.rule.since ≡ 0) ms → length before + length ms ≤ 64 → (HasPlainCycle (length relations) (rules_of (before ++ ms)) → ⊥)
      → Runs section (so_far f relations before [] []) (map (λ m. Mapping (written_mapping relations m)) ms) (so_far f relations (before ++ ms) [] [])
  mappings_run section before [] low high new all initial le none = ap (λ (ms : List SessionMapping). so_far f relations ms [] []) (sym (append-nil before))
  mappings_run section before (m ∷ ms) low high new all initial le none =
      let e : (before ++ m ∷ []) ++ ms ≡ before ++ m ∷ ms = append_assoc before (m ∷ []) ms in
      let others = mappings_run Mappings (before ++ m ∷ []) ms (omega arith) (omega arith) (next_names (λ (x : SessionMapping). x.name) before m (mapping_names ms) new.2) all.1 initial.1 (omega (arith, length-append before (m ∷ [])))
      (λ c. none (subst (λ (xs : List SessionMapping). HasPlainCycle (length relations) (rules_of xs)) e c)) in
      let added = mapping_added (so_far f relations before [] []) m names all.0 new.1 (initial_room before m.rule.since initial.0 (omega arith)) (front_acyclic (length relations) before m ms none) in (
        record { after_header = tt; begun = low; open_ = omega arith; in_order = high; sayable = mapping_sayable relations names some m all.0; words = ((refl, tt), mapping_printed relations names some m all.0 new.0); members = mapping_members relations names some m all.0 },
        (
          so_far f relations (before ++ m ∷ []) [] [],
          subst (λ since. add_mapping (so_far f relations before [] []) since (written_mapping relations m) ≡ Ok (so_far f relations (before ++ m ∷ []) [] [])) initial.0 added,
          subst (λ (xs : List SessionMapping). Runs Mappings (so_far f relations (before ++ m ∷ []) [] []) (map (λ m. Mapping (written_mapping relations m)) ms) (so_far f relations xs [] [])) e others,
        ),
      )

-- sections go up at most to that of the statements
pub record Within (section : Section) (most : ℕ) : Type 0 where
  pub low : 1 ≤ rank section
  pub high : rank section ≤ most

pub mappings_within : (relations : List RelationSchema) (section : Section) (ms : List SessionMapping) → Within section 2 → Within (last_section section (map (λ m. Mapping (written_mapping relations m)) ms)) 2
mappings_within relations section [] w = w
mappings_within relations section (m ∷ ms) w = mappings_within relations Mappings ms (record { low = omega arith; high = omega arith })

-- ---- the base

and_false : (b : Bool) → (b && false) ≡ false
and_false true = refl
and_false false = refl

-- a tuple after all others
insert_last : (before : List Fact) (t : Fact) → AllByRecursion (λ x. fact_cmp x t ≡ Less) before → insert_key fact_cmp before t ≡ before ++ t ∷ []
insert_last [] t all = refl
insert_last (x ∷ before) t all =
    let above : fact_cmp t x ≡ Greater = fact_total.antisymm t x ∙ ap ordering_reverse all.0 in
    rw (above, insert_last before t all.1) refl

all_at : (P : Fact → Type 0) (xs : List Fact) (t : Fact) (ys : List Fact) → AllByRecursion P (xs ++ t ∷ ys) → P t
all_at P [] t ys all = all.0
all_at P (x ∷ xs) t ys all = all_at P xs t ys all.1

pub below_next : (before : List Fact) (t : Fact) (ts : List Fact) → IsStrictlySortedBy fact_cmp (before ++ t ∷ ts) → AllByRecursion (λ x. fact_cmp x t ≡ Less) before
unfolding IsStrictlySortedBy
below_next [] t ts sorted = tt
below_next (x ∷ before) t ts sorted = (all_at (λ y. fact_cmp x y ≡ Less) before t ts sorted.0, below_next before t ts sorted.1)

module _ (f : ℕ) (relations : List RelationSchema) (mappings : List SessionMapping) (names : AreNames (relation_names relations)) (some : AllByRecursion IsRelation relations) where
  tuple_added : (before : List Fact) (t : Fact) → IsFact relations 0 t → AllByRecursion (λ x. fact_cmp x t ≡ Less) before → length before < most_tuples f
      → add_tuple (so_far f relations mappings before []) (written_fact relations t) ≡ Ok (so_far f relations mappings (before ++ t ∷ []) [])
  unfolding add_tuple
  tuple_added before t good below lt =
      rw (fact_means relations 0 t names good, room_left (length before) (most_tuples f) lt, and_false (not (has before t)), insert_last before t below) refl

  pub base_run : (section : Section) (before ts : List Fact) → Within section 3 → IsStrictlySortedBy fact_cmp (before ++ ts) → AllByRecursion (IsFact relations 0) ts → length before + length ts ≤ most_tuples f
      → Runs section (so_far f relations mappings before []) (map (λ t. Base (written_fact relations t)) ts) (so_far f relations mappings (before ++ ts) [])
  base_run section before [] w sorted all le = ap (λ (ts : List Fact). so_far f relations mappings ts []) (sym (append-nil before))
  base_run section before (t ∷ ts) w sorted all le =
      let e : (before ++ t ∷ []) ++ ts ≡ before ++ t ∷ ts = append_assoc before (t ∷ []) ts in
      let others = base_run Tuples (before ++ t ∷ []) ts (record { low = omega arith; high = omega arith }) (subst (IsStrictlySortedBy fact_cmp) (sym e) sorted) all.1 (omega (arith, length-append before (t ∷ []))) in
      let high : rank section ≤ 3 = w.high in (
        record { after_header = tt; begun = w.low; open_ = omega arith; in_order = w.high; sayable = fact_sayable relations names some 0 t all.0; words = ((refl, tt), fact_printed relations names some 0 (omega arith) t all.0); members = (fact_sayable relations names some 0 t all.0).0 },
        (
          so_far f relations mappings (before ++ t ∷ []) [],
          tuple_added before t all.0 (below_next before t ts sorted) (omega arith),
          subst (λ (xs : List Fact). Runs Tuples (so_far f relations mappings (before ++ t ∷ []) []) (map (λ t. Base (written_fact relations t)) ts) (so_far f relations mappings xs [])) e others,
        ),
      )

pub base_within : (relations : List RelationSchema) (section : Section) (ts : List Fact) → Within section 3 → Within (last_section section (map (λ t. Base (written_fact relations t)) ts)) 3
base_within relations section [] w = w
base_within relations section (t ∷ ts) w = base_within relations Tuples ts (record { low = omega arith; high = omega arith })

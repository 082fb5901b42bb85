-- What a statement adds leaves a session valid.
use Rattle.std.proofs.Common.{◌≡◌, ℕ, ◌+◌, ◌<◌, ◌≤◌, ◌⊎◌, Bool, true, false, List, [], ◌∷◌, ◌++◌, length, refl, sym, ap, ◌∙◌, subst, arith, append_assoc, append-nil, length-append}
use Rattle.std.specs.Prelude.{Ok, Option, Some, None, ℤ, pos, negsuc, not, ◌&&◌, ◌||◌, ◌==◌, nat_le, slice_get, slice_set}
use Rattle.std.specs.List.{AllByRecursion}
use Rattle.std.specs.BTreeSet.{insert_key}
use Rattle.std.specs.List.Sorted.{IsStrictlySortedBy}
use Rattle.std.proofs.lemmas.Bool.{and_parts, or_parts}
use Rattle.std.proofs.lemmas.Bool.Decides.{nat_tests}
use Rattle.std.proofs.Math.Seq.{set-append_seam}
use Rattle.def_chase.specs.Values.{Unknown, Fact, fact_cmp, same_fact}
use Rattle.def_chase.specs.Repository.{IsRepository, has}
use Rattle.def_chase.specs.Updates.{Operation, Adds, Removes, Replaces, Enacts, Choice, Expand, Unify, Drop}
use Rattle.def_chase.proofs.Sets.{has-insert, same_exact, same_repository, insert_in_order}
use Rattle.def_language.specs.declared.Which.TheVariants as limit
use Rattle.def_language.specs.Reading.{each}
use Rattle.def_language.specs.Names.{Name, same_name, is_one_of, place_of, firsts}
use Rattle.def_language.specs.Statements.{WrittenFact, WrittenMapping, WrittenOperation, InsertFact, DeleteFact, ReplaceNull, AddMapping, WrittenChoice, ExpandFact, UnifyFact, DeleteFacts}
use Rattle.def_language.specs.Grammar.{separated, fact_words, mapping_words, operation_words, choice_words}
use Rattle.def_language.specs.Sayable.{IsWrittenFact, IsWrittenMapping, IsWrittenOperation, IsWrittenChoice}
use Rattle.def_language.specs.Sessions.{RelationSchema, SessionMapping, SessionUpdate, SessionData, relation_names, mapping_names, labels, curators, answer_count, is_initial, initial_mappings, added_mappings, most_relations, most_tuples, most_answers}
use Rattle.def_language.specs.Cycles.{HasPlainCycle, has_plain_cycle, Path, step, more, leads}
use Rattle.def_language.specs.Meaning.{bounded_fact, nulls_within, mapping_of}
use Rattle.def_language.specs.Forms.{natural}
use Rattle.def_language.specs.Checks.{unused, within, is_arity, add_relation, mappings_full, rules_of, acyclic, add_mapping, add_tuple, Performed, operation_of, curators_full, add_update, choice_of, with_answer, answered, add_answer}
use Rattle.def_language.specs.Validity.{IsName, AreNames, IsRelation, IsFact, IsMapping, IsOperation, IsChoice, IsUpdate, AreUpdates, enacted, enactments, sinces, IsSession}
use Rattle.def_language.proofs.Closure.{cycle_decided}
use Rattle.def_language.proofs.Many.{bind_ok, ok_is}
use Rattle.def_language.proofs.Spoken.{ArePrinted}
use Rattle.def_language.proofs.Build.{so_far}
use Rattle.def_language.proofs.Whole.{empty_sinces}
use Rattle.def_language.proofs.Passed.{fact_valid, values_valid, mapping_valid, MappingRead, each_valid, both_all, parts_printed}
use Rattle.def_language.proofs.Grows.{unused_ok, within_ok, room_ok, names_grow, all_grow, initial_grow, added_grow, sinces_grow, enactments_grow, updates_grow, curators_fit, answers_grow, among, mapped_same, enactments_same, updates_same, answers_more, insert_all, insert_longer}

-- ---- relations

no_path : (n r s : ℕ) → Path (leads []) n r s → ⊥
no_path n r s (step _ _ e) = let f : false ≡ true = e in cc
no_path n r s (more _ m _ lt e p) = let f : false ≡ true = e in cc

-- a session of relations alone
pub bare : (f : ℕ) (rs : List RelationSchema) → (f ≡ 1) ⊎ (f ≡ 2) → AreNames (relation_names rs) → AllByRecursion IsRelation rs → length rs ≤ most_relations f → IsSession (so_far f rs [] [] [])
unfolding IsStrictlySortedBy
bare f rs format names all le = record {
  format = format;
  relation_names = names;
  relations = all;
  relation_count = le;
  mapping_names = tt;
  mappings = tt;
  mapping_count = omega arith;
  added_count = omega arith;
  added_last = refl;
  added_by_updates = refl;
  added_format = λ one. refl;
  no_cycle = λ c. no_path (length rs) c.0 c.0 c.2;
  base_order = tt;
  base = tt;
  base_count = omega arith;
  labels = tt;
  updates = tt;
  update_count = omega arith;
  curator_count = omega arith;
  answers = omega arith;
}

arity_ok : (n : Name) (z : ℤ) → not (is_arity z) ≡ false → IsRelation (record { name = n; arity = natural z })
arity_ok n (pos k) e = by (nat_le 1 k && nat_le k 8) refl where
  by : (b : Bool) → (nat_le 1 k && nat_le k 8) ≡ b → (1 ≤ k) × (k ≤ 8)
  by true f =
      let p = and_parts (nat_le 1 k) (nat_le k 8) f in
      let low : nat_le 1 k ≡ true = p.0 in
      let high : nat_le k 8 ≡ true = p.1 in
      (grind (arith, nat_tests), grind (arith, nat_tests))
  by false f = let g : ⊥ = let h = rw f at e in cc in absurd g
arity_ok n (negsuc k) e = let f : ⊥ = cc in absurd f

-- a session of relations, with one more
pub record RelationsAlone (s : SessionData) : Type 0 where
  pub mappings : s.mappings ≡ []
  pub base : s.base ≡ []
  pub updates : s.updates ≡ []

pub relation_kept : (s t : SessionData) (n : Name) (z : ℤ) → IsSession s → RelationsAlone s → IsName n → add_relation s n z ≡ Ok t → IsSession t × RelationsAlone t
unfolding add_relation
relation_kept s t n z valid alone named e =
    let a = bind_ok (unused (relation_names s.relations) n) _ t e in
    let b = bind_ok (within limit.Arity (not (is_arity z))) _ t a.2 in
    let c = bind_ok (within limit.Relations (nat_le (most_relations s.format) (length s.relations))) _ t b.2 in
    let r : RelationSchema = record { name = n; arity = natural z } in
    let rs : List RelationSchema = s.relations ++ r ∷ [] in
    let got : SessionData = so_far s.format rs s.mappings s.base s.updates in
    let free = room_ok (most_relations s.format) (length s.relations) (within_ok limit.Relations (nat_le (most_relations s.format) (length s.relations)) c.0 c.1) in
    let simple : IsSession (so_far s.format rs [] [] []) =
    bare s.format rs valid.format (names_grow (λ (x : RelationSchema). x.name) s.relations r valid.relation_names named (unused_ok (relation_names s.relations) n a.0 a.1))
    (all_grow IsRelation s.relations r valid.relations (arity_ok n z (within_ok limit.Arity (not (is_arity z)) b.0 b.1))) (omega (arith, length-append s.relations (r ∷ []))) in
    let with_mappings : IsSession (so_far s.format rs s.mappings [] []) = subst (λ (ms : List SessionMapping). IsSession (so_far s.format rs ms [] [])) (sym alone.mappings) simple in
    let with_base : IsSession (so_far s.format rs s.mappings s.base []) = subst (λ (ts : List Fact). IsSession (so_far s.format rs s.mappings ts [])) (sym alone.base) with_mappings in
    let whole : IsSession got = subst (λ (us : List SessionUpdate). IsSession (so_far s.format rs s.mappings s.base us)) (sym alone.updates) with_base in
    subst (λ (x : SessionData). IsSession x × RelationsAlone x) (ok_is got t c.2) (whole, record { mappings = alone.mappings; base = alone.base; updates = alone.updates })

-- ---- mappings

-- what a mapping that is added is
pub record MappingAdded (s : SessionData) (since : ℕ) (w : WrittenMapping) (t : SessionData) : Type 0 where
  pub m : SessionMapping
  pub read : MappingRead s.relations since w m
  pub new : is_one_of (mapping_names s.mappings) m.name ≡ false
  pub room : mappings_full s.mappings since ≡ false
  pub none : HasPlainCycle (length s.relations) (rules_of (s.mappings ++ m ∷ [])) → ⊥
  pub is : t ≡ so_far s.format s.relations (s.mappings ++ m ∷ []) s.base s.updates

acyclic_ok : (s : SessionData) (m : SessionMapping) (u : Unit {0}) → acyclic s m ≡ Ok u → HasPlainCycle (length s.relations) (rules_of (s.mappings ++ m ∷ [])) → ⊥
acyclic_ok s m u e c =
    let yes : has_plain_cycle (length s.relations) (rules_of (s.mappings ++ m ∷ [])) ≡ true = (cycle_decided (length s.relations) (rules_of (s.mappings ++ m ∷ []))).1 c in
    let f = rw yes at e in cc

pub mapping_added_so : (s t : SessionData) (since : ℕ) (w : WrittenMapping) → IsWrittenMapping w → ArePrinted (mapping_words w) → add_mapping s since w ≡ Ok t → MappingAdded s since w t
unfolding add_mapping
mapping_added_so s t since w good printed e =
    let a = bind_ok (unused (mapping_names s.mappings) w.name) _ t e in
    let b = bind_ok (within limit.Mappings (mappings_full s.mappings since)) _ t a.2 in
    let c = bind_ok (mapping_of s.relations since w) _ t b.2 in
    let d = bind_ok (acyclic s c.0) _ t c.2 in
    let read : MappingRead s.relations since w c.0 = mapping_valid s.relations since w good printed c.0 c.1 in
    let got : SessionData = so_far s.format s.relations (s.mappings ++ c.0 ∷ []) s.base s.updates in
    record {
      m = c.0;
      read = read;
      room = within_ok limit.Mappings (mappings_full s.mappings since) b.0 b.1;
      none = acyclic_ok s c.0 d.0 d.1;
      is = sym (ok_is got t d.2);
      new = subst (λ (n : Name). is_one_of (mapping_names s.mappings) n ≡ false) (sym read.name) (unused_ok (mapping_names s.mappings) w.name a.0 a.1);
    }

-- the mappings, as they are after some of the updates
pub record MappingsValid (s : SessionData) (ms : List SessionMapping) (pairs : List (ℕ × ℕ)) : Type 0 where
  pub names : AreNames (mapping_names ms)
  pub all : AllByRecursion (IsMapping s.relations) ms
  pub count : length ms ≤ 64
  pub added_count : length (added_mappings ms) ≤ 16
  pub added_last : ms ≡ initial_mappings ms ++ added_mappings ms
  pub added_by : pairs ≡ sinces (length (initial_mappings ms)) (added_mappings ms)
  pub added_format : s.format ≡ 1 → added_mappings ms ≡ []
  pub no_cycle : HasPlainCycle (length s.relations) (rules_of ms) → ⊥

pub mappings_now : (s : SessionData) → IsSession s → MappingsValid s s.mappings (enactments 1 s.updates)
mappings_now s v = record { names = v.mapping_names; all = v.mappings; count = v.mapping_count; added_count = v.added_count; added_last = v.added_last; added_by = v.added_by_updates; added_format = v.added_format; no_cycle = v.no_cycle }

-- a session with other mappings and more updates
pub record UpdatesValid (s : SessionData) (us : List SessionUpdate) : Type 0 where
  pub labels_ : AreNames (labels us)
  pub updates : AreUpdates s.relations 0 us
  pub update_count : length us ≤ 1000
  pub curator_count : length (curators us) ≤ 64
  pub answers : answer_count us ≤ most_answers s.format

updates_now : (s : SessionData) → IsSession s → UpdatesValid s s.updates
updates_now s v = record { labels_ = v.labels; updates = v.updates; update_count = v.update_count; curator_count = v.curator_count; answers = v.answers }

pub put_together : (s : SessionData) (ms : List SessionMapping) (us : List SessionUpdate) → IsSession s → MappingsValid s ms (enactments 1 us) → UpdatesValid s us → IsSession (so_far s.format s.relations ms s.base us)
put_together s ms us v m u = record {
  format = v.format;
  relation_names = v.relation_names;
  relations = v.relations;
  relation_count = v.relation_count;
  mapping_names = m.names;
  mappings = m.all;
  mapping_count = m.count;
  added_count = m.added_count;
  added_last = m.added_last;
  added_by_updates = m.added_by;
  added_format = m.added_format;
  no_cycle = m.no_cycle;
  base_order = v.base_order;
  base = v.base;
  base_count = v.base_count;
  labels = u.labels_;
  updates = u.updates;
  update_count = u.update_count;
  curator_count = u.curator_count;
  answers = u.answers;
}

few_mappings : (ms : List SessionMapping) (since : ℕ) → mappings_full ms since ≡ false → length ms < 64
few_mappings ms since room = room_ok 64 (length ms) (or_parts (nat_le 64 (length ms)) (not (since == 0) && nat_le 16 (length (added_mappings ms))) room).0

-- one more mapping of the session, where there is no update yet
pub initial_kept : (s t : SessionData) (w : WrittenMapping) → IsSession s → s.updates ≡ [] → MappingAdded s 0 w t → IsSession t
initial_kept s t w v none a =
    let none_added : added_mappings s.mappings ≡ [] = empty_sinces (length (initial_mappings s.mappings)) (added_mappings s.mappings) (ap (enactments 1) (sym none) ∙ v.added_by_updates) in
    let is : is_initial a.m ≡ true = let e : a.m.rule.since ≡ 0 = a.read.since_is in rw e refl in
    let ms : List SessionMapping = s.mappings ++ a.m ∷ [] in
    let initial : initial_mappings ms ≡ initial_mappings s.mappings ++ a.m ∷ [] = initial_grow s.mappings a.m true is in
    let added : added_mappings ms ≡ [] = added_grow s.mappings a.m true is ∙ append-nil (added_mappings s.mappings) ∙ none_added in
    let all_initial : s.mappings ≡ initial_mappings s.mappings = v.added_last ∙ ap (λ (xs : List SessionMapping). initial_mappings s.mappings ++ xs) none_added ∙ append-nil (initial_mappings s.mappings) in
    let last : ms ≡ initial_mappings ms ++ added_mappings ms =
    ap (λ (xs : List SessionMapping). xs ++ a.m ∷ []) all_initial ∙ sym initial ∙ sym (append-nil (initial_mappings ms)) ∙ ap (λ (xs : List SessionMapping). initial_mappings ms ++ xs) (sym added) in
    let mappings : MappingsValid s ms (enactments 1 s.updates) = record {
      names = names_grow (λ (x : SessionMapping). x.name) s.mappings a.m v.mapping_names a.read.named a.new;
      all = all_grow (IsMapping s.relations) s.mappings a.m v.mappings a.read.valid;
      count = omega (arith, few_mappings s.mappings 0 a.room, length-append s.mappings (a.m ∷ []));
      added_count = omega (arith, ap length added);
      added_last = last;
      added_by = ap (enactments 1) none ∙ ap (sinces (length (initial_mappings ms))) (sym added);
      added_format = λ one. added;
      no_cycle = a.none;
    } in
    subst IsSession (sym a.is) (put_together s ms s.updates v mappings (updates_now s v))

-- ---- the base

has_already : (D : List Fact) (t : Fact) → IsRepository D → has D t ≡ true → insert_key fact_cmp D t ≡ D
has_already D t sorted there = same_repository (insert_key fact_cmp D t) D (insert_in_order D t sorted) sorted (λ s. has-insert D t s ∙ by s (same_fact s t) refl) where
  by : (s : Fact) (b : Bool) → same_fact s t ≡ b → (same_fact s t || has D s) ≡ has D s
  by s true e = rw e (sym (ap (has D) (same_exact s t e) ∙ there))
  by s false e = rw e refl

base_fits : (D : List Fact) (t : Fact) (most : ℕ) → IsRepository D → length D ≤ most → (not (has D t) && nat_le most (length D)) ≡ false → length (insert_key fact_cmp D t) ≤ most
base_fits D t most sorted le room = by (has D t) refl where
  by : (b : Bool) → has D t ≡ b → length (insert_key fact_cmp D t) ≤ most
  by true e = omega (arith, ap length (has_already D t sorted e))
  by false e =
      let free : nat_le most (length D) ≡ false = rw e at room in
      omega (arith, insert_longer D t, room_ok most (length D) free)

pub tuple_kept : (s t : SessionData) (fact : WrittenFact) → IsSession s → IsWrittenFact fact → ArePrinted (fact_words fact) → add_tuple s fact ≡ Ok t → IsSession t × (t.updates ≡ s.updates)
unfolding add_tuple
tuple_kept s t fact v good printed e =
    let a = bind_ok (bounded_fact s.relations 0 fact) _ t e in
    let b = bind_ok (within limit.Base (not (has s.base a.0) && nat_le (most_tuples s.format) (length s.base))) _ t a.2 in
    let is : IsFact s.relations 0 a.0 = fact_valid s.relations 0 fact a.0 a.1 good printed in
    let got : SessionData = so_far s.format s.relations s.mappings (insert_key fact_cmp s.base a.0) s.updates in
    let valid : IsSession got = record {
      format = v.format;
      relation_names = v.relation_names;
      relations = v.relations;
      relation_count = v.relation_count;
      mapping_names = v.mapping_names;
      mappings = v.mappings;
      mapping_count = v.mapping_count;
      added_count = v.added_count;
      added_last = v.added_last;
      added_by_updates = v.added_by_updates;
      added_format = v.added_format;
      no_cycle = v.no_cycle;
      base_order = insert_in_order s.base a.0 v.base_order;
      base = insert_all (IsFact s.relations 0) s.base a.0 v.base is;
      base_count = base_fits s.base a.0 (most_tuples s.format) v.base_order v.base_count (within_ok limit.Base (not (has s.base a.0) && nat_le (most_tuples s.format) (length s.base)) b.0 b.1);
      labels = v.labels;
      updates = v.updates;
      update_count = v.update_count;
      curator_count = v.curator_count;
      answers = v.answers;
    } in
    subst (λ (x : SessionData). IsSession x × (x.updates ≡ s.updates)) (ok_is got t b.2) (valid, refl)

-- ---- updates

-- what an operation that passes its checks does
record Operated (s : SessionData) (p : Performed) : Type 0 where
  mappings : List SessionMapping
  is : p.1 ≡ so_far s.format s.relations mappings s.base s.updates
  valid : MappingsValid s mappings (enactments 1 s.updates ++ enacted (1 + length s.updates) p.0)
  operation : IsOperation s.relations (length s.updates) p.0

same_mappings : (s : SessionData) (op : Operation) → IsSession s → enacted (1 + length s.updates) op ≡ [] → MappingsValid s s.mappings (enactments 1 s.updates ++ enacted (1 + length s.updates) op)
same_mappings s op v none =
    subst (λ (ps : List (ℕ × ℕ)). MappingsValid s s.mappings ps) (sym (append-nil (enactments 1 s.updates)) ∙ ap (λ (ps : List (ℕ × ℕ)). enactments 1 s.updates ++ ps) (sym none)) (mappings_now s v)

added_fits : (ms : List SessionMapping) (n : ℕ) → mappings_full ms (n + 1) ≡ false → length (added_mappings ms) < 16
added_fits ms n room =
    let parts = or_parts (nat_le 64 (length ms)) (not (n + 1 == 0) && nat_le 16 (length (added_mappings ms))) room in
    let some : (n + 1 == 0) ≡ false = grind (arith, nat_tests) in
    let free : nat_le 16 (length (added_mappings ms)) ≡ false = rw some at parts.1 in
    room_ok 16 (length (added_mappings ms)) free

enacted_kept : (s t : SessionData) (w : WrittenMapping) → IsSession s → s.format ≡ 2 → (a : MappingAdded s (length s.updates + 1) w t)
    → MappingsValid s (s.mappings ++ a.m ∷ []) (enactments 1 s.updates ++ enacted (1 + length s.updates) (Enacts (length s.mappings)))
enacted_kept s t w v two a =
    let since : a.m.rule.since ≡ length s.updates + 1 = a.read.since_is in
    let is : is_initial a.m ≡ false = grind (arith, nat_tests) in
    let ms : List SessionMapping = s.mappings ++ a.m ∷ [] in
    let initial : initial_mappings ms ≡ initial_mappings s.mappings = initial_grow s.mappings a.m false is ∙ append-nil (initial_mappings s.mappings) in
    let added : added_mappings ms ≡ added_mappings s.mappings ++ a.m ∷ [] = added_grow s.mappings a.m false is in
    let last : ms ≡ initial_mappings ms ++ added_mappings ms =
    ap (λ (xs : List SessionMapping). xs ++ a.m ∷ []) v.added_last ∙ append_assoc (initial_mappings s.mappings) (added_mappings s.mappings) (a.m ∷ [])
    ∙ ap (λ (xs : List SessionMapping). xs ++ (added_mappings s.mappings ++ a.m ∷ [])) (sym initial) ∙ ap (λ (xs : List SessionMapping). initial_mappings ms ++ xs) (sym added) in
    let k : ℕ = length (initial_mappings s.mappings) in
    let size : length s.mappings ≡ length (initial_mappings s.mappings) + length (added_mappings s.mappings) = ap length v.added_last ∙ length-append (initial_mappings s.mappings) (added_mappings s.mappings) in
    let number : 1 + length s.updates ≡ a.m.rule.since = omega arith in
    let pair : ℕ → ℕ → List (ℕ × ℕ) = λ x y. (x, y) ∷ [] in
    let by : enactments 1 s.updates ++ enacted (1 + length s.updates) (Enacts (length s.mappings)) ≡ sinces (length (initial_mappings ms)) (added_mappings ms) =
    ap (λ (ps : List (ℕ × ℕ)). ps ++ pair (length s.mappings) (1 + length s.updates)) v.added_by_updates
    ∙ ap (λ (x : ℕ). sinces (length (initial_mappings s.mappings)) (added_mappings s.mappings) ++ pair x (1 + length s.updates)) size
    ∙ ap (λ (y : ℕ). sinces (length (initial_mappings s.mappings)) (added_mappings s.mappings) ++ pair (length (initial_mappings s.mappings) + length (added_mappings s.mappings)) y) number
    ∙ sym (sinces_grow (length (initial_mappings s.mappings)) (added_mappings s.mappings) a.m)
    ∙ ap (λ (xs : List SessionMapping). sinces (length (initial_mappings s.mappings)) xs) (sym added) ∙ ap (λ (xs : List SessionMapping). sinces (length xs) (added_mappings ms)) (sym initial) in
    record {
      names = names_grow (λ (x : SessionMapping). x.name) s.mappings a.m v.mapping_names a.read.named a.new;
      all = all_grow (IsMapping s.relations) s.mappings a.m v.mappings a.read.valid;
      count = omega (arith, few_mappings s.mappings (length s.updates + 1) a.room, length-append s.mappings (a.m ∷ []));
      added_count = omega (arith, ap length added, length-append (added_mappings s.mappings) (a.m ∷ []), added_fits s.mappings (length s.updates) a.room);
      added_last = last;
      added_by = by;
      added_format = λ one. let f : ⊥ = omega arith in absurd f;
      no_cycle = a.none;
    }

operation_kept : (s : SessionData) (p : Performed) (w : WrittenOperation) → IsSession s → IsWrittenOperation s.format w → ArePrinted (operation_words w) → operation_of s w ≡ Ok p → Operated s p
unfolding operation_of
operation_kept s p (InsertFact fact) v good printed e =
    let a = bind_ok (bounded_fact s.relations (length s.updates) fact) _ p e in
    let got : Performed = (Adds a.0, s) in
    subst (Operated s) (ok_is got p a.2) (record { mappings = s.mappings; is = refl; valid = same_mappings s (Adds a.0) v refl; operation = fact_valid s.relations (length s.updates) fact a.0 a.1 good printed.1 })
operation_kept s p (DeleteFact fact) v good printed e =
    let a = bind_ok (bounded_fact s.relations (length s.updates) fact) _ p e in
    let got : Performed = (Removes a.0, s) in
    subst (Operated s) (ok_is got p a.2) (record { mappings = s.mappings; is = refl; valid = same_mappings s (Removes a.0) v refl; operation = fact_valid s.relations (length s.updates) fact a.0 a.1 good printed.1 })
operation_kept s p (ReplaceNull n d) v good printed e =
    let a = bind_ok (nulls_within (length s.updates) (Unknown n ∷ d ∷ [])) _ p e in
    let got : Performed = (Replaces n d, s) in
    let both = values_valid (length s.updates) (Unknown n ∷ d ∷ []) a.0 a.1 (good.0, (good.1, tt)) ((printed.1.0, tt), ((printed.1.1.1.0, tt), tt)) in
    subst (Operated s) (ok_is got p a.2) (record { mappings = s.mappings; is = refl; valid = same_mappings s (Replaces n d) v refl; operation = (both.0, both.1.0) })
operation_kept s p (AddMapping w) v good printed e =
    let a = bind_ok (add_mapping s (length s.updates + 1) w) _ p e in
    let got : Performed = (Enacts (length s.mappings), a.0) in
    let m = mapping_added_so s a.0 (length s.updates + 1) w good.1 printed.1 a.1 in
    subst (Operated s) (ok_is got p a.2) (record { mappings = s.mappings ++ m.m ∷ []; is = m.is; valid = enacted_kept s a.0 w v good.0 m; operation = tt })

pub update_kept : (s t : SessionData) (label curator : Name) (w : WrittenOperation) → IsSession s → IsName label → IsName curator → IsWrittenOperation s.format w → ArePrinted (operation_words w) → add_update s label curator w ≡ Ok t → IsSession t
unfolding add_update
update_kept s t label curator w v named named' good printed e =
    let a = bind_ok (unused (labels s.updates) label) _ t e in
    let b = bind_ok (within limit.Updates (nat_le 1000 (length s.updates))) _ t a.2 in
    let c = bind_ok (within limit.Curators (curators_full s.updates curator)) _ t b.2 in
    let d = bind_ok (operation_of s w) _ t c.2 in
    let o = operation_kept s d.0 w v good printed d.1 in
    let u : SessionUpdate = record { label = label; curator = curator; operation = d.0.0; answers = [] } in
    let us : List SessionUpdate = s.updates ++ u ∷ [] in
    let mappings : MappingsValid s o.mappings (enactments 1 us) = subst (MappingsValid s o.mappings) (sym (enactments_grow 1 s.updates u)) o.valid in
    let updates : UpdatesValid s us = record {
      labels_ = names_grow (λ (x : SessionUpdate). x.label) s.updates u v.labels named (unused_ok (labels s.updates) label a.0 a.1);
      updates = updates_grow s.relations 0 s.updates u v.updates (named', subst (λ n. IsOperation s.relations n u.operation) (let n : length s.updates ≡ 0 + length s.updates = omega arith in n) o.operation, tt);
      update_count = omega (arith, length-append s.updates (u ∷ []), room_ok 1000 (length s.updates) (within_ok limit.Updates (nat_le 1000 (length s.updates)) b.0 b.1));
      curator_count = curators_fit s.updates u v.curator_count (within_ok limit.Curators (curators_full s.updates curator) c.0 c.1);
      answers = omega (arith, answers_grow s.updates u refl, v.answers);
    } in
    let valid = put_together s o.mappings us v mappings updates in
    let got : SessionData = so_far d.0.1.format d.0.1.relations d.0.1.mappings d.0.1.base us in
    let same : so_far s.format s.relations o.mappings s.base us ≡ got = ap (λ (x : SessionData). so_far x.format x.relations x.mappings x.base us) (sym o.is) in
    subst IsSession (same ∙ ok_is got t d.2) valid

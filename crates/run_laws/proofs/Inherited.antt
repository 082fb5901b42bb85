-- What the saved mappings inherit from those of the session: they are some of these, in force from the start.
use Rattle.std.specs.Prelude.{filter}
use Rattle.std.proofs.Common.{◌≡◌, ℕ, ◌≤◌, ap, refl, sym, ◌∙◌, List, [], ◌∷◌, ◌++◌, map, length, Bool, true, false, ◌&&◌, ◌||◌, cond, arith}
use Rattle.std.specs.List.{AllByRecursion}
use Rattle.def_chase.proofs.Bools.{or_right, first_off}
use Rattle.def_chase.proofs.Searches.{any_join}
use Rattle.def_language.specs.Names.{Name, same_name, is_one_of}
use Rattle.def_language.specs.Cycles.{stands_left, stands_plain, leads, Path, step, more, HasPlainCycle}
use Rattle.def_language.specs.Sessions.{RelationSchema, SessionMapping, mapping_names, initial_mappings, added_mappings}
use Rattle.def_language.specs.Checks.{rules_of}
use Rattle.def_language.specs.Validity.{AreNew, IsMapping}
use Rattle.lang_report.specs.Saved.{from_start}

-- some of the mappings, in force from the start
abbrev pub some_of : (SessionMapping → Bool) → List SessionMapping → List SessionMapping
some_of p ms = map from_start (filter p ms)

-- ---- names

one_more : (before : List Name) (n k : Name) → is_one_of (before ++ n ∷ []) k ≡ (is_one_of before k || (same_name k n || false))
one_more before n k = any_join (same_name k) before (n ∷ [])

neither : (a b : Bool) → a ≡ false → b ≡ false → (a || b) ≡ false
neither a b e f = ap (λ x. x || b) e ∙ f

pub names_new : (p : SessionMapping → Bool) (ms : List SessionMapping) (before less : List Name) → ((n : Name) → is_one_of before n ≡ false → is_one_of less n ≡ false) → AreNew before (mapping_names ms) → AreNew less (mapping_names (some_of p ms))
names_new p [] before less h a = tt
names_new p (m ∷ ms) before less h a = by (p m) (λ l g. names_new p ms (before ++ m.name ∷ []) l g a.2)
  where
    first : (k : Name) → is_one_of (before ++ m.name ∷ []) k ≡ false → (is_one_of before k ≡ false) × ((same_name k m.name || false) ≡ false)
    first k e = first_off (is_one_of before k) (same_name k m.name || false) (sym (one_more before m.name k) ∙ e)

    by : (b : Bool) → ((l : List Name) → ((n : Name) → is_one_of (before ++ m.name ∷ []) n ≡ false → is_one_of l n ≡ false) → AreNew l (mapping_names (some_of p ms)))
        → AreNew less (mapping_names (map from_start (cond b (m ∷ filter p ms) (filter p ms))))
    by true rest = (
      a.0,
      h m.name a.1,
      rest (less ++ m.name ∷ []) (λ k e. one_more less m.name k ∙ neither (is_one_of less k) (same_name k m.name || false) (h k (first k e).0) (first k e).1),
    )
    by false rest = rest less (λ k e. h k (first k e).0)

-- ---- each of them

begun_mapping : (rs : List RelationSchema) (m : SessionMapping) → IsMapping rs m → IsMapping rs (from_start m)
begun_mapping rs m g = record { names = g.names; count = g.count; left = g.left; right = g.right; universal = g.universal; all = g.all }

pub some_mappings : (rs : List RelationSchema) (p : SessionMapping → Bool) (ms : List SessionMapping) → AllByRecursion (IsMapping rs) ms → AllByRecursion (IsMapping rs) (some_of p ms)
some_mappings rs p [] h = tt
some_mappings rs p (m ∷ ms) h = by (p m) (some_mappings rs p ms h.1)
  where
    by : (b : Bool) → AllByRecursion (IsMapping rs) (some_of p ms) → AllByRecursion (IsMapping rs) (map from_start (cond b (m ∷ filter p ms) (filter p ms)))
    by true rest = (begun_mapping rs m h.0, rest)
    by false rest = rest

pub some_few : (p : SessionMapping → Bool) (ms : List SessionMapping) → length (some_of p ms) ≤ length ms
some_few p [] = omega arith
some_few p (m ∷ ms) = by (p m) (some_few p ms)
  where
    by : (b : Bool) → length (some_of p ms) ≤ length ms → length (map from_start (cond b (m ∷ filter p ms) (filter p ms))) ≤ length (m ∷ ms)
    by true rest = omega arith
    by false rest = omega arith

pub none_added : (ms : List SessionMapping) → added_mappings (map from_start ms) ≡ []
none_added [] = refl
none_added (m ∷ ms) = none_added ms

pub all_initial : (ms : List SessionMapping) → initial_mappings (map from_start ms) ≡ map from_start ms
all_initial [] = refl
all_initial (m ∷ ms) = ap (λ (l : List SessionMapping). from_start m ∷ l) (all_initial ms)

-- ---- cycles

fewer_lead : (p : SessionMapping → Bool) (ms : List SessionMapping) (r t : ℕ) → leads (rules_of (some_of p ms)) r t ≡ true → leads (rules_of ms) r t ≡ true
fewer_lead p [] r t h = h
fewer_lead p (m ∷ ms) r t h = by (p m) h (fewer_lead p ms r t)
  where
    first : (b : Bool) → (b || leads (rules_of (some_of p ms)) r t) ≡ true → (leads (rules_of (some_of p ms)) r t ≡ true → leads (rules_of ms) r t ≡ true) → (b || leads (rules_of ms) r t) ≡ true
    first true g rest = refl
    first false g rest = rest g

    by : (b : Bool) → leads (rules_of (map from_start (cond b (m ∷ filter p ms) (filter p ms)))) r t ≡ true → (leads (rules_of (some_of p ms)) r t ≡ true → leads (rules_of ms) r t ≡ true)
        → ((stands_left r m.rule && stands_plain t m.rule) || leads (rules_of ms) r t) ≡ true
    by true g rest = first (stands_left r m.rule && stands_plain t m.rule) g rest
    by false g rest = or_right (stands_left r m.rule && stands_plain t m.rule) (leads (rules_of ms) r t) (rest g)

fewer_paths : (edge wider : ℕ → ℕ → Bool) (n : ℕ) → ((r t : ℕ) → edge r t ≡ true → wider r t ≡ true) → {r t : ℕ} → Path edge n r t → Path wider n r t
fewer_paths edge wider n h (step r t e) = step r t (h r t e)
fewer_paths edge wider n h (more r m t l e rest) = more r m t l (h r m e) (fewer_paths edge wider n h rest)

pub no_new_cycle : (p : SessionMapping → Bool) (ms : List SessionMapping) (n : ℕ) → HasPlainCycle n (rules_of (some_of p ms)) → HasPlainCycle n (rules_of ms)
no_new_cycle p ms n (r, l, path) = (r, l, fewer_paths (leads (rules_of (some_of p ms))) (leads (rules_of ms)) n (fewer_lead p ms) path)

-- Values and tuples of an update that are found in turn.
use Rattle.std.proofs.Common.{◌≡◌, ◌∙◌, ap, refl, sym, subst, ℕ, ◌+◌, ◌<◌, ◌≤◌, Bool, true, false, ◌||◌, cond, List, [], ◌∷◌, ◌++◌, map, length, drop, get_or, find, Option, Some, None, is_some, Bor, append_assoc}
use Rattle.std.specs.Option.{option_map, option_copied}
use Rattle.std.specs.List.{list_any}
use Rattle.std.proofs.lemmas.List.{append-nil, drop_more, drop_all, map_push}
use Rattle.base_types.specs.Candidates.{is_holding}
use Rattle.base_types.specs.Meanings.{datum_of, fact_of, null_of}
use Rattle.base_types.specs.declared.nulls.Null.{Null}
use Rattle.base_types.specs.declared.tuples.Tuple.{Tuple}
use Rattle.base_types.specs.declared.values.Value.{Value}
use Rattle.def_chase.specs.Queries.{holds_null}
use Rattle.def_chase.specs.Values.{Datum, Fact, NullName}
use Rattle.def_workspace.specs.Lines.{Spelled}
use Rattle.def_workspace.specs.Names.{stands_in}
use Rattle.def_workspace.specs.Ops.{Found, There, Lost, AllFound, AllThere, OneLost, one_more, one_found, all_found, found, found_spelled, Course, Going, Halted, with_values, with_facts, with_spelled}
use Rattle.def_workspace.specs.Runs.{NotThere}
use Rattle.ws_lines.specs.Meanings.{spelled_of, spelled_fact_of}
use Rattle.ws_lines.specs.declared.spelled.SpelledTuple.{SpelledTuple}
use Rattle.ws_ground.specs.declared.grounds.Ground.{Ground}
use Rattle.ws_run.specs.Finding.{IsNotThere, Misses, Loses, LosesOne, IsOver, GoesOnWith, HaltsFirst}
use Rattle.ws_run.specs.declared.halts.Halt.{Halt}
use Rattle.ws_run.specs.declared.halts.Halt.TheVariants.{Memory, Left}
use Rattle.ws_run.specs.declared.halts.Reason.{Reason}
use Rattle.ws_run.specs.declared.halts.Reason.TheVariants.{Asks as AsksQuestion, NotThere as NullNotThere, TooLong, Violated, Gone}

-- ---- nulls that stand

-- A search finds one if there is any.
some_found : {A : Type 0} (p : A → Bool) (xs : List A) → is_some (find p xs) ≡ list_any p xs
some_found p [] = refl
some_found p (x ∷ xs) = by (p x) (some_found p xs)
  where
    by : (b : Bool) → is_some (find p xs) ≡ list_any p xs → is_some (cond b (Some x) (find p xs)) ≡ (b || list_any p xs)
    by true e = refl
    by false e = e

seen : (r : Option (Bor Tuple)) → is_some r ≡ is_some (option_map fact_of (option_copied r))
seen None = refl
seen (Some t) = refl

pub some_holds : (r : Option (Bor Tuple)) (D : List Fact) (n : NullName)
    → option_map fact_of (option_copied r) ≡ find (is_holding n.update n.place None) D → is_some r ≡ stands_in D n
some_holds r D n e = seen r ∙ ap is_some e ∙ some_found (holds_null n.update n.place) D

-- ---- what is missed

-- What is missed for one reason is missed for another one that follows from it.
pub misses_as : (P Q : NullName → Type 0) → ((u : NullName) → P u → Q u) → (h : Halt) → Misses P h → Misses Q h
misses_as P Q f Memory m = tt
misses_as P Q f (Left (NullNotThere n)) m = f (null_of n) m
misses_as P Q f (Left (AsksQuestion told)) m = absurd m
misses_as P Q f (Left (TooLong made)) m = absurd m
misses_as P Q f (Left (Violated n)) m = absurd m
misses_as P Q f (Left (Gone n)) m = absurd m

pub wants_memory : (P : NullName → Type 0) (h : Halt) → h ≡ Memory → Misses P h
wants_memory P h e = subst (λ (x : Halt). Misses P x) (sym e) tt

-- ---- values in turn

-- What is found, after these values.
abbrev pub after_values : List Datum → AllFound → AllFound
after_values ds (AllThere es) = AllThere (ds ++ es)
after_values ds (OneLost u) = OneLost u

module _ {V B : Type 0} (m : V → B) (f : B → Found) (vs : List V) where
  -- What is found in all if these are found in those before place i.
  abbrev pub FoundSoFar : ℕ → List Value → Type 0
  FoundSoFar i all = after_values (map datum_of all) (all_found f (map m (drop i vs))) ≡ all_found f (map m vs)

  none_before : (r : AllFound) → after_values [] r ≡ r
  none_before (AllThere es) = refl
  none_before (OneLost u) = refl

  pub found_none : (all : List Value) → all ≡ [] → FoundSoFar 0 all
  found_none all e = ap (λ (l : List Value). after_values (map datum_of l) (all_found f (map m vs))) e ∙ none_before (all_found f (map m vs))

  one_after : (ds : List Datum) (d : Datum) (r : AllFound) → after_values ds (one_more d r) ≡ after_values (ds ++ d ∷ []) r
  one_after ds d (AllThere es) = ap AllThere (sym (append_assoc ds (d ∷ []) es))
  one_after ds d (OneLost u) = refl

  next_of : (i : ℕ) (v : V) → i < length vs → v ≡ get_or vs i v → all_found f (map m (drop i vs)) ≡ one_found (f (m v)) (all_found f (map m (drop (i + 1) vs)))
  next_of i v h e = ap (λ (ws : List V). all_found f (map m ws)) (drop_more vs i v h ∙ ap (λ (w : V). w ∷ drop (i + 1) vs) (sym e))

  pub found_on : (i : ℕ) (v : V) (all next : List Value) (x : Value) → i < length vs → v ≡ get_or vs i v → f (m v) ≡ There (datum_of x) → next ≡ all ++ x ∷ []
      → FoundSoFar i all → FoundSoFar (i + 1) next
  found_on i v all next x h e there more so_far =
      ap (λ (l : List Value). after_values (map datum_of l) (all_found f (map m (drop (i + 1) vs)))) more
      ∙ ap (λ (ds : List Datum). after_values ds (all_found f (map m (drop (i + 1) vs)))) (map_push datum_of all x)
      ∙ sym (one_after (map datum_of all) (datum_of x) (all_found f (map m (drop (i + 1) vs))))
      ∙ sym (ap (after_values (map datum_of all)) (next_of i v h e ∙ ap (λ (g : Found). one_found g (all_found f (map m (drop (i + 1) vs)))) there))
      ∙ so_far

  pub lost_at : (i : ℕ) (v : V) (all : List Value) (h : Halt) → i < length vs → v ≡ get_or vs i v → Loses (f (m v)) h → FoundSoFar i all → LosesOne (all_found f (map m vs)) h
  lost_at i v all h k e loses so_far =
      misses_as (λ u. f (m v) ≡ Lost u) (λ u. all_found f (map m vs) ≡ OneLost u)
      (λ u lost. sym so_far ∙ ap (after_values (map datum_of all)) (next_of i v k e ∙ ap (λ (g : Found). one_found g (all_found f (map m (drop (i + 1) vs)))) lost))
      h loses

  pub found_end : (i : ℕ) (all : List Value) → length vs ≤ i → FoundSoFar i all → all_found f (map m vs) ≡ AllThere (map datum_of all)
  found_end i all h so_far =
      sym so_far
      ∙ ap (λ (ws : List V). after_values (map datum_of all) (all_found f (map m ws))) (drop_all i vs h)
      ∙ ap AllThere (append-nil (map datum_of all))

-- ---- tuples in turn

module _ (g : Ground) (c : Course) (over : IsOver g c) where
  -- The names and tuples are those of the ground.
  rows : (ds : List Datum) → all_found (found c.thread.names c.facts) ds ≡ all_found (found g.names g.facts) ds
  rows ds i = all_found (found (over.names i) (over.facts i)) ds

  module _ (ts : List Tuple) (i : ℕ) (t : Tuple) (h : i < length ts) (e : t ≡ get_or ts i t) where
    -- A tuple is found next.
    pub facts_on : (vs : List Value) (all next : List Tuple) (u : Tuple)
        → all_found (found g.names g.facts) (map datum_of t.values.items) ≡ AllThere (map datum_of vs) → fact_of u ≡ record { relation = t.relation; values = map datum_of vs }
        → next ≡ all ++ u ∷ []
        → ((f : List Fact → Going) → with_facts c (map fact_of (drop i ts)) (λ us. f (map fact_of all ++ us)) ≡ with_facts c (map fact_of ts) f)
        → (f : List Fact → Going) → with_facts c (map fact_of (drop (i + 1) ts)) (λ us. f (map fact_of next ++ us)) ≡ with_facts c (map fact_of ts) f
    facts_on vs all next u there is more so_far f =
        (λ j. with_facts c (map fact_of (drop (i + 1) ts)) (λ us. f (added us j)))
        ∙ sym (ap (λ (a : AllFound). with_values c a (λ ds. with_facts c (map fact_of (drop (i + 1) ts)) (λ us. f (map fact_of all ++ record { relation = t.relation; values = ds } ∷ us)))) (rows (map datum_of t.values.items) ∙ there))
        ∙ sym (ap (λ (l : List Tuple). with_facts c (map fact_of l) (λ us. f (map fact_of all ++ us))) (drop_more ts i t h ∙ ap (λ (s : Tuple). s ∷ drop (i + 1) ts) (sym e)))
        ∙ so_far f
      where
        added : (us : List Fact) → map fact_of next ++ us ≡ map fact_of all ++ record { relation = t.relation; values = map datum_of vs } ∷ us
        added us =
            ap (λ (l : List Tuple). map fact_of l ++ us) more
            ∙ ap (λ (l : List Fact). l ++ us) (map_push fact_of all u)
            ∙ append_assoc (map fact_of all) (fact_of u ∷ []) us
            ∙ ap (λ (s : Fact). map fact_of all ++ s ∷ us) is

    -- A tuple has a null that is not there.
    pub fact_lost : (all : List Tuple) (x : Halt) → LosesOne (all_found (found g.names g.facts) (map datum_of t.values.items)) x
        → ((f : List Fact → Going) → with_facts c (map fact_of (drop i ts)) (λ us. f (map fact_of all ++ us)) ≡ with_facts c (map fact_of ts) f)
        → HaltsFirst (with_facts c (map fact_of ts)) c x
    fact_lost all x loses so_far =
        misses_as (λ n. all_found (found g.names g.facts) (map datum_of t.values.items) ≡ OneLost n) (λ n. (f : List Fact → Going) → with_facts c (map fact_of ts) f ≡ Halted (NotThere n) c.thread)
        (λ n lost f.
        sym (so_far f)
        ∙ ap (λ (l : List Tuple). with_facts c (map fact_of l) (λ us. f (map fact_of all ++ us))) (drop_more ts i t h ∙ ap (λ (s : Tuple). s ∷ drop (i + 1) ts) (sym e))
        ∙ ap (λ (a : AllFound). with_values c a (λ ds. with_facts c (map fact_of (drop (i + 1) ts)) (λ us. f (map fact_of all ++ record { relation = t.relation; values = ds } ∷ us)))) (rows (map datum_of t.values.items) ∙ lost))
        x loses

  -- None is found yet.
  pub facts_none : (ts : List Tuple) (all : List Tuple) → all ≡ [] → (f : List Fact → Going) → with_facts c (map fact_of ts) (λ us. f (map fact_of all ++ us)) ≡ with_facts c (map fact_of ts) f
  facts_none ts all e f = ap (λ (l : List Tuple). with_facts c (map fact_of ts) (λ us. f (map fact_of l ++ us))) e

  -- All are found.
  pub facts_end : (ts : List Tuple) (i : ℕ) (all : List Tuple) → length ts ≤ i
      → ((f : List Fact → Going) → with_facts c (map fact_of (drop i ts)) (λ us. f (map fact_of all ++ us)) ≡ with_facts c (map fact_of ts) f)
      → GoesOnWith (with_facts c (map fact_of ts)) (map fact_of all)
  facts_end ts i all h so_far f =
      sym (so_far f)
      ∙ ap (λ (l : List Tuple). with_facts c (map fact_of l) (λ us. f (map fact_of all ++ us))) (drop_all i ts h)
      ∙ ap f (append-nil (map fact_of all))

-- ---- tuples of a line in turn

module _ (first : ℕ) (g : Ground) (c : Course) (over : IsOver g c) where
  -- The names and tuples are those of the ground.
  spelled_rows : (vs : List Spelled) → all_found (found_spelled first c.thread.names c.facts) vs ≡ all_found (found_spelled first g.names g.facts) vs
  spelled_rows vs i = all_found (found_spelled first (over.names i) (over.facts i)) vs

  module _ (ts : List SpelledTuple) (i : ℕ) (t : SpelledTuple) (h : i < length ts) (e : t ≡ get_or ts i t) where
    -- A tuple is found next.
    pub spelled_on : (vs : List Value) (all next : List Tuple) (u : Tuple)
        → all_found (found_spelled first g.names g.facts) (map spelled_of t.values.items) ≡ AllThere (map datum_of vs) → fact_of u ≡ record { relation = t.relation; values = map datum_of vs }
        → next ≡ all ++ u ∷ []
        → ((f : List Fact → Going) → with_spelled first c (map spelled_fact_of (drop i ts)) (λ us. f (map fact_of all ++ us)) ≡ with_spelled first c (map spelled_fact_of ts) f)
        → (f : List Fact → Going) → with_spelled first c (map spelled_fact_of (drop (i + 1) ts)) (λ us. f (map fact_of next ++ us)) ≡ with_spelled first c (map spelled_fact_of ts) f
    spelled_on vs all next u there is more so_far f =
        (λ j. with_spelled first c (map spelled_fact_of (drop (i + 1) ts)) (λ us. f (added us j)))
        ∙ sym (ap (λ (a : AllFound). with_values c a (λ ds. with_spelled first c (map spelled_fact_of (drop (i + 1) ts)) (λ us. f (map fact_of all ++ record { relation = t.relation; values = ds } ∷ us)))) (spelled_rows (map spelled_of t.values.items) ∙ there))
        ∙ sym (ap (λ (l : List SpelledTuple). with_spelled first c (map spelled_fact_of l) (λ us. f (map fact_of all ++ us))) (drop_more ts i t h ∙ ap (λ (s : SpelledTuple). s ∷ drop (i + 1) ts) (sym e)))
        ∙ so_far f
      where
        added : (us : List Fact) → map fact_of next ++ us ≡ map fact_of all ++ record { relation = t.relation; values = map datum_of vs } ∷ us
        added us =
            ap (λ (l : List Tuple). map fact_of l ++ us) more
            ∙ ap (λ (l : List Fact). l ++ us) (map_push fact_of all u)
            ∙ append_assoc (map fact_of all) (fact_of u ∷ []) us
            ∙ ap (λ (s : Fact). map fact_of all ++ s ∷ us) is

    -- A tuple has a null that is not there.
    pub spelled_lost : (all : List Tuple) (x : Halt) → LosesOne (all_found (found_spelled first g.names g.facts) (map spelled_of t.values.items)) x
        → ((f : List Fact → Going) → with_spelled first c (map spelled_fact_of (drop i ts)) (λ us. f (map fact_of all ++ us)) ≡ with_spelled first c (map spelled_fact_of ts) f)
        → HaltsFirst (with_spelled first c (map spelled_fact_of ts)) c x
    spelled_lost all x loses so_far =
        misses_as (λ n. all_found (found_spelled first g.names g.facts) (map spelled_of t.values.items) ≡ OneLost n) (λ n. (f : List Fact → Going) → with_spelled first c (map spelled_fact_of ts) f ≡ Halted (NotThere n) c.thread)
        (λ n lost f.
        sym (so_far f)
        ∙ ap (λ (l : List SpelledTuple). with_spelled first c (map spelled_fact_of l) (λ us. f (map fact_of all ++ us))) (drop_more ts i t h ∙ ap (λ (s : SpelledTuple). s ∷ drop (i + 1) ts) (sym e))
        ∙ ap (λ (a : AllFound). with_values c a (λ ds. with_spelled first c (map spelled_fact_of (drop (i + 1) ts)) (λ us. f (map fact_of all ++ record { relation = t.relation; values = ds } ∷ us)))) (spelled_rows (map spelled_of t.values.items) ∙ lost))
        x loses

  -- None is found yet.
  pub spelled_none : (ts : List SpelledTuple) (all : List Tuple) → all ≡ [] → (f : List Fact → Going) → with_spelled first c (map spelled_fact_of ts) (λ us. f (map fact_of all ++ us)) ≡ with_spelled first c (map spelled_fact_of ts) f
  spelled_none ts all e f = ap (λ (l : List Tuple). with_spelled first c (map spelled_fact_of ts) (λ us. f (map fact_of l ++ us))) e

  -- All are found.
  pub spelled_end : (ts : List SpelledTuple) (i : ℕ) (all : List Tuple) → length ts ≤ i
      → ((f : List Fact → Going) → with_spelled first c (map spelled_fact_of (drop i ts)) (λ us. f (map fact_of all ++ us)) ≡ with_spelled first c (map spelled_fact_of ts) f)
      → GoesOnWith (with_spelled first c (map spelled_fact_of ts)) (map fact_of all)
  spelled_end ts i all h so_far f =
      sym (so_far f)
      ∙ ap (λ (l : List SpelledTuple). with_spelled first c (map spelled_fact_of l) (λ us. f (map fact_of all ++ us))) (drop_all i ts h)
      ∙ ap f (append-nil (map fact_of all))

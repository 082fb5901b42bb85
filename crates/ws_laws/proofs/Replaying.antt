-- Lines that are done once more, with tables that have all their places, do the same and give no new place.
use Rattle.std.proofs.Common.{◌≡◌, ◌∙◌, ap, sym, refl, subst, ℕ, true, false, Bool, ◌==◌, Option, Some, None, List, [], ◌∷◌, ◌++◌, cond, arith, ◌⊎◌, inl, inr}
use Rattle.std.specs.Prelude.{take}
use Rattle.std.proofs.lemmas.Bool.{eq-eqb, eqb-true}
use Rattle.std.proofs.lemmas.List.{take-take, take_at, length-take-le}
use Rattle.def_chase.specs.Violations.{Scope}
use Rattle.def_chase.specs.Updates.{Operation}
use Rattle.def_chase.proofs.Bools.{differ}
use Rattle.def_workspace.specs.Lines.{Update, Asked, Given, Declared, Line, Says, Answers, Goes, Undoes, Redoes, Forgets, Declares}
use Rattle.def_workspace.specs.Places.{Places}
use Rattle.def_workspace.specs.Runs.{Asks, NotThere, TooLong, Violated, Gone}
use Rattle.def_workspace.specs.Worlds.{World, Waiting, Ran, Done, Left, places_of, taken_of, settled, waiting_at, asks_it}
use Rattle.def_workspace.specs.States.{Table, table_of, with_table, Live, after_run, run_in, retried, answered_by, answered_at, gone_at, done_by, done_by_all}
use Rattle.def_workspace.specs.NameLaws.{Grows}
use Rattle.ws_laws.specs.Replays.{Hears, IsHeard, AreHeard}
use Rattle.ws_laws.proofs.Growing.{further, put_table, lines}
use Rattle.ws_laws.proofs.Rerunning.{ran_in, runs_again}
use Rattle.ws_laws.proofs.Answering.{takes_at_most, runs_on}

-- ---- the same end with another table

same_settled : (w : World) (u : Update) (gs : List Given) (V : Places) (r : Ran) → settled w u gs (ran_in V r) ≡ settled w u gs r
same_settled w u gs V (Done v ps n) = refl
same_settled w u gs V (Left r ps n) = refl

same_places : (V : Places) (r : Ran) → places_of (ran_in V r) ≡ V
same_places V (Done v ps n) = refl
same_places V (Left r ps n) = refl

same_taken : (V : Places) (r : Ran) → taken_of (ran_in V r) ≡ taken_of r
same_taken V (Done v ps n) = refl
same_taken V (Left r ps n) = refl

same_asks : (V : Places) (r : Ran) (q : Asked) → asks_it (ran_in V r) q ≡ asks_it r q
same_asks V (Done v ps n) q = refl
same_asks V (Left (Asks p a ts) ps n) q = refl
same_asks V (Left (NotThere u) ps n) q = refl
same_asks V (Left TooLong ps n) q = refl
same_asks V (Left (Violated m) ps n) q = refl
same_asks V (Left (Gone m) ps n) q = refl

-- ---- tables

-- The other tables have all places of these.
abbrev pub Covers : List Table → List Table → Type 0
Covers ts us = (n : ℕ) → Grows (table_of ts n) (table_of us n)

abbrev pub SameTables : List Table → List Table → Type 0
SameTables ts us = (n : ℕ) → table_of ts n ≡ table_of us n

covers_same : (ts us vs : List Table) → Covers ts us → SameTables vs us → Covers ts vs
covers_same ts us vs c s n = subst (Grows (table_of ts n)) (sym (s n)) (c n)

-- The same stands, and no table has a new place.
pub record Again (w : World) (us : List Table) (k : Live) : Type 0 where
  pub world : k.world ≡ w
  pub tables : SameTables k.tables us

-- A table that is put and was there.
put_same : (us : List Table) (n : ℕ) (ps : Places) → ps ≡ table_of us n → SameTables (with_table us n ps) us
put_same us n ps e m = put_table us n ps m ∙ by (n == m) refl
  where
    by : (b : Bool) → (n == m) ≡ b → cond b ps (table_of us m) ≡ table_of us m
    by true f = e ∙ ap (table_of us) (eqb-true n m f)
    by false f = refl

-- The table that was put is covered.
put_covered : (ts us : List Table) (n : ℕ) (ps : Places) → Covers (with_table ts n ps) us → Grows ps (table_of us n)
put_covered ts us n ps c =
    subst (λ qs. Grows qs (table_of us n)) (put_table ts n ps n ∙ ap (λ b. cond b ps (table_of ts n)) (eq-eqb n n refl)) (c n)

-- ---- lines

module _ (scope : Operation → Scope) (ds : List Declared) (l : Live) (us : List Table) where
  -- The same stands, but with these tables.
  abbrev anew : Live
  anew = record { world = l.world; tables = us }

  same_run : (u : Update) (gs : List Given) → Grows (places_of (run_in scope ds l u gs)) (table_of us u.number)
      → run_in scope ds anew u gs ≡ ran_in (table_of us u.number) (run_in scope ds l u gs)
  same_run u gs c = runs_again scope ds l.world (table_of l.tables u.number) (table_of us u.number) u gs c

  ran_again : (u : Update) (gs : List Given) → Covers (after_run l u gs (run_in scope ds l u gs)).tables us
      → Again (after_run l u gs (run_in scope ds l u gs)).world us (after_run anew u gs (run_in scope ds anew u gs))
  ran_again u gs c =
      let same : run_in scope ds anew u gs ≡ ran_in (table_of us u.number) (run_in scope ds l u gs) =
      same_run u gs (put_covered l.tables us u.number (places_of (run_in scope ds l u gs)) c) in
      record {
        world = ap (settled l.world u gs) same ∙ same_settled l.world u gs (table_of us u.number) (run_in scope ds l u gs);
        tables = put_same us u.number (places_of (run_in scope ds anew u gs))
            (ap places_of same ∙ same_places (table_of us u.number) (run_in scope ds l u gs));
      }

  module _ (v : Waiting) where
    abbrev first : Ran
    first = run_in scope ds l v.update v.answers

    -- The run as it is now gives only places that the run with the answers that it takes and more gives.
    first_covered : (gs : List Given) → take (taken_of first) gs ≡ take (taken_of first) v.answers
        → Covers (after_run l v.update gs (run_in scope ds l v.update gs)).tables us → Grows (places_of first) (table_of us v.update.number)
    first_covered gs e c =
        further (places_of first) (places_of (run_in scope ds l v.update gs)) (table_of us v.update.number)
        (runs_on scope ds l.world (table_of l.tables v.update.number) v.update v.answers gs e)
        (put_covered l.tables us v.update.number (places_of (run_in scope ds l v.update gs)) c)

    more_answers : (g : Given) → take (taken_of first) (take (taken_of first) v.answers ++ g ∷ []) ≡ take (taken_of first) v.answers
    more_answers g =
        take_at (take (taken_of first) v.answers) (g ∷ []) (taken_of first)
        (length-take-le (taken_of first) v.answers (takes_at_most scope ds l.world (table_of l.tables v.update.number) v.update v.answers))

    no_more_answers : take (taken_of first) (take (taken_of first) v.answers) ≡ take (taken_of first) v.answers
    no_more_answers = take-take (taken_of first) (taken_of first) v.answers (omega arith)

    -- What an answer does, by whether the question is asked.
    abbrev answered_if : Live → Given → Bool → ℕ → Live
    answered_if k g b n = cond b (retried scope ds k v.update (take n v.answers ++ g ∷ [])) k

    asked_again : (g : Given) → Grows (places_of first) (table_of us v.update.number)
        → answered_by scope ds anew v g (run_in scope ds anew v.update v.answers) ≡ answered_if anew g (asks_it first g.asked) (taken_of first)
    asked_again g c =
        ap (answered_by scope ds anew v g) (same_run v.update v.answers c)
        ∙ (λ i. answered_if anew g (same_asks (table_of us v.update.number) first g.asked i) (same_taken (table_of us v.update.number) first i))

    answer_again : (g : Given) → Hears scope ds l g (Some v) → Covers (answered_by scope ds l v g first).tables us
        → Again (answered_by scope ds l v g first).world us (answered_by scope ds anew v g (run_in scope ds anew v.update v.answers))
    answer_again g h c = by (asks_it first g.asked) refl h c
      where
        by : (b : Bool) → asks_it first g.asked ≡ b → (b ≡ true) ⊎ (places_of first ≡ table_of l.tables v.update.number)
            → Covers (answered_if l g b (taken_of first)).tables us
            → Again (answered_if l g b (taken_of first)).world us (answered_by scope ds anew v g (run_in scope ds anew v.update v.answers))
        by true e f d =
            subst (Again (answered_if l g true (taken_of first)).world us)
            (sym (asked_again g (first_covered (take (taken_of first) v.answers ++ g ∷ []) (more_answers g) d) ∙ ap (λ b. answered_if anew g b (taken_of first)) e))
            (ran_again v.update (take (taken_of first) v.answers ++ g ∷ []) d)
        by false e (inl f) d = differ f
        by false e (inr f) d =
            subst (Again l.world us)
            (sym (asked_again g (subst (λ ps. Grows ps (table_of us v.update.number)) (sym f) (d v.update.number)) ∙ ap (λ b. answered_if anew g b (taken_of first)) e))
            record { world = refl; tables = λ m. refl }

    go_again : Covers (gone_at scope ds l (Some v)).tables us → Again (gone_at scope ds l (Some v)).world us (gone_at scope ds anew (Some v))
    go_again c =
        subst (Again (gone_at scope ds l (Some v)).world us)
        (sym (ap (λ r. retried scope ds anew v.update (take (taken_of r) v.answers))
        (same_run v.update v.answers (first_covered (take (taken_of first) v.answers) no_more_answers c))
        ∙ ap (λ n. retried scope ds anew v.update (take n v.answers)) (same_taken (table_of us v.update.number) first)))
        (ran_again v.update (take (taken_of first) v.answers) c)

  as_it_was : Again l.world us anew
  as_it_was = record { world = refl; tables = λ m. refl }

  at_answer : (g : Given) (o : Option Waiting) → Hears scope ds l g o → Covers (answered_at scope ds l g o).tables us
      → Again (answered_at scope ds l g o).world us (answered_at scope ds anew g o)
  at_answer g None h c = as_it_was
  at_answer g (Some v) h c = answer_again v g h c

  at_go : (o : Option Waiting) → Covers (gone_at scope ds l o).tables us → Again (gone_at scope ds l o).world us (gone_at scope ds anew o)
  at_go None c = as_it_was
  at_go (Some v) c = go_again v c

  one_again : (x : Line) → IsHeard scope ds l x → Covers (done_by scope ds l x).tables us → Again (done_by scope ds l x).world us (done_by scope ds anew x)
  one_again (Says u) h c = ran_again u [] c
  one_again (Answers n g) h c = at_answer g (waiting_at l.world n) h c
  one_again (Goes n) h c = at_go (waiting_at l.world n) c
  one_again (Undoes ns) h c = as_it_was
  one_again (Redoes ns) h c = as_it_was
  one_again (Forgets ns) h c = as_it_was
  one_again (Declares d) h c = as_it_was

module _ (scope : Operation → Scope) (ds : List Declared) where
  pub line_again : (l k : Live) (us : List Table) (x : Line) → IsHeard scope ds l x → Covers (done_by scope ds l x).tables us → Again l.world us k
      → Again (done_by scope ds l x).world us (done_by scope ds k x)
  line_again l k us x h c a =
      let b : Again (done_by scope ds l x).world k.tables (done_by scope ds k x) =
      subst (λ w. Again (done_by scope ds l x).world k.tables (done_by scope ds record { world = w; tables = k.tables } x)) (sym a.world)
      (one_again scope ds l k.tables x h (covers_same (done_by scope ds l x).tables us k.tables c a.tables)) in
      record { world = b.world; tables = λ n. b.tables n ∙ a.tables n }

  pub lines_again : (l k : Live) (us : List Table) (xs : List Line) → AreHeard scope ds l xs → Covers (done_by_all scope ds l xs).tables us → Again l.world us k
      → Again (done_by_all scope ds l xs).world us (done_by_all scope ds k xs)
  lines_again l k us [] h c a = a
  lines_again l k us (x ∷ xs) h c a =
      lines_again (done_by scope ds l x) (done_by scope ds k x) us xs h.1 c
      (line_again l k us x h.0
      (λ n. further (table_of (done_by scope ds l x).tables n) (table_of (done_by_all scope ds (done_by scope ds l x) xs).tables n) (table_of us n)
      (lines scope ds (done_by scope ds l x) xs n).grows (c n)) a)

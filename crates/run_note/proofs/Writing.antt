-- The tuples that a step puts, from its writes.
use Rattle.std.specs.Prelude.{not, if◌then◌else◌}
use Rattle.std.proofs.Common.{◌≡◌, ◌∙◌, ap, refl, sym, Bool, true, false, ◌&&◌, ℕ, zero, suc, Option, List, [], ◌∷◌, ◌++◌, ◌-◌, length, take, drop, map, filter}
use Rattle.std.proofs.Math.Seq.{take-length}
use Rattle.std.proofs.lemmas.List.{length-drop}
use Rattle.base_types.specs.Meanings.{change_of}
use Rattle.base_types.specs.declared.updates.Write.{Write}
use Rattle.def_chase.specs.Values.{Fact}
use Rattle.def_chase.specs.Repository.{Change, has, apply, change}
use Rattle.def_chase.specs.Mappings.{Rule}
use Rattle.def_chase.specs.Queries.{Reply, Yes, No}
use Rattle.def_chase.specs.Updates.{Choice}
use Rattle.def_steps.specs.Attempts.{Attempt}
use Rattle.def_steps.specs.Steps.{is_yes}
use Rattle.def_provenance.specs.Notes.{note}
use Rattle.def_provenance.specs.Puts.{Way, Step, puts, inserted, deleted, way_in}
use Rattle.chase_update.specs.Courses.{between, State}
use Rattle.run_step.specs.Turns.{stepped}
use Rattle.run_note.specs.Steps.{move_of, step_of}

one_twice : (p q : Fact → Bool) (t : Fact) (ts : List Fact) (b : Bool) → filter p (filter q ts) ≡ filter (λ s. q s && p s) ts
    → filter p (if b then t ∷ filter q ts else filter q ts) ≡ (if b && p t then t ∷ filter (λ s. q s && p s) ts else filter (λ s. q s && p s) ts)
one_twice p q t ts true rec = ap (λ us. if p t then t ∷ us else us) rec
one_twice p q t ts false rec = rec

-- Both tests in turn.
pub filter_twice : (p q : Fact → Bool) (ts : List Fact) → filter p (filter q ts) ≡ filter (λ s. q s && p s) ts
filter_twice p q [] = refl
filter_twice p q (t ∷ ts) = one_twice p q t ts (q t) (filter_twice p q ts)

-- The writes after the first ones.
pub dropped_all : (xs ys : List Change) → drop (length xs) (xs ++ ys) ≡ ys
dropped_all [] ys = refl
dropped_all (x ∷ xs) ys = dropped_all xs ys

-- Writes in turn, and then others.
pub applied_on : (D : List Fact) (xs ys : List Change) → apply D (xs ++ ys) ≡ apply (apply D xs) ys
applied_on D [] ys = refl
applied_on D (x ∷ xs) ys = applied_on (change D x) xs ys

mapped : (n : ℕ) (ws : List Write) → map change_of (drop n ws) ≡ drop n (map change_of ws)
mapped zero ws = refl
mapped (suc n) [] = refl
mapped (suc n) (w ∷ ws) = mapped n ws

-- The writes after the first n.
pub latest_all : (n : ℕ) (ws vs : List Write) → vs ≡ ws → map change_of (take (length vs - n) (drop n vs)) ≡ drop n (map change_of ws)
latest_all n ws vs e =
    ap (λ (us : List Write). map change_of (take (length us - n) (drop n us))) e
    ∙ ap (map change_of) (ap (λ k. take k (drop n ws)) (sym (length-drop n ws)) ∙ take-length (drop n ws))
    ∙ mapped n ws

-- The tuples that a step puts are those that its writes insert, that were not there, and that are there after all writes.
pub put_ones : (s : Step) (D : List Fact) (own all : List Change) → s.before ≡ apply D own → all ≡ own ++ s.writes
    → filter (has (apply D all)) (filter (λ t. not (has (apply D own) t)) (inserted s.writes)) ≡ filter (puts s) (inserted s.writes)
put_ones s D own all e f =
    filter_twice (has (apply D all)) (λ t. not (has (apply D own) t)) (inserted s.writes)
    ∙ (λ i. filter (λ t. not (has (e' i) t) && has (after i) t) (inserted s.writes))
  where
    e' : apply D own ≡ s.before
    e' = sym e

    after : apply D all ≡ apply s.before s.writes
    after = ap (apply D) f ∙ (applied_on D own s.writes ∙ ap (λ E. apply E s.writes) (sym e))

-- What the step deleted and put, from its writes.
pub changed_by : (ms : List Rule) (B : ℕ) (D : List Fact) (P : Attempt) (c : Option Choice) (s : State) (ws all : List Change) (ds fs ps : List Fact)
    → s ≡ between (stepped ms B D P c) → all ≡ s.attempt.own → ws ≡ drop (length P.own) all → ds ≡ deleted ws
    → fs ≡ filter (λ t. not (has (apply D P.own) t)) (inserted ws) → ps ≡ filter (has (apply D all)) fs
    → (ds ≡ (note (step_of ms D P c)).deleted) × (ps ≡ (note (step_of ms D P c)).puts)
changed_by ms B D P c s ws all ds fs ps made own written dd ff pp =
    let m = move_of ms D P c in
    let joined : all ≡ P.own ++ m.writes = own ∙ ap (λ (t : State). t.attempt.own) made in
    let same : ws ≡ m.writes = written ∙ (ap (drop (length P.own)) joined ∙ dropped_all P.own m.writes) in (
      dd ∙ ap deleted same,
      pp ∙ (ap (filter (has (apply D all))) (ff ∙ ap (λ us. filter (λ t. not (has (apply D P.own) t)) (inserted us)) same) ∙ put_ones (step_of ms D P c) D P.own all refl joined),
    )

-- The note of a step, from what the program tells after it.
pub note_made : (ms : List Rule) (B : ℕ) (D : List Fact) (P : Attempt) (c : Option Choice) (s : State) (n k : ℕ) (w : Way) (ds ps : List Fact)
    → s ≡ between (stepped ms B D P c) → n ≡ s.attempt.number → k ≡ s.attempt.steps → w ≡ way_in ms (apply D P.own) P.operation c P.phase
    → ds ≡ (note (step_of ms D P c)).deleted → ps ≡ (note (step_of ms D P c)).puts
    → record { update = n; step = k; way = w; deleted = ds; puts = ps } ≡ note (step_of ms D P c)
note_made ms B D P c s n k w ds ps made nn kk ww gone put =
    let number : n ≡ P.number = nn ∙ ap (λ (t : State). t.attempt.number) made in
    let count : k ≡ suc P.steps = kk ∙ ap (λ (t : State). t.attempt.steps) made in
    λ i. record { update = number i; step = count i; way = ww i; deleted = gone i; puts = put i }

-- A tuple of which the set is asked is there exactly where the answer is yes.
pub seen_by : (E : List Fact) (t u : Fact) (r : Reply) (b : Bool) → b ≡ is_yes r → r ≡ (if has E t then Yes else No) → t ≡ u → b ≡ has E u
seen_by E t u r b e f g = e ∙ (ap is_yes f ∙ (yes_where (has E t) ∙ ap (has E) g))
  where
    yes_where : (h : Bool) → is_yes (if h then Yes else No) ≡ h
    yes_where true = refl
    yes_where false = refl

-- The admission of one more update follows, and is one of the core.
use Rattle.std.proofs.Common.{◌≡◌, ◌∙◌, ap, refl, sym, subst, ℕ, zero, suc, ◌<◌, ◌+◌, Some, true, List, [], ◌∷◌, ◌++◌, map, length, arith}
use Rattle.std.specs.Prelude.{option_map, slice_get}
use Rattle.base_types.specs.Listed.{Listed}
use Rattle.base_types.specs.Meanings.{choice_of, operation_of}
use Rattle.base_types.specs.declared.tuples.Tuple.{Tuple}
use Rattle.base_types.specs.declared.updates.Choice.{Choice}
use Rattle.base_types.specs.declared.updates.Update.{Update as UpdateOfProgram}
use Rattle.core_entries.specs.Meanings.{entry_of}
use Rattle.core_entries.specs.declared.entries.Entry.{Entry}
use Rattle.core_entries.specs.declared.entries.Entry.TheVariants.{Admitted as AdmittedEntry}
use Rattle.def_history.specs.Cores.{Ground, grown, session_over, updates_after, effect_after}
use Rattle.def_history.specs.CoreLaws.{Leave, handed}
use Rattle.def_history.specs.PlainEntries.{PlainEntry, WasAdmitted, plain_entry}
use Rattle.def_history.proofs.Keeping.{histories_are_kept}
use Rattle.def_machine.specs.Effects.{Admits, Effect, admit_effect, admitted, effect}
use Rattle.def_machine.specs.Updates.{Settings, Submission, Update, trail}
use Rattle.def_chase.specs.Mappings.{Rule}
use Rattle.def_chase.specs.Repository.{Change}
use Rattle.def_chase.specs.Updates.{Operation}
use Rattle.core_queue.specs.Events.{IsAdmitted}
use Rattle.core_queue.specs.Queues.{update_of, updates_of, StandsAt, AreFrom}
use Rattle.core_queue.specs.declared.updates.QueuedUpdate.{QueuedUpdate}
use Rattle.lang_session.specs.declared.sessions.SessionUpdate.{SessionUpdate}
use Rattle.def_steps.specs.Chase.{caused_chase}
use Rattle.def_steps.specs.Serial.{Request}
use Rattle.set_versions.specs.Standing.{Kept, StandFor}
use Rattle.set_versions.specs.Trails.{numbered}
use Rattle.core_engine.specs.Admissions.{AdmitsTo, IsNew}
use Rattle.core_engine.specs.Follows.{Follows, ground_with}
use Rattle.core_engine.specs.Kept.{IsKept, HaveTrails, ground_by}
use Rattle.core_engine.specs.LiveCalls.{HasAdmitted, admits_at}
use Rattle.core_engine.specs.Lives.{CameOf}
use Rattle.core_laws.specs.Live.{IsOfSession}
use Rattle.core_laws.proofs.Growing.{live_grows}
use Rattle.def_language.specs.Sessions.{RelationSchema}
use Rattle.lang_session.specs.Admissible.{admits}
use Rattle.core_engine.specs.States.{State, updates_at}
use Rattle.core_engine.proofs.Delivering.{mapped_more}
use Rattle.core_engine.proofs.Following.{mapped_long}
use Rattle.core_engine.proofs.Opening.{from_more, one_longer}

-- What was handed in last.
next_there : {A C E : Type 0} (h : A → E) (f : C → A) (xs : List A) (ys : List C) (y : C) (k : ℕ) → k ≡ length xs + length ys → slice_get (map h (xs ++ map f (ys ++ y ∷ []))) k ≡ Some (h (f y))
next_there h f [] [] y zero e = refl
next_there h f [] [] y (suc k) e = absurd (omega (arith, e))
next_there h f [] (z ∷ ys) y zero e = absurd (omega (arith, e))
next_there h f [] (z ∷ ys) y (suc k) e = next_there h f [] ys y k (omega (arith, e))
next_there h f (x ∷ xs) ys y zero e = absurd (omega (arith, e))
next_there h f (x ∷ xs) ys y (suc k) e = next_there h f xs ys y k (omega (arith, e))

pub map_more : {A B : Type 0} (f : A → B) (xs : List A) (x : A) → map f (xs ++ x ∷ []) ≡ map f xs ++ f x ∷ []
map_more f [] x = refl
map_more f (z ∷ xs) x = ap (λ zs. f z ∷ zs) (map_more f xs x)

-- One that wrote nothing changes no trail.
last_empty : {X : Type 0} (f : X → List Change) (us : List X) (w : X) → f w ≡ [] → (n : ℕ) → numbered f us n ≡ numbered f (us ++ w ∷ []) n
last_empty f us w e zero = refl
last_empty f [] w e (suc zero) = sym e
last_empty f [] w e (suc (suc k)) = refl
last_empty f (u ∷ us) w e (suc zero) = refl
last_empty f (u ∷ us) w e (suc (suc k)) = last_empty f us w e (suc k)

pub admits_to : (op : Operation) (n : ℕ) (rs rs' : List QueuedUpdate) (es es' : List Entry) → n ≡ suc (length rs) → length rs < 1000 → IsNew n op rs rs' → es' ≡ es ++ AdmittedEntry n ∷ [] → AdmitsTo op rs es rs' es'
admits_to op n rs rs' es es' number few new grew ms s v B D requests later kept =
    let g : Ground = ground_with ms s B D requests later in
    let g' : Ground = ground_with ms s B D requests (later ++ op ∷ []) in
    let H : List PlainEntry = map entry_of es in
    let us : List (Update (caused_chase ms B)) = updates_of ms B rs in
    let x : Submission (caused_chase ms B) = record { operation = op; answers = [] } in
    let y : Effect (caused_chase ms B) = admit_effect (caused_chase ms B) us x in
    let over : Leave g' H (updates_after g H) = (histories_are_kept g kept.budget).handing H op kept.left.legal in
    let long : length us ≡ length rs = mapped_long (update_of ms B) rs in
    let longer : length rs' ≡ suc (length rs) = ap (λ xs. length xs) new.longer ∙ one_longer rs new.last in
    let next : slice_get (session_over g').submissions (length us) ≡ Some x =
    next_there (λ (r : Request). record { operation = r.operation; answers = r.answers }) (λ (o : Operation). record { operation = o; answers = [] }) requests later op (length us) (long ∙ kept.all) in
    let allowed : effect_after g' H Admits ≡ Some y =
    ap (λ (ws : List (Update (caused_chase ms B))). effect (caused_chase ms B) s (session_over g') ws Admits) (over.leaves ∙ kept.left.leaves) ∙ ap (option_map (admit_effect (caused_chase ms B) us)) next in
    let more : Leave g' (H ++ plain_entry ms B y.entry ∷ []) y.updates = (histories_are_kept g' kept.budget).grows H Admits y over.legal allowed in
    let place : n ≡ suc (length us) = number ∙ sym (ap suc long) in
    let us' : updates_of ms B rs' ≡ y.updates =
    ap (updates_of ms B) new.longer ∙ map_more (update_of ms B) rs new.last ∙ (λ i. us ++ new.update ms B i ∷ []) ∙ (λ i. us ++ admitted (caused_chase ms B) (place i) x ∷ []) in
    let entries : H ++ WasAdmitted (suc (length us)) ∷ [] ≡ map entry_of es' = sym (ap (map entry_of) grew ∙ mapped_more es (AdmittedEntry n) ∙ (λ i. H ++ WasAdmitted (place i) ∷ [])) in
    record {
      grows = ap (option_map (λ (z : Effect (caused_chase ms B)). H ++ plain_entry ms B z.entry ∷ [])) allowed ∙ ap (λ (K : List PlainEntry). Some K) entries;
      kept = record {
        left = subst (λ (K : List PlainEntry). Leave g' K (updates_of ms B rs')) entries (subst (λ (ws : List (Update (caused_chase ms B))). Leave g' (H ++ WasAdmitted (suc (length us)) ∷ []) ws) (sym us') more);
        numbers =
            let here : n ≡ 1 + length rs = omega (arith, number) in
            subst (λ (qs : List QueuedUpdate). AreFrom 1 qs) (sym new.longer) (from_more 1 rs new.last kept.numbers (subst (λ (m : ℕ). StandsAt m new.last) here new.stands));
        versions =
            subst (λ (ws : List (Update (caused_chase ms B))). HaveTrails ms B D ws v) (sym us')
            (subst (λ (ts : ℕ → List Change). StandFor v D ts) (λ i m. last_empty (trail (caused_chase ms B)) us (admitted (caused_chase ms B) (suc (length us)) x) refl m i) kept.versions);
        sorted = kept.sorted;
        budget = kept.budget;
        retries = kept.retries;
        within = kept.within;
        few = omega (arith, few, longer);
        all = let l : length (later ++ op ∷ []) ≡ suc (length later) = one_longer later op in omega (arith, kept.all, longer, l);
      };
    }

-- The queued update that was made without recorded answers, and put after the others.
pub new_by : (n : ℕ) (u : UpdateOfProgram) (none : Listed Choice) (rs rs' : List QueuedUpdate) (r : QueuedUpdate) → none.items ≡ [] → IsAdmitted n u none r → StandsAt n r → rs' ≡ rs ++ r ∷ [] → IsNew n (operation_of u.operation) rs rs'
new_by n u none rs rs' r empty is stands grew = record {
  last = r;
  longer = grew;
  update = λ ms B. is ms B ∙ ap (λ (cs : List Choice). admitted (caused_chase ms B) n (record { operation = operation_of u.operation; answers = map choice_of cs })) empty;
  stands = stands;
}

-- ---- on a core

-- If nothing was changed.
module _ (ms : List Rule) (B : ℕ) (c : Settings) (base : Listed Tuple) (us : Listed SessionUpdate) (later later' : Listed UpdateOfProgram) (same : later'.items ≡ later.items) where
  abbrev over_these : List UpdateOfProgram → Ground
  over_these xs = ground_with ms c B (ground_by ms B c base us later).base (ground_by ms B c base us later).requests (map (λ (u : UpdateOfProgram). operation_of u.operation) xs)

  pub unchanged_kept : (v : Kept) (rs rs' : List QueuedUpdate) (es es' : List Entry) → IsKept (ground_by ms B c base us later) v rs (map entry_of es) → rs' ≡ rs → es' ≡ es
      → IsKept (ground_by ms B c base us later') v rs' (map entry_of es')
  unchanged_kept v rs rs' es es' kept queue history =
      subst (λ (xs : List UpdateOfProgram). IsKept (over_these xs) v rs' (map entry_of es')) (sym same)
      (subst (λ (qs : List QueuedUpdate). IsKept (ground_by ms B c base us later) v qs (map entry_of es')) (sym queue)
      (subst (λ (fs : List Entry). IsKept (ground_by ms B c base us later) v rs (map entry_of fs)) (sym history) kept))

  pub unchanged_came : (R : List RelationSchema) → CameOf R (ground_by ms B c base us later) → CameOf R (ground_by ms B c base us later')
  unchanged_came R came = subst (λ (xs : List UpdateOfProgram). CameOf R (over_these xs)) (sym same) came

-- If one was admitted.

module _ (ms : List Rule) (B : ℕ) (c : Settings) (base : Listed Tuple) (us : Listed SessionUpdate) (later later' : Listed UpdateOfProgram) (v : Kept) (rs rs' : List QueuedUpdate) (es es' : List Entry) (u : UpdateOfProgram) (kept : IsKept (ground_by ms B c base us later) v rs (map entry_of es))
    (grew : later'.items ≡ later.items ++ u ∷ []) (to : AdmitsTo (operation_of u.operation) rs es rs' es') where
  more_handed : map (λ (w : UpdateOfProgram). operation_of w.operation) later'.items ≡ map (λ (w : UpdateOfProgram). operation_of w.operation) later.items ++ operation_of u.operation ∷ []
  more_handed = ap (map (λ (w : UpdateOfProgram). operation_of w.operation)) grew ∙ map_more (λ (w : UpdateOfProgram). operation_of w.operation) later.items u

  made : Follows (handed (ground_by ms B c base us later) (operation_of u.operation)) Admits (map entry_of es) v rs' (map entry_of es')
  made = let g : Ground = ground_by ms B c base us later in to ms c v B g.base g.requests g.later kept

  same_over : ground_by ms B c base us later' ≡ handed (ground_by ms B c base us later) (operation_of u.operation)
  same_over = let g : Ground = ground_by ms B c base us later in λ i. record { rules = ms; budget = B; settings = c; base = g.base; requests = g.requests; later = more_handed i }

  pub admission_kept : IsKept (ground_by ms B c base us later') v rs' (map entry_of es')
  admission_kept = subst (λ (g : Ground). IsKept g v rs' (map entry_of es')) (sym same_over) made.kept

  pub has_admitted : {R : List RelationSchema} (old new : State) → record { over = ground_by ms B c base us later; history = map entry_of es; relations = R } ≡ old → record { over = ground_by ms B c base us later'; history = map entry_of es'; relations = R } ≡ new
      → admits_at old (operation_of u.operation) ≡ true → HasAdmitted old (operation_of u.operation) new
  has_admitted old new a b fits = record {
    fits = fits;
    over = sym (ap (λ (t : State). t.over) b) ∙ same_over ∙ ap (λ (t : State). handed t.over (operation_of u.operation)) a;
    grows =
        ap (λ (t : State). grown (handed t.over (operation_of u.operation)) t.history Admits) (sym a) ∙ made.grows ∙ ap (λ (t : State). Some t.history) b;
    relations = sym (ap (λ (t : State). t.relations) b) ∙ ap (λ (t : State). t.relations) a;
  }

  -- What the history is over came of the same session.
  pub admission_came : {R : List RelationSchema} (old : State) → record { over = ground_by ms B c base us later; history = map entry_of es; relations = R } ≡ old → admits_at old (operation_of u.operation) ≡ true
      → CameOf R (ground_by ms B c base us later) → CameOf R (ground_by ms B c base us later')
  admission_came old a fits came = record {
    session = came.session;
    of =
        subst (IsOfSession came.session) (sym same_over)
        (live_grows came.session (ground_by ms B c base us later) (length (updates_at old)) (operation_of u.operation) came.of
        (ap (λ (rs : List RelationSchema). admits rs (length (updates_at old)) (operation_of u.operation)) (came.same ∙ ap (λ (t : State). t.relations) a) ∙ fits));
    same = came.same;
  }

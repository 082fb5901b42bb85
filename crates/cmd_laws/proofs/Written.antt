-- What the steps of a history write of a session is printed as UTF-8, and no more updates are admitted than the session has.
use Rattle.std.specs.Prelude.{slice_get, if◌then◌else◌}
use Rattle.std.proofs.Common.{◌≡◌, ℕ, zero, suc, ◌+◌, ◌≤◌, ap, refl, sym, ◌∙◌, subst, List, [], ◌∷◌, ◌++◌, map, length, Bool, true, false, Some, arith, inl, inr}
use Rattle.std.specs.List.{list_all, AllByRecursion}
use Rattle.std.proofs.lemmas.Bool.{and_parts, cases_lt}
use Rattle.std.proofs.lemmas.List.Folds.{list_all-append}
use Rattle.std.proofs.lemmas.Option.{slice_get_within}
use Rattle.audit_claims.specs.Claimed.{IsText}
use Rattle.def_language.specs.Checks.{rules_of}
use Rattle.def_language.specs.Sessions.{RelationSchema, SessionData, SessionUpdate}
use Rattle.def_language.specs.Validity.{IsSession}
use Rattle.def_history.specs.Cores.{session_over}
use Rattle.run_laws.proofs.Attempts.{reached_passing}
use Rattle.run_laws.proofs.Closed.{Closed, goes, is_plain, write_passes}
use Rattle.run_laws.proofs.Enacting.{Acts, AllAct, session_acts}
use Rattle.def_machine.specs.Effects.{Event, may_step}
use Rattle.def_machine.specs.Histories.{Log, after, empty_log}
use Rattle.def_machine.specs.History.{IsHistory}
use Rattle.def_machine.specs.Machine.{Machine, Laws}
use Rattle.def_machine.specs.Runs.{more}
use Rattle.def_machine.specs.Steps.{next_move, next_state, step_writes}
use Rattle.def_machine.specs.Updates.{Session, Settings, Submission, Update, below, committed, hides, trail}
use Rattle.def_machine.proofs.Basics.{there}
use Rattle.def_machine.proofs.Carried.{carried}
use Rattle.def_machine.proofs.Recorded.{recorded_law}
use Rattle.def_machine.proofs.Standing.{ready_parts}
use Rattle.def_machine.proofs.Theorem.{history_law}
use Rattle.def_chase.specs.Mappings.{Rule}
use Rattle.def_chase.specs.Repository.{Change, Insert, Delete}
use Rattle.def_chase.specs.Updates.{Operation}
use Rattle.def_chase.specs.Values.{Fact}
use Rattle.def_chase.proofs.Bools.{none_some, some_same}
use Rattle.lang_session.specs.Meanings.{request_of}
use Rattle.lang_session.proofs.Suiting.{few_relations}
use Rattle.def_steps.specs.Chase.{caused, caused_chase}
use Rattle.def_steps.proofs.ChaseLaws.{chase_laws}
use Rattle.def_steps.proofs.Passing.{all_applied, all_weaker, insert_passes}
use Rattle.audit_claims.specs.Verdicts.{trial_of}
use Rattle.cmd_laws.proofs.Suited.{facts_suit, suits, tests_closed, textual}
use Rattle.cmd_laws.proofs.Utf8.{is_textual, signed_tuple}

pub acts_at : (rs : List RelationSchema) (below : ℕ) (ys : List SessionUpdate) (k : ℕ) (y : SessionUpdate) → AllAct rs below ys → slice_get ys k ≡ Some y → Acts rs (below + k) y
acts_at rs below [] k y all h = absurd (none_some y h)
acts_at rs below (x ∷ ys) zero y all h =
    let here : below ≡ below + 0 = omega arith in
    subst (λ n. Acts rs n y) here (subst (λ (z : SessionUpdate). Acts rs below z) (some_same x y h) all.0)
acts_at rs below (x ∷ ys) (suc k) y all h =
    let further : suc below + k ≡ below + suc k = omega arith in
    subst (λ n. Acts rs n y) further (acts_at rs (suc below) ys k y all.1 h)

module _ (s : SessionData) (v : IsSession s) (B : ℕ) (some : 1 ≤ B) (c : Settings) where
  abbrev ms : List Rule
  ms = rules_of s.mappings

  abbrev M : Machine
  M = caused_chase (rules_of s.mappings) B

  abbrev S : Session (caused_chase (rules_of s.mappings) B)
  S = session_over (trial_of s B c).over

  laws : Laws (caused_chase (rules_of s.mappings) B)
  laws = chase_laws caused (rules_of s.mappings) B some

  -- ---- what the updates do

  pub submitted : (ys : List SessionUpdate) (k : ℕ) (x : Submission M)
      → slice_get (map (λ r. record { operation = r.operation; answers = r.answers }) (map request_of ys ++ [])) k ≡ Some x
      → (y : SessionUpdate) × (slice_get ys k ≡ Some y) × (y.operation ≡ x.operation)
  submitted [] k x h = absurd (none_some x h)
  submitted (y ∷ ys) zero x h = (y, refl, ap (λ (z : Submission M). z.operation) (some_same _ x h))
  submitted (y ∷ ys) (suc k) x h = submitted ys k x h

  module _ (done : List (Event M)) (l : Log M) (h : after M c S (empty_log M) done ≡ Some l) where
    pub history : IsHistory M c S l
    history = history_law M laws c S done l v.base_order h

    pub handed : (k : ℕ) (u : Update M) → slice_get l.updates k ≡ Some u → (y : SessionUpdate) × (slice_get s.updates k ≡ Some y) × (y.operation ≡ u.operation)
    handed k u e =
        let x = (recorded_law M c S done l h).operations k u e in
        let y = submitted s.updates k x.0 x.1 in
        (y.0, y.1, y.2 ∙ sym x.2)

    -- No more are admitted than there are.
    pub few : length l.updates ≤ length s.updates
    few = elim (cases_lt (length s.updates) (length l.updates)) [
      | inl above ↦
          let u = there l.updates (length s.updates) above in
          let y = handed (length s.updates) u.0 u.1 in
          absurd (omega (arith, slice_get_within s.updates (length s.updates) y.0 y.1))
      | inr fits ↦ fits
    ]

    pub closed : (k : ℕ) (u : Update M) → slice_get l.updates k ≡ Some u → Closed ms u.operation (suc k) u.attempt (λ n. is_textual) (λ n. suits s.relations)
    closed k u e =
        let y = handed k u e in
        let start : 0 + k ≡ k = omega arith in
        let acts : Acts s.relations k y.0 = subst (λ n. Acts s.relations n y.0) start (acts_at s.relations 0 s.updates k y.0 (session_acts s v) y.1) in
        subst (λ (o : Operation). Closed ms o (suc k) u.attempt (λ n. is_textual) (λ n. suits s.relations)) y.2 (tests_closed s v (suc k) u.attempt k y.0.operation acts.0 acts.1)

    -- ---- what they write

    inserted : (n : ℕ) (w : Change) → write_passes (λ j. suits s.relations) n w ≡ true → insert_passes (suits s.relations) w ≡ true
    inserted n (Insert t) e = e
    inserted n (Delete t) e = refl

    trail_suits : (k : ℕ) (u : Update M) → slice_get l.updates k ≡ Some u → list_all (suits s.relations) (below M S.base l.updates k) ≡ true
        → list_all (insert_passes (suits s.relations)) (trail M u) ≡ true
    trail_suits k u e base = by u.withdrawn refl (hides (M.outcome u.state))
      where
        own : u.withdrawn ≡ false → list_all (insert_passes (suits s.relations)) u.state.own ≡ true
        own w =
            let p = reached_passing caused ms B (below M S.base l.updates k) u.answers (suc k) u.attempt u.operation (λ n. is_textual) (λ n. suits s.relations) (closed k u e) base (history.runs k u e w) in
            all_weaker (write_passes (λ j. suits s.relations) u.state.nulls) (insert_passes (suits s.relations)) (λ x f. inserted u.state.nulls x f) u.state.own p.writes

        by : (w : Bool) → u.withdrawn ≡ w → (o : Bool) → list_all (insert_passes (suits s.relations)) (if w then [] else (if o then [] else u.state.own)) ≡ true
        by true f o = refl
        by false f true = refl
        by false f false = own f

    pub lower : (k : ℕ) → k ≤ length l.updates → list_all (suits s.relations) (below M S.base l.updates k) ≡ true
    lower k b =
        carried M laws (λ n (E : List Fact). list_all (suits s.relations) E ≡ true) S.base l.updates k b
        (facts_suit s.relations (few_relations s v) 0 s.base v.base)
        (λ i u j e base. all_applied (suits s.relations) (below M S.base l.updates i) (trail M u) base (trail_suits i u e base))

    texts : (n : ℕ) (ws : List Change) → list_all (write_passes (λ j. suits s.relations) n) ws ≡ true → AllByRecursion (IsText s.relations) ws
    texts n [] all = tt
    texts n (Insert t ∷ ws) all =
        let p = and_parts (suits s.relations t) (list_all (write_passes (λ j. suits s.relations) n) ws) all in
        (signed_tuple s.relations 43 t refl v.relation_names (textual s.relations t p.0), texts n ws p.1)
    texts n (Delete t ∷ ws) all =
        let p = and_parts (goes (λ j. suits s.relations) n t) (list_all (write_passes (λ j. suits s.relations) n) ws) all in
        let g = and_parts (suits s.relations t) (is_plain t) p.0 in
        (signed_tuple s.relations 45 t refl v.relation_names (textual s.relations t g.0), texts n ws p.1)

    -- What a step shows is printed as UTF-8.
    pub step_texts : (k : ℕ) (u : Update M) → slice_get l.updates k ≡ Some u → may_step M c l.updates k u ≡ true
        → AllByRecursion (IsText s.relations) (step_writes M (below M S.base l.updates k) u)
    step_texts k u e may = by (hides (M.outcome (next_state M u.operation (below M S.base l.updates k) u.answers u.state)))
      where
        made : AllByRecursion (IsText s.relations) (next_move M u.operation (below M S.base l.updates k) u.answers u.state).writes
        made =
            let D = below M S.base l.updates k in
            let ready = ready_parts M c (committed M l.updates) (suc k) u may in
            let base = lower k (let b = slice_get_within l.updates k u e in omega (arith, b)) in
            let passing = reached_passing caused ms B D u.answers (suc k) u.attempt u.operation (λ n. is_textual) (λ n. suits s.relations) (closed k u e) base (more (history.runs k u e ready.0.present) ready.0.going ready.1) in
            let n = (next_state M u.operation D u.answers u.state).nulls in
            let ws = (next_move M u.operation D u.answers u.state).writes in
            texts n ws
            (and_parts (list_all (write_passes (λ j. suits s.relations) n) u.state.own) (list_all (write_passes (λ j. suits s.relations) n) ws)
            (sym (list_all-append (write_passes (λ j. suits s.relations) n) u.state.own ws) ∙ passing.writes)).1

        by : (o : Bool) → AllByRecursion (IsText s.relations) (if o then [] else (next_move M u.operation (below M S.base l.updates k) u.answers u.state).writes)
        by true = tt
        by false = made

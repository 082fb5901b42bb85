-- A step stays what it was while no entry comes that makes it stale.
use Rattle.std.proofs.Common.{◌≡◌, ℕ, zero, suc, ◌≤◌, sym, refl, ap, subst, ◌∙◌, arith, List, [], ◌∷◌, ◌++◌, map, length, Option, Some, None, Bool, true, false, is_some, nat_lt, ⊎_elim}
use Rattle.std.specs.Prelude.{if◌then◌else◌, slice_get}
use Rattle.std.specs.List.{AllByRecursion}
use Rattle.std.proofs.lemmas.Bool.{both_ways, and_parts, and_cases, and_left, and_right, ltb-false, le-ltb}
use Rattle.std.proofs.lemmas.Option.{same_Some, none-some, option_and_then_some}
use Rattle.def_machine.specs.Trees.{Tree, Leaf, Node, result_of, log_of}
use Rattle.def_machine.specs.Machine.{Machine, Laws, Outcome}
use Rattle.def_machine.specs.Updates.{Update, Read, Session, Settings, below, committed}
use Rattle.def_machine.specs.Standings.{Standing, Ready, Held, Paused, Ended, Withdrawn, Lack, unless_ended, unless_paused, lack, is_held, standing, is_ready, is_paused, is_pending}
use Rattle.def_machine.specs.Steps.{val, next_step, step_log}
use Rattle.def_machine.specs.Effects.{Event, Delivers, Answers, Entry, Admitted, Stepped, Delivered, Answered, Withdrew, Effect, effect}
use Rattle.def_machine.specs.Histories.{Log, empty_log, with_entry, after, event_of, IsLegal}
use Rattle.def_machine.specs.Local.{acts_on}
use Rattle.def_machine.specs.Stamps.{AlikeSwaps, IsUntouched}
use Rattle.def_machine.proofs.Standing.{ready_parts}
use Rattle.def_machine.proofs.Allowed.{allowed_law}
use Rattle.def_machine.proofs.Local.{local_law}
use Rattle.def_machine.proofs.Caused.{cause_law}
use Rattle.def_machine.proofs.Stamped.{stamp_law}
use Rattle.def_machine.proofs.Prefixes.{halves, legal_law}
use Rattle.def_history.specs.Spares.{Spares, AllSpare}
use Rattle.def_history.specs.Stale.{IsClear, AllClear, IsReadyAt, StaysLaw}

-- ---- the step by its reads

-- a program whose questions have the same answers comes to the same result
same_answers : {Q R A : Type 0} (v w : Q → R) (tree : Tree Q R A) → AllByRecursion (λ (r : Q × R). v r.0 ≡ w r.0) (log_of v tree)
    → (result_of w tree ≡ result_of v tree) × (log_of w tree ≡ log_of v tree)
same_answers v w (Leaf a) h = (refl, refl)
same_answers v w (Node q k) h =
    let rest = same_answers v w (k (v q)) h.1 in (
      ap (λ x. result_of w (k x)) (sym h.0) ∙ rest.0,
      (λ i. (q, sym h.0 i) ∷ log_of w (k (sym h.0 i))) ∙ ap (λ l. (q, v q) ∷ l) rest.1,
    )

all_mapped : {A B : Type 0} (f : A → B) (P : B → Type 0) (xs : List A) → AllByRecursion P (map f xs) → AllByRecursion (λ x. P (f x)) xs
all_mapped f P [] h = tt
all_mapped f P (x ∷ xs) h = (h.0, all_mapped f P xs h.1)

all_both : {A : Type 0} (P Q R : A → Type 0) → ((x : A) → P x → Q x → R x) → (xs : List A) → AllByRecursion P xs → AllByRecursion Q xs → AllByRecursion R xs
all_both P Q R f [] p q = tt
all_both P Q R f (x ∷ xs) p q = (f x p.0 q.0, all_both P Q R f xs p.1 q.1)

all_more : {A : Type 0} (P Q : A → Type 0) → ((x : A) → P x → Q x) → (xs : List A) → AllByRecursion P xs → AllByRecursion Q xs
all_more P Q f [] p = tt
all_more P Q f (x ∷ xs) p = (f x p.0, all_more P Q f xs p.1)

all_any : {A : Type 0} (P : A → Type 0) → ((x : A) → P x) → (xs : List A) → AllByRecursion P xs
all_any P f [] = tt
all_any P f (x ∷ xs) = (f x, all_any P f xs)

-- ---- a ready update stays ready

ready_from : (w : Bool) (o : Option Outcome) (h : Bool) (l : Option Lack) (c : ℕ) → w ≡ false → o ≡ None → h ≡ false → l ≡ None → is_ready (if w then Withdrawn else unless_ended o (if h then Held c else unless_paused l)) ≡ true
ready_from w o h l c a b d e = λ i. is_ready (if a i then Withdrawn else unless_ended (b i) (if d i then Held c else unless_paused (e i)))

not_pending : (x : Standing) → is_ready x ≡ true → is_pending x ≡ false
not_pending Ready h = refl
not_pending (Held c) h = absurd (both_ways false refl h)
not_pending (Paused l) h = absurd (both_ways false refl h)
not_pending (Ended o) h = refl
not_pending Withdrawn h = refl

not_paused : (x : Standing) → is_ready x ≡ true → is_paused x ≡ false
not_paused Ready h = refl
not_paused (Held c) h = refl
not_paused (Paused l) h = absurd (both_ways false refl h)
not_paused (Ended o) h = refl
not_paused Withdrawn h = refl

events_split : (M : Machine) (H J : List (Entry M)) → map event_of (H ++ J) ≡ map event_of H ++ map event_of J
events_split M [] J = refl
events_split M (d ∷ H) J = ap (λ es. event_of d ∷ es) (events_split M H J)

-- what is at a place is not after the list
there_below : {A : Type 0} (us : List A) (k : ℕ) (u : A) → slice_get us k ≡ Some u → suc k ≡ suc (length us) → ⊥
there_below [] k u h e = none-some u h
there_below (x ∷ us) zero u h e = absurd (omega (arith, e))
there_below (x ∷ us) (suc k) u h e = there_below us k u h (omega (arith, e))

module _ (M : Machine) (s : Settings) where
  held_less : (c d n : ℕ) (u : Update M) → c ≤ d → is_held M s c n u ≡ false → is_held M s d n u ≡ false
  held_less c d n u l h =
      ⊎_elim (λ e. and_left (nat_lt s.retries u.attempt) (nat_lt (suc d) n) e)
      (λ e. and_right (nat_lt s.retries u.attempt) (nat_lt (suc d) n) (le-ltb _ _ (omega (arith, l, ltb-false (suc c) n e))))
      (and_cases (nat_lt s.retries u.attempt) (nat_lt (suc c) n) h)

  ready_later : (c d n : ℕ) (u : Update M) → c ≤ d → is_ready (standing M s c n u) ≡ true → is_ready (standing M s d n u) ≡ true
  ready_later c d n u l h =
      let p = ready_parts M s c n u h in
      ready_from u.withdrawn (M.outcome u.state) (is_held M s d n u) (lack M u.answers u.state) (suc d) p.0.present p.0.going (held_less c d n u l p.0.free) p.1

module _ (M : Machine) (L : Laws M) (swap : AlikeSwaps M) (s : Settings) (S : Session M) (sound : M.Sound S.base) (k : ℕ) (u : Update M) (reads : List (Read M)) where
  -- the reads have the same values at both
  abbrev Same : List (Update M) → List (Update M) → Type 0
  Same us vs = AllByRecursion (λ (r : Read M). M.value u.operation r.query (below M S.base us k) (M.own u.state) ≡ M.value u.operation r.query (below M S.base vs k) (M.own u.state)) reads

  record Goes (us vs : List (Update M)) : Type 0 where
    at : IsReadyAt M s vs k u
    same : Same us vs

  -- an event at another update that does not make the step stale
  by_event : (H : List (Entry M)) (us : List (Update M)) (e : Event M) (x : Effect M) → IsLegal M s S H us → IsReadyAt M s us k u → effect M s S us e ≡ Some x
      → (suc k ≡ acts_on us e → ⊥) → IsClear M S.base us e x k reads → Goes us x.updates
  by_event H us e x legal r f other clear =
      let causes = cause_law M L s S (map event_of H) record { updates = us; entries = H } e x sound legal f in
      let stamped = stamp_law M L swap s S us e x sound f k u r.there in
      let more = (local_law M L s S us e x f).grows in
      record {
        at = record {
          there = causes.others k u r.there clear.kept other;
          ready = ready_later M s (committed M us) (committed M x.updates) (suc k) u more r.ready;
        };
        same = all_more (λ (q : Read M). IsUntouched M S.base us e x k (M.mentions q.query)) (λ (q : Read M). M.value u.operation q.query (below M S.base us k) (M.own u.state) ≡ M.value u.operation q.query (below M S.base x.updates k) (M.own u.state))
            (λ q h. stamped.value u.operation q.query (M.own u.state) h) reads clear.untouched;
      }

  -- an entry that leaves the attempt alone is at another update
  apart : (us : List (Update M)) (e : Entry M) (x : Effect M) → IsReadyAt M s us k u → effect M s S us (event_of e) ≡ Some x → Spares (suc k) e → suc k ≡ acts_on us (event_of e) → ⊥
  apart us (Admitted i) x r f sp g = there_below us k u r.there g
  apart us (Stepped d) x r f sp g = sp (sym g)
  apart us (Delivered i st) x r f sp g =
      let a = ((allowed_law M s S us k).0 u r.there).delivers in
      let yes : is_some (effect M s S us (Delivers (suc k))) ≡ true = ap (λ i. is_some (effect M s S us (Delivers i))) g ∙ ap is_some f in
      both_ways _ (not_pending _ r.ready) (and_parts _ _ (sym a ∙ yes)).0
  apart us (Answered i c st) x r f sp g =
      let a = ((allowed_law M s S us k).0 u r.there).answers c in
      let yes : is_some (effect M s S us (Answers (suc k) c)) ≡ true = ap (λ i. is_some (effect M s S us (Answers i c))) g ∙ ap is_some f in
      both_ways _ (not_paused _ r.ready) (and_parts _ _ (sym a ∙ yes)).0
  apart us (Withdrew i cs h) x r f sp g = sp (sym g)

  by_entries : (H later : List (Entry M)) (us vs : List (Update M)) (J : List (Entry M)) → IsLegal M s S H us
      → after M s S (record { updates = us; entries = H }) (map event_of later) ≡ Some (record { updates = vs; entries = J })
      → IsReadyAt M s us k u → AllSpare (suc k) later → AllClear M s S us k reads later → Goes us vs
  by_entries H [] us vs J legal h r sp c =
      let e : us ≡ vs = ap (λ (l : Log M). l.updates) (same_Some _ _ h) in
      subst (λ (ws : List (Update M)). Goes us ws) e
      record { at = r; same = all_any (λ (q : Read M). M.value u.operation q.query (below M S.base us k) (M.own u.state) ≡ M.value u.operation q.query (below M S.base us k) (M.own u.state)) (λ q. refl) reads }
  by_entries H (d ∷ later) us vs J legal h r sp c =
      option_and_then_some (λ x. after M s S (with_entry M H x) (map event_of later)) (effect M s S us (event_of d)) (record { updates = vs; entries = J }) h
      (λ x f g.
      let one = by_event H us (event_of d) x legal r f (apart us d x r f sp.0) (c x f).0 in
      let more = by_entries (H ++ x.entry ∷ []) later x.updates vs J ((legal_law M L s S).grows H us (event_of d) x legal f) g one.at sp.1 (c x f).1 in
      record {
        at = more.at;
        same = all_both (λ (q : Read M). M.value u.operation q.query (below M S.base us k) (M.own u.state) ≡ M.value u.operation q.query (below M S.base x.updates k) (M.own u.state))
            (λ (q : Read M). M.value u.operation q.query (below M S.base x.updates k) (M.own u.state) ≡ M.value u.operation q.query (below M S.base vs k) (M.own u.state))
            (λ (q : Read M). M.value u.operation q.query (below M S.base us k) (M.own u.state) ≡ M.value u.operation q.query (below M S.base vs k) (M.own u.state))
            (λ q a b. a ∙ b) reads one.same more.same;
      })

-- what comes after a history, where a longer one is legal
later_after : (M : Machine) → Laws M → (s : Settings) (S : Session M) (H later : List (Entry M)) (us vs : List (Update M)) → IsLegal M s S H us → IsLegal M s S (H ++ later) vs
    → after M s S (record { updates = us; entries = H }) (map event_of later) ≡ Some (record { updates = vs; entries = H ++ later })
later_after M L s S H later us vs h g =
    let r = halves M L s S (empty_log M) (map event_of H) (map event_of later) (record { updates = vs; entries = H ++ later }) (ap (λ es. after M s S (empty_log M) es) (sym (events_split M H later)) ∙ g) in
    subst (λ (l : Log M). after M s S l (map event_of later) ≡ Some (record { updates = vs; entries = H ++ later })) (same_Some _ _ (sym r.first ∙ h)) r.second

pub stays_law : (M : Machine) → Laws M → AlikeSwaps M → StaysLaw M
stays_law M L swap s S H later us vs k u sound h g r sp c =
    let reads : List (Read M) = step_log M u.operation (below M S.base us k) u.answers u.state in
    let goes = by_entries M L swap s S sound k u reads H later us vs (H ++ later) h (later_after M L s S H later us vs h g) r sp c in
    let same = same_answers (val M u.operation (below M S.base us k) u.state) (val M u.operation (below M S.base vs k) u.state) (next_step M u.answers u.state)
    (all_mapped {A = M.Query × M.Reply} (λ x. record { query = x.0; answer = x.1; own = length (M.own u.state) })
    (λ (q : Read M). M.value u.operation q.query (below M S.base us k) (M.own u.state) ≡ M.value u.operation q.query (below M S.base vs k) (M.own u.state))
    (log_of (val M u.operation (below M S.base us k) u.state) (next_step M u.answers u.state)) goes.same) in
    record {
      now = goes.at;
      move = same.0;
      reads = ap (λ l. map (λ x. record { query = x.0; answer = x.1; own = length (M.own u.state) }) l) same.1;
    }

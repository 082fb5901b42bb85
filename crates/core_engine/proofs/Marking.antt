-- The marks of an update stay right through its own step, and those of no update through everything.
use Rattle.std.proofs.Common.{◌≡◌, ◌∙◌, ap, refl, sym, subst, Bool, ℕ, zero, suc, ◌≤◌, ◌<◌, ◌+◌, Option, Some, None, List, [], ◌∷◌, ◌++◌, map, length, take, drop, slice_get, arith, add-one}
use Rattle.std.specs.Option.{option_map}
use Rattle.std.specs.List.{flat_map}
use Rattle.std.proofs.Math.ListN.{set}
use Rattle.std.proofs.lemmas.List.{map-set, length-append, take_all}
use Rattle.std.proofs.lemmas.Option.{same_Some, none-some, slice_get-map}
use Rattle.base_types.specs.Meanings.{choice_of}
use Rattle.chase_eval.specs.Watched.{AreSettled, Watched}
use Rattle.def_history.specs.Cores.{Ground, machine}
use Rattle.def_history.specs.PlainEntries.{PlainEntry}
use Rattle.def_machine.specs.Settle.{restart}
use Rattle.def_machine.specs.Updates.{Update, below, trail}
use Rattle.def_machine.specs.Standings.{next_answer}
use Rattle.def_chase.specs.Mappings.{Rule}
use Rattle.def_chase.specs.Repository.{Change, apply}
use Rattle.def_chase.specs.Updates.{Operation, direction_of}
use Rattle.def_chase.specs.Values.{Fact}
use Rattle.def_steps.specs.Chase.{caused}
use Rattle.chase_update.specs.Courses.{State as ProgramState}
use Rattle.def_steps.specs.Attempts.{Attempt}
use Rattle.def_steps.specs.Chase.{caused_chase}
use Rattle.chase_plan.specs.Planned.{HasSettled}
use Rattle.chase_plan.specs.declared.plans.Plan.{Plan}
use Rattle.core_queue.specs.Events.{HasStepped}
use Rattle.core_queue.specs.Queues.{update_of, updates_of, AreFrom}
use Rattle.core_queue.specs.Renewals.{HaveRestarted}
use Rattle.core_queue.specs.declared.updates.QueuedUpdate.{QueuedUpdate}
use Rattle.set_versions.specs.Standing.{Kept, seen}
use Rattle.set_versions.proofs.Numbered.{below_is_seen}
use Rattle.core_engine.specs.Follows.{AreSame, IsPlanAt, IsPlanFor}
use Rattle.core_engine.specs.Kept.{IsKept}
use Rattle.core_engine.specs.Known.{AreMarksOver, AreMarksOf, IsKnown, HasGrown, GrowsAt}
use Rattle.core_engine.specs.Planned.{IsSomeThat}
use Rattle.core_engine.specs.States.{numbered_at}
use Rattle.core_engine.specs.declared.known.Known.{Known}
use Rattle.core_engine.proofs.Following.{marks_for, marked_so, mapped_long, stands_at, from_mapped, within}
use Rattle.core_engine.proofs.Small.{front}
use Rattle.core_engine.proofs.Making.{queued_placed}

-- Of no update there is nothing to show.
pub none_known : (ms : List Rule) (v : Kept) (rs : List QueuedUpdate) (k : Known) → k.update ≡ 0 → IsKnown ms v rs k
none_known ms v rs k e r there = absurd (none-some r (ap (λ n. numbered_at rs n) (sym e) ∙ there))

number_at : (rs : List QueuedUpdate) (i : ℕ) (r : QueuedUpdate) → AreFrom 1 rs → slice_get rs i ≡ Some r → r.program.attempt.number ≡ suc i
number_at rs i r numbers spot = let one : 1 + i ≡ suc i = omega arith in (stands_at rs 1 i r numbers spot).number ∙ one

-- What is known is known of the queued update at its place.
pub marks_here : (ms : List Rule) (v : Kept) (rs : List QueuedUpdate) (k : Known) (i : ℕ) (r : QueuedUpdate) → AreFrom 1 rs → slice_get rs i ≡ Some r → IsKnown ms v rs k → k.update ≡ r.program.attempt.number
    → AreMarksOver ms (seen r.program.attempt.number v) r k
marks_here ms v rs k i r numbers spot known e =
    subst (λ (m : ℕ). AreMarksOver ms (seen m v) r k) e (known r (ap (λ m. numbered_at rs m) (e ∙ number_at rs i r numbers spot) ∙ spot))

pub marks_there : (ms : List Rule) (v : Kept) (rs : List QueuedUpdate) (k : Known) (i : ℕ) (r : QueuedUpdate) → AreFrom 1 rs → slice_get rs i ≡ Some r → AreMarksOf ms v r k → IsKnown ms v rs k
marks_there ms v rs k i r numbers spot are q there =
    let same : r ≡ q = same_Some r q (sym (ap (λ m. numbered_at rs m) (are.update ∙ number_at rs i r numbers spot) ∙ spot) ∙ there) in
    subst (λ (p : QueuedUpdate). AreMarksOver ms (seen k.update v) p k) same
    (subst (λ (m : ℕ). AreMarksOver ms (seen m v) r k) (sym are.update) are.marks)

-- ---- lists

taken_put : {A : Type 0} (us : List A) (k : ℕ) (v : A) (ws : List A) → k < length us → take k (take (suc k) (set us k v) ++ ws) ≡ take k us
taken_put [] k v ws l = absurd (omega (arith, l))
taken_put (u ∷ us) zero v ws l = refl
taken_put (u ∷ us) (suc k) v ws l = ap (λ xs. u ∷ xs) (taken_put us k v ws (omega (arith, l)))

got_put : {A : Type 0} (us : List A) (k : ℕ) (v : A) (ws : List A) → k < length us → slice_get (take (suc k) (set us k v) ++ ws) k ≡ Some v
got_put [] k v ws l = absurd (omega (arith, l))
got_put (u ∷ us) zero v ws l = refl
got_put (u ∷ us) (suc k) v ws l = got_put us k v ws (omega (arith, l))

taken_more : {A : Type 0} (xs ys : List A) (n : ℕ) → n ≤ length xs → take n (xs ++ ys) ≡ take n xs
taken_more xs ys zero l = refl
taken_more [] ys (suc n) l = absurd (omega (arith, l))
taken_more (x ∷ xs) ys (suc n) l = ap (λ zs. x ∷ zs) (taken_more xs ys n (omega (arith, l)))

-- What is settled after a plan may be kept.
pub marks_kept : (ms : List Rule) (v : Kept) (r : QueuedUpdate) (k : Known) (marks : List Bool) → k.update ≡ r.program.attempt.number → k.made ≡ length r.program.attempt.own → k.marks ≡ marks
    → HasSettled ms (seen r.program.attempt.number v) r.program.attempt marks → AreMarksOf ms v r k
marks_kept ms v r k marks update made e settled =
    let P = r.program.attempt in
    let D = seen P.number v in
    let all : take k.made P.own ≡ P.own = ap (λ n. take n P.own) made ∙ take_all (length P.own) P.own (omega arith) in
    record {
      update = update;
      marks = record {
        few = omega (arith, made);
        settled =
            subst (λ (w : Watched). AreSettled w k.marks) (λ i. record { rules = ms; heading = direction_of P.operation; below = D; own = sym all i })
            (subst (λ (ns : List Bool). HasSettled ms D P ns) (sym e) settled);
      };
    }

-- ---- a step

attempt_of : (ms : List Rule) (B : ℕ) (r q : QueuedUpdate) → update_of ms B r ≡ update_of ms B q → r.program.attempt ≡ q.program.attempt
attempt_of ms B r q e = ap (λ (u : Update (caused_chase ms B)). u.state) e

-- The queued update's attempt has grown by its step.
stepped_grown : (r r' : QueuedUpdate) (plan : Plan) → IsPlanFor r plan → HasStepped plan r r' → HasGrown r r'
stepped_grown r r' plan f steps =
    let e = ap (λ (u : Update (caused_chase f.rules f.budget)). u.state) (steps f.rules f.budget f.below f.planned) in
    record { operation = ap (λ (P : Attempt). P.operation) e; own = (_, ap (λ (P : Attempt). P.own) e) }

grown_as : (r q p : QueuedUpdate) → q.program.attempt ≡ p.program.attempt → HasGrown r p → HasGrown r q
grown_as r q p e g = record { operation = ap (λ (P : Attempt). P.operation) e ∙ g.operation; own = (g.own.0, ap (λ (P : Attempt). P.own) e ∙ g.own.1) }

pub grows_at : (rs rs' : List QueuedUpdate) (k : ℕ) (r r' : QueuedUpdate) (plan : Plan) (fs : List (Option ProgramState)) → k < length rs → slice_get rs k ≡ Some r → IsPlanAt k plan rs → HasStepped plan r r'
    → HaveRestarted (k + 1) fs (set rs k r') rs' → GrowsAt k rs rs'
grows_at rs rs' k r r' plan fs l spot planned steps restarts =
    let f : IsPlanFor r plan = subst (λ (o : Option QueuedUpdate). IsSomeThat (λ (q : QueuedUpdate). IsPlanFor q plan) o) spot planned in
    let is : (ms : List Rule) (B : ℕ) → updates_of ms B rs' ≡ take (suc k) (set (updates_of ms B rs) k (update_of ms B r')) ++ restart (caused_chase ms B) (suc (k + 1)) (marks_for ms B fs) (drop (k + 1) (updates_of ms B (set rs k r'))) =
    λ ms B. restarts ms B (marks_for ms B fs) (marked_so ms B fs)
    ∙ (λ i. take (add-one k i) (map-set (update_of ms B) rs k r' i) ++ restart (caused_chase ms B) (suc (k + 1)) (marks_for ms B fs) (drop (k + 1) (updates_of ms B (set rs k r')))) in
    let long : (ms : List Rule) (B : ℕ) → k < length (updates_of ms B rs) = λ ms B. omega (arith, l, mapped_long (update_of ms B) rs) in
    record {
      lower = λ ms B. ap (take k) (is ms B) ∙ taken_put (updates_of ms B rs) k (update_of ms B r') _ (long ms B);
      grown =
          λ q q' at at'.
          let there : slice_get (updates_of [] 0 rs') k ≡ Some (update_of [] 0 q') = slice_get-map (update_of [] 0) rs' k ∙ ap (option_map (update_of [] 0)) at' in
          let same : update_of [] 0 q' ≡ update_of [] 0 r' = same_Some _ _ (sym there ∙ ap (λ (us : List (Update (caused_chase [] 0))). slice_get us k) (is [] 0) ∙ got_put (updates_of [] 0 rs) k (update_of [] 0 r') _ (long [] 0)) in
          subst (λ (p : QueuedUpdate). HasGrown p q') (same_Some r q (sym spot ∙ at)) (grown_as r q' r' (attempt_of [] 0 q' r' same) (stepped_grown r r' plan f steps));
    }

-- Queued updates that stand for the same updates grow so.
pub same_grows : (rs qs rs' : List QueuedUpdate) (k : ℕ) → AreSame rs qs → GrowsAt k qs rs' → GrowsAt k rs rs'
same_grows rs qs rs' k same grows =
    record {
      lower = λ ms B. grows.lower ms B ∙ ap (take k) (same.updates ms B);
      grown =
          λ r r' spot spot'.
          let there : slice_get (updates_of [] 0 qs) k ≡ Some (update_of [] 0 r) =
          ap (λ (us : List (Update (caused_chase [] 0))). slice_get us k) (same.updates [] 0) ∙ slice_get-map (update_of [] 0) rs k ∙ ap (option_map (update_of [] 0)) spot in
          let found = from_mapped (update_of [] 0) qs k (update_of [] 0 r) there in
          let e : found.0.program.attempt ≡ r.program.attempt = attempt_of [] 0 found.0 r found.2 in
          let g : HasGrown found.0 r' = grows.grown found.0 r' found.1 spot' in
          record {
            operation = g.operation ∙ ap (λ (P : Attempt). P.operation) e;
            own = (g.own.0, g.own.1 ∙ (λ i. (e i).own ++ g.own.0));
          };
    }

-- ---- the marks through it

grown_marks : (ms : List Rule) (D D' : List Fact) (r r' : QueuedUpdate) (k : Known) → D' ≡ D → HasGrown r r' → AreMarksOver ms D r k → AreMarksOver ms D' r' k
grown_marks ms D D' r r' k below grown are =
    let own = grown.own.1 in
    let more = grown.own.0 in
    let few = are.few in
    let long : length r'.program.attempt.own ≡ length r.program.attempt.own + length more = ap length own ∙ length-append r.program.attempt.own more in
    let taken : take k.made r'.program.attempt.own ≡ take k.made r.program.attempt.own = ap (take k.made) own ∙ taken_more r.program.attempt.own more k.made few in
    record {
      few = omega (arith, few, long);
      settled =
          subst (λ (w : Watched). AreSettled w k.marks)
          (λ i. record { rules = ms; heading = direction_of (sym grown.operation i); below = sym below i; own = sym taken i })
          are.settled;
    }

-- Its own step leaves what is known of an update.
pub known_kept : (g : Ground) (v v' : Kept) (rs rs' : List QueuedUpdate) (H H' : List PlainEntry) (i : ℕ) (k : Known) → IsKept g v rs H → IsKept g v' rs' H' → GrowsAt i rs rs' → i < length rs → k.update ≡ suc i
    → IsKnown g.rules v rs k → IsKnown g.rules v' rs' k
known_kept g v v' rs rs' H H' i k kept kept' grows l e known q there =
    let x = queued_placed rs i l in
    let spot' : slice_get rs' i ≡ Some q = ap (λ n. numbered_at rs' n) (sym e) ∙ there in
    let us : List (Update (machine g)) = updates_of g.rules g.budget rs in
    let us' : List (Update (machine g)) = updates_of g.rules g.budget rs' in
    let below' : seen (suc i) v' ≡ seen (suc i) v =
    below_is_seen caused g.rules g.budget v' g.base us' kept'.sorted kept'.versions i
    ∙ ap (λ (ws : List (Update (machine g))). (machine g).apply g.base (flat_map (trail (machine g)) ws)) (grows.lower g.rules g.budget)
    ∙ sym (below_is_seen caused g.rules g.budget v g.base us kept.sorted kept.versions i) in
    let D : seen k.update v' ≡ seen k.update v = ap (λ n. seen n v') e ∙ below' ∙ sym (ap (λ n. seen n v) e) in
    grown_marks g.rules (seen k.update v) (seen k.update v') x.0 q k D (grows.grown x.0 q x.1 spot') (known x.0 (ap (λ n. numbered_at rs n) e ∙ x.1))

-- What is known after a step: the marks of the update that made it, if there were any, and else those of no update.
pub known_after : (g : Ground) (v v' : Kept) (rs qs qs' : List QueuedUpdate) (H H' : List PlainEntry) (i : ℕ) (k : Known) (m n : ℕ) → qs ≡ rs → IsKept g v rs H → IsKept g v' qs' H' → GrowsAt i qs qs' → i < length qs → suc i ≡ n
    → (1 ≤ m → k.update ≡ m) → (1 ≤ m → m ≡ n) → IsKnown g.rules v rs k → IsKnown g.rules v' qs' (record { update = m; made = k.made; marks = k.marks })
known_after g v v' rs qs qs' H H' i k zero n slice kept kept' grows l e known number is = none_known g.rules v' qs' (record { update = 0; made = k.made; marks = k.marks }) refl
known_after g v v' rs qs qs' H H' i k (suc m) n slice kept kept' grows l e known number is =
    let some : 1 ≤ suc m = omega arith in
    let same : k.update ≡ suc m = known some in
    subst (λ (q : Known). IsKnown g.rules v' qs' q) (λ j. record { update = same j; made = k.made; marks = k.marks })
    (known_kept g v v' rs qs' H H' i k kept kept' (subst (λ (xs : List QueuedUpdate). GrowsAt i xs qs') slice grows) (subst (λ (xs : List QueuedUpdate). i < length xs) slice l) (same ∙ number some ∙ sym e) is)

-- That of the queue before the last of a list.
pub known_ok : (ms : List Rule) (v : Kept) (qs ys : List QueuedUpdate) (n : ℕ) (k : Known) → length qs ≡ n → IsKnown ms v qs k → IsKnown ms v (take n (qs ++ ys)) k
known_ok ms v qs ys n k l h = subst (λ (xs : List QueuedUpdate). IsKnown ms v xs k) (sym (front qs ys n l)) h

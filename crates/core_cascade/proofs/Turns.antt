-- One turn of the walk upwards.
use Rattle.std.proofs.Common.{◌≡◌, ◌∙◌, ap, refl, sym, subst, ℕ, suc, ◌+◌, ◌<◌, ◌≤◌, Bool, true, false, List, [], ◌∷◌, ◌++◌, Option, Some, None, is_some, append_assoc, length, drop, get_or, map}
use Rattle.std.proofs.lemmas.Bool.{both_ways}
use Rattle.std.proofs.lemmas.List.{drop_more, map-append, drop-map}
use Rattle.core_conflict.specs.Concerns.{AgreeBut}
use Rattle.core_conflict.specs.Trails.{writes_of, trails_of}
use Rattle.core_conflict.specs.declared.concerns.Sense.TheVariants.{Went}
use Rattle.core_conflict.specs.declared.concerns.Trail.{Trail}
use Rattle.core_conflict.proofs.Staying.{agree_alone, agree_after, agree_more}
use Rattle.core_entries.specs.declared.causes.Cause.{Cause as CauseOfProgram}
use Rattle.std.specs.Prelude.{not}
use Rattle.std.specs.Option.{option_map}
use Rattle.def_machine.specs.Cascade.{Cause, Conflict, Depends, Member, is_live, read_depends, writer_for, with_member, without_member}
use Rattle.def_machine.specs.Machine.{Machine}
use Rattle.def_machine.specs.Reads.{Changed, first_that, is_valid, value_now}
use Rattle.def_machine.specs.Settle.{cause_of, settle}
use Rattle.def_machine.specs.Standings.{is_nil}
use Rattle.def_machine.specs.Updates.{Read, Update, Deps, trail}
use Rattle.def_chase.proofs.Sets.{apply_in_order}
use Rattle.def_chase.specs.Mappings.{Rule}
use Rattle.def_chase.specs.Repository.{Change, IsRepository, apply}
use Rattle.def_chase.specs.Values.{Fact}
use Rattle.std.specs.List.{flat_map}
use Rattle.core_queue.specs.Queues.{update_of, updates_of, AreFrom, StandsAt}
use Rattle.core_queue.specs.Order.{AreUnread, ReadsAtMost}
use Rattle.core_queue.specs.declared.updates.QueuedUpdate.{QueuedUpdate}
use Rattle.def_steps.specs.Chase.{caused_chase}
use Rattle.set_versions.specs.Standing.{Kept, seen, Retracted}
use Rattle.core_cascade.specs.declared.lost.Lost.{Lost}
use Rattle.core_cascade.specs.Held.{HoldFrom, laid, above}
use Rattle.core_cascade.specs.Meanings.{Above, found_of, all_found, no_cause, found_for, members_of}
use Rattle.core_cascade.specs.Causes.{AreCausesOfWrites, AreCausesOfLoss}
use Rattle.core_cascade.specs.Walks.{IsCauseFor, Loses, LosesWhere, LeavesLost, LooksFor, RanBelow, StandAbove, AreFound, number_of}
use Rattle.core_cascade.proofs.Reasons.{idle, nothing_for}
use Rattle.core_cascade.proofs.Holding.{below_next, hold_next, kept_where, hold_without, below_without, trails_held}

-- Once some of the readers have their say: what is found so far and what the walk finds of those that are left are all.
pub record Turn (a : Above) (conflicting : Bool) (B : ℕ) (ws : List Change) (all : List (Option (Cause (caused_chase a.rules B)))) (lost : Lost) (rs : List QueuedUpdate) (xs : List (Option CauseOfProgram)) : Type 0 where
  pub number : ℕ
  pub from : AreFrom number rs
  pub stand : StandAbove a B ws lost number rs
  pub rest :
      all_found a.rules B xs ++ settle (caused_chase a.rules B) a.deps conflicting a.committed a.update (seen number a.whole) (seen number lost.without) (members_of a.rules B lost.members.items) number (updates_of a.rules B rs)
      ≡ all

-- All of it is what the walk finds.
abbrev pub all_of : (a : Above) → Bool → (B : ℕ) → Lost → List QueuedUpdate → List (Option (Cause (caused_chase a.rules B)))
all_of a conflicting B lost rs =
    settle (caused_chase a.rules B) a.deps conflicting a.committed a.update (seen (suc a.update) a.whole) (seen (suc a.update) lost.without) (members_of a.rules B lost.members.items) (suc a.update) (updates_of a.rules B rs)

-- One update more of the walk: its cause, and what is left.
settle_on : (M : Machine) (deps : Deps) (conflicting : Bool) (c j : ℕ) (E N F G : M.Repository) (ks ls : List (Member M)) (n : ℕ) (u : Update M) (us : List (Update M)) (b : Bool) (x : Option (Cause M)) (before all : List (Option (Cause M)))
    → x ≡ cause_of M deps conflicting c j E N ks n u → is_some x ≡ b → F ≡ M.apply E (trail M u) → G ≡ without_member M b N u → ls ≡ with_member M b ks n u
    → before ++ settle M deps conflicting c j E N ks n (u ∷ us) ≡ all → (before ++ x ∷ []) ++ settle M deps conflicting c j F G ls (suc n) us ≡ all
settle_on M deps conflicting c j E N F G ks ls n u us b x before all ex eb ef eg el h =
    let same : b ≡ is_some (cause_of M deps conflicting c j E N ks n u) = sym eb ∙ ap is_some ex in
    let without : G ≡ without_member M (is_some (cause_of M deps conflicting c j E N ks n u)) N u = eg ∙ ap (λ z. without_member M z N u) same in
    let members : ls ≡ with_member M (is_some (cause_of M deps conflicting c j E N ks n u)) ks n u = el ∙ ap (λ z. with_member M z ks n u) same in
    append_assoc before (x ∷ []) (settle M deps conflicting c j F G ls (suc n) us)
    ∙ ap (λ zs. before ++ zs) (λ i. ex i ∷ settle M deps conflicting c j (ef i) (without i) (members i) (suc n) us)
    ∙ h

-- The causes that a log gives.
abbrev changed_in : (M : Machine) → M.Repository → Update M → List (Read M) → Option (Changed M)
changed_in M E u ls =
    option_map (λ t. record { read = t.0; old = t.1.answer; new = value_now M u.operation E (M.own u.state) t.1 })
    (first_that (λ r. not (is_valid M u.operation E (M.own u.state) r)) ls)

abbrev conflict_by : (M : Machine) → ℕ → M.Repository → ℕ → Update M → List (Read M) → Option (Cause M)
conflict_by M j E n u ls = option_map (λ x. Conflict n x.read j x.old x.new) (changed_in M E u ls)

abbrev dependence_by : (M : Machine) → Deps → M.Repository → List (Member M) → ℕ → Update M → List (Read M) → Option (Cause M)
dependence_by M deps N ks n u ls = option_map (λ t. Depends n t.0 (writer_for M t.1 ks)) (first_that (read_depends M deps u.operation N (M.own u.state) ks) ls)

-- What has read nothing has none.
unread_has_none : (M : Machine) (deps : Deps) (conflicting : Bool) (c j : ℕ) (E N : M.Repository) (ks : List (Member M)) (n : ℕ) (u : Update M) → u.log ≡ [] → cause_of M deps conflicting c j E N ks n u ≡ None
unread_has_none M deps conflicting c j E N ks n u h =
    idle conflicting (is_live M c n u) (not (is_nil ks)) (conflict_by M j E n u u.log) (dependence_by M deps N ks n u u.log)
    (λ l. ap (conflict_by M j E n u) h) (λ l. ap (dependence_by M deps N ks n u) h)

next_drop : {X : Type 0} (xs : List X) (i : ℕ) (x : X) → i < length xs → x ≡ get_or xs i x → drop i xs ≡ x ∷ drop (i + 1) xs
next_drop xs i x l is = drop_more xs i x l ∙ ap (λ y. y ∷ drop (i + 1) xs) (sym is)

-- The readers that are left have their numbers in turn.
pub later_from : (n i : ℕ) (rs : List QueuedUpdate) (r : QueuedUpdate) → i < length rs → r ≡ get_or rs i r → AreFrom n (drop i rs) → StandsAt n r × AreFrom (suc n) (drop (i + 1) rs)
later_from n i rs r l e f = subst (AreFrom n) (next_drop rs i r l e) f

-- The trails of members are those of the history's.
trails_are : (ms : List Rule) (B : ℕ) (ks : List Trail) → trails_of ks ≡ map (λ m. m.trail) (members_of ms B ks)
trails_are ms B [] = refl
trails_are ms B (k ∷ ks) = ap (λ ts. writes_of k ∷ ts) (trails_are ms B ks)

-- What differs between the two versions below the next update, once this one has its say.
gone_next : (ms : List Rule) (B : ℕ) (b : Bool) (E N F G : List Fact) (ks ls : List Trail) (n : ℕ) (u : Update (caused_chase ms B)) → F ≡ apply E (trail (caused_chase ms B) u) → G ≡ without_member (caused_chase ms B) b N u
    → members_of ms B ls ≡ with_member (caused_chase ms B) b (members_of ms B ks) n u → AgreeBut Went (trails_of ks) E N → AgreeBut Went (trails_of ls) F G
gone_next ms B true E N F G ks ls n u ef eg el a =
    let tr : List Change = trail (caused_chase ms B) u in
    let ts : trails_of ls ≡ trails_of ks ++ tr ∷ [] =
    trails_are ms B ls ∙ ap (map (λ (m : Member (caused_chase ms B)). m.trail)) el ∙ map-append (λ (m : Member (caused_chase ms B)). m.trail) (members_of ms B ks) (record { number = n; trail = tr } ∷ [])
    ∙ ap (λ zs. zs ++ tr ∷ []) (sym (trails_are ms B ks)) in
    subst (λ zs. AgreeBut Went zs F G) (sym ts) (subst (λ X. AgreeBut Went (trails_of ks ++ tr ∷ []) X G) (sym ef) (subst (λ X. AgreeBut Went (trails_of ks ++ tr ∷ []) (apply E tr) X) (sym eg) (agree_more (trails_of ks) E N tr a)))
gone_next ms B false E N F G ks ls n u ef eg el a =
    let ts : trails_of ls ≡ trails_of ks = trails_are ms B ls ∙ ap (map (λ (m : Member (caused_chase ms B)). m.trail)) el ∙ sym (trails_are ms B ks) in
    subst (λ zs. AgreeBut Went zs F G) (sym ts) (subst (λ X. AgreeBut Went (trails_of ks) X G) (sym ef) (subst (λ X. AgreeBut Went (trails_of ks) (apply E (trail (caused_chase ms B) u)) X) (sym eg) (agree_after Went (trails_of ks) E N (trail (caused_chase ms B) u) a)))

module _ (a : Above) (conflicting : Bool) (B : ℕ) (ws : List Change) where
  found_some : (x : Option CauseOfProgram) → is_some (found_of a.rules B x) ≡ is_some x
  found_some None = refl
  found_some (Some c) = refl

  -- Before any of them has.
  pub at_start : (lost : Lost) (rs : List QueuedUpdate) (xs : List (Option CauseOfProgram)) → xs ≡ [] → AreFrom (suc a.update) rs → StandAbove a B ws lost (suc a.update) rs → Turn a conflicting B ws (all_of a conflicting B lost rs) lost rs xs
  at_start lost rs xs e f s = record { number = suc a.update; from = f; stand = s; rest = ap (λ zs. all_found a.rules B zs ++ all_of a conflicting B lost rs) e }

  -- Those that are left stand above the next one.
  stand_next : (lost left : Lost) (n : ℕ) (r : QueuedUpdate) (rs : List QueuedUpdate) (b : Bool) → StandAbove a B ws lost n (r ∷ rs) → LeavesLost a.rules B b n (update_of a.rules B r) (updates_of a.rules B rs) lost left → StandAbove a B ws left (suc n) rs
  stand_next lost left n r rs b s after =
      let u = update_of a.rules B r in
      let us = updates_of a.rules B rs in
      let below : seen (suc n) a.whole ≡ apply (seen n a.whole) (trail (caused_chase a.rules B) u) = below_next a.rules B n u us a.whole s.whole in
      record {
        whole = hold_next a.rules B n u us a.whole s.whole;
        without = after.held;
        before = apply s.before (trail (caused_chase a.rules B) u);
        runs = s.runs.1;
        event = subst (λ X. AgreeBut a.sense (ws ∷ []) (apply s.before (trail (caused_chase a.rules B) u)) X) (sym below) (agree_after a.sense (ws ∷ []) s.before (seen n a.whole) (trail (caused_chase a.rules B) u) s.event);
        gone = gone_next a.rules B b (seen n a.whole) (seen n lost.without) (seen (suc n) a.whole) (seen (suc n) left.without) lost.members.items left.members.items n u below after.below after.members s.gone;
      }

  -- Once the next one has.
  pub next : 1 ≤ B → LooksFor conflicting ws → (all : List (Option (Cause (caused_chase a.rules B)))) (lost left : Lost) (r : QueuedUpdate) (rs : List QueuedUpdate) (xs : List (Option CauseOfProgram)) (x : Option CauseOfProgram)
      → Turn a conflicting B ws all lost (r ∷ rs) xs → IsCauseFor a ws lost r x → LosesWhere (is_some x) r lost left → Turn a conflicting B ws all left rs (xs ++ x ∷ [])
  next few looks all lost left r rs xs x t cause loses =
      let n = t.number in
      let u = update_of a.rules B r in
      let us = updates_of a.rules B rs in
      let s = t.stand in
      let e : number_of r ≡ n = t.from.0.number in
      let here : RanBelow a.rules B a.sense ws (trails_of lost.members.items) (seen n a.whole) (seen n lost.without) n u = record { before = s.before; run = s.runs.0; event = s.event; lost = s.gone } in
      let is : found_of a.rules B x ≡ cause_of (caused_chase a.rules B) a.deps conflicting a.committed a.update (seen n a.whole) (seen n lost.without) (members_of a.rules B lost.members.items) n u =
      subst (λ k. found_of a.rules B x ≡ cause_of (caused_chase a.rules B) a.deps conflicting a.committed a.update (seen k a.whole) (seen k lost.without) (members_of a.rules B lost.members.items) k u) e
      (cause B conflicting few looks (subst (λ k. RanBelow a.rules B a.sense ws (trails_of lost.members.items) (seen k a.whole) (seen k lost.without) k u) (sym e) here)) in
      let after : LeavesLost a.rules B (is_some x) n u us lost left =
      subst (λ k. LeavesLost a.rules B (is_some x) k u us lost left) e (loses a.rules B us (subst (λ k. HoldFrom a.rules B k (u ∷ us) lost.without) (sym e) s.without)) in
      record {
        number = suc n;
        from = t.from.1;
        stand = stand_next lost left n r rs (is_some x) s after;
        rest =
            ap (λ zs. zs ++ settle (caused_chase a.rules B) a.deps conflicting a.committed a.update (seen (suc n) a.whole) (seen (suc n) left.without) (members_of a.rules B left.members.items) (suc n) us) (map-append (found_of a.rules B) xs (x ∷ []))
            ∙ settle_on (caused_chase a.rules B) a.deps conflicting a.committed a.update (seen n a.whole) (seen n lost.without) (seen (suc n) a.whole) (seen (suc n) left.without)
            (members_of a.rules B lost.members.items) (members_of a.rules B left.members.items) n u us (is_some x) (found_of a.rules B x) (all_found a.rules B xs) all
            is (found_some x) (below_next a.rules B n u us a.whole s.whole) after.below after.members t.rest;
      }

  -- That one is next in the list.
  pub next_in : 1 ≤ B → LooksFor conflicting ws → (all : List (Option (Cause (caused_chase a.rules B)))) (lost left : Lost) (i : ℕ) (rs : List QueuedUpdate) (r : QueuedUpdate) (xs ys : List (Option CauseOfProgram)) (x : Option CauseOfProgram) (b : Bool)
      → i < length rs → r ≡ get_or rs i r → ys ≡ xs ++ x ∷ [] → b ≡ is_some x → IsCauseFor a ws lost r x → LosesWhere b r lost left → Turn a conflicting B ws all lost (drop i rs) xs → Turn a conflicting B ws all left (drop (i + 1) rs) ys
  next_in few looks all lost left i rs r xs ys x b l e f g cause loses t =
      subst (Turn a conflicting B ws all left (drop (i + 1) rs)) (sym f)
      (next few looks all lost left r (drop (i + 1) rs) xs x (subst (λ zs. Turn a conflicting B ws all lost zs xs) (next_drop rs i r l e) t) cause (subst (λ z. LosesWhere z r lost left) g loses))

  -- Those that have read nothing have none.
  pub none_of : (E N : List Fact) (ks : List (Member (caused_chase a.rules B))) (n : ℕ) (rs : List QueuedUpdate) → AreUnread (caused_chase a.rules B) (updates_of a.rules B rs)
      → map (no_cause a.rules B) rs ≡ settle (caused_chase a.rules B) a.deps conflicting a.committed a.update E N ks n (updates_of a.rules B rs)
  none_of E N ks n [] h = refl
  none_of E N ks n (r ∷ rs) h =
      let u : Update (caused_chase a.rules B) = update_of a.rules B r in
      let x : Option (Cause (caused_chase a.rules B)) = cause_of (caused_chase a.rules B) a.deps conflicting a.committed a.update E N ks n u in
      let none : x ≡ None = unread_has_none (caused_chase a.rules B) a.deps conflicting a.committed a.update E N ks n u h.0 in
      λ i. sym none i
      ∷ none_of (apply E (trail (caused_chase a.rules B) u)) (without_member (caused_chase a.rules B) (is_some x) N u) (with_member (caused_chase a.rules B) (is_some x) ks n u) (suc n) rs h.1 i

  -- Where nothing was written and nothing is lost none has.
  pub none_found : 1 ≤ B → LooksFor conflicting ws → (all : List (Option (Cause (caused_chase a.rules B)))) (lost : Lost) (rs : List QueuedUpdate) (xs : List (Option CauseOfProgram)) → ws ≡ [] → lost.members.items ≡ []
      → Turn a conflicting B ws all lost rs xs → all_found a.rules B xs ++ map (no_cause a.rules B) rs ≡ all
  none_found few looks all lost [] xs e k t = t.rest
  none_found few looks all lost (r ∷ rs) xs e k t =
      sym (ap (λ zs. zs ++ map (no_cause a.rules B) rs) (map-append (found_of a.rules B) xs (None ∷ [])) ∙ append_assoc (all_found a.rules B xs) (None ∷ []) (map (no_cause a.rules B) rs))
      ∙ none_found few looks all lost rs (xs ++ None ∷ []) e k (next few looks all lost lost r rs xs None t (nothing_for a ws lost r e k) (kept_where r false lost refl))

  -- Once all have that may have read something.
  pub at_end : (all : List (Option (Cause (caused_chase a.rules B)))) (lost : Lost) (i : ℕ) (rs : List QueuedUpdate) (xs : List (Option CauseOfProgram)) → length xs ≡ i → ReadsAtMost rs i → Turn a conflicting B ws all lost (drop i rs) xs → found_for a.rules B rs xs ≡ all
  at_end all lost i rs xs l h t =
      let unread : AreUnread (caused_chase a.rules B) (updates_of a.rules B (drop i rs)) =
      subst (λ (us : List (Update (caused_chase a.rules B))). AreUnread (caused_chase a.rules B) us) (drop-map (update_of a.rules B) i rs) (h a.rules B) in
      ap (λ (k : ℕ). all_found a.rules B xs ++ map (no_cause a.rules B) (drop k rs)) l
      ∙ ap (λ (zs : List (Option (Cause (caused_chase a.rules B)))). all_found a.rules B xs ++ zs)
      (none_of (seen t.number a.whole) (seen t.number lost.without) (members_of a.rules B lost.members.items) t.number (drop i rs) unread)
      ∙ t.rest

-- ---- the walks of the two events

-- Where the event's update wrote.
pub of_writes : (a : Above) (ws : List Change) (lost : Lost) (rs : List QueuedUpdate) (xs : List (Option CauseOfProgram)) → lost.without ≡ a.whole → lost.members.items ≡ [] → AreFound a ws lost rs xs → AreCausesOfWrites a ws rs xs
of_writes a ws lost rs xs w k f B D lower u v few e h runs agree =
    let us = updates_of a.rules B rs in
    let t = trails_held a.rules B D lower (v ∷ us) a.whole h in
    let whole : HoldFrom a.rules B (suc a.update) us a.whole = subst (λ n. HoldFrom a.rules B (suc n) us a.whole) (sym e) (hold_next a.rules B (suc (length lower)) v us a.whole t.held) in
    let below : seen (suc a.update) a.whole ≡ above a.rules B D lower v =
    ap (λ n. seen (suc n) a.whole) e ∙ below_next a.rules B (suc (length lower)) v us a.whole t.held ∙ ap (λ E. apply E (trail (caused_chase a.rules B) v)) t.below in
    let sorted : IsRepository (seen (suc a.update) a.whole) = subst (λ X. IsRepository X) (sym below) agree.also in
    f B true few (λ c. absurd (both_ways true c refl))
    (record {
      whole = whole;
      without = subst (HoldFrom a.rules B (suc a.update) us) (sym w) whole;
      before = above a.rules B D lower u;
      runs = runs;
      event = subst (λ X. AgreeBut a.sense (ws ∷ []) (above a.rules B D lower u) X) (sym below) agree;
      gone = subst (λ (z : Kept). AgreeBut Went (trails_of lost.members.items) (seen (suc a.update) a.whole) (seen (suc a.update) z)) (sym w) (agree_alone Went (trails_of lost.members.items) (seen (suc a.update) a.whole) sorted);
    })
    ∙ (λ i. settle (caused_chase a.rules B) a.deps true a.committed a.update (below i) ((ap (seen (suc a.update)) w ∙ below) i) (members_of a.rules B (k i)) (suc a.update) us)

-- Where it lost its trail.
pub of_loss : (a : Above) (none lost : Lost) (ws : List Change) (rs : List QueuedUpdate) (xs : List (Option CauseOfProgram)) → none.without ≡ a.whole → none.members.items ≡ [] → Loses a.update ws none lost → AreFound a [] lost rs xs → AreCausesOfLoss a ws rs xs
of_loss a none lost ws rs xs w k l f B D lower u few e eu h runs =
    let us = updates_of a.rules B rs in
    let tr : List Change = trail (caused_chase a.rules B) u in
    let base : List Fact = laid a.rules B D lower in
    let t = trails_held a.rules B D lower (u ∷ us) a.whole h in
    let held : HoldFrom a.rules B a.update (u ∷ us) a.whole = subst (λ n. HoldFrom a.rules B n (u ∷ us) a.whole) (sym e) t.held in
    let gone : Retracted a.update tr a.whole lost.without = subst (λ (z : Kept). Retracted a.update tr z lost.without) w (subst (λ ts. Retracted a.update ts none.without lost.without) (sym eu) l.retracted) in
    let below : seen a.update a.whole ≡ base = ap (λ n. seen n a.whole) e ∙ t.below in
    let with_it : seen (suc a.update) a.whole ≡ apply base tr = below_next a.rules B a.update u us a.whole held ∙ ap (λ E. apply E tr) below in
    let without_it : seen (suc a.update) lost.without ≡ base = below_without a.rules B a.update u us a.whole lost.without held gone ∙ below in
    let sorted : IsRepository base = apply_in_order D (flat_map (trail (caused_chase a.rules B)) lower) h.sorted in
    let members : members_of a.rules B lost.members.items ≡ record { number = a.update; trail = tr } ∷ [] = l.joined a.rules B ∙ (λ j. members_of a.rules B (k j) ++ record { number = a.update; trail = sym eu j } ∷ []) in
    let ts : trails_of lost.members.items ≡ tr ∷ [] = trails_are a.rules B lost.members.items ∙ ap (map (λ (m : Member (caused_chase a.rules B)). m.trail)) members in
    f B false few (λ c. refl)
    (record {
      whole = hold_next a.rules B a.update u us a.whole held;
      without = hold_without a.rules B a.update u us a.whole lost.without held gone;
      before = apply base tr;
      runs = runs;
      event = subst (λ X. AgreeBut a.sense ([] ∷ []) (apply base tr) X) (sym with_it) (agree_alone a.sense ([] ∷ []) (apply base tr) (apply_in_order base tr sorted));
      gone =
          subst (λ zs. AgreeBut Went zs (seen (suc a.update) a.whole) (seen (suc a.update) lost.without)) (sym ts)
          (subst (λ X. AgreeBut Went (tr ∷ []) X (seen (suc a.update) lost.without)) (sym with_it) (subst (λ X. AgreeBut Went (tr ∷ []) (apply base tr) X) (sym without_it) (agree_more [] base base tr (agree_alone Went [] base sorted))));
    })
    ∙ (λ i. settle (caused_chase a.rules B) a.deps false a.committed a.update (with_it i) (without_it i) (members i) (suc a.update) us)

-- Where none of those above has read anything, none is restarted.
pub none_read : (a : Above) (ws : List Change) (rs : List QueuedUpdate) → ReadsAtMost rs 0 → AreCausesOfWrites a ws rs []
none_read a ws rs unread B D lower u v few e held runs agree =
    none_of a true B ws (above a.rules B D lower v) (above a.rules B D lower v) [] (suc a.update) rs (unread a.rules B)

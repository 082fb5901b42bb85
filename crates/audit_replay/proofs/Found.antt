-- Why one update is restarted, as the machine tells it.
use Rattle.std.proofs.Common.{◌≡◌, ◌∙◌, ap, refl, sym, subst, ℕ, suc, Bool, true, false, not, ◌&&◌, ◌||◌, nat_lt, List, [], ◌∷◌, map, Option, None, Some}
use Rattle.std.specs.Prelude.{if◌then◌else◌}
use Rattle.std.specs.List.{list_any}
use Rattle.std.specs.Option.{option_map}
use Rattle.std.proofs.lemmas.Bool.{or_parts}
use Rattle.core_entries.specs.Meanings.{cause_of}
use Rattle.core_entries.specs.declared.causes.Cause.{Cause as CauseOfProgram}
use Rattle.def_history.specs.PlainEntries.{cause_kept}
use Rattle.def_machine.specs.Cascade.{Cause, Conflict, Depends, Member, has_number, writer_for}
use Rattle.def_machine.specs.Machine.{Machine}
use Rattle.def_machine.specs.Reads.{Changed, first_that, is_valid, value_now}
use Rattle.def_machine.specs.Updates.{Deps, Precise, Coarse, Read as ReadOfHistory}
use Rattle.def_chase.specs.Mappings.{Rule}
use Rattle.def_chase.specs.Mentions.{mentions}
use Rattle.def_chase.specs.Updates.{direction_of}
use Rattle.def_chase.specs.Values.{Fact}
use Rattle.chase_query.specs.Meanings.{Read, reads_in}
use Rattle.def_steps.specs.Chase.{caused_chase, relation_of}
use Rattle.audit_updates.specs.Updates.{StandsAt, logged, update_of}
use Rattle.audit_updates.specs.Standings.{IsLive}
use Rattle.audit_updates.specs.declared.updates.AuditedUpdate.{AuditedUpdate}
use Rattle.audit_replay.specs.Causes.{AreTold, IsFirstDependent, IsJoinOf, IsMetConflict, cause_meant, conflict_meant, dependence_meant, depends_by, least_writer, may_conflict, member_of, members_of, numbered_of, writes_of}
use Rattle.audit_replay.specs.Changes.{IsFirstChange, any_met, change_meant, changed_at, is_changed, is_met_and_changed, meets}
use Rattle.audit_replay.specs.Relations.{any_of}
use Rattle.audit_replay.specs.Met.{has_turned, is_reached, met_conflict, met_join}
use Rattle.audit_replay.specs.declared.changes.Change.{Change}
use Rattle.audit_replay.specs.declared.losses.Losses.{Losses}
use Rattle.audit_replay.specs.declared.losses.Member.{Member as MemberOfProgram}
use Rattle.audit_replay.specs.declared.losses.Numbered.{Numbered}

any_map : {A B : Type 0} (p : B → Bool) (f : A → B) (xs : List A) → list_any p (map f xs) ≡ list_any (λ x. p (f x)) xs
any_map p f [] = refl
any_map p f (x ∷ xs) = ap (λ b. p (f x) || b) (any_map p f xs)

map_map : {A B C : Type 0} (g : B → C) (f : A → B) (o : Option A) → option_map g (option_map f o) ≡ option_map (λ x. g (f x)) o
map_map g f None = refl
map_map g f (Some x) = refl

module _ (ms : List Rule) (B : ℕ) where
  abbrev M : Machine
  M = caused_chase ms B

  -- A read with its number, as the log of a history's update has it.
  abbrev paired : ℕ × Read → ℕ × ReadOfHistory M
  paired t = (t.0, logged ms B t.1)

  -- The first read of a log is that of the history's.
  pub first_is : (q : ReadOfHistory M → Bool) (p : Read → Bool) → ((r : Read) → q (logged ms B r) ≡ p r) → (rs : List Read) → first_that q (map (logged ms B) rs) ≡ option_map paired (first_that p rs)
  first_is q p h [] = refl
  first_is q p h (r ∷ rs) =
      ap (λ o. if q (logged ms B r) then Some (1, logged ms B r) else option_map (λ (t : ℕ × ReadOfHistory M). (suc t.0, t.1)) o) (first_is q p h rs)
      ∙ ap (λ b. if b then Some (1, logged ms B r) else option_map (λ (t : ℕ × ReadOfHistory M). (suc t.0, t.1)) (option_map paired (first_that p rs))) (h r)
      ∙ by (p r) (first_that p rs)
    where
      by : (b : Bool) (o : Option (ℕ × Read)) → (if b then Some (1, logged ms B r) else option_map (λ (t : ℕ × ReadOfHistory M). (suc t.0, t.1)) (option_map paired o)) ≡ option_map paired (if b then Some (1, r) else option_map (λ (t : ℕ × Read). (suc t.0, t.1)) o)
      by true o = refl
      by false None = refl
      by false (Some t) = refl

  -- ---- conflicts

  as_conflict : (j n : ℕ) (D : List Fact) (r : AuditedUpdate) (o : Option (ℕ × Read))
      → option_map (cause_kept ms B) (option_map (conflict_meant j n) (option_map (changed_at ms (direction_of r.program.attempt.operation) D r.program.attempt.own) o))
      ≡ option_map (λ (x : Changed M). Conflict n x.read j x.old x.new)
      (option_map (λ (t : ℕ × ReadOfHistory M). record { read = t.0; old = t.1.answer; new = value_now M r.program.attempt.operation D r.program.attempt.own t.1 }) (option_map paired o))
  as_conflict j n D r None = refl
  as_conflict j n D r (Some t) = refl

  -- A changed read makes the conflict of its update.
  conflict_is : (c j : ℕ) (relations : List ℕ) (D : List Fact) (r : AuditedUpdate) (found : Option CauseOfProgram) (change : Option Change) → IsFirstChange ms relations D r change → option_map cause_of found ≡ option_map (conflict_meant j r.program.attempt.number) (option_map change_meant change)
      → option_map (cause_meant ms B) found
      ≡ option_map (λ (x : Changed M). Conflict r.program.attempt.number x.read j x.old x.new)
      (option_map (λ (t : ℕ × ReadOfHistory M). record { read = t.0; old = t.1.answer; new = value_now M r.program.attempt.operation D r.program.attempt.own t.1 })
      (first_that (λ q. meets ms relations q.query && not (is_valid M r.program.attempt.operation D r.program.attempt.own q)) (map (logged ms B) (reads_in r.log.items))))
  conflict_is c j relations D r found change first is =
      let h = direction_of r.program.attempt.operation in
      let own = r.program.attempt.own in
      let n = r.program.attempt.number in
      let reads = reads_in r.log.items in
      sym (map_map (cause_kept ms B) cause_of found) ∙ ap (option_map (cause_kept ms B)) (is ∙ ap (option_map (conflict_meant j n)) first)
      ∙ as_conflict j n D r (first_that (is_met_and_changed ms relations h D own) reads)
      ∙ ap (λ o. option_map (λ (x : Changed M). Conflict n x.read j x.old x.new) (option_map (λ (t : ℕ × ReadOfHistory M). record { read = t.0; old = t.1.answer; new = value_now M r.program.attempt.operation D own t.1 }) o))
      (sym (first_is (λ q. meets ms relations q.query && not (is_valid M r.program.attempt.operation D own q)) (is_met_and_changed ms relations h D own) (λ q. refl) reads))

  -- ---- dependences

  reached_is : (l : Losses) → AreTold l → (r : Read) → is_reached ms B (members_of ms B l.members.items) (logged ms B r) ≡ meets ms l.relations.items r.query
  reached_is l told r =
      any_map (λ (m : Member M). list_any (λ w. mentions ms r.query (relation_of w)) m.trail) (member_of ms B) l.members.items ∙ sym (told (mentions ms r.query))

  test_is : (deps : Deps) (D : List Fact) (l : Losses) (s : AuditedUpdate) → AreTold l → (r : Read)
      → (is_reached ms B (members_of ms B l.members.items) (logged ms B r) && has_turned ms B deps s.program.attempt.operation D s.program.attempt.own (logged ms B r))
      ≡ depends_by deps ms l.relations.items (direction_of s.program.attempt.operation) D s.program.attempt.own r
  test_is Precise D l s told r = ap (λ b. b && is_changed ms (direction_of s.program.attempt.operation) D s.program.attempt.own r) (reached_is l told r)
  test_is Coarse D l s told r = ap (λ b. b && true) (reached_is l told r) ∙ and_true (meets ms l.relations.items r.query)
    where
      and_true : (b : Bool) → (b && true) ≡ b
      and_true true = refl
      and_true false = refl

  writer_is : (ks : List MemberOfProgram) (r : Read) → least_writer ms r ks ≡ writer_for M (logged ms B r) (members_of ms B ks)
  writer_is [] r = refl
  writer_is (k ∷ ks) r = ap (λ (n : ℕ). if any_of (mentions ms r.query) (writes_of k) then k.number else n) (writer_is ks r)

  as_depends : (n : ℕ) (ks : List MemberOfProgram) (o : Option (ℕ × Read))
      → option_map (cause_kept ms B) (option_map (dependence_meant ms ks n) o) ≡ option_map (λ (t : ℕ × ReadOfHistory M). Depends n t.0 (writer_for M t.1 (members_of ms B ks))) (option_map paired o)
  as_depends n ks None = refl
  as_depends n ks (Some t) = ap (λ (w : ℕ). some_depends n t.0 w) (writer_is ks t.1)
    where
      some_depends : ℕ → ℕ → ℕ → Option (Cause M)
      some_depends i k w = Some (Depends i k w)

  -- A read that depends on what is lost makes the dependence of its update.
  dependence_is : (deps : Deps) (D : List Fact) (l : Losses) (r : AuditedUpdate) (found : Option CauseOfProgram) (read : Option Numbered) → AreTold l → IsFirstDependent deps ms l D r read
      → option_map cause_of found ≡ option_map (dependence_meant ms l.members.items r.program.attempt.number) (option_map numbered_of read)
      → option_map (cause_meant ms B) found
      ≡ option_map (λ (t : ℕ × ReadOfHistory M). Depends r.program.attempt.number t.0 (writer_for M t.1 (members_of ms B l.members.items)))
      (first_that (λ q. is_reached ms B (members_of ms B l.members.items) q && has_turned ms B deps r.program.attempt.operation D r.program.attempt.own q) (map (logged ms B) (reads_in r.log.items)))
  dependence_is deps D l r found read told first is =
      let n = r.program.attempt.number in
      let ks = l.members.items in
      let reads = reads_in r.log.items in
      let p = depends_by deps ms l.relations.items (direction_of r.program.attempt.operation) D r.program.attempt.own in
      sym (map_map (cause_kept ms B) cause_of found) ∙ ap (option_map (cause_kept ms B)) (is ∙ ap (option_map (dependence_meant ms ks n)) first)
      ∙ as_depends n ks (first_that p reads)
      ∙ ap (option_map (λ (t : ℕ × ReadOfHistory M). Depends n t.0 (writer_for M t.1 (members_of ms B ks))))
      (sym (first_is (λ q. is_reached ms B (members_of ms B ks) q && has_turned ms B deps r.program.attempt.operation D r.program.attempt.own q) p (test_is deps D l r told) reads))

if_true : {A : Type 0} (b : Bool) (x y : A) → true ≡ b → x ≡ (if b then x else y)
if_true b x y e = ap (λ c. if c then x else y) e

if_false : {A : Type 0} (b : Bool) (x y : A) → false ≡ b → y ≡ (if b then x else y)
if_false b x y e = ap (λ c. if c then x else y) e

-- ---- conflicts of one update

-- One that isn't live has none.
pub conflict_not_live : (ms : List Rule) (c j : ℕ) (relations : List ℕ) (D : List Fact) (r : AuditedUpdate) (n : ℕ) (b : Bool) → n ≡ r.program.attempt.number → IsLive c n r b → b ≡ false → IsMetConflict ms c j relations D r None
conflict_not_live ms c j relations D r n b e live f B m stands =
    if_false (nat_lt c m && not r.withdrawn) _ None (sym f ∙ live ms B ∙ ap (λ k. nat_lt c k && not r.withdrawn) (e ∙ stands.number))

-- A live one has the conflict of its changed read.
pub conflict_live : (ms : List Rule) (c j : ℕ) (relations : List ℕ) (D : List Fact) (r : AuditedUpdate) (n : ℕ) (b : Bool) (found : Option CauseOfProgram) (change : Option Change) → n ≡ r.program.attempt.number → IsLive c n r b → b ≡ true
    → IsFirstChange ms relations D r change → option_map cause_of found ≡ option_map (conflict_meant j n) (option_map change_meant change) → IsMetConflict ms c j relations D r found
conflict_live ms c j relations D r n b found change e live t first is B m stands =
    subst (λ (k : ℕ). option_map (cause_meant ms B) found ≡ met_conflict ms B c j relations D k (update_of ms B r)) stands.number
    (conflict_is ms B c j relations D r found change first (subst (λ (k : ℕ). option_map cause_of found ≡ option_map (conflict_meant j k) (option_map change_meant change)) e is)
    ∙ if_true (nat_lt c r.program.attempt.number && not r.withdrawn) _ None (sym t ∙ live ms B ∙ ap (λ k. nat_lt c k && not r.withdrawn) e))

-- ---- dependences of one update

-- One of the first members has none.
pub join_named : (ms : List Rule) (deps : Deps) (c : ℕ) (firsts : List ℕ) (D : List Fact) (l : Losses) (r : AuditedUpdate) (n : ℕ) (b : Bool) → n ≡ r.program.attempt.number → b ≡ has_number firsts n → b ≡ true → IsJoinOf ms deps c firsts D l r None
join_named ms deps c firsts D l r n b e named t B m told stands = if_true (has_number firsts m) None _ (sym t ∙ named ∙ ap (has_number firsts) (e ∙ stands.number))

-- Nor has one that isn't live.
pub join_not_live : (ms : List Rule) (deps : Deps) (c : ℕ) (firsts : List ℕ) (D : List Fact) (l : Losses) (r : AuditedUpdate) (n : ℕ) (b : Bool) → n ≡ r.program.attempt.number → IsLive c n r b → b ≡ false → IsJoinOf ms deps c firsts D l r None
join_not_live ms deps c firsts D l r n b e live f B m told stands =
    none (has_number firsts m) (if_false (nat_lt c m && not r.withdrawn) _ None (sym f ∙ live ms B ∙ ap (λ k. nat_lt c k && not r.withdrawn) (e ∙ stands.number)))
  where
    none : (d : Bool) {o : Option (Cause (caused_chase ms B))} → None ≡ o → None ≡ (if d then None else o)
    none true g = refl
    none false g = g

-- Another live one has the dependence of its read.
pub join_live : (ms : List Rule) (deps : Deps) (c : ℕ) (firsts : List ℕ) (D : List Fact) (l : Losses) (r : AuditedUpdate) (n : ℕ) (b d : Bool) (found : Option CauseOfProgram) (read : Option Numbered) → n ≡ r.program.attempt.number
    → b ≡ has_number firsts n → b ≡ false → IsLive c n r d → d ≡ true → IsFirstDependent deps ms l D r read → option_map cause_of found ≡ option_map (dependence_meant ms l.members.items n) (option_map numbered_of read) → IsJoinOf ms deps c firsts D l r found
join_live ms deps c firsts D l r n b d found read e named f live t first is B m told stands =
    subst (λ (k : ℕ). option_map (cause_meant ms B) found ≡ met_join ms B deps c firsts D (members_of ms B l.members.items) k (update_of ms B r)) stands.number
    (dependence_is ms B deps D l r found read told first (subst (λ (k : ℕ). option_map cause_of found ≡ option_map (dependence_meant ms l.members.items k) (option_map numbered_of read)) e is)
    ∙ if_true (nat_lt c r.program.attempt.number && not r.withdrawn) _ None (sym t ∙ live ms B ∙ ap (λ k. nat_lt c k && not r.withdrawn) e)
    ∙ if_false (has_number firsts r.program.attempt.number) None _ (sym f ∙ named ∙ ap (has_number firsts) e))

-- ---- updates that are met by nothing

module _ (ms : List Rule) (B : ℕ) (c j : ℕ) (relations : List ℕ) where
  none_of_reads : (p : ReadOfHistory (caused_chase ms B) → Bool) (rs : List Read) → any_met ms relations rs ≡ false → first_that (λ q. meets ms relations q.query && p q) (map (logged ms B) rs) ≡ None
  none_of_reads p [] e = refl
  none_of_reads p (r ∷ rs) e =
      let parts = or_parts (meets ms relations r.query) (any_met ms relations rs) e in
      λ i. if parts.0 i && p (logged ms B r) then Some (1, logged ms B r) else option_map (λ (t : ℕ × ReadOfHistory (caused_chase ms B)). (suc t.0, t.1)) (none_of_reads p rs parts.1 i)

  abbrev conflicts_by : List Fact → ℕ → AuditedUpdate → Option (ℕ × ReadOfHistory (caused_chase ms B)) → Option (Cause (caused_chase ms B))
  conflicts_by D n r o =
      option_map (λ (x : Changed (caused_chase ms B)). Conflict n x.read j x.old x.new)
      (option_map (λ (t : ℕ × ReadOfHistory (caused_chase ms B)). record { read = t.0; old = t.1.answer; new = value_now (caused_chase ms B) r.program.attempt.operation D r.program.attempt.own t.1 }) o)

  none_where : (D : List Fact) (n : ℕ) (r : AuditedUpdate) (b : Bool) → (b && any_met ms relations (reads_in r.log.items)) ≡ false
      → (if b then conflicts_by D n r (first_that (λ q. meets ms relations q.query && not (is_valid (caused_chase ms B) r.program.attempt.operation D r.program.attempt.own q)) (map (logged ms B) (reads_in r.log.items))) else None) ≡ None
  none_where D n r true e = ap (conflicts_by D n r) (none_of_reads (λ q. not (is_valid (caused_chase ms B) r.program.attempt.operation D r.program.attempt.own q)) (reads_in r.log.items) e)
  none_where D n r false e = refl

  -- What nothing meets has no conflict.
  pub unmet_has_none : (D : List Fact) (n : ℕ) (r : AuditedUpdate) → StandsAt n r → may_conflict ms c relations r ≡ false → met_conflict ms B c j relations D n (update_of ms B r) ≡ None
  unmet_has_none D n r stands h =
      none_where D n r (nat_lt c n && not r.withdrawn) (ap (λ k. (nat_lt c k && not r.withdrawn) && any_met ms relations (reads_in r.log.items)) (sym stands.number) ∙ h)

-- ---- whether an update may be in conflict

pub may_live : (ms : List Rule) (c n : ℕ) (relations : List ℕ) (r : AuditedUpdate) (live met : Bool) (reads : List Read) → n ≡ r.program.attempt.number → IsLive c n r live → live ≡ true → reads ≡ reads_in r.log.items → met ≡ any_met ms relations reads → met ≡ may_conflict ms c relations r
may_live ms c n relations r live met reads e is t same m =
    m ∙ ap (any_met ms relations) same ∙ ap (λ b. b && any_met ms relations (reads_in r.log.items)) (sym t ∙ is ms 0 ∙ ap (λ k. nat_lt c k && not r.withdrawn) e)

pub may_not : (ms : List Rule) (c n : ℕ) (relations : List ℕ) (r : AuditedUpdate) (live : Bool) → n ≡ r.program.attempt.number → IsLive c n r live → live ≡ false → live ≡ may_conflict ms c relations r
may_not ms c n relations r live e is f = f ∙ ap (λ b. b && any_met ms relations (reads_in r.log.items)) (sym f ∙ is ms 0 ∙ ap (λ k. nat_lt c k && not r.withdrawn) e)

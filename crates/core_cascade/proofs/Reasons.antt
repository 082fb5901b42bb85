-- What is found for one reader is its cause in a history.
use Rattle.std.proofs.Common.{◌≡◌, ◌∙◌, ap, refl, sym, ℕ, suc, ◌≤◌, Bool, true, false, not, ◌&&◌, ◌↔◌, List, [], ◌∷◌, map, take, Option, Some, None, nat_lt}
use Rattle.std.proofs.lemmas.Bool.{and_parts, and_from}
use Rattle.std.proofs.lemmas.Option.{none-some}
use Rattle.std.specs.Prelude.{if◌then◌else◌}
use Rattle.std.specs.List.{list_all, AllByRecursion}
use Rattle.std.specs.Option.{option_map}
use Rattle.core_conflict.specs.Changes.{Numbered, Changed, first_from, is_changed, is_met_and_changed, value_now}
use Rattle.core_conflict.specs.Concerns.{AgreeBut, is_met}
use Rattle.core_conflict.specs.Meetings.{IsNoneMet}
use Rattle.core_conflict.specs.Trails.{trails_of}
use Rattle.core_conflict.specs.declared.concerns.Sense.{Sense}
use Rattle.core_conflict.specs.declared.concerns.Sense.TheVariants.{Went}
use Rattle.core_conflict.specs.declared.concerns.Trail.{Trail}
use Rattle.core_conflict.specs.declared.impacts.Impact.{Impact}
use Rattle.core_conflict.proofs.Unmet.{none_changed}
use Rattle.core_conflict.proofs.Staying.{unmet_values_stay}
use Rattle.core_entries.specs.Meanings.{cause_of as plain_of}
use Rattle.core_entries.specs.declared.causes.Cause.{Cause as CauseOfProgram}
use Rattle.def_history.specs.PlainEntries.{PlainCause, cause_kept}
use Rattle.def_machine.specs.Cascade.{Cause, Conflict, Depends, read_depends, writer_for}
use Rattle.def_machine.specs.Reads.{Changed as ChangedOfHistory, changed_read, first_that, is_valid}
use Rattle.def_machine.specs.Runs.{IsRun}
use Rattle.def_machine.specs.Settle.{or_else}
use Rattle.def_machine.specs.Standings.{is_nil}
use Rattle.def_machine.specs.Updates.{Read as ReadOfHistory, Deps, Precise, Coarse}
use Rattle.def_chase.specs.Mappings.{Rule}
use Rattle.def_machine.proofs.Settling.{run_valid}
use Rattle.def_chase.specs.Queries.{Reply, same_reply}
use Rattle.def_chase.proofs.Replies.{reply_is, reply_itself}
use Rattle.def_chase.specs.Repository.{Change}
use Rattle.def_chase.specs.Updates.{Operation, direction_of}
use Rattle.def_chase.specs.Values.{Fact}
use Rattle.chase_query.specs.Meanings.{Read, reads_in}
use Rattle.chase_query.specs.declared.log.Logged.{Logged}
use Rattle.core_queue.specs.Queues.{logged, update_of}
use Rattle.core_queue.specs.Updates.{IsLive}
use Rattle.core_queue.specs.declared.updates.QueuedUpdate.{QueuedUpdate}
use Rattle.def_steps.proofs.ChaseLaws.{chase_laws}
use Rattle.def_steps.specs.Chase.{caused_chase, caused}
use Rattle.set_versions.specs.Standing.{Kept, seen}
use Rattle.core_cascade.specs.declared.lost.Lost.{Lost}
use Rattle.core_cascade.specs.Meanings.{Above, found_of, members_of}
use Rattle.core_cascade.specs.Reached.{any_reached, first_changed_in, first_by, first_dependent}
use Rattle.core_cascade.specs.Walks.{number_of, is_live_in, may_have_cause, conflict_meant, dependence_meant, HasFootprint, HasImpact, IsConflictFor, IsDependenceFor, IsCauseFor, HasNoCause, RanBelow}
use Rattle.core_cascade.proofs.Firsts.{paired, first_is, reached_is, writer_is}

-- ---- where a cause is looked for

-- Where the update isn't live, or nothing is found, there is none.
pub idle : {A : Type 0} (conflicting live some : Bool) (X Y : Option A) → (live ≡ true → X ≡ None) → (live ≡ true → Y ≡ None)
    → or_else (if conflicting then (if live then X else None) else None) (if live && some then Y else None) ≡ None
idle true true true X Y f g = (λ i. or_else (f refl i) (g refl i))
idle true true false X Y f g = (λ i. or_else (f refl i) None)
idle true false some X Y f g = refl
idle false true true X Y f g = g refl
idle false true false X Y f g = refl
idle false false some X Y f g = refl

-- Where it is live, its conflict comes first.
by_conflict : {A : Type 0} (live some : Bool) (x : A) (X Y : Option A) → live ≡ true → Some x ≡ X → Some x ≡ or_else (if live then X else None) (if live && some then Y else None)
by_conflict true some x X Y l e = ap (λ o. or_else o (if some then Y else None)) e
by_conflict false some x X Y l e = absurd (cc)

-- And else its dependence.
by_dependence : {A : Type 0} (conflicting live some : Bool) (X Y o : Option A) → live ≡ true → (conflicting ≡ true → None ≡ X) → o ≡ (if some then Y else None)
    → o ≡ or_else (if conflicting then (if live then X else None) else None) (if live && some then Y else None)
by_dependence true true some X Y o l f e = e ∙ ap (λ z. or_else z (if some then Y else None)) (f refl)
by_dependence false true some X Y o l f e = e
by_dependence true false some X Y o l f e = absurd (cc)
by_dependence false false some X Y o l f e = absurd (cc)

-- ---- the first read that passes, of those that are met

same_test : (m b : Bool) → (m ≡ false → b ≡ false) → (m && b) ≡ b
same_test true b h = refl
same_test false b h = sym (h refl)

-- It is the first of all, where none that is not met passes.
first_met : (p met : Read → Bool) (n : ℕ) (rs : List Read) → AllByRecursion (λ r. met r ≡ false → p r ≡ false) rs → first_from (λ r. met r && p r) n rs ≡ first_from p n rs
first_met p met n [] h = refl
first_met p met n (r ∷ rs) h = λ i. if same_test (met r) (p r) h.0 i then Some (record { number = n; read = r }) else first_met p met (suc n) rs h.1 i

-- Where nothing is written none is met.
none_met : (ms : List Rule) (op : Operation) (D : List Fact) (own : List Change) (g : Sense) (n : ℕ) (rs : List Read) → first_from (is_met_and_changed ms (direction_of op) D own g ([] ∷ [])) n rs ≡ None
none_met ms op D own g n [] = refl
none_met ms op D own g n (r ∷ rs) = none_met ms op D own g (suc n) rs

unmapped : {A B : Type 0} (f : A → B) (o : Option A) → None ≡ option_map f o → o ≡ None
unmapped f None e = refl
unmapped f (Some x) e = absurd (none-some (f x) e)

module _ (ms : List Rule) (B : ℕ) where
  -- ---- reads that keep their values

  -- Reads that were valid have not changed where no write meets them.
  keeps : (op : Operation) (own : List Change) (g : Sense) (trails : List (List Change)) (D E : List Fact) → AgreeBut g trails D E → (rs : List Read) → list_all (is_valid (caused_chase ms B) op D own) (map (logged ms B) rs) ≡ true
      → AllByRecursion (λ r. is_met ms (direction_of op) own g trails r ≡ false → is_changed ms (direction_of op) E own r ≡ false) rs
  keeps op own g trails D E a [] v = tt
  keeps op own g trails D E a (r ∷ rs) v =
      let parts = and_parts (is_valid (caused_chase ms B) op D own (logged ms B r)) (list_all (is_valid (caused_chase ms B) op D own) (map (logged ms B) rs)) v in (
        λ m. ap (λ (x : Reply). not (same_reply r.reply x)) (sym (unmet_values_stay ms (direction_of op) own r g trails D E a m (reply_is r.reply (value_now ms (direction_of op) D own r) parts.0))) ∙ ap not (reply_itself r.reply),
        keeps op own g trails D E a rs parts.1,
      )

  was_not : (b : Bool) → not b ≡ false → b ≡ true
  was_not true e = refl
  was_not false e = absurd (cc)

  -- Where none has changed they are valid.
  all_valid_now : (op : Operation) (own : List Change) (E : List Fact) (n : ℕ) (rs : List Read) → first_from (is_changed ms (direction_of op) E own) n rs ≡ None → list_all (is_valid (caused_chase ms B) op E own) (map (logged ms B) rs) ≡ true
  all_valid_now op own E n [] h = refl
  all_valid_now op own E n (r ∷ rs) h = by (is_changed ms (direction_of op) E own r) refl h (λ g. all_valid_now op own E (suc n) rs g)
    where
      by : (b : Bool) → is_changed ms (direction_of op) E own r ≡ b → (if b then Some (record { number = n; read = r }) else first_from (is_changed ms (direction_of op) E own) (suc n) rs) ≡ None
          → (first_from (is_changed ms (direction_of op) E own) (suc n) rs ≡ None → list_all (is_valid (caused_chase ms B) op E own) (map (logged ms B) rs) ≡ true)
          → list_all (is_valid (caused_chase ms B) op E own) (map (logged ms B) (r ∷ rs)) ≡ true
      by true e g rest = absurd (none-some (record { number = n; read = r }) (sym g))
      by false e g rest = and_from (is_valid (caused_chase ms B) op E own (logged ms B r)) (list_all (is_valid (caused_chase ms B) op E own) (map (logged ms B) rs)) (was_not (is_valid (caused_chase ms B) op E own (logged ms B r)) e) (rest g)

  -- The reads of a queued update's log.
  abbrev reads : QueuedUpdate → List Read
  reads r = reads_in r.log.items

  -- They are valid over this.
  abbrev pub ValidOver : List Fact → QueuedUpdate → Type 0
  ValidOver D r = list_all (is_valid (caused_chase ms B) r.program.attempt.operation D r.program.attempt.own) (map (logged ms B) (reads r)) ≡ true

  -- Those of a run are, over what it is a run of.
  run_is_valid : 1 ≤ B → (D : List Fact) (n : ℕ) (r : QueuedUpdate) → r.withdrawn ≡ false → IsRun (caused_chase ms B) D n (update_of ms B r) → ValidOver D r
  run_is_valid few D n r w q = run_valid (caused_chase ms B) (chase_laws caused ms B few) D n (update_of ms B r) w q

  -- The first that has changed, whether met or not.
  abbrev pub first_of_all : Kept → QueuedUpdate → Option Numbered
  first_of_all v r = first_from (is_changed ms (direction_of r.program.attempt.operation) (seen (number_of r) v) r.program.attempt.own) 1 (reads r)

  abbrev pub now_in : Kept → QueuedUpdate → Numbered → Changed
  now_in v r t = record { number = t.number; read = t.read; now = value_now ms (direction_of r.program.attempt.operation) (seen (number_of r) v) r.program.attempt.own t.read }

  -- It is the first of those that are met, where the reads were valid before.
  met_first : (v : Kept) (g : Sense) (trails : List (List Change)) (D : List Fact) (r : QueuedUpdate) → AgreeBut g trails D (seen (number_of r) v) → ValidOver D r → first_changed_in ms v g trails r ≡ option_map (now_in v r) (first_of_all v r)
  met_first v g trails D r a valid =
      ap (option_map (now_in v r))
      (first_met (is_changed ms (direction_of r.program.attempt.operation) (seen (number_of r) v) r.program.attempt.own) (is_met ms (direction_of r.program.attempt.operation) r.program.attempt.own g trails) 1 (reads r)
      (keeps r.program.attempt.operation r.program.attempt.own g trails D (seen (number_of r) v) a (reads r) valid))

  -- ---- conflicts

  -- The conflict of reader n with update j.
  abbrev pub conflict_at : ℕ → ℕ → ChangedOfHistory (caused_chase ms B) → Cause (caused_chase ms B)
  conflict_at j n t = Conflict n t.read j t.old t.new

  -- The dependence of reader n.
  abbrev pub depends_at : List Trail → ℕ → ℕ × ReadOfHistory (caused_chase ms B) → Cause (caused_chase ms B)
  depends_at ks n t = Depends n t.0 (writer_for (caused_chase ms B) t.1 (members_of ms B ks))

  abbrev depends_on : ℕ → ℕ → ℕ → Option (Cause (caused_chase ms B))
  depends_on n k w = Some (Depends n k w)

  abbrev conflicts_with : ℕ → ℕ → ChangedOfHistory (caused_chase ms B) → Option (Cause (caused_chase ms B))
  conflicts_with j n t = Some (conflict_at j n t)

  as_changed : (j n : ℕ) (g : Numbered → Changed) (h : ℕ × ReadOfHistory (caused_chase ms B) → ChangedOfHistory (caused_chase ms B))
      → ((t : Numbered) → h (paired ms B t) ≡ record { read = (g t).number; old = (g t).read.reply; new = (g t).now }) → (o : Option Numbered)
      → option_map (cause_kept ms B) (option_map (conflict_meant j n) (option_map g o)) ≡ option_map (conflict_at j n) (option_map h (option_map (paired ms B) o))
  as_changed j n g h e None = refl
  as_changed j n g h e (Some t) = ap (conflicts_with j n) (sym (e t))

  -- The first changed read of a log makes the conflict of its update.
  pub conflict_is : (j : ℕ) (v : Kept) (r : QueuedUpdate)
      → option_map (cause_kept ms B) (option_map (conflict_meant j (number_of r)) (option_map (now_in v r) (first_of_all v r)))
      ≡ option_map (conflict_at j (number_of r)) (changed_read (caused_chase ms B) (seen (number_of r) v) (update_of ms B r))
  conflict_is j v r =
      let D = seen (number_of r) v in
      let op = r.program.attempt.operation in
      let own = r.program.attempt.own in
      as_changed j (number_of r) (now_in v r) (λ t. record { read = t.0; old = t.1.answer; new = (caused_chase ms B).value op t.1.query D (take t.1.own own) }) (λ t. refl) (first_of_all v r)
      ∙ ap (λ o. option_map (conflict_at j (number_of r)) (option_map (λ t. record { read = t.0; old = t.1.answer; new = (caused_chase ms B).value op t.1.query D (take t.1.own own) }) o))
      (first_is ms B (is_changed ms (direction_of op) D own) (λ q. not (is_valid (caused_chase ms B) op D own q)) (λ q. refl) (reads r))

  -- ---- dependences

  as_depends : (ks : List Trail) (n : ℕ) (o : Option Numbered)
      → option_map (cause_kept ms B) (option_map (dependence_meant ms ks n) o)
      ≡ option_map (depends_at ks n) (option_map (paired ms B) o)
  as_depends ks n None = refl
  as_depends ks n (Some t) = ap (depends_on n t.number) (sym (writer_is ms B ks t.read))

  as_numbered : (g : Numbered → Changed) → ((t : Numbered) → record { number = (g t).number; read = (g t).read } ≡ t) → (o : Option Numbered)
      → option_map (λ (c : Changed). record { number = c.number; read = c.read }) (option_map g o) ≡ o
  as_numbered g e None = refl
  as_numbered g e (Some t) = ap Some (e t)

  -- The first read that depends on what is lost, where the reads are valid over the whole.
  pub first_depends : (deps : Deps) (E : List Fact) (lost : Lost) (r : QueuedUpdate) → AgreeBut Went (trails_of lost.members.items) E (seen (number_of r) lost.without) → ValidOver E r
      → option_map (paired ms B) (first_by deps ms lost r)
      ≡ first_that (read_depends (caused_chase ms B) deps r.program.attempt.operation (seen (number_of r) lost.without) r.program.attempt.own (members_of ms B lost.members.items)) (update_of ms B r).log
  first_depends Precise E lost r a valid =
      let D = seen (number_of r) lost.without in
      let op = r.program.attempt.operation in
      let own = r.program.attempt.own in
      ap (λ o. option_map (paired ms B) (option_map (λ (c : Changed). record { number = c.number; read = c.read }) o)) (met_first lost.without Went (trails_of lost.members.items) E r a valid)
      ∙ ap (option_map (paired ms B)) (as_numbered (now_in lost.without r) (λ t. refl) (first_of_all lost.without r))
      ∙ first_is ms B (is_changed ms (direction_of op) D own) (read_depends (caused_chase ms B) Precise op D own (members_of ms B lost.members.items)) (λ q. refl) (reads r)
  first_depends Coarse E lost r a valid =
      first_is ms B (any_reached ms (trails_of lost.members.items))
      (read_depends (caused_chase ms B) Coarse r.program.attempt.operation (seen (number_of r) lost.without) r.program.attempt.own (members_of ms B lost.members.items))
      (λ q. reached_is ms B lost.members.items q) (reads_in r.log.items)

  -- The dependence of a live update.
  abbrev pub dependence_in : Deps → Lost → QueuedUpdate → Option (Cause (caused_chase ms B))
  dependence_in deps lost r =
      option_map (depends_at lost.members.items (number_of r))
      (first_that (read_depends (caused_chase ms B) deps r.program.attempt.operation (seen (number_of r) lost.without) r.program.attempt.own (members_of ms B lost.members.items)) (update_of ms B r).log)

  -- The conflict of a live update.
  abbrev pub conflict_in : ℕ → Kept → QueuedUpdate → Option (Cause (caused_chase ms B))
  conflict_in j v r =
      option_map (conflict_at j (number_of r)) (changed_read (caused_chase ms B) (seen (number_of r) v) (update_of ms B r))

  where_members : (X : Option PlainCause) (Y : Option (Cause (caused_chase ms B))) (ks : List Trail) → option_map (cause_kept ms B) X ≡ Y
      → option_map (cause_kept ms B) (if is_nil ks then None else X) ≡ (if not (is_nil (members_of ms B ks)) then Y else None)
  where_members X Y [] e = refl
  where_members X Y (k ∷ ks) e = e

  pub dependence_is : (deps : Deps) (E : List Fact) (lost : Lost) (r : QueuedUpdate) → AgreeBut Went (trails_of lost.members.items) E (seen (number_of r) lost.without) → ValidOver E r
      → option_map (cause_kept ms B) (if is_nil lost.members.items then None else option_map (dependence_meant ms lost.members.items (number_of r)) (first_by deps ms lost r))
      ≡ (if not (is_nil (members_of ms B lost.members.items)) then dependence_in deps lost r else None)
  dependence_is deps E lost r a valid =
      where_members (option_map (dependence_meant ms lost.members.items (number_of r)) (first_by deps ms lost r)) (dependence_in deps lost r) lost.members.items
      (as_depends lost.members.items (number_of r) (first_by deps ms lost r) ∙ ap (option_map (depends_at lost.members.items (number_of r))) (first_depends deps E lost r a valid))

  nothing_changed : (j : ℕ) (v : Kept) (r : QueuedUpdate) (ls : List Logged) → r.log.items ≡ ls → is_nil ls ≡ true → conflict_in j v r ≡ None
  nothing_changed j v r [] e h = ap (λ ls. option_map (conflict_at j (number_of r)) (option_map (λ t. record { read = t.0; old = t.1.answer; new = (caused_chase ms B).value r.program.attempt.operation t.1.query (seen (number_of r) v) (take t.1.own r.program.attempt.own) }) (first_that (λ q. not (is_valid (caused_chase ms B) r.program.attempt.operation (seen (number_of r) v) r.program.attempt.own q)) (map (logged ms B) (reads_in ls))))) e
  nothing_changed j v r (l ∷ ls) e h = absurd (cc)

  nothing_depends : (deps : Deps) (lost : Lost) (r : QueuedUpdate) (ls : List Logged) → r.log.items ≡ ls → is_nil ls ≡ true → dependence_in deps lost r ≡ None
  nothing_depends deps lost r [] e h =
      ap (λ ls. option_map (depends_at lost.members.items (number_of r))
      (first_that (read_depends (caused_chase ms B) deps r.program.attempt.operation (seen (number_of r) lost.without) r.program.attempt.own (members_of ms B lost.members.items)) (map (logged ms B) (reads_in ls)))) e
  nothing_depends deps lost r (l ∷ ls) e h = absurd (cc)

live_of : (a b : Bool) → (a && not b) ≡ false → a ≡ true → b ≡ true
live_of true true h l = refl
live_of true false h l = absurd (cc)
live_of false b h l = absurd (cc)

-- ---- where a cause is looked for

read_is : (b : Bool) (xs : List Logged) → (b ≡ true) ↔ (xs ≡ []) → not b ≡ not (is_nil xs)
read_is true [] h = refl
read_is false [] h = let no : false ≡ true = h.1 refl in absurd (cc)
read_is true (x ∷ xs) h = let no : x ∷ xs ≡ [] = h.0 refl in absurd (cc)
read_is false (x ∷ xs) h = refl

-- A live reader has a cause only if it has read something.
pub reads_some : (c n : ℕ) (r : QueuedUpdate) (live empty : Bool) → IsLive c n r live → n ≡ number_of r → (empty ≡ true) ↔ (r.log.items ≡ []) → live ≡ true → not empty ≡ may_have_cause c r
reads_some c n r live empty h e f l =
    let is : is_live_in c r ≡ true = sym (h [] 0 ∙ ap (λ k. nat_lt c k && not r.withdrawn) e) ∙ l in
    read_is empty r.log.items f ∙ ap (λ b. b && not (is_nil r.log.items)) (sym is)

-- And else none.
pub not_live : (c n : ℕ) (r : QueuedUpdate) (live : Bool) → IsLive c n r live → n ≡ number_of r → live ≡ false → false ≡ may_have_cause c r
not_live c n r live h e l =
    let is : is_live_in c r ≡ false = sym (h [] 0 ∙ ap (λ k. nat_lt c k && not r.withdrawn) e) ∙ l in
    ap (λ b. b && not (is_nil r.log.items)) (sym is)

-- ---- the cause of one reader

-- One that isn't live or has read nothing has none.
pub none_for : (a : Above) (ws : List Change) (lost : Lost) (r : QueuedUpdate) → may_have_cause a.committed r ≡ false → IsCauseFor a ws lost r None
none_for a ws lost r h B conflicting few looks q =
    sym (idle conflicting (is_live_in a.committed r) (not (is_nil (members_of a.rules B lost.members.items))) (conflict_in a.rules B a.update a.whole r) (dependence_in a.rules B a.deps lost r)
    (λ l. nothing_changed a.rules B a.update a.whole r r.log.items refl (live_of (is_live_in a.committed r) (is_nil r.log.items) h l))
    (λ l. nothing_depends a.rules B a.deps lost r r.log.items refl (live_of (is_live_in a.committed r) (is_nil r.log.items) h l)))

live_is : (a : Above) (r : QueuedUpdate) → may_have_cause a.committed r ≡ true → is_live_in a.committed r ≡ true
live_is a r h = (and_parts (is_live_in a.committed r) (not (is_nil r.log.items)) h).0

not_true : (b : Bool) → not b ≡ true → b ≡ false
not_true true e = absurd (cc)
not_true false e = refl

-- It is not withdrawn.
stays_in : (a : Above) (r : QueuedUpdate) → may_have_cause a.committed r ≡ true → r.withdrawn ≡ false
stays_in a r h = not_true r.withdrawn (and_parts (nat_lt a.committed (number_of r)) (not r.withdrawn) (live_is a r h)).1

module _ (a : Above) (ws : List Change) (lost : Lost) (r : QueuedUpdate) (l : may_have_cause a.committed r ≡ true) (B : ℕ) (few : 1 ≤ B)
    (q : RanBelow a.rules B a.sense ws (trails_of lost.members.items) (seen (number_of r) a.whole) (seen (number_of r) lost.without) (number_of r) (update_of a.rules B r)) where
  -- Its first changed read is one that the writes meet.
  met_by_writes : first_changed_in a.rules a.whole a.sense (ws ∷ []) r ≡ option_map (now_in a.rules B a.whole r) (first_of_all a.rules B a.whole r)
  met_by_writes = met_first a.rules B a.whole a.sense (ws ∷ []) q.before r q.event (run_is_valid a.rules B few q.before (number_of r) r (stays_in a r l) q.run)

  -- The conflict that was found is that of the history.
  conflict_found : (x : Option CauseOfProgram) → IsConflictFor a ws r x → found_of a.rules B x ≡ conflict_in a.rules B a.update a.whole r
  conflict_found x h =
      ap (option_map (cause_kept a.rules B)) (h ∙ ap (option_map (conflict_meant a.update (number_of r))) met_by_writes) ∙ conflict_is a.rules B a.update a.whole r

  -- Where there is none the reads are valid over the whole.
  valid_still : IsConflictFor a ws r None → ValidOver a.rules B (seen (number_of r) a.whole) r
  valid_still h =
      all_valid_now a.rules B r.program.attempt.operation r.program.attempt.own (seen (number_of r) a.whole) 1 (reads_in r.log.items)
      (unmapped (now_in a.rules B a.whole r) (first_of_all a.rules B a.whole r) (sym (unmapped (conflict_meant a.update (number_of r)) (first_changed_in a.rules a.whole a.sense (ws ∷ []) r) h) ∙ met_by_writes))

-- Without writes there is no conflict.
pub no_conflict : (a : Above) (ws : List Change) (r : QueuedUpdate) → ws ≡ [] → IsConflictFor a ws r None
no_conflict a ws r e =
    sym (ap (λ vs. option_map (conflict_meant a.update (number_of r)) (first_changed_in a.rules a.whole a.sense (vs ∷ []) r)) e
    ∙ ap (λ o. option_map (conflict_meant a.update (number_of r)) (option_map (λ (t : Numbered). record { number = t.number; read = t.read; now = value_now a.rules (direction_of r.program.attempt.operation) (seen (number_of r) a.whole) r.program.attempt.own t.read }) o))
    (none_met a.rules r.program.attempt.operation (seen (number_of r) a.whole) r.program.attempt.own a.sense 1 (reads_in r.log.items)))

-- A conflict comes first.
pub conflict_first : (a : Above) (ws : List Change) (lost : Lost) (r : QueuedUpdate) (x : CauseOfProgram) → may_have_cause a.committed r ≡ true → IsConflictFor a ws r (Some x) → IsCauseFor a ws lost r (Some x)
conflict_first a ws lost r x l h B true few looks q =
    by_conflict (is_live_in a.committed r) (not (is_nil (members_of a.rules B lost.members.items))) (cause_kept a.rules B (plain_of x)) (conflict_in a.rules B a.update a.whole r) (dependence_in a.rules B a.deps lost r) (live_is a r l)
    (conflict_found a ws lost r l B few q (Some x) h)
conflict_first a ws lost r x l h B false few looks q = absurd (none-some (plain_of x) (no_conflict a ws r (looks refl) ∙ sym h))

-- Else it is a dependence.
pub dependence_then : (a : Above) (ws : List Change) (lost : Lost) (r : QueuedUpdate) (x : Option CauseOfProgram) → may_have_cause a.committed r ≡ true → IsConflictFor a ws r None → IsDependenceFor a lost r x → IsCauseFor a ws lost r x
dependence_then a ws lost r x l f h B conflicting few looks q =
    by_dependence conflicting (is_live_in a.committed r) (not (is_nil (members_of a.rules B lost.members.items))) (conflict_in a.rules B a.update a.whole r) (dependence_in a.rules B a.deps lost r) (found_of a.rules B x) (live_is a r l)
    (λ e. conflict_found a ws lost r l B few q None f)
    (ap (option_map (cause_kept a.rules B)) h ∙ dependence_is a.rules B a.deps (seen (number_of r) a.whole) lost r q.lost (valid_still a ws lost r l B few q f))

-- Where nothing is lost there is no other.
pub unlost : (a : Above) (ws : List Change) (lost : Lost) (r : QueuedUpdate) → lost.members.items ≡ [] → IsConflictFor a ws r None → IsCauseFor a ws lost r None
unlost a ws lost r k f = by (may_have_cause a.committed r) refl
  where
    by : (b : Bool) → may_have_cause a.committed r ≡ b → IsCauseFor a ws lost r None
    by true h =
        dependence_then a ws lost r None h f
        (ap (λ (ks : List Trail). if is_nil ks then None else option_map (dependence_meant a.rules lost.members.items (number_of r)) (first_dependent a lost r)) (sym k))
    by false h = none_for a ws lost r h

-- Where nothing was written either there is none.
pub nothing_for : (a : Above) (ws : List Change) (lost : Lost) (r : QueuedUpdate) → ws ≡ [] → lost.members.items ≡ [] → IsCauseFor a ws lost r None
nothing_for a ws lost r e k = unlost a ws lost r k (no_conflict a ws r e)

-- ---- where no write meets a read

-- A reader that has nothing to do with the writes has no conflict.
pub unmet_conflict : (a : Above) (ws : List Change) (r : QueuedUpdate) (v : Impact) → HasFootprint r → HasImpact a ws v → IsNoneMet (direction_of r.program.attempt.operation) r.footprint v → IsConflictFor a ws r None
unmet_conflict a ws r v f i n =
    ap (option_map (conflict_meant a.update (number_of r)))
    (none_changed a.rules (direction_of r.program.attempt.operation) (seen (number_of r) a.whole) r.program.attempt.own a.sense (ws ∷ []) (reads_in r.log.items)
    (n a.rules a.sense r.program.attempt.own (ws ∷ []) (reads_in r.log.items) f i))

-- Nor any cause where nothing is lost.
pub passed : (v : Impact) (lost : Lost) (r : QueuedUpdate) → HasFootprint r → lost.members.items ≡ [] → IsNoneMet (direction_of r.program.attempt.operation) r.footprint v → HasNoCause v lost r
passed v lost r f k n a ws i = unlost a ws lost r k (unmet_conflict a ws r v f i n)

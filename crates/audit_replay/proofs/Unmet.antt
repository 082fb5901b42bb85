-- Reads that mention none of the relations that were written need not be evaluated, where all reads were valid before.
use Rattle.std.proofs.Common.{◌≡◌, ◌∙◌, ap, refl, sym, subst, ℕ, suc, ◌≤◌, ◌==◌, ◌++◌, Bool, true, false, not, ◌&&◌, ◌||◌, List, [], ◌∷◌, map, Option, None, Some, arith}
use Rattle.std.specs.Prelude.{if◌then◌else◌, option_map, option_to_list, is_some, flat_map}
use Rattle.std.specs.List.{list_any, list_all, AllByRecursion}
use Rattle.std.proofs.lemmas.Bool.{and_parts, or_parts, both_ways, eqb-true, eq-eqb}
use Rattle.def_machine.specs.Cascade.{Cause, Conflict, Depends, Member, readers, conflict_of, conflicts, cascade, dependence_of, read_depends, has_number, is_live, with_member, without_member, writer_for}
use Rattle.def_machine.specs.Machine.{Machine}
use Rattle.def_machine.specs.Reads.{Changed, all_valid, changed_read, first_that, is_valid, value_now}
use Rattle.def_machine.specs.Updates.{Deps, Precise, Coarse, Read, Update, trail}
use Rattle.def_machine.proofs.Basics.{all_from}
use Rattle.def_machine.proofs.Settling.{conflict_some}
use Rattle.def_machine.proofs.Walks.{readers_join}
use Rattle.def_chase.specs.Mappings.{Rule}
use Rattle.def_chase.specs.Mentions.{mentions}
use Rattle.def_chase.specs.Queries.{same_reply}
use Rattle.def_chase.specs.Repository.{Change, IsRepository, apply}
use Rattle.def_chase.specs.Updates.{Operation}
use Rattle.def_chase.specs.Values.{Fact}
use Rattle.def_steps.proofs.ChaseLaws.{chase_laws}
use Rattle.def_steps.specs.Chase.{AgreeOn, caused, caused_chase, relation_of}
use Rattle.audit_replay.specs.Changes.{meets}
use Rattle.audit_replay.specs.Met.{is_none_of, AreValidThat, is_open, met_conflict, met_conflicts, is_reached, has_turned, met_dependence, met_join, met_cascade, relations_in}

-- ---- the first that passes

-- Two tests that come to the same on each of a list have one first.
pub first_same : {A : Type 0} (p q : A → Bool) (xs : List A) → AllByRecursion (λ x. p x ≡ q x) xs → first_that p xs ≡ first_that q xs
first_same p q [] h = refl
first_same {A} p q (x ∷ xs) h = λ i. if h.0 i then Some (1, x) else option_map (λ (t : ℕ × A). (suc t.0, t.1)) (first_same p q xs h.1 i)

-- None passes.
pub first_none : {A : Type 0} (p : A → Bool) (xs : List A) → AllByRecursion (λ x. p x ≡ false) xs → first_that p xs ≡ None
first_none p [] h = refl
first_none {A} p (x ∷ xs) h = λ i. if h.0 i then Some (1, x) else option_map (λ (t : ℕ × A). (suc t.0, t.1)) (first_none p xs h.1 i)

-- ---- relations

-- What the query mentions is none of the relations, where it mentions none of them.
pub mentioned_is_none : (p : ℕ → Bool) (relations : List ℕ) (k : ℕ) → list_any p relations ≡ false → p k ≡ true → is_none_of relations k ≡ true
mentioned_is_none p [] k h e = refl
mentioned_is_none p (r ∷ rs) k h e =
    let parts = or_parts (p r) (list_any p rs) h in
    by (r == k) refl parts.0 (mentioned_is_none p rs k parts.1 e)
  where
    by : (b : Bool) → (r == k) ≡ b → p r ≡ false → not (list_any (λ n. n == k) rs) ≡ true → not (b || list_any (λ n. n == k) rs) ≡ true
    by true f g m = absurd (both_ways (p r) g (ap p (eqb-true r k f) ∙ e))
    by false f g m = m

module _ (p q : ℕ → Bool) (D E : List Fact) where
  -- Repositories that agree on more agree on less.
  pub agree_less : ((k : ℕ) → q k ≡ true → p k ≡ true) → AgreeOn p D E → AgreeOn q D E
  agree_less h a = record { sorted = a.sorted; also = a.also; same = λ t e. a.same t (h t.relation e) }

some_steps : 1 ≤ 1
some_steps = omega arith

-- Each agrees with itself.
pub agree_alone : (p : ℕ → Bool) (D : List Fact) → IsRepository D → AgreeOn p D D
agree_alone p D z = (chase_laws caused [] 1 some_steps).alike_same p D z

-- So they do after the same writes.
pub agree_after : (p : ℕ → Bool) (D E : List Fact) (ws : List Change) → AgreeOn p D E → AgreeOn p (apply D ws) (apply E ws)
agree_after p D E ws a = (chase_laws caused [] 1 some_steps).alike_apply p D E ws a

-- And after writes to one of them of relations that do not pass.
pub agree_but : (p : ℕ → Bool) (D E : List Fact) (ws : List Change) → AllByRecursion (λ w. p (relation_of w) ≡ false) ws → AgreeOn p D E → AgreeOn p (apply D ws) E
agree_but p D E ws h a = (chase_laws caused [] 1 some_steps).alike_skip p D E ws h a

-- ---- reads that were valid

module _ (ms : List Rule) (B : ℕ) (relations : List ℕ) (W D : List Fact) (a : AgreeOn (is_none_of relations) W D) (op : Operation) (own : List Change) where
  abbrev M : Machine
  M = caused_chase ms B

  -- A read that mentions none of the relations is valid still.
  unmet_valid : (r : Read M) → meets ms relations r.query ≡ false → is_valid M op W own r ≡ true → is_valid M op D own r ≡ true
  unmet_valid r u v =
      ap (λ x. same_reply r.answer x)
      (sym ((chase_laws caused ms 1 some_steps).alike_value op r.query W D (Rattle.std.specs.Prelude.take r.own own) (agree_less (is_none_of relations) (mentions ms r.query) W D (λ k e. mentioned_is_none (mentions ms r.query) relations k u e) a)))
      ∙ v

  -- So it makes no difference whether only those are evaluated that mention one.
  pub met_same : (log : List (Read M)) → list_all (is_valid M op W own) log ≡ true → AllByRecursion (λ r. (meets ms relations r.query && not (is_valid M op D own r)) ≡ not (is_valid M op D own r)) log
  met_same [] v = tt
  met_same (r ∷ log) v =
      let parts = and_parts (is_valid M op W own r) (list_all (is_valid M op W own) log) v in
      (by (meets ms relations r.query) refl parts.0, met_same log parts.1)
    where
      by : (b : Bool) → meets ms relations r.query ≡ b → is_valid M op W own r ≡ true → (b && not (is_valid M op D own r)) ≡ not (is_valid M op D own r)
      by true e v = refl
      by false e v = sym (ap not (unmet_valid r e v))

-- ---- conflicts

module _ (ms : List Rule) (B : ℕ) where
  abbrev N : Machine
  N = caused_chase ms B

  abbrev change_by : List Fact → Update N → ℕ × Read N → Changed N
  change_by D u t = record { read = t.0; old = t.1.answer; new = value_now N u.operation D (N.own u.state) t.1 }

  abbrev conflict_by : ℕ → ℕ → Changed N → Cause N
  conflict_by j n x = Conflict n x.read j x.old x.new

  abbrev conflicts_by : ℕ → ℕ → List Fact → Update N → Option (ℕ × Read N) → Option (Cause N)
  conflicts_by j n D u o = option_map (conflict_by j n) (option_map (change_by D u) o)

  met_conflict_is : (c j : ℕ) (relations : List ℕ) (W D : List Fact) (n : ℕ) (u : Update N) → AgreeOn (is_none_of relations) W D → all_valid N W u ≡ true → met_conflict ms B c j relations D n u ≡ conflict_of N c j D n u
  met_conflict_is c j relations W D n u a v =
      ap (λ o. if is_live N c n u then conflicts_by j n D u o else None)
      (first_same (λ r. meets ms relations r.query && not (is_valid N u.operation D (N.own u.state) r)) (λ r. not (is_valid N u.operation D (N.own u.state) r)) u.log (met_same ms B relations W D a u.operation (N.own u.state) u.log v))

  -- Those that are met are all.
  pub met_conflicts_are : (c j : ℕ) (relations : List ℕ) (W D : List Fact) (n : ℕ) (us : List (Update N)) → AgreeOn (is_none_of relations) W D → AreValidThat N (λ i u. true) n W us
      → met_conflicts ms B c j relations D n us ≡ conflicts N c j D n us
  met_conflicts_are c j relations W D n [] a v = refl
  met_conflicts_are c j relations W D n (u ∷ us) a v = λ i.
      option_to_list (met_conflict_is c j relations W D n u a (v.0 refl) i) ++ met_conflicts_are c j relations (N.apply W (trail N u)) (N.apply D (trail N u)) (suc n) us (agree_after (is_none_of relations) W D (trail N u) a) v.1 i

  -- What the writes of no relation conflict with is nothing.
  pub none_met : (c j : ℕ) (D : List Fact) (n : ℕ) (us : List (Update N)) → met_conflicts ms B c j [] D n us ≡ []
  none_met c j D n [] = refl
  none_met c j D n (u ∷ us) = λ i.
      option_to_list (none (is_live N c n u) (first_none (λ r. false && not (is_valid N u.operation D (N.own u.state) r)) u.log (all_false u.log)) i) ++ none_met c j (N.apply D (trail N u)) (suc n) us i
    where
      all_false : (log : List (Read N)) → AllByRecursion (λ (r : Read N). ◌≡◌ {A = Bool} false false) log
      all_false [] = tt
      all_false (r ∷ log) = (refl, all_false log)

      none : (b : Bool) {o : Option (ℕ × Read N)} → o ≡ None → (if b then conflicts_by j n D u o else None) ≡ None
      none true e = ap (conflicts_by j n D u) e
      none false e = refl

  -- ---- who is not in conflict

  open_parts : (live named : Bool) → (live && not named) ≡ true → (live ≡ true) × (named ≡ false)
  open_parts true true h = absurd (both_ways false refl h)
  open_parts true false h = (refl, refl)
  open_parts false named h = absurd (both_ways false refl h)

  conflict_reader : (c j : ℕ) (D : List Fact) (n : ℕ) (u : Update N) → is_live N c n u ≡ true → is_some (conflict_of N c j D n u) ≡ true → has_number (readers (option_to_list (conflict_of N c j D n u))) n ≡ true
  conflict_reader c j D n u l s = by (is_live N c n u) (changed_read N D u) l s
    where
      by : (b : Bool) (o : Option (Changed N)) → b ≡ true → is_some (if b then option_map (conflict_by j n) o else None) ≡ true
          → has_number (readers {M = N} (option_to_list (if b then option_map (conflict_by j n) o else None))) n ≡ true
      by true None e f = absurd (both_ways false refl f)
      by true (Some x) e f = ap (λ b. b || false) (eq-eqb n n refl)
      by false o e f = absurd (both_ways false refl f)

  and_left : (a b : Bool) → a ≡ true → (a && b) ≡ b
  and_left true b e = refl
  and_left false b e = absurd (both_ways false refl e)

  -- All reads of those that are live and not in conflict are valid.
  pub others_are_valid : (c j : ℕ) (firsts : List ℕ) (D : List Fact) (n : ℕ) (us : List (Update N)) → ((k : ℕ) → has_number firsts k ≡ false → has_number (readers (conflicts N c j D n us)) k ≡ false)
      → AreValidThat N (is_open N c firsts) n D us
  others_are_valid c j firsts D n [] h = tt
  others_are_valid c j firsts D n (u ∷ us) h =
      let parts : (k : ℕ) → has_number firsts k ≡ false → (has_number (readers (option_to_list (conflict_of N c j D n u))) k ≡ false) × (has_number (readers (conflicts N c j (N.apply D (trail N u)) (suc n) us)) k ≡ false) =
      λ k e. or_parts _ _ (sym (readers_join N (option_to_list (conflict_of N c j D n u)) (conflicts N c j (N.apply D (trail N u)) (suc n) us) k) ∙ h k e) in (
        λ o. let p = open_parts (is_live N c n u) (has_number firsts n) o in here p.0 (parts n p.1).0 (is_some (conflict_of N c j D n u)) refl,
        others_are_valid c j firsts (N.apply D (trail N u)) (suc n) us (λ k e. (parts k e).1),
      )
    where
      here : is_live N c n u ≡ true → has_number (readers (option_to_list (conflict_of N c j D n u))) n ≡ false → (b : Bool) → is_some (conflict_of N c j D n u) ≡ b → all_valid N D u ≡ true
      here l f true e = absurd (both_ways _ f (conflict_reader c j D n u l e))
      here l f false e = all_from (is_valid N u.operation D (N.own u.state)) u.log (sym (and_left (is_live N c n u) _ l) ∙ sym (conflict_some N c j D n u) ∙ e)

  -- ---- cascades

  join_any : (f : ℕ → Bool) (xs ys : List ℕ) → list_any f (xs ++ ys) ≡ (list_any f xs || list_any f ys)
  join_any f [] ys = refl
  join_any f (x ∷ xs) ys = ap (λ b. f x || b) (join_any f xs ys) ∙ assoc (f x) (list_any f xs) (list_any f ys)
    where
      assoc : (a b c : Bool) → (a || (b || c)) ≡ ((a || b) || c)
      assoc true b c = refl
      assoc false b c = refl

  any_relation : (f : ℕ → Bool) (ws : List Change) → list_any f (map relation_of ws) ≡ list_any (λ w. f (relation_of w)) ws
  any_relation f [] = refl
  any_relation f (w ∷ ws) = ap (λ b. f (relation_of w) || b) (any_relation f ws)

  -- A test of the relations of members, trail by trail.
  pub any_of_members : (f : ℕ → Bool) (members : List (Member N)) → list_any f (relations_in ms B members) ≡ list_any (λ m. list_any (λ w. f (relation_of w)) m.trail) members
  any_of_members f [] = refl
  any_of_members f (m ∷ members) = join_any f (map relation_of m.trail) (relations_in ms B members) ∙ (λ i. any_relation f m.trail i || any_of_members f members i)

  relations_more : (members : List (Member N)) (m : Member N) → relations_in ms B (members ++ m ∷ []) ≡ relations_in ms B members ++ map relation_of m.trail
  relations_more [] m = append_nil (map relation_of m.trail)
    where
      append_nil : (xs : List ℕ) → xs ++ [] ≡ xs
      append_nil [] = refl
      append_nil (x ∷ xs) = ap (λ ys. x ∷ ys) (append_nil xs)
  relations_more (k ∷ members) m = ap (λ xs. map relation_of k.trail ++ xs) (relations_more members m) ∙ append_join (map relation_of k.trail) (relations_in ms B members) (map relation_of m.trail)
    where
      append_join : (xs ys zs : List ℕ) → xs ++ (ys ++ zs) ≡ (xs ++ ys) ++ zs
      append_join [] ys zs = refl
      append_join (x ∷ xs) ys zs = ap (λ l. x ∷ l) (append_join xs ys zs)

  -- What is none of more relations is none of fewer.
  none_of_more : (xs ys : List ℕ) (k : ℕ) → is_none_of (xs ++ ys) k ≡ true → is_none_of xs k ≡ true
  none_of_more xs ys k h = by (list_any (λ n. n == k) xs) (list_any (λ n. n == k) ys) (ap not (sym (join_any (λ n. n == k) xs ys)) ∙ h)
    where
      by : (a b : Bool) → not (a || b) ≡ true → not a ≡ true
      by true b e = e
      by false b e = refl

  written_is_some : (xs : List ℕ) (ws : List Change) → AllByRecursion (λ w. is_none_of (xs ++ map relation_of ws) (relation_of w) ≡ false) ws
  written_is_some xs ws = within ws (λ k h. ap not (join_any (λ n. n == k) xs (map relation_of ws) ∙ or_right (list_any (λ n. n == k) xs) _ h))
    where
      or_right : (a b : Bool) → b ≡ true → (a || b) ≡ true
      or_right true b e = refl
      or_right false b e = e

      within : (vs : List Change) → ((k : ℕ) → list_any (λ n. n == k) (map relation_of vs) ≡ true → is_none_of (xs ++ map relation_of ws) k ≡ false) → AllByRecursion (λ w. is_none_of (xs ++ map relation_of ws) (relation_of w) ≡ false) vs
      within [] f = tt
      within (v ∷ vs) f = (
        f (relation_of v) (ap (λ b. b || list_any (λ n. n == relation_of v) (map relation_of vs)) (eq-eqb (relation_of v) (relation_of v) refl)),
        within vs (λ k h. f k (or_right (relation_of v == k) _ h)),
      )

  -- Repositories that agree but for the relations of some agree but for more, also where one has writes of those more.
  pub agree_with : (xs : List ℕ) (W D : List Fact) (ws : List Change) → AgreeOn (is_none_of xs) W D → AgreeOn (is_none_of (xs ++ map relation_of ws)) (apply W ws) D
  agree_with xs W D ws a = agree_but (is_none_of (xs ++ map relation_of ws)) W D ws (written_is_some xs ws) (agree_less (is_none_of xs) (is_none_of (xs ++ map relation_of ws)) W D (λ k h. none_of_more xs (map relation_of ws) k h) a)

  agree_next : (b : Bool) (W D : List Fact) (members : List (Member N)) (n : ℕ) (u : Update N) → AgreeOn (is_none_of (relations_in ms B members)) W D
      → AgreeOn (is_none_of (relations_in ms B (with_member N b members n u))) (apply W (trail N u)) (without_member N b D u)
  agree_next true W D members n u a =
      subst (λ xs. AgreeOn (is_none_of xs) (apply W (trail N u)) D) (sym (relations_more members (record { number = n; trail = trail N u }))) (agree_with (relations_in ms B members) W D (trail N u) a)
  agree_next false W D members n u a = agree_after (is_none_of (relations_in ms B members)) W D (trail N u) a

  abbrev depends_by : List (Member N) → ℕ → Option (ℕ × Read N) → Option (Cause N)
  depends_by members n o = option_map (λ t. Depends n t.0 (writer_for N t.1 members)) o

  -- The reads that are reached, by values and by relations.
  reached_same : (deps : Deps) (W D : List Fact) (members : List (Member N)) (u : Update N) → AgreeOn (is_none_of (relations_in ms B members)) W D → (log : List (Read N)) → list_all (is_valid N u.operation W (N.own u.state)) log ≡ true
      → AllByRecursion (λ r. (is_reached ms B members r && has_turned ms B deps u.operation D (N.own u.state) r) ≡ read_depends N deps u.operation D (N.own u.state) members r) log
  reached_same Precise W D members u a log v = by log (met_same ms B (relations_in ms B members) W D a u.operation (N.own u.state) log v)
    where
      by : (rs : List (Read N)) → AllByRecursion (λ r. (meets ms (relations_in ms B members) r.query && not (is_valid N u.operation D (N.own u.state) r)) ≡ not (is_valid N u.operation D (N.own u.state) r)) rs
          → AllByRecursion (λ r. (is_reached ms B members r && not (is_valid N u.operation D (N.own u.state) r)) ≡ not (is_valid N u.operation D (N.own u.state) r)) rs
      by [] h = tt
      by (r ∷ rs) h = (ap (λ b. b && not (is_valid N u.operation D (N.own u.state) r)) (sym (any_of_members (mentions ms r.query) members)) ∙ h.0, by rs h.1)
  reached_same Coarse W D members u a [] v = tt
  reached_same Coarse W D members u a (r ∷ log) v = (and_true (is_reached ms B members r), reached_same Coarse W D members u a log (and_parts (is_valid N u.operation W (N.own u.state) r) _ v).1)
    where
      and_true : (b : Bool) → (b && true) ≡ b
      and_true true = refl
      and_true false = refl

  -- Without members none is reached.
  unreached : (deps : Deps) (D : List Fact) (u : Update N) (log : List (Read N)) → AllByRecursion (λ r. (is_reached ms B [] r && has_turned ms B deps u.operation D (N.own u.state) r) ≡ false) log
  unreached deps D u [] = tt
  unreached deps D u (r ∷ log) = (refl, unreached deps D u log)

  met_dependence_is : (deps : Deps) (c : ℕ) (W D : List Fact) (members : List (Member N)) (n : ℕ) (u : Update N) → AgreeOn (is_none_of (relations_in ms B members)) W D → (is_live N c n u ≡ true → all_valid N W u ≡ true)
      → met_dependence ms B deps c D members n u ≡ dependence_of N deps c D members n u
  met_dependence_is deps c W D [] n u a v =
      none (is_live N c n u) _ (first_none (λ r. is_reached ms B [] r && has_turned ms B deps u.operation D (N.own u.state) r) u.log (unreached deps D u u.log))
    where
      none : (b : Bool) {o : Option (ℕ × Read N)} (X : Option (Cause N)) → o ≡ None → (if b then depends_by [] n o else None) ≡ (if b && false then X else None)
      none true X e = ap (depends_by [] n) e
      none false X e = refl
  met_dependence_is deps c W D (m ∷ members) n u a v = by (is_live N c n u) (λ l. first_same _ _ u.log (reached_same deps W D (m ∷ members) u a u.log (v l)))
    where
      by : (b : Bool) {o p : Option (ℕ × Read N)} → (b ≡ true → o ≡ p) → (if b then depends_by (m ∷ members) n o else None) ≡ (if b && true then depends_by (m ∷ members) n p else None)
      by true f = ap (depends_by (m ∷ members) n) (f refl)
      by false f = refl

  abbrev joined : Deps → ℕ → List ℕ → List Fact → List (Member N) → ℕ → Update N → Option (Cause N)
  joined deps c firsts D members n u = if has_number firsts n then None else dependence_of N deps c D members n u

  met_join_is : (deps : Deps) (c : ℕ) (firsts : List ℕ) (W D : List Fact) (members : List (Member N)) (n : ℕ) (u : Update N) → AgreeOn (is_none_of (relations_in ms B members)) W D → (is_open N c firsts n u ≡ true → all_valid N W u ≡ true)
      → met_join ms B deps c firsts D members n u ≡ joined deps c firsts D members n u
  met_join_is deps c firsts W D members n u a v = by (has_number firsts n) (λ e. met_dependence_is deps c W D members n u a (λ l. v (λ i. l i && not (e i))))
    where
      by : (b : Bool) {x y : Option (Cause N)} → (b ≡ false → x ≡ y) → (if b then None else x) ≡ (if b then None else y)
      by true f = refl
      by false f = f refl

  -- Those that are met are all.
  pub met_cascade_is : (deps : Deps) (c : ℕ) (firsts : List ℕ) (W D : List Fact) (members : List (Member N)) (n : ℕ) (us : List (Update N)) → AgreeOn (is_none_of (relations_in ms B members)) W D → AreValidThat N (is_open N c firsts) n W us
      → met_cascade ms B deps c firsts D members n us ≡ cascade N deps c firsts D members n us
  met_cascade_is deps c firsts W D members n [] a v = refl
  met_cascade_is deps c firsts W D members n (u ∷ us) a v =
      let x : Option (Cause N) = met_join ms B deps c firsts D members n u in
      let b : Bool = has_number firsts n || is_some x in
      ap (λ cs. option_to_list x ++ cs) (met_cascade_is deps c firsts (apply W (trail N u)) (without_member N b D u) (with_member N b members n u) (suc n) us (agree_next b W D members n u a) v.1)
      ∙ ap (λ (y : Option (Cause N)). option_to_list y ++ cascade N deps c firsts (without_member N (has_number firsts n || is_some y) D u) (with_member N (has_number firsts n || is_some y) members n u) (suc n) us)
      (met_join_is deps c firsts W D members n u a v.0)

  -- Where nothing goes nothing depends.
  pub none_depends : (deps : Deps) (c : ℕ) (D : List Fact) (n : ℕ) (us : List (Update N)) → cascade N deps c [] D [] n us ≡ []
  none_depends deps c D n [] = refl
  none_depends deps c D n (u ∷ us) =
      let none : dependence_of N deps c D [] n u ≡ None = by (is_live N c n u) _ in
      ap (λ (y : Option (Cause N)). option_to_list y ++ cascade N deps c [] (without_member N (is_some y) D u) (with_member N (is_some y) [] n u) (suc n) us) none
      ∙ none_depends deps c (apply D (trail N u)) (suc n) us
    where
      by : (b : Bool) (X : Option (Cause N)) → (if b && false then X else None) ≡ None
      by true X = refl
      by false X = refl

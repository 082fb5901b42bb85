-- One turn of a walk upwards.
use Rattle.std.proofs.Common.{◌≡◌, ◌∙◌, ap, refl, sym, subst, ℕ, zero, suc, ◌+◌, ◌<◌, ◌≤◌, ◌||◌, Bool, List, [], ◌∷◌, ◌++◌, Option, Some, None, append_assoc, append-nil, length, drop, take, get_or, map}
use Rattle.std.specs.Prelude.{is_some, option_to_list}
use Rattle.std.specs.Option.{option_map}
use Rattle.std.proofs.lemmas.List.{map-append, drop_all}
use Rattle.base_types.specs.Meanings.{change_of}
use Rattle.base_types.specs.declared.updates.Write.{Write}
use Rattle.core_entries.specs.declared.causes.Cause.{Cause as CauseOfProgram}
use Rattle.def_machine.specs.Cascade.{Cause, has_number, with_member, without_member}
use Rattle.def_machine.specs.Updates.{Deps, trail}
use Rattle.def_chase.specs.Mappings.{Rule}
use Rattle.def_chase.specs.Repository.{apply}
use Rattle.def_chase.specs.Values.{Fact}
use Rattle.def_steps.specs.Chase.{caused_chase}
use Rattle.audit_updates.specs.Updates.{AreFrom, update_of, updates_of}
use Rattle.audit_updates.specs.Standings.{HasTrail}
use Rattle.audit_updates.specs.declared.updates.AuditedUpdate.{AuditedUpdate}
use Rattle.audit_replay.specs.Causes.{AreTold, AreUnmet, IsJoinOf, IsMetConflict, LeavesBelow, cause_meant, causes_meant, members_of}
use Rattle.audit_replay.specs.Levels.{raised, top}
use Rattle.audit_replay.specs.Met.{met_cascade, met_conflict, met_conflicts, met_join}
use Rattle.audit_replay.specs.Places.{AreBetween}
use Rattle.audit_replay.specs.declared.losses.Losses.{Losses}
use Rattle.audit_replay.proofs.Found.{unmet_has_none}
use Rattle.audit_replay.proofs.Leftover.{next_left}

-- ---- audited updates that are left

pub first_between : (rs : List AuditedUpdate) (i : ℕ) (r : AuditedUpdate) → i < length rs → r ≡ get_or rs i r → AreBetween (drop i rs) → AreBetween (r ∷ drop (i + 1) rs)
first_between rs i r l e b = subst AreBetween (next_left rs i r l e) b

-- The causes with one more, if there is one.
meant_more : (ms : List Rule) (B : ℕ) (xs : List CauseOfProgram) (o : Option CauseOfProgram) → causes_meant ms B (xs ++ option_to_list o) ≡ causes_meant ms B xs ++ option_to_list (option_map (cause_meant ms B) o)
meant_more ms B xs None = map-append (cause_meant ms B) xs []
meant_more ms B xs (Some x) = map-append (cause_meant ms B) xs (x ∷ [])

-- ---- conflicts

-- What is found so far and what is met of the audited updates that are left are all.
pub record ConflictsLeft (ms : List Rule) (c j : ℕ) (relations : List ℕ) (B : ℕ) (all : List (Cause (caused_chase ms B))) (D : List Fact) (rs : List AuditedUpdate) (causes : List CauseOfProgram) : Type 0 where
  pub number : ℕ
  pub from : AreFrom number rs
  pub rest : causes_meant ms B causes ++ met_conflicts ms B c j relations D number (updates_of ms B rs) ≡ all

pub conflicts_begin : (ms : List Rule) (c j : ℕ) (relations : List ℕ) (B n : ℕ) (D : List Fact) (rs : List AuditedUpdate) (causes : List CauseOfProgram) → causes ≡ [] → AreFrom n rs → ConflictsLeft ms c j relations B (met_conflicts ms B c j relations D n (updates_of ms B rs)) D rs causes
conflicts_begin ms c j relations B n D rs causes e from = record { number = n; from = from; rest = ap (λ (xs : List CauseOfProgram). causes_meant ms B xs ++ met_conflicts ms B c j relations D n (updates_of ms B rs)) e }

conflicts_on : (ms : List Rule) (c j : ℕ) (relations : List ℕ) (B : ℕ) (all : List (Cause (caused_chase ms B))) (D D' : List Fact) (r : AuditedUpdate) (rs : List AuditedUpdate) (causes causes' : List CauseOfProgram) (found : Option CauseOfProgram) (ws : List Write)
    → IsMetConflict ms c j relations D r found → causes' ≡ causes ++ option_to_list found → HasTrail r ws → D' ≡ apply D (map change_of ws) → ConflictsLeft ms c j relations B all D (r ∷ rs) causes → ConflictsLeft ms c j relations B all D' rs causes'
conflicts_on ms c j relations B all D D' r rs causes causes' found ws is e trail_is d left =
    let n = left.number in
    let us = updates_of ms B rs in
    let E : List Fact = apply D (map change_of ws) in
    record {
      number = suc n;
      from = left.from.1;
      rest =
          (λ i. causes_meant ms B (e i) ++ met_conflicts ms B c j relations (d i) (suc n) us)
          ∙ ap (λ xs. xs ++ met_conflicts ms B c j relations E (suc n) us) (meant_more ms B causes found)
          ∙ append_assoc (causes_meant ms B causes) (option_to_list (option_map (cause_meant ms B) found)) (met_conflicts ms B c j relations E (suc n) us)
          ∙ (λ i. causes_meant ms B causes ++ (option_to_list (is B n left.from.0 i) ++ met_conflicts ms B c j relations (apply D (trail_is ms B i)) (suc n) us))
          ∙ left.rest;
    }

-- Once the next audited update has its say.
pub conflicts_next : (ms : List Rule) (c j : ℕ) (relations : List ℕ) (B : ℕ) (all : List (Cause (caused_chase ms B))) (levels levels' : List (List Fact)) (i : ℕ) (rs : List AuditedUpdate) (r : AuditedUpdate) (causes causes' : List CauseOfProgram) (found : Option CauseOfProgram) (ws : List Write)
    → i < length rs → r ≡ get_or rs i r → IsMetConflict ms c j relations (top levels) r found → causes' ≡ causes ++ option_to_list found → HasTrail r ws → levels' ≡ raised levels (map change_of ws)
    → ConflictsLeft ms c j relations B all (top levels) (drop i rs) causes → ConflictsLeft ms c j relations B all (top levels') (drop (i + 1) rs) causes'
conflicts_next ms c j relations B all levels levels' i rs r causes causes' found ws l e is g trail_is f left =
    conflicts_on ms c j relations B all (top levels) (top levels') r (drop (i + 1) rs) causes causes' found ws is g trail_is (ap top f)
    (subst (λ (qs : List AuditedUpdate). ConflictsLeft ms c j relations B all (top levels) qs causes) (next_left rs i r l e) left)

-- None is left.
pub conflicts_end : (ms : List Rule) (c j : ℕ) (relations : List ℕ) (B : ℕ) (all : List (Cause (caused_chase ms B))) (D : List Fact) (i : ℕ) (rs : List AuditedUpdate) (causes : List CauseOfProgram) → length rs ≤ i
    → ConflictsLeft ms c j relations B all D (drop i rs) causes → causes_meant ms B causes ≡ all
conflicts_end ms c j relations B all D i rs causes l left =
    sym (append-nil (causes_meant ms B causes))
    ∙ ap (λ (qs : List AuditedUpdate). causes_meant ms B causes ++ met_conflicts ms B c j relations D left.number (updates_of ms B qs)) (sym (drop_all i rs l)) ∙ left.rest

-- ---- those that nothing meets

pub from_taken : (n k : ℕ) (rs : List AuditedUpdate) → AreFrom n rs → AreFrom n (take k rs)
from_taken n zero rs a = tt
from_taken n (suc k) [] a = tt
from_taken n (suc k) (r ∷ rs) a = (a.0, from_taken (suc n) k rs a.1)

pub between_taken : (k : ℕ) (rs : List AuditedUpdate) → AreBetween rs → AreBetween (take k rs)
between_taken zero rs a = tt
between_taken (suc k) [] a = tt
between_taken (suc k) (r ∷ rs) a = (a.0, between_taken k rs a.1)

none_met : (ms : List Rule) (c j : ℕ) (relations : List ℕ) (B n : ℕ) (D : List Fact) (rs : List AuditedUpdate) → AreFrom n rs → AreUnmet ms c relations rs → [] ≡ met_conflicts ms B c j relations D n (updates_of ms B rs)
none_met ms c j relations B n D [] a u = refl
none_met ms c j relations B n D (r ∷ rs) a u = λ i.
    option_to_list (sym (unmet_has_none ms B c j relations D n r a.0 u.0) i) ++ none_met ms c j relations B (suc n) (apply D (trail (caused_chase ms B) (update_of ms B r))) rs a.1 u.1 i

-- The conflicts of the first ones are all.
pub reached_all : (ms : List Rule) (c j : ℕ) (relations : List ℕ) (B n k : ℕ) (D : List Fact) (rs : List AuditedUpdate) → AreFrom n rs → AreUnmet ms c relations (drop k rs) → met_conflicts ms B c j relations D n (updates_of ms B (take k rs)) ≡ met_conflicts ms B c j relations D n (updates_of ms B rs)
reached_all ms c j relations B n zero D rs a u = none_met ms c j relations B n D rs a u
reached_all ms c j relations B n (suc k) D [] a u = refl
reached_all ms c j relations B n (suc k) D (r ∷ rs) a u =
    ap (λ xs. option_to_list (met_conflict ms B c j relations D n (update_of ms B r)) ++ xs) (reached_all ms c j relations B (suc n) k (apply D (trail (caused_chase ms B) (update_of ms B r))) rs a.1 u)

-- ---- dependences

-- What is found so far and what the cascade finds of the audited updates that are left are all.
pub record DependencesLeft (ms : List Rule) (deps : Deps) (c : ℕ) (firsts : List ℕ) (B : ℕ) (all : List (Cause (caused_chase ms B))) (D : List Fact) (l : Losses) (rs : List AuditedUpdate) (causes : List CauseOfProgram) : Type 0 where
  pub number : ℕ
  pub from : AreFrom number rs
  pub rest : causes_meant ms B causes ++ met_cascade ms B deps c firsts D (members_of ms B l.members.items) number (updates_of ms B rs) ≡ all

pub dependences_begin : (ms : List Rule) (deps : Deps) (c : ℕ) (firsts : List ℕ) (B n : ℕ) (D : List Fact) (l : Losses) (rs : List AuditedUpdate) (causes : List CauseOfProgram) → causes ≡ [] → AreFrom n rs
    → DependencesLeft ms deps c firsts B (met_cascade ms B deps c firsts D (members_of ms B l.members.items) n (updates_of ms B rs)) D l rs causes
dependences_begin ms deps c firsts B n D l rs causes e from = record { number = n; from = from; rest = ap (λ (xs : List CauseOfProgram). causes_meant ms B xs ++ met_cascade ms B deps c firsts D (members_of ms B l.members.items) n (updates_of ms B rs)) e }

mapped_some : {A B : Type 0} (f : A → B) (o : Option A) → is_some o ≡ is_some (option_map f o)
mapped_some f None = refl
mapped_some f (Some x) = refl

dependences_on : (ms : List Rule) (deps : Deps) (c : ℕ) (firsts : List ℕ) (B : ℕ) (all : List (Cause (caused_chase ms B))) (levels levels' : List (List Fact)) (l l' : Losses) (r : AuditedUpdate) (rs : List AuditedUpdate) (causes causes' : List CauseOfProgram) (found : Option CauseOfProgram) (b : Bool) → AreTold l
    → IsJoinOf ms deps c firsts (top levels) l r found → causes' ≡ causes ++ option_to_list found → b ≡ (has_number firsts r.program.attempt.number || is_some found) → LeavesBelow b r levels levels' l l'
    → DependencesLeft ms deps c firsts B all (top levels) l (r ∷ rs) causes → DependencesLeft ms deps c firsts B all (top levels') l' rs causes'
dependences_on ms deps c firsts B all levels levels' l l' r rs causes causes' found b told is e goes leaves left =
    let n = left.number in
    let u = update_of ms B r in
    let us = updates_of ms B rs in
    let D : List Fact = top levels in
    let ks = members_of ms B l.members.items in
    let M = caused_chase ms B in
    let x : Option (Cause (caused_chase ms B)) = met_join ms B deps c firsts D ks n u in
    let join : option_map (cause_meant ms B) found ≡ x = is B n told left.from.0 in
    let t : b ≡ (has_number firsts n || is_some x) = goes ∙ (λ i. has_number firsts (left.from.0.number i) || (mapped_some (cause_meant ms B) found ∙ ap is_some join) i) in
    record {
      number = suc n;
      from = left.from.1;
      rest =
          (λ i. causes_meant ms B (e i) ++ met_cascade ms B deps c firsts (leaves.below ms B i) (leaves.members ms B i) (suc n) us)
          ∙ ap (λ xs. xs ++ met_cascade ms B deps c firsts (without_member M b D u) (with_member M b ks r.program.attempt.number u) (suc n) us) (meant_more ms B causes found)
          ∙ append_assoc (causes_meant ms B causes) (option_to_list (option_map (cause_meant ms B) found)) (met_cascade ms B deps c firsts (without_member M b D u) (with_member M b ks r.program.attempt.number u) (suc n) us)
          ∙ (λ i. causes_meant ms B causes ++ (option_to_list (join i) ++ met_cascade ms B deps c firsts (without_member M (t i) D u) (with_member M (t i) ks (left.from.0.number i) u) (suc n) us))
          ∙ left.rest;
    }

pub dependences_next : (ms : List Rule) (deps : Deps) (c : ℕ) (firsts : List ℕ) (B : ℕ) (all : List (Cause (caused_chase ms B))) (levels levels' : List (List Fact)) (l l' : Losses) (i : ℕ) (rs : List AuditedUpdate) (r : AuditedUpdate) (causes causes' : List CauseOfProgram) (found : Option CauseOfProgram) (b : Bool)
    → i < length rs → r ≡ get_or rs i r → AreTold l → IsJoinOf ms deps c firsts (top levels) l r found → causes' ≡ causes ++ option_to_list found → b ≡ (has_number firsts r.program.attempt.number || is_some found) → LeavesBelow b r levels levels' l l'
    → DependencesLeft ms deps c firsts B all (top levels) l (drop i rs) causes → DependencesLeft ms deps c firsts B all (top levels') l' (drop (i + 1) rs) causes'
dependences_next ms deps c firsts B all levels levels' l l' i rs r causes causes' found b lt e told is g goes leaves left =
    dependences_on ms deps c firsts B all levels levels' l l' r (drop (i + 1) rs) causes causes' found b told is g goes leaves
    (subst (λ (qs : List AuditedUpdate). DependencesLeft ms deps c firsts B all (top levels) l qs causes) (next_left rs i r lt e) left)

pub dependences_end : (ms : List Rule) (deps : Deps) (c : ℕ) (firsts : List ℕ) (B : ℕ) (all : List (Cause (caused_chase ms B))) (D : List Fact) (l : Losses) (i : ℕ) (rs : List AuditedUpdate) (causes : List CauseOfProgram) → length rs ≤ i
    → DependencesLeft ms deps c firsts B all D l (drop i rs) causes → causes_meant ms B causes ≡ all
dependences_end ms deps c firsts B all D l i rs causes lt left =
    sym (append-nil (causes_meant ms B causes))
    ∙ ap (λ (qs : List AuditedUpdate). causes_meant ms B causes ++ met_cascade ms B deps c firsts D (members_of ms B l.members.items) left.number (updates_of ms B qs)) (sym (drop_all i rs lt)) ∙ left.rest

-- Whether the update goes.
pub goes_is : (firsts : List ℕ) (r : AuditedUpdate) (found : Option CauseOfProgram) (named some goes : Bool) (n : ℕ) → n ≡ r.program.attempt.number → named ≡ has_number firsts n → some ≡ is_some found → goes ≡ (named || some)
    → goes ≡ (has_number firsts r.program.attempt.number || is_some found)
goes_is firsts r found named some goes n number f g h = h ∙ (λ i. (f ∙ ap (has_number firsts) number) i || g i)

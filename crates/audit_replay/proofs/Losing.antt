-- What is lost by one more member, and what a step knows of settled mappings.
use Rattle.std.proofs.Common.{◌≡◌, ◌∙◌, ap, refl, sym, ℕ, Bool, true, false, ◌||◌, List, [], ◌∷◌, ◌++◌, map}
use Rattle.std.specs.List.{list_any}
use Rattle.std.proofs.lemmas.List.{map-append}
use Rattle.base_types.specs.Meanings.{change_of}
use Rattle.base_types.specs.declared.updates.Write.{Write}
use Rattle.def_machine.specs.Cascade.{with_member, without_member}
use Rattle.def_chase.specs.Repository.{apply}
use Rattle.def_chase.specs.Values.{Fact}
use Rattle.def_steps.specs.Chase.{caused_chase, relation_of}
use Rattle.audit_updates.specs.Updates.{update_of}
use Rattle.audit_updates.specs.Standings.{HasTrail}
use Rattle.audit_updates.specs.declared.updates.AuditedUpdate.{AuditedUpdate}
use Rattle.audit_replay.specs.Causes.{LeavesBelow, Loses, member_of, members_of, writes_of}
use Rattle.audit_replay.specs.Levels.{raised, top}
use Rattle.audit_replay.specs.Relations.{HasMore}
use Rattle.audit_replay.specs.declared.losses.Losses.{Losses}
use Rattle.audit_replay.specs.declared.losses.Member.{Member}

one_more : (p : ℕ → Bool) (ks : List Member) (m : Member) → list_any (λ k. list_any (λ w. p (relation_of w)) (writes_of k)) (ks ++ m ∷ []) ≡ (list_any (λ k. list_any (λ w. p (relation_of w)) (writes_of k)) ks || list_any (λ w. p (relation_of w)) (writes_of m))
one_more p [] m = or_none (list_any (λ w. p (relation_of w)) (writes_of m))
  where
    or_none : (b : Bool) → (b || false) ≡ b
    or_none true = refl
    or_none false = refl
one_more p (k ∷ ks) m = ap (λ b. list_any (λ w. p (relation_of w)) (writes_of k) || b) (one_more p ks m) ∙ or_join (list_any (λ w. p (relation_of w)) (writes_of k)) (list_any (λ n. list_any (λ w. p (relation_of w)) (writes_of n)) ks) (list_any (λ w. p (relation_of w)) (writes_of m))
  where
    or_join : (a b c : Bool) → (a || (b || c)) ≡ ((a || b) || c)
    or_join true b c = refl
    or_join false b c = refl

-- One more member, and the relations of its writes.
pub lost_one : (l l' : Losses) (m : Member) → l'.members.items ≡ l.members.items ++ m ∷ [] → HasMore l.relations.items (writes_of m) l'.relations.items → Loses m.number (writes_of m) l l'
lost_one l l' m grew more = record {
  joined = λ ms B. ap (members_of ms B) grew ∙ map-append (member_of ms B) l.members.items (m ∷ []);
  told =
      λ told p. more p ∙ ap (λ b. b || list_any (λ w. p (relation_of w)) (writes_of m)) (told p) ∙ sym (one_more p l.members.items m)
      ∙ sym (ap (λ (ks : List Member). list_any (λ k. list_any (λ w. p (relation_of w)) (writes_of k)) ks) grew);
}

-- An update that goes is lost.
pub left_lost : (goes : Bool) (r : AuditedUpdate) (ws : List Write) (n : ℕ) (levels : List (List Fact)) (l l' : Losses) → goes ≡ true → n ≡ r.program.attempt.number → HasTrail r ws → Loses n (map change_of ws) l l' → LeavesBelow goes r levels levels l l'
left_lost goes r ws n levels l l' e number trail_is loses = record {
  below = λ ms B. sym (ap (λ b. without_member (caused_chase ms B) b (top levels) (update_of ms B r)) e);
  members =
      λ ms B. loses.joined ms B ∙ (λ i. members_of ms B l.members.items ++ record { number = number i; trail = trail_is ms B i } ∷ [])
      ∙ sym (ap (λ b. with_member (caused_chase ms B) b (members_of ms B l.members.items) r.program.attempt.number (update_of ms B r)) e);
  told = loses.told;
}

-- The trail of another one lies above the others.
pub left_kept : (goes : Bool) (r : AuditedUpdate) (ws : List Write) (levels levels' : List (List Fact)) (l : Losses) → goes ≡ false → HasTrail r ws → levels' ≡ raised levels (map change_of ws) → LeavesBelow goes r levels levels' l l
left_kept goes r ws levels levels' l e trail_is rose = record {
  below = λ ms B. ap top rose ∙ (λ i. apply (top levels) (trail_is ms B i)) ∙ sym (ap (λ b. without_member (caused_chase ms B) b (top levels) (update_of ms B r)) e);
  members = λ ms B. sym (ap (λ b. with_member (caused_chase ms B) b (members_of ms B l.members.items) r.program.attempt.number (update_of ms B r)) e);
  told = λ t. t;
}

-- Where only deletions were made and no mapping was violated before, every violation is caused backward.
use Rattle.std.proofs.Common.{◌≡◌, ap, refl, sym, ◌∙◌, List, [], ◌∷◌, Bool, true, false, not, ◌||◌, ◌&&◌, Some, inl, inr}
use Rattle.std.specs.List.{list_any, list_all}
use Rattle.std.specs.Prelude.{is_some}
use Rattle.std.proofs.lemmas.Bool.{false≢true, and_parts, both_ways, cases_Bool}
use Rattle.def_chase.specs.Values.{Fact, same_fact}
use Rattle.def_chase.specs.Repository.{Change, Insert, Delete, has, apply, inserted_after}
use Rattle.def_chase.specs.Mappings.{Rule, Pattern, Binding, fact_under, image_under, all_in, Holds}
use Rattle.def_chase.specs.Matching.{Known, nothing_known, learn_all, learn_atom, extends}
use Rattle.def_chase.specs.Violations.{Every, Caused, Backward, deletes_match, in_scope, violated_at}
use Rattle.def_chase.specs.Caused.{is_delete}
use Rattle.def_chase.proofs.Bools.{both, not_both, or_left, or_right}
use Rattle.def_chase.proofs.Sets.{has-apply, same_exact}
use Rattle.def_chase.proofs.Learning.{Agrees, all_means, atom_means}
use Rattle.def_chase.proofs.Matches.{extends_decides, learned_from}
use Rattle.def_chase.proofs.Violations.{violation_of}

kept : (b : Bool) (own : List Change) (t : Fact) → list_all is_delete own ≡ true → inserted_after b own t ≡ true → b ≡ true
kept b [] t d e = e
kept b (Insert s ∷ ws) t d e = absurd (false≢true d)
kept b (Delete s ∷ ws) t d e = (and_parts b (not (same_fact t s)) (kept (b && not (same_fact t s)) ws t d e)).0

pub present_before : (D : List Fact) (own : List Change) (ts : List Fact) → list_all is_delete own ≡ true → all_in (apply D own) ts ≡ true → all_in D ts ≡ true
present_before D own [] d e = refl
present_before D own (t ∷ ts) d e =
    let parts = and_parts (has (apply D own) t) (all_in (apply D own) ts) e in
    both (has D t) (all_in D ts) (kept (has D t) own t d (sym (has-apply D own t) ∙ parts.0)) (present_before D own ts d parts.1)

-- A right atom whose tuple is gone is equal to a tuple that a write deletes.
gone : (k : Known) (a : Pattern) (t : Fact) (own : List Change) (b : Bool) → is_some (learn_atom a t k) ≡ true → b ≡ true → inserted_after b own t ≡ false → list_any (deletes_match k a) own ≡ true
gone k a t [] b s e f = absurd (both_ways b f e)
gone k a t (Insert u ∷ ws) b s e f = gone k a t ws (same_fact t u || b) s (or_right (same_fact t u) b e) f
gone k a t (Delete u ∷ ws) b s e f =
    elim (cases_Bool (same_fact t u)) [
      | inl q ↦ or_left (is_some (learn_atom a u k)) (list_any (deletes_match k a) ws) (ap (λ (v : Fact). is_some (learn_atom a v k)) (sym (same_exact t u q)) ∙ s)
      | inr q ↦ or_right (is_some (learn_atom a u k)) (list_any (deletes_match k a) ws)
          (gone k a t ws (b && not (same_fact t u)) s (ap (λ c. c && not (same_fact t u)) e ∙ ap not q) f)
    ]

some_gone : (k : Known) (b : Binding) → Agrees k b → (D : List Fact) (own : List Change) (as' : List Pattern) → all_in D (image_under b as') ≡ true → all_in (apply D own) (image_under b as') ≡ false
    → list_any (λ a. list_any (deletes_match k a) own) as' ≡ true
some_gone k b g D own [] p q = absurd (false≢true (sym q))
some_gone k b g D own (a ∷ as') p q =
    let parts = and_parts (has D (fact_under b a)) (all_in D (image_under b as')) p in
    elim (cases_Bool (has (apply D own) (fact_under b a))) [
      | inl h ↦ or_right (list_any (deletes_match k a) own) _ (some_gone k b g D own as' parts.1 (sym (ap (λ c. c && all_in (apply D own) (image_under b as')) h) ∙ q))
      | inr h ↦ or_left (list_any (deletes_match k a) own) _
          (gone k a (fact_under b a) own (has D (fact_under b a)) (learned_from (learn_atom a (fact_under b a) k) _ b (atom_means a (fact_under b a) k) (g, refl)) parts.0 (sym (has-apply D own (fact_under b a)) ∙ h))
    ]

pub caused_backward : (m : Rule) (D : List Fact) (own : List Change) (image : List Fact) (k : Known) → list_all is_delete own ≡ true
    → Holds m D → learn_all m.left image nothing_known ≡ Some k → all_in (apply D own) image ≡ true → extends k m.right (apply D own) ≡ false
    → in_scope (Caused Backward) own m image k ≡ true
caused_backward m D own image k d holds e present unmet =
    let before = present_before D own image d present in
    let more : extends k m.right D ≡ true = by (extends k m.right D) refl before in
    let x = (extends_decides k m.right D).0 more in
    some_gone k x.binding x.agrees D own m.right x.present
    (not_both (all_in (apply D own) (image_under x.binding m.right)) (λ h. both_ways (extends k m.right (apply D own)) unmet ((extends_decides k m.right (apply D own)).1 (record { binding = x.binding; agrees = x.agrees; present = h }))))
  where
    by : (r : Bool) → extends k m.right D ≡ r → all_in D image ≡ true → r ≡ true
    by true f a = refl
    by false f a = absurd (holds image (violation_of m [] D image a (learn_all m.left image nothing_known) (all_means m.left image nothing_known)
        (ap (violated_at Every [] m D image) e ∙ ap (λ b. not b && true) f)))

-- Where a substitution carries what was there into what is there, and no mapping was violated before, every violation is caused forward.
use Rattle.std.proofs.Common.{◌≡◌, ap, refl, sym, ◌∙◌, subst, List, [], ◌∷◌, map, Bool, true, false, not, ◌&&◌, Some}
use Rattle.std.specs.List.{list_any}
use Rattle.std.proofs.lemmas.Bool.{and_parts, both_ways}
use Rattle.def_chase.specs.Values.{Datum, Fact, under}
use Rattle.def_chase.specs.Repository.{Change, has, apply, inserted_after}
use Rattle.def_chase.specs.Mappings.{Rule, Binding, image_under, all_in, Holds}
use Rattle.def_chase.specs.Matching.{Known, nothing_known, learn_all, extends}
use Rattle.def_chase.specs.Violations.{Caused, Forward, in_scope}
use Rattle.def_chase.specs.Caused.{Carried}
use Rattle.def_chase.proofs.Bools.{both, first_off, none_some}
use Rattle.def_chase.proofs.Sets.{has-apply}
use Rattle.def_chase.proofs.Learning.{Agrees, Means, all_means}
use Rattle.def_chase.proofs.Matches.{extends_decides}
use Rattle.def_chase.proofs.Violations.{violation_of}
use Rattle.def_chase.proofs.Atoms.{Leaves, image_moved}

all_carried : (D E : List Fact) (f : Datum → Datum) → ((t : Fact) → has D t ≡ true → has E (under f t) ≡ true) → (ts : List Fact) → all_in D ts ≡ true → all_in E (map (under f) ts) ≡ true
all_carried D E f c [] e = refl
all_carried D E f c (t ∷ ts) e = let p = and_parts (has D t) (all_in D ts) e in both _ _ (c t p.0) (all_carried D E f c ts p.1)

all_left : (D : List Fact) (own : List Change) (c : Carried D own) (ts : List Fact) → all_in (apply D own) ts ≡ true → list_any (inserted_after false own) ts ≡ false → map (under c.by) ts ≡ ts
all_left D own c [] e n = refl
all_left D own c (t ∷ ts) e n =
    let p = and_parts (has (apply D own) t) (all_in (apply D own) ts) e in
    let q = first_off (inserted_after false own t) (list_any (inserted_after false own) ts) n in
    λ i. c.leaves t p.0 q.0 i ∷ all_left D own c ts p.1 q.1 i

there_before : (D : List Fact) (own : List Change) (ts : List Fact) → all_in (apply D own) ts ≡ true → list_any (inserted_after false own) ts ≡ false → all_in D ts ≡ true
there_before D own [] e n = refl
there_before D own (t ∷ ts) e n =
    let p = and_parts (has (apply D own) t) (all_in (apply D own) ts) e in
    let q = first_off (inserted_after false own t) (list_any (inserted_after false own) ts) n in
    both _ _ (by (has D t) (sym (has-apply D own t) ∙ p.0) q.0) (there_before D own ts p.1 q.1)
  where
    by : (r : Bool) → inserted_after r own t ≡ true → inserted_after false own t ≡ false → r ≡ true
    by true h k = refl
    by false h k = absurd (both_ways (inserted_after false own t) k h)

pub caused_forward : (m : Rule) (D : List Fact) (own : List Change) (image : List Fact) (k : Known) (c : Carried D own) → Leaves c.by m.left → Leaves c.by m.right
    → Holds m D → learn_all m.left image nothing_known ≡ Some k → all_in (apply D own) image ≡ true → extends k m.right (apply D own) ≡ false
    → in_scope (Caused Forward) own m image k ≡ true
caused_forward m D own image k c on_left on_right holds e present unmet = by (list_any (inserted_after false own) image) refl
  where
    means : Means (Some k) (λ b. Agrees nothing_known b × (image_under b m.left ≡ image))
    means = subst (λ o. Means o (λ b. Agrees nothing_known b × (image_under b m.left ≡ image))) e (all_means m.left image nothing_known)

    extended : all_in D image ≡ true → (r : Bool) → extends k m.right D ≡ r → r ≡ true
    extended a true f = refl
    extended a false f = absurd (holds image (violation_of m [] D image a (Some k) means (ap (λ b. not b && true) f)))

    by : (r : Bool) → list_any (inserted_after false own) image ≡ r → r ≡ true
    by true f = refl
    by false f =
        let before = there_before D own image present f in
        let x = (extends_decides k m.right D).0 (let h : extends k m.right D ≡ true = extended before (extends k m.right D) refl in h) in
        let moved : Binding = λ v. c.by (x.binding v) in
        let same : image_under moved m.left ≡ image = image_moved c.by x.binding m.left on_left ∙ ap (map (under c.by)) ((means x.binding).0 x.agrees).1 ∙ all_left D own c image present f in
        let there : all_in (apply D own) (image_under moved m.right) ≡ true =
        ap (all_in (apply D own)) (image_moved c.by x.binding m.right on_right) ∙ all_carried D (apply D own) c.by c.carries (image_under x.binding m.right) x.present in
        absurd (both_ways (extends k m.right (apply D own)) unmet
        ((extends_decides k m.right (apply D own)).1 (record { binding = moved; agrees = (means moved).1 ((λ v d h. absurd (none_some d h)), same); present = there })))

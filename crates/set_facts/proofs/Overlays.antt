-- What an overlay means: its members, its order, its writes, and what is found in it.
use Rattle.std.proofs.Common.{◌≡◌, ap, refl, sym, ◌∙◌, List, [], ◌∷◌, Bool, true, false, ◌||◌, ◌&&◌, not, Option}
use Rattle.std.specs.Prelude.{find, filter}
use Rattle.def_chase.specs.Values.{Fact, same_fact}
use Rattle.def_chase.specs.Repository.{Insert, Delete, IsRepository, change, has}
use Rattle.def_chase.proofs.Bools.{differ}
use Rattle.def_chase.proofs.Members.{has-filter}
use Rattle.def_chase.proofs.Searches.{find_same, filter_all}
use Rattle.def_chase.proofs.Sets.{has-insert, has-delete, same_exact, same_repository, insert_in_order, filter_in_order}
use Rattle.set_facts.specs.Courses.{ahead}
use Rattle.set_facts.specs.Overlaid.{put_all, overlaid, lesser}
use Rattle.set_facts.proofs.Unions.{find_union}
use Rattle.set_facts.proofs.Courses.{Follows, all_ahead, find_among}

has-put : (D ts : List Fact) (u : Fact) → has (put_all D ts) u ≡ (has D u || has ts u)
has-put D [] u = off (has D u)
  where
    off : (a : Bool) → a ≡ (a || false)
    off true = refl
    off false = refl
has-put D (t ∷ ts) u = has-insert (put_all D ts) t u ∙ ap (λ b. same_fact u t || b) (has-put D ts u) ∙ swap (same_fact u t) (has D u) (has ts u)
  where
    swap : (a b c : Bool) → (a || (b || c)) ≡ (b || (a || c))
    swap true true c = refl
    swap true false c = refl
    swap false b c = refl

-- A tuple is there where it was and is not gone, or where it is added.
pub has-overlaid : (D gone added : List Fact) (u : Fact) → has (overlaid D gone added) u ≡ ((has D u && not (has gone u)) || has added u)
has-overlaid D gone added u = has-put (filter (λ s. not (has gone s)) D) added u ∙ ap (λ b. b || has added u) (has-filter (λ s. not (has gone s)) D u)

-- Whether a tuple is there, by whether it is left of the set.
pub contained : (D gone added E : List Fact) (t : Fact) (left : Bool) → overlaid D gone added ≡ E → left ≡ (has D t && not (has gone t)) → (left || has added t) ≡ has E t
contained D gone added E t left e f = ap (λ b. b || has added t) f ∙ sym (has-overlaid D gone added t) ∙ ap (λ (F : List Fact). has F t) e

put_in_order : (D ts : List Fact) → IsRepository D → IsRepository (put_all D ts)
put_in_order D [] s = s
put_in_order D (t ∷ ts) s = insert_in_order (put_all D ts) t (put_in_order D ts s)

pub overlaid_in_order : (D gone added : List Fact) → IsRepository D → IsRepository (overlaid D gone added)
overlaid_in_order D gone added s = put_in_order (filter (λ u. not (has gone u)) D) added (filter_in_order (λ u. not (has gone u)) D s)

-- Where nothing is gone or added, the set is as it was.
pub overlaid_empty : (D : List Fact) → overlaid D [] [] ≡ D
overlaid_empty D = filter_all D

-- ---- writes

module _ (D gone added : List Fact) (t : Fact) (s : IsRepository D) where
  -- The tuple is the same as t, so it is there where t is.
  there : (b : Bool) → has D t ≡ b → (u : Fact) → same_fact u t ≡ true → has D u ≡ b
  there b e u f = ap (has D) (same_exact u t f) ∙ e

  deleted : (E : List Fact) (u : Fact) → has (change E (Delete t)) u ≡ (has E u && not (same_fact u t))
  deleted E u = has-delete E t u

  -- An insertion: the tuple is added, whether the set has it or not.
  pub insert_added : (m : List Fact) → m ≡ change added (Insert t) → overlaid D gone m ≡ change (overlaid D gone added) (Insert t)
  insert_added m l =
      ap (λ (x : List Fact). overlaid D gone x) l
      ∙ same_repository (overlaid D gone (change added (Insert t))) (change (overlaid D gone added) (Insert t)) (overlaid_in_order D gone (change added (Insert t)) s) (insert_in_order (overlaid D gone added) t (overlaid_in_order D gone added s))
      (λ u. has-overlaid D gone (change added (Insert t)) u ∙ ap (λ b. (has D u && not (has gone u)) || b) (has-insert added t u) ∙ by (has D u && not (has gone u)) (has added u) (same_fact u t)
      ∙ ap (λ b. same_fact u t || b) (sym (has-overlaid D gone added u)) ∙ sym (has-insert (overlaid D gone added) t u))
    where
      by : (b a c : Bool) → (b || (c || a)) ≡ (c || (b || a))
      by true a true = refl
      by true a false = refl
      by false a c = refl

  -- A deletion of what the set has: it is gone.
  pub delete_there : (g m : List Fact) → g ≡ change gone (Insert t) → m ≡ change added (Delete t) → overlaid D g m ≡ change (overlaid D gone added) (Delete t)
  delete_there g m k l =
      (λ i. overlaid D (k i) (l i))
      ∙ same_repository (overlaid D (change gone (Insert t)) (change added (Delete t))) (change (overlaid D gone added) (Delete t)) (overlaid_in_order D (change gone (Insert t)) (change added (Delete t)) s) (filter_in_order (λ v. not (same_fact t v)) (overlaid D gone added) (overlaid_in_order D gone added s))
      (λ u. has-overlaid D (change gone (Insert t)) (change added (Delete t)) u ∙ (λ i. (has D u && not (has-insert gone t u i)) || deleted added u i) ∙ by (has D u) (has gone u) (has added u) (same_fact u t)
      ∙ ap (λ b. b && not (same_fact u t)) (sym (has-overlaid D gone added u)) ∙ sym (deleted (overlaid D gone added) u))
    where
      by : (b g a c : Bool) → ((b && not (c || g)) || (a && not c)) ≡ (((b && not g) || a) && not c)
      by true true true true = refl
      by true true false true = refl
      by true false true true = refl
      by true false false true = refl
      by false g true true = refl
      by false g false true = refl
      by true true true false = refl
      by true true false false = refl
      by true false a false = refl
      by false g true false = refl
      by false g false false = refl

  -- A deletion of what the set lacks: it is no longer added.
  pub delete_new : (m : List Fact) → m ≡ change added (Delete t) → has D t ≡ false → overlaid D gone m ≡ change (overlaid D gone added) (Delete t)
  delete_new m l e =
      ap (λ (x : List Fact). overlaid D gone x) l
      ∙ same_repository (overlaid D gone (change added (Delete t))) (change (overlaid D gone added) (Delete t)) (overlaid_in_order D gone (change added (Delete t)) s) (filter_in_order (λ v. not (same_fact t v)) (overlaid D gone added) (overlaid_in_order D gone added s))
      (λ u. has-overlaid D gone (change added (Delete t)) u ∙ ap (λ b. (has D u && not (has gone u)) || b) (deleted added u) ∙ by (has D u) (has gone u) (has added u) (same_fact u t) (there false e u)
      ∙ ap (λ b. b && not (same_fact u t)) (sym (has-overlaid D gone added u)) ∙ sym (deleted (overlaid D gone added) u))
    where
      by : (b g a c : Bool) → (c ≡ true → b ≡ false) → ((b && not g) || (a && not c)) ≡ (((b && not g) || a) && not c)
      by true g a true h = differ (sym (h refl))
      by false g true true h = refl
      by false g false true h = refl
      by true true true false h = refl
      by true true false false h = refl
      by true false a false h = refl
      by false g true false h = refl
      by false g false false h = refl

-- ---- searches

-- A search among what passes, in either order.
find_both : (p q : Fact → Bool) (D : List Fact) → find q (filter p D) ≡ find p (filter q D)
find_both p q D = find_among p q D ∙ find_same (λ u. p u && q u) (λ u. q u && p u) (λ u. swap (p u) (q u)) D ∙ sym (find_among q p D)
  where
    swap : (a b : Bool) → (a && b) ≡ (b && a)
    swap true true = refl
    swap true false = refl
    swap false true = refl
    swap false false = refl

-- What is found in an overlay is the lesser of what is left of the set and what is added.
pub find_overlaid : (p : Fact → Bool) (q : Fact → Fact → Bool) (D gone added : List Fact) (o : Option Fact) → Follows p q → IsRepository D → IsRepository added → o ≡ find p D
    → lesser (find (λ u. not (has gone u)) (ahead q D o)) (find p added) ≡ find p (overlaid D gone added)
find_overlaid p q D gone added o f s t e =
    ap (λ x. lesser x (find p added)) (ap (find (λ u. not (has gone u))) (all_ahead p q D f s o e) ∙ either)
    ∙ sym (find_union p (filter (λ u. not (has gone u)) D) added (overlaid D gone added) (filter_in_order (λ u. not (has gone u)) D s) t (overlaid_in_order D gone added s) (λ u. has-put (filter (λ u. not (has gone u)) D) added u))
  where
    either : find (λ u. not (has gone u)) (filter p D) ≡ find p (filter (λ u. not (has gone u)) D)
    either = find_both p (λ u. not (has gone u)) D

-- So the lesser of the two is found in what the overlay means.
pub overlay_found : (p : Fact → Bool) (q : Fact → Fact → Bool) (D gone added E : List Fact) (o left more least : Option Fact) → Follows p q → IsRepository D → IsRepository added → overlaid D gone added ≡ E
    → o ≡ find p D → left ≡ find (λ u. not (has gone u)) (ahead q D o) → more ≡ find p added → least ≡ lesser left more → least ≡ find p E
overlay_found p q D gone added E o left more least f s t e at l m h = h ∙ (λ i. lesser (l i) (m i)) ∙ find_overlaid p q D gone added o f s t at ∙ ap (find p) e

-- The look-ups of named nulls, one by one.
use Rattle.std.proofs.Common.{◌≡◌, ◌∙◌, ℕ, zero, suc, ap, sym, refl, List, [], ◌∷◌, ◌++◌, map, drop, append_assoc, Some, None}
use Rattle.std.specs.Prelude.{slice_get, if◌then◌else◌}
use Rattle.def_machine.specs.Trees.{Node}
use Rattle.def_chase.specs.Values.{NullName, Datum, Fact, under}
use Rattle.def_chase.specs.Repository.{Insert, Delete}
use Rattle.def_chase.specs.Mappings.{Rule}
use Rattle.def_chase.specs.Queries.{Present, Occurs}
use Rattle.def_chase.specs.Updates.{Operation, Adds, Removes, Replaces}
use Rattle.base_types.specs.declared.nulls.Null.{Null}
use Rattle.base_types.specs.Meanings.{null_of}
use Rattle.def_steps.specs.Attempts.{Attempt, Look}
use Rattle.def_steps.specs.Rewriting.{nulls_in, standing_for}
use Rattle.def_steps.specs.Steps.{makes, is_yes, tuples_of, unless_none, find_nulls, start}
use Rattle.chase_update.specs.Found.{Found, found_in}
use Rattle.chase_update.specs.Rows.{Naming, Replacing, row_tree, present, named, replaced}
use Rattle.chase_update.proofs.Lookups.{settled_is}
use Rattle.chase_update.proofs.PassedBy.{nothing_left}

-- One null is looked up, and the others with it among those found.
pub one_name : (ms : List Rule) (P : Attempt) (op : Operation) (found : Found) (n : NullName) (ns : List NullName) → P.operation ≡ op → row_tree ms P (Naming found n ns) ≡ named op found (n ∷ ns)
one_name ms P op found n ns e =
    λ i. Node (Occurs n.update n.place) (λ a. unless_none n (tuples_of a) (find_nulls ns (λ hs. present (e i) (append_assoc found ((n, standing_for n (tuples_of a)) ∷ []) (map found_in hs) i))))

nil_right : (found : Found) → found ++ [] ≡ found
nil_right [] = refl
nil_right (e ∷ es) = ap (λ fs. e ∷ fs) (nil_right es)

-- With no null left it is asked whether the tuple is there.
pub no_names : (op : Operation) (found : Found) (items : List Null) (k : ℕ) → None ≡ slice_get items k → present op found ≡ named op found (map null_of (drop k items))
no_names op found items k h = ap (present op) (sym (nil_right found)) ∙ ap (λ (ns : List Null). named op found (map null_of ns)) (sym (nothing_left items k h))

-- The null at a place comes before those after it.
pub next_names : (items : List Null) (k j : ℕ) (x : Null) → j ≡ suc k → Some x ≡ slice_get items k → null_of x ∷ map null_of (drop j items) ≡ map null_of (drop k items)
next_names items k j x e h = ap (λ n. null_of x ∷ map null_of (drop n items)) e ∙ ap (map null_of) (at items k h)
  where
    at : {x : Null} (xs : List Null) (k : ℕ) → Some x ≡ slice_get xs k → x ∷ drop (suc k) xs ≡ drop k xs
    at [] zero h = cc
    at [] (suc k) h = cc
    at {x = x} (y ∷ ys) zero h = let e : x ≡ y = cc in ap (λ z. z ∷ ys) e
    at (y ∷ ys) (suc k) h = at ys k h

adds : (t : Fact) → named (Adds t) [] (nulls_in t.values) ≡ start (Adds t)
adds t =
    λ i. find_nulls (nulls_in t.values)
    (λ hs. (ap (λ (f : Datum → Datum). Node (Present (under f t)) (λ a. if is_yes a then makes [] Look else makes (Insert (under f t) ∷ []) Look)) (λ j d. settled_is hs d j)) i)

removes : (t : Fact) → named (Removes t) [] (nulls_in t.values) ≡ start (Removes t)
removes t =
    λ i. find_nulls (nulls_in t.values)
    (λ hs. (ap (λ (f : Datum → Datum). Node (Present (under f t)) (λ a. if is_yes a then makes (Delete (under f t) ∷ []) Look else makes [] Look)) (λ j d. settled_is hs d j)) i)

-- The steps of the operations begin so.
pub starts_adding : (op : Operation) (t : Fact) → op ≡ Adds t → named op [] (nulls_in t.values) ≡ start op
starts_adding op t e = ap (λ o. named o [] (nulls_in t.values)) e ∙ (adds t ∙ ap start (sym e))

pub starts_removing : (op : Operation) (t : Fact) → op ≡ Removes t → named op [] (nulls_in t.values) ≡ start op
starts_removing op t e = ap (λ o. named o [] (nulls_in t.values)) e ∙ (removes t ∙ ap start (sym e))

pub starts_replacing : (ms : List Rule) (P : Attempt) (op : Operation) (n : NullName) (d : Datum) → op ≡ Replaces n d → P.operation ≡ op → row_tree ms P (Replacing n) ≡ start op
starts_replacing ms P op n d e h =
    let one : row_tree ms P (Replacing n) ≡ start (Replaces n d) = λ i. Node (Occurs n.update n.place) (λ a. unless_none n (tuples_of a) (replaced ((h ∙ e) i) n (tuples_of a))) in
    one ∙ ap start (sym e)

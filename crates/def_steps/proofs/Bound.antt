-- What counts in a scope, by the test and by writes and bindings.
use Rattle.std.proofs.Common.{◌≡◌, ℕ, ap, refl, sym, ◌∙◌, List, Bool, true, false, Option, Some, None}
use Rattle.std.specs.Bool.{Decides}
use Rattle.std.specs.Prelude.{is_some, slice_get}
use Rattle.std.specs.List.{list_any}
use Rattle.std.proofs.lemmas.Bool.{false≢true}
use Rattle.def_chase.specs.Values.{Fact}
use Rattle.def_chase.specs.Repository.{Change, Insert, Delete, inserted_after}
use Rattle.def_chase.specs.Mappings.{Pattern, Rule, Binding, fact_under, image_under}
use Rattle.def_chase.specs.Matching.{Known, nothing_known, learn_atom}
use Rattle.def_chase.specs.Violations.{Scope, Every, Caused, Forward, Backward, deletes_match, in_scope}
use Rattle.def_chase.proofs.Bools.{none_some}
use Rattle.def_chase.proofs.Learning.{Agrees, Means, atom_means}
use Rattle.def_chase.proofs.Matches.{known_or_zero, agrees_itself, learned_from}
use Rattle.def_steps.specs.Counted.{IsCausedForward, IsCausedBackward, IsCounted}
use Rattle.def_steps.proofs.Written.{inserted_decides, any_place, place_any}

pub agrees_nothing : (b : Binding) → Agrees nothing_known b
agrees_nothing b v d e = absurd (none_some d e)

forward_decides : (own : List Change) (image : List Fact) → Decides (list_any (inserted_after false own) image) (IsCausedForward own image)
forward_decides own image = (
  λ e. let r = any_place (inserted_after false own) image e in record { place = r.0; tuple = r.1; there = r.2; inserted = (inserted_decides own r.1).0 r.3 },
  λ x. place_any (inserted_after false own) image x.place x.tuple x.there ((inserted_decides own x.tuple).1 x.inserted),
)

-- the bindings with the image of the left side are those that agree with k
module _ (own : List Change) (m : Rule) (image : List Fact) (k : Known) (means : Means (Some k) (λ b. Agrees nothing_known b × (image_under b m.left ≡ image))) where
  learned : (a : Pattern) (t : Fact) (o : Option Known) → Means o (λ b. Agrees k b × (fact_under b a ≡ t)) → is_some o ≡ true → (b : Binding) × Agrees k b × (fact_under b a ≡ t)
  learned a t None n e = absurd (false≢true e)
  learned a t (Some j) n e = let h = (n (known_or_zero j)).0 (agrees_itself j) in (known_or_zero j, h.0, h.1)

  from_write : (a : Pattern) (i : ℕ) → slice_get m.right i ≡ Some a → (j : ℕ) (w : Change) → slice_get own j ≡ Some w → deletes_match k a w ≡ true → IsCausedBackward own m image
  from_write a i there j (Insert t) at e = absurd (false≢true e)
  from_write a i there j (Delete t) at e =
      let r = learned a t (learn_atom a t k) (atom_means a t k) e in
      record {
        binding = r.0;
        is_image = ((means r.0).0 r.1).1;
        atom = a;
        place = i;
        on_the_right = there;
        at = j;
        deleted = at ∙ ap (λ (s : Fact). Some (Delete s)) (sym r.2);
      }

  backward_from : list_any (λ a. list_any (deletes_match k a) own) m.right ≡ true → IsCausedBackward own m image
  backward_from e =
      let right = any_place (λ a. list_any (deletes_match k a) own) m.right e in
      let write = any_place (deletes_match k right.1) own right.3 in
      from_write right.1 right.0 right.2 write.0 write.1 write.2 write.3

  backward_to : IsCausedBackward own m image → list_any (λ a. list_any (deletes_match k a) own) m.right ≡ true
  backward_to x =
      let t : Fact = fact_under x.binding x.atom in
      let agrees = (means x.binding).1 (agrees_nothing x.binding, x.is_image) in
      place_any (λ a. list_any (deletes_match k a) own) m.right x.place x.atom x.on_the_right
      (place_any (deletes_match k x.atom) own x.at (Delete t) x.deleted
      (learned_from (learn_atom x.atom t k) (λ b. Agrees k b × (fact_under b x.atom ≡ t)) x.binding (atom_means x.atom t k) (agrees, refl)))

  pub counted_decides : (scope : Scope) → Decides (in_scope scope own m image k) (IsCounted scope own m image)
  counted_decides Every = (λ e. tt, λ x. refl)
  counted_decides (Caused Forward) = forward_decides own image
  counted_decides (Caused Backward) = (backward_from, backward_to)

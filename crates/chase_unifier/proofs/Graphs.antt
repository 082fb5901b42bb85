-- What is read off the pairs of a tuple's values and what stands in their places.
use Rattle.std.proofs.Common.{◌≡◌, ℕ, ◌≤◌, ap, refl, sym, ◌∙◌, List, map, take, length, true, cond, Option, Some, None, Bor}
use Rattle.std.specs.Option.{option_map}
use Rattle.std.specs.Prelude.{find, unwrap_or}
use Rattle.def_chase.specs.Values.{NullName, Datum, Number, Text, same_datum, under}
use Rattle.def_chase.specs.Specific.{more_specific, image_of}
use Rattle.def_chase.specs.Unifier.{after, least_after, unifier}
use Rattle.def_chase.proofs.Maps.{length_map}
use Rattle.def_chase.proofs.Unified.{image_is, image_constants, not_found, specific_decides, unifier_constants, unifier_others, unified}
use Rattle.base_types.specs.declared.tuples.Tuple.{Tuple}
use Rattle.base_types.specs.Meanings.{fact_of}
use Rattle.base_types.specs.Maps.{moved_by}
use Rattle.chase_unifier.specs.Graphs.{taking}
use Rattle.chase_unifier.specs.Moves.{moving}
use Rattle.chase_unifier.proofs.Moving.{moved_whole}
use Rattle.base_types.specs.declared.values.Value.{Value}
use Rattle.base_types.specs.Meanings.{datum_of}

-- The values that a pair of references means.
abbrev pub pair_of : Bor Value × Bor Value → Datum × Datum
pair_of p = (datum_of p.0.now, datum_of p.1.now)

abbrev first_image : Datum → List (Datum × Datum) → Datum
first_image x g = unwrap_or (option_map (λ (p : Datum × Datum). p.1) (find (λ (p : Datum × Datum). same_datum p.0 x) g)) x

-- What was found is the image.
pub image_found : (x : Datum) (g : List (Datum × Datum)) (r : Option (Bor Value × Bor Value)) → option_map pair_of r ≡ find (λ (p : Datum × Datum). same_datum p.0 x) g → (p : Bor Value × Bor Value) → r ≡ Some p → datum_of p.1.now ≡ first_image x g
image_found x g r e p is = ap (λ (o : Option (Datum × Datum)). unwrap_or (option_map (λ (p : Datum × Datum). p.1) o) x) (sym (ap (option_map pair_of) is) ∙ e)

-- Where nothing was found the value is its own image.
pub image_missing : (x : Datum) (g : List (Datum × Datum)) (r : Option (Bor Value × Bor Value)) → option_map pair_of r ≡ find (λ (p : Datum × Datum). same_datum p.0 x) g → r ≡ None → x ≡ first_image x g
image_missing x g r e is = ap (λ (o : Option (Datum × Datum)). unwrap_or (option_map (λ (p : Datum × Datum). p.1) o) x) (sym (ap (option_map pair_of) is) ∙ e)

-- ---- what a loop over the nulls has made

module _ (t s : Tuple) (ws : List Value) (i : ℕ) (f : NullName → Option Datum) (specific : more_specific (fact_of s) (fact_of t) ≡ true) (over : length ws ≤ i) (same : ws ≡ t.values.items) where
  images_made : f ≡ moving (image_of (fact_of t) (fact_of s)) (map datum_of (take i ws)) → moved_by f ≡ image_of (fact_of t) (fact_of s)
  images_made e = moved_whole (image_of (fact_of t) (fact_of s)) t.values.items ws i f over same e
      (λ n. image_constants (fact_of s) (fact_of t) specific (Number n) refl, λ w. image_constants (fact_of s) (fact_of t) specific (Text w) refl)
      (λ x h. not_found x (map datum_of t.values.items) (map datum_of s.values.items) h)

  -- The function that takes t to s.
  pub taking_made : f ≡ moving (image_of (fact_of t) (fact_of s)) (map datum_of (take i ws)) → Some (moved_by f) ≡ taking (fact_of t) (fact_of s)
  taking_made e = ap Some (images_made e) ∙ ap (λ b. cond b (Some (image_of (fact_of t) (fact_of s))) None) (sym specific)

  -- It takes t to s.
  pub takes_there : f ≡ moving (image_of (fact_of t) (fact_of s)) (map datum_of (take i ws)) → under (moved_by f) (fact_of t) ≡ fact_of s
  takes_there e = ap (λ h. under h (fact_of t)) (images_made e)
      ∙ (λ j. record { relation = sym ((specific_decides (fact_of s) (fact_of t)).0 specific).one_relation j; values = image_is (fact_of s) (fact_of t) specific j })

  -- The unifier of t and s.
  pub unifier_made : f ≡ moving (unifier (fact_of t) (fact_of s)) (map datum_of (take i ws)) → moved_by f ≡ unifier (fact_of t) (fact_of s)
  unifier_made e = moved_whole (unifier (fact_of t) (fact_of s)) t.values.items ws i f over same e (unifier_constants (fact_of t) (fact_of s) specific) (unifier_others (fact_of t) (fact_of s))

  -- It makes the two one.
  pub unites_both : f ≡ moving (unifier (fact_of t) (fact_of s)) (map datum_of (take i ws)) → under (moved_by f) (fact_of s) ≡ under (moved_by f) (fact_of t)
  unites_both e = ap (λ h. under h (fact_of s)) (unifier_made e) ∙ unified (fact_of s) (fact_of t) specific ∙ ap (λ h. under h (fact_of t)) (sym (unifier_made e))

-- The least value from where a walk has come to after as many steps as t has values is its end.
pub end_found : (t s : Tuple) (x y z : Datum) → y ≡ after (length t.values.items) (image_of (fact_of t) (fact_of s)) x → z ≡ least_after (length t.values.items) (image_of (fact_of t) (fact_of s)) y → z ≡ unifier (fact_of t) (fact_of s) x
end_found t s x y z e f =
    let g = image_of (fact_of t) (fact_of s) in
    f ∙ ap (least_after (length t.values.items) g) e ∙ ap (λ n. least_after n g (after n g x)) (sym (length_map datum_of t.values.items))

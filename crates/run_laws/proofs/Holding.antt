-- A mapping that holds in a repository holds in it without the tuples that say what is in force, and under other names for its nulls.
use Rattle.std.proofs.Common.{◌≡◌, ap, refl, sym, ◌∙◌, List, [], ◌∷◌, map, ◌==◌, true, not}
use Rattle.std.specs.List.{list_all}
use Rattle.std.proofs.lemmas.Bool.{and_parts, both_ways}
use Rattle.def_chase.specs.Values.{Fact, under}
use Rattle.def_chase.specs.Repository.{has}
use Rattle.def_chase.specs.Mappings.{Pattern, Rule, Binding, fact_under, image_under, all_in, IsViolation, Holds, force_relation}
use Rattle.def_chase.specs.Laws.{HasNoNull}
use Rattle.def_chase.proofs.Atoms.{image_moved, leaves_left, leaves_right}
use Rattle.def_chase.proofs.Bools.{both, not_both}
use Rattle.def_chase.proofs.Members.{has-filter}
use Rattle.def_steps.specs.Serial.{answered}
use Rattle.def_steps.specs.Timely.{is_plain_atom}
use Rattle.run_laws.specs.Renamed.{renamed_value, IsRenamed}
use Rattle.run_laws.proofs.Names.{naming_keeps, Origin, there_renamed, renamed_origin, back, back_keeps, tuple_back}

-- ---- without the tuples that say what is in force

answered_there : (D ts : List Fact) → all_in (answered D) ts ≡ true → all_in D ts ≡ true
answered_there D [] h = refl
answered_there D (t ∷ ts) h =
    let e = and_parts (has (answered D) t) (all_in (answered D) ts) h in
    both (has D t) (all_in D ts) (and_parts (has D t) (not (t.relation == force_relation)) (sym (has-filter (λ t. not (t.relation == force_relation)) D t) ∙ e.0)).0 (answered_there D ts e.1)

there_answered : (D : List Fact) (b : Binding) (as' : List Pattern) → list_all is_plain_atom as' ≡ true → all_in D (image_under b as') ≡ true → all_in (answered D) (image_under b as') ≡ true
there_answered D b [] p h = refl
there_answered D b (a ∷ as') p h =
    let e = and_parts (is_plain_atom a) (list_all is_plain_atom as') p in
    let f = and_parts (has D (fact_under b a)) (all_in D (image_under b as')) h in
    both (has (answered D) (fact_under b a)) (all_in (answered D) (image_under b as'))
    (has-filter (λ t. not (t.relation == force_relation)) D (fact_under b a) ∙ both (has D (fact_under b a)) (not (a.relation == force_relation)) f.0 e.0) (there_answered D b as' e.1 f.1)

pub holds_answered : (m : Rule) (D : List Fact) → list_all is_plain_atom m.right ≡ true → Holds m D → Holds m (answered D)
holds_answered m D plain h image w =
    h image record {
      binding = w.binding;
      is_image = w.is_image;
      present = answered_there D image w.present;
      unmet = λ b e. not_both (all_in D (image_under b m.right)) (λ f. both_ways (all_in (answered D) (image_under b m.right)) (w.unmet b e) (there_answered D b m.right plain f));
    }

-- ---- under other names

module _ (D E : List Fact) (r : IsRenamed D E) where
  -- tuples of E are tuples of D under other names
  images_back : (ts : List Fact) → all_in E ts ≡ true → all_in D (map (under (back D E r)) ts) ≡ true
  images_back [] h = refl
  images_back (t ∷ ts) h =
      let e = and_parts (has E t) (all_in E ts) h in
      let o : Origin D E r D t = renamed_origin D E r D t (ap (λ F. has F t) (sym r.same) ∙ e.0) in
      let same : under (back D E r) t ≡ o.of = ap (under (back D E r)) (sym o.same) ∙ tuple_back D E r o.of o.there in
      both (has D (under (back D E r) t)) (all_in D (map (under (back D E r)) ts)) (ap (has D) same ∙ o.there) (images_back ts e.1)

  and_forth : (ts : List Fact) → all_in E ts ≡ true → map (under (renamed_value r.name)) (map (under (back D E r)) ts) ≡ ts
  and_forth [] h = refl
  and_forth (t ∷ ts) h =
      let e = and_parts (has E t) (all_in E ts) h in
      let o : Origin D E r D t = renamed_origin D E r D t (ap (λ F. has F t) (sym r.same) ∙ e.0) in
      let same : under (back D E r) t ≡ o.of = ap (under (back D E r)) (sym o.same) ∙ tuple_back D E r o.of o.there in
      let one : under (renamed_value r.name) (under (back D E r) t) ≡ t = ap (under (renamed_value r.name)) same ∙ o.same in
      λ i. one i ∷ and_forth ts e.1 i

  images_forth : (ts : List Fact) → all_in D ts ≡ true → all_in E (map (under (renamed_value r.name)) ts) ≡ true
  images_forth [] h = refl
  images_forth (t ∷ ts) h =
      let e = and_parts (has D t) (all_in D ts) h in
      both (has E (under (renamed_value r.name) t)) (all_in E (map (under (renamed_value r.name)) ts))
      (ap (λ F. has F (under (renamed_value r.name) t)) r.same ∙ there_renamed D E r D t e.0) (images_forth ts e.1)

  -- a violation in E is one in D under other names
  violation_back : (m : Rule) → HasNoNull m → (image : List Fact) → IsViolation m E image → IsViolation m D (map (under (back D E r)) image)
  violation_back m plain image w =
      record {
        binding = λ v. back D E r (w.binding v);
        is_image = image_moved (back D E r) w.binding m.left (leaves_left (back D E r) (back_keeps D E r) m plain) ∙ ap (map (under (back D E r))) w.is_image;
        present = images_back image w.present;
        unmet = λ b e. not_both (all_in D (image_under b m.right)) (λ f. both_ways (all_in E (image_under (λ v. renamed_value r.name (b v)) m.right)) (w.unmet (λ v. renamed_value r.name (b v)) (left b e)) (right b f));
      }
    where
      left : (b : Binding) → image_under b m.left ≡ map (under (back D E r)) image → image_under (λ v. renamed_value r.name (b v)) m.left ≡ image
      left b e =
          image_moved (renamed_value r.name) b m.left (leaves_left (renamed_value r.name) (naming_keeps r.name) m plain)
          ∙ ap (map (under (renamed_value r.name))) e ∙ and_forth image w.present

      right : (b : Binding) → all_in D (image_under b m.right) ≡ true → all_in E (image_under (λ v. renamed_value r.name (b v)) m.right) ≡ true
      right b f =
          ap (all_in E) (image_moved (renamed_value r.name) b m.right (leaves_right (renamed_value r.name) (naming_keeps r.name) m plain))
          ∙ images_forth (image_under b m.right) f

  pub holds_renamed : (m : Rule) → HasNoNull m → Holds m D → Holds m E
  holds_renamed m plain h image w = h (map (under (back D E r)) image) (violation_back m plain image w)

-- ---- in force from the start

-- The mapping, in force from the start.
abbrev pub begun : Rule → Rule
begun m = record m { since = 0 }

-- When a mapping is put in force does not bear on whether it holds.
pub holds_begun : (m : Rule) (E : List Fact) → Holds m E → Holds (begun m) E
holds_begun m E h image w = h image record { binding = w.binding; is_image = w.is_image; present = w.present; unmet = w.unmet }

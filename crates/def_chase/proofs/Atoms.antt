-- A substitution that leaves the constants of atoms goes through their images; one that moves nulls alone leaves them where no constant is a null.
use Rattle.std.proofs.Common.{◌≡◌, ap, refl, sym, List, [], ◌∷◌, map, true}
use Rattle.std.specs.List.{list_all}
use Rattle.std.proofs.lemmas.Bool.{and_parts}
use Rattle.def_chase.specs.Values.{Datum, under}
use Rattle.def_chase.specs.Mappings.{Rule, Slot, Var, Const, Pattern, Binding, value_under, image_under}
use Rattle.def_chase.specs.Specific.{is_constant}
use Rattle.def_chase.specs.Laws.{is_no_null, has_no_null, HasNoNull}
use Rattle.def_chase.specs.Caused.{KeepsConstants}
use Rattle.def_chase.proofs.Substitutions.{constant_left}

-- The substitution leaves the constants among the terms.
abbrev pub LeavesTerms : (Datum → Datum) → List Slot → Type 0
LeavesTerms f [] = Unit {0}
LeavesTerms f (Var v ∷ ps) = LeavesTerms f ps
LeavesTerms f (Const d ∷ ps) = (f d ≡ d) × LeavesTerms f ps

abbrev pub Leaves : (Datum → Datum) → List Pattern → Type 0
Leaves f [] = Unit {0}
Leaves f (a ∷ as') = LeavesTerms f a.terms × Leaves f as'

pub terms_left : (f : Datum → Datum) → KeepsConstants f → (ps : List Slot) → list_all is_no_null ps ≡ true → LeavesTerms f ps
terms_left f c [] e = tt
terms_left f c (Var v ∷ ps) e = terms_left f c ps e
terms_left f c (Const d ∷ ps) e = let p = and_parts (is_constant d) (list_all is_no_null ps) e in (constant_left f c d p.0, terms_left f c ps p.1)

pub leaves_atoms : (f : Datum → Datum) → KeepsConstants f → (as' : List Pattern) → list_all has_no_null as' ≡ true → Leaves f as'
leaves_atoms f c [] e = tt
leaves_atoms f c (a ∷ as') e = let p = and_parts (has_no_null a) (list_all has_no_null as') e in (terms_left f c a.terms p.0, leaves_atoms f c as' p.1)

pub terms_under : (f : Datum → Datum) (b : Binding) (ps : List Slot) → LeavesTerms f ps → map (value_under (λ v. f (b v))) ps ≡ map f (map (value_under b) ps)
terms_under f b [] l = refl
terms_under f b (Var v ∷ ps) l = ap (λ ds. f (b v) ∷ ds) (terms_under f b ps l)
terms_under f b (Const d ∷ ps) l = λ i. sym l.0 i ∷ terms_under f b ps l.1 i

pub image_moved : (f : Datum → Datum) (b : Binding) (as' : List Pattern) → Leaves f as' → image_under (λ v. f (b v)) as' ≡ map (under f) (image_under b as')
image_moved f b [] l = refl
image_moved f b (a ∷ as') l = λ i. record { relation = a.relation; values = terms_under f b a.terms l.0 i } ∷ image_moved f b as' l.1 i

pub leaves_left : (f : Datum → Datum) → KeepsConstants f → (m : Rule) → HasNoNull m → Leaves f m.left
leaves_left f c m h = leaves_atoms f c m.left (and_parts (list_all has_no_null m.left) (list_all has_no_null m.right) h).0

pub leaves_right : (f : Datum → Datum) → KeepsConstants f → (m : Rule) → HasNoNull m → Leaves f m.right
leaves_right f c m h = leaves_atoms f c m.right (and_parts (list_all has_no_null m.left) (list_all has_no_null m.right) h).1

-- A place is in the zone where the tests that it stands for hold.
use Rattle.std.proofs.Common.{◌≡◌, ℕ, ◌<◌, ap, refl, sym, ◌∙◌, Bool, true, false, ◌&&◌, cond, Option, Some, None, arith}
use Rattle.std.specs.Prelude.{◌==◌}
use Rattle.std.proofs.lemmas.Bool.{eq-eqb, ne_eqb}
use Rattle.std.proofs.lemmas.Cmp.{ranked}
use Rattle.std.specs.Cmp.{tied_then, eq_by_cmp_equiv}
use Rattle.std.specs.Ordering.{is_eq, nat_cmp, ordering_then, MatchOrdering}
use Rattle.std.specs.declared.cmp.Ordering.{Ordering}
use Rattle.std.specs.declared.cmp.Ordering.TheVariants.{Less, Equal, Greater}
use Rattle.def_chase.specs.Cursors.{is_of, is_beyond, is_datum}
use Rattle.def_chase.specs.Values.{Datum, Fact}
use Rattle.def_chase.proofs.Order.{datum_total}
use Rattle.set_versions.specs.Cells.{value_in, values_cmp}
use Rattle.set_versions.specs.Zones.{place_beyond, place_of, place_in, place_lead}

pub is_equal : (x y : ℕ) → is_eq (nat_cmp x y) ≡ (x == y)
is_equal x y = by (nat_cmp x y) (ranked x y (nat_cmp x y) refl)
  where
    by : (o : Ordering) → MatchOrdering o (x < y) (x ≡ y) (y < x) → is_eq o ≡ (x == y)
    by Less m = sym (ne_eqb x y (λ h. omega (arith, h)))
    by Equal m = sym (eq-eqb x y m)
    by Greater m = sym (ne_eqb x y (λ h. omega (arith, h)))

here : (b : Bool) → is_eq (cond b Equal Less) ≡ b
here true = refl
here false = refl

pub beyond_is : (past : Option Fact) (u : Fact) → is_eq (place_beyond past u) ≡ is_beyond past u
beyond_is past u = here (is_beyond past u)

pub zone_is : (r : ℕ) (past : Option Fact) (u : Fact) → is_eq (place_of r past u) ≡ (is_of r u && is_beyond past u)
zone_is r past u =
    sym (tied_then (nat_cmp u.relation r) (place_beyond past u)) ∙ ap (λ b. b && is_eq (place_beyond past u)) (is_equal u.relation r) ∙ ap (λ b. is_of r u && b) (beyond_is past u)

-- The value there is d.
value_is : (o : Option Datum) (d : Datum) → is_eq (values_cmp o (Some d)) ≡ is_datum d o
value_is None d = refl
value_is (Some e) d = (eq_by_cmp_equiv datum_total).symm e d

pub cell_is_in : (r c : ℕ) (d : Datum) (past : Option Fact) (x : ℕ × Fact) → is_eq (place_in r c d past x) ≡ ((x.0 == c) && (is_datum d (value_in x) && (is_of r x.1 && is_beyond past x.1)))
cell_is_in r c d past x =
    sym (tied_then (nat_cmp x.0 c) (ordering_then (values_cmp (value_in x) (Some d)) (place_of r past x.1)))
    ∙ ap (λ b. b && is_eq (ordering_then (values_cmp (value_in x) (Some d)) (place_of r past x.1))) (is_equal x.0 c)
    ∙ ap (λ b. (x.0 == c) && b)
    (sym (tied_then (values_cmp (value_in x) (Some d)) (place_of r past x.1))
    ∙ ap (λ b. b && is_eq (place_of r past x.1)) (value_is (value_in x) d)
    ∙ ap (λ b. is_datum d (value_in x) && b) (zone_is r past x.1))

pub lead_is : (r : ℕ) (d : Datum) (past : Option Fact) (u : Fact) → is_eq (place_lead r d past u) ≡ (is_of r u && (is_datum d (value_in (0, u)) && is_beyond past u))
lead_is r d past u =
    sym (tied_then (nat_cmp u.relation r) (ordering_then (values_cmp (value_in (0, u)) (Some d)) (place_beyond past u)))
    ∙ ap (λ b. b && is_eq (ordering_then (values_cmp (value_in (0, u)) (Some d)) (place_beyond past u))) (is_equal u.relation r)
    ∙ ap (λ b. is_of r u && b)
    (sym (tied_then (values_cmp (value_in (0, u)) (Some d)) (place_beyond past u))
    ∙ ap (λ b. b && is_eq (place_beyond past u)) (value_is (value_in (0, u)) d)
    ∙ ap (λ b. is_datum d (value_in (0, u)) && b) (beyond_is past u))

-- The order of tuples is total, and only equal tuples tie.
use Rattle.std.proofs.Common.{◌≡◌, ℕ, ap, refl, List}
use Rattle.std.specs.Cmp.{IsTotalOrder, nat_cmp_total, int_cmp_total, on_total, then_total}
use Rattle.std.specs.Cmp.Lexicographic.{slice_cmp, lists_total}
use Rattle.std.specs.FinMap.{IsAntisymmetric, nat_cmp-IsAntisymmetric, int_cmp-IsAntisymmetric, slice_cmp-IsAntisymmetric}
use Rattle.std.specs.Ordering.{nat_cmp, int_cmp, ordering_then}
use Rattle.std.specs.declared.cmp.Ordering.{Ordering}
use Rattle.std.specs.declared.cmp.Ordering.TheVariants.{Less, Equal}
use Rattle.std.proofs.lemmas.Map.Lookups.{exact_pairs, exact_unsigned}
use Rattle.def_chase.specs.Values.{NullName, Datum, Number, Text, Unknown, Fact, null_cmp, datum_cmp, fact_cmp}

pub null_total : IsTotalOrder null_cmp
null_total = then_total (on_total (λ n. n.update) nat_cmp_total) (then_total (on_total (λ n. n.place) nat_cmp_total) (on_total (λ n. n.attempt) nat_cmp_total))

pub bytes_total : IsTotalOrder (slice_cmp nat_cmp)
bytes_total = lists_total nat_cmp_total

datum_antisymm : (x y : Datum) → datum_cmp x y ≡ Rattle.std.specs.Ordering.ordering_reverse (datum_cmp y x)
datum_antisymm (Number i) (Number j) = int_cmp_total.antisymm i j
datum_antisymm (Number i) (Text w) = refl
datum_antisymm (Number i) (Unknown n) = refl
datum_antisymm (Text v) (Number j) = refl
datum_antisymm (Text v) (Text w) = bytes_total.antisymm v w
datum_antisymm (Text v) (Unknown n) = refl
datum_antisymm (Unknown m) (Number j) = refl
datum_antisymm (Unknown m) (Text w) = refl
datum_antisymm (Unknown m) (Unknown n) = null_total.antisymm m n

datum_trans : (x y z : Datum) → datum_cmp x y ≡ Less → datum_cmp y z ≡ Less → datum_cmp x z ≡ Less
datum_trans (Number i) (Number j) (Number k) p q = int_cmp_total.trans i j k p q
datum_trans (Number i) (Number j) (Text w) p q = refl
datum_trans (Number i) (Number j) (Unknown n) p q = refl
datum_trans (Number i) (Text v) (Number k) p q = cc
datum_trans (Number i) (Text v) (Text w) p q = refl
datum_trans (Number i) (Text v) (Unknown n) p q = refl
datum_trans (Number i) (Unknown m) (Number k) p q = cc
datum_trans (Number i) (Unknown m) (Text w) p q = refl
datum_trans (Number i) (Unknown m) (Unknown n) p q = refl
datum_trans (Text u) (Number j) z p q = cc
datum_trans (Text u) (Text v) (Number k) p q = cc
datum_trans (Text u) (Text v) (Text w) p q = bytes_total.trans u v w p q
datum_trans (Text u) (Text v) (Unknown n) p q = refl
datum_trans (Text u) (Unknown m) (Number k) p q = cc
datum_trans (Text u) (Unknown m) (Text w) p q = cc
datum_trans (Text u) (Unknown m) (Unknown n) p q = refl
datum_trans (Unknown l) (Number j) z p q = cc
datum_trans (Unknown l) (Text v) z p q = cc
datum_trans (Unknown l) (Unknown m) (Number k) p q = cc
datum_trans (Unknown l) (Unknown m) (Text w) p q = cc
datum_trans (Unknown l) (Unknown m) (Unknown n) p q = null_total.trans l m n p q

abbrev pair_cmp : ℕ × ℕ → ℕ × ℕ → Ordering
pair_cmp p q = ordering_then (nat_cmp p.0 q.0) (nat_cmp p.1 q.1)

pub null_exact : (m n : NullName) → null_cmp m n ≡ Equal → m ≡ n
null_exact m n e =
    ap (λ (p : ℕ × (ℕ × ℕ)). record { update = p.0; place = p.1.0; attempt = p.1.1 })
    (exact_pairs nat_cmp pair_cmp exact_unsigned (exact_pairs nat_cmp nat_cmp exact_unsigned exact_unsigned) (m.update, (m.place, m.attempt)) (n.update, (n.place, n.attempt)) e)

pub datum_exact : (x y : Datum) → datum_cmp x y ≡ Equal → x ≡ y
datum_exact (Number i) (Number j) e = ap Number (int_cmp-IsAntisymmetric i j e)
datum_exact (Number i) (Text w) e = cc
datum_exact (Number i) (Unknown n) e = cc
datum_exact (Text v) (Number j) e = cc
datum_exact (Text v) (Text w) e = ap Text (slice_cmp-IsAntisymmetric nat_cmp-IsAntisymmetric v w e)
datum_exact (Text v) (Unknown n) e = cc
datum_exact (Unknown m) (Number j) e = cc
datum_exact (Unknown m) (Text w) e = cc
datum_exact (Unknown m) (Unknown n) e = ap Unknown (null_exact m n e)

datum_congr : (x y z : Datum) → datum_cmp x y ≡ Equal → datum_cmp x z ≡ datum_cmp y z
datum_congr x y z e = ap (λ w. datum_cmp w z) (datum_exact x y e)

pub datum_total : IsTotalOrder datum_cmp
datum_total = record { antisymm = datum_antisymm; trans = datum_trans; congr = datum_congr }

pub fact_total : IsTotalOrder fact_cmp
fact_total = then_total (on_total (λ t. t.relation) nat_cmp_total) (on_total (λ t. t.values) (lists_total datum_total))

pub fact_exact : (s t : Fact) → fact_cmp s t ≡ Equal → s ≡ t
fact_exact s t e =
    ap (λ (p : ℕ × List Datum). record { relation = p.0; values = p.1 })
    (exact_pairs nat_cmp (slice_cmp datum_cmp) exact_unsigned (slice_cmp-IsAntisymmetric datum_exact) (s.relation, s.values) (t.relation, t.values) e)

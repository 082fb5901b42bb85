-- A search for one tuple finds its row, which says what is known of it.
use Rattle.std.proofs.Common.{◌≡◌, ℕ, refl, ap, sym, ◌∙◌, subst, List, Bool, find, Option, Some, unwrap_or}
use Rattle.std.specs.Option.{option_map}
use Rattle.std.specs.Ordering.{is_eq}
use Rattle.base_types.specs.Meanings.{fact_of}
use Rattle.base_types.specs.declared.tuples.Tuple.{Tuple}
use Rattle.def_chase.specs.Repository.{has}
use Rattle.def_chase.specs.Values.{Fact, fact_cmp, same_fact}
use Rattle.def_chase.proofs.Sets.{same_exact}
use Rattle.set_versions.specs.Chains.{AreRows}
use Rattle.set_versions.specs.Marked.{marks_at, no_marks, stands, visible}
use Rattle.set_versions.specs.declared.marks.Marks.{Marks}
use Rattle.set_versions.proofs.Seeing.{find_same}
use Rattle.set_versions.proofs.Seen.{seen_stands}
use Rattle.set_versions.proofs.Scanning.{found_passes}

abbrev pub is_held : {V : Type 0} → Fact → Tuple × V → Bool
is_held t e = is_eq (fact_cmp t (fact_of e.0))

-- What a search for one tuple finds is found by each that is equal.
pub held_as : {V : Type 0} (rows : List (Tuple × V)) {s t : Tuple} {o : Option (Tuple × V)} → s ≡ t → o ≡ find (is_held (fact_of s)) rows → o ≡ find (is_held (fact_of t)) rows
held_as rows e f = f ∙ ap (λ t. find (is_held (fact_of t)) rows) e

pub held_same : {V : Type 0} (t : Fact) (e : Tuple × V) → is_held t e ≡ same_fact t (fact_of e.0)
held_same t e = refl

pub held_tuple : (t : Fact) (rows : List (Tuple × Marks)) {e : Tuple × Marks} → Some e ≡ find (is_held t) rows → fact_of e.0 ≡ t
held_tuple t rows {e} f = sym (same_exact t (fact_of e.0) (sym (held_same t e) ∙ found_passes (is_held t) rows (sym f)))

pub held_marks : (t : Fact) {inside rows : List (Tuple × Marks)} {o : Option (Tuple × Marks)} → inside ≡ rows → o ≡ find (is_held t) inside → unwrap_or (option_map (λ e. e.1) o) no_marks ≡ marks_at rows t
held_marks t {inside} {rows} {o} seen f =
    ap (λ p. unwrap_or (option_map (λ e. e.1) p) no_marks) (f ∙ find_same (is_held t) (λ e. same_fact t (fact_of e.0)) (held_same t) inside)
    ∙ ap (λ es. marks_at es t) seen

-- Whether the tuple is seen is what its row says.
pub held_stands : (n : ℕ) (t : Fact) {inside rows : List (Tuple × Marks)} {o : Option (Tuple × Marks)} → inside ≡ rows → AreRows inside → o ≡ find (is_held t) inside
    → stands n (unwrap_or (option_map (λ e. e.1) o) no_marks) ≡ has (visible n rows) t
held_stands n t {inside} {rows} {o} seen order f = ap (stands n) (held_marks t seen f) ∙ sym (seen_stands n rows (subst AreRows seen order).order t)

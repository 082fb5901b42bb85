-- What an update reads: what is left of the base and what stands in the rows, as one.
use Rattle.std.proofs.Common.{◌≡◌, ℕ, ap, refl, sym, ◌∙◌, List, [], ◌∷◌, take, Bool, true, false, ◌||◌, ◌&&◌, not, filter, Option, Some, None}
use Rattle.std.specs.Borrow.{Bor}
use Rattle.std.specs.Option.{is_some, option_copied, option_map}
use Rattle.std.specs.Prelude.{find, IfNone}
use Rattle.base_types.specs.Candidates.{further_candidates}
use Rattle.base_types.specs.Meanings.{fact_of}
use Rattle.base_types.specs.declared.tuples.Tuple.{Tuple}
use Rattle.set_facts.proofs.Overlays.{has-overlaid, overlaid_in_order}
use Rattle.def_chase.specs.Cursors.{first_of, is_beyond, is_of, is_scanned, scan_of}
use Rattle.def_chase.specs.Repository.{IsRepository, has}
use Rattle.def_chase.specs.Values.{Datum, Fact}
use Rattle.def_chase.proofs.Bools.{differ}
use Rattle.def_chase.proofs.Searches.{filter_within, none_passes}
use Rattle.base_tree.specs.Few.{most}
use Rattle.set_versions.specs.Marked.{visible}
use Rattle.set_versions.specs.Standing.{AreKept, Kept, is_left, seen}
use Rattle.set_versions.proofs.Gathering.{scan_candidates}

pub seen_ordered : (n : ℕ) (v : Kept) → AreKept v → IsRepository (seen n v)
seen_ordered n v kept = overlaid_in_order v.base v.taken (visible n v.rows) kept.order

-- What the base tells of is seen, and else what stands in the rows.
pub left_seen : (n : ℕ) (v : Kept) (t : Fact) → true ≡ is_left v t → true ≡ has (seen n v) t
left_seen n v t e = ap (λ b. b || has (visible n v.rows) t) e ∙ sym (has-overlaid v.base v.taken (visible n v.rows) t)

pub row_seen : (n : ℕ) (v : Kept) (t : Fact) → false ≡ is_left v t → has (visible n v.rows) t ≡ has (seen n v) t
row_seen n v t e = ap (λ b. b || has (visible n v.rows) t) e ∙ sym (has-overlaid v.base v.taken (visible n v.rows) t)

-- ---- none

-- None of a few is none of all.
pub none_taken : (D : List Fact) → [] ≡ take most D → D ≡ []
none_taken [] e = refl
none_taken (u ∷ D) e = absurd (cc)

-- Where none came there was none.
pub none_came : {X : Type 0} (o : Option X) (D : List Fact) → IfNone o (D ≡ []) → (b : Bool) → b ≡ true → is_some o ≡ not b → [] ≡ D
none_came None D end b t e = sym end
none_came (Some x) D end b t e = differ (sym (e ∙ ap not t))

-- ---- what the base lacks

none_found : (o : Option (Bor Tuple)) (p : Fact → Bool) (D : List Fact) → option_map fact_of (option_copied o) ≡ find p D → (b : Bool) → b ≡ true → is_some o ≡ not b → filter p D ≡ []
none_found None p D found b t e = none_passes p D (sym found)
none_found (Some x) p D found b t e = differ (sym (e ∙ ap not t))

pub lacks_value : (o : Option (Bor Tuple)) (D : List Fact) (r c : ℕ) (d : Datum) (past : Option Fact) → option_map fact_of (option_copied o) ≡ scan_of D r c d past → (b : Bool) → b ≡ true → is_some o ≡ not b
    → further_candidates D r (Some (c, d)) past ≡ []
lacks_value o D r c d past found b t e = sym (scan_candidates D r c d past) ∙ none_found o (is_scanned r c d past) D found b t e

pub lacks_relation : (o : Option (Bor Tuple)) (D : List Fact) (r : ℕ) (past : Option Fact) → option_map fact_of (option_copied o) ≡ first_of D r → (b : Bool) → b ≡ true → is_some o ≡ not b → further_candidates D r None past ≡ []
lacks_relation o D r None found b t e = none_found o (is_of r) D found b t e
lacks_relation o D r (Some u) found b t e =
    filter_within (λ v. is_of r v && is_beyond (Some u) v) (is_of r) (λ v h. first (is_of r v) (is_beyond (Some u) v) h) D
    ∙ ap (filter (λ v. is_of r v && is_beyond (Some u) v)) (none_found o (is_of r) D found b t e)
  where
    first : (a c : Bool) → (a && c) ≡ true → a ≡ true
    first true c h = refl
    first false c h = h

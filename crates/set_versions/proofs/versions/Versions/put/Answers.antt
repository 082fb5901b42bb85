use Rattle.std.proofs.Common.{◌≡◌, ap, refl, sym, ◌∙◌, ◌&&◌, not, cond, List}
use Rattle.base_types.specs.Meanings.{fact_of}
use Rattle.def_chase.specs.Repository.{has}
use Rattle.def_chase.specs.Values.{Fact, same_fact}
use Rattle.set_versions.specs.Marked.{is_based, marks_at, no_marks}
use Rattle.set_versions.specs.Standing.{Kept, known_at}
use Rattle.set_versions.proofs.Knowing.{known_set, kept_set}
use Rattle.set_versions.proofs.versions.Versions.put.Goals as goal

pub returns-clause-known : goal.returns-clause-known
returns-clause-known c t =
    let old : Kept = record { base = c.self.inside.base.value; taken = c.self.inside.taken; rows = c.self.inside.table } in
    let s = fact_of c.args.key in
    let m = c.args.marks in
    let based = c.args.in_base in
    let there : based ≡ has old.base s = c.requires.in_base ∙ ap (λ (v : Kept). has v.base s) (sym c.self.view_is) in
    let takes : (u : Fact) → has c.in_ok-taken.taken u ≡ cond (same_fact u s) (based && not (based && is_based m)) (has old.taken u) =
    λ u. c.in_ok-taken.ensures.set u ∙ ap (λ b. cond (same_fact u s) b (has c.in_ok-share.field-0 u)) c.told_of-takes.ensures.takes
    ∙ ap (λ (D : List Fact). cond (same_fact u s) (based && not (based && is_based m)) (has D u)) c.in_ok-share.ensures.same in
    let tells : (u : Fact) → marks_at c.put.new.self u ≡ cond (same_fact u s) (cond (based && is_based m) no_marks m) (marks_at old.rows u) =
    λ u. c.in_ok-put.ensures.marks u ∙ ap (λ k. cond (same_fact u s) k (marks_at old.rows u)) c.told_of-takes.ensures.tells in
    known_set old c.in_ok-taken.taken c.put.new.self s m based (based && is_based m) there refl takes tells t ∙ ap (λ (v : Kept). cond (same_fact t s) m (known_at v t)) c.self.view_is

pub returns-clause-kept : goal.returns-clause-kept
returns-clause-kept c =
    let old : Kept = record { base = c.self.inside.base.value; taken = c.self.inside.taken; rows = c.self.inside.table } in
    let s = fact_of c.args.key in
    let m = c.args.marks in
    let based = c.args.in_base in
    let there : based ≡ has old.base s = c.requires.in_base ∙ ap (λ (v : Kept). has v.base s) (sym c.self.view_is) in
    let takes : (u : Fact) → has c.in_ok-taken.taken u ≡ cond (same_fact u s) (based && not (based && is_based m)) (has old.taken u) =
    λ u. c.in_ok-taken.ensures.set u ∙ ap (λ b. cond (same_fact u s) b (has c.in_ok-share.field-0 u)) c.told_of-takes.ensures.takes
    ∙ ap (λ (D : List Fact). cond (same_fact u s) (based && not (based && is_based m)) (has D u)) c.in_ok-share.ensures.same in
    let tells : (u : Fact) → marks_at c.put.new.self u ≡ cond (same_fact u s) (cond (based && is_based m) no_marks m) (marks_at old.rows u) =
    λ u. c.in_ok-put.ensures.marks u ∙ ap (λ k. cond (same_fact u s) k (marks_at old.rows u)) c.told_of-takes.ensures.tells in
    kept_set old c.in_ok-taken.taken c.put.new.self s m based (based && is_based m) there refl takes tells c.self.invariant c.in_ok-put.ensures.in_order

pub invariant_of-self-2 : goal.invariant_of-self-2
invariant_of-self-2 c =
    let old : Kept = record { base = c.self.inside.base.value; taken = c.self.inside.taken; rows = c.self.inside.table } in
    let s = fact_of c.args.key in
    let m = c.args.marks in
    let based = c.args.in_base in
    let there : based ≡ has old.base s = c.requires.in_base ∙ ap (λ (v : Kept). has v.base s) (sym c.self.view_is) in
    let takes : (u : Fact) → has c.in_ok-taken.taken u ≡ cond (same_fact u s) (based && not (based && is_based m)) (has old.taken u) =
    λ u. c.in_ok-taken.ensures.set u ∙ ap (λ b. cond (same_fact u s) b (has c.in_ok-share.field-0 u)) c.told_of-takes.ensures.takes
    ∙ ap (λ (D : List Fact). cond (same_fact u s) (based && not (based && is_based m)) (has D u)) c.in_ok-share.ensures.same in
    let tells : (u : Fact) → marks_at c.put.new.self u ≡ cond (same_fact u s) (cond (based && is_based m) no_marks m) (marks_at old.rows u) =
    λ u. c.in_ok-put.ensures.marks u ∙ ap (λ k. cond (same_fact u s) k (marks_at old.rows u)) c.told_of-takes.ensures.tells in
    kept_set old c.in_ok-taken.taken c.put.new.self s m based (based && is_based m) there refl takes tells c.self.invariant c.in_ok-put.ensures.in_order

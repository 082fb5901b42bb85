-- A program whose look has passed over settled mappings.
use Rattle.std.proofs.Common.{◌≡◌, ◌∙◌, ap, refl, sym, subst, List}
use Rattle.def_chase.specs.Mappings.{Rule}
use Rattle.def_steps.specs.Attempts.{Attempt, Phase}
use Rattle.chase_update.specs.Rows.{begun_in, row_tree}
use Rattle.chase_update.specs.Courses.{Course, State, coming_to, course}
use Rattle.chase_update.specs.PointMeanings.{reading_of}
use Rattle.chase_update.specs.Views.{state_of}
use Rattle.chase_update.specs.declared.points.Point.{Point}
use Rattle.chase_update.specs.declared.points.Point.TheVariants.{Reading as ReadingPoint}
use Rattle.chase_update.specs.declared.readings.Reading.{Reading}
use Rattle.chase_update.specs.declared.attempts.Parts.{Parts}

-- The parts of a program, at this point.
abbrev at_point : Parts → Point → Parts
at_point p x = record { number = p.number; attempt = p.attempt; operation = p.operation; own = p.own; steps = p.steps; nulls = p.nulls; taken = p.taken; hand = p.hand; point = x }

-- The attempt, begun in this phase.
abbrev in_phase : Attempt → Phase → Attempt
in_phase P phase = record { number = P.number; attempt = P.attempt; operation = P.operation; phase = phase; own = P.own; steps = P.steps; nulls = P.nulls; taken = P.taken }

-- Within a look it has passed: what holds of the course from where it stood and of that from where it stands now holds of those of the program.
pub passes_on : (ms : List Rule) (Goes : Course → Course → Type 0) (p q : Parts) (s : State) (r t : Reading)
    → state_of p ≡ s → p.point ≡ ReadingPoint r → q ≡ at_point p (ReadingPoint t)
    → ((P : Attempt) → P.number ≡ p.number → Goes (coming_to p.hand.budget P (row_tree ms P (reading_of r))) (coming_to p.hand.budget P (row_tree ms P (reading_of t))))
    → begun_in (reading_of t) ≡ begun_in (reading_of r) → Goes (course ms s) (course ms (state_of q))
passes_on ms Goes p q s r t v e f passed phase =
    let old : state_of (at_point p (ReadingPoint r)) ≡ s = (λ i. state_of (at_point p (sym e i))) ∙ v in
    let P = (state_of (at_point p (ReadingPoint r))).attempt in
    subst (λ (u : State). Goes (course ms u) (course ms (state_of q))) old
    (subst (λ (x : Parts). Goes (course ms (state_of (at_point p (ReadingPoint r)))) (course ms (state_of x))) (sym f)
    (subst (λ (R : Attempt). Goes (coming_to p.hand.budget P (row_tree ms P (reading_of r))) (coming_to p.hand.budget R (row_tree ms R (reading_of t)))) (sym (λ i. in_phase P (phase i))) (passed P refl)))

-- Elsewhere it is as it was.
pub stays_there : (ms : List Rule) (Goes : Course → Course → Type 0) (p q : Parts) (s : State) → state_of p ≡ s → q ≡ p → Goes (course ms s) (course ms s) → Goes (course ms s) (course ms (state_of q))
stays_there ms Goes p q s v f same = subst (λ (u : State). Goes (course ms s) (course ms u)) (sym (ap state_of f ∙ v)) same

-- Lines that go on do the same after a fold.
use Rattle.std.proofs.Common.{refl, List, [], ◌∷◌}
use Rattle.def_chase.specs.Violations.{Scope}
use Rattle.def_chase.specs.Updates.{Operation}
use Rattle.def_workspace.specs.Lines.{Line, Says, Answers, Goes, Undoes, Redoes, Forgets, Declares}
use Rattle.def_workspace.specs.Places.{greater}
use Rattle.def_workspace.specs.States.{State, done_by, declaring, taken, taken_all}
use Rattle.ws_laws.specs.Logs.{Throughout}
use Rattle.ws_laws.specs.Folds.{folded, GoesOn, ShowAlike, FoldsAreNotSeen}

module _ (scope : Operation → Scope) where
  next : (S R : State) (x : Line) → GoesOn S x → ShowAlike S R → ShowAlike (taken scope S x) (taken scope R x)
  next S R (Says u) g a =
      record { live = λ i. done_by scope (a.declared i) (a.live i) (Says u); declared = a.declared; last = λ i. greater (a.last i) u.number }
  next S R (Answers n h) g a = record { live = λ i. done_by scope (a.declared i) (a.live i) (Answers n h); declared = a.declared; last = a.last }
  next S R (Goes n) g a = record { live = λ i. done_by scope (a.declared i) (a.live i) (Goes n); declared = a.declared; last = a.last }
  next S R (Undoes ns) g a = absurd g
  next S R (Redoes ns) g a = absurd g
  next S R (Forgets ns) g a = absurd g
  next S R (Declares d) g a = record { live = a.live; declared = λ i. declaring (a.declared i) d; last = a.last }

  all : (S R : State) (xs : List Line) → Throughout scope GoesOn S xs → ShowAlike S R → ShowAlike (taken_all scope S xs) (taken_all scope R xs)
  all S R [] t a = a
  all S R (x ∷ xs) t a = all (taken scope S x) (taken scope R x) xs t.1 (next S R x t.0 a)

pub folds_are_not_seen : FoldsAreNotSeen
folds_are_not_seen scope S xs t = all scope S (folded S) xs t record { live = refl; declared = refl; last = refl }

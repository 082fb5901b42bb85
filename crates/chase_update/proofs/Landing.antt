-- What a step leaves that a repair asks on in.
use Rattle.std.proofs.Common.{◌≡◌, Bool, true, false, List}
use Rattle.def_machine.specs.Trees.{Leaf, Node}
use Rattle.def_chase.specs.Mappings.{Rule}
use Rattle.def_chase.specs.Repository.{Change}
use Rattle.def_steps.specs.Attempts.{Phase, Attempt}
use Rattle.def_steps.specs.Steps.{Asking}
use Rattle.chase_repair.specs.Repairs.{Repairing, phase_of}
use Rattle.chase_repair.specs.Stands.{settled, stand}

-- The attempt with these own writes, in this phase.
abbrev pub left_at : Attempt → List Change → Phase → Attempt
left_at P own phase = record { number = P.number; attempt = P.attempt; operation = P.operation; phase = phase; own = own; steps = P.steps; nulls = P.nulls; taken = P.taken }

-- A repair that asks on has done nothing.
pub asks_same : (ms : List Rule) (own before : List Change) (r s : Repairing) (tree : Asking) (b : Bool) → b ≡ true → stand ms b own s ≡ settled before (phase_of r) tree → (own ≡ before) × (phase_of s ≡ phase_of r)
asks_same ms own before r s tree false a e = cc
asks_same ms own before r s (Leaf m) true a e = cc
asks_same ms own before r s (Node query k) true a e =
    let w : own ≡ before = cc in
    let f : phase_of s ≡ phase_of r = cc in
    (w, f)

-- So the attempt is the same.
pub left_same : (P : Attempt) (own : List Change) (p : Phase) → (own ≡ P.own) × (p ≡ P.phase) → left_at P own p ≡ P
left_same P own p e = λ i. left_at P (e.0 i) (e.1 i)

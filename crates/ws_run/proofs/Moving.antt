-- The moves of steps: none leads back to the start, and only one that begins a repair draws nulls.
use Rattle.std.proofs.Common.{◌≡◌, ◌∙◌, ap, refl, sym, ℕ, suc, ◌==◌, nat_lt, Bool, true, false, if◌then◌else◌, List, [], ◌∷◌, ◌++◌, length, map, Option, Some, None, is_some}
use Rattle.std.specs.List.{slice_get}
use Rattle.def_machine.specs.Trees.{Leaf, Node, result_of}
use Rattle.def_chase.specs.Values.{NullName, Fact}
use Rattle.def_chase.specs.Repository.{Change, Insert, Delete}
use Rattle.def_chase.specs.Mappings.{Rule, force}
use Rattle.def_chase.specs.Violations.{Direction, Forward, Backward}
use Rattle.def_chase.specs.Queries.{Query, Reply}
use Rattle.def_chase.specs.Updates.{direction_of, Operation, Adds, Removes, Replaces, Enacts, Choice, Expand, Unify, Drop}
use Rattle.def_steps.specs.Attempts.{Outcome, Done, Refused, Repair, Question, Positive, Negative, Phase, Start, Look, Generate, Asked, Ended, Attempt}
use Rattle.def_steps.specs.Rewriting.{nulls_in, null_of, in_order, moved_nulls, right_atoms, next_atom, generated}
use Rattle.def_steps.specs.Questions.{candidate, named}
use Rattle.def_steps.specs.Steps.{Move, Asking, makes, tuples_of, image_in, is_yes, Holders, unless_none, find_nulls, start, negative, repair, repair_or, look_at, look_from, compared, generate, gather, unify, answer, by_answer, step_in, step}
use Rattle.def_workspace.specs.Runs.{repair_at}
use Rattle.chase_update.specs.Starting.{is_start}

-- The move does not lead to the start, and if it draws nulls, it begins a repair.
pub record IsOnward (m : Move) : Type 0 where
  pub goes_on : is_start m.phase ≡ false
  pub draws : is_some (repair_at m.phase) ≡ false → m.drawn ≡ 0

-- All moves of a step, whatever is answered.
abbrev pub AllMoves : (Move → Type 0) → Asking → Type 0
AllMoves G (Leaf m) = G m
AllMoves G (Node q k) = (a : Reply) → AllMoves G (k a)

pub result_moves : (G : Move → Type 0) (f : Query → Reply) (t : Asking) → AllMoves G t → G (result_of f t)
result_moves G f (Leaf m) h = h
result_moves G f (Node q k) h = result_moves G f (k (f q)) (h (f q))

-- ---- moves by their phases

module _ (G : Move → Type 0) where
  if_moves : (b : Bool) (x y : Asking) → AllMoves G x → AllMoves G y → AllMoves G (if b then x else y)
  if_moves true x y h k = h
  if_moves false x y h k = k

  unless_moves : (n : NullName) (ts : List Fact) (rest : Asking) → AllMoves G (makes [] (Ended (Refused n))) → AllMoves G rest → AllMoves G (unless_none n ts rest)
  unless_moves n [] rest h k = h
  unless_moves n (t ∷ ts) rest h k = k

  find_moves : (ns : List NullName) (go : Holders → Asking) → ((n : NullName) → AllMoves G (makes [] (Ended (Refused n)))) → ((hs : Holders) → AllMoves G (go hs))
      → AllMoves G (find_nulls ns go)
  find_moves [] go h k = k []
  find_moves (n ∷ ns) go h k = λ a. unless_moves n (tuples_of a) _ (h n) (find_moves ns (λ hs. go ((n, tuples_of a) ∷ hs)) h (λ hs. k ((n, tuples_of a) ∷ hs)))

  -- The first step looks next, or is refused.
  start_moves : ((n : NullName) → AllMoves G (makes [] (Ended (Refused n)))) → ((ws : List Change) → AllMoves G (makes ws Look)) → (op : Operation) → AllMoves G (start op)
  start_moves h k (Adds t) = find_moves (nulls_in t.values) _ h (λ hs a. if_moves (is_yes a) _ _ (k _) (k _))
  start_moves h k (Removes t) = find_moves (nulls_in t.values) _ h (λ hs a. if_moves (is_yes a) _ _ (k _) (k _))
  start_moves h k (Replaces n v) = λ a. unless_moves n (tuples_of a) _ (h n) (find_moves (null_of v) _ h (λ hs. k _))
  start_moves h k (Enacts n) = k _

-- The first step begins no repair.
abbrev pub BeginsNone : Move → Type 0
BeginsNone m = repair_at m.phase ≡ None

pub start_begins_none : (op : Operation) (f : Query → Reply) → BeginsNone (result_of f (start op))
start_begins_none op f = result_moves BeginsNone f (start op) (start_moves BeginsNone (λ n. refl) (λ ws. refl) op)

-- ---- moves of each phase

makes_on : (ws : List Change) (p : Phase) → is_start p ≡ false → IsOnward record { writes = ws; phase = p; drawn = 0 }
makes_on ws p e = record { goes_on = e; draws = λ h. refl }

next_on : (ms : List Rule) (r : Repair) → is_start (next_atom ms r) ≡ false
next_on ms r = by (nat_lt (suc r.atom) (length (right_atoms (slice_get ms r.mapping))))
  where
    by : (b : Bool) → is_start (if b then Generate record { mapping = r.mapping; binding = r.binding; atom = suc r.atom } else Look) ≡ false
    by true = refl
    by false = refl

negative_on : (n : ℕ) (ts : List Fact) → AllMoves IsOnward (negative n ts)
negative_on n [] = makes_on _ Look refl
negative_on n (t ∷ []) = makes_on _ Look refl
negative_on n (t ∷ s ∷ ts) = makes_on _ (Asked (Negative n (t ∷ s ∷ ts))) refl

repair_on : (P : Attempt) (d : Direction) (n : ℕ) (m : Rule) (image : List Fact) → AllMoves IsOnward (repair P d n m image)
repair_on P Forward n m image = record { goes_on = refl; draws = λ h. let never : true ≡ false = h in cc }
repair_on P Backward n m image = negative_on n (in_order image)

repair_or_on : (P : Attempt) (n : ℕ) (m : Rule) (o : Option (List Fact)) (rest : Asking) → AllMoves IsOnward rest → AllMoves IsOnward (repair_or P n m o rest)
repair_or_on P n m None rest h = h
repair_or_on P n m (Some image) rest h = repair_on P (direction_of P.operation) n m image

look_at_on : (P : Attempt) (n : ℕ) (m : Rule) (rest : Asking) → AllMoves IsOnward rest → AllMoves IsOnward (look_at P n m rest)
look_at_on P n m rest h = λ a. repair_or_on P n m (image_in a) rest h

look_from_on : (P : Attempt) (n : ℕ) (ms : List Rule) → AllMoves IsOnward (look_from P n ms)
look_from_on P n [] = makes_on [] (Ended Done) refl
look_from_on P n (m ∷ ms) =
    if_moves IsOnward (m.since == 0) _ _ (look_at_on P n m _ (look_from_on P (suc n) ms))
    (if_moves IsOnward (nat_lt P.number m.since) _ _ (look_from_on P (suc n) ms)
    (λ a. if_moves IsOnward (is_yes a) _ _ (look_at_on P n m _ (look_from_on P (suc n) ms)) (look_from_on P (suc n) ms)))

compared_on : (ms : List Rule) (r : Repair) (t : Fact) (cs : List Fact) → AllMoves IsOnward (compared ms r t cs)
compared_on ms r t [] = makes_on _ (next_atom ms r) (next_on ms r)
compared_on ms r t (c ∷ cs) = makes_on [] (Asked (Positive r t (c ∷ cs))) refl

generate_on : (ms : List Rule) (r : Repair) (t : Fact) → AllMoves IsOnward (generate ms r t)
generate_on ms r t = λ a. if_moves IsOnward (is_yes a) _ _ (makes_on [] (next_atom ms r) (next_on ms r)) (λ b. compared_on ms r t (tuples_of b))

gather_on : (ns : List NullName) (go : List Fact → Asking) → ((ts : List Fact) → AllMoves IsOnward (go ts)) → AllMoves IsOnward (gather ns go)
gather_on [] go h = h []
gather_on (n ∷ ns) go h = λ a. gather_on ns (λ ts. go (tuples_of a ++ ts)) (λ ts. h (tuples_of a ++ ts))

answer_on : (ms : List Rule) (q : Question) (c : Choice) → AllMoves IsOnward (answer ms q c)
answer_on ms (Positive r t cs) Expand = makes_on _ (next_atom ms r) (next_on ms r)
answer_on ms (Positive r t cs) (Unify o) = gather_on (moved_nulls t (candidate t cs o)) _ (λ ts. makes_on _ _ (next_on ms _))
answer_on ms (Positive r t cs) (Drop os) = makes_on [] (Asked (Positive r t cs)) refl
answer_on ms (Negative n ts) Expand = makes_on [] (Asked (Negative n ts)) refl
answer_on ms (Negative n ts) (Unify o) = makes_on [] (Asked (Negative n ts)) refl
answer_on ms (Negative n ts) (Drop os) = makes_on _ Look refl

by_answer_on : (ms : List Rule) (q : Question) (c : Option Choice) → AllMoves IsOnward (by_answer ms q c)
by_answer_on ms q None = makes_on [] (Asked q) refl
by_answer_on ms q (Some c) = answer_on ms q c

step_in_on : (ms : List Rule) (P : Attempt) (c : Option Choice) (p : Phase) → AllMoves IsOnward (step_in ms P c p)
step_in_on ms P c Start = start_moves IsOnward (λ n. makes_on [] (Ended (Refused n)) refl) (λ ws. makes_on ws Look refl) P.operation
step_in_on ms P c Look = look_from_on P 0 ms
step_in_on ms P c (Generate r) = generate_on ms r (generated ms r)
step_in_on ms P c (Asked q) = by_answer_on ms q c
step_in_on ms P c (Ended o) = makes_on [] (Ended o) refl

-- The move of each step is onward.
pub moves_on : (ms : List Rule) (P : Attempt) (c : Option Choice) (f : Query → Reply) → IsOnward (result_of f (step ms P c))
moves_on ms P c f = result_moves IsOnward f (step ms P c) (step_in_on ms P c P.phase)

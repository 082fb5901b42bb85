-- A machine whose updates make steps that ask queries of a repository, and the laws that it must meet.
use Rattle.std.specs.Prelude.{◌≡◌, ℕ, suc, ◌≤◌, Bool, true, false, if◌then◌else◌, List, [], ◌++◌, Option, None, is_some}
use Rattle.std.specs.List.{AllByRecursion}
use Rattle.def_machine.specs.Trees.{Tree}

-- How an attempt ends: its work is done, its budget of steps has run out, or it is refused for something that it names.
pub data Outcome : Type 0 where
  Done : Outcome
  Spent : Outcome
  Refused : Outcome

-- A machine. A state is the state of one attempt at one update; it holds everything that the attempt knows, with the writes that
-- it has made.
pub record Machine : Type 1 where
  pub Query : Type 0
  pub Reply : Type 0
  pub Write : Type 0
  -- the questions to people, and their answers
  pub Question : Type 0
  pub Choice : Type 0
  -- the operations with which updates are handed in
  pub Operation : Type 0
  pub Repository : Type 0
  pub State : Type 0
  -- the result of a step
  pub Move : Type 0
  -- whether two replies are the same
  pub same : Reply → Reply → Bool
  -- the repository after the writes
  pub apply : Repository → List Write → Repository
  -- the reply over the repository to a query of an attempt at the operation that has made these writes
  pub value : Operation → Query → Repository → List Write → Reply
  -- the state in which an attempt begins, by the update's number, the attempt's number and the operation
  pub begin : ℕ → ℕ → Operation → State
  -- the question at which the state waits, if it does
  pub question : State → Option Question
  -- whether a choice answers a question
  pub fits : Question → Choice → Bool
  -- the next step of a state that has not ended: its queries and the move. Only a state that waits gets a choice, which must fit
  pub step : State → Option Choice → Tree Query Reply Move
  pub moved : State → Move → State
  pub writes : Move → List Write
  -- the writes that the attempt made so far, in order
  pub own : State → List Write
  -- how the attempt ended, if it did
  pub outcome : State → Option Outcome
  -- the numbers of answers that the attempt has taken and of steps that it has made
  pub taken : State → ℕ
  pub count : State → ℕ
  -- the number of steps that an attempt may make
  pub budget : ℕ
  -- the relations, by number: those that a query mentions, and the one that a write is of
  pub mentions : Query → ℕ → Bool
  pub touches : Write → ℕ
  -- what every repository must satisfy, such as being a list in order
  pub Sound : Repository → Type 0
  -- the repositories agree on each relation that passes the test
  pub Alike : (ℕ → Bool) → Repository → Repository → Type 0

-- No write is of a relation that passes the test.
abbrev pub Avoids : (M : Machine) → (ℕ → Bool) → List M.Write → Type 0
Avoids M p ws = AllByRecursion (λ w. p (M.touches w) ≡ false) ws

-- The laws of a machine. The last four are about relations: a query's reply depends only on the relations that it mentions.
pub record Laws (M : Machine) : Type 0 where
  pub same_is : (a b : M.Reply) → M.same a b ≡ true → a ≡ b
  pub same_self : (a : M.Reply) → M.same a a ≡ true
  pub apply_none : (D : M.Repository) → M.apply D [] ≡ D
  pub apply_join : (D : M.Repository) (ws vs : List M.Write) → M.apply D (ws ++ vs) ≡ M.apply (M.apply D ws) vs
  pub begin_own : (n a : ℕ) (op : M.Operation) → M.own (M.begin n a op) ≡ []
  pub begin_taken : (n a : ℕ) (op : M.Operation) → M.taken (M.begin n a op) ≡ 0
  pub begin_count : (n a : ℕ) (op : M.Operation) → M.count (M.begin n a op) ≡ 0
  pub moved_own : (P : M.State) (m : M.Move) → M.own (M.moved P m) ≡ M.own P ++ M.writes m
  pub moved_taken : (P : M.State) (m : M.Move)
      → M.taken (M.moved P m) ≡ (if is_some (M.question P) then suc (M.taken P) else M.taken P)
  pub moved_count : (P : M.State) (m : M.Move) → M.count (M.moved P m) ≡ suc (M.count P)
  -- an attempt that has made all its steps has ended
  pub some_budget : 1 ≤ M.budget
  pub bounded : (P : M.State) (m : M.Move) → suc (M.count P) ≤ M.budget → M.outcome (M.moved P m) ≡ None
      → suc (M.count (M.moved P m)) ≤ M.budget
  pub sound_apply : (D : M.Repository) (ws : List M.Write) → M.Sound D → M.Sound (M.apply D ws)
  pub alike_same : (p : ℕ → Bool) (D : M.Repository) → M.Sound D → M.Alike p D D
  pub alike_apply : (p : ℕ → Bool) (D E : M.Repository) (ws : List M.Write) → M.Alike p D E
      → M.Alike p (M.apply D ws) (M.apply E ws)
  pub alike_skip : (p : ℕ → Bool) (D E : M.Repository) (ws : List M.Write) → Avoids M p ws → M.Alike p D E
      → M.Alike p (M.apply D ws) E
  pub alike_value : (op : M.Operation) (q : M.Query) (D E : M.Repository) (own : List M.Write)
      → M.Alike (M.mentions q) D E → M.value op q D own ≡ M.value op q E own

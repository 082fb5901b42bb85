-- A small machine: an update writes an item unless it finds another one, and may then ask a person for one more item to write.
use Rattle.std.specs.Prelude.{◌≡◌, ℕ, suc, ◌==◌, nat_lt, Bool, true, false, not, if◌then◌else◌, List, [], ◌∷◌, ◌++◌, filter, Option, Some, None, is_some}
use Rattle.def_machine.specs.Trees.{Tree, Leaf, Node}
use Rattle.def_machine.specs.Machine.{Machine, Outcome, Done, Spent}
use Rattle.def_machine.specs.Standings.{is_nil}

-- A task: it looks for one item and writes the other if the first is missing; then it asks, or is done.
pub record Task : Type 0 where
  pub looks_for : ℕ
  pub writes : ℕ
  pub asks : Bool

-- An attempt at the task: its writes, the numbers of steps made and answers taken, and whether it is done.
pub record Small : Type 0 where
  pub task : Task
  pub own : List ℕ
  pub count : ℕ
  pub taken : ℕ
  pub done : Bool

-- The move of a step: its writes, and whether the task is done.
pub record SmallMove : Type 0 where
  pub wrote : List ℕ
  pub done : Bool

-- The only question, which any item except 0 answers.
pub data What : Type 0 where
  What_else : What

-- The outcome: done, or spent after a budget of B steps.
abbrev pub small_outcome : ℕ → Small → Option Outcome
small_outcome B P = if P.done then Some Done else (if nat_lt P.count B then None else Some Spent)

-- After its first step an attempt waits for an answer.
abbrev pub small_question : Small → Option What
small_question P = if P.count == 0 then None else Some What_else

-- The step: without an answer it looks for its item; with an answer it writes the item of the answer.
abbrev pub small_step : Task → Option ℕ → Tree ℕ Bool SmallMove
small_step t None = Node t.looks_for (λ found. Leaf (record { wrote = if found then [] else t.writes ∷ []; done = not t.asks }))
small_step t (Some c) = Leaf (record { wrote = c ∷ []; done = true })

-- The items are the relations: a query asks whether an item was ever written.
abbrev pub small : ℕ → Machine
small B =
    record {
      Query = ℕ;
      Reply = Bool;
      Write = ℕ;
      Question = What;
      Choice = ℕ;
      Operation = Task;
      Repository = List ℕ;
      State = Small;
      Move = SmallMove;
      same = λ a b. if a then b else not b;
      apply = λ D ws. D ++ ws;
      value = λ op q D own. not (is_nil (filter (λ r. q == r) (D ++ own)));
      begin = λ n a op. record { task = op; own = []; count = 0; taken = 0; done = false };
      question = small_question;
      fits = λ q c. not (c == 0);
      step = λ P c. small_step P.task c;
      moved = λ P m. record {
        task = P.task;
        own = P.own ++ m.wrote;
        count = suc P.count;
        taken = if is_some (small_question P) then suc P.taken else P.taken;
        done = m.done;
      };
      writes = λ m. m.wrote;
      own = λ P. P.own;
      outcome = small_outcome B;
      taken = λ P. P.taken;
      count = λ P. P.count;
      budget = B;
      mentions = λ q r. q == r;
      touches = λ w. w;
      Sound = λ D. Unit {0};
      Alike = λ p D E. filter p D ≡ filter p E;
    }

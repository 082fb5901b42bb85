-- The chase as a machine: its updates make the steps of this crate, over repositories of tuples.
use Rattle.std.specs.Prelude.{◌≡◌, ℕ, Bool, true, List}
use Rattle.std.specs.Option.{option_map}
use Rattle.def_machine.specs.Machine.{Machine}
use Rattle.def_chase.specs.Values.{Fact}
use Rattle.def_chase.specs.Repository.{Change, Insert, Delete, IsRepository, has, apply}
use Rattle.def_chase.specs.Mappings.{Rule}
use Rattle.def_chase.specs.Violations.{Scope, Every, Caused}
use Rattle.def_chase.specs.Queries.{Query, Reply, same_reply, value}
use Rattle.def_chase.specs.Mentions.{mentions}
use Rattle.def_chase.specs.Updates.{Operation, direction_of, Choice}
use Rattle.def_steps.specs.Attempts.{Outcome, Done, Spent, Refused, Question, Attempt, begun, question_in, outcome_in}
use Rattle.def_steps.specs.Questions.{fits}
use Rattle.def_steps.specs.Steps.{Move, step, moved}

-- The relation of the tuple that is written.
abbrev pub relation_of : Change → ℕ
relation_of (Insert t) = t.relation
relation_of (Delete t) = t.relation

-- Two repositories have the same tuples of the relations that pass the test.
pub record AgreeOn (p : ℕ → Bool) (D E : List Fact) : Type 0 where
  pub sorted : IsRepository D
  pub also : IsRepository E
  pub same : (t : Fact) → p t.relation ≡ true → has D t ≡ has E t

-- How the attempt ended, in the terms of a machine, for which a refusal has no null.
abbrev pub ending : Outcome → Rattle.def_machine.specs.Machine.Outcome
ending Done = Rattle.def_machine.specs.Machine.Done
ending Spent = Rattle.def_machine.specs.Machine.Spent
ending (Refused n) = Rattle.def_machine.specs.Machine.Refused

-- The chase with these mappings and this budget of steps. Given the update's operation, the scope says which violations a look
-- counts.
abbrev pub chase : (Operation → Scope) → List Rule → ℕ → Machine
chase scope ms B =
    record {
      Query = Query;
      Reply = Reply;
      Write = Change;
      Question = Question;
      Choice = Choice;
      Operation = Operation;
      Repository = List Fact;
      State = Attempt;
      Move = Move;
      same = same_reply;
      apply = apply;
      value = λ op q D own. value ms q D own (scope op);
      begin = begun;
      question = λ P. question_in P.phase;
      fits = fits;
      step = λ P c. step ms P c;
      moved = moved B;
      writes = λ m. m.writes;
      own = λ P. P.own;
      outcome = λ P. option_map ending (outcome_in P.phase);
      taken = λ P. P.taken;
      count = λ P. P.steps;
      budget = B;
      mentions = mentions ms;
      touches = relation_of;
      Sound = IsRepository;
      Alike = AgreeOn;
    }

-- Every violation counts, whatever the operation.
abbrev pub every : Operation → Scope
every op = Every

-- Only the violations that the update caused in its direction count.
abbrev pub caused : Operation → Scope
caused op = Caused (direction_of op)

-- The chase that looks at every violation. The serial machine is defined by it.
abbrev pub whole_chase : List Rule → ℕ → Machine
whole_chase = chase every

-- The chase that looks only at the violations that the update caused. Attempts in any order use it.
abbrev pub caused_chase : List Rule → ℕ → Machine
caused_chase = chase caused

-- A log worked line by line: the state after each part of it, as an independent reference has it.
use Rattle.std.specs.Prelude.{◌≡◌, ℕ, List, [], ◌∷◌, ◌++◌, map, pos}
use Rattle.def_chase.specs.Values.{Datum, Number, Unknown, Fact}
use Rattle.def_chase.specs.Mappings.{Var}
use Rattle.def_chase.specs.Updates.{Unify}
use Rattle.def_steps.specs.Chase.{every}
use Rattle.def_workspace.specs.Lines.{Known, New, SpelledFact, Inserts, Forces, By, Declared, Line, Says, Answers, Undoes, Redoes, Declares}
use Rattle.def_workspace.specs.Names.{fact_named}
use Rattle.def_workspace.specs.Worlds.{World, Waiting, Standing}
use Rattle.def_workspace.specs.States.{State, taken_all}

-- The numbers of the relations: A(x, y), B(x, z), C(z, w).
abbrev pub pair : ℕ → Datum → Datum → Fact
pair r d e = record { relation = r; values = d ∷ e ∷ [] }

abbrev pub num : ℕ → Datum
num n = Number (pos n)

-- The name of an unknown.
abbrev pub called : ℕ → ℕ → Datum
called u p = Unknown record { update = u; attempt = 0; place = p }

abbrev pub says : ℕ → List SpelledFact → Line
says n ts = Says record { number = n; steps = 300; deed = Inserts ts }

-- mapping m: A(x, y) -> B(x, z), C(z, w)
abbrev pub mapping : Declared
mapping =
    record {
      name = 109 ∷ [];
      variables = (120 ∷ []) ∷ (121 ∷ []) ∷ (122 ∷ []) ∷ (119 ∷ []) ∷ [];
      rule = record {
        since = 0;
        universal = 2;
        existential = 2;
        left = record { relation = 0; terms = Var 0 ∷ Var 1 ∷ [] } ∷ [];
        right = record { relation = 1; terms = Var 0 ∷ Var 2 ∷ [] } ∷ record { relation = 2; terms = Var 2 ∷ Var 3 ∷ [] } ∷ [];
      };
    }

-- 1 insert C(5, 6); 2 force m; 3 insert A(1, 2), which asks whether C(?3.1, ?3.2) is C(5, 6).
abbrev pub asking : List Line
asking =
    Declares mapping
    ∷ says 1 (record { relation = 2; values = Known (num 5) ∷ Known (num 6) ∷ [] } ∷ [])
    ∷ Says record { number = 2; steps = 300; deed = Forces 0 }
    ∷ says 3 (record { relation = 0; values = Known (num 1) ∷ Known (num 2) ∷ [] } ∷ [])
    ∷ []

-- The answer is yes; and 4 insert B(?, ?).
abbrev pub answering : List Line
answering =
    Answers 3 record { choice = Unify (pair 2 (num 5) (num 6)); asked = record { source = By 0; tuples = pair 2 (called 3 1) (called 3 2) ∷ [] } }
    ∷ says 4 (record { relation = 1; values = New 1 ∷ New 2 ∷ [] } ∷ [])
    ∷ []

abbrev pub nothing : World
nothing = record { facts = []; last = 0; names = []; in_force = []; gone = []; order = []; waiting = [] }

abbrev pub begun : State
begun =
    record {
      base = nothing;
      lines = [];
      undone = [];
      forgotten = [];
      cleared = [];
      declared = [];
      last = 0;
      live = record { world = nothing; tables = [] };
    }

-- The tuples by names after these lines, and the numbers of the updates that stand and that wait.
abbrev pub shown : List Line → List Fact
shown ls = let w = (taken_all every begun ls).live.world in map (fact_named w.names) w.facts

abbrev pub standing : List Line → List ℕ
standing ls = map (λ (s : Standing). s.update.number) (taken_all every begun ls).live.world.order

abbrev pub waiting : List Line → List ℕ
waiting ls = map (λ (v : Waiting). v.update.number) (taken_all every begun ls).live.world.waiting

-- An update that waits changes nothing; with its answer it stands; an unknown is named by its update; and after an undo of update
-- 1, update 3 draws the unknowns that it had when it asked, with the same names.
pub record Worked : Type 0 where
  pub asks : shown asking ≡ pair 2 (num 5) (num 6) ∷ []
  pub waits : waiting asking ≡ 3 ∷ []
  pub answered : shown (asking ++ answering) ≡ pair 0 (num 1) (num 2) ∷ pair 1 (num 1) (num 5) ∷ pair 1 (called 4 1) (called 4 2) ∷ pair 2 (num 5) (num 6) ∷ []
  pub stands : standing (asking ++ answering) ≡ 1 ∷ 2 ∷ 3 ∷ 4 ∷ []
  pub undone : shown (asking ++ (answering ++ Undoes (1 ∷ []) ∷ []))
      ≡ pair 0 (num 1) (num 2) ∷ pair 1 (num 1) (called 3 1) ∷ pair 1 (called 4 1) (called 4 2) ∷ pair 2 (called 3 1) (called 3 2) ∷ []
  pub redone : shown (asking ++ (answering ++ Undoes (1 ∷ []) ∷ Redoes (1 ∷ []) ∷ [])) ≡ shown (asking ++ answering)

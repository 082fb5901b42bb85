-- Words that are not refused ask for something.
use Rattle.std.proofs.Common.{◌≡◌, ◌∙◌, ◌≤◌, ◌&&◌, ◌||◌, Bool, not, true, false, length, List, [], ◌∷◌, Option, Some, None, refl, sym, ap, arith, true≢false, option_map, codes}
use Rattle.std.specs.List.{list_any}
use Rattle.std.specs.Option.{option_map_or}
use Rattle.std.specs.Borrow.{Bor}
use Rattle.std.specs.Str.{bytes_eq}
use Rattle.std.proofs.lemmas.Slice.Eq.{bytes_eq-Decides}
use Rattle.clap.specs.Kinds.{Kinds}
use Rattle.clap.specs.Walk.{Text, first_of}
use Rattle.clap.specs.declared.error.kind.ErrorKind.{ErrorKind}
use Rattle.clap.specs.declared.error.kind.ErrorKind.TheVariants as kind
use Rattle.clap.proofs.WalkLemmas.{both}
use Rattle.cmd_words.specs.Arguments.{faults_of, flag_at, number_at, rows_at}
use Rattle.cmd_words.specs.Meaning.{Answers, Says, can_be_done, is_refused, names_command, names_deps, refuses}
use Rattle.cmd_words.specs.Names.{command_text, commands, deps_text, is_command, is_deps}
use Rattle.cmd_words.specs.declared.names.CommandName.{CommandName}
use Rattle.cmd_words.specs.declared.names.Deps.{Deps}
use Rattle.cmd_words.specs.declared.names.Deps.TheVariants.{Coarse, Precise}
use Rattle.cmd_words.specs.declared.reading.Options.{Options}
use Rattle.cmd_words.specs.declared.reading.Request.{Request}
use Rattle.cmd_words.specs.declared.reading.Request.TheVariants.{Command, Help, Version}
use Rattle.cmd_words.proofs.Numbers.{number_in}
use Rattle.cmd_words.proofs.OneFault.{one_fault}
use Rattle.cmd_words.proofs.Refusals.{refused_as}

-- ---- the texts that are given

any_given : {X : Type 0} (test : X → Bool) (xs : List X) → list_any test xs ≡ true → (x : X) × (test x ≡ true)
any_given test [] e = absurd (true≢false (sym e))
any_given {X} test (x ∷ xs) e = by (test x) refl e (any_given test xs)
  where
    by : (b : Bool) → test x ≡ b → (b || list_any test xs) ≡ true → (list_any test xs ≡ true → (y : X) × (test y ≡ true)) → (y : X) × (test y ≡ true)
    by true is e rest = (x, is)
    by false is e rest = rest e

command_given : (o : Option Text) → option_map_or is_command o false ≡ true → (c : CommandName) × (o ≡ Some (command_text c))
command_given None e = absurd (true≢false (sym e))
command_given (Some t) e =
    let got = any_given (λ (c : CommandName). bytes_eq t (command_text c)) commands e in
    (got.0, ap (λ (u : Text). Some u) ((bytes_eq-Decides t (command_text got.0)).0 got.1))

deps_given : (o : Option Text) → option_map_or is_deps o false ≡ true → (d : Deps) × (o ≡ Some (deps_text d))
deps_given None e = absurd (true≢false (sym e))
deps_given (Some t) e =
    let got = any_given (λ (d : Deps). bytes_eq t (deps_text d)) (Coarse ∷ Precise ∷ []) e in
    (got.0, ap (λ (u : Text). Some u) ((bytes_eq-Decides t (deps_text got.0)).0 got.1))

-- a text somewhere in memory
abbrev shown : Option Text → Option (Bor Text)
shown None = None
shown (Some t) = Some (record { ref_ptr = (0, 0); now = t })

shown_is : (o : Option Text) → option_map (λ text. text.now) (shown o) ≡ o
shown_is None = refl
shown_is (Some t) = refl

-- ---- the request

said : (ws : List Text) → faults_of ws ≡ [] → (c : CommandName) → first_of (codes "command") (rows_at ws) ≡ Some (command_text c)
    → (d : Deps) → first_of (codes "deps") (rows_at ws) ≡ Some (deps_text d) → (request : Request) × Answers ws request
said ws takes c command d deps = (Command options, says)
  where
    options : Options
    options = record {
      command = c;
      workers = number_at (codes "workers") (rows_at ws);
      deps = d;
      steps = number_at (codes "steps") (rows_at ws);
      retries = number_at (codes "retries") (rows_at ws);
      count = number_at (codes "count") (rows_at ws);
      seed = number_at (codes "seed") (rows_at ws);
      tuple = shown (first_of (codes "tuple") (rows_at ws));
      query = shown (first_of (codes "query") (rows_at ws));
      trace = flag_at (codes "trace") (rows_at ws);
    }

    says : Says ws options
    says = record {
      taken = takes;
      command = command;
      deps = deps;
      workers = number_in ws takes 1 (codes "workers") 1 16 (codes "4") refl refl;
      steps = number_in ws takes 3 (codes "steps") 1 300 (codes "100") refl refl;
      retries = number_in ws takes 4 (codes "retries") 0 4 (codes "3") refl refl;
      count = number_in ws takes 6 (codes "count") 1 1000 (codes "60") refl refl;
      seed = number_in ws takes 7 (codes "seed") 0 4294967295 (codes "1") refl refl;
      tuple = shown_is (first_of (codes "tuple") (rows_at ws));
      query = shown_is (first_of (codes "query") (rows_at ws));
      trace = refl;
    }

taken_words : (ws : List Text) → faults_of ws ≡ [] → not (can_be_done (rows_at ws)) ≡ false → (request : Request) × Answers ws request
taken_words ws takes known =
    let two = both (names_command (rows_at ws)) (names_deps (rows_at ws)) (never_not _ known) in
    let command = command_given (first_of (codes "command") (rows_at ws)) two.0 in
    let deps = deps_given (first_of (codes "deps") (rows_at ws)) two.1 in
    said ws takes command.0 command.1 deps.0 deps.1
  where
    never_not : (b : Bool) → not b ≡ false → b ≡ true
    never_not true e = refl
    never_not false e = absurd (true≢false e)

called : (ws : List Text) (k : ErrorKind) → faults_of ws ≡ k ∷ [] → refuses k ≡ false → (request : Request) × Answers ws request
called ws kind.DisplayHelp is e = (Help, is)
called ws kind.DisplayVersion is e = (Version, is)
called ws _ is e = absurd (true≢false e)

pub answered : (ws : List Text) → is_refused ws ≡ false → (request : Request) × Answers ws request
answered ws accepted = by (faults_of ws) refl (one_fault ws)
  where
    sides : (b : Bool) → (let no_more : Bool = false in (b || no_more) || no_more) ≡ false → b ≡ false
    sides true e = e
    sides false e = refl

    by : (kinds : Kinds) → faults_of ws ≡ kinds → length kinds ≤ 1 → (request : Request) × Answers ws request
    by [] is few = taken_words ws is (sym (refused_as ws [] is) ∙ accepted)
    by (k ∷ []) is few = called ws k is (sides (refuses k) (sym (refused_as ws (k ∷ []) is) ∙ accepted))
    by (k ∷ l ∷ kinds) is few = absurd (omega arith)

-- Which words are refused, and that those that are answered are not.
use Rattle.std.proofs.Common.{◌≡◌, ◌∙◌, ◌≤◌, ◌⊎◌, ◌&&◌, ◌||◌, not, ap, ap₂, Bool, true, false, List, [], ◌∷◌, length, Option, Some, None, Result, Ok, Err, IfOk, IfErr, OnOk, refl, sym, subst, inl, inr, arith, codes, option_map}
use Rattle.std.specs.Option.{option_map_or}
use Rattle.std.specs.List.{list_any}
use Rattle.std.specs.Borrow.{Bor}
use Rattle.std.specs.Str.{bytes_eq}
use Rattle.std.proofs.lemmas.Result.{IfOk-weaker}
use Rattle.clap.specs.Walk.{is_empty}
use Rattle.clap.specs.Words.{App, HasKind, IsAmong, Kinds, Text, fault_of, first_of, is_simple_and_free, kind_of}
use Rattle.clap.specs.declared.error.Error.{Error}
use Rattle.clap.specs.declared.error.kind.ErrorKind.{ErrorKind}
use Rattle.clap.specs.declared.error.kind.ErrorKind.TheVariants as kind
use Rattle.cmd_words.specs.declared.names.CommandName.{CommandName}
use Rattle.cmd_words.specs.declared.names.CommandName.TheVariants as command
use Rattle.cmd_words.specs.declared.names.Deps.{Deps}
use Rattle.cmd_words.specs.declared.names.Deps.TheVariants as deps
use Rattle.cmd_words.specs.declared.reading.Options.{Options}
use Rattle.cmd_words.specs.declared.reading.Request.{Request}
use Rattle.cmd_words.specs.declared.reading.Request.TheVariants.{Command, Help, Version}
use Rattle.cmd_words.specs.declared.reading.WordsRefusal.{WordsRefusal}
use Rattle.cmd_words.specs.declared.reading.WordsRefusal.TheVariants.{Usage, Memory}
use Rattle.cmd_words.specs.Arguments.{faults_of, rows_at, youtopia_app}
use Rattle.cmd_words.specs.Meaning.{Answers, HasRanges, Says, answer_to, can_be_done, is_refused, names_command, names_deps, refuses}
use Rattle.cmd_words.specs.Names.{command_text, deps_text, is_command, is_deps}
use Rattle.cmd_words.proofs.OneFault.{one_fault}

ok_is : (p q : Request) → (let s : Result Request WordsRefusal = Ok p in s) ≡ Ok q → p ≡ q
ok_is p q e = cc

no_ok : (refusal : WordsRefusal) (request : Request) → (let s : Result Request WordsRefusal = Err refusal in s) ≡ Ok request → ⊥
no_ok refusal request e = cc

not_memory : (let s : Result Request WordsRefusal = Err Memory in s) ≡ Err Usage → ⊥
not_memory e = cc

is_plain_app : is_simple_and_free youtopia_app ≡ true
is_plain_app = refl

-- a kind of error that clap gives, as the command in words has it
among : (a : App) (ws : List Text) (e : Error) → a ≡ youtopia_app → (is_simple_and_free a ≡ true → HasKind (fault_of a ws) e)
    → (kind_of e ≡ kind.OutOfMemory) ⊎ IsAmong (kind_of e) (faults_of ws)
among a ws e is kinds = elim (kinds (ap is_simple_and_free is ∙ is_plain_app)) [
  | inl memory ↦ inl memory
  | inr one ↦ inr (subst (IsAmong (kind_of e)) (ap (λ x. fault_of x ws) is) one)
]

-- the one kind that there may be
sole : (k : ErrorKind) (ks : Kinds) → length ks ≤ 1 → IsAmong k ks → ks ≡ k ∷ []
sole k [] few one = absurd one
sole k (x ∷ []) few one = elim one [
  | inl same ↦ ap (λ (y : ErrorKind). y ∷ []) (sym same)
  | inr none ↦ absurd none
]
sole k (x ∷ y ∷ ks) few one = absurd (omega arith)

-- ---- what is refused

-- `is_refused`, by what clap finds
abbrev pub refused_by : List Text → Kinds → Bool
refused_by ws kinds = list_any refuses kinds || (is_empty kinds && not (can_be_done (rows_at ws)))

pub refused_as : (ws : List Text) (kinds : Kinds) → faults_of ws ≡ kinds → is_refused ws ≡ refused_by ws kinds
refused_as ws kinds is = ap (refused_by ws) is

refusing : (k : ErrorKind) → answer_to k ≡ Err Usage → refuses k ≡ true
refusing kind.DisplayHelp e = absurd (no_ok Usage Help (sym e))
refusing kind.DisplayVersion e = absurd (no_ok Usage Version (sym e))
refusing _ e = refl

by_clap : (ws : List Text) (k : ErrorKind) → IsAmong k (faults_of ws) → refuses k ≡ true → is_refused ws ≡ true
by_clap ws k one refuses_it = refused_as ws (k ∷ []) (sole k (faults_of ws) (one_fault ws) one) ∙ head (refuses k) refuses_it
  where
    head : (b : Bool) → b ≡ true → (let rest : Bool = false in (b || rest) || rest) ≡ true
    head true e = refl
    head false e = e

unnamed_command : (ws : List Text) → faults_of ws ≡ [] → names_command (rows_at ws) ≡ false → is_refused ws ≡ true
unnamed_command ws takes unknown =
    refused_as ws [] takes ∙ ap (λ b. not (b && names_deps (rows_at ws))) unknown

unnamed_deps : (ws : List Text) → faults_of ws ≡ [] → names_deps (rows_at ws) ≡ false → is_refused ws ≡ true
unnamed_deps ws takes unknown =
    refused_as ws [] takes
    ∙ (ap (λ b. not (names_command (rows_at ws) && b)) unknown ∙ never (names_command (rows_at ws)))
  where
    never : (b : Bool) → not (b && false) ≡ true
    never true = refl
    never false = refl

-- ---- what is answered

command_is_known : (c : CommandName) → is_command (command_text c) ≡ true
command_is_known command.Run = refl
command_is_known command.Serial = refl
command_is_known command.Format = refl
command_is_known command.Check = refl
command_is_known command.Save = refl
command_is_known command.Upgrade = refl
command_is_known command.Ask = refl
command_is_known command.Explain = refl
command_is_known command.Audit = refl
command_is_known command.Drill = refl
command_is_known command.Journal = refl
command_is_known command.Recover = refl

deps_are_known : (d : Deps) → is_deps (deps_text d) ≡ true
deps_are_known deps.Coarse = refl
deps_are_known deps.Precise = refl

pub said_not_refused : (ws : List Text) (options : Options) → Says ws options → is_refused ws ≡ false
said_not_refused ws options says =
    refused_as ws [] says.taken
    ∙ ap₂ (λ a b. not (a && b)) (ap (λ o. option_map_or is_command o false) says.command ∙ command_is_known options.command)
    (ap (λ o. option_map_or is_deps o false) says.deps ∙ deps_are_known options.deps)

pub not_refused : (ws : List Text) (request : Request) → Answers ws request → is_refused ws ≡ false
not_refused ws (Command options) says = said_not_refused ws options says
not_refused ws Help is = refused_as ws (kind.DisplayHelp ∷ []) is
not_refused ws Version is = refused_as ws (kind.DisplayVersion ∷ []) is

answer : (k : ErrorKind) (ws : List Text) (request : Request) → answer_to k ≡ Ok request → IsAmong k (faults_of ws) → Answers ws request
answer kind.DisplayHelp ws request e one = subst (Answers ws) (ok_is Help request e) (sole kind.DisplayHelp (faults_of ws) (one_fault ws) one)
answer kind.DisplayVersion ws request e one = subst (Answers ws) (ok_is Version request e) (sole kind.DisplayVersion (faults_of ws) (one_fault ws) one)
answer _ ws request e one = absurd (no_ok _ request e)

-- ---- the clauses where clap fails

pub asked : (a : App) (ws : List Text) (e : Error) (r : Result Request WordsRefusal) → a ≡ youtopia_app → (is_simple_and_free a ≡ true → HasKind (fault_of a ws) e)
    → r ≡ answer_to (kind_of e) → IfOk r (Answers ws)
asked a ws e (Ok request) is kinds gives = elim (among a ws e is kinds) [
  | inl memory ↦ absurd (no_ok Memory request (sym (gives ∙ ap answer_to memory)))
  | inr one ↦ answer (kind_of e) ws request (sym gives) one
]
asked a ws e (Err refusal) is kinds gives = tt

pub asked_not_refused : (a : App) (ws : List Text) (e : Error) (r : Result Request WordsRefusal) → a ≡ youtopia_app → (is_simple_and_free a ≡ true → HasKind (fault_of a ws) e)
    → r ≡ answer_to (kind_of e) → OnOk r (is_refused ws ≡ false)
asked_not_refused a ws e r is kinds gives = IfOk-weaker r _ _ (not_refused ws) (asked a ws e r is kinds gives)

pub refused : (a : App) (ws : List Text) (e : Error) (r : Result Request WordsRefusal) → a ≡ youtopia_app → (is_simple_and_free a ≡ true → HasKind (fault_of a ws) e)
    → r ≡ answer_to (kind_of e) → IfErr r (λ refusal. refusal ≡ Usage → is_refused ws ≡ true)
refused a ws e (Ok request) is kinds gives = tt
refused a ws e (Err refusal) is kinds gives = λ usage. elim (among a ws e is kinds) [
  | inl memory ↦ absurd (not_memory (sym (sym (ap (λ (x : WordsRefusal). let s : Result Request WordsRefusal = Err x in s) usage) ∙ gives ∙ ap answer_to memory)))
  | inr one ↦ by_clap ws (kind_of e) one (refusing (kind_of e) (sym gives ∙ ap (λ (x : WordsRefusal). let s : Result Request WordsRefusal = Err x in s) usage))
]

-- ---- the clauses where clap takes the words

pub taken : (a : App) (ws : List Text) → a ≡ youtopia_app → (is_simple_and_free a ≡ true → fault_of a ws ≡ []) → fault_of youtopia_app ws ≡ []
taken a ws is kinds = ap (λ x. fault_of x ws) (sym is) ∙ kinds (ap is_simple_and_free is ∙ is_plain_app)

pub no_command : (ws : List Text) (o : Option (Bor Text)) → faults_of ws ≡ [] → option_map (λ s. s.now) o ≡ first_of (codes "command") (rows_at ws) → o ≡ None
    → is_refused ws ≡ true
no_command ws o takes given none =
    let no : first_of (codes "command") (rows_at ws) ≡ None = sym given ∙ ap (option_map (λ s. s.now)) none in
    unnamed_command ws takes (ap (λ x. option_map_or is_command x false) no)

pub other_command : (ws : List Text) (o : Option (Bor Text)) (t : Bor Text) → faults_of ws ≡ [] → option_map (λ s. s.now) o ≡ first_of (codes "command") (rows_at ws)
    → o ≡ Some t → is_command t.now ≡ false → is_refused ws ≡ true
other_command ws o t takes given some other =
    let there : first_of (codes "command") (rows_at ws) ≡ Some t.now = sym given ∙ ap (option_map (λ s. s.now)) some in
    unnamed_command ws takes (ap (λ x. option_map_or is_command x false) there ∙ other)

pub no_deps : (ws : List Text) (o : Option (Bor Text)) → faults_of ws ≡ [] → option_map (λ s. s.now) o ≡ first_of (codes "deps") (rows_at ws) → o ≡ None
    → is_refused ws ≡ true
no_deps ws o takes given none =
    let no : first_of (codes "deps") (rows_at ws) ≡ None = sym given ∙ ap (option_map (λ s. s.now)) none in
    unnamed_deps ws takes (ap (λ x. option_map_or is_deps x false) no)

pub other_deps : (ws : List Text) (o : Option (Bor Text)) (t : Bor Text) → faults_of ws ≡ [] → option_map (λ s. s.now) o ≡ first_of (codes "deps") (rows_at ws)
    → o ≡ Some t → is_deps t.now ≡ false → is_refused ws ≡ true
other_deps ws o t takes given some other =
    let there : first_of (codes "deps") (rows_at ws) ≡ Some t.now = sym given ∙ ap (option_map (λ s. s.now)) some in
    unnamed_deps ws takes (ap (λ x. option_map_or is_deps x false) there ∙ other)

-- ---- the ranges

pub said_has_ranges : (ws : List Text) (options : Options) → Says ws options → HasRanges (Command options)
said_has_ranges ws options says =
    record {
      steps = (says.steps.1, says.steps.2);
      workers = (says.workers.1, says.workers.2);
      retries = says.retries.2;
      count = (says.count.1, says.count.2);
    }

-- What words ask for is one thing.
use Rattle.std.proofs.Common.{◌≡◌, ◌∙◌, ap, sym, List, [], ◌∷◌, Option, Some, None, refl}
use Rattle.std.specs.List.{find}
use Rattle.std.specs.Str.{bytes_eq}
use Rattle.clap.specs.Words.{Text, Kinds, first_of}
use Rattle.clap.specs.declared.error.kind.ErrorKind.{ErrorKind}
use Rattle.clap.specs.declared.error.kind.ErrorKind.TheVariants.{DisplayHelp, DisplayVersion}
use Rattle.cmd_words.specs.Alike.{AreAlike, AskTheSame}
use Rattle.cmd_words.specs.Arguments.{faults_of}
use Rattle.cmd_words.specs.Meaning.{Answers, Says}
use Rattle.cmd_words.specs.Names.{command_text, commands, deps_text}
use Rattle.cmd_words.specs.declared.names.CommandName.{CommandName}
use Rattle.cmd_words.specs.declared.names.CommandName.TheVariants.{Run}
use Rattle.cmd_words.specs.declared.names.Deps.{Deps}
use Rattle.cmd_words.specs.declared.names.Deps.TheVariants.{Coarse, Precise}
use Rattle.cmd_words.specs.declared.reading.Options.{Options}
use Rattle.cmd_words.specs.declared.reading.Request.{Request}
use Rattle.cmd_words.specs.declared.reading.Request.TheVariants.{Command, Help, Version}

-- the command that has the word
abbrev named : Text → Option CommandName
named t = find (λ c. bytes_eq t (command_text c)) commands

names_itself : (c : CommandName) → named (command_text c) ≡ Some c
names_itself Run = refl
names_itself _ = refl

abbrev kind_named : Text → Option Deps
kind_named t = find (λ d. bytes_eq t (deps_text d)) (Coarse ∷ Precise ∷ [])

kind_names_itself : (d : Deps) → kind_named (deps_text d) ≡ Some d
kind_names_itself Coarse = refl
kind_names_itself Precise = refl

held : {A : Type 0} (x y : A) → Some x ≡ Some y → x ≡ y
held x y e = cc

one_command : (c d : CommandName) → command_text c ≡ command_text d → c ≡ d
one_command c d e = held c d (sym (names_itself c) ∙ (ap named e ∙ names_itself d))

one_kind : (c d : Deps) → deps_text c ≡ deps_text d → c ≡ d
one_kind c d e = held c d (sym (kind_names_itself c) ∙ (ap kind_named e ∙ kind_names_itself d))

alike : (ws : List Text) (p q : Options) → Says ws p → Says ws q → AreAlike p q
alike ws p q a b = record {
  command = one_command _ _ (held _ _ (sym a.command ∙ b.command));
  deps = one_kind _ _ (held _ _ (sym a.deps ∙ b.deps));
  workers = a.workers.0 ∙ sym b.workers.0;
  steps = a.steps.0 ∙ sym b.steps.0;
  retries = a.retries.0 ∙ sym b.retries.0;
  count = a.count.0 ∙ sym b.count.0;
  seed = a.seed.0 ∙ sym b.seed.0;
  tuple = a.tuple ∙ sym b.tuple;
  query = a.query ∙ sym b.query;
  trace = a.trace ∙ sym b.trace;
}

none_some : (k : ErrorKind) (ks : Kinds) → ks ≡ [] → ks ≡ k ∷ [] → ⊥
none_some k ks none some = cc

other_call : (ks : Kinds) → ks ≡ DisplayHelp ∷ [] → ks ≡ DisplayVersion ∷ [] → ⊥
other_call ks help version = cc

pub one_meaning : (ws : List Text) (p q : Request) → Answers ws p → Answers ws q → AskTheSame p q
one_meaning ws (Command p) (Command q) a b = alike ws p q a b
one_meaning ws (Command p) Help a b = none_some _ _ a.taken b
one_meaning ws (Command p) Version a b = none_some _ _ a.taken b
one_meaning ws Help (Command q) a b = none_some _ _ b.taken a
one_meaning ws Help Help a b = tt
one_meaning ws Help Version a b = other_call _ a b
one_meaning ws Version (Command q) a b = none_some _ _ b.taken a
one_meaning ws Version Help a b = other_call _ b a
one_meaning ws Version Version a b = tt

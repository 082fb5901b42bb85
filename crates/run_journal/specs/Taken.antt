-- How the bytes of a journal are taken from the front.
use Rattle.std.specs.Prelude.{◌≡◌, ℕ, ◌==◌, Bool, false, List, [], ◌∷◌, ◌++◌}
use Rattle.def_chase.specs.Values.{Fact}
use Rattle.def_chase.specs.Repository.{Change, apply}
use Rattle.def_language.specs.Sessions.{RelationSchema}
use Rattle.base_roll.specs.Format.{framed}
use Rattle.run_journal.specs.Format.{commit_text, IsCommit}

-- commit n stands at the front of the bytes, and its writes make the new repository of the old one
pub record TakesCommit (relations : List RelationSchema) (n : ℕ) (all rest : List ℕ) (old new : List Fact) : Type 0 where
  pub writes : List Change
  pub commit : IsCommit relations n writes
  pub bytes : all ≡ framed (commit_text relations n writes) ++ rest
  pub made : new ≡ apply old writes

-- the first byte is that of a session's header, a small y
abbrev pub begins_header : List ℕ → Bool
begins_header [] = false
begins_header (byte ∷ bytes) = byte == 121

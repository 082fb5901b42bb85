-- The line for a session whose base violates a mapping.
use Rattle.std.specs.Prelude.{ℕ, false, List, [], ◌∷◌, ◌++◌, codes}
use Rattle.def_language.specs.Printing.{joined_text, tuple_text}
use Rattle.def_language.specs.Sessions.{RelationSchema}
use Rattle.lang_session.specs.Base.{Violated}

-- the line of a violation: the mapping, and the image in the order of the mapping's left side
abbrev pub base_line : List RelationSchema → Violated → List ℕ
base_line relations v =
    codes "youtopia: base violates " ++ (v.name ++ (codes ": " ++ (joined_text (tuple_text relations false) v.image ++ 10 ∷ [])))

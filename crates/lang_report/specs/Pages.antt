-- Additions to a page, and the meanings of the program's lists.
use Rattle.std.specs.Prelude.{◌≡◌, List, map}
use Rattle.base_types.specs.Listed.{Listed}
use Rattle.base_types.specs.declared.mappings.Mapping.{Mapping}
use Rattle.def_language.specs.Words.{Word}
use Rattle.def_language.specs.Sessions as meant
use Rattle.lang_print.specs.Lines.{with_line, with_lines}
use Rattle.lang_schema.specs.Meanings.{session_mapping_of}
use Rattle.lang_schema.specs.Pages.{Written, with_words}
use Rattle.lang_session.specs.Meanings.{update_of}
use Rattle.lang_session.specs.declared.sessions.SessionUpdate.{SessionUpdate}

-- the page p is `page` with these words added
abbrev pub HasWords : Written → List Word → Written → Type 0
HasWords page words p = p ≡ with_words page words

-- the page p is `page` with one line of these words added
abbrev pub HasLine : Written → List Word → Written → Type 0
HasLine page words p = p ≡ with_line page words

-- the page p is `page` with these lines added
abbrev pub HasLines : Written → List (List Word) → Written → Type 0
HasLines page lines p = p ≡ with_lines (λ words. words) page lines

-- the updates of a list
abbrev pub updates_of : Listed SessionUpdate → List meant.SessionUpdate
updates_of us = map update_of us.items

-- the mappings of a list
abbrev pub mappings_of : Listed Mapping → List meant.SessionMapping
mappings_of ms = map session_mapping_of ms.items

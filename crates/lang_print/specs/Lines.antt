-- Lines of words on a page.
use Rattle.std.specs.Prelude.{List, fold, map, pos}
use Rattle.def_chase.specs.Values.{Fact}
use Rattle.def_chase.specs.Updates.{Choice}
use Rattle.def_language.specs.Words.{Word}
use Rattle.def_language.specs.Names.{Name}
use Rattle.def_language.specs.Statements.{Statement, Relation, Mapping, Base, Answer}
use Rattle.def_language.specs.Printing.{written_choice, written_fact, written_mapping}
use Rattle.def_language.specs.Sessions.{RelationSchema, SessionMapping, initial_mappings}
use Rattle.lang_schema.specs.Pages.{Written, with_line_feed, with_words}

-- the page with one more line
abbrev pub with_line : Written → List Word → Written
with_line page words = with_line_feed (with_words page words)

-- the page with a line for each item
abbrev pub with_lines : {A : Type 0} → (A → List Word) → Written → List A → Written
with_lines words page items = fold (λ so_far x. with_line so_far (words x)) page items

-- the relations by number
abbrev pub relation_statement : RelationSchema → Statement
relation_statement r = Relation r.name (pos r.arity)

-- the mappings that no update adds
abbrev pub mapping_statements : List RelationSchema → List SessionMapping → List Statement
mapping_statements relations mappings = map (λ m. Mapping (written_mapping relations m)) (initial_mappings mappings)

-- the tuples of the base
abbrev pub base_statements : List RelationSchema → List Fact → List Statement
base_statements relations facts = map (λ t. Base (written_fact relations t)) facts

-- the answers to the update of a label
abbrev pub answer_statements : List RelationSchema → Name → List Choice → List Statement
answer_statements relations label answers = map (λ choice. Answer label (written_choice relations choice)) answers

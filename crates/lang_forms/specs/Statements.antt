-- The meanings of the statements of the program.
use Rattle.std.specs.Prelude.{map}
use Rattle.base_types.specs.Meanings.{datum_of, null_of}
use Rattle.def_language.specs.Statements.{WrittenOperation, InsertFact, DeleteFact, ReplaceNull, AddMapping, WrittenChoice, ExpandFact, UnifyFact, DeleteFacts, Statement}
use Rattle.def_language.specs.Statements as meant
use Rattle.def_language.specs.Forms as sections
use Rattle.lang_forms.specs.declared.raw.RawOperation.{RawOperation}
use Rattle.lang_forms.specs.declared.raw.RawOperation.TheVariants as operation
use Rattle.lang_forms.specs.declared.raw.RawChoice.{RawChoice}
use Rattle.lang_forms.specs.declared.raw.RawChoice.TheVariants as choice
use Rattle.lang_forms.specs.declared.raw.RawStatement.{RawStatement}
use Rattle.lang_forms.specs.declared.raw.RawStatement.TheVariants as statement
use Rattle.lang_forms.specs.declared.raw.Section.{Section}
use Rattle.lang_forms.specs.declared.raw.Section.TheVariants as section
use Rattle.lang_forms.specs.Views.{fact_of, mapping_of}

abbrev pub operation_of : RawOperation → WrittenOperation
operation_of (operation.Insert fact) = InsertFact (fact_of fact)
operation_of (operation.Delete fact) = DeleteFact (fact_of fact)
operation_of (operation.Replace n v) = ReplaceNull (null_of n) (datum_of v)
operation_of (operation.Enact m) = AddMapping (mapping_of m)

abbrev pub choice_of : RawChoice → WrittenChoice
choice_of choice.Expand = ExpandFact
choice_of (choice.Unify fact) = UnifyFact (fact_of fact)
choice_of (choice.Delete facts) = DeleteFacts (map fact_of facts.items)

abbrev pub statement_of : RawStatement → Statement
statement_of (statement.Header format) = meant.Header format
statement_of (statement.Relation n columns) = meant.Relation n.items columns
statement_of (statement.Mapping m) = meant.Mapping (mapping_of m)
statement_of (statement.Base fact) = meant.Base (fact_of fact)
statement_of (statement.Update label curator op) = meant.Update label.items curator.items (operation_of op)
statement_of (statement.Answer label ch) = meant.Answer label.items (choice_of ch)
statement_of statement.End = meant.End

abbrev pub section_meant : Section → sections.Section
section_meant section.Beginning = sections.Beginning
section_meant section.Relations = sections.Relations
section_meant section.Mappings = sections.Mappings
section_meant section.Tuples = sections.Tuples
section_meant section.Updates = sections.Updates
section_meant section.Ended = sections.Ended

-- The meanings of the words of the program, and the answers of reading them, compared with those of the definitions.
use Rattle.std.specs.Prelude.{◌≡◌, ℕ, List, [], map, Result, Ok, Err}
use Rattle.def_language.specs.declared.tokens.Token.{Token}
use Rattle.def_language.specs.declared.tokens.LexRefusal.{LexRefusal}
use Rattle.def_language.specs.LineTokens.{tokens_from}
use Rattle.def_language.specs.Spelling.{text_of}
use Rattle.def_language.specs.Words.{Word as WordMeant, word_of as token_says, name, number, null, text, opens, closes, comma, colon, arrow}
use Rattle.base_types.specs.Meanings.{datum_of}
use Rattle.lang_schema.specs.Meanings.{atom_of}
use Rattle.def_language.specs.Statements.{WrittenFact, WrittenMapping}
use Rattle.def_language.specs.Faults.{Kind, BadHeader, Expected}
use Rattle.lang_forms.specs.declared.cursor.Words.{Words}
use Rattle.lang_forms.specs.declared.words.Quoted.{Quoted}
use Rattle.lang_forms.specs.declared.words.Word.{Word}
use Rattle.lang_forms.specs.declared.words.Word.TheVariants.{Name, Number, Null, Text, Open, Close, Comma, Colon, Arrow}
use Rattle.lang_forms.specs.declared.words.RawFact.{RawFact}
use Rattle.lang_forms.specs.declared.words.RawMapping.{RawMapping}
use Rattle.lang_forms.specs.declared.faults.FormRefusal.{FormRefusal}
use Rattle.lang_forms.specs.declared.faults.FormRefusal.TheVariants as refusal

-- the bytes that a text in quotes stands for
abbrev pub says : Quoted → List ℕ
says q = text_of q.spelling.now

-- the word that a `Word` stands for
abbrev pub word_of : Word → WordMeant
word_of (Name n) = name n.now
word_of (Number z) = number z
word_of (Null n) = null n.update n.place
word_of (Text t) = text (says t)
word_of Open = opens
word_of Close = closes
word_of Comma = comma
word_of Colon = colon
word_of Arrow = arrow

-- the tokens found; none after a fault
abbrev pub found : Result (List Token) LexRefusal → List Token
found (Ok tokens) = tokens
found (Err refusal) = []

-- the words of a line from a place on
abbrev pub words_from : ℕ → List ℕ → List WordMeant
words_from place line = map (token_says line) (found (tokens_from place line))

-- the words that are still to be read
unfoldable pub words_of : Words → List WordMeant
words_of words = words_from words.place words.line.now

-- the fact that a `RawFact` stands for
abbrev pub fact_of : RawFact → WrittenFact
fact_of f = record { relation = f.relation.items; values = map datum_of f.values.items }

-- the mapping that a `RawMapping` stands for
abbrev pub mapping_of : RawMapping → WrittenMapping
mapping_of m = record { name = m.name.items; left = map atom_of m.left.items; right = map atom_of m.right.items }

-- a refusal is the fault that the definition gives; want of memory may come in place of any answer
abbrev pub Refuses : {Y : Type 0} → FormRefusal → Result Y Kind → Type 0
Refuses refusal.BadHeader read = read ≡ Err BadHeader
Refuses (refusal.Expected wanted) read = read ≡ Err (Expected wanted)
Refuses refusal.Memory read = Unit {0}

-- an answer, seen by `view`, is the one that the definition gives
abbrev pub Gives : {X Y : Type 0} → (X → Y) → Result X FormRefusal → Result Y Kind → Type 0
Gives view (Ok x) read = read ≡ Ok (view x)
Gives view (Err e) read = Refuses e read

-- The last entry of a history.
use Rattle.std.proofs.Common.{◌≡◌, ◌-◌, List, map, length, sym, ap, subst, ◌∙◌}
use Rattle.std.specs.Prelude.{Option, option_map, slice_get}
use Rattle.std.proofs.lemmas.List.{length-map}
use Rattle.std.proofs.lemmas.Option.{slice_get-map}
use Rattle.core_entries.specs.Meanings.{entry_of}
use Rattle.core_entries.specs.declared.entries.Entry.{Entry}
use Rattle.def_language.specs.Sessions.{RelationSchema}
use Rattle.def_history.specs.PlainEntries.{PlainEntry}
use Rattle.live_replies.specs.Texts.{entry_text, last_line}

-- the line of the last entry of a history that these entries are
pub last_told : (relations : List RelationSchema) (es : List Entry) (H : List PlainEntry) (found : Option Entry) → map entry_of es ≡ H → found ≡ slice_get es (length es - 1)
    → entry_text relations (option_map entry_of found) ≡ last_line relations H
last_told relations es H found same is =
    subst (λ (h : List PlainEntry). entry_text relations (option_map entry_of found) ≡ last_line relations h) same
    (ap (λ (o : Option Entry). entry_text relations (option_map entry_of o)) is
    ∙ (ap (entry_text relations) (sym (slice_get-map entry_of es (length es - 1)))
    ∙ ap (λ n. entry_text relations (slice_get (map entry_of es) (n - 1))) (sym (length-map es entry_of))))

use Rattle.std.proofs.Common.{◌≤◌, length, map}
use Rattle.def_language.specs.Reading.{many}
use Rattle.lang_forms.specs.Views.{words_of}
use Rattle.lang_forms.proofs.Items.{Keeps}
use Rattle.run_ask.specs.Written.{head_name}
use Rattle.run_ask.proofs.parsing.head_at.Given as goal

-- The names so far, and what is read of the words that are left, are the head.
abbrev pub invariant-items : goal.invariant-items
invariant-items l = Keeps head_name (map (λ n. n.items) l.found.items) (words_of l.rest) (length (words_of l.rest)) (many (length (words_of l.words)) head_name (words_of l.words)) × (length (words_of l.rest) ≤ length (words_of l.words))

-- How many words are left.
abbrev pub decreases-items : goal.decreases-items
decreases-items l = length (words_of l.rest)

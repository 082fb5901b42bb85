-- The meaning of the marks of a tuple, and the tuples that an update sees.
use Rattle.std.specs.Prelude.{ℕ, ◌==◌, Bool, false, not, ◌&&◌, cond, List, [], Option, Some, None, filter, find, map, unwrap_or, length}
use Rattle.std.specs.Option.{option_map}
use Rattle.base_types.specs.declared.tuples.Tuple.{Tuple}
use Rattle.base_types.specs.Meanings.{fact_of}
use Rattle.def_chase.specs.Values.{Fact, same_fact}
use Rattle.set_facts.specs.Places.{is_from}
use Rattle.set_versions.specs.Unders.{is_under}
use Rattle.set_versions.specs.declared.marks.Marks.{Marks}

-- Whether update n sees the tuple: the last marker of a lower update decides, or the base if there is none.
abbrev pub stands : ℕ → Marks → Bool
stands n m = unwrap_or (option_map (λ e. e.1) (find (λ e. is_under n e.0) m.chain)) m.in_base

-- The marks of a tuple that is nowhere.
abbrev pub no_marks : Marks
no_marks = record { in_base = false; chain = [] }

-- The tuple is nowhere.
abbrev pub is_nowhere : Marks → Bool
is_nowhere m = not m.in_base && (length m.chain == 0)

-- The base has the tuple and no update wrote it.
abbrev pub is_based : Marks → Bool
is_based m = m.in_base && (length m.chain == 0)

-- The marks of tuple t in the rows.
abbrev pub marks_at : List (Tuple × Marks) → Fact → Marks
marks_at rows t = unwrap_or (option_map (λ e. e.1) (find (λ e. same_fact t (fact_of e.0)) rows)) no_marks

-- The tuples that update n sees.
abbrev pub visible : ℕ → List (Tuple × Marks) → List Fact
visible n rows = map (λ e. fact_of e.0) (filter (λ e. stands n e.1) rows)

-- The first tuple, if it is there and the second one does not come before it.
abbrev pub put_first : Option Fact → Option Fact → Option Fact
put_first None s = None
put_first (Some t) None = Some t
put_first (Some t) (Some s) = cond (is_from t s) (Some t) None

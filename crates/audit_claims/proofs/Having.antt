-- A history whose entries can be printed has its verdict.
use Rattle.std.specs.Prelude.{◌≡◌, ◌≤◌, false, ℕ, List, [], ◌∷◌, ◌++◌, map, flat_map, length}
use Rattle.std.proofs.Common.{refl, sym, ap, ◌∙◌}
use Rattle.std.specs.List.{AllByRecursion}
use Rattle.std.proofs.lemmas.List.{length-map}
use Rattle.std.proofs.lemmas.List.Concat.{flat_map-cons}
use Rattle.std.proofs.lemmas.List.Elements.{All-from_recursion}
use Rattle.audit_claims.specs.Claimed.{IsPrintable, entry_text, told_by}
use Rattle.audit_claims.specs.Claims.{Tells}
use Rattle.audit_claims.specs.Forms.{HasLines, counted, ended}
use Rattle.def_language.specs.Sessions.{RelationSchema}
use Rattle.def_history.specs.PlainEntries.{PlainEntry}
use Rattle.def_language.specs.Bytes.{is_line_feed}
use Rattle.lang_reader.specs.Places.{IsOneLine}
use Rattle.audit_trace.specs.Traces.{entry_line, trace_text}
use Rattle.audit_claims.specs.Verdicts.{AreLinesOf, IsHistory, IsVerdict, Trial, Yes, is_quiet_after}
use Rattle.audit_claims.proofs.Printed.{one_line}

-- what is printed of an entry tells its event
abbrev pub AreClaimed : Type 0
AreClaimed = (relations : List RelationSchema) (e : PlainEntry) → IsPrintable relations e → Tells relations (entry_text relations e) (told_by e)

module _ (relations : List RelationSchema) where
  abbrev lines_of : List PlainEntry → List (List ℕ)
  lines_of H = map (entry_text relations) H

  told : AreClaimed → (H : List PlainEntry) → AllByRecursion (IsPrintable relations) H → AreLinesOf relations (lines_of H) H
  told claimed [] all = tt
  told claimed (e ∷ H) all = (record { text = refl; tells = claimed relations e all.0 }, told claimed H all.1)

  single : (H : List PlainEntry) → AllByRecursion IsOneLine (lines_of H)
  single [] = tt
  single (e ∷ H) = (All-from_recursion (λ b. is_line_feed b ≡ false) (entry_text relations e) (one_line relations e), single H)

  text_is : (H : List PlainEntry) → flat_map (entry_line relations) H ≡ ended (lines_of H)
  text_is [] = refl
  text_is (e ∷ H) = flat_map-cons (entry_line relations) e H ∙ ap (λ t. entry_line relations e ++ t) (text_is H)

  form : (H : List PlainEntry) → HasLines (trace_text relations H) (lines_of H)
  form H = record {
    head = λ i. counted (sym (length-map H (entry_text relations)) i) (text_is H i);
    of = record { same = refl; single = single H };
  }

pub have : AreClaimed → (t : Trial) (H : List PlainEntry) → IsHistory t.over H → length t.over.requests ≤ length H → AllByRecursion (IsPrintable t.relations) H
    → IsVerdict t (trace_text t.relations H) (Yes (length H) (is_quiet_after t.over H))
have claimed t H history all printable = (
  H,
  record {
    same = refl;
    history = history;
    lines = lines_of t.relations H;
    form = form t.relations H;
    told = told t.relations claimed H printable;
    all_admitted = all;
  },
  refl,
  refl,
)

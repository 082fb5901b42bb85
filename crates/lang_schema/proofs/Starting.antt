-- A text that is added to still starts with what it had.
use Rattle.std.proofs.Common.{◌≡◌, ◌∙◌, ap, sym, append_assoc, ℕ, List, ◌++◌}
use Rattle.std.specs.Prelude.{Result, Ok, Err, OnOk, OnErr}
use mathlib.Core.List.{IsPrefix}

-- What goes on from a text that started so starts so.
pub still_starts : {T E : Type 0} (r : Result T E) (had more mid text : List ℕ) → mid ≡ had ++ more → IsPrefix mid text → OnErr r (IsPrefix had text)
still_starts (Ok x) had more mid text is s = tt
still_starts (Err e) had more mid text is s = (more ++ s.0, sym (append_assoc had more s.0) ∙ ap (λ (xs : List ℕ). xs ++ s.0) (sym is) ∙ s.1)

-- What is added in two parts is added whole.
pub both_added : {T E : Type 0} (r : Result T E) (had mid text front last whole : List ℕ) → whole ≡ front ++ last → mid ≡ had ++ front → OnOk r (text ≡ mid ++ last) → OnOk r (text ≡ had ++ whole)
both_added (Ok x) had mid text front last whole e f h = h ∙ ap (λ (xs : List ℕ). xs ++ last) f ∙ append_assoc had front last ∙ ap (λ (xs : List ℕ). had ++ xs) (sym e)
both_added (Err x) had mid text front last whole e f h = tt

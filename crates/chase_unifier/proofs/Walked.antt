-- What was kept of the tuples that a walk gave, once it has no more.
use Rattle.std.proofs.Common.{◌≡◌, ap, sym, ◌∙◌, List, [], ◌++◌, append-nil, Bool}
use Rattle.std.specs.Prelude.{filter}
use Rattle.def_chase.specs.Values.{Fact}

pub all_kept : (q : Fact → Bool) (xs left whole : List Fact) → left ≡ [] → xs ++ filter q left ≡ whole → xs ≡ whole
all_kept q xs left whole e w = sym (append-nil xs) ∙ ap (λ l. xs ++ filter q l) (sym e) ∙ w

-- The labels of a session are different, so that none is dropped where each is kept once.
use Rattle.std.proofs.Common.{◌≡◌, false, List, [], ◌∷◌, ◌++◌, refl, sym, ap, ◌∙◌, append-nil}
use Rattle.std.specs.Prelude.{fold}
use Rattle.std.proofs.lemmas.List.{append_assoc}
use Rattle.def_language.specs.Names.{Name, same_name, with_new, firsts, is_one_of}
use Rattle.def_language.specs.Validity.{AreNew, AreNames}

-- a new name is put at the end
pub new_name : (names : List Name) (n : Name) → is_one_of names n ≡ false → with_new same_name names n ≡ names ++ n ∷ []
new_name names n new = rw new refl

-- after other names
distinct_from : (before names : List Name) → AreNew before names → fold (with_new same_name) before names ≡ before ++ names
distinct_from before [] new = sym (append-nil before)
distinct_from before (n ∷ names) new =
    ap (λ (b : List Name). fold (with_new same_name) b names) (new_name before n new.1) ∙ distinct_from (before ++ n ∷ []) names new.2 ∙ append_assoc before (n ∷ []) names

pub distinct_names : (names : List Name) → AreNames names → firsts same_name names ≡ names
distinct_names names new = distinct_from [] names new

-- Names are the same where their bytes are.
use Rattle.std.proofs.Common.{◌≡◌, sym, true}
use Rattle.std.specs.Cmp.Lexicographic.{same_text}
use Rattle.std.proofs.lemmas.Cmp.{nat_list_eq_equiv}
use Rattle.def_language.specs.Names.{Name, same_name}

pub same_itself : (n : Name) → same_name n n ≡ true
same_itself n = nat_list_eq_equiv.refl n

pub same_is : (m n : Name) → same_name m n ≡ true → m ≡ n
same_is m n e = same_text m n (sym e)

-- What contracts see of a list.
use Rattle.std.specs.Prelude.{ℕ, List, refl}
use Rattle.std.specs.Coded.{Coded, code_by, coded×, coded_ℕ, coded_list}

-- A list's items, and the number of further items that it takes before it asks for memory.
pub record Listed (T : Type 0) : Type 0 where
  pub items : List T
  pub spare : ℕ

-- The two as a pair, which is needed if a type parameter is a list.
abbrev pub listed_code : {T : Type 0} → Coded T → Coded (Listed T)
listed_code {T} code =
    code_by (List T × ℕ) (coded× (coded_list code) coded_ℕ) (λ l. (l.items, l.spare))
    (λ p. record { items = p.0; spare = p.1 }) (λ _. refl)

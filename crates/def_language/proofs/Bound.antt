-- What is read, and then what is made of it; and what the laws say of single statements.
use Rattle.std.proofs.Common.{◌≡◌, ℕ, refl, List}
use Rattle.std.specs.Prelude.{Result, Ok, Err}
use Rattle.def_language.specs.Words.{Word}
use Rattle.def_language.specs.Faults.{Kind}
use Rattle.def_language.specs.Reading.{◌>>=◌}
use Rattle.def_language.specs.Statements.{Statement}
use Rattle.def_language.specs.Grammar.{statement_words}
use Rattle.def_language.specs.Forms.{Section, statement_at}
use Rattle.def_language.specs.Sayable.{IsSayable, MayStand}

abbrev pub Bound : {A B : Type 0} → Result A Kind → (A → Result B Kind) → B → Type 0
Bound {A} r f y = (x : A) × (r ≡ Ok x) × (f x ≡ Ok y)

pub bind_ok : {A B : Type 0} (r : Result A Kind) (f : A → Result B Kind) (y : B) → (r >>= f) ≡ Ok y → Bound r f y
bind_ok (Ok x) f y e = (x, refl, e)
bind_ok (Err k) f y e = let g : ⊥ = cc in absurd g

abbrev pub SameOk : {A : Type 0} → A → A → Type 0
SameOk {A} x y = let f : A → Result A Kind = λ z. Ok z in f x ≡ f y

pub ok_is : {A : Type 0} (x y : A) → SameOk x y → x ≡ y
ok_is x y e = cc

-- the words of a statement are read as it, where it may stand
abbrev pub Again : Type 0
Again = (section : Section) (format : ℕ) (st : Statement) → MayStand section st → IsSayable format st → statement_at section format (statement_words st) ≡ Ok st

-- and no others are
abbrev pub Only : Type 0
Only = (section : Section) (format : ℕ) (words : List Word) (st : Statement) → statement_at section format words ≡ Ok st → (words ≡ statement_words st) × IsSayable format st × MayStand section st

-- Numbers in plain decimal, digit by digit.
use Rattle.std.proofs.Common.{◌≡◌, ◌∙◌, ap, sym, arith, ℕ, ◌<◌, ◌≤◌, ◌/◌, ◌%◌, ◌++◌, List}
use Rattle.std.proofs.lemmas.Fmt.{decimal_digit, decimal_step}
use Rattle.std.specs.Fmt.{decimal}

-- A number of several digits is the number before its last digit, and that digit.
pub by_tens : (n : ℕ) → 10 ≤ n → n < 10000 → decimal n ≡ decimal (n / 10) ++ decimal (n % 10)
by_tens n low high = decimal_step n low (omega arith) ∙ ap (λ (ds : List ℕ). decimal (n / 10) ++ ds) (sym (decimal_digit (n % 10) (omega arith)))

-- What is laid out is read as its words.
use Rattle.std.proofs.Common.{◌≡◌, ℕ, suc, ◌+◌, ◌-◌, ◌^◌, ◌<◌, ◌≤◌, Bool, true, false, List, [], ◌∷◌, ◌++◌, length, take, drop, refl, sym, ap, ◌∙◌, subst, arith, append_assoc, append-nil, length-append}
use Rattle.std.specs.Prelude.{Result, Ok, map, pos, negsuc, neg_ℤ, ◌||◌, ◌==◌, if◌then◌else◌}
use Rattle.std.specs.Fmt.{decimal}
use Rattle.std.specs.List.{list_all, flat_map, AllByRecursion}
use Rattle.std.proofs.lemmas.Fmt.{digits_decimal, digits_value-decimal, decimal_nonempty}
use Rattle.std.proofs.lemmas.Bool.{and_parts}
use Rattle.std.proofs.lemmas.Bool.Decides.{nat_tests}
use Rattle.std.proofs.Math.Seq.{take-append_seam, drop-append_seam, drop-append-add}
use Rattle.def_language.specs.declared.tokens.TokenKind.{TokenKind}
use Rattle.def_language.specs.declared.tokens.TokenKind.TheVariants as kind
use Rattle.def_language.specs.declared.tokens.Token.{Token}
use Rattle.def_language.specs.declared.tokens.LexRefusal.{LexRefusal}
use Rattle.def_language.specs.Bytes.{begins_name, continues_name, is_digit, is_blank, run}
use Rattle.def_language.specs.Numbers.{value_after}
use Rattle.def_language.specs.Spelling.{number_of, said}
use Rattle.def_language.specs.Tokens.{token_at}
use Rattle.def_language.specs.LineTokens.{tokens_at, with_front}
use Rattle.def_language.proofs.Lined.{skipped}
use Rattle.def_language.specs.Words.{Word, name, number, null, text, opens, closes, comma, colon, arrow, said as word, word_of, words_at}
use Rattle.def_language.specs.Layout.{written_byte, spelled, is_open, is_tight, gap, laid_out, is_name, IsSpoken}
use Rattle.def_language.proofs.Sorts.{kind_of, starts, Stops}
use Rattle.def_language.proofs.Front.{front_again, run_whole, numerals, bytes_again}

-- neither blank nor `#`
abbrev begins : ℕ → Type 0
begins b = (is_blank b ≡ false) × ((b == 35) ≡ false)

step : (k : TokenKind) (b place : ℕ) (tail rest : List ℕ) → begins b → token_at place (b ∷ (tail ++ rest)) ≡ Ok (k, suc (length tail))
    → tokens_at place 0 (b ∷ (tail ++ rest)) ≡ with_front (record { kind = k; from = place; to = place + suc (length tail) } ∷ []) (tokens_at (place + suc (length tail)) 0 rest)
unfolding tokens_at
step k b place tail rest first found =
    let t : Token = record { kind = k; from = place; to = place + suc (length tail) } in
    let n : suc (length tail) - 1 ≡ length tail = omega arith in
    let within : length tail ≤ length (tail ++ rest) = omega (arith, length-append tail rest) in
    let p : place + 1 + length tail ≡ place + suc (length tail) = omega arith in
    let skip : tokens_at (place + 1) (suc (length tail) - 1) (tail ++ rest) ≡ tokens_at (place + suc (length tail)) 0 rest =
    ap (λ k. tokens_at (place + 1) k (tail ++ rest)) n ∙ skipped (length tail) (place + 1) (tail ++ rest) within
    ∙ ap (λ q. tokens_at q 0 (drop (length tail) (tail ++ rest))) p ∙ ap (tokens_at (place + suc (length tail)) 0) (drop-append_seam tail rest) in
    rw (first.0, first.1, found) (ap (with_front (t ∷ [])) skip)

-- what spells a word is some byte and a tail
record Begins (bytes : List ℕ) : Type 0 where
  byte : ℕ
  tail : List ℕ
  is : bytes ≡ byte ∷ tail
  fits : begins byte

letter_begins : (b : ℕ) → begins_name b ≡ true → begins b
letter_begins b e = (grind (arith, nat_tests), grind (arith, nat_tests))

digit_begins : (b : ℕ) → is_digit b ≡ true → begins b
digit_begins b e = (grind (arith, nat_tests), grind (arith, nat_tests))

name_begins : (n : List ℕ) → is_name n ≡ true → Begins n
name_begins [] e = let f : ⊥ = cc in absurd f
name_begins (b ∷ n) e = record { byte = b; tail = n; is = refl; fits = letter_begins b (and_parts (begins_name b) (list_all continues_name n) e).0 }

digits_begin : (ds : List ℕ) → list_all is_digit ds ≡ true → 0 < length ds → Begins ds
digits_begin [] all some = absurd (omega arith)
digits_begin (d ∷ ds) all some = record { byte = d; tail = ds; is = refl; fits = digit_begins d (and_parts (is_digit d) (list_all is_digit ds) all).0 }

word_begins : (w : Word) → IsSpoken w → Begins (spelled w)
word_begins (name n) e = name_begins n e
word_begins (number (pos n)) e = let small : n < 2 ^ 64 = omega arith in digits_begin (decimal n) (digits_decimal numerals n small) (decimal_nonempty n small)
word_begins (number (negsuc n)) e = record { byte = 45; tail = decimal (suc n); is = refl; fits = (refl, refl) }
word_begins (null u k) e = record { byte = 63; tail = decimal u ++ 46 ∷ decimal k; is = refl; fits = (refl, refl) }
word_begins (text t) e = record { byte = 34; tail = flat_map written_byte t ++ 34 ∷ []; is = refl; fits = (refl, refl) }
word_begins opens e = record { byte = 40; tail = []; is = refl; fits = (refl, refl) }
word_begins closes e = record { byte = 41; tail = []; is = refl; fits = (refl, refl) }
word_begins comma e = record { byte = 44; tail = []; is = refl; fits = (refl, refl) }
word_begins colon e = record { byte = 58; tail = []; is = refl; fits = (refl, refl) }
word_begins arrow e = record { byte = 45; tail = 62 ∷ []; is = refl; fits = (refl, refl) }

step_at : (k : TokenKind) (bytes : List ℕ) (place : ℕ) (rest : List ℕ) → Begins bytes → token_at place (bytes ++ rest) ≡ Ok (k, length bytes)
    → tokens_at place 0 (bytes ++ rest) ≡ with_front (record { kind = k; from = place; to = place + length bytes } ∷ []) (tokens_at (place + length bytes) 0 rest)
step_at k bytes place rest b found =
    let P : List ℕ → Type 0 = λ bs. token_at place (bs ++ rest) ≡ Ok (k, length bs) → tokens_at place 0 (bs ++ rest) ≡ with_front (record { kind = k; from = place; to = place + length bs } ∷ []) (tokens_at (place + length bs) 0 rest) in
    subst P (sym b.is) (step k b.byte place b.tail rest b.fits) found

word_step : (w : Word) (place : ℕ) (rest : List ℕ) → IsSpoken w → Stops w rest
    → tokens_at place 0 (spelled w ++ rest) ≡ with_front (record { kind = kind_of w; from = place; to = place + length (spelled w) } ∷ []) (tokens_at (place + length (spelled w)) 0 rest)
word_step w place rest e stops = step_at (kind_of w) (spelled w) place rest (word_begins w e) (front_again w place rest e stops)

-- a gap is passed over
gap_step : (b : Bool) (place : ℕ) (rest : List ℕ) → tokens_at place 0 ((if b then [] else 32 ∷ []) ++ rest) ≡ tokens_at (place + length (let g : List ℕ = if b then [] else 32 ∷ [] in g)) 0 rest
unfolding tokens_at
gap_step true place rest = let e : place ≡ place + 0 = omega arith in ap (λ p. tokens_at p 0 rest) e
gap_step false place rest = refl

-- a list of words that begins with v goes on with no name or number
follows : (p : ℕ → Bool) → p 32 ≡ false → p 40 ≡ false → p 41 ≡ false → p 44 ≡ false → p 58 ≡ false → (v : Word) (rest : List Word) → starts p ((if is_tight v then [] else 32 ∷ []) ++ laid_out (v ∷ rest)) ≡ false
unfolding laid_out
follows p s o c m l (name n) rest = s
follows p s o c m l (number z) rest = s
follows p s o c m l (null u k) rest = s
follows p s o c m l (text t) rest = s
follows p s o c m l arrow rest = s
follows p s o c m l opens [] = o
follows p s o c m l opens (v ∷ rest) = o
follows p s o c m l closes [] = c
follows p s o c m l closes (v ∷ rest) = c
follows p s o c m l comma [] = m
follows p s o c m l comma (v ∷ rest) = m
follows p s o c m l colon [] = l
follows p s o c m l colon (v ∷ rest) = l

stops : (w v : Word) (rest : List Word) → Stops w (gap w v ++ laid_out (v ∷ rest))
stops (name n) v rest = follows continues_name refl refl refl refl refl v rest
stops (number z) v rest = follows is_digit refl refl refl refl refl v rest
stops (null u k) v rest = follows is_digit refl refl refl refl refl v rest
stops (text t) v rest = tt
stops opens v rest = tt
stops closes v rest = tt
stops comma v rest = tt
stops colon v rest = tt
stops arrow v rest = tt

stops_last : (w : Word) → Stops w []
stops_last (name n) = refl
stops_last (number z) = refl
stops_last (null u k) = refl
stops_last (text t) = tt
stops_last opens = tt
stops_last closes = tt
stops_last comma = tt
stops_last colon = tt
stops_last arrow = tt

-- a token says what was spelled
no_minus : (d : ℕ) → is_digit d ≡ true → (d == 45) ≡ false
no_minus d e = grind (arith, nat_tests)

digits_say : (ds : List ℕ) (n : ℕ) → list_all is_digit ds ≡ true → 0 < length ds → value_after 0 ds ≡ n → number_of ds ≡ pos n
digits_say [] n all some value = absurd (omega arith)
digits_say (d ∷ ds) n all some value = rw (no_minus d (and_parts (is_digit d) (list_all is_digit ds) all).0) (ap pos value)

null_parts : (ds es : List ℕ) (u k : ℕ) → list_all is_digit ds ≡ true → value_after 0 ds ≡ u → value_after 0 es ≡ k → word kind.Null (63 ∷ (ds ++ 46 ∷ es)) ≡ null u k
null_parts ds es u k all first second =
    let whole : run is_digit (ds ++ 46 ∷ es) ≡ length ds = run_whole is_digit ds (46 ∷ es) all refl in
    let after : drop (length ds + 1) (ds ++ 46 ∷ es) ≡ es = drop-append-add ds (46 ∷ es) 1 in
    rw (whole, take-append_seam ds (46 ∷ es), after, first, second) refl

text_inside : (t : List ℕ) → word kind.Text (34 ∷ (flat_map written_byte t ++ 34 ∷ [])) ≡ text t
text_inside t = ap (λ (read : Result (List ℕ × ℕ) LexRefusal). text (said read)) (bytes_again t 0 1 [])

spoken_again : (w : Word) → IsSpoken w → word (kind_of w) (spelled w) ≡ w
spoken_again (name n) e = refl
spoken_again (number (pos n)) e = let small : n < 2 ^ 64 = omega arith in ap number (digits_say (decimal n) n (digits_decimal numerals n small) (decimal_nonempty n small) (digits_value-decimal numerals n small))
spoken_again (number (negsuc n)) e = let small : suc n < 2 ^ 64 = omega arith in ap (λ v. number (neg_ℤ (pos v))) (digits_value-decimal numerals (suc n) small)
spoken_again (null u k) e =
    let a : u < 2 ^ 64 = omega (arith, e.0) in
    let b : k < 2 ^ 64 = omega (arith, e.1) in
    null_parts (decimal u) (decimal k) u k (digits_decimal numerals u a) (digits_value-decimal numerals u a) (digits_value-decimal numerals k b)
spoken_again (text t) e = text_inside t
spoken_again opens e = refl
spoken_again closes e = refl
spoken_again comma e = refl
spoken_again colon e = refl
spoken_again arrow e = refl

-- so it does in a line
in_line : (w : Word) (before rest line : List ℕ) → IsSpoken w → line ≡ before ++ (spelled w ++ rest) → word_of line (record { kind = kind_of w; from = length before; to = length before + length (spelled w) }) ≡ w
in_line w before rest line e is =
    let n : length before + length (spelled w) - length before ≡ length (spelled w) = omega arith in
    let m : length before - 0 ≡ length before = omega arith in
    let tail : drop (length before - 0) line ≡ spelled w ++ rest = ap (λ k. drop k line) m ∙ ap (drop (length before)) is ∙ drop-append_seam before (spelled w ++ rest) in
    let cut : take (length before + length (spelled w) - length before) (drop (length before - 0) line) ≡ spelled w = ap (λ k. take k (drop (length before - 0) line)) n ∙ ap (take (length (spelled w))) tail ∙ take-append_seam (spelled w) rest in
    ap (word (kind_of w)) cut ∙ spoken_again w e

record Page (line : List ℕ) (place : ℕ) (ws : List Word) : Type 0 where
  tokens : List Token
  lexes : tokens_at place 0 (laid_out ws) ≡ Ok tokens
  says : map (word_of line) tokens ≡ ws

page : (ws : List Word) (before line : List ℕ) → AllByRecursion IsSpoken ws → line ≡ before ++ laid_out ws → Page line (length before) ws
unfolding laid_out tokens_at
page [] before line all is = record { tokens = []; lexes = refl; says = refl }
page (w ∷ []) before line all is =
    let nil : spelled w ++ [] ≡ spelled w = append-nil (spelled w) in
    record {
      tokens = record { kind = kind_of w; from = length before; to = length before + length (spelled w) } ∷ [];
      lexes = ap (tokens_at (length before) 0) (sym nil) ∙ word_step w (length before) [] all.0 (stops_last w);
      says = ap (λ w. w ∷ []) (in_line w before [] line all.0 (is ∙ ap (λ (bs : List ℕ). before ++ bs) (sym nil)));
    }
page (w ∷ v ∷ ws) before line all is =
    let g : List ℕ = gap w v in
    let more : List ℕ = laid_out (v ∷ ws) in
    let tok : Token = record { kind = kind_of w; from = length before; to = length before + length (spelled w) } in
    let regroup : (before ++ (spelled w ++ g)) ++ more ≡ before ++ (spelled w ++ (g ++ more)) = append_assoc before (spelled w ++ g) more ∙ ap (λ (bs : List ℕ). before ++ bs) (append_assoc (spelled w) g more) in
    let q = page (v ∷ ws) (before ++ (spelled w ++ g)) line all.1 (is ∙ sym regroup) in
    let len : length before + length (spelled w) + length g ≡ length (before ++ (spelled w ++ g)) = omega (arith, length-append before (spelled w ++ g), length-append (spelled w) g) in
    let there : tokens_at (length before + length (spelled w)) 0 (g ++ more) ≡ Ok q.tokens =
    gap_step (is_open w || is_tight v) (length before + length (spelled w)) more ∙ ap (λ k. tokens_at k 0 more) len ∙ q.lexes in
    record {
      tokens = tok ∷ q.tokens;
      lexes = word_step w (length before) (g ++ more) all.0 (stops w v ws) ∙ ap (with_front (tok ∷ [])) there;
      says = ap (λ w. w ∷ map (word_of line) q.tokens) (in_line w before (g ++ more) line all.0 is) ∙ ap (λ vs. w ∷ vs) q.says;
    }

read_so : (line : List ℕ) (ws : List Word) → Page line 0 ws → line ≡ laid_out ws → words_at line ≡ Ok ws
read_so line ws p is =
    let found : tokens_at 0 0 line ≡ Ok p.tokens = ap (tokens_at 0 0) is ∙ p.lexes in
    rw (found, p.says) refl

pub words_again : (ws : List Word) → AllByRecursion IsSpoken ws → words_at (laid_out ws) ≡ Ok ws
words_again ws all = read_so (laid_out ws) ws (page ws [] (laid_out ws) all refl) refl

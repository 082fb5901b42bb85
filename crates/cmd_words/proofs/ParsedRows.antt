-- A walk over words without a fault keeps rows whose first value passed its rule's parser.
use Rattle.std.proofs.Common.{◌≡◌, ◌∙◌, ◌&&◌, ℕ, Bool, zero, suc, true, false, length, drop, List, [], ◌∷◌, Option, Some, None, is_some, if◌then◌else◌, fold, refl, sym, ap, subst}
use Rattle.std.specs.Prelude.{encode_utf8, slice_get}
use Rattle.std.specs.List.{AllByRecursion}
use Rattle.std.specs.Option.{option_map_or}
use Rattle.std.specs.Str.{bytes_eq, chars}
use Rattle.clap.specs.Lexer.{long_of, short_of}
use Rattle.clap.specs.Facts.{parser_of_value, unwrap_or_range}
use Rattle.clap.specs.Kinds.{Kinds, or_else, range_kinds, value_kinds, values_kinds}
use Rattle.clap.specs.Walk.{Held, Outcome, Row, Rule, Step, Text, Waiting, Walk, action_of, after_flag, after_step, arg_by_id, arg_by_index, arg_by_long, arg_by_short, attached_value, bundle_met, bundle_step, done, flag_met, idle, is_pending, long_met, long_or_other, most_values, option, option_met, option_word, plain, plain_word, positional, reacted, reading_by, settled, settled_rows, short_met, short_or_plain, subcommand_or_other, subcommand_met, takes_several, takes_values, to_positional, trailing, used, used_by_id, value, values_or_missing, waits, walked, walked_from, word_met}
use Rattle.clap.specs.Simple.{Shape}
use Rattle.clap.specs.Takes.{value_passes}
use Rattle.clap.specs.Faults.{action_fault, bundle_fault, bundle_step_fault, flag_word_fault, flags_fault, long_fault, option_fault, other_fault, positional_fault, react_fault, repeat_fault, settle_fault, short_fault, step_fault, turn_fault, use_fault, values_fault, walk_fault, word_fault}
use Rattle.clap.specs.declared.builder.action.ArgAction.TheVariants as action
use Rattle.clap.specs.declared.error.kind.ErrorKind.TheVariants.{InvalidValue, TooManyValues}
use Rattle.cmd_words.proofs.FineRows.{AreFine, IsSole, accepted, filled, fine_used, found, neither, passes_first}

module _ (s : Shape) (a : Rule) (set : action_of a ≡ action.Set) (least : (unwrap_or_range a.range).start_inclusive ≡ 1) (sole : AllByRecursion (IsSole a) s.rules) where
  first_passes : (again : Bool) (values : List Text) (rows : List Row) → use_fault again a values rows ≡ [] → passes_first (value_passes a) (values_or_missing a values) ≡ true
  first_passes again [] rows clean =
      let range = (neither (range_kinds (unwrap_or_range a.range).start_inclusive (most_values a) 0) (action_fault (action_of a) again a (values_or_missing a []) rows) clean).0 in
      let one : InvalidValue ∷ [] ≡ [] = ap (λ n. range_kinds n (most_values a) 0) (sym least) ∙ range in
      absurd (filled InvalidValue [] one)
  first_passes again (v ∷ vs) rows clean =
      let acts = (neither (range_kinds (unwrap_or_range a.range).start_inclusive (most_values a) (length (v ∷ vs))) (action_fault (action_of a) again a (v ∷ vs) rows) clean).1 in
      let sets = ap (λ x. action_fault x again a (v ∷ vs) rows) (sym set) ∙ acts in
      let checks = (neither (repeat_fault again a.id rows) (values_fault a (v ∷ vs)) sets).1 in
      accepted a.ignore_case (parser_of_value a.parser) v
      (neither (value_kinds a.ignore_case (parser_of_value a.parser) v) (values_kinds a.ignore_case (parser_of_value a.parser) vs) checks).0

  use_fine : (x : Rule) (values : List Text) (rows : List Row) → IsSole a x → use_fault s.args_override_self x values rows ≡ [] → AreFine a rows → AreFine a (used x values rows)
  use_fine x values rows own clean fine =
      fine_used a (action_of x) x.id (reading_by x) (values_or_missing x values) rows
      (λ same.
      let is = own same in
      let passes = first_passes s.args_override_self values rows (subst (λ (y : Rule). use_fault s.args_override_self y values rows ≡ []) is clean) in
      (ap action_of is ∙ set, ap reading_by is, subst (λ (y : Rule). passes_first (value_passes a) (values_or_missing y values) ≡ true) (sym is) passes))
      fine

  use_by_id : (o : Option Rule) (values : List Text) (rows : List Row) → ((x : Rule) → o ≡ Some x → IsSole a x)
      → option_map_or (λ x. use_fault s.args_override_self x values rows) o [] ≡ [] → AreFine a rows → AreFine a (used_by_id o values rows)
  use_by_id None values rows own clean fine = fine
  use_by_id (Some x) values rows own clean fine = use_fine x values rows (own x refl) clean fine

  settle_pending : (p : Option (Text × List Text)) (rows : List Row)
      → option_map_or (λ p. option_map_or (λ x. use_fault s.args_override_self x p.1 rows) (arg_by_id s.rules p.0) []) p [] ≡ [] → AreFine a rows
      → AreFine a (settled_rows s.rules p rows)
  settle_pending None rows clean fine = fine
  settle_pending (Some p) rows clean fine =
      use_by_id (arg_by_id s.rules p.0) p.1 rows (λ x is. found (IsSole a) (λ y. bytes_eq y.id p.0) s.rules x sole is) clean fine

  pub settle_fine : (h : Held) → settle_fault s.rules s.args_override_self h ≡ [] → AreFine a h.rows → AreFine a (settled s.rules h).rows
  settle_fine h clean fine = settle_pending h.pending h.rows clean fine

  react_fine : (x : Rule) (values : List Text) (h : Held) → IsSole a x → react_fault s.rules s.args_override_self x values h ≡ [] → AreFine a h.rows
      → AreFine a (reacted s.rules x values h).rows
  react_fine x values h own clean fine =
      let two = neither (settle_fault s.rules s.args_override_self h) (use_fault s.args_override_self x values (settled s.rules h).rows) clean in
      use_fine x values (settled s.rules h).rows own two.1 (settle_fine h two.0 fine)

  option_fine : (x : Rule) (v : Option Text) (h : Held) → IsSole a x → option_fault s.rules s.args_override_self x v h ≡ [] → AreFine a h.rows
      → AreFine a (option_met s.rules x v h).0.rows
  option_fine x (Some v) h own clean fine = react_fine x (v ∷ []) h own clean fine
  option_fine x None h own clean fine = settle_fine h clean fine

  flag_fine : (x : Rule) (v : Option Text) (h : Held) → IsSole a x
      → (if is_some v then TooManyValues ∷ [] else react_fault s.rules s.args_override_self x [] h) ≡ [] → AreFine a h.rows → AreFine a (flag_met s.rules x v h).0.rows
  flag_fine x (Some v) h own clean fine = fine
  flag_fine x None h own clean fine = react_fine x [] h own clean fine

  long_fine : (o : Option Rule) (v : Option Text) (h : Held) → ((x : Rule) → o ≡ Some x → IsSole a x) → long_fault s.rules s.args_override_self o v h ≡ []
      → AreFine a h.rows → AreFine a (long_met s.rules o v h).0.rows
  long_fine None v h own clean fine = fine
  long_fine (Some x) v h own clean fine = by (takes_values x) clean
    where
      by : (b : Bool) → (if b then option_fault s.rules s.args_override_self x v h else (if is_some v then TooManyValues ∷ [] else react_fault s.rules s.args_override_self x [] h)) ≡ []
          → AreFine a (if b then option_met s.rules x v h else flag_met s.rules x v h).0.rows
      by true e = option_fine x v h (own x refl) e fine
      by false e = flag_fine x v h (own x refl) e fine

  short_fine : (o : Option Rule) (rest : Text) (h : Held) (fails : Held → Kinds) (meets : Held → Held × Outcome) → ((x : Rule) → o ≡ Some x → IsSole a x)
      → ((g : Held) → fails g ≡ [] → AreFine a g.rows → AreFine a (meets g).0.rows) → short_fault s.rules s.args_override_self o rest h fails ≡ [] → AreFine a h.rows
      → AreFine a (short_met s.rules o rest h meets).0.rows
  short_fine None rest h fails meets own more clean fine = fine
  short_fine (Some x) rest h fails meets own more clean fine = by (takes_values x) clean
    where
      by : (b : Bool)
          → (if b then option_fault s.rules s.args_override_self x (attached_value rest) h else or_else (react_fault s.rules s.args_override_self x [] h) (fails (reacted s.rules x [] h))) ≡ []
          → AreFine a (if b then option_met s.rules x (attached_value rest) h else meets (reacted s.rules x [] h)).0.rows
      by true e = option_fine x (attached_value rest) h (own x refl) e fine
      by false e =
          let two = neither (react_fault s.rules s.args_override_self x [] h) (fails (reacted s.rules x [] h)) e in
          more (reacted s.rules x [] h) two.1 (react_fine x [] h (own x refl) two.0 fine)

  bundle_step_fine : (o : Option ℕ) (flags : Text) (skip : ℕ) (so_far : Outcome) (h : Held) (fails : Text → ℕ → Held → Kinds) (meets : Text → ℕ → Outcome → Held → Held × Outcome)
      → ((t : Text) (n : ℕ) (out : Outcome) (g : Held) → fails t n g ≡ [] → AreFine a g.rows → AreFine a (meets t n out g).0.rows)
      → bundle_step_fault s.rules s.args_override_self o flags skip h fails ≡ [] → AreFine a h.rows → AreFine a (bundle_step s.rules o flags skip so_far h meets).0.rows
  bundle_step_fine None flags skip so_far h fails meets more clean fine = fine
  bundle_step_fine (Some x) flags zero so_far h fails meets more clean fine =
      let rest = drop (length (encode_utf8 x)) flags in
      short_fine (arg_by_short s.rules x) rest h (fails rest 0) (meets rest 0 done) (λ y is. found (IsSole a) _ s.rules y sole is) (more rest 0 done) clean fine
  bundle_step_fine (Some x) flags (suc skip) so_far h fails meets more clean fine = more (drop (length (encode_utf8 x)) flags) skip so_far h clean fine

  bundle_fine : (k : ℕ) (flags : Text) (skip : ℕ) (so_far : Outcome) (h : Held) → flags_fault s.rules s.args_override_self k flags skip h ≡ [] → AreFine a h.rows
      → AreFine a (bundle_met s.rules k flags skip so_far h).0.rows
  unfolding flags_fault bundle_met
  bundle_fine zero flags skip so_far h clean fine = fine
  bundle_fine (suc k) flags skip so_far h clean fine =
      bundle_step_fine (slice_get (chars flags) 0) flags skip so_far h (flags_fault s.rules s.args_override_self k) (bundle_met s.rules k) (bundle_fine k) clean fine

  plain_rows : (state : Waiting) (word : Text) (h : Held) → (plain_word s.rules state word h).0.rows ≡ h.rows
  plain_rows (option id) word h = by (arg_by_id s.rules id)
    where
      by : (o : Option Rule) → (option_word o id word h).0.rows ≡ h.rows
      by None = refl
      by (Some x) = refl
  plain_rows _ word h = refl

  after_rows : (state : Waiting) (word : Text) (h : Held) (out : Outcome) → (after_flag s.rules state word h out).0.rows ≡ h.rows
  after_rows state word h done = refl
  after_rows state word h (waits id) = refl
  after_rows state word h _ = plain_rows state word h

  short_word_fine : (o : Option Text) (state : Waiting) (word : Text) (h : Held) → option_map_or (λ flags. bundle_fault s.rules s.args_override_self flags h) o [] ≡ []
      → AreFine a h.rows → AreFine a (short_or_plain s.rules state word o h).0.rows
  short_word_fine None state word h clean fine = subst (AreFine a) (sym (plain_rows state word h)) fine
  short_word_fine (Some flags) state word h clean fine =
      let met = bundle_met s.rules (length flags) flags h.skip plain (record h { skip = 0 }) in
      subst (AreFine a) (sym (after_rows state word met.0 met.1)) (bundle_fine (length flags) flags h.skip plain (record h { skip = 0 }) clean fine)

  flag_word_fine : (o : Option (Text × Option Text)) (state : Waiting) (word : Text) (h : Held) → flag_word_fault s.rules s.args_override_self o word h ≡ []
      → AreFine a h.rows → AreFine a (long_or_other s.rules state word o h).0.rows
  flag_word_fine (Some p) state word h clean fine =
      let met = long_met s.rules (arg_by_long s.rules p.0) p.1 h in
      subst (AreFine a) (sym (after_rows state word met.0 met.1)) (long_fine (arg_by_long s.rules p.0) p.1 h (λ y is. found (IsSole a) _ s.rules y sole is) clean fine)
  flag_word_fine None state word h clean fine = short_word_fine (short_of word) state word h clean fine

  other_fine : (state : Waiting) (position : ℕ) (word : Text) (h : Held) → other_fault s None word h ≡ [] → AreFine a h.rows
      → AreFine a (subcommand_or_other s.rules None state position word h).0.rows
  other_fine state position word h clean fine = by (bytes_eq word (45 ∷ 45 ∷ [])) clean
    where
      by : (b : Bool) → (if b then [] else flag_word_fault s.rules s.args_override_self (long_of word) word h) ≡ []
          → AreFine a (if b then (h, trailing position) else long_or_other s.rules state word (long_of word) h).0.rows
      by true e = fine
      by false e = flag_word_fine (long_of word) state word h e fine

  met_fine : (state : Waiting) (position : ℕ) (word : Text) (h : Held) → other_fault s (subcommand_met [] state word) word h ≡ [] → AreFine a h.rows
      → AreFine a (subcommand_or_other s.rules (subcommand_met [] state word) state position word h).0.rows
  met_fine idle position word h clean fine = other_fine idle position word h clean fine
  met_fine (option id) position word h clean fine = other_fine (option id) position word h clean fine
  met_fine positional position word h clean fine = other_fine positional position word h clean fine

  word_fine : (is_trailing : Bool) (state : Waiting) (position : ℕ) (word : Text) (h : Held) → word_fault s [] is_trailing state word h ≡ [] → AreFine a h.rows
      → AreFine a (word_met s.rules [] is_trailing state position word h).0.rows
  word_fine true state position word h clean fine = fine
  word_fine false state position word h clean fine = met_fine state position word h clean fine

  positional_fine : (x : Rule) (h : Held) → positional_fault s.rules s.args_override_self x h ≡ [] → AreFine a h.rows
      → AreFine a (if is_pending x h.pending && takes_several x then h else settled s.rules h).rows
  positional_fine x h clean fine = by (is_pending x h.pending && takes_several x) clean
    where
      by : (b : Bool) → (if b then [] else settle_fault s.rules s.args_override_self h) ≡ [] → AreFine a (if b then h else settled s.rules h).rows
      by true e = fine
      by false e = settle_fine h e fine

  value_fine : (o : Option Rule) (none : Kinds) (w : Walk) (word : Text) (h : Held) → option_map_or (λ x. positional_fault s.rules s.args_override_self x h) o none ≡ []
      → AreFine a h.rows → AreFine a (to_positional s.rules o word w h).held.rows
  value_fine None none w word h clean fine = fine
  value_fine (Some x) none w word h clean fine = positional_fine x h clean fine

  step_fine : (w : Walk) (word : Text) (h : Held) (step : Step) → step_fault s w.position h step ≡ [] → AreFine a h.rows → AreFine a (after_step s.rules word w h step).held.rows
  step_fine w word h value clean fine = value_fine (arg_by_index s.rules w.position) _ w word h clean fine
  step_fine w word h _ clean fine = fine

  turn_fine : (w : Walk) (word : Text) → turn_fault s [] w word ≡ [] → AreFine a w.held.rows → AreFine a (walked s.rules [] w word).held.rows
  unfolding walked
  turn_fine w word clean fine = by w.stopped clean
    where
      met : Held × Step
      met = word_met s.rules [] w.is_trailing w.waiting w.position word w.held

      by : (o : Option (Text × List Text)) → (if is_some o then [] else or_else (word_fault s [] w.is_trailing w.waiting word w.held) (step_fault s w.position met.0 met.1)) ≡ []
          → AreFine a (walked_from s.rules [] o w word).held.rows
      by (Some p) e = fine
      by None e =
          let two = neither (word_fault s [] w.is_trailing w.waiting word w.held) (step_fault s w.position met.0 met.1) e in
          step_fine w word met.0 met.1 two.1 (word_fine w.is_trailing w.waiting w.position word w.held two.0 fine)

  pub walk_fine : (words : List Text) (w : Walk) → walk_fault s [] w words ≡ [] → AreFine a w.held.rows → AreFine a (fold (walked s.rules []) w words).held.rows
  unfolding walk_fault
  walk_fine [] w clean fine = fine
  walk_fine (word ∷ rest) w clean fine =
      let two = neither (turn_fault s [] w word) (walk_fault s [] (walked s.rules [] w word) rest) clean in
      walk_fine rest (walked s.rules [] w word) two.1 (turn_fine w word two.0 fine)

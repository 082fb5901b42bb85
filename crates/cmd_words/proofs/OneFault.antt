-- A command with no subcommands finds at most one kind of fault in its words: one lemma for each step of clap's parse.
use Rattle.std.proofs.Common.{◌≡◌, ◌≤◌, ◌+◌, ◌&&◌, ◌||◌, ◌==◌, ℕ, Bool, zero, suc, true, false, not, length, min, drop, List, [], ◌∷◌, Option, Some, None, is_some, if◌then◌else◌, nat_lt, refl, sym, subst, arith}
use Rattle.std.specs.Prelude.{encode_utf8, slice_get}
use Rattle.std.specs.Option.{option_map_or}
use Rattle.std.specs.Str.{bytes_eq, chars}
use Rattle.clap.specs.Lexer.{long_of, short_of}
use Rattle.clap.specs.Matches.{count_text}
use Rattle.clap.specs.Values.{refused_kind}
use Rattle.clap.specs.ValueTests.{accepts}
use Rattle.clap.specs.Facts.{parser_of_value, unwrap_or_range}
use Rattle.clap.specs.Kinds.{Kinds, check_kinds, or_else, range_kinds, request_kinds, value_kinds, values_kinds}
use Rattle.clap.specs.Walk.{Held, Row, Rule, Step, Text, Waiting, Walk, action_of, arg_by_id, arg_by_index, arg_by_long, arg_by_short, attached_value, count_of, finished, has_row, idle, is_empty, is_pending, most_values, nothing_held, reacted, settled, subcommand_met, takes_several, takes_values, value, values_or_missing, walk, walk_from, walked, with_default, word_met}
use Rattle.clap.specs.Simple.{Shape, argument_words, built}
use Rattle.clap.specs.Faults.{action_fault, bundle_fault, bundle_step_fault, check_fault, count_fault, default_fault, defaults_fault, flag_word_fault, flags_fault, level_fault, long_fault, option_fault, other_fault, positional_fault, react_fault, repeat_fault, set_fault, settle_fault, short_fault, step_fault, stray_fault, turn_fault, use_fault, values_fault, walk_fault, word_fault}
use Rattle.clap.specs.declared.builder.action.ArgAction.{ArgAction}
use Rattle.clap.specs.declared.builder.action.ArgAction.TheVariants as action
use Rattle.clap.specs.declared.builder.value_parser.ValueParser.{ValueParser}
use Rattle.clap.specs.declared.error.kind.ErrorKind.TheVariants.{InvalidSubcommand, UnknownArgument}
use Rattle.clap.proofs.FaultLemmas.{leaf_fault}
use Rattle.cmd_words.specs.Arguments.{faults_of, youtopia_app}

-- at most one kind
abbrev IsFew : Kinds → Type 0
IsFew kinds = length kinds ≤ 1

few_none : IsFew []
few_none = omega arith

few_one : 1 ≤ 1
few_one = omega arith

few_if : (b : Bool) (x y : Kinds) → IsFew x → IsFew y → IsFew (if b then x else y)
few_if true x y p q = p
few_if false x y p q = q

few_or : (a b : Kinds) → IsFew a → IsFew b → IsFew (or_else a b)
few_or [] b p q = q
few_or (k ∷ ks) b p q = p

few_map_or : {X : Type 0} (o : Option X) (f : X → Kinds) (none : Kinds) → ((x : X) → IsFew (f x)) → IsFew none → IsFew (option_map_or f o none)
few_map_or None f none h p = p
few_map_or (Some x) f none h p = h x

-- ---- one use of an argument

few_value : (i : Bool) (p : ValueParser) (t : Text) → IsFew (value_kinds i p t)
few_value i p t = few_if (accepts i p t) [] (refused_kind p ∷ []) few_none few_one

few_values : (i : Bool) (p : ValueParser) (ts : List Text) → IsFew (values_kinds i p ts)
few_values i p [] = few_none
few_values i p (t ∷ ts) = few_or (value_kinds i p t) (values_kinds i p ts) (few_value i p t) (few_values i p ts)

few_range : (least most n : ℕ) → IsFew (range_kinds least most n)
few_range least most n =
    few_if (nat_lt 0 least && n == 0) _ _ few_one
    (few_if (least == most) _ _ (few_if (least == n) _ _ few_none few_one)
    (few_if (nat_lt n least) _ _ few_one (few_if (nat_lt most n) _ _ few_one few_none)))

few_request : (x : ArgAction) → IsFew (request_kinds x)
few_request action.Help = few_one
few_request action.HelpShort = few_one
few_request action.HelpLong = few_one
few_request action.Version = few_one
few_request _ = few_none

few_count : (a : Rule) (values : List Text) (rows : List Row) → IsFew (count_fault a values rows)
few_count a [] rows = few_value a.ignore_case (parser_of_value a.parser) (count_text (min (count_of a.id rows + 1) 255))
few_count a (v ∷ vs) rows = few_values a.ignore_case (parser_of_value a.parser) (v ∷ vs)

few_set : (again : Bool) (a : Rule) (values : List Text) (rows : List Row) → IsFew (set_fault again a values rows)
few_set again a values rows =
    few_or (repeat_fault again a.id rows) (values_fault a values) (few_if (has_row a.id rows && not again) _ _ few_one few_none)
    (few_values a.ignore_case (parser_of_value a.parser) values)

few_action : (x : ArgAction) (again : Bool) (a : Rule) (values : List Text) (rows : List Row) → IsFew (action_fault x again a values rows)
few_action action.Set again a values rows = few_set again a values rows
few_action action.SetTrue again a values rows = few_set again a values rows
few_action action.SetFalse again a values rows = few_set again a values rows
few_action action.Append again a values rows = few_values a.ignore_case (parser_of_value a.parser) values
few_action action.Count again a values rows = few_count a values rows
few_action action.Help again a values rows = few_one
few_action action.HelpShort again a values rows = few_one
few_action action.HelpLong again a values rows = few_one
few_action action.Version again a values rows = few_one

few_use : (again : Bool) (a : Rule) (values : List Text) (rows : List Row) → IsFew (use_fault again a values rows)
few_use again a values rows =
    few_or (range_kinds (unwrap_or_range a.range).start_inclusive (most_values a) (length values)) (action_fault (action_of a) again a (values_or_missing a values) rows)
    (few_range (unwrap_or_range a.range).start_inclusive (most_values a) (length values)) (few_action (action_of a) again a (values_or_missing a values) rows)

-- ---- a word

module _ (c : List Rule) (again : Bool) where
  few_settle : (h : Held) → IsFew (settle_fault c again h)
  few_settle h =
      few_map_or h.pending (λ p. option_map_or (λ a. use_fault again a p.1 h.rows) (arg_by_id c p.0) []) []
      (λ p. few_map_or (arg_by_id c p.0) (λ a. use_fault again a p.1 h.rows) [] (λ a. few_use again a p.1 h.rows) few_none) few_none

  few_react : (a : Rule) (values : List Text) (h : Held) → IsFew (react_fault c again a values h)
  few_react a values h =
      few_or (settle_fault c again h) (use_fault again a values (settled c h).rows) (few_settle h) (few_use again a values (settled c h).rows)

  few_option : (a : Rule) (v : Option Text) (h : Held) → IsFew (option_fault c again a v h)
  few_option a (Some v) h = few_react a (v ∷ []) h
  few_option a None h = few_settle h

  few_long : (found : Option Rule) (v : Option Text) (h : Held) → IsFew (long_fault c again found v h)
  few_long None v h = few_one
  few_long (Some a) v h =
      few_if (takes_values a) _ _ (few_option a v h) (few_if (is_some v) _ _ few_one (few_react a [] h))

  few_short : (found : Option Rule) (rest : Text) (h : Held) (next : Held → Kinds) → ((g : Held) → IsFew (next g)) → IsFew (short_fault c again found rest h next)
  few_short None rest h next few = few_one
  few_short (Some a) rest h next few =
      few_if (takes_values a) _ _ (few_option a (attached_value rest) h)
      (few_or (react_fault c again a [] h) (next (reacted c a [] h)) (few_react a [] h) (few (reacted c a [] h)))

  few_bundle_step : (x : Option ℕ) (flags : Text) (skip : ℕ) (h : Held) (next : Text → ℕ → Held → Kinds)
      → ((t : Text) (n : ℕ) (g : Held) → IsFew (next t n g)) → IsFew (bundle_step_fault c again x flags skip h next)
  few_bundle_step None flags skip h next few = few_none
  few_bundle_step (Some x) flags zero h next few =
      let rest = drop (length (encode_utf8 x)) flags in
      few_short (arg_by_short c x) rest h (next rest 0) (few rest 0)
  few_bundle_step (Some x) flags (suc skip) h next few = few (drop (length (encode_utf8 x)) flags) skip h

  few_flags : (k : ℕ) (flags : Text) (skip : ℕ) (h : Held) → IsFew (flags_fault c again k flags skip h)
  unfolding flags_fault
  few_flags zero flags skip h = few_none
  few_flags (suc k) flags skip h = few_bundle_step (slice_get (chars flags) 0) flags skip h (flags_fault c again k) (few_flags k)

  few_flag_word : (long : Option (Text × Option Text)) (word : Text) (h : Held) → IsFew (flag_word_fault c again long word h)
  few_flag_word (Some p) word h = few_long (arg_by_long c p.0) p.1 h
  few_flag_word None word h =
      few_map_or (short_of word) (λ flags. bundle_fault c again flags h) []
      (λ flags. few_flags (length flags) flags h.skip (record h { skip = 0 })) few_none

  few_positional : (a : Rule) (h : Held) → IsFew (positional_fault c again a h)
  few_positional a h = few_if (is_pending a h.pending && takes_several a) _ _ few_none (few_settle h)

-- ---- the walk of a command with no subcommands

module _ (s : Shape) where
  few_other : (word : Text) (h : Held) → IsFew (other_fault s None word h)
  few_other word h =
      few_if (bytes_eq word (45 ∷ 45 ∷ [])) _ _ few_none (few_flag_word s.rules s.args_override_self (long_of word) word h)

  few_met : (waits : Waiting) (word : Text) (h : Held) → IsFew (other_fault s (subcommand_met [] waits word) word h)
  few_met idle word h = few_other word h
  few_met _ word h = few_other word h

  few_word : (is_trailing : Bool) (waits : Waiting) (word : Text) (h : Held) → IsFew (word_fault s [] is_trailing waits word h)
  few_word is_trailing waits word h = few_if is_trailing _ _ few_none (few_met waits word h)

  few_stray : s.is_leaf ≡ true → IsFew (stray_fault s)
  few_stray leaf =
      subst (λ b. IsFew (if b then UnknownArgument ∷ [] else UnknownArgument ∷ InvalidSubcommand ∷ [])) (sym leaf) few_one

  few_step : s.is_leaf ≡ true → (position : ℕ) (h : Held) (met : Step) → IsFew (step_fault s position h met)
  few_step leaf position h value =
      few_map_or (arg_by_index s.rules position) (λ a. positional_fault s.rules s.args_override_self a h) (stray_fault s)
      (λ a. few_positional s.rules s.args_override_self a h) (few_stray leaf)
  few_step leaf position h _ = few_none

  few_turn : s.is_leaf ≡ true → (w : Walk) (word : Text) → IsFew (turn_fault s [] w word)
  few_turn leaf w word =
      let met = word_met s.rules [] w.is_trailing w.waiting w.position word w.held in
      few_if (is_some w.stopped) _ _ few_none
      (few_or (word_fault s [] w.is_trailing w.waiting word w.held) (step_fault s w.position met.0 met.1) (few_word w.is_trailing w.waiting word w.held)
      (few_step leaf w.position met.0 met.1))

  few_walk : s.is_leaf ≡ true → (w : Walk) (words : List Text) → IsFew (walk_fault s [] w words)
  unfolding walk_fault
  few_walk leaf w [] = few_none
  few_walk leaf w (word ∷ rest) =
      few_or (turn_fault s [] w word) (walk_fault s [] (walked s.rules [] w word) rest) (few_turn leaf w word) (few_walk leaf (walked s.rules [] w word) rest)

-- ---- after the walk

few_default : (rows : List Row) (a : Rule) → IsFew (default_fault rows a)
few_default rows a =
    few_if (has_row a.id rows || is_empty a.defaults) _ _ few_none
    (few_or (request_kinds (action_of a)) (values_fault a a.defaults) (few_request (action_of a))
    (few_values a.ignore_case (parser_of_value a.parser) a.defaults))

few_defaults : (rows : List Row) (rules : List Rule) → IsFew (defaults_fault rows rules)
unfolding defaults_fault
few_defaults rows [] = few_none
few_defaults rows (a ∷ rest) =
    few_or (default_fault rows a) (defaults_fault (with_default rows a) rest) (few_default rows a) (few_defaults (with_default rows a) rest)

few_check : (help subcommand argument : Bool) → IsFew (check_kinds help subcommand argument)
few_check help subcommand argument =
    few_if help _ _ few_one (few_if subcommand _ _ few_one (few_if argument _ _ few_one few_none))

few_level : (s : Shape) → s.is_leaf ≡ true → (words : List Text) → IsFew (level_fault s [] nothing_held words false [])
few_level s leaf words =
    let end = (walk s.rules [] nothing_held words).held in
    let checks = check_fault s (finished s.rules end) false in
    let defaults = defaults_fault (settled s.rules end).rows s.rules in
    let last = settle_fault s.rules s.args_override_self end in
    few_or (walk_fault s [] (walk_from nothing_held) words) (or_else last (or_else defaults checks)) (few_walk s leaf (walk_from nothing_held) words)
    (few_or last (or_else defaults checks) (few_settle s.rules s.args_override_self end)
    (few_or defaults checks (few_defaults (settled s.rules end).rows s.rules) (few_check _ _ _)))

-- clap finds at most one fault in the words
pub one_fault : (words : List Text) → length (faults_of words) ≤ 1
one_fault words =
    let app = built youtopia_app in
    let own = argument_words youtopia_app words in
    subst IsFew (sym (leaf_fault app nothing_held own refl)) (few_level app.top refl own)

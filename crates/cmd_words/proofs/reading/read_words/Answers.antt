use Rattle.std.proofs.Common.{◌∙◌, ℕ, ap, refl, sym, Some, map, string_bytes, List}
use Rattle.std.specs.Prelude.{option_map}
use Rattle.std.specs.Str.Parse.{ParsesUnsigned, ExplainsUnsignedError, HasUnsignedDigitsIfOk}
use Rattle.cmd_words.proofs.Matched.{word_is, workers_are, steps_are, retries_are, count_are, seed_are, unwrapped, there, flag_is}
use Rattle.cmd_words.proofs.Refusals.{asked, asked_not_refused, refused, taken, no_command, other_command, no_deps, other_deps, said_has_ranges, said_not_refused}
use Rattle.cmd_words.proofs.reading.read_words.Goals as goal

pub returns-in-Err-clause-answer : goal.returns-in-Err-clause-answer
returns-in-Err-clause-answer c = asked _ _ c.in-Err.error c.answer_to.result c.in_ok-command.ensures c.in-Err.ensures.kinds c.answer_to.ensures

pub returns-in-Err-clause-taken : goal.returns-in-Err-clause-taken
returns-in-Err-clause-taken c = asked_not_refused _ _ c.in-Err.error c.answer_to.result c.in_ok-command.ensures c.in-Err.ensures.kinds c.answer_to.ensures

pub returns-in-Err-clause-usage : goal.returns-in-Err-clause-usage
returns-in-Err-clause-usage c = refused _ _ c.in-Err.error c.answer_to.result c.in_ok-command.ensures c.in-Err.ensures.kinds c.answer_to.ensures

pub returns-in_default-clause-usage : goal.returns-in_default-clause-usage
returns-in_default-clause-usage c = λ _.
    no_command _ c.get_str.result (taken _ _ c.in_ok-command.ensures c.in-Ok.ensures.kinds) (word_is _ _ c.in-Ok.matches c.in_ok-command.ensures c.in-Ok.ensures.matches _ c.get_str.result c.get_str.ensures) c.in_default.is

pub returns-in_default-command_named-clause-usage : goal.returns-in_default-command_named-clause-usage
returns-in_default-command_named-clause-usage c = λ _.
    other_command _ c.get_str.result c.in-Some.name (taken _ _ c.in_ok-command.ensures c.in-Ok.ensures.kinds) (word_is _ _ c.in-Ok.matches c.in_ok-command.ensures c.in-Ok.ensures.matches _ c.get_str.result c.get_str.ensures) c.in-Some.is (c.in_default-command_named.ensures.none refl)

pub returns-in_default-get_str-clause-usage : goal.returns-in_default-get_str-clause-usage
returns-in_default-get_str-clause-usage c = λ _.
    no_deps _ c.get_str-2.result (taken _ _ c.in_ok-command.ensures c.in-Ok.ensures.kinds) (word_is _ _ c.in-Ok.matches c.in_ok-command.ensures c.in-Ok.ensures.matches _ c.get_str-2.result c.get_str-2.ensures) c.in_default-get_str.is

pub returns-in_default-deps_named-clause-usage : goal.returns-in_default-deps_named-clause-usage
returns-in_default-deps_named-clause-usage c = λ _.
    other_deps _ c.get_str-2.result c.in-Some-get_str.deps_word (taken _ _ c.in_ok-command.ensures c.in-Ok.ensures.kinds) (word_is _ _ c.in-Ok.matches c.in_ok-command.ensures c.in-Ok.ensures.matches _ c.get_str-2.result c.get_str-2.ensures) c.in-Some-get_str.is (c.in_default-deps_named.ensures.none refl)

pub unwrap-workers-requires : goal.unwrap-workers-requires
unwrap-workers-requires c = there c.get_one.result _ (workers_are _ (map string_bytes c.args.words.now) c.in-Ok.matches c.in_ok-command.ensures c.in-Ok.ensures.kinds c.in-Ok.ensures.matches
    _ (λ bs r. ParsesUnsigned 32 10 bs r × ExplainsUnsignedError 10 bs r × HasUnsignedDigitsIfOk bs r) (λ u x g. g.0) c.get_one.result c.get_one.ensures.value)

pub unwrap-steps-requires : goal.unwrap-steps-requires
unwrap-steps-requires c = there c.get_one-2.result _ (steps_are _ (map string_bytes c.args.words.now) c.in-Ok.matches c.in_ok-command.ensures c.in-Ok.ensures.kinds c.in-Ok.ensures.matches
    _ (λ bs r. ParsesUnsigned 32 10 bs r × ExplainsUnsignedError 10 bs r × HasUnsignedDigitsIfOk bs r) (λ u x g. g.0) c.get_one-2.result c.get_one-2.ensures.value)

pub unwrap-retries-requires : goal.unwrap-retries-requires
unwrap-retries-requires c = there c.get_one-3.result _ (retries_are _ (map string_bytes c.args.words.now) c.in-Ok.matches c.in_ok-command.ensures c.in-Ok.ensures.kinds c.in-Ok.ensures.matches
    _ (λ bs r. ParsesUnsigned 32 10 bs r × ExplainsUnsignedError 10 bs r × HasUnsignedDigitsIfOk bs r) (λ u x g. g.0) c.get_one-3.result c.get_one-3.ensures.value)

pub unwrap-count-requires : goal.unwrap-count-requires
unwrap-count-requires c = there c.get_one-4.result _ (count_are _ (map string_bytes c.args.words.now) c.in-Ok.matches c.in_ok-command.ensures c.in-Ok.ensures.kinds c.in-Ok.ensures.matches
    _ (λ bs r. ParsesUnsigned 32 10 bs r × ExplainsUnsignedError 10 bs r × HasUnsignedDigitsIfOk bs r) (λ u x g. g.0) c.get_one-4.result c.get_one-4.ensures.value)

pub unwrap-seed-requires : goal.unwrap-seed-requires
unwrap-seed-requires c = there c.get_one-5.result _ (seed_are _ (map string_bytes c.args.words.now) c.in-Ok.matches c.in_ok-command.ensures c.in-Ok.ensures.kinds c.in-Ok.ensures.matches
    _ (λ bs r. ParsesUnsigned 32 10 bs r × ExplainsUnsignedError 10 bs r × HasUnsignedDigitsIfOk bs r) (λ u x g. g.0) c.get_one-5.result c.get_one-5.ensures.value)

pub returns-clause-answer : goal.returns-clause-answer
returns-clause-answer c =
    let words = map string_bytes c.args.words.now in
    let is = c.in_ok-command.ensures in
    let command = word_is _ words c.in-Ok.matches is c.in-Ok.ensures.matches _ c.get_str.result c.get_str.ensures in
    let deps = word_is _ words c.in-Ok.matches is c.in-Ok.ensures.matches _ c.get_str-2.result c.get_str-2.ensures in
    record {
      taken = taken _ words is c.in-Ok.ensures.kinds;
      command = sym command ∙ (ap (option_map (λ s. s.now)) c.in-Some.is ∙ ap (λ (t : List ℕ). Some t) (c.in-Some-command_named.ensures.some _ refl));
      deps = sym deps ∙ (ap (option_map (λ s. s.now)) c.in-Some-get_str.is ∙ ap (λ (t : List ℕ). Some t) (c.in-Some-deps_named.ensures.some _ refl));
      workers = unwrapped c.get_one.result c.unwrap-workers.result _ _ _ words (workers_are _ (map string_bytes c.args.words.now) c.in-Ok.matches c.in_ok-command.ensures c.in-Ok.ensures.kinds c.in-Ok.ensures.matches
          _ (λ bs r. ParsesUnsigned 32 10 bs r × ExplainsUnsignedError 10 bs r × HasUnsignedDigitsIfOk bs r) (λ u x g. g.0) c.get_one.result c.get_one.ensures.value) c.unwrap-workers.ensures;
      steps = unwrapped c.get_one-2.result c.unwrap-steps.result _ _ _ words (steps_are _ (map string_bytes c.args.words.now) c.in-Ok.matches c.in_ok-command.ensures c.in-Ok.ensures.kinds c.in-Ok.ensures.matches
          _ (λ bs r. ParsesUnsigned 32 10 bs r × ExplainsUnsignedError 10 bs r × HasUnsignedDigitsIfOk bs r) (λ u x g. g.0) c.get_one-2.result c.get_one-2.ensures.value) c.unwrap-steps.ensures;
      retries = unwrapped c.get_one-3.result c.unwrap-retries.result _ _ _ words (retries_are _ (map string_bytes c.args.words.now) c.in-Ok.matches c.in_ok-command.ensures c.in-Ok.ensures.kinds c.in-Ok.ensures.matches
          _ (λ bs r. ParsesUnsigned 32 10 bs r × ExplainsUnsignedError 10 bs r × HasUnsignedDigitsIfOk bs r) (λ u x g. g.0) c.get_one-3.result c.get_one-3.ensures.value) c.unwrap-retries.ensures;
      count = unwrapped c.get_one-4.result c.unwrap-count.result _ _ _ words (count_are _ (map string_bytes c.args.words.now) c.in-Ok.matches c.in_ok-command.ensures c.in-Ok.ensures.kinds c.in-Ok.ensures.matches
          _ (λ bs r. ParsesUnsigned 32 10 bs r × ExplainsUnsignedError 10 bs r × HasUnsignedDigitsIfOk bs r) (λ u x g. g.0) c.get_one-4.result c.get_one-4.ensures.value) c.unwrap-count.ensures;
      seed = unwrapped c.get_one-5.result c.unwrap-seed.result _ _ _ words (seed_are _ (map string_bytes c.args.words.now) c.in-Ok.matches c.in_ok-command.ensures c.in-Ok.ensures.kinds c.in-Ok.ensures.matches
          _ (λ bs r. ParsesUnsigned 32 10 bs r × ExplainsUnsignedError 10 bs r × HasUnsignedDigitsIfOk bs r) (λ u x g. g.0) c.get_one-5.result c.get_one-5.ensures.value) c.unwrap-seed.ensures;
      tuple = word_is _ words c.in-Ok.matches is c.in-Ok.ensures.matches _ c.get_str-tuple.result c.get_str-tuple.ensures;
      query = word_is _ words c.in-Ok.matches is c.in-Ok.ensures.matches _ c.get_str-query.result c.get_str-query.ensures;
      trace = flag_is _ words c.in-Ok.matches is c.in-Ok.ensures.matches _ c.is_given-trace.result c.is_given-trace.ensures;
    }

pub returns-clause-taken : goal.returns-clause-taken
returns-clause-taken c = said_not_refused (map string_bytes c.args.words.now) _ (returns-clause-answer c)

pub returns-clause-ranges : goal.returns-clause-ranges
returns-clause-ranges c = said_has_ranges (map string_bytes c.args.words.now) _ (returns-clause-answer c)

-- The words of the line are written one by one.
use Rattle.std.proofs.Common.{ap, ◌∙◌}
use Rattle.std.specs.Prelude.{codes}
use Rattle.base_types.specs.Meanings.{fact_of}
use Rattle.def_language.specs.Grammar.{fact_words, separated}
use Rattle.def_language.specs.Printing.{written_fact}
use Rattle.def_language.specs.Words.{colon, name}
use Rattle.lang_schema.specs.Pages.{Written, with_line_feed, with_word, with_words}
use Rattle.yt_live.proofs.telling.base_line.Goals as goal

pub returns : goal.returns
returns c =
    let first = c.in_ok-name.ensures.word ∙ ap (λ (p : Written). with_word p (name (codes "yt_live"))) c.new.ensures.blank in
    let second = c.in_ok-colon.ensures.word ∙ ap (λ (p : Written). with_word p colon) first in
    let third = c.in_ok-name-2.ensures.word ∙ ap (λ (p : Written). with_word p (name (codes "base"))) second in
    let fourth = c.in_ok-name-3.ensures.word ∙ ap (λ (p : Written). with_word p (name (codes "violates"))) third in
    let fifth = c.in_ok-name-4.ensures.word ∙ (λ i. with_word (fourth i) (name (c.as_slice.ensures.items i))) in
    let head = c.in_ok-head.ensures.word ∙ ap (λ (p : Written). with_word p colon) fifth in
    let page = c.in_ok-page.ensures.words ∙ (λ i. with_words (head i) (separated (λ t. fact_words (written_fact c.args.schema.now (fact_of t))) (c.as_slice-2.ensures.items i))) in
    c.into_text.ensures.text ∙ ap (λ (p : Written). p.text) (c.in_ok-end_line.ensures.ended ∙ ap with_line_feed page)

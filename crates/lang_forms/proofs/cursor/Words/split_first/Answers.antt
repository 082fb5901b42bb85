use Rattle.std.proofs.Common.{◌≡◌, ◌-◌, ◌∷◌, ap, sym, ◌∙◌, arith, take, drop}
use Rattle.lang_forms.specs.Views.{words_of, words_from}
use Rattle.def_language.specs.Words.{Word, said}
use Rattle.lang_forms.proofs.Walked.{no_word, one_word}
use Rattle.lang_forms.proofs.cursor.Words.split_first.Goals as goal

pub returns-in_default : goal.returns-in_default
unfolding words_of
returns-in_default c = no_word c.args.self.line.now c.args.self.place c.in_default.ensures.first

pub returns : goal.returns
unfolding words_of
returns c =
    let e : c.in-Some.token.from - 0 ≡ c.in-Some.token.from = omega arith in
    let token = c.in-Some.token in
    let line = c.args.self.line.now in
    let first = one_word line c.args.self.place token c.in-Some.ensures.first c.in-Some.ensures.faultless in
    first ∙ ap (λ (w : Word). w ∷ words_from token.to line) (ap (λ k. said token.kind (take (token.to - token.from) (drop k line))) e ∙ sym c.of-word.ensures)

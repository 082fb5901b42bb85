use Rattle.std.proofs.Common.{length, ◌-◌, ◌≡◌, ◌+◌, ◌≤◌, drop}
use Rattle.def_language.specs.QuotedTexts.{text_from}
use Rattle.lang_lex.proofs.Carried.{carried}
use Rattle.lang_lex.proofs.values.text_of.Given as goal

abbrev pub invariant-said : goal.invariant-said
invariant-said l = record {
  together : carried l.said.items l.width (text_from 0 (1 + l.width) (drop l.width l.rest)) ≡ text_from 0 1 l.rest;
  rest_is : l.rest ≡ drop 1 l.fn.spelling;
  within : l.width ≤ length l.rest;
}

abbrev pub decreases-said : goal.decreases-said
decreases-said l = length l.rest - l.width

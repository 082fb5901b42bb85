use Rattle.std.proofs.Common.{length, ◌-◌, ◌≡◌, ◌+◌, ◌≤◌, drop}
use Rattle.def_language.specs.QuotedTexts.{text_from}
use Rattle.lang_lex.proofs.Carried.{added}
use Rattle.lang_lex.proofs.texts.text_at.Given as goal

abbrev pub invariant-said : goal.invariant-said
invariant-said l = record {
  together : added l.count l.width (text_from l.opened (l.opened + 1 + l.width) (drop l.width l.rest)) ≡ added 0 0 (text_from l.opened (l.opened + 1) l.rest);
  short : l.count ≤ l.width;
  within : l.width ≤ length l.rest;
}

abbrev pub decreases-said : goal.decreases-said
decreases-said l = length l.rest - l.width

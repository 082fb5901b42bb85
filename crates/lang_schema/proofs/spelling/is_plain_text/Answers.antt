use Rattle.std.proofs.Common.{rules, tests}
use Rattle.std.proofs.lemmas.Iterator.{YieldsList-from_slice}
use Rattle.std.proofs.lemmas.Iterator.Search.{all_from_yields_List}
use Rattle.lang_schema.specs.Pages.{is_plain}
use Rattle.lang_schema.proofs.spelling.is_plain_text.Goals as goal

pub returns : goal.returns
returns c = all_from_yields_List is_plain c.all.new.self _ _ c.all.ensures.ran (YieldsList-from_slice c.args.text.now cc) (λ x b q k. search (rules, tests))

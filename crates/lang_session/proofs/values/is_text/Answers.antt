use Rattle.lang_session.proofs.Texts.{all_text, part_text}
use Rattle.lang_session.proofs.values.is_text.Goals as goal

pub returns-in-None : goal.returns-in-None
returns-in-None c = all_text c.args.bytes.now c.in-None.ensures.whole

pub returns-in-Some : goal.returns-in-Some
returns-in-Some c = part_text c.args.bytes.now c.in-Some.field-0 c.in-Some.ensures.place

use Rattle.base_types.specs.Meanings.{choice_of}
use Rattle.chase_question.specs.Inquiries.{inquiry_of}
use Rattle.core_engine.proofs.Replying.{fits_asked, fits_none}
use Rattle.core_engine.proofs.cores.Core.fits.Goals as goal

pub returns-in-Some : goal.returns-in-Some
returns-in-Some c =
    record { fits = fits_asked c.args.self.now c.args.update (choice_of c.args.choice.now) (inquiry_of c.in-Some.question.now) c.fits.result c.in-Some.ensures.question c.fits.ensures.asked }

pub returns-in-None : goal.returns-in-None
returns-in-None c = record { fits = fits_none c.args.self.now c.args.update (choice_of c.args.choice.now) c.in-None.ensures.question }

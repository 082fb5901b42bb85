use Rattle.def_history.proofs.Asked.{questions_are_of_views}
use Rattle.def_history.proofs.any_order.questions_are_of_present_views.Goals as goal

pub returns : goal.returns
returns c = questions_are_of_views

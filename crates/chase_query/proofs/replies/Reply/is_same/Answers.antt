use Rattle.chase_query.proofs.Same.{images_same, lists_same}
use Rattle.chase_query.proofs.replies.Reply.is_same.Goals as goal

pub returns-in-Image-other : goal.returns-in-Image-other
returns-in-Image-other c = record { same = images_same c.args.self.now c.args.other.now c.in-Image.image c.in-Image-other.its_image c.eq.result c.in-Image.is c.in-Image-other.is c.eq.ensures }

pub returns-in-Tuples-other : goal.returns-in-Tuples-other
returns-in-Tuples-other c = record { same = lists_same c.args.self.now c.args.other.now c.in-Tuples.tuples c.in-Tuples-other.its_tuples c.eq-in-Tuples-other.result c.in-Tuples.is c.in-Tuples-other.is c.eq-in-Tuples-other.ensures }

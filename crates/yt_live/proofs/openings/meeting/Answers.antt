-- The base of a valid session is in order.
use Rattle.yt_live.proofs.openings.meeting.Goals as goal

pub base_of-requires : goal.base_of-requires
base_of-requires c = record { sorted = c.requires.valid.base_order }

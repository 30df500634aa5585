-- `reader::frames::receive_frame` meets its contract: what is read into the room for any frame is just the frame's bits, and those are
-- what the lent part is descrambled from.
use Rattle.reader.proofs.Received.{part_lent, part-received}
use Rattle.reader.proofs.frames.receive_frame.Goals as goal

pub descramble_part-register-requires : goal.descramble_part-register-requires
descramble_part-register-requires c = part_lent c.requires c.read_frame-z.ensures.0 _

pub returns : goal.returns
returns c = part-received c.requires c.read_frame-z.ensures.0 _ c.read_frame-z.ensures.1 c.descramble_part-register.ensures

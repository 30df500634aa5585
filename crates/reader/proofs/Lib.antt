-- What the proofs of several functions share.
--     Passes        the labels of a data frame, as the reader's passes meet them
--     Ranking       the numbers of the frames' rings, which are found once
--     Received      one frame, as it is received
--     Incoming      what the loop of `receive` holds
pub mod Passes
pub mod Ranking
pub mod Received
pub mod Incoming

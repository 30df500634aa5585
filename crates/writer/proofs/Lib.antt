-- What the proofs of several functions share.
--     Sends         what the loop of `send` holds
pub mod Sends

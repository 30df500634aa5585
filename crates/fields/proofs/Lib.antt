-- What the proofs of the functions share.
--     Weights     numbers and their bits, highest weight first, and the register as a number
--     Checks      the register bit by bit, and a check put behind its bits
--     Places      a picture place by place
--     Rows        a table row by row
--     Ways        the answers of reader and writer, test by test
pub mod Weights
pub mod Checks
pub mod Places
pub mod Rows
pub mod Ways

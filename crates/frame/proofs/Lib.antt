-- What is proved of one mapping frame: of the definitions of specs/,
--     Symbols     one 4D symbol: bits and labels, there and back
--     InTurn      several symbols, one after the other
--     Written     reading what was written gives the bits back
--     Accepted    writing what was read gives the labels back
--     Lengths     the shapes of accepted settings, how many bits a frame has, and that there is a next one
-- and what the proofs of several functions share,
--     Fours       lists cut into fours
--     Sixteen     sixteen labels, symbol by symbol
--     WriteLoop   what the loop of `write_frame` holds
--     ReadLoop    what the loop of `read_frame` holds
pub mod Symbols
pub mod InTurn
pub mod Written
pub mod Accepted
pub mod Lengths
pub mod Fours
pub mod Sixteen
pub mod WriteLoop
pub mod ReadLoop

-- What is proved of the scrambler.
--     Inverse     the scrambler and its inverse undo each other, with equal registers
--     Register    the register holds the last 23 outputs
--     Slices      a slice that is filled with bits, the register going on beside it
--     Fronts      the scrambler over a front and the rest of a list
--     Joins       lists of bits one after the other
--     Impulse     document 01's two worked responses
pub mod Inverse
pub mod Register
pub mod Impulse
pub mod Slices
pub mod Fronts
pub mod Joins

-- Clause 7.
--     Scrambler    both polynomials, there and back, over lists of bits
--     Parts        what the code does with slices of bits
--     Requires     what the workers ask of their callers
pub mod Scrambler
pub mod Parts
pub mod Requires

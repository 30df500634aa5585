-- Sequences of bits that carry fields (V.34, clause 10.1.2.3), whatever their length. To be read in this order:
--     Register    the check: a shift register, and the sixteen bits that it leaves
--     Division    division by a polynomial, over bits, of which the check is the remainder
--     Picture     the places of a sequence: fixed ones, which always hold the same bit, and free ones
--     Table       the fields: their places, widths and ranges, and the bits that they are
--     Sequence    any sequence: in its free places stand the bits of the fields and then their check; what reader and writer answer
pub mod Register
pub mod Division
pub mod Picture
pub mod Table
pub mod Sequence

-- Bits, and whole numbers as bits.
--     Digits    the number that bits are, the bits of a number, and when bytes are bits
pub mod Digits

-- The frequency offset (V.34, Table 15, bits 79 to 88).
--     Signed      two's complement, for any number of bits
--     Hertz       what a count says in hertz
--     Requires    what the workers ask of their callers
pub mod Signed
pub mod Hertz
pub mod Requires

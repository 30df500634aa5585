-- What is proved of bits,
--     Digitals    numbers and their bits undo each other
--     Tested      bytes that pass the test are bits, and others don't
-- and what the proofs of the functions share,
--     Values      numbers taken and put bit by bit
pub mod Digitals
pub mod Tested
pub mod Values

-- The sequence Jp (V.92, clause 8.6.3).
--     Jp          its picture and the table of its fields, what they are called, and what the reader answers
--     Part        the fraction as a float
--     Table22     Jp bit by bit, as its table prints it
pub mod Part
pub mod Jp
pub mod Table22

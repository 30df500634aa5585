-- The INFO sequences (V.34, clause 10.1.2.3).
--     Frame       what stands around the fields of every INFO sequence
--     Info0       INFO0: the table of its fields, and what they are called
--     Table14     INFO0 bit by bit, as its table prints it
--     Info1c      INFO1c: the table of its fields, what they are called, and the report of the reader
--     Table15     INFO1c bit by bit, as its table prints it
pub mod Frame
pub mod Info0
pub mod Table14
pub mod Info1c
pub mod Table15

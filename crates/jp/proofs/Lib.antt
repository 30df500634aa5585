-- What is proved of Jp.
--     Rows22      picture and table are Table 22: exactly which sequences are read and which fields are written
--     Parts       the fraction as a float is exact
--     Answers     what the reader answers, accepted and refused
--     Trips22     reading what was written; writing what was read, exactly where the reserved bits were 0; and at most one answer
--     Worked22    sequences worked out apart, and which refusal is given where several hold
--     Heard       no two outcomes are told alike
pub mod Rows22
pub mod Parts
pub mod Answers
pub mod Trips22
pub mod Worked22
pub mod Heard

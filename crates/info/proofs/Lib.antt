-- What is proved of the INFO sequences,
--     Frames      the sequence around n bits of fields is fill, sync, fields, check, fill
-- of INFO0,
--     Rows14      picture and table are Table 14: exactly which sequences are read and which fields are written
--     Trips0      reading what was written, writing what was read, and at most one answer
--     Marks       the mark is bit 25, and nothing else decides it
--     Worked0     sequences worked out apart, and which refusal is given where several hold
-- of INFO1c,
--     Rows15      picture and table are Table 15: exactly which sequences are read, and which fields and counts are written
--     Reports     what a report says where the sequence is accepted, and where it is refused
--     Trips1c     reading what was written, each count too, writing what was read, and at most one answer
--     Offsets     bit 88 is the sign of the count; hertz are one division; where there is no reading
--     Worked1c    sequences worked out apart, and which refusal is given where several hold
-- and of both,
--     Heard       no two outcomes are told alike
pub mod Frames
pub mod Rows14
pub mod Trips0
pub mod Marks
pub mod Worked0
pub mod Rows15
pub mod Reports
pub mod Trips1c
pub mod Offsets
pub mod Worked1c
pub mod Heard

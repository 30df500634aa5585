-- What is proved of the offset.
--     Sides       numbers on either side of 0
--     Signs       two's complement: bits and numbers undo each other, and the highest bit counts negative
--     Readings    which counts have a reading, and what it is
--     Exact       where the hertz are exact
--     Worked      cases that were worked out apart
pub mod Sides
pub mod Signs
pub mod Readings
pub mod Exact
pub mod Worked

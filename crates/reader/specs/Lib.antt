-- The mapping frames of a data frame, as they are read. What the reader answers is said in `coder`.
--     OneFrame    what one mapping frame gives
--     Requires    what the workers ask of their callers
pub mod OneFrame
pub mod Requires

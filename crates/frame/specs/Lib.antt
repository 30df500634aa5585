-- One mapping frame (document 01, "From bits to labels"; V.34, clauses 9.3 and 9.5).
--     Shape       how many bits of a frame go where
--     Next        the next frame of a data frame: high or low, its shape and its bits
--     Writing     from a frame's bits to its sixteen labels
--     Reading     from sixteen labels to a frame's bits, and when they are accepted
--     Requires    what the workers ask of their callers
pub mod Shape
pub mod Next
pub mod Writing
pub mod Reading
pub mod Requires

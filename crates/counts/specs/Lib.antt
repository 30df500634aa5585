-- The counts of an M as the code holds them (V.34, clause 9.4, (9-3) to (9-6)), and places among them.
--     Rows        what the rows of the counts hold
--     Counts      when counts are those of an M
--     Located     where a place lies among running sums, and what is left of it there
--     Requires    what workers ask of their callers
pub mod Rows
pub mod Counts
pub mod Located
pub mod Requires

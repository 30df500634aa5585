-- The mapping frames of a data frame, one after the other (document 01, "Switching"; clause 8.2).
--     Steps    what a step gives, and where one may be taken
pub mod Steps

-- The refusals and their numbers.
--     Numbers    the number of each refusal, and of an outcome
pub mod Numbers

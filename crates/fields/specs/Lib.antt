-- What the workers of any sequence are told, and what they ask.
--     Weights     numbers as bits, highest weight first: the check as the code holds it
--     Requires    what the workers ask of their callers
--     Told        what is told of the reader's outcome
pub mod Weights
pub mod Requires
pub mod Told

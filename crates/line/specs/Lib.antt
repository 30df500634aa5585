-- The settings of a line (document 01, "Settings" and "Numbers that follow from the settings").
--     Asked        the settings as they are asked for
--     Rates        the six symbol rates
--     Numbers      N, b, r, K, q, M and L
--     Switching    which mapping frames of a data frame are high
--     Worked       what the work-out answers
--     Settings     the settings worked out, or the first refusal
--     Cases        the cases that document 01 works out
--     Requires     what the workers ask of their callers
pub mod Asked
pub mod Rates
pub mod Numbers
pub mod Switching
pub mod Worked
pub mod Settings
pub mod Cases
pub mod Requires

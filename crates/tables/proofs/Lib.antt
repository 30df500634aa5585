-- What the program relies on of accepted settings.
--     Fits     P is 1 to 16, r at most P, and the counter stays below P
pub mod Fits

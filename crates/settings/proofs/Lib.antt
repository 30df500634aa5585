-- What is proved of the settings program.
--     Decimals    decimal is right
--     Joins       numbers with spaces between
--     Fitting     every line fits into 40 bytes
--     Outcomes    at most one outcome fits the contract
--     Worked      inputs with their lines
--     Acceptance  which inputs are answered with values, and which line begins with the r of `refused`
pub mod Decimals
pub mod Joins
pub mod Fitting
pub mod Outcomes
pub mod Worked
pub mod Acceptance

-- What is proved of the settings of a line.
--     Rows         the table of symbol rates
--     Divisions    b, q and K by divisions, as the code computes them
--     Rings        the two ring counts
--     DataFrames   the switching of a data frame
--     Acceptance   which settings are accepted, and that at most one outcome fits
--     Outcomes     what the work-out's result tells, and that it tells no two apart results the same
--     Soundness    what holds of all accepted settings
--     WorkedCases  the cases that document 01 works out
pub mod Rows
pub mod Divisions
pub mod Rings
pub mod DataFrames
pub mod Acceptance
pub mod Outcomes
pub mod Soundness
pub mod WorkedCases

-- What the proofs of several functions share.
--     FewPairs    sums of the counts of pairs stay small
--     Filled      a row of zeros that is filled from the front
--     Lighters    the rows of the table, and where each stands
--     Placed      what the code found is what the specs say
pub mod FewPairs
pub mod Filled
pub mod Lighters
pub mod Placed

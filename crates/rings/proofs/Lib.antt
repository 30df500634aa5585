-- What the proofs of several functions share, and demand 3.
--     Tests       what the tests of the entries say
--     Fours       what fours of rings need of the row of pairs
--     Eights      what eight rings need of the counts
--     Answering   what the functions need of the entries' answers
--     Acceptance  which calls the entries answer with 0
--     Demand3     demand 3 over the entries' answers, and that at most one outcome fits
--     Starred     the cases that document 01 marks as proved
--     Told        no two outcomes of the ranker are told alike
pub mod Tests
pub mod Fours
pub mod Eights
pub mod Answering
pub mod Acceptance
pub mod Demand3
pub mod Starred
pub mod Told

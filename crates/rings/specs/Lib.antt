-- The mapper and the ranker (document 01, "The eight rings" and "What comes back").
--     Parts      pairs and fours of rings, and what is found on the way to them, as the code holds them
--     Mapping    the refusals and answers of the two entries, for all inputs
--     Cases      the cases of document 01 that are proved
pub mod Parts
pub mod Mapping
pub mod Cases

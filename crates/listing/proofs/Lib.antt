-- Why counting and listing agree.
--     Halves      a place among the sets of one weight, split between the two halves
--     Bounds      how large counts and sums of products can be
--     CountLaws   where the counts are 0, and a list of z8 that computes in few steps
--     Family      graded families and their join, by which fours are made of pairs and eights of fours
--     Pairs       pairs of rings are a graded family
--     Listing     a graded family listed weight after weight: its numbers, and how many items stand before one
--     Plain       the plain lists hold every set once, M^8 sets of eight
--     Agree       counting and listing agree, for all M at once
--     SameKeys    equal in all eight keys means the same set
--     Formulas    clause 9.4's formulas (9-3) to (9-6)
--     Steps       the counts of fours one after the other, by sums alone
pub mod Halves
pub mod Bounds
pub mod CountLaws
pub mod Family
pub mod Pairs
pub mod Listing
pub mod Plain
pub mod Agree
pub mod SameKeys
pub mod Formulas
pub mod Steps

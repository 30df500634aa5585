-- The eight rings (document 01, "The eight rings"; V.34, clause 9.4), in the order in which they are read.
--     Sets      eight rings, and the list of all sets of eight rings below M
--     Order     the listing order, with no counts in it, and how many sets stand before a set
--     Counts    g2, g4, g8 and z8
--     Number    the eight rings that a number gives, and the number of eight rings
pub mod Sets
pub mod Order
pub mod Counts
pub mod Number

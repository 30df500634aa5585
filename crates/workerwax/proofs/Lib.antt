-- What is proved of the calls for C.
--     Outcomes     at most one outcome fits each contract
--     Accepts      which calls get 0, exactly, and that ww_write takes every data frame from a start
--     InOrder      the refusals of every call follow one row
--     Unstated     an unstated mark is never taken as permission
--     FromTheLine  the mark that ww_info0_read answers is bit 25, and no call refuses it as unstated
--     Back         ww_write and ww_read undo each other
--     InfoBack     the calls of any sequence undo each other, and so those of INFO0 and of INFO1c
--     Reported     the report of INFO1c in bytes: its count, its flag and its hertz
--     JpBack       the calls of Jp, and what they undo; its answer in bytes: the fields and the double
--     Places       ww_map and ww_rank by how many sets stand before a set, and that they undo each other
--     Words        what the words of an answer say, and that the state in them is fit again
--     Undone       bytes there and back, and worked layouts
-- and what the proofs of several functions share,
--     Layouts      numbers and labels put and taken one after the other
--     Lends        how many labels the coder is lent
--     Refusals     every refusal number fits the 32 bits in which C gets it
--     Ways         the ranker by its ways out
--     Coding       the writer and the reader by their ways out
--     Infos        the calls of any sequence by their ways out, and what the reader and the writer below them did
-- and for the theorems
--     Carried      how the numbers of a sequence's fields are carried in bytes, and what an answer tells
--     Doubles      the eight bytes of a double
--     Below        a call of ww_write or ww_read, and what the coder below it did
pub mod Outcomes
pub mod Accepts
pub mod InOrder
pub mod Unstated
pub mod FromTheLine
pub mod Back
pub mod InfoBack
pub mod Reported
pub mod JpBack
pub mod Places
pub mod Words
pub mod Undone
pub mod Layouts
pub mod Lends
pub mod Refusals
pub mod Ways
pub mod Coding
pub mod Infos
pub mod Carried
pub mod Doubles
pub mod Below

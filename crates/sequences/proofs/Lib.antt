-- What is proved of the check, over bits of any length,
--     Adds        sums of lists of bits
--     Registers   the register has sixteen bits, whatever it is fed with
--     Own         bits followed by their own check leave 0, and only those do
--     Linear      the register of a sum is the sum
--     Bursts      up to sixteen wrong bits in a row are noticed, so a single one is
--     Divides     the check is the remainder of a division
--     Quotients   and the division is one: quotient times polynomial plus remainder, and no others
--     Worked      the check of "123456789" is 29B1
-- and of any sequence,
--     Pictures    what stands in the free places, and the sequence around it, undo each other
--     Tables      numbers and bits of fields undo each other; a table that is laid on a picture takes what stands in its free places
--     Given       where each refusal is given: the first test that fails decides
--     Sequences   exactly which are accepted; what was written is read, and what was read is written
--     Noticed     an accepted sequence with up to sixteen free places in a row turned is refused
--     Trips       what was written is read, and what was read is written, of the answers; at most one answer fits
--     Named       fields by names, as a table prints them: exactly the printed sequences are read and written, there and back
--     Listed      a list is its numbers one by one: so a struct may hold the numbers of the fields
pub mod Adds
pub mod Registers
pub mod Own
pub mod Linear
pub mod Bursts
pub mod Divides
pub mod Quotients
pub mod Worked
pub mod Pictures
pub mod Tables
pub mod Given
pub mod Sequences
pub mod Noticed
pub mod Trips
pub mod Named
pub mod Listed

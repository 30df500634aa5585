-- One data frame, there and back (document 01, "From bits to labels" and "What comes back").
--     State       the state, and the two starts
--     Sending     the labels of a data frame's bits
--     Receiving   the bits of a data frame's labels, and when they are accepted
--     Answers     what the writer and the reader answer, for all inputs
--     Chain       data frames in a row
pub mod State
pub mod Sending
pub mod Receiving
pub mod Answers
pub mod Chain

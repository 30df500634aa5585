-- What is proved of the notions of specs/.
--     Ranges        the ranges of a data frame's labels, frame by frame
--     Sent          what was written is accepted, and read back
--     Received      what is accepted is written again
--     Outcomes      at most one outcome fits each contract
--     Refusing      which number they give where the settings are accepted
--     Acceptance    when the writer and the reader answer 0, and what they answer then
--     WaysOut       the ways out of writer and reader, said once for both
--     Back          writer and reader undo each other, from every state
--     Starting      which starts answer 0, and what follows from a start
--     Held          what the next state holds: the register the last 23 scrambled bits, Z the last Z among the labels
--     Chains        data frames in a row
--     Demand2       what holds of any writer and reader that undo each other
pub mod Ranges
pub mod Sent
pub mod Received
pub mod Outcomes
pub mod Refusing
pub mod Acceptance
pub mod WaysOut
pub mod Back
pub mod Starting
pub mod Held
pub mod Chains
pub mod Demand2

-- What C sees (docs/INTERFACE.md): bytes.
--     Layout    numbers and labels as bytes
--     Calls     what each call answers, for all inputs, and the order of all refusals
--     Info      the same for the calls of the INFO sequences
--     Jp        and for those of Jp
-- and for private functions
--     Laws      what a layout has to hold to be put and taken number by number
--     Lending   how much the coder is lent, and the ranker shown
pub mod Layout
pub mod Calls
pub mod Info
pub mod Jp
pub mod Laws
pub mod Lending

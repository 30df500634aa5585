-- What is proved of the refusals' numbers,
--     Once    no refusal has the number 0, and no two have the same
pub mod Once

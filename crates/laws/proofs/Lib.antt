-- What is proved of the notions of specs/.
--     Bools       tests made of tests
--     Choices     the first refusal whose test holds
--     Sums        sums rise, are bounded, and are equal where their numbers are
--     Largests    the block of a running sum that a number lies in
--     Rising      the largest place of a function that rises
--     Smallests   the smallest number that passes a test
--     Tables      a rule at every number below a limit, by one computed test
--     Powers      powers by squaring and by a shift
--     Orders      the packing law: F b + r compares as b, then as r
--     Convolution  lists of values, of sums over two places and of running sums
--     Counting    if each number is hit once, as many items are below s as s says
--     Puts        a part put in a buffer: by a store, by a loan, behind a part
--     Emits       lists made part by part, and a buffer that is filled with them
--     Floats      one whole number over another as a float: rounded once, and never a NaN
pub mod Bools
pub mod Choices
pub mod Sums
pub mod Largests
pub mod Convolution
pub mod Rising
pub mod Smallests
pub mod Tables
pub mod Powers
pub mod Orders
pub mod Counting
pub mod Puts
pub mod Emits
pub mod Floats

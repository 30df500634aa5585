-- The general notions that the specs of other crates use, each said once.
--     Sum       f 0 + f 1 + .. + f (n − 1)
--     Largest   the largest b up to a limit with f b ≤ r
--     Smallest  the smallest k below a limit that passes a test
--     Lists     the numbers below n, all pairs out of two lists, how many of a list pass a test, what holds of each
--     Order     two lists of numbers compared by the first place at which they differ
--     Choice    the first refusal whose test holds
--     Put       a part put into a buffer at a place
--     Emit      lists that are made part by part
pub mod Sum
pub mod Largest
pub mod Smallest
pub mod Lists
pub mod Order
pub mod Choice
pub mod Put
pub mod Emit

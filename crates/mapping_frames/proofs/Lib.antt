-- What the proof of a step needs.
--     Goes    where a step was taken, the next may be
pub mod Goes

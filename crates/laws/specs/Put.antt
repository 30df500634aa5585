-- A part put into a buffer at a place: what stands before the place stays, then comes the part, then what stands behind it.
--
--     buffer                     a b c d e f
--     put buffer 2 (x, y)        a b x y e f      the next place is 4
use Rattle.std.specs.Prelude.{List, ◌++◌, ◌≡◌, ℕ, ◌+◌, length, take, drop}

abbrev pub put : List ℕ → ℕ → List ℕ → List ℕ
put buffer at part = take at buffer ++ (part ++ drop (at + length part) buffer)

-- the part is put, and `next` is the place behind it
pub record Put (part before after : List ℕ) (at next : ℕ) : Type 0 where
  pub buffer : after ≡ put before at part
  pub place : next ≡ at + length part

-- What private functions of the calls hand down; no promise rests on this page. Where a length is wrong they hand down nothing, so that
-- what is below them refuses with 8, in its place among the other refusals.
--
-- How many labels the coder is lent for a slice of bytes and an answer of some length: half as many as there are bytes. 0 where the answer
-- has not its bytes, where a byte is left over, and where there are more bytes than any data frame has. No data frame has 0 labels, so
-- 0 is a wrong length as well.
--
--     bytes of labels   answer   labels lent
--     480               32       240
--     480               28       0
--     481               32       0
--     514               32       0
use Rattle.std.specs.Prelude.{◌&&◌, cond, ℕ, ◌/◌, ◌%◌, leb, eqb}
use Rattle.workerwax.specs.Layout.{rank_bytes, coded_bytes}

unfoldable pub lent_labels : ℕ → ℕ → ℕ
lent_labels labels answer = cond (eqb answer coded_bytes && (leb labels 512 && eqb (labels % 2) 0)) (labels / 2) 0

-- how many rings the ranker is shown: none where the answer has not its bytes
unfoldable pub shown_rings : ℕ → ℕ → ℕ
shown_rings rings answer = cond (eqb answer rank_bytes) rings 0

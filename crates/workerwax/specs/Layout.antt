-- Numbers and labels as bytes, lowest first.
--
--     a number of an answer     four bytes     1176     152, 4, 0, 0
--     a label                   two bytes      415      159, 1
--
-- A list of numbers or labels is laid out one after the other, in its order, with nothing between. So the answers have these lengths:
--
--     parameters_bytes     N P b r K q M L                       32 bytes
--     rank_bytes           S                                     4 bytes
--     start_bytes          role s n shaping mark register Z      28 bytes
--     coded_bytes          N, and the next state                 32 bytes
--     info0_bytes          the fields of INFO0                   56 bytes, and info0_bits its 49 bits, a byte each
--     info1c_bytes         the fields of INFO1c                  88 bytes, and info1c_bits its 109 bits, a byte each
--     report_bytes         these, flag and hertz                 100 bytes
--     jp_bytes             the fields of Jp, and a double        20 bytes, and jp_bits its 72 bits, a byte each
use Rattle.std.specs.Prelude.{List, [], ◌∷◌, ◌++◌, ℕ, ◌+◌, ◌*◌, ◌/◌, ◌%◌}

-- a number as four bytes
unfoldable pub word : ℕ → List ℕ
word n = n % 256 ∷ n / 256 % 256 ∷ n / 65536 % 256 ∷ n / 16777216 % 256 ∷ []

unfoldable pub words : List ℕ → List ℕ
words [] = []
words (n ∷ numbers) = word n ++ words numbers

-- the numbers that bytes hold, four by four; what is left over at the end holds none
unfoldable pub numbers_in : List ℕ → List ℕ
numbers_in [] = []
numbers_in (a ∷ []) = []
numbers_in (a ∷ b ∷ []) = []
numbers_in (a ∷ b ∷ c ∷ []) = []
numbers_in (a ∷ b ∷ c ∷ d ∷ bytes) = (a + 256 * b + 65536 * c + 16777216 * d) ∷ numbers_in bytes

-- a number of 64 bits, the bit pattern of a double, as two of 32, the lower half first
abbrev pub halves : ℕ → List ℕ
halves n = n % 4294967296 ∷ n / 4294967296 ∷ []

-- labels as bytes, two for each
unfoldable pub label_bytes : List ℕ → List ℕ
label_bytes [] = []
label_bytes (label ∷ labels) = label % 256 ∷ label / 256 % 256 ∷ label_bytes labels

-- the labels that bytes hold, two by two; a byte that is left over holds none
unfoldable pub labels_in : List ℕ → List ℕ
labels_in [] = []
labels_in (low ∷ []) = []
labels_in (low ∷ high ∷ bytes) = (low + 256 * high) ∷ labels_in bytes

-- the bytes of each answer, four for a number
abbrev pub parameters_bytes : ℕ
parameters_bytes = 4 * 8

abbrev pub rank_bytes : ℕ
rank_bytes = 4

abbrev pub start_bytes : ℕ
start_bytes = 4 * 7

abbrev pub coded_bytes : ℕ
coded_bytes = 4 + start_bytes

abbrev pub info0_bytes : ℕ
info0_bytes = 4 * 14

abbrev pub info1c_bytes : ℕ
info1c_bytes = 4 * 22

abbrev pub report_bytes : ℕ
report_bytes = info1c_bytes + 4 + 8

abbrev pub jp_bytes : ℕ
jp_bytes = 4 * 3 + 8

-- and of a sequence, one for a bit
abbrev pub info0_bits : ℕ
info0_bits = 49

abbrev pub info1c_bits : ℕ
info1c_bits = 109

abbrev pub jp_bits : ℕ
jp_bits = 72

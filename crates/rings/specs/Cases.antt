-- The cases that document 01, "Cases on each side of a limit", marks as proved: M, K, S and the rings m1 to m8.
use Rattle.std.specs.Prelude.{List, [], ◌∷◌, ℕ}
use Rattle.listing.specs.Sets.{Eight}

pub record Case : Type 0 where
  pub M : ℕ
  pub K : ℕ
  pub S : ℕ
  pub rings : Eight

abbrev case : ℕ → ℕ → ℕ → Eight → Case
case M K S rings = record { M = M; K = K; S = S; rings = rings }

abbrev pub cases : List Case
cases =
    case 1 0 0 (((0, 0), (0, 0)), ((0, 0), (0, 0)))
    ∷ case 2 8 1 (((0, 0), (0, 0)), ((0, 0), (0, 1)))
    ∷ case 2 8 2 (((0, 0), (0, 0)), ((0, 0), (1, 0)))
    ∷ case 2 8 5 (((0, 0), (0, 1)), ((0, 0), (0, 0)))
    ∷ case 2 8 8 (((1, 0), (0, 0)), ((0, 0), (0, 0)))
    ∷ case 2 8 9 (((0, 0), (0, 0)), ((0, 0), (1, 1)))
    ∷ case 2 8 10 (((0, 0), (0, 0)), ((0, 1), (0, 1)))
    ∷ case 2 8 11 (((0, 0), (0, 0)), ((1, 0), (0, 1)))
    ∷ case 2 8 254 (((1, 1), (1, 1)), ((1, 1), (1, 0)))
    ∷ case 2 8 255 (((1, 1), (1, 1)), ((1, 1), (1, 1)))
    ∷ case 3 12 9 (((0, 0), (0, 0)), ((0, 0), (0, 2)))
    ∷ []

-- Comparing by several keys: the first key that differs decides, smaller first.
--
--     keys 3, 1, 4 against 3, 2, 0: the first key is the same, 1 is below 2, so the first comes before the second
use Rattle.std.specs.Prelude.{Bool, true, false, List, [], ◌∷◌}
use Prim.Native.Nat.{ℕ, compare, Ordering}

-- what was found, or what comes after it where it found no difference
abbrev pub then_by : Ordering → Ordering → Ordering
then_by Ordering.lt after = Ordering.lt
then_by Ordering.eq after = after
then_by Ordering.gt after = Ordering.gt

-- two lists of keys: a list that ends first comes first
unfoldable pub compare_keys : List ℕ → List ℕ → Ordering
compare_keys [] [] = Ordering.eq
compare_keys [] (l ∷ ls) = Ordering.lt
compare_keys (k ∷ ks) [] = Ordering.gt
compare_keys (k ∷ ks) (l ∷ ls) = then_by (compare k l) (compare_keys ks ls)

abbrev pub is_less : Ordering → Bool
is_less Ordering.lt = true
is_less Ordering.eq = false
is_less Ordering.gt = false

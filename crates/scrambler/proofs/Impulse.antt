-- Document 01's worked responses: from a register of 0 the input 1 and then 23 zeros has ones at 0, 18 and 23 at the calling end, and
-- at 0, 5, 10, 15, 20 and 23 at the answering end. Assumes nothing.
use mathlib.Core.List.{List, [], ◌∷◌}
use mathlib.Core.Path.{◌≡◌, refl}
use Prim.Native.Nat.{ℕ}
use lib.ListN.{replicate}
use Rattle.scrambler.specs.Scrambler.{place_back, near_place, scrambled_bit, push, scramble}

-- 1 and then 23 zeros
abbrev pub impulse : List ℕ
impulse = 1 ∷ replicate 23 0

pub call-response :
    scramble 0 0 impulse
    ≡ 1 ∷ 0 ∷ 0 ∷ 0 ∷ 0 ∷ 0 ∷ 0 ∷ 0 ∷ 0 ∷ 0 ∷ 0 ∷ 0 ∷ 0 ∷ 0 ∷ 0 ∷ 0 ∷ 0 ∷ 0 ∷ 1 ∷ 0 ∷ 0 ∷ 0 ∷ 0 ∷ 1 ∷ []
unfolding place_back near_place scrambled_bit push scramble
call-response = refl

pub answer-response :
    scramble 1 0 impulse
    ≡ 1 ∷ 0 ∷ 0 ∷ 0 ∷ 0 ∷ 1 ∷ 0 ∷ 0 ∷ 0 ∷ 0 ∷ 1 ∷ 0 ∷ 0 ∷ 0 ∷ 0 ∷ 1 ∷ 0 ∷ 0 ∷ 0 ∷ 0 ∷ 1 ∷ 0 ∷ 0 ∷ 1 ∷ []
unfolding place_back near_place scrambled_bit push scramble
answer-response = refl

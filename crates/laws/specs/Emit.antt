-- Lists that are made part by part: a state gives a part and the next state.
--
--     emit 3 s     out s, then out (next s), then out (next (next s))
--     iter 3 s     next (next (next s))
use Rattle.std.specs.Prelude.{List, [], ◌++◌, ℕ, zero, suc}

-- n parts, one after the other
unfoldable pub emit : {S : Type 0} → (S → List ℕ) → (S → S) → ℕ → S → List ℕ
emit out next zero s = []
emit out next (suc n) s = out s ++ emit out next n (next s)

-- the state after n parts
unfoldable pub iter : {S : Type 0} → (S → S) → ℕ → S → S
iter next zero s = s
iter next (suc n) s = iter next n (next s)

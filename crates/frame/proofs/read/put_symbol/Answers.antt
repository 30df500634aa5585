-- `read::put_symbol` meets its contract: five parts, one behind the other.
use mathlib.Core.Bool.{Bool, cond}
use mathlib.Core.List.{List, [], ◌∷◌, ◌++◌, append_assoc}
use mathlib.Core.Path.{◌≡◌, refl}
use Prim.Native.Nat.{ℕ, ◌+◌, ◌≤◌}
use native.Mathlib.Omega.{arith}
use lib.ListN.{length}
use Rattle.laws.specs.Put.{put, Put}
use Rattle.laws.proofs.Puts.{put-more}
use Rattle.bits.specs.Digits.{digits}
use Rattle.bits.proofs.Digitals.{length_digits}
use Rattle.frame.specs.Reading.{symbol_bits}
use Rattle.frame.specs.declared.symbol.Symbol.{Symbol}
use Rattle.frame.proofs.read.put_symbol.Goals as goal

-- the first three parts, and what a symbol is behind them
abbrev heads : Bool → Symbol → List ℕ
heads three s = s.i1 ∷ s.i2 ∷ cond three (s.i3 ∷ []) []

parts : (q : ℕ) (three : Bool) (s : Symbol) → (heads three s ++ digits q s.first) ++ digits q s.second ≡ symbol_bits q three s
unfolding symbol_bits
parts q three s = append_assoc (heads three s) (digits q s.first) (digits q s.second)

-- digits put at a place end behind them
put_number : (n x : ℕ) {a b : List ℕ} {at next : ℕ} → b ≡ put a at (digits n x) → next ≡ at + n → Put (digits n x) a b at next
put_number n x e is-next = record { buffer = e; place = rw (length_digits n x) is-next }

pub returns : goal.returns
returns c =
    let a = c.args in
    let inside : a.at ≤ length a.bits.now = omega arith in
    let one : Put (a.symbol.i1 ∷ []) a.bits.now c.put_bit.new.bits a.at (a.at + 1) = record { buffer = c.put_bit.ensures; place = refl } in
    let two : Put (a.symbol.i2 ∷ []) c.put_bit.new.bits c.put_bit-2.new.bits (a.at + 1) (a.at + 2) =
    record { buffer = c.put_bit-2.ensures; place = omega arith }
    in
    let three = put-more inside (put-more inside one two) c.put_third-next.ensures in
    let four = put-more inside three (put_number a.q a.symbol.first c.put_digits.ensures refl) in
    rw (← parts a.q a.three a.symbol)
    (put-more inside four (put_number a.q a.symbol.second c.put_digits-2.ensures (omega arith)))

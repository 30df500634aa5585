-- Decimal is right: the digits of a number read back give the number; there is at least one, each is a byte from 48 to 57, and the
-- first is not 0 unless the number is. No other digits are like that. With it the two steps by which the code writes a number,
-- and how many digits a number below a power of ten has. Assumes nothing.
use mathlib.Core.Bool.{Bool, true, false, cond}
use mathlib.Core.List.{List, [], ◌∷◌, ◌++◌}
use mathlib.Core.Path.{◌≡◌, refl, sym, subst, ap, ap₂, ◌∙◌}
use Prim.Native.Nat.{ℕ, zero, suc, ◌+◌, ◌*◌, ◌-◌, ◌/◌, ◌%◌, ◌^◌, ◌≤◌, ◌<◌}
use native.Mathlib.Nat.{pow-suc}
use native.Mathlib.Omega.{arith}
use lib.ListN.{length, take, get_or, length-append, get_or-append}
use lib.Seq.{length-take-le, take_all, take-suc}
use lib.Dec.{leb}
use borrow.Author.Tests.{leb-true, leb-false, ltb-true, ltb-false, lt-ltb, le-ltb}
use Rattle.std.proofs.lemmas.Grind.{common_steps}
use Rattle.laws.specs.Lists.{Every}
use Rattle.laws.proofs.Counting.{every_append}
use Rattle.laws.proofs.Counting.{every-left, every-right}
use Rattle.settings.specs.Decimal.{digit, one_digit, digits, decimal, read_on, value}

-- reading one digit more
read_last : (v : ℕ) (ds : List ℕ) (d : ℕ) → read_on v (ds ++ d ∷ []) ≡ read_on v ds * 10 + (d - 48)
unfolding read_on
read_last v [] d = refl
read_last v (x ∷ ds) d = read_last (v * 10 + (x - 48)) ds d

-- a byte that is a digit
abbrev pub Digit : ℕ → Type 0
Digit d = (48 ≤ d) × (d ≤ 57)

-- digits that spell a number, as they should
pub record Spells (n : ℕ) (ds : List ℕ) : Type 0 where
  pub reads : value ds ≡ n
  pub some : 1 ≤ length ds
  pub each : Every Digit ds
  pub first : get_or ds 0 48 ≡ 48 → n ≡ 0
  pub alone : n ≡ 0 → length ds ≡ 1

spells-digit : (n : ℕ) → n < 10 → Spells n (digit n ∷ [])
unfolding read_on
spells-digit n h =
    record { reads = omega arith; some = omega arith; each = ((omega arith, omega arith), tt); first = λ e. omega arith; alone = λ e. refl }

spells-step : (n : ℕ) (ds : List ℕ) → 10 ≤ n → Spells (n / 10) ds → Spells n (ds ++ digit (n % 10) ∷ [])
spells-step n ds h s =
    record {
      reads = read_last 0 ds (digit (n % 10)) ∙ omega (arith, s.reads);
      some = omega (arith, length-append ds (digit (n % 10) ∷ []), s.some);
      each = every_append Digit ds (digit (n % 10) ∷ []) s.each ((omega arith, omega arith), tt);
      first = λ e. absurd (lead (s.first (sym (get_or-append ds (digit (n % 10) ∷ []) 48 0 s.some) ∙ e)));
      alone = λ e. absurd (omega arith);
    }
  where
    lead : n / 10 ≡ 0 → ⊥
    lead e = omega arith

spells : (f n : ℕ) → n < f → Spells n (digits f n)
unfolding digits
spells zero n h = absurd (omega arith)
spells (suc f) n h = go (one_digit n) refl (λ l. spells f (n / 10) l)
  where
    go :
        (v : Bool) → one_digit n ≡ v → (n / 10 < f → Spells (n / 10) (digits f (n / 10)))
        → Spells n (cond v (digit n ∷ []) (digits f (n / 10) ++ digit (n % 10) ∷ []))
    go true e tenth = let l = ltb-true n _ e in spells-digit n (omega arith)
    go false e tenth = let l = ltb-false n _ e in spells-step n (digits f (n / 10)) (omega arith) (tenth (omega arith))

-- decimal is right
pub decimal-right : (n : ℕ) → Spells n (decimal n)
unfolding decimal
decimal-right n = spells (suc n) n (omega arith)

-- the digits read back give the number
pub decimal-value : (n : ℕ) → value (decimal n) ≡ n
decimal-value n = (decimal-right n).reads

-- the first digit is not 0 unless the number is
pub decimal_first : (n : ℕ) → get_or (decimal n) 0 48 ≡ 48 → n ≡ 0
decimal_first n = (decimal-right n).first

-- a limit above the number is as good as any other
limit_enough : (f g n : ℕ) → n < f → n < g → digits f n ≡ digits g n
unfolding digits
limit_enough zero g n h k = absurd (omega arith)
limit_enough (suc f) zero n h k = absurd (omega arith)
limit_enough (suc f) (suc g) n h k = go (one_digit n) refl (λ a b. limit_enough f g (n / 10) a b)
  where
    go :
        (v : Bool) → one_digit n ≡ v → (n / 10 < f → n / 10 < g → digits f (n / 10) ≡ digits g (n / 10))
        → cond v (digit n ∷ []) (digits f (n / 10) ++ digit (n % 10) ∷ [])
        ≡ cond v (digit n ∷ []) (digits g (n / 10) ++ digit (n % 10) ∷ [])
    go true e same = refl
    go false e same =
        let l = ltb-false n _ e in
        ap (λ (ds : List ℕ). ds ++ digit (n % 10) ∷ []) (same (omega arith) (omega arith))

-- a number of one digit is that digit
pub decimal_digit : (n : ℕ) → n < 10 → decimal n ≡ digit (n % 10) ∷ []
unfolding decimal digits
decimal_digit n h = rw (lt-ltb n 10 h) (ap (λ (d : ℕ). digit d ∷ []) (omega arith))

-- and any other is a tenth of it and the last digit
pub decimal_step : (n : ℕ) → 10 ≤ n → decimal n ≡ decimal (n / 10) ++ digit (n % 10) ∷ []
unfolding decimal digits
decimal_step n h =
    rw (le-ltb n 10 h)
    (ap (λ (ds : List ℕ). ds ++ digit (n % 10) ∷ []) (limit_enough n (suc (n / 10)) (n / 10) (omega arith) (omega arith)))

-- so many digits they make
pub digit-length : (n : ℕ) → n < 10 → length (decimal n) ≡ 1
digit-length n h = ap length (decimal_digit n h)

pub step-length : (n : ℕ) → 10 ≤ n → length (decimal n) ≡ length (decimal (n / 10)) + 1
step-length n h = ap length (decimal_step n h) ∙ length-append (decimal (n / 10)) (digit (n % 10) ∷ [])

-- by these the code puts a number
pub ruleset steps = (common_steps, decimal_digit, decimal_step, digit-length, step-length)

-- what is read is not below what was read before
read-least : (v : ℕ) (ds : List ℕ) → v ≤ read_on v ds
unfolding read_on
read-least v [] = omega arith
read-least v (d ∷ ds) = omega (arith, read-least (v * 10 + (d - 48)) ds)

-- digits with another in front than 0 do not spell 0
read_some : (ds : List ℕ) → Every Digit ds → (get_or ds 0 48 ≡ 48 → ⊥) → 1 ≤ value ds
unfolding read_on
read_some [] each lead = absurd (lead refl)
read_some (d ∷ ds) each lead = omega (arith, each.0.0, read-least (0 * 10 + (d - 48)) ds, some)
  where
    some : 1 ≤ d - 48
    some = omega (arith, lead, each.0.0)

-- digits up to the last, and the last
last_split : (m : ℕ) (ds : List ℕ) → length ds ≡ suc m → ds ≡ take m ds ++ get_or ds m 0 ∷ []
last_split m ds e = sym (take_all (suc m) ds (omega arith)) ∙ take-suc ds m 0 (omega arith)

only_last :
    (m : ℕ) (front : List ℕ) (d n : ℕ) → length front ≡ m → Spells n (front ++ d ∷ []) → front ++ d ∷ [] ≡ decimal n
unfolding read_on
only_last zero [] d n e s =
    let reads = s.reads in
    let below : n < 10 = omega (arith, s.each.0) in
    let same : d ≡ digit (n % 10) = omega (arith, s.each.0) in
    ap (λ (x : ℕ). x ∷ []) same ∙ sym (decimal_digit n below)
only_last zero (x ∷ front) d n e s = absurd (omega arith)
only_last (suc m) front d n e s =
    let nonzero : n ≡ 0 → ⊥ = λ z. omega (arith, s.alone z, length-append front (d ∷ [])) in
    let lead : get_or front 0 48 ≡ 48 → ⊥ = λ z. nonzero (s.first (get_or-append front (d ∷ []) 48 0 (omega arith) ∙ z)) in
    let each : Every Digit front = every-left Digit front (d ∷ []) s.each in
    let some : 1 ≤ value front = read_some front each lead in
    let inner : Spells (value front) front =
    record { reads = refl; some = omega arith; each = each; first = λ z. absurd (lead z); alone = λ z. absurd (omega arith) }
    in
    let split = last_split m front e in
    let size = length-take-le m front (omega arith) in
    let tenth =
    split ∙ only_last m (take m front) (get_or front m 0) (value front) size (subst (Spells (value front)) split inner)
    in
    let reads : n ≡ value front * 10 + (d - 48) = sym s.reads ∙ read_last 0 front d in
    let last = every-right Digit front (d ∷ []) s.each in
    let over : value front ≡ n / 10 = omega (arith, last.0) in
    let end : d ≡ digit (n % 10) = omega (arith, last.0) in
    ap₂ (λ (ds : List ℕ) (x : ℕ). ds ++ x ∷ []) (tenth ∙ ap decimal over) end ∙ sym (decimal_step n (omega arith))

-- and no other digits spell the number
pub only-decimal : (ds : List ℕ) (n : ℕ) → Spells n ds → ds ≡ decimal n
only-decimal [] n s = absurd (omega (arith, s.some))
only-decimal (d ∷ ds) n s =
    let m = length ds in
    let split = last_split m (d ∷ ds) refl in
    let size = length-take-le m (d ∷ ds) (omega arith) in
    split ∙ only_last m (take m (d ∷ ds)) (get_or (d ∷ ds) m 0) n size (subst (Spells n) split s)

-- a number below a power of ten has no more digits than the power has zeros
pub decimal-length : (k n : ℕ) → n < 10 ^ suc k → length (decimal n) ≤ suc k
decimal-length zero n h = omega (arith, digit-length n h)
decimal-length (suc k) n h = go (leb 10 n) refl (decimal-length k (n / 10) (omega (arith, pow-suc 10 (suc k))))
  where
    go : (v : Bool) → leb 10 n ≡ v → length (decimal (n / 10)) ≤ suc k → length (decimal n) ≤ suc (suc k)
    go true e tenth = omega (arith, step-length n (leb-true 10 n e))
    go false e tenth = omega (arith, digit-length n (leb-false 10 n e))

-- Which settings are accepted: exactly those asked for with role and shaping 0 or 1, s at most 5, n in the range of s, and mark 1, or
-- mark 0 and n at most 12. A mark above 1 is never taken for permission: with all else right the refusal is 5. At most one outcome
-- fits the contract of the work-out. Assumes nothing.
use mathlib.Core.Bool.{true, false, ◌||◌, ◌&&◌}
use mathlib.Core.Logic.{◌⊎◌, inl, inr, ⊎_elim, ◌↔◌}
use mathlib.Core.Path.{◌≡◌, refl, sym, ap, ◌∙◌}
use Prim.Native.Nat.{ℕ, zero, suc, ◌≤◌, ◌<◌}
use native.Mathlib.Omega.{arith}
use lib.Dec.{leb, ltb, eqb}
use Rattle.std.proofs.lemmas.Bool.Decides.{nat_tests}
use borrow.Author.Tests.{ltb-false, lt-ltb, le-ltb, ne_eqb}
use Rattle.laws.specs.Choice.{refusal}
use Rattle.laws.specs.Lists.{count, product, up_to}
use Rattle.laws.proofs.Choices.{none_first, none_rest, within, refusal-most}
use Rattle.line.specs.declared.asked.Asked.{Asked}
use Rattle.line.specs.declared.rate.SymbolRate.{SymbolRate}
use Rattle.std.specs.Prelude.{Option, Some, None}
use Rattle.line.specs.declared.settings.Settings.{Settings}
use Rattle.line.specs.Worked.{Worked, Accepted, Refused}
use Rattle.line.specs.Asked.{asked}
use Rattle.line.specs.Rates.{symbol_rate, row_of}
use Rattle.line.specs.Settings.{outside, refusals, settings_refusal, settings_of, accepted_of, worked_of, number_of}

-- at most one outcome fits the contract
pub one_outcome : (asked : Asked) (v w : Worked) → v ≡ worked_of asked → w ≡ worked_of asked → v ≡ w
one_outcome asked v w p q = p ∙ sym q

-- n in the range of a symbol rate
abbrev pub Within : Option SymbolRate → ℕ → Type 0
Within (Some rate) n = (rate.least ≤ n) × (n ≤ rate.most)
Within None n = ⊥

-- what is asked is right
pub record Right (asked : Asked) : Type 0 where
  pub end : asked.role ≤ 1
  pub symbols : asked.s ≤ 5
  pub range : Within (symbol_rate asked.s) asked.n
  pub kind : asked.shaping ≤ 1
  pub stated : asked.mark ≤ 1
  pub allowed : (asked.n ≤ 12) ⊎ (asked.mark ≡ 1)

-- the test of the range
within-outside : (rate : Option SymbolRate) (n : ℕ) → Within rate n → outside rate n ≡ false
within-outside (Some rate) n w = rw (le-ltb _ _ w.0, le-ltb _ _ w.1)
within-outside None n w = absurd w

in_range : (least most n : ℕ) → (ltb n least || ltb most n) ≡ false → (least ≤ n) × (n ≤ most)
in_range least most n e = (grind (arith, nat_tests), grind (arith, nat_tests))

outside-within : (rate : Option SymbolRate) (n : ℕ) → outside rate n ≡ false → Within rate n
outside-within (Some rate) n e = in_range rate.least rate.most n e
outside-within None n e = cc

-- the test of a rate above 28,800 with mark 0
allowed-passes : (n mark : ℕ) → (n ≤ 12) ⊎ (mark ≡ 1) → (leb 13 n && eqb mark 0) ≡ false
allowed-passes n mark w = grind (arith, nat_tests)

passes-allowed : (n mark : ℕ) → mark ≤ 1 → (leb 13 n && eqb mark 0) ≡ false → (n ≤ 12) ⊎ (mark ≡ 1)
passes-allowed n mark h e = grind (arith, nat_tests)

pub known-accepted :
    (asked : Asked) (rate : SymbolRate) → symbol_rate asked.s ≡ Some rate
    → accepted_of asked (symbol_rate asked.s) ≡ Accepted (settings_of asked rate)
unfolding accepted_of
known-accepted asked rate e = rw e

module _ (asked : Asked) where
  -- none of the refusals, and what is asked is right
  pub unrefused_right : settings_refusal asked ≡ 0 → Right asked
  unfolding settings_refusal
  unrefused_right e₁ =
      let e₂ = none_rest _ _ _ e₁ in
      let e₃ = none_rest _ _ _ e₂ in
      let e₄ = none_rest _ _ _ e₃ in
      let e₅ = none_rest _ _ _ e₄ in
      let e₆ = none_rest _ _ _ e₅ in
      let stated = ltb-false 1 asked.mark (none_first _ _ _ e₅) in
      record {
        end = ltb-false 1 asked.role (none_first _ _ _ e₁);
        symbols = ltb-false 5 asked.s (none_first _ _ _ e₂);
        range = outside-within (symbol_rate asked.s) asked.n (none_first _ _ _ e₃);
        kind = ltb-false 1 asked.shaping (none_first _ _ _ e₄);
        stated = stated;
        allowed = passes-allowed asked.n asked.mark stated (none_first _ _ _ e₆);
      }

  pub right_unrefused : Right asked → settings_refusal asked ≡ 0
  unfolding settings_refusal refusal
  right_unrefused r =
      rw (le-ltb 1 _ r.end, le-ltb 5 _ r.symbols, within-outside _ _ r.range, le-ltb 1 _ r.kind)
      (rw (le-ltb 1 _ r.stated, allowed-passes _ _ r.allowed))

  -- what is answered where there is a refusal, and where there is none
  pub refused_is : (k : ℕ) → settings_refusal asked ≡ suc k → worked_of asked ≡ Refused (suc k)
  unfolding worked_of
  refused_is k e = rw (e, ne_eqb (suc k) 0 (λ z. omega arith))

  pub unrefused_is : settings_refusal asked ≡ 0 → worked_of asked ≡ accepted_of asked (symbol_rate asked.s)
  unfolding worked_of
  unrefused_is e = rw e

  -- what is right has settings
  right-accepted : Right asked → (c : Settings) × (worked_of asked ≡ Accepted c)
  right-accepted r = go (symbol_rate asked.s) refl r.range
    where
      go : (rate : Option SymbolRate) → symbol_rate asked.s ≡ rate → Within rate asked.n → (c : Settings) × (worked_of asked ≡ Accepted c)
      go (Some rate) e w = (settings_of asked rate, unrefused_is (right_unrefused r) ∙ known-accepted asked rate e)
      go None e w = absurd w

  accepted_unrefused : (c : Settings) → worked_of asked ≡ Accepted c → settings_refusal asked ≡ 0
  accepted_unrefused c e = go (settings_refusal asked) refl
    where
      go : (k : ℕ) → settings_refusal asked ≡ k → k ≡ 0
      go zero f = refl
      go (suc k) f = cc (refused_is k f)

  -- accepted exactly when it should be
  pub accepted-when : ((c : Settings) × (worked_of asked ≡ Accepted c)) ↔ Right asked
  accepted-when = ((λ p. unrefused_right (accepted_unrefused p.0 p.1)), right-accepted)

  -- the paper's number of the answer is that of the first refusal
  pub number_is : number_of (worked_of asked) ≡ settings_refusal asked
  number_is = go (settings_refusal asked) refl
    where
      go : (k : ℕ) → settings_refusal asked ≡ k → number_of (worked_of asked) ≡ k
      go zero e = ap number_of (right-accepted (unrefused_right e)).1
      go (suc k) e = ap number_of (refused_is k e)

  -- refused settings have a number that is not 0
  pub refused-some : (number : ℕ) → worked_of asked ≡ Refused number → number ≡ 0 → ⊥
  refused-some number e none =
      let right = unrefused_right (sym number_is ∙ (ap number_of e ∙ none)) in
      let a = (right-accepted right).1 in
      cc

  -- and none above the largest number of their refusals
  pub number-most : (m : ℕ) → within m (refusals asked) ≡ true → number_of (worked_of asked) ≤ m
  unfolding settings_refusal
  number-most m listed = omega (arith, number_is, refusal-most m (refusals asked) listed)

  -- an unstated mark is never accepted
  pub unstated-never : 1 < asked.mark → (c : Settings) → worked_of asked ≡ Accepted c → ⊥
  unstated-never h c e = let r = accepted-when.0 (c, e) in omega (arith, r.stated)

  -- and is refused with exactly 5 where all else is right
  pub unstated_five :
      asked.role ≤ 1 → asked.s ≤ 5 → Within (symbol_rate asked.s) asked.n → asked.shaping ≤ 1
      → 1 < asked.mark → worked_of asked ≡ Refused 5
  unfolding settings_refusal refusal
  unstated_five a b w d m =
      refused_is 4 (rw (le-ltb 1 _ a, le-ltb 5 _ b, within-outside _ _ w, le-ltb 1 _ d, lt-ltb 1 _ m))

-- with role and shaping right: mark 1 accepts every n in its range, and mark 0 those up to 12
module _ (asked : Asked) (end : asked.role ≤ 1) (kind : asked.shaping ≤ 1) where
  pub with-mark_one :
      asked.mark ≡ 1
      → ((c : Settings) × (worked_of asked ≡ Accepted c)) ↔ ((asked.s ≤ 5) × Within (symbol_rate asked.s) asked.n)
  with-mark_one one = (
    λ p. let r = (accepted-when asked).0 p in (r.symbols, r.range),
    λ p.
        (accepted-when asked).1
        (record { end = end; symbols = p.0; range = p.1; kind = kind; stated = omega (arith, one); allowed = inr one }),
  )

  pub with-mark-zero :
      asked.mark ≡ 0
      → ((c : Settings) × (worked_of asked ≡ Accepted c))
      ↔ ((asked.s ≤ 5) × Within (symbol_rate asked.s) asked.n × (asked.n ≤ 12))
  with-mark-zero none = (
    λ p.
        let r = (accepted-when asked).0 p in
        (r.symbols, r.range, ⊎_elim (λ h. h) (λ e. absurd (omega (arith, none))) r.allowed),
    λ p.
        (accepted-when asked).1
        (record { end = end; symbols = p.0; range = p.1; kind = kind; stated = omega (arith, none); allowed = inl p.2 }),
  )

-- how many pairs of s and n are accepted with a mark: 65 with mark 1, 62 of them with mark 0, and none with an unstated one
abbrev pub pairs_with : ℕ → ℕ
pairs_with mark = count (λ (z : ℕ × ℕ). eqb (settings_refusal (asked 0 z.0 z.1 0 mark)) 0) (product (up_to 6) (up_to 15))

pub accepted-pairs : (pairs_with 1 ≡ 65) × (pairs_with 0 ≡ 62) × (pairs_with 2 ≡ 0)
unfolding count product up_to settings_refusal refusal symbol_rate row_of
accepted-pairs = (refl, refl, refl)

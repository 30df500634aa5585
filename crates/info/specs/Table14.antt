-- INFO0 once more, bit by bit as V.34's Table 14 prints it, with no picture and no table: what its fields may be, what bits 12 to 28 are,
-- and the whole sequence. proofs/Rows14 shows that it is the same.
--
--     bit   12            support_2743            bit   20            reduction
--           13            support_2800                  21, 22, 23    difference, lowest weight first
--           14            support_3429                  24            cme
--           15, 16        low_3000, high_3000           25            mark
--           17, 18        low_3200, high_3200           26, 27        clock, lowest weight first
--           19            allowed_3429                  28            acknowledged
use Rattle.std.specs.Prelude.{List, [], ◌∷◌, ◌++◌, ℕ, ◌≤◌}
use Rattle.bits.specs.Digits.{digits}
use Rattle.info.specs.Frame.{sent}
use Rattle.info.specs.declared.info0.Info0.{Info0}

-- what the fields may be
pub record Sayable (f : Info0) : Type 0 where
  pub support2743 : f.support_2743 ≤ 1
  pub support2800 : f.support_2800 ≤ 1
  pub support3429 : f.support_3429 ≤ 1
  pub low3000 : f.low_3000 ≤ 1
  pub high3000 : f.high_3000 ≤ 1
  pub low3200 : f.low_3200 ≤ 1
  pub high3200 : f.high_3200 ≤ 1
  pub allowed3429 : f.allowed_3429 ≤ 1
  pub reduction : f.reduction ≤ 1
  pub difference : f.difference ≤ 5
  pub cme : f.cme ≤ 1
  pub mark : f.mark ≤ 1
  pub clock : f.clock ≤ 2
  pub acknowledged : f.acknowledged ≤ 1

-- bits 12 to 28
abbrev pub said : Info0 → List ℕ
said f =
    f.support_2743
    ∷ f.support_2800
    ∷ f.support_3429
    ∷ f.low_3000
    ∷ f.high_3000
    ∷ f.low_3200
    ∷ f.high_3200
    ∷ f.allowed_3429
    ∷ f.reduction
    ∷ (digits 3 f.difference ++ (f.cme ∷ f.mark ∷ (digits 2 f.clock ++ f.acknowledged ∷ [])))

-- all 49
abbrev pub sequence14 : Info0 → List ℕ
sequence14 f = sent (said f)

-- The settings worked out (document 01, "Settings" and "What comes back"), whatever is asked for. The first refusal that holds is
-- given:
--
--     1    role not 0 or 1                 4    shaping not 0 or 1
--     2    s above 5                       5    mark not stated: neither 0 nor 1
--     3    n outside the range of s        6    n of 13 or 14 with mark 0
--
-- An unstated mark is refused at every rate. For example
--
--     role   s   n    shaping   mark
--     0      5   14   1         1       N 1176, P 15, b 79, r 6, K 27, q 5, M 13, L 1664
--     0      5   14   1         0       refused 6
--     0      5   14   1         2       refused 5
--     0      0   1    0         2       refused 5
use Rattle.std.specs.Prelude.{Bool, true, ◌||◌, ◌&&◌, cond, List, [], ◌∷◌, ℕ, leb, ltb, eqb, Option, Some, None}
use Rattle.laws.specs.Choice.{refusal}
use Rattle.line.specs.declared.asked.Asked.{Asked}
use Rattle.line.specs.declared.rate.SymbolRate.{SymbolRate}
use Rattle.line.specs.declared.settings.Shaping.{Shaping}
use Rattle.line.specs.declared.settings.Shaping.TheVariants.{Minimum, Expanded}
use Rattle.line.specs.declared.settings.Settings.{Settings}
use Rattle.line.specs.Worked.{Worked, Accepted, Refused}
use Rattle.line.specs.Rates.{symbol_rate}
use Rattle.line.specs.Numbers.{bits_of, high_of, step_of, uncoded_of, shell_of, minimum_of, expanded_of, points_of}

-- n outside the range of a symbol rate
abbrev pub outside : Option SymbolRate → ℕ → Bool
outside (Some rate) n = ltb n rate.least || ltb rate.most n
outside None n = true

-- a mark that is not stated, and one that says that the far end has no large constellation
abbrev pub unstated : ℕ → Bool
unstated mark = ltb 1 mark

abbrev pub denied : ℕ → Bool
denied mark = eqb mark 0

-- the refusals in their order
abbrev pub refusals : Asked → List (Bool × ℕ)
refusals asked =
    (ltb 1 asked.role, 1)
    ∷ (ltb 5 asked.s, 2)
    ∷ (outside (symbol_rate asked.s) asked.n, 3)
    ∷ (ltb 1 asked.shaping, 4)
    ∷ (unstated asked.mark, 5)
    ∷ (leb 13 asked.n && denied asked.mark, 6)
    ∷ []

-- the refusal number, 0 where the settings are accepted
unfoldable pub settings_refusal : Asked → ℕ
settings_refusal asked = refusal (refusals asked)

-- the shaping of K, holding its ring count M
unfoldable pub shaping_of : ℕ → ℕ → Shaping
shaping_of shaping K = cond (eqb shaping 0) (Minimum (minimum_of K)) (Expanded (expanded_of K))

abbrev pub rings_of_shaping : Shaping → ℕ
rings_of_shaping (Minimum M) = M
rings_of_shaping (Expanded M) = M

-- the settings that are asked for, at the symbol rate that they name; all N bits are the user's, as no auxiliary channel is built
unfoldable pub settings_of : Asked → SymbolRate → Settings
settings_of asked rate =
    let N = bits_of rate.j asked.n in
    let P = rate.p in
    let b = high_of N P in
    let q = uncoded_of b in
    let K = shell_of b in
    let M = shaping_of asked.shaping K in
    record {
      role = asked.role;
      superframe = rate.j;
      bits = N;
      user = N;
      frames = P;
      high = b;
      step = step_of N P b;
      shell = K;
      uncoded = q;
      shaping = M;
      points = points_of (rings_of_shaping M) q;
    }

-- the settings of a rate that is known
unfoldable pub accepted_of : Asked → Option SymbolRate → Worked
accepted_of asked (Some rate) = Accepted (settings_of asked rate)
accepted_of asked None = Refused 2

-- what the work-out answers
unfoldable pub worked_of : Asked → Worked
worked_of asked =
    let no = settings_refusal asked in
    cond (eqb no 0) (accepted_of asked (symbol_rate asked.s)) (Refused no)

-- the paper's number of an answer, and its values N P b r K q M L: zeros where it is refused
abbrev pub number_of : Worked → ℕ
number_of (Accepted c) = 0
number_of (Refused number) = number

abbrev pub values_of : Worked → List ℕ
values_of (Accepted c) =
    c.bits ∷ c.frames ∷ c.high ∷ c.step ∷ c.shell ∷ c.uncoded ∷ rings_of_shaping c.shaping ∷ c.points ∷ []
values_of (Refused number) = 0 ∷ 0 ∷ 0 ∷ 0 ∷ 0 ∷ 0 ∷ 0 ∷ 0 ∷ []

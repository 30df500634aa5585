-- The entries' tests as facts: what is permitted, what is below M, and a list of eight as a set of eight. Assumes nothing.
use mathlib.Core.Bool.{true}
use mathlib.Core.List.{List, [], ◌∷◌}
use mathlib.Core.Path.{◌≡◌, refl}
use Prim.Native.Nat.{ℕ, ◌+◌, ◌^◌, ◌≤◌, ◌<◌}
use native.Mathlib.Omega.{arith}
use lib.Dec.{ltb}
use lib.ListN.{length, get_or}
use borrow.Author.Tests.{leb-true, le-leb, ltb-true, lt-ltb}
use Rattle.laws.proofs.Bools.{and_parts}
use Rattle.std.proofs.lemmas.List.Recursion.{and_at}
use Rattle.listing.specs.Sets.{Eight, Below4, Below8, as_list, of_list}
use Rattle.rings.specs.Mapping.{Permitted, permitted, all_below}

pub permitted_is : (K M : ℕ) → permitted K M ≡ true → Permitted K M
unfolding permitted
permitted_is K M e =
    let p = and_parts _ _ e in
    let q = and_parts _ _ p.1 in
    let r = and_parts _ _ q.1 in
    record { bits = leb-true _ _ p.0; low = leb-true _ _ q.0; high = leb-true _ _ r.0; room = leb-true _ _ r.1 }

pub is_permitted : (K M : ℕ) → Permitted K M → permitted K M ≡ true
unfolding permitted
is_permitted K M p = rw (le-leb K 31 p.bits, le-leb 1 M p.low, le-leb M 18 p.high, le-leb (2 ^ K) (M ^ 8) p.room)

-- eight rings below M, as a list and as a set
pub below_all : (M : ℕ) (x : Eight) → Below8 M x → all_below M (as_list x) ≡ true
unfolding all_below
below_all M x b =
    rw (
      lt-ltb _ M b.0.0.0,
      lt-ltb _ M b.0.0.1,
      lt-ltb _ M b.0.1.0,
      lt-ltb _ M b.0.1.1,
      lt-ltb _ M b.1.0.0,
      lt-ltb _ M b.1.0.1,
      lt-ltb _ M b.1.1.0,
      lt-ltb _ M b.1.1.1,
    )

pub all-below : (M : ℕ) (l : List ℕ) → length l ≡ 8 → all_below M l ≡ true → Below8 M (of_list l)
unfolding of_list all_below
all-below M l n e =
    let at : (i : ℕ) → i < 8 → get_or l i 0 < M =
    λ i h. ltb-true (get_or l i 0) M (and_at (all_below M) (λ ring. ltb ring M) refl (λ _ _. refl) l i 0 (omega arith) e) in
    let four : (i : ℕ) → i ≤ 4 → Below4 M ((get_or l i 0, get_or l (i + 1) 0), (get_or l (i + 2) 0, get_or l (i + 3) 0)) =
    λ i h. ((at i (omega arith), at (i + 1) (omega arith)), (at (i + 2) (omega arith), at (i + 3) (omega arith))) in
    (four 0 (omega arith), four 4 (omega arith))

pub of_list-as_list : (x : Eight) → of_list (as_list x) ≡ x
unfolding of_list
of_list-as_list x = refl

-- a list of eight is its eight numbers
pub as_list-of_list : (l : List ℕ) → length l ≡ 8 → as_list (of_list l) ≡ l
unfolding of_list
as_list-of_list [] n = absurd (omega arith)
as_list-of_list (a ∷ []) n = absurd (omega arith)
as_list-of_list (a ∷ b ∷ []) n = absurd (omega arith)
as_list-of_list (a ∷ b ∷ c ∷ []) n = absurd (omega arith)
as_list-of_list (a ∷ b ∷ c ∷ d ∷ []) n = absurd (omega arith)
as_list-of_list (a ∷ b ∷ c ∷ d ∷ e ∷ []) n = absurd (omega arith)
as_list-of_list (a ∷ b ∷ c ∷ d ∷ e ∷ f ∷ []) n = absurd (omega arith)
as_list-of_list (a ∷ b ∷ c ∷ d ∷ e ∷ f ∷ g ∷ []) n = absurd (omega arith)
as_list-of_list (a ∷ b ∷ c ∷ d ∷ e ∷ f ∷ g ∷ h ∷ []) n = refl
as_list-of_list (a ∷ b ∷ c ∷ d ∷ e ∷ f ∷ g ∷ h ∷ i ∷ l) n = absurd (omega arith)

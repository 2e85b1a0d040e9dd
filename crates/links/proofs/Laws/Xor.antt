-- The laws of xor, for any natural numbers. Assumes nothing.
use mathlib.Core.Path.{◌≡◌, refl, sym, ap, ap₂, ◌∙◌}
use Prim.Native.Nat.{ℕ, zero, suc, ◌+◌, ◌*◌, ◌/◌, ◌%◌, ◌^◌, ◌<◌}
use native.Mathlib.Omega.{arith}
use lib.Arith.{bin_ind, digits_div, digits_mod}
use lib.Bits.{bit_xor, differ, xor_step}
use lib.Bits

-- ---- one digit

differ-lt : (x y : ℕ) → x < 2 → y < 2 → differ x y < 2
differ-lt zero y hx hy = hy
differ-lt (suc zero) zero hx hy = hx
differ-lt (suc zero) (suc zero) hx hy = omega arith
differ-lt (suc zero) (suc (suc y)) hx hy = absurd (omega arith)
differ-lt (suc (suc x)) y hx hy = absurd (omega arith)

differ-assoc : (x y z : ℕ) → x < 2 → y < 2 → z < 2 → differ (differ x y) z ≡ differ x (differ y z)
differ-assoc zero y z hx hy hz = refl
differ-assoc (suc zero) zero z hx hy hz = refl
differ-assoc (suc zero) (suc zero) zero hx hy hz = refl
differ-assoc (suc zero) (suc zero) (suc zero) hx hy hz = refl
differ-assoc (suc zero) (suc zero) (suc (suc z)) hx hy hz = absurd (omega arith)
differ-assoc (suc zero) (suc (suc y)) z hx hy hz = absurd (omega arith)
differ-assoc (suc (suc x)) y z hx hy hz = absurd (omega arith)

digit : (n : ℕ) → n % 2 < 2
digit n = omega arith

-- the other digits of a xor, and its last
halves : (a b : ℕ) → bit_xor a b / 2 ≡ bit_xor (a / 2) (b / 2)
halves a b = rw (xor_step a b) (digits_div (bit_xor (a / 2) (b / 2)) (differ-lt (a % 2) (b % 2) (digit a) (digit b)))

last-digit : (a b : ℕ) → bit_xor a b % 2 ≡ differ (a % 2) (b % 2)
last-digit a b = rw (xor_step a b) (digits_mod (bit_xor (a / 2) (b / 2)) (differ-lt (a % 2) (b % 2) (digit a) (digit b)))

-- ---- the laws

pub xor_comm : (a b : ℕ) → bit_xor a b ≡ bit_xor b a
xor_comm a b = lib.Bits.xor_comm a b

pub xor_assoc : (a b c : ℕ) → bit_xor (bit_xor a b) c ≡ bit_xor a (bit_xor b c)
xor_assoc =
    bin_ind (λ (n : ℕ). (b c : ℕ) → bit_xor (bit_xor n b) c ≡ bit_xor n (bit_xor b c)) (λ b c. refl)
    (λ n ih b c.
    xor_step (bit_xor n b) c
    ∙ ap₂ (λ (x y : ℕ). x * 2 + y)
    (ap (λ (x : ℕ). bit_xor x (c / 2)) (halves n b) ∙ ih (b / 2) (c / 2)
    ∙ ap (λ (x : ℕ). bit_xor (n / 2) x) (sym (halves b c)))
    (ap (λ (x : ℕ). differ x (c % 2)) (last-digit n b) ∙ differ-assoc (n % 2) (b % 2) (c % 2) (digit n) (digit b) (digit c)
    ∙ ap (λ (x : ℕ). differ (n % 2) x) (sym (last-digit b c)))
    ∙ sym (xor_step n (bit_xor b c)))

-- a number is its own inverse, and null is neutral
pub xor_self : (a : ℕ) → bit_xor a a ≡ 0
xor_self a = lib.Bits.xor_self a

pub xor-null : (a : ℕ) → bit_xor a 0 ≡ a
xor-null a = lib.Bits.xor_zero_r a

-- what is put in twice goes away
pub xor-twice-r : (a b : ℕ) → bit_xor (bit_xor a b) b ≡ a
xor-twice-r a b = xor_assoc a b b ∙ ap (λ (x : ℕ). bit_xor a x) (xor_self b) ∙ xor-null a

pub xor-twice-l : (a b : ℕ) → bit_xor a (bit_xor a b) ≡ b
xor-twice-l a b = sym (xor_assoc a a b) ∙ ap (λ (x : ℕ). bit_xor x b) (xor_self a)

-- the two last of three may change places
pub xor-swap : (a b c : ℕ) → bit_xor (bit_xor a b) c ≡ bit_xor (bit_xor a c) b
xor-swap a b c = xor_assoc a b c ∙ ap (λ (x : ℕ). bit_xor a x) (xor_comm b c) ∙ sym (xor_assoc a c b)

-- one of the two and the xor settle the other
pub xor-inj-l : (a x y : ℕ) → bit_xor a x ≡ bit_xor a y → x ≡ y
xor-inj-l a x y e = sym (xor-twice-l a x) ∙ ap (λ (z : ℕ). bit_xor a z) e ∙ xor-twice-l a y

pub xor-inj-r : (a x y : ℕ) → bit_xor x a ≡ bit_xor y a → x ≡ y
xor-inj-r a x y e = xor-inj-l a x y (xor_comm a x ∙ e ∙ xor_comm y a)

pub xor-even : (a b : ℕ) → a % 2 ≡ 0 → b % 2 ≡ 0 → bit_xor a b % 2 ≡ 0
xor-even a b p q = last-digit a b ∙ ap₂ differ p q

-- what is below a power of two stays below it
pub xor_below : (k a b : ℕ) → a < 2 ^ k → b < 2 ^ k → bit_xor a b < 2 ^ k
xor_below k a b p q = lib.Bits.xor_lt k a b p q

-- How far the words of lists reach in a pool within the limit (document 02, T-01).
use Rattle.std.specs.Prelude.{ℕ, ◌^◌, ◌≡◌, true, ◌⊎◌}
use Rattle.words.specs.Names.{is_name}

-- The name of a node below n, or null.
abbrev pub NameOrNull : ℕ → ℕ → Type 0
NameOrNull n w = (w ≡ 0) ⊎ (is_name n w ≡ true)

-- The first power of two above every name of a pool within the limit. No other definition depends on the limit.
unfoldable pub limit_power : ℕ
limit_power = 2 ^ 21

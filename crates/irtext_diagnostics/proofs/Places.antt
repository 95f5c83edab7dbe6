-- Lines and columns of the end of a text.
use Rattle.std.proofs.Common.{◌≡◌, ◌∙◌, ◌+◌, ◌-◌, ◌^◌, min, ℕ, pos, to_z, of_z, w32, FitsSigned, ap, arith}
use Rattle.std.proofs.lemmas.Int.{clamps, ints, to_z-of_z}
use Rattle.irtext_stream.specs.Stream.{cut}

-- a number that was counted as far as it can be
capped : (n : ℕ) → cut (1 + min n (2 ^ 64 - 1)) ≡ cut (1 + n)
capped n = ap pos (omega (arith, clamps))

fits : (k : ℕ) → FitsSigned w32 (cut (1 + k))
fits k = omega (arith, ints, clamps)

-- the same as it is stored
pub stored : (k n : ℕ) → k ≡ min n (2 ^ 64 - 1) → to_z w32 (of_z w32 (cut (1 + k))) ≡ cut (1 + n)
stored k n e = to_z-of_z w32 (cut (1 + k)) (fits k) ∙ ap (λ m. cut (1 + m)) e ∙ capped n

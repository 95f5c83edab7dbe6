-- What a `SeededHasher` computes: what std's `FoldHasher` does, with another first state and another multiplier.
use Rattle.std.specs.Prelude.{ℕ, zero, suc, ◌+◌, ◌-◌, ◌*◌, ◌/◌, ◌%◌, ◌^◌, List, length, if◌then◌else◌, nat_le, bit_xor}
use Rattle.std.specs.Hash.FoldHasher.{folded_multiply, read_short, read_u64}
use Rattle.irtext_interner.specs.declared.seed.Seed.{Seed}
use Rattle.irtext_interner.specs.declared.seed.SeededHasher.{SeededHasher}

-- the hasher with which each key of a table begins
unfoldable pub start_of : Seed → SeededHasher
start_of seed =
    let state = bit_xor 0x243f_6a88_85a3_08d3 seed.number in
    record { state = state; multiplier = bit_xor 0x9e37_79b9_7f4a_7c15 (folded_multiply state 0xd134_2543_de82_ef95) }

-- the state after the words at i and at j
abbrev pub mix : List ℕ → ℕ → ℕ → ℕ → ℕ → ℕ
mix bytes multiplier state i j = folded_multiply (bit_xor (read_u64 bytes i) state) (bit_xor (read_u64 bytes j) multiplier)

-- the state after the first n blocks of 16 bytes
unfoldable pub mix_blocks : List ℕ → ℕ → ℕ → ℕ → ℕ
mix_blocks bytes multiplier state zero = state
mix_blocks bytes multiplier state (suc n) = mix bytes multiplier (mix_blocks bytes multiplier state n) (16 * n) (16 * n + 8)

-- the hasher after `write(bytes)`
unfoldable pub write : SeededHasher → List ℕ → SeededHasher
write h bytes =
    let n = length bytes in
    let short = folded_multiply (bit_xor h.state (read_short bytes)) (bit_xor h.multiplier (2 * n)) in
    let long = mix bytes h.multiplier (mix_blocks bytes h.multiplier ((h.state + n) % 2 ^ 64) ((n - 1) / 16)) (n - 16) (n - 8) in
    record { state = if nat_le n 8 then short else long; multiplier = h.multiplier }

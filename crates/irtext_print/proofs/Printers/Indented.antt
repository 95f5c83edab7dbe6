-- Slices of fixed texts with many spaces, of which some are appended.
use Rattle.std.proofs.Common.{◌≡◌, ◌∷◌, ◌++◌, ◌∙◌, ℕ, List, [], zero, suc, sym, ap, replicate, take, drop, length, ◌+◌, ◌-◌, ◌≤◌, arith, codes}
use Rattle.std.proofs.Math.Seq.{take-append-add}
use Rattle.std.proofs.lemmas.List.{append_assoc, drop-append-le, drop-replicate, length-replicate, take-replicate}
use Rattle.std.specs.List.{slice_range}
use Rattle.std.specs.Str.{IsAscii}
use Rattle.irtext_grammar.specs.Spelling.Spell.{newline}
use Rattle.irtext_print.proofs.Printers.Appended.{newline-ascii}

-- what follows the first of so many spaces
left : (n i : ℕ) (rest : List ℕ) → i ≤ n → drop (n - i) (replicate n 32 ++ rest) ≡ replicate i 32 ++ rest
left n i rest few =
    let size = length-replicate {A = ℕ} n 32 in
    let within : n - i ≤ length (replicate {A = ℕ} n 32) = omega (arith, size) in
    let back : n - (n - i) ≡ i = omega (arith, few) in
    drop-append-le (n - i) (replicate n 32) rest within ∙ ap (λ z. z ++ rest) (drop-replicate (n - i) n 32 ∙ ap (λ k. replicate k 32) back)

-- so many of the spaces, and what follows them
pub indented-slice : (n i end : ℕ) (rest : List ℕ) → i ≤ n → n ≤ end → slice_range {X = ℕ} (replicate n 32 ++ rest) (n - i) end ≡ replicate i 32 ++ take (end - n) rest
indented-slice n i end rest few past =
    let size : end - (n - i) ≡ i + (end - n) = omega (arith, few, past) in
    let count : i ≡ length (replicate {A = ℕ} i 32) = sym (length-replicate {A = ℕ} i 32) in
    ap (λ z. take (end - (n - i)) z) (left n i rest few) ∙ ap (λ k. take k (replicate i 32 ++ rest)) (size ∙ ap (λ k. k + (end - n)) count)
    ∙ take-append-add (replicate i 32) rest (end - n)

-- a brace, a newline and spaces, of which some are taken
pub brace-slice : (inner : ℕ) → inner ≤ 256 → take (258 + inner - 256) (123 ∷ 10 ∷ replicate 256 32) ≡ codes "{" ++ newline inner
brace-slice inner few =
    let size : 258 + inner - 256 ≡ suc (suc inner) = omega arith in
    ap (λ k. take k (123 ∷ 10 ∷ replicate 256 32)) size ∙ ap (λ z. 123 ∷ 10 ∷ z) (take-replicate inner 256 32 few)

-- spaces with an ASCII text after them
pub indented-ascii : (n : ℕ) (rest : List ℕ) → IsAscii rest → IsAscii (replicate n 32 ++ rest)
indented-ascii zero rest a i = a i
indented-ascii (suc n) rest a zero = omega arith
indented-ascii (suc n) rest a (suc i) = indented-ascii n rest a i

-- a brace, a newline and spaces are ASCII
pub brace-ascii : (n : ℕ) → IsAscii (123 ∷ 10 ∷ replicate n 32)
brace-ascii n zero = omega arith
brace-ascii n (suc i) = newline-ascii n i

-- a brace is
pub closing-ascii : IsAscii (125 ∷ [])
closing-ascii zero = omega arith
closing-ascii (suc i) = omega arith

-- the end of a line, and what follows it
pub line-joined : (f0 f1 f2 a b : List ℕ) → f1 ≡ f0 ++ (a ++ codes "\n") → f2 ≡ f1 ++ b → f2 ≡ f0 ++ (a ++ (10 ∷ b))
line-joined f0 f1 f2 a b p q = q ∙ ap (λ z. z ++ b) p ∙ simp append_assoc

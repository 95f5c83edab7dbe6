-- The name that a wrong one was perhaps meant to be.
use Rattle.std.specs.Prelude.{ℕ, suc, ◌/◌, max, nat_lt, nat_eq, cond, List, [], ◌∷◌, length, Option, Some, None}
use Rattle.std.specs.Str.{chars}
use Rattle.strsim.specs.Edits.{levenshtein_row}

-- how many characters to insert, to remove or to replace lead from one text to the other
abbrev pub distance : List ℕ → List ℕ → ℕ
distance word other = levenshtein_row nat_eq (chars word) (chars other) (length (chars other))

-- the largest distance from a word of so many characters: a third of them, and 1 for fewer than three
abbrev pub limit : ℕ → ℕ
limit n = max n 3 / 3

-- the first of the candidates with the least distance below a bound, or else the one found before
abbrev pub nearest : List ℕ → ℕ → Option (List ℕ) → List (List ℕ) → Option (List ℕ)
nearest word bound found [] = found
nearest word bound found (candidate ∷ candidates) =
    cond (nat_lt (distance word candidate) bound) (nearest word (distance word candidate) (Some candidate) candidates) (nearest word bound found candidates)

-- the first of the candidates with the least distance, if neither that nor the word is too long
abbrev pub closest : List ℕ → List (List ℕ) → Option (List ℕ)
closest word candidates =
    let n = length (chars word) in
    cond (nat_lt 64 n) None (nearest word (suc (limit n)) None candidates)

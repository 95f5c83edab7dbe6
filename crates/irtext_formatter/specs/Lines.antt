-- For callers: lines of a text in bytes.
use Rattle.std.specs.Prelude.{ℕ, Bool, cond, ◌==◌, ◌-◌, List, [], ◌∷◌, ◌++◌, length, slice_index}

-- the last byte of the text is a newline
abbrev pub ends_line : List ℕ → Bool
ends_line bs = slice_index bs (length bs - 1) == 10

-- the text, and a newline if it does not end with one
abbrev pub lined : List ℕ → List ℕ
lined bs = cond (ends_line bs) bs (bs ++ 10 ∷ [])

-- the text, and a newline unless it is empty
abbrev pub with_gap : List ℕ → List ℕ
with_gap [] = []
with_gap (b ∷ bs) = (b ∷ bs) ++ 10 ∷ []

-- a text of lines, and after it the text of one more root: an empty line is between the two, and the whole ends with a newline
abbrev pub then_root : List ℕ → List ℕ → List ℕ
then_root so_far root = lined (with_gap so_far ++ root)

-- The index of a text, by which lines and columns are found: where its lines begin, how many begin up to each stride, and how many
-- characters begin before the end of each block.
use Rattle.std.specs.Prelude.{◌≡◌, ℕ, zero, suc, ◌+◌, ◌-◌, ◌*◌, ◌<◌, ◌≤◌, Bool, true, false, ◌||◌, nat_lt, nat_le, cond, List, [], ◌∷◌, ◌++◌, length, get_or, take, drop, count_by}
use Rattle.std.specs.Str.{chars, encode_utf8_all, IsUtf8}
use Rattle.std.specs.Char.{encode_utf8}
use Rattle.irtext_stream.specs.Text.{Text, is_newline, column_after, front, after}
use Rattle.irtext_stream.specs.declared.index.TextIndex.{TextIndex}

-- whether a character in UTF-8 begins with this byte
abbrev pub begins_character : ℕ → Bool
begins_character b = nat_lt b 128 || nat_le 192 b

-- the entry of a table before this index, and 0 before the first
abbrev pub entry_before : List ℕ → ℕ → ℕ
entry_before table zero = 0
entry_before table (suc k) = get_or table k 0

-- a line begins at this byte offset of the text, after this many newlines
pub record BeginsLine (text : Text) (offset newlines : ℕ) : Type 0 where
  pub before : Text
  pub following : Text
  pub same : before ++ following ≡ text
  pub at : offset ≡ length (encode_utf8_all before)
  pub counts : count_by is_newline before ≡ newlines
  pub fresh : column_after before ≡ 1

-- the byte offsets at which the lines but the first begin
pub record AreStarts (text : Text) (starts : List ℕ) : Type 0 where
  pub each : (k : ℕ) → k < length starts → BeginsLine text (get_or starts k 0) (suc k)
  pub all : count_by is_newline text ≡ length starts

-- for each whole block of 512 bytes, how many characters begin before its end
pub record AreBlocks (bytes : List ℕ) (blocks : List ℕ) : Type 0 where
  pub each : (k : ℕ) → k < length blocks → get_or blocks k 0 ≡ count_by begins_character (take (512 * suc k) bytes)
  pub all : length bytes < 512 * suc (length blocks)

-- at least this many lines but the first begin at or before the offset
pub record BeginUpTo (starts : List ℕ) (line offset : ℕ) : Type 0 where
  pub within : line ≤ length starts
  pub before : 0 < line → get_or starts (line - 1) 0 ≤ offset

-- for each multiple of 128 up to the size, a number of lines but the first that begin at or before it
pub record AreLines (starts : List ℕ) (size : ℕ) (lines : List ℕ) : Type 0 where
  pub each : (k : ℕ) → k < length lines → BeginUpTo starts (get_or lines k 0) (128 * k)
  pub all : size < 128 * length lines

-- the index is the index of the text
pub record Indexes (bytes : List ℕ) (index : TextIndex) : Type 0 where
  pub lines : AreStarts (chars bytes) index.starts.items
  pub single : index.single ≡ true → count_by begins_character bytes ≡ length bytes
  pub blocks : index.single ≡ false → AreBlocks bytes index.blocks.items
  pub strides : AreLines index.starts.items (length bytes) index.lines.items

-- at the offset a character begins, or the bytes end
pub record IsBoundary (bytes : List ℕ) (at : ℕ) : Type 0 where
  pub within : at ≤ length bytes
  pub passed_utf8 : IsUtf8 (take at bytes)
  pub rest_utf8 : IsUtf8 (drop at bytes)

-- the run of characters of a kind that begins at one offset ends at the other
pub record Ends (bytes : List ℕ) (from : ℕ) (kind : ℕ → Bool) (to : ℕ) : Type 0 where
  pub within : to ≤ length bytes
  pub passed_utf8 : IsUtf8 (take to bytes)
  pub rest_utf8 : IsUtf8 (drop to bytes)
  pub passed : chars (take to bytes) ≡ chars (take from bytes) ++ front kind (chars (drop from bytes))
  pub rest : chars (drop to bytes) ≡ after kind (chars (drop from bytes))

-- the number of bytes of the first character of a text if it is of a kind, and otherwise 0
abbrev pub width_of : (ℕ → Bool) → Text → ℕ
width_of kind [] = 0
width_of kind (c ∷ text) = cond (kind c) (length (encode_utf8 c)) 0

-- a text is at an offset, and its end is a character boundary
pub record ComesAt (bytes : List ℕ) (o : ℕ) (text : List ℕ) : Type 0 where
  pub within : o + length text ≤ length bytes
  pub passed_utf8 : IsUtf8 (take (o + length text) bytes)
  pub rest_utf8 : IsUtf8 (drop (o + length text) bytes)
  pub passed : chars (take (o + length text) bytes) ≡ chars (take o bytes) ++ chars text
  pub rest : chars (drop o bytes) ≡ chars text ++ chars (drop (o + length text) bytes)

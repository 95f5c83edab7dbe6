-- The bytes of characters: which of them begin one, and where a newline is among them.
use Rattle.std.proofs.Common.{◌≡◌, ℕ, zero, suc, ◌+◌, ◌-◌, ◌/◌, ◌<◌, ◌≤◌, Bool, true, false, cond, List, [], ◌∷◌, ◌++◌, length, get_or, count_by, refl, sym, ◌∙◌, ap, arith, length-append}
use Rattle.std.specs.Prelude.{⊤}
use Rattle.std.proofs.lemmas.Bool.{ltb-true, ltb-false, le-ltb}
use Rattle.std.proofs.lemmas.Bool.Decides.{nat_tests}
use Rattle.std.proofs.lemmas.List.{get_or_append_left, get_or-append_right, get_or-append-add}
use Rattle.std.proofs.lemmas.List.Sums.{sum_by-append, sum_by-cons}
use Rattle.std.proofs.lemmas.Str.{encode_ascii, length-encode, len_utf8_bounds}
use Rattle.std.specs.Str.{encode_utf8_all, IsAscii}
use Rattle.std.specs.Char.{encode_utf8}
use lib.Dec.{ltb}
use lib.Utf8.{next}
use Rattle.irtext_stream.specs.Text.{Text, is_newline}
use Rattle.irtext_stream.specs.Index.{begins_character}

-- ---- bytes with which a character begins
low_begins : (b : ℕ) → b < 128 → begins_character b ≡ true
low_begins b h = grind (arith, nat_tests)

high_begins : (b : ℕ) → 192 ≤ b → begins_character b ≡ true
high_begins b h = grind (arith, nat_tests)

goes_on : (b : ℕ) → 128 ≤ b → b < 192 → begins_character b ≡ false
goes_on b h k = grind (arith, nat_tests)

next_on : (b : ℕ) → begins_character (next b) ≡ false
next_on b = goes_on (next b) (omega arith) (omega arith)

-- one character begins here, and none after it
begun : (b : ℕ) (bs : List ℕ) → begins_character b ≡ true → count_by begins_character bs ≡ 0 → count_by begins_character (b ∷ bs) ≡ 1
begun b bs e h = sum_by-cons (λ b. cond (begins_character b) 1 0) b bs ∙ rw (e, h) refl

more_on : (b : ℕ) (bs : List ℕ) → count_by begins_character bs ≡ 0 → count_by begins_character (next b ∷ bs) ≡ 0
more_on b bs h = sum_by-cons (λ b. cond (begins_character b) 1 0) (next b) bs ∙ rw (next_on b, h) refl

long_begins : (c : ℕ) (y z : Bool) → count_by begins_character (cond y ((192 + c / 64) ∷ next c ∷ []) (cond z ((224 + c / 4096) ∷ next (c / 64) ∷ next c ∷ []) ((240 + c / 262144) ∷ next (c / 4096) ∷ next (c / 64) ∷ next c ∷ []))) ≡ 1
long_begins c true z = begun (192 + c / 64) (next c ∷ []) (high_begins (192 + c / 64) (omega arith)) (more_on c [] refl)
long_begins c false true = begun (224 + c / 4096) (next (c / 64) ∷ next c ∷ []) (high_begins (224 + c / 4096) (omega arith)) (more_on (c / 64) (next c ∷ []) (more_on c [] refl))
long_begins c false false = begun (240 + c / 262144) (next (c / 4096) ∷ next (c / 64) ∷ next c ∷ []) (high_begins (240 + c / 262144) (omega arith)) (more_on (c / 4096) (next (c / 64) ∷ next c ∷ []) (more_on (c / 64) (next c ∷ []) (more_on c [] refl)))

-- one byte of a character begins it
pub one_begins : (c : ℕ) → count_by begins_character (encode_utf8 c) ≡ 1
unfolding lib.Utf8.encode
one_begins c = go (ltb c 128) refl
  where
    go : (x : Bool) → ltb c 128 ≡ x → count_by begins_character (cond x (c ∷ []) (cond (ltb c 2048) ((192 + c / 64) ∷ next c ∷ []) (cond (ltb c 65536) ((224 + c / 4096) ∷ next (c / 64) ∷ next c ∷ []) ((240 + c / 262144) ∷ next (c / 4096) ∷ next (c / 64) ∷ next c ∷ [])))) ≡ 1
    go true e = begun c [] (low_begins c (ltb-true c 128 e)) refl
    go false e = long_begins c (ltb c 2048) (ltb c 65536)

-- as many begin as there are characters
pub characters_begin : (cs : Text) → count_by begins_character (encode_utf8_all cs) ≡ length cs
characters_begin [] = refl
characters_begin (c ∷ cs) = sum_by-append (λ b. cond (begins_character b) 1 0) (encode_utf8 c) (encode_utf8_all cs) ∙ omega (arith, one_begins c, characters_begin cs)

-- in ASCII each byte does
pub ascii_begins : (bs : List ℕ) → IsAscii bs → count_by begins_character bs ≡ length bs
ascii_begins [] a = refl
ascii_begins (b ∷ bs) a =
    let h : count_by begins_character (b ∷ bs) ≡ 1 + count_by begins_character bs = sum_by-cons (λ b. cond (begins_character b) 1 0) b bs ∙ ap (λ t. cond t 1 0 + count_by begins_character bs) (low_begins b (a 0)) in
    omega (arith, h, ascii_begins bs (λ i. a (suc i)))

-- ---- sizes
pub encode_some : (c : ℕ) → 0 < length (encode_utf8 c)
encode_some c = omega (arith, length-encode c, (len_utf8_bounds c).0)

-- ---- bytes of characters beyond ASCII
abbrev pub AllHigh : List ℕ → Type 0
AllHigh [] = ⊤
AllHigh (b ∷ bs) = (128 ≤ b) × AllHigh bs

pub high_at : (bs : List ℕ) → AllHigh bs → (j : ℕ) → j < length bs → 128 ≤ get_or bs j 0
high_at [] a j h = absurd (omega arith)
high_at (b ∷ bs) a zero h = a.0
high_at (b ∷ bs) a (suc j) h = high_at bs a.1 j (omega arith)

long_high : (c : ℕ) (y z : Bool) → AllHigh (cond y ((192 + c / 64) ∷ next c ∷ []) (cond z ((224 + c / 4096) ∷ next (c / 64) ∷ next c ∷ []) ((240 + c / 262144) ∷ next (c / 4096) ∷ next (c / 64) ∷ next c ∷ [])))
long_high c true z = (omega arith, (omega arith, tt))
long_high c false true = (omega arith, (omega arith, (omega arith, tt)))
long_high c false false = (omega arith, (omega arith, (omega arith, (omega arith, tt))))

pub high_bytes : (c : ℕ) → 128 ≤ c → AllHigh (encode_utf8 c)
unfolding lib.Utf8.encode
high_bytes c h = rw (le-ltb c 128 h) (long_high c (ltb c 2048) (ltb c 65536))

-- no byte of another character is a newline
no_newline : (c : ℕ) → (c ≡ 10 → ⊥) → (j : ℕ) → j < length (encode_utf8 c) → get_or (encode_utf8 c) j 0 ≡ 10 → ⊥
no_newline c n j l e = go (ltb c 128) refl
  where
    go : (x : Bool) → ltb c 128 ≡ x → ⊥
    go true h = low j (rw (encode_ascii c (ltb-true c 128 h)) at l) (rw (encode_ascii c (ltb-true c 128 h)) at e)
      where
        low : (j : ℕ) → j < 1 → get_or (c ∷ []) j 0 ≡ 10 → ⊥
        low zero l e = n e
        low (suc j) l e = omega arith
    go false h = omega (arith, high_at (encode_utf8 c) (high_bytes c (ltb-false c 128 h)) j l, e)

-- ---- the first newline
-- the text up to its first newline, at this byte
pub record Split (cs : Text) (i : ℕ) : Type 0 where
  pub line : Text
  pub rest : Text
  pub is : cs ≡ line ++ (10 ∷ rest)
  pub at : i ≡ length (encode_utf8_all line)
  pub none : count_by is_newline line ≡ 0

other : (c : ℕ) → is_newline c ≡ false → c ≡ 10 → ⊥
other c e h = grind (arith, nat_tests)

newline_is : (c : ℕ) → is_newline c ≡ true → c ≡ 10
newline_is c e = grind (arith, nat_tests)

not_counted : (c : ℕ) (cs : Text) → is_newline c ≡ false → count_by is_newline (c ∷ cs) ≡ count_by is_newline cs
not_counted c cs e =
    let h : count_by is_newline (c ∷ cs) ≡ 0 + count_by is_newline cs = sum_by-cons (λ c. cond (is_newline c) 1 0) c cs ∙ ap (λ b. cond b 1 0 + count_by is_newline cs) e in
    omega (arith, h)

-- the first byte 10 of a text is where its first newline is
pub split_newline : (cs : Text) (i : ℕ) → i < length (encode_utf8_all cs) → get_or (encode_utf8_all cs) i 0 ≡ 10 → ((j : ℕ) → j < i → get_or (encode_utf8_all cs) j 0 ≡ 10 → ⊥) → Split cs i
split_newline [] i l e b = absurd (omega (arith, l))
split_newline (c ∷ cs) i l e b = go (is_newline c) refl (split_newline cs (i - length (encode_utf8 c)))
  where
    go : (x : Bool) → is_newline c ≡ x → (i - length (encode_utf8 c) < length (encode_utf8_all cs) → get_or (encode_utf8_all cs) (i - length (encode_utf8 c)) 0 ≡ 10 → ((j : ℕ) → j < i - length (encode_utf8 c) → get_or (encode_utf8_all cs) j 0 ≡ 10 → ⊥) → Split cs (i - length (encode_utf8 c))) → Split (c ∷ cs) i
    go true h more =
        let t : c ≡ 10 = newline_is c h in
        let a : encode_utf8 c ≡ 10 ∷ [] = ap encode_utf8 t ∙ encode_ascii 10 (omega arith) in
        let z : get_or (encode_utf8 c ++ encode_utf8_all cs) 0 0 ≡ 10 = rw a refl in
        record { line = []; rest = cs; is = rw t refl; at = first i (λ p. b 0 p z); none = refl }
      where
        first : (i : ℕ) → (0 < i → ⊥) → i ≡ 0
        first zero f = refl
        first (suc i) f = absurd (f (omega arith))
    go false h more =
        let here : (j : ℕ) → j < length (encode_utf8 c) → get_or (encode_utf8 c ++ encode_utf8_all cs) j 0 ≡ 10 → ⊥ =
        λ j p q. no_newline c (other c h) j p (sym (get_or_append_left (encode_utf8 c) (encode_utf8_all cs) 0 j p) ∙ q) in
        let far : length (encode_utf8 c) ≤ i = beyond i (length (encode_utf8 c)) (λ p. here i p e) in
        let s = more (omega (arith, l, length-append (encode_utf8 c) (encode_utf8_all cs)))
        (sym (get_or-append_right (encode_utf8 c) (encode_utf8_all cs) (length (encode_utf8 c)) i 0 refl far) ∙ e)
        (λ j p q. b (length (encode_utf8 c) + j) (omega arith) (get_or-append-add (encode_utf8 c) (encode_utf8_all cs) j 0 ∙ q)) in
        record {
          line = c ∷ s.line;
          rest = s.rest;
          is = ap (λ t. c ∷ t) s.is;
          at = omega (arith, s.at, far, length-append (encode_utf8 c) (encode_utf8_all s.line));
          none = not_counted c s.line h ∙ s.none;
        }
      where
        beyond : (i n : ℕ) → (i < n → ⊥) → n ≤ i
        beyond i n f = grind (arith)

-- a text without a byte 10 has no newline
pub no_newlines : (cs : Text) → ((j : ℕ) → j < length (encode_utf8_all cs) → get_or (encode_utf8_all cs) j 0 ≡ 10 → ⊥) → count_by is_newline cs ≡ 0
no_newlines [] b = refl
no_newlines (c ∷ cs) b = go (is_newline c) refl (no_newlines cs)
  where
    go : (x : Bool) → is_newline c ≡ x → (((j : ℕ) → j < length (encode_utf8_all cs) → get_or (encode_utf8_all cs) j 0 ≡ 10 → ⊥) → count_by is_newline cs ≡ 0) → count_by is_newline (c ∷ cs) ≡ 0
    go true h more =
        let a : encode_utf8 c ≡ 10 ∷ [] = ap encode_utf8 (newline_is c h) ∙ encode_ascii 10 (omega arith) in
        let z : get_or (encode_utf8 c ++ encode_utf8_all cs) 0 0 ≡ 10 = rw a refl in
        absurd (b 0 (omega (arith, length-append (encode_utf8 c) (encode_utf8_all cs), encode_some c)) z)
    go false h more = not_counted c cs h ∙ more (λ j p q. b (length (encode_utf8 c) + j) (omega (arith, p, length-append (encode_utf8 c) (encode_utf8_all cs))) (get_or-append-add (encode_utf8 c) (encode_utf8_all cs) j 0 ∙ q))

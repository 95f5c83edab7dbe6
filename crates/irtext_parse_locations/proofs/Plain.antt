-- Numbers, lines and columns as they are mostly printed are those that the parsers of their parts parse.
use Rattle.std.proofs.Common.{◌≡◌, ℕ, ℤ, pos, true, false, cond, nat_lt, Option, Some, None, Ok, [], ◌∷◌, ◌++◌, codes, refl, sym, ◌∙◌, ap, subst, arith}
use Rattle.std.proofs.lemmas.Bool.Decides.{nat_tests}
use Rattle.std.specs.List.{list_all}
use Rattle.std.specs.Str.{IsAscii, chars}
use Rattle.std.proofs.lemmas.Str.{chars-IsAscii}
use Rattle.std.proofs.lemmas.Str.Ascii.{IsAscii-nil, IsAscii-cons}
use Rattle.std.specs.Option.{option_map}
use Rattle.std.specs.Prelude.{FitsSigned, ◌<◌, ◌^◌}
use Rattle.std.specs.Int.{w32}
use Rattle.std.specs.Char.{is_ascii_digit, is_whitespace}
use Rattle.irtext_base.specs.Text.{Text, begins, front, after}
use Rattle.irtext_base.specs.Stream.{StreamView, after_taken}
use Rattle.irtext_stream.specs.Stream.{Comes}
use Rattle.irtext_base.specs.Answers.{Outcome, Read, Missing, Bad, Takes, Gives, SameStream, demanded, followed, mapped, prefixed, unless_failed}
use Rattle.irtext_base.proofs.Characters.{and_left, and_right, word_no_space}
use Rattle.irtext_base.proofs.Compose.{takes_more, takes_same_stream, same_stream_after}
use Rattle.irtext_base.proofs.Numbers.{digit_in_word}
use Rattle.irtext_tokens.specs.Infix.{Reader}
use Rattle.irtext_tokens.specs.Integers.{signed_below, within}
use Rattle.irtext_tokens.specs.MustRead.{MustRead}
use Rattle.irtext_tokens.specs.Tokens.{is_sign, sign_of, after_sign, value_of, number_at, integer_of, integer_at}
use Rattle.irtext_tokens.proofs.Steps.{alone, mapped_followed}
use Rattle.irtext_tokens.proofs.Spelling.{prefixed-prefixed}
use Rattle.irtext_grammar.specs.Readers.Positions.{spaced_at, labelled_at}
use Rattle.irtext_grammar.specs.Readers.Streams.{itself, replaced}
use Rattle.irtext_stream.specs.declared.position.SourcePosition.{SourcePosition}
use Rattle.irtext_parse_locations.specs.Plain.{TakesDigits, TakesNumber, DigitsAfter, NumberAfter, Looks, Gets, line_at, column_at, after_source_at}

no_sign : (c : ℕ) → is_ascii_digit c ≡ true → is_sign c ≡ false
no_sign c e = grind (arith, nat_tests)

-- a digit has no sign before it
unsigned : (text : Text) → begins is_ascii_digit text ≡ true → (sign_of text ≡ []) × (after_sign text ≡ text)
unsigned [] e = absurd (cc)
unsigned (c ∷ text) e = (ap (λ b. cond b (c ∷ []) []) (no_sign c e), ap (λ b. cond b text (c ∷ text)) (no_sign c e))

-- a digit has no white space before it
no_space : (text : Text) → begins is_ascii_digit text ≡ true → (front is_whitespace text ≡ []) × (after is_whitespace text ≡ text)
no_space [] e = absurd (cc)
no_space (c ∷ text) e =
    let n : is_whitespace c ≡ false = word_no_space c (digit_in_word c e) in
    (ap (λ b. cond b (c ∷ front is_whitespace text) []) n, ap (λ b. cond b (after is_whitespace text) (c ∷ text)) n)

small : (n : ℕ) → nat_lt n 2147483648 ≡ true → nat_lt 2147483647 n ≡ false
small n e = grind (arith, nat_tests)

-- a number that fits 32 bits with a sign
fits : (n : ℕ) (z : ℤ) → within (signed_below 32) false n ≡ Some z → integer_of [] (Some n) ≡ Some z
fits n z e =
    elim (nat_lt n 2147483648) as (λ b. nat_lt n 2147483648 ≡ b → cond b (Some (pos n)) None ≡ Some z → integer_of [] (Some n) ≡ Some z) [
      | true ↦ (λ q h. rw (small n q) h)
      | false ↦ (λ q h. absurd (cc))
    ] refl e

integer_read : (text : Text) (n : ℕ) (z : ℤ) → begins is_ascii_digit text ≡ true → value_of (front is_ascii_digit text) ≡ Some n → within (signed_below 32) false n ≡ Some z → integer_at text ≡ Read z (front is_ascii_digit text) (after is_ascii_digit text)
unfolding integer_at
integer_read text n z b v e = let s = unsigned text b in rw (s.1, s.0, b, v, fits n z e) refl

-- the integer of digits
pub integer_taken : {old new : StreamView} (n : ℕ) (z : ℤ) → TakesDigits old n new → within (signed_below 32) false n ≡ Some z → TakesNumber integer_at old z new
integer_taken {old = old} n z t e = record { some = t.some; is = integer_read old.rest n z t.some t.value e; takes = t.takes }

-- the stream is unchanged
pub still : (s : StreamView) → SameStream itself replaced s.failed s s
still s = record { seen = s; is = refl; fails = refl; same = refl }

-- characters were taken
pub taken : {old new : StreamView} (t r : Text) → Takes itself replaced t r old new → SameStream itself replaced old.failed old new
taken {old = old} {new = new} t r k = takes_same_stream itself replaced alone.view_at alone.at_at old new t r k

-- the stream is over the same text, after characters that were taken
pub further : {old mid new : StreamView} (t r : Text) → Takes itself replaced t r old mid → SameStream itself replaced mid.failed mid new → SameStream itself replaced old.failed old new
further {old = old} {mid = mid} {new = new} t r k h =
    let f : mid.failed ≡ old.failed = ap (λ v. v.failed) k.is in
    subst (λ b. SameStream itself replaced b old new) f (same_stream_after itself replaced alone.view_at alone.at_at mid.failed old mid new t r k h)

line_read : (text : Text) (z : ℤ) (t r : Text) → begins is_ascii_digit text ≡ true → integer_at text ≡ Read z t r → line_at (codes ": line: " ++ text) ≡ Read z (codes ": line: " ++ t) r
line_read text z t r b e = let s = no_space text b in rw (s.0, s.1, e) refl

column_read : (text : Text) (z : ℤ) (t r : Text) → begins is_ascii_digit text ≡ true → integer_at text ≡ Read z t r → column_at (codes ", column: " ++ text) ≡ Read z (codes ", column: " ++ t) r
column_read text z t r b e = let s = no_space text b in rw (s.0, s.1, e) refl

-- a label was consumed, and characters after it
pub after_label : {X : Type 0} (reader : Reader X) (label t r : Text) (x : X) (old mid new : StreamView) (rest : Text) → old.rest ≡ label ++ rest → mid ≡ after_taken old label rest → reader (label ++ rest) ≡ Read x (label ++ t) r → Takes itself replaced t r mid new → Gets reader old new x
after_label reader label t r x old mid new rest e m is k =
    let v : mid.rest ≡ rest = ap (λ v. v.rest) m in
    let j : Takes itself replaced label mid.rest old mid = record { is = m ∙ ap (λ r. after_taken old label r) (sym v); same = ap (λ r. label ++ r) v ∙ sym e } in
    subst (λ u. Gives itself replaced (reader u) old x new) (sym e) (subst (λ o. Gives itself replaced o old x new) (sym is) (refl, takes_more itself replaced alone.view_at alone.at_at old mid new label mid.rest t r j k))

-- a label was consumed, and a number after it
labelled : (reader : Reader ℤ) (label : Text) → ((text : Text) (z : ℤ) (t r : Text) → begins is_ascii_digit text ≡ true → integer_at text ≡ Read z t r → reader (label ++ text) ≡ Read z (label ++ t) r)
    → (old mid new : StreamView) (rest : Text) (z : ℤ) → old.rest ≡ label ++ rest → mid ≡ after_taken old label rest → TakesNumber integer_at mid z new → Gets reader old new z
labelled reader label reads old mid new rest z e m n =
    let v : mid.rest ≡ rest = ap (λ v. v.rest) m in
    let is = subst (λ u. reader (label ++ u) ≡ Read z (label ++ front is_ascii_digit mid.rest) (after is_ascii_digit mid.rest)) v (reads mid.rest z (front is_ascii_digit mid.rest) (after is_ascii_digit mid.rest) n.some n.is) in
    after_label reader label (front is_ascii_digit mid.rest) (after is_ascii_digit mid.rest) z old mid new rest e m is n.takes

-- one value was parsed, and another after it
gives_after : {Y : Type 0} (o : Outcome Y) (t r : Text) (old mid new : StreamView) (y : Y) → Takes itself replaced t r old mid → Gives itself replaced o mid y new → Gives itself replaced (prefixed t o) old y new
gives_after (Read z u q) t r old mid new y k h = (h.0, takes_more itself replaced alone.view_at alone.at_at old mid new t r u q k h.1)
gives_after (Missing cause) t r old mid new y k h = absurd h
gives_after (Bad cause upto) t r old mid new y k h = absurd h

gives_both : {X Y : Type 0} (o : Outcome X) (k : X → Text → Outcome Y) (old mid new : StreamView) (x : X) (y : Y) → Gives itself replaced o old x mid → Gives itself replaced (k x mid.rest) mid y new → Gives itself replaced (followed o k) old y new
gives_both (Read z t r) k old mid new x y g h =
    let v : mid.rest ≡ r = ap (λ w. w.rest) g.1.is in
    gives_after (k z r) t r old mid new y g.1 (subst (λ w. Gives itself replaced (k w r) mid y new) g.0 (subst (λ u. Gives itself replaced (k x u) mid y new) v h))
gives_both (Missing cause) k old mid new x y g h = absurd g
gives_both (Bad cause upto) k old mid new x y g h = absurd g

followed_prefixed : {Y Z : Type 0} (t : Text) (o : Outcome Y) (l : Y → Text → Outcome Z) → followed (prefixed t o) l ≡ prefixed t (followed o l)
followed_prefixed t (Read y u r) l = sym (prefixed-prefixed t u (l y r))
followed_prefixed t (Missing cause) l = refl
followed_prefixed t (Bad cause upto) l = refl

followed_twice : {X Y Z : Type 0} (o : Outcome X) (k : X → Text → Outcome Y) (l : Y → Text → Outcome Z) → followed (followed o k) l ≡ followed o (λ x t. followed (k x t) l)
followed_twice (Read x t r) k l = followed_prefixed t (k x r) l
followed_twice (Missing cause) k l = refl
followed_twice (Bad cause upto) k l = refl

mapped_gives : {X Y : Type 0} (f : X → Y) (o : Outcome X) (old new : StreamView) (x : X) → Gives itself replaced o old x new → Gives itself replaced (mapped f o) old (f x) new
mapped_gives f (Read y t r) old new x g = (ap f g.0, g.1)
mapped_gives f (Missing cause) old new x g = absurd g
mapped_gives f (Bad cause upto) old new x g = absurd g

-- the position of a line and a column
abbrev at_line : ℤ → ℤ → SourcePosition
at_line line column = record { line = line; column = column }

-- a line and a column were parsed
pub position_taken : (old mid new : StreamView) (line column : ℤ) → Gets line_at old mid line → Gets column_at mid new column → Gets after_source_at old new (at_line line column)
position_taken old mid new line column g h =
    let last : ℤ → Text → Outcome SourcePosition = λ n t. followed (spaced_at (codes ",") t) (λ _ u. mapped (at_line n) (labelled_at (codes "column") u)) in
    let one : mapped (at_line line) (column_at mid.rest) ≡ last line mid.rest = mapped_followed (at_line line) (spaced_at (codes ",") mid.rest) (λ _ u. labelled_at (codes "column") u) in
    let all : followed (line_at old.rest) last ≡ after_source_at old.rest = followed_twice (spaced_at (codes ":") old.rest) (λ _ t. labelled_at (codes "line") t) last in
    subst (λ o. Gives itself replaced o old (at_line line column) new) all (gives_both (line_at old.rest) last old mid new line (at_line line column) g (subst (λ o. Gives itself replaced o mid (at_line line column) new) one (mapped_gives (at_line line) (column_at mid.rest) mid new column h)))

gives_demanded : {X : Type 0} (o : Outcome X) (old new : StreamView) (x : X) → Gives itself replaced o old x new → Gives itself replaced (demanded o) old x new
gives_demanded (Read y t r) old new x g = g
gives_demanded (Missing cause) old new x g = absurd g
gives_demanded (Bad cause upto) old new x g = absurd g

-- what was parsed on a stream that has not failed
pub gets_must : {X A : Type 0} (reader : Reader X) (old new : StreamView) (x : X) → old.failed ≡ false → Gets reader old new x → MustRead {A = A} itself replaced (λ (y : X). y) reader old (Ok x) new
gets_must reader old new x fine g =
    record { answers = subst (λ b. Gives itself replaced (demanded (unless_failed b (reader old.rest))) old x new) (sym fine) (gives_demanded (reader old.rest) old new x g) }

number_read : (text : Text) (n : ℕ) → begins is_ascii_digit text ≡ true → value_of (front is_ascii_digit text) ≡ Some n → number_at text ≡ Read n (front is_ascii_digit text) (after is_ascii_digit text)
unfolding number_at
number_read text n b v = let s = unsigned text b in rw (s.1, s.0, b, v) refl

-- the number of digits
pub number_taken : {old new : StreamView} (n : ℕ) → TakesDigits old n new → TakesNumber number_at old n new
number_taken {old = old} n t = record { some = t.some; is = number_read old.rest n t.some t.value; takes = t.takes }

below : (n : ℕ) → nat_lt n 2147483648 ≡ true → n < 2 ^ 31
below n e = grind (arith, nat_tests)

same_some : (x y : ℤ) → ◌≡◌ {A = Option ℤ} (Some x) (Some y) → y ≡ x
same_some x y e = cc

-- a number below 2 ^ 31 fits
fits_signed : (n : ℕ) (z : ℤ) → within (signed_below 32) false n ≡ Some z → FitsSigned w32 z
fits_signed n z e =
    elim (nat_lt n 2147483648) as (λ b. nat_lt n 2147483648 ≡ b → ◌≡◌ {A = Option ℤ} (cond b (Some (pos n)) None) (Some z) → FitsSigned w32 z) [
      | true ↦ (λ q h. subst (FitsSigned w32) (sym (same_some (pos n) z h)) (record { sfits = below n q }))
      | false ↦ (λ q h. absurd (cc))
    ] refl e

-- a text was consumed, and digits after it are looked for
pub digits_looks : (before : Text) (old mid new : StreamView) (r : Option ℕ) → Comes before old (λ v. mid ≡ v) → Looks (λ n. TakesDigits mid n new) mid r new → Looks (DigitsAfter before old new) old r new
digits_looks before old mid new (Some n) h d = record { mid = mid; comes = h; digits = d }
digits_looks before old mid new None h s = further before h.0 (record { is = h.2; same = sym h.1 }) s

-- the integer of these digits, or none that fits
pub number_looks : (before : Text) (old new : StreamView) (n : ℕ) (r : Option ℤ) → DigitsAfter before old new n → option_map (λ (z : ℤ). z) r ≡ within (signed_below 32) false n → Looks (NumberAfter before old new) old r new
number_looks before old new n (Some z) t e = record { mid = t.mid; comes = t.comes; number = integer_taken n z t.digits (sym e); fits = fits_signed n z (sym e) }
number_looks before old new n None t e = let rest = t.mid.rest in further before t.comes.0 (record { is = t.comes.2; same = sym t.comes.1 }) (taken (front is_ascii_digit rest) (after is_ascii_digit rest) t.digits.takes)

below_ascii : (c : ℕ) → nat_lt c 128 ≡ true → c < 128
below_ascii c e = grind (arith, nat_tests)

ascii_tested : (text : Text) → list_all (λ c. nat_lt c 128) text ≡ true → IsAscii text
ascii_tested [] e = IsAscii-nil
ascii_tested (c ∷ text) e = IsAscii-cons c text (below_ascii c (and_left (nat_lt c 128) (list_all (λ c. nat_lt c 128) text) e)) (ascii_tested text (and_right (nat_lt c 128) (list_all (λ c. nat_lt c 128) text) e))

-- the characters of an ASCII text are its codes
pub chars_ascii : (text : Text) → list_all (λ c. nat_lt c 128) text ≡ true → chars text ≡ text
chars_ascii text e = chars-IsAscii text (ascii_tested text e)

-- a label was consumed, and a number after it
labelled_after : (reader : Reader ℤ) (label : Text) → list_all (λ c. nat_lt c 128) label ≡ true → ((text : Text) (z : ℤ) (t r : Text) → begins is_ascii_digit text ≡ true → integer_at text ≡ Read z t r → reader (label ++ text) ≡ Read z (label ++ t) r)
    → (old new : StreamView) (z : ℤ) → NumberAfter (chars label) old new z → Gets reader old new z
labelled_after reader label ascii reads old new z n =
    let k : Comes label old (λ v. n.mid ≡ v) = subst (λ t. Comes t old (λ v. n.mid ≡ v)) (chars_ascii label ascii) n.comes in
    labelled reader label reads old n.mid new k.0 z k.1 k.2 n.number

pub line_after : (old new : StreamView) (z : ℤ) → NumberAfter (chars (codes ": line: ")) old new z → Gets line_at old new z
line_after = labelled_after line_at (codes ": line: ") refl line_read

pub column_after : (old new : StreamView) (z : ℤ) → NumberAfter (chars (codes ", column: ")) old new z → Gets column_at old new z
column_after = labelled_after column_at (codes ", column: ") refl column_read

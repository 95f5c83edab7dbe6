-- For laws of parts: one part after another, as the grammar uses their outcomes.
use Rattle.std.proofs.Common.{◌≡◌, ℕ, zero, suc, ◌<◌, Bool, true, false, cond, not, Some, [], ◌∷◌, refl, sym, ◌∙◌, ap, arith, true≢false}
use Rattle.std.proofs.lemmas.Bool.Decides.{nat_tests}
use Rattle.std.proofs.lemmas.Str.{encodes-IsAscii}
use Rattle.std.proofs.lemmas.Str.Ascii.{IsAscii-nil}
use Rattle.std.specs.Char.{is_ascii, is_whitespace}
use Rattle.std.specs.List.{list_all}
use Rattle.std.specs.Str.{IsAscii, all_scalars, encode_utf8_all}
use Rattle.irtext_base.specs.Text.{Text, begins, front, after_space}
use Rattle.irtext_base.specs.Reading.{the}
use Rattle.irtext_base.specs.Answers.{Outcome, Read, Missing, Bad, prefixed, mapped, followed}
use Rattle.irtext_base.specs.Own.{found, missing, verdict}
use Rattle.irtext_base.proofs.Characters.{and_left, and_right}
use Rattle.irtext_base.proofs.Scalars.{scalars_ascii}
use Rattle.irtext_base.specs.Faults.{Word, Unexpected}
use Rattle.irtext_tokens.specs.Tokens.{space_at, spelled_at, text_at}
use Rattle.irtext_tokens.specs.Infix.{◌▷◌}
use Rattle.irtext_syntax.specs.PartLaws.{is_closer}

-- what is found after characters that were consumed is found
prefixed_found : {X : Type 0} (t : Text) (o : Outcome X) (x : X) (rest : Text) → verdict o ≡ found x rest → verdict (prefixed t o) ≡ found x rest
prefixed_found t (Read y taken r) x rest e = e
prefixed_found t (Missing cause) x rest e = absurd (cc)
prefixed_found t (Bad cause upto) x rest e = absurd (cc)

-- a value is found, and after it another
pub then_found : {X Y : Type 0} (o : Outcome X) (next : X → Text → Outcome Y) (x : X) (y : Y) (between rest : Text) → verdict o ≡ found x between → verdict (next x between) ≡ found y rest → verdict (followed o next) ≡ found y rest
then_found (Read z taken r) next x y between rest e h =
    let p : (z ≡ x) × (r ≡ between) = (cc, cc) in
    prefixed_found taken (next z r) y rest (rw (p.0, p.1) h)
then_found (Missing cause) next x y between rest e h = absurd (cc)
then_found (Bad cause upto) next x y between rest e h = absurd (cc)

-- a value that is found is found as a function shows it
pub mapped_found : {X Y : Type 0} (see : X → Y) (o : Outcome X) (x : X) (rest : Text) → verdict o ≡ found x rest → verdict (mapped see o) ≡ found (see x) rest
mapped_found see (Read y taken r) x rest e = cc
mapped_found see (Missing cause) x rest e = absurd (cc)
mapped_found see (Bad cause upto) x rest e = absurd (cc)

-- where the first part is missing, the whole is
pub then_missing : {X Y : Type 0} (o : Outcome X) (next : X → Text → Outcome Y) → verdict o ≡ missing → verdict (followed o next) ≡ missing
then_missing (Read z taken r) next e = absurd (cc)
then_missing (Missing cause) next e = refl
then_missing (Bad cause upto) next e = absurd (cc)

pub mapped_missing : {X Y : Type 0} (see : X → Y) (o : Outcome X) → verdict o ≡ missing → verdict (mapped see o) ≡ missing
mapped_missing see (Read y taken r) e = absurd (cc)
mapped_missing see (Missing cause) e = refl
mapped_missing see (Bad cause upto) e = absurd (cc)

prefixed_same : {X : Type 0} (s t : Text) (o : Outcome X) → verdict (prefixed s o) ≡ verdict (prefixed t o)
prefixed_same s t (Read x taken r) = refl
prefixed_same s t (Missing cause) = refl
prefixed_same s t (Bad cause upto) = refl

-- after white space only what comes after it matters
pub spaced_same : {X : Type 0} (f : Text → Outcome X) (s t : Text) → after_space s ≡ after_space t → verdict ((space_at ▷ f) s) ≡ verdict ((space_at ▷ f) t)
spaced_same f s t e = ap (λ z. verdict (prefixed (front is_whitespace s) (f z))) e ∙ prefixed_same (front is_whitespace s) (front is_whitespace t) (f (after_space t))

-- after white space a value is found, if it is found in what comes after
pub spaced_found : {X : Type 0} (f : Text → Outcome X) (text : Text) (x : X) (rest : Text) → verdict (f (after_space text)) ≡ found x rest → verdict ((space_at ▷ f) text) ≡ found x rest
spaced_found f text x rest e = prefixed_found (front is_whitespace text) (f (after_space text)) x rest e

pub not_true : (b : Bool) → not b ≡ true → b ≡ false
not_true true e = absurd (true≢false (sym e))
not_true false e = refl

same_the : (c d : ℕ) → the c d ≡ true → d ≡ c
same_the c d e = grind (arith, nat_tests)

other_the : (c d : ℕ) → is_closer c ≡ false → is_closer d ≡ true → the c d ≡ false
other_the c d e f = by (the c d) refl
  where
    by : (b : Bool) → the c d ≡ b → b ≡ false
    by true q = absurd (true≢false (sym f ∙ (ap is_closer (same_the c d q) ∙ e)))
    by false q = refl

-- a fixed text that does not begin with a closing character is missing where one comes
pub word_misses : (text : Text) → begins (λ c. not (is_closer c)) text ≡ true → (c : ℕ) (rest : Text) → is_closer c ≡ true → verdict (text_at text (c ∷ rest)) ≡ missing
word_misses [] e c rest f = absurd (true≢false (sym e))
word_misses (first ∷ more) e c rest f =
    let g : is_closer first ≡ false = not_true (is_closer first) e in
    ap (λ b. verdict (cond b (prefixed (c ∷ []) (spelled_at (first ∷ more) more rest)) (Missing (Unexpected (Some c) (Word (first ∷ more)))))) (other_the first c g f)

pub ascii-cons : (c : ℕ) (text : Text) → c < 128 → IsAscii text → IsAscii (c ∷ text)
ascii-cons c text small rest zero = small
ascii-cons c text small rest (suc i) = rest i

ascii-small : (c : ℕ) → is_ascii c ≡ true → c < 128
ascii-small c e = grind (arith, nat_tests)

-- a text is ASCII if its characters pass the test
pub ascii_from : (text : Text) → list_all is_ascii text ≡ true → IsAscii text
ascii_from [] e = IsAscii-nil
ascii_from (c ∷ text) e = ascii-cons c text (ascii-small c (and_left (is_ascii c) (list_all is_ascii text) e)) (ascii_from text (and_right (is_ascii c) (list_all is_ascii text) e))

-- an ASCII text consists of Unicode scalar values, and is its bytes
pub ascii_scalars : (text : Text) → list_all is_ascii text ≡ true → all_scalars text ≡ true
ascii_scalars text e = scalars_ascii text (ascii_from text e)

pub ascii_bytes : (text : Text) → list_all is_ascii text ≡ true → encode_utf8_all text ≡ text
ascii_bytes text e = encodes-IsAscii text (ascii_from text e)

-- What was appended piece by piece, as one text.
use Rattle.std.proofs.Common.{◌≡◌, ◌∷◌, ◌++◌, ◌∙◌, ℕ, List, true≢false, refl, sym, ap, Result, Ok, Err, OnOk, IsOk, IfErr, codes, ◌+◌, ◌*◌, replicate, take, length, ◌-◌, ◌≤◌, ◌<◌, [], zero, suc, arith}
use Rattle.std.specs.Str.{IsAscii, encode_utf8_all}
use Rattle.std.proofs.lemmas.List.{append_assoc, replicate-append-replicate, take-replicate}
use Rattle.std.specs.List.{slice_range}
use Rattle.irtext_base.specs.Text.{Text}
use Rattle.irtext_grammar.proofs.Lists.Ascii.{encodes-ascii}
use Rattle.std.proofs.Common.{Box, Global}
use Rattle.irtext_base.specs.Causes.{headed, kind_text, cause_text}
use Rattle.irtext_base.specs.declared.result.Error.{Error}
use Rattle.irtext_base.specs.declared.result.ErrorKind.{ErrorKind}
use Rattle.irtext_base.specs.declared.result.Cause.{Cause, Nested, Nested'}
use Rattle.irtext_print.specs.Errors.Located.{located_cause}

-- what follows where a call succeeded
pub then : {X E P Q : Type 0} (r : Result X E) → (P → Q) → OnOk r P → OnOk r Q
then (Ok x) f p = f p
then (Err e) f p = tt

-- what follows a call whose result was returned
pub after_call : {X Y E F P Q : Type 0} (r : Result X E) (answer : Result Y F) → OnOk r (IsOk answer) → OnOk answer P → (P → Q) → OnOk r Q
after_call (Ok x) (Ok y) h p f = f p
after_call (Ok x) (Err e) h p f = absurd (true≢false (sym h))
after_call (Err e) answer h p f = tt

-- what holds if a call returned an error
pub then-err : {X E : Type 0} {P Q : E → Type 0} (r : Result X E) → ((e : E) → P e → Q e) → IfErr r P → IfErr r Q
then-err (Ok x) f p = tt
then-err (Err e) f p = f e p

-- a location, a headline and a cause, as the text of an error
pub error_appended : (known : List ℕ) (kind : ErrorKind) (cause : List ℕ) (old first second new : List ℕ)
    → first ≡ old ++ known
    → second ≡ first ++ (codes "Compilation error: " ++ (kind_text kind ++ codes ".\n"))
    → new ≡ second ++ cause
    → new ≡ old ++ (known ++ headed kind cause)
error_appended known kind cause old first second new p q r =
    r ∙ ap (λ z. z ++ cause) (q ∙ ap (λ z. z ++ (codes "Compilation error: " ++ (kind_text kind ++ codes ".\n"))) p) ∙ simp append_assoc

-- a cause that holds no error prints as it shows itself
pub located_cause-plain : {A : Type 0} (written : A → Text) (paths : List (List ℕ)) (cause : Cause A) → ((e : Box (Error A) Global) → cause ≡ Nested e → ⊥) → located_cause written paths cause ≡ cause_text cause
located_cause-plain {A = A} written paths cause none = elim cause as (λ z. ((e : Box (Error A) Global) → z ≡ Nested e → ⊥) → located_cause written paths z ≡ cause_text z) [
  | Nested' p kind err loc ↦ λ n. absurd (n (record { ptr = p.ptr; alloc = p.alloc; value = record { kind = kind; err = err; loc = loc } }) refl)
  | _ ↦ λ n. refl
] none

-- a newline and spaces, and one more block of spaces
pub newline-more : (first blocks : ℕ) (old now new : List ℕ) → now ≡ old ++ 10 ∷ replicate (first + 256 * blocks) 32 → new ≡ now ++ replicate 256 32 → new ≡ old ++ 10 ∷ replicate (first + 256 * (blocks + 1)) 32
newline-more first blocks old now new p q =
    let sizes : first + 256 * blocks + 256 ≡ first + 256 * (blocks + 1) = omega arith in
    q ∙ ap (λ z. z ++ replicate 256 32) p ∙ append_assoc old (10 ∷ replicate (first + 256 * blocks) 32) (replicate 256 32)
    ∙ ap (λ z. old ++ 10 ∷ z) (replicate-append-replicate (first + 256 * blocks) 256 32 ∙ ap (λ n. replicate n 32) sizes)

-- each of so many spaces is ASCII
pub spaces-ascii : (n : ℕ) → IsAscii (replicate n 32)
spaces-ascii zero i = omega arith
spaces-ascii (suc n) zero = omega arith
spaces-ascii (suc n) (suc i) = spaces-ascii n i

-- so is a newline before them
pub newline-ascii : (n : ℕ) → IsAscii (10 ∷ replicate n 32)
newline-ascii n zero = omega arith
newline-ascii n (suc i) = spaces-ascii n i

-- a slice of a newline and spaces
pub newline-slice : (n : ℕ) → n ≤ 256 → slice_range {X = ℕ} (10 ∷ replicate 256 32) 0 (1 + n) ≡ 10 ∷ replicate n 32
newline-slice n few =
    let size : 1 + n - 0 ≡ suc n = omega arith in
    ap (λ k. take k (10 ∷ replicate 256 32)) size ∙ ap (λ z. 10 ∷ z) (take-replicate n 256 32 few)

-- a text, a newline and spaces, of which some are taken
pub line-slice : (front : List ℕ) (n : ℕ) → n ≤ 256 → slice_range {X = ℕ} (front ++ 10 ∷ replicate 256 32) 0 (length front + 1 + n) ≡ front ++ 10 ∷ replicate n 32
line-slice front n few =
    let size : length front + 1 + n - 0 ≡ length front + suc n = omega arith in
    ap (λ k. take k (front ++ 10 ∷ replicate 256 32)) size ∙ taken front
  where
    taken : (front : List ℕ) → take (length front + suc n) (front ++ 10 ∷ replicate 256 32) ≡ front ++ 10 ∷ replicate n 32
    taken [] =
        let size : 0 + suc n ≡ suc n = omega arith in
        ap (λ k. take k (10 ∷ replicate 256 32)) size ∙ ap (λ z. 10 ∷ z) (take-replicate n 256 32 few)
    taken (x ∷ front) =
        let size : suc (length front) + suc n ≡ suc (length front + suc n) = omega arith in
        ap (λ k. take k (x ∷ (front ++ 10 ∷ replicate 256 32))) size ∙ ap (λ z. x ∷ z) (taken front)

-- a character before a newline and spaces
pub front-ascii : (c n : ℕ) → c < 128 → IsAscii (c ∷ 10 ∷ replicate n 32)
front-ascii c n h zero = h
front-ascii c n h (suc i) = newline-ascii n i

-- a space, a brace on a line of its own, a newline and spaces are ASCII
pub opening-ascii : (n : ℕ) → IsAscii (32 ∷ 10 ∷ 123 ∷ 10 ∷ replicate n 32)
opening-ascii n zero = omega arith
opening-ascii n (suc zero) = omega arith
opening-ascii n (suc (suc zero)) = omega arith
opening-ascii n (suc (suc (suc i))) = newline-ascii n i

-- a slice of them
pub opening-whole : (n : ℕ) → n ≤ 64 → slice_range {X = ℕ} (32 ∷ 10 ∷ 123 ∷ 10 ∷ replicate 64 32) 0 (4 + n) ≡ 32 ∷ 10 ∷ 123 ∷ 10 ∷ replicate n 32
opening-whole n few =
    let size : 4 + n - 0 ≡ suc (suc (suc (suc n))) = omega arith in
    ap (λ k. take k (32 ∷ 10 ∷ 123 ∷ 10 ∷ replicate 64 32)) size ∙ ap (λ z. 32 ∷ 10 ∷ 123 ∷ 10 ∷ z) (take-replicate n 64 32 few)

-- a slice of them after the space
pub opening-following : (n : ℕ) → n ≤ 64 → slice_range {X = ℕ} (32 ∷ 10 ∷ 123 ∷ 10 ∷ replicate 64 32) 1 (4 + n) ≡ 10 ∷ 123 ∷ 10 ∷ replicate n 32
opening-following n few =
    let size : 4 + n - 1 ≡ suc (suc (suc n)) = omega arith in
    ap (λ k. take k (10 ∷ 123 ∷ 10 ∷ replicate 64 32)) size ∙ ap (λ z. 10 ∷ 123 ∷ 10 ∷ z) (take-replicate n 64 32 few)

-- bytes, and those after them
pub piece : (f0 f1 f2 a r : List ℕ) → f1 ≡ f0 ++ a → f2 ≡ f1 ++ r → f2 ≡ f0 ++ (a ++ r)
piece f0 f1 f2 a r p q = q ∙ ap (λ z. z ++ r) p ∙ append_assoc f0 a r

-- the digits of a number are ASCII, so their bytes are appended as they are
pub number_appended : (text digits old new : List ℕ) → digits ≡ text → IsAscii digits → new ≡ old ++ digits → new ≡ old ++ encode_utf8_all text
number_appended text digits old new e a p = p ∙ ap (λ z. old ++ z) (sym (encodes-ascii digits a)) ∙ ap (λ z. old ++ encode_utf8_all z) e

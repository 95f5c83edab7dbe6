-- The texts of integer types, appended piece by piece.
use Rattle.std.proofs.Common.{◌≡◌, ◌∷◌, ◌++◌, ◌∙◌, ◌≤◌, ◌<◌, ◌/◌, ◌%◌, ◌+◌, ℕ, List, [], sym, ap, arith, codes, append_assoc, refl, Result, Ok, Err, OnOk}
use Rattle.std.specs.Prelude.{IfOk}
use Rattle.std.specs.Fmt.{decimal}
use Rattle.std.specs.Str.{encode_utf8_all}
use Rattle.std.proofs.lemmas.Fmt.{decimal_digit, decimal_step}
use Rattle.irtext_syntax.specs.PartSteps.{ascii_from}
use Rattle.irtext_demo.specs.IntegerTypes.{integer_type_text, signedness_text}
use Rattle.std.proofs.lemmas.Str.{encodes-append, encodes-IsAscii}
use Rattle.irtext_demo.specs.IntegerTypeLaws.{encodes-integer_type}
use Rattle.irtext_demo.specs.declared.integer_type.IntegerType.{IntegerType}

-- what follows where a call succeeded
pub then : {X E P Q : Type 0} (r : Result X E) → (P → Q) → OnOk r P → IfOk r (λ x. Q)
then (Ok x) f p = f p
then (Err e) f p = tt

-- a number of one digit
pub one_digit : (n : ℕ) → n < 10 → (48 + n) ∷ [] ≡ decimal n
one_digit n few = sym (decimal_digit n few)

-- a number of two digits
pub two_digits : (n : ℕ) → 10 ≤ n → n < 100 → (48 + n / 10) ∷ (48 + n % 10) ∷ [] ≡ decimal n
two_digits n lo hi = rw (decimal_step n lo (omega (arith, hi)), decimal_digit (n / 10) (omega (arith, hi)))

-- a sign and a width
pub joined_type : (t : IntegerType) (f0 f1 f2 front : List ℕ) → f1 ≡ f0 ++ (front ++ signedness_text t.kind) → f2 ≡ f1 ++ decimal t.width.bits → f2 ≡ f0 ++ (front ++ integer_type_text t)
joined_type t f0 f1 f2 front p q =
    q ∙ ap (λ z. z ++ decimal t.width.bits) p ∙ (append_assoc f0 (front ++ signedness_text t.kind) (decimal t.width.bits) ∙ ap (λ z. f0 ++ z) (append_assoc front (signedness_text t.kind) (decimal t.width.bits)))

-- the bytes of an integer type as a type of its dialect are its characters
pub encodes-type : (t : IntegerType) → encode_utf8_all (codes "builtin.integer " ++ integer_type_text t) ≡ codes "builtin.integer " ++ integer_type_text t
encodes-type t =
    encodes-append (codes "builtin.integer ") (integer_type_text t) ∙ ap (λ z. z ++ encode_utf8_all (integer_type_text t)) (encodes-IsAscii (codes "builtin.integer ") (ascii_from (codes "builtin.integer ") refl))
    ∙ ap (λ z. codes "builtin.integer " ++ z) (encodes-integer_type t)

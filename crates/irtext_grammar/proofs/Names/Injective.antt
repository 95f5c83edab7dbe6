-- Printed names of different values and blocks differ: the last run of digits is the number, or generation and place.
use Rattle.std.proofs.Common.{◌≡◌, ℕ, ◌<◌, Bool, true, false, cond, ◌&&◌, ◌==◌, List, [], ◌∷◌, ◌++◌, Option, Some, None, codes, decimal, refl, sym, ap, ap₂, ◌∙◌, subst, true≢false, append_assoc, length, ◌^◌, arith}
use Rattle.std.proofs.lemmas.List.{append_cancel_right}
use Rattle.std.proofs.lemmas.Fmt.{decimal_injective, decimal_nonempty, decimal_is_IsNumeral}
use Rattle.irtext_base.proofs.Numbers.{digits_every}
use Rattle.irtext_grammar.proofs.Lists.SameText.{same_character, same_itself, same_text_eq, other_text}
use Rattle.irtext_base.specs.Format.{same_text}
use Rattle.irtext_grammar.specs.Graphs.Graph.{Printing}
use Rattle.irtext_grammar.specs.Graphs.Closed.{Thing, a_value, a_block, same_thing, printed, Small}
use Rattle.std.specs.Char.{is_ascii_digit}
use Rattle.std.specs.List.{list_all}
use Rattle.irtext_base.specs.Text.{Text}
use Rattle.irtext_grammar.specs.Spelling.PrintedNames.{value_name, block_name}

abbrev last_run : Text → Text
last_run [] = []
last_run (c ∷ s) = cond (list_all is_ascii_digit (c ∷ s)) (c ∷ s) (last_run s)

run_all : (d : Text) → list_all is_ascii_digit d ≡ true → last_run d ≡ d
run_all [] e = refl
run_all (c ∷ d) e = ap (λ b. cond b (c ∷ d) (last_run d)) e

not_every : (a : Text) (c : ℕ) (d : Text) → is_ascii_digit c ≡ false → list_all is_ascii_digit (a ++ (c ∷ d)) ≡ false
not_every [] c d e = ap (λ b. b && list_all is_ascii_digit d) e
not_every (x ∷ a) c d e = ap (λ b. is_ascii_digit x && b) (not_every a c d e) ∙ no (is_ascii_digit x)
  where
    no : (b : Bool) → (b && false) ≡ false
    no true = refl
    no false = refl

run_last : (a : Text) (c : ℕ) (d : Text) → is_ascii_digit c ≡ false → list_all is_ascii_digit d ≡ true → last_run (a ++ (c ∷ d)) ≡ d
run_last [] c d e f = ap (λ b. cond b (c ∷ d) (last_run d)) (not_every [] c d e) ∙ run_all d f
run_last (x ∷ a) c d e f = ap (λ b. cond b (x ∷ (a ++ (c ∷ d))) (last_run (a ++ (c ∷ d)))) (not_every (x ∷ a) c d e) ∙ run_last a c d e f

not_digit_before : (a b : Text) (c : ℕ) (d e : Text) → is_ascii_digit c ≡ false → list_all is_ascii_digit d ≡ true → list_all is_ascii_digit e ≡ true → a ++ (c ∷ d) ≡ b ++ (c ∷ e) → (d ≡ e) × (a ≡ b)
not_digit_before a b c d e n p q same =
    let k : d ≡ e = sym (run_last a c d n p) ∙ (ap last_run same ∙ run_last b c e n q) in
    (k, append_cancel_right a b (c ∷ d) (same ∙ ap (λ z. b ++ (c ∷ z)) (sym k)))

-- what precedes the `v` of a value's name, and that of a block's
abbrev front_of_value : Option Text → Text
front_of_value None = []
front_of_value (Some g) = g ++ codes "_"

value_shape : (g : Option Text) (n : ℕ) → value_name g n ≡ front_of_value g ++ (118 ∷ decimal n)
value_shape None n = refl
value_shape (Some g) n = sym (append_assoc g (codes "_") (118 ∷ decimal n))

abbrev front_of_block : Option Text → Text
front_of_block None = codes "bloc"
front_of_block (Some l) = l ++ codes "_bloc"

block_shape : (l : Option Text) (p g : ℕ) → block_name l (p, g) ≡ (front_of_block l ++ (107 ∷ decimal p)) ++ (118 ∷ decimal g)
block_shape None p g = sym (append_assoc (codes "bloc") (107 ∷ decimal p) (118 ∷ decimal g))
block_shape (Some l) p g = sym (append_assoc (l ++ codes "_bloc") (107 ∷ decimal p) (118 ∷ decimal g) ∙ append_assoc l (codes "_bloc") ((107 ∷ decimal p) ++ (118 ∷ decimal g)))

front_run : (g : Option Text) → last_run (front_of_value g) ≡ []
front_run None = refl
front_run (Some g) = run_last g 95 [] refl refl

-- a number in decimal has digits alone
pub digits_all : (n : ℕ) → n < 2 ^ 64 → list_all is_ascii_digit (decimal n) ≡ true
digits_all n small = digits_every (decimal n) (decimal_is_IsNumeral n small).0.1

-- values with one printed name have one number
pub values_differ : (g h : Option Text) (m n : ℕ) → m < 2 ^ 64 → n < 2 ^ 64 → value_name g m ≡ value_name h n → m ≡ n
values_differ g h m n p q e =
    let k = not_digit_before (front_of_value g) (front_of_value h) 118 (decimal m) (decimal n) refl (digits_all m p) (digits_all n q) (sym (value_shape g m) ∙ (e ∙ value_shape h n)) in
    decimal_injective m n p q k.0

-- blocks with one printed name have one generation and one place
pub blocks_differ : (l k : Option Text) (b c : ℕ × ℕ) → b.0 < 2 ^ 64 → b.1 < 2 ^ 64 → c.0 < 2 ^ 64 → c.1 < 2 ^ 64 → block_name l b ≡ block_name k c → (b.0 ≡ c.0) × (b.1 ≡ c.1)
blocks_differ l k b c p0 p1 q0 q1 e =
    let x = not_digit_before (front_of_block l ++ (107 ∷ decimal b.0)) (front_of_block k ++ (107 ∷ decimal c.0)) 118 (decimal b.1) (decimal c.1) refl (digits_all b.1 p1) (digits_all c.1 q1)
    (sym (block_shape l b.0 b.1) ∙ (e ∙ block_shape k c.0 c.1)) in
    let y = not_digit_before (front_of_block l) (front_of_block k) 107 (decimal b.0) (decimal c.0) refl (digits_all b.0 p0) (digits_all c.0 q0) x.1 in
    (decimal_injective b.0 c.0 p0 q0 y.0, decimal_injective b.1 c.1 p1 q1 x.0)

-- no value has the printed name of a block
pub value_no_block : (g l : Option Text) (n : ℕ) (b : ℕ × ℕ) → n < 2 ^ 64 → b.0 < 2 ^ 64 → b.1 < 2 ^ 64 → value_name g n ≡ block_name l b → ⊥
value_no_block g l n b p q r e =
    let x = not_digit_before (front_of_value g) (front_of_block l ++ (107 ∷ decimal b.0)) 118 (decimal n) (decimal b.1) refl (digits_all n p) (digits_all b.1 r)
    (sym (value_shape g n) ∙ (e ∙ block_shape l b.0 b.1)) in
    let y : [] ≡ decimal b.0 = sym (front_run g) ∙ (ap last_run x.1 ∙ run_last (front_of_block l) 107 (decimal b.0) refl (digits_all b.0 q)) in
    let z = decimal_nonempty b.0 q in
    let none : List ℕ = [] in
    let w : 0 < length none = subst (λ s. 0 < length s) (sym y) z in
    omega arith

decided : (x y : Text) (b : Bool) → (b ≡ true → x ≡ y) → (x ≡ y → b ≡ true) → same_text x y ≡ b
decided x y true f g = same_text_eq x y (f refl)
decided x y false f g = other_text x y (λ e. true≢false (sym (g e)))

both_of : (a b : Bool) → (a && b) ≡ true → (a ≡ true) × (b ≡ true)
both_of true b e = (refl, e)
both_of false b e = absurd (true≢false (sym e))

-- the printed names of two values or blocks are one text exactly if these are the same
pub names_agree : {T A : Type 0} (C : Printing T A) (x y : Thing) → Small x → Small y → same_text (printed C x) (printed C y) ≡ same_thing x y
names_agree C (a_value v) (a_value w) p q =
    decided (value_name (C.given v) v) (value_name (C.given w) w) (v == w) (λ e. ap (λ n. value_name (C.given n) n) (same_character v w e))
    (λ e. subst (λ z. (v == z) ≡ true) (values_differ (C.given v) (C.given w) v w p q e) (same_itself v))
names_agree C (a_block b) (a_block c) p q =
    decided (block_name (C.label b) b) (block_name (C.label c) c) ((b.0 == c.0) && (b.1 == c.1))
    (λ e. let k = both_of (b.0 == c.0) (b.1 == c.1) e in
    let m : b ≡ c = λ i. (same_character b.0 c.0 k.0 i, same_character b.1 c.1 k.1 i) in
    ap (λ n. block_name (C.label n) n) m)
    (λ e. let k = blocks_differ (C.label b) (C.label c) b c p.0 p.1 q.0 q.1 e in
    ap₂ ◌&&◌ (subst (λ z. (b.0 == z) ≡ true) k.0 (same_itself b.0)) (subst (λ z. (b.1 == z) ≡ true) k.1 (same_itself b.1)))
names_agree C (a_value v) (a_block b) p q = other_text (value_name (C.given v) v) (block_name (C.label b) b) (value_no_block (C.given v) (C.label b) v b p q.0 q.1)
names_agree C (a_block b) (a_value v) p q = other_text (block_name (C.label b) b) (value_name (C.given v) v) (λ e. value_no_block (C.given v) (C.label b) v b q p.0 p.1 (sym e))

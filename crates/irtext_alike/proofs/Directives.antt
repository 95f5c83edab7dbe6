-- Directives with the same shape and the same text are the same, and so are lists of directives that are the same one by one.
use Rattle.std.proofs.Common.{◌≡◌, ◌∙◌, ◌≤◌, ◌<◌, ◌+◌, ℕ, suc, Bool, true, false, IsTrue, refl, sym, ap, ap₂, subst, inl, inr, arith, List, [], ◌∷◌, length, map, slice_get, Some, option_map, string_bytes}
use Rattle.std.specs.Prelude.{◌↔◌}
use Rattle.std.specs.Str.{chars, IsUtf8, encode_utf8_all}
use Rattle.std.proofs.Math.Nat.{eq-or-lt_of_le}
use Rattle.std.proofs.lemmas.List.{length-map}
use Rattle.std.proofs.lemmas.Option.{slice_get-map}
use Rattle.std.proofs.lemmas.Str.{IsUtf8-string_bytes, encodes-chars}
use Rattle.irtext_base.specs.Format as format
use Rattle.irtext_base.specs.Format.{Directive}
use Rattle.irtext_base.specs.FormatViews.{directive_of}
use Rattle.irtext_base.specs.declared.format.Directive as code
use Rattle.irtext_base.specs.declared.format.Directive.TheVariants as step
use Rattle.irtext_alike.specs.Shapes.{shape_of, text_of}

-- texts that spell the same characters are the same
spelled_alike : (a b : List ℕ) → IsUtf8 a → IsUtf8 b → chars a ≡ chars b → a ≡ b
spelled_alike a b u v e = sym (encodes-chars a u) ∙ ap encode_utf8_all e ∙ encodes-chars b v

-- the same shape and the same text are the same directive
pub put_together : (a b : code.Directive) → shape_of a ≡ shape_of b → text_of a ≡ text_of b → directive_of a ≡ directive_of b
put_together (step.Literal s) (step.Literal t) e f = ap (λ x. format.word (chars x)) f
put_together (step.Operand i) (step.Operand j) e f = ap format.operand (cc)
put_together step.Operands step.Operands e f = refl
put_together (step.Successor i) (step.Successor j) e f = ap format.successor (cc)
put_together step.Successors step.Successors e f = refl
put_together (step.Attr k) (step.Attr l) e f = ap format.attribute f
put_together step.AttrDict step.AttrDict e f = refl
put_together (step.ResultType i) (step.ResultType j) e f = ap format.result_type (cc)
put_together (step.Region i) (step.Region j) e f = ap format.region (cc)
put_together step.Regions step.Regions e f = refl
put_together step.SymbolHeader step.SymbolHeader e f = refl
put_together _ _ e f = absurd (cc)

-- the same directive has the same shape and the same text
pub taken_apart : (a b : code.Directive) → directive_of a ≡ directive_of b → (shape_of a ≡ shape_of b) × (text_of a ≡ text_of b)
taken_apart (step.Literal s) (step.Literal t) e = (refl, spelled_alike (string_bytes s) (string_bytes t) (IsUtf8-string_bytes s) (IsUtf8-string_bytes t) (cc))
taken_apart (step.Operand i) (step.Operand j) e = (cc, refl)
taken_apart step.Operands step.Operands e = (refl, refl)
taken_apart (step.Successor i) (step.Successor j) e = (cc, refl)
taken_apart step.Successors step.Successors e = (refl, refl)
taken_apart (step.Attr k) (step.Attr l) e = (refl, cc)
taken_apart step.AttrDict step.AttrDict e = (refl, refl)
taken_apart (step.ResultType i) (step.ResultType j) e = (cc, refl)
taken_apart (step.Region i) (step.Region j) e = (cc, refl)
taken_apart step.Regions step.Regions e = (refl, refl)
taken_apart step.SymbolHeader step.SymbolHeader e = (refl, refl)
taken_apart _ _ e = absurd (cc)

-- lists that agree at each index below their length
same_at_each : {X : Type 0} (xs ys : List X) → length xs ≡ length ys → ((j : ℕ) → j < length xs → slice_get xs j ≡ slice_get ys j) → xs ≡ ys
same_at_each [] [] n e = refl
same_at_each [] (y ∷ ys) n e = absurd (cc)
same_at_each (x ∷ xs) [] n e = absurd (cc)
same_at_each (x ∷ xs) (y ∷ ys) n e = ap₂ ◌∷◌ (same_first (e 0 (omega arith))) (same_at_each xs ys (cc n) (λ j w. e (suc j) (omega (arith, w))))
  where
    same_first : Some x ≡ Some y → x ≡ y
    same_first h = cc

module _ {X Y : Type 0} (f : X → Y) (xs ys : List X) where
  abbrev Agree : ℕ → Type 0
  Agree j = slice_get (map f xs) j ≡ slice_get (map f ys) j

  there : (zs : List X) (i : ℕ) (z : X) → slice_get zs i ≡ Some z → slice_get (map f zs) i ≡ Some (f z)
  there zs i z e = slice_get-map f zs i ∙ ap (option_map f) e

  -- lists that differ at an index
  pub differ : (i : ℕ) (x y : X) (same : Bool) → slice_get xs i ≡ Some x → slice_get ys i ≡ Some y → IsTrue same ↔ f x ≡ f y → same ≡ false → IsTrue false ↔ map f xs ≡ map f ys
  differ i x y same at there_too says fails = (
    (λ t. absurd (cc)),
    λ e. sym fails ∙ says.1 (some_same (sym (there xs i x at) ∙ ap (λ zs. slice_get zs i) e ∙ there ys i y there_too)),
  )
    where
      some_same : Some (f x) ≡ Some (f y) → f x ≡ f y
      some_same h = cc

  -- one more index at which they agree
  pub agree : (i : ℕ) (x y : X) → slice_get xs i ≡ Some x → slice_get ys i ≡ Some y → f x ≡ f y → ((j : ℕ) → j < i → Agree j) → (j : ℕ) → j < i + 1 → Agree j
  agree i x y at there_too same before j w = elim (eq-or-lt_of_le {n = j} {m = i} (omega (arith, w))) [
    | inl e ↦ subst Agree (sym e) (there xs i x at ∙ ap Some same ∙ sym (there ys i y there_too))
    | inr l ↦ before j l
  ]

  -- they agree at each index, and so they are the same
  pub agree_each : (i : ℕ) → length xs ≡ length ys → length xs ≤ i → ((j : ℕ) → j < i → Agree j) → IsTrue true ↔ map f xs ≡ map f ys
  agree_each i sizes past each = ((λ t. same_at_each (map f xs) (map f ys) (length-map xs f ∙ sizes ∙ sym (length-map ys f)) (λ j w. let size = length-map xs f in each j (omega (arith, w, size, past)))), (λ e. refl))

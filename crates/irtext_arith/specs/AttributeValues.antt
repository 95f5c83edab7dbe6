-- For callers: what the attributes of the dialect `arith` hold.
use Rattle.std.specs.Prelude.{ℕ, ℤ, Bool, Option, Some, None}
use Rattle.irtext_base.specs.Text.{Text}
use Rattle.irtext_arith.specs.declared.predicate.Predicate.{Predicate}
use Rattle.irtext_arith.specs.declared.attributes.ArithAttr.{ArithAttr}
use Rattle.irtext_arith.specs.declared.attributes.ArithAttr.TheVariants as attr

-- what `arith.value` holds, if it is one: number, of_type
abbrev pub as_value : {T : Type 0} → ArithAttr T → Option (ℤ × T)
as_value (attr.Value x) = Some (x.inside.first.value, x.inside.second.value)
as_value _ = None

-- what `arith.predicate` holds, if it is one: predicate
abbrev pub as_compares : {T : Type 0} → ArithAttr T → Option Predicate
as_compares (attr.Compares x) = Some x
as_compares _ = None

-- what `arith.overflow` holds, if it is one: is_nsw, is_nuw
abbrev pub as_overflow : {T : Type 0} → ArithAttr T → Option (Bool × Bool)
as_overflow (attr.Overflow x) = Some (x.inside.first, x.inside.second)
as_overflow _ = None

-- what `arith.align` holds, if it is one: bytes
abbrev pub as_align : {T : Type 0} → ArithAttr T → Option ℕ
as_align (attr.Align x) = Some x.value
as_align _ = None

-- what `arith.doc` holds, if it is one: text
abbrev pub as_doc : {T : Type 0} → ArithAttr T → Option Text
as_doc (attr.Doc x) = Some x.characters
as_doc _ = None

-- For callers: the texts of an operation's parts: its header, the header with a type, and its only region.
use Rattle.std.specs.Prelude.{◌≡◌, ◌⊎◌, ℕ, Bool, List, [], ◌∷◌, ◌++◌, Option, Some, None, IsSomeAnd, codes, string_bytes, ⊤}
use Rattle.std.specs.Option.{option_map, option_and_then}
use Rattle.std.specs.Str.{encode_utf8_all}
use Rattle.std.specs.declared.string.String.{String}
use Rattle.std.specs.declared.alloc.Global.{Global}
use Rattle.irtext_base.specs.Causes.{id_text}
use Rattle.irtext_base.specs.declared.text.AttrText as attr_text
use Rattle.irtext_base.specs.declared.text.IrText as ir_text
use Rattle.irtext_context.specs.Context.{ContextView, OperationView, operation}
use Rattle.irtext_base.specs.Text.{Text}
use Rattle.irtext_graph.specs.Parts.{regions}
use Rattle.irtext_graph.specs.declared.arena.Ptr.{Ptr}
use Rattle.irtext_graph.specs.declared.object.Operation.{Operation}
use Rattle.irtext_graph.specs.declared.object.Region.{Region}
use Rattle.irtext_print.specs.Printers.PieceText.{symbol_name}
use Rattle.irtext_print.specs.Printers.Shown.{Shown}
use Rattle.irtext_grammar.specs.Contexts.Held.{entries_of}
use Rattle.irtext_print.specs.Refusals.{IsOther}
use Rattle.irtext_print.specs.declared.printable.refusal.Refusal.{Refusal}
use Rattle.irtext_print.specs.declared.printable.refusal.Refusal.TheVariants.{Memory, Depth, Misfit}
use Rattle.irtext_print_ir.specs.Printers.Printed.{PrintsRegion, region_gives}
use Rattle.irtext_print_ops.specs.Heads as heads

module _ {T A : Type 0} where
  -- an operation's id, and `@` with its symbol's name, if it has one
  abbrev pub header_of : OperationView T A → Option Text
  header_of op = option_map (λ name. id_text op.id ++ (codes " @" ++ name)) (symbol_name (entries_of op.attributes))

  -- the same with a type's text after `: `
  abbrev pub typed_header_of : Text → OperationView T A → Option Text
  typed_header_of ty op = option_map (λ header. header ++ (codes ": " ++ ty)) (header_of op)

  -- what is appended for the operation that the pointer refers to, if it has this text; the state is unchanged
  abbrev pub printed_part : {U : Type 0} → (OperationView T A → Option Text) → ContextView T A → Ptr Operation → Shown U → Option (List ℕ × Shown U)
  printed_part part ctx p s = option_map (λ t. (encode_utf8_all t, s)) (option_and_then part (operation ctx p))

  -- the reason of an error when a part is printed: out of memory is possible at any time; `Misfit` only if the operation has no such
  -- part
  abbrev pub RefusesPart : (OperationView T A → Option Text) → ContextView T A → Ptr Operation → Refusal → Type 0
  RefusesPart part ctx p (Memory e) = ⊤
  RefusesPart part ctx p Depth = ⊥
  RefusesPart part ctx p Misfit = option_and_then part (operation ctx p) ≡ None

-- a part of a live operation was appended, and so the operation has it
pub record PartWritten {T A : Type 0} (part : OperationView T A → Option Text) (ctx : ContextView T A) (p : Ptr Operation) (old new : List ℕ) : Type 0 where
  pub view : OperationView T A
  pub alive : operation ctx p ≡ Some view
  pub text : IsSomeAnd (part view) (λ text. new ≡ old ++ encode_utf8_all text)

-- the same, and the state is unchanged
pub record PartPrinted {T A U : Type 0} (part : OperationView T A → Option Text) (ctx : ContextView T A) (p : Ptr Operation) (s : Shown U) (old : List ℕ) (t : Shown U) (new : List ℕ) : Type 0 where
  pub written : PartWritten part ctx p old new
  pub state : t ≡ s

-- the same for the bytes of strings
abbrev pub WritesPart : {T A : Type 0} → (OperationView T A → Option Text) → ContextView T A → Ptr Operation → String Global → String Global → Type 0
WritesPart part ctx p old new = PartWritten part ctx p (string_bytes old) (string_bytes new)

-- the same for the bytes of strings, and the state is unchanged
abbrev pub PrintsPart : {T A U : Type 0} → (OperationView T A → Option Text) → ContextView T A → Ptr Operation → Shown U → String Global → Shown U → String Global → Type 0
PrintsPart part ctx p s old t new = PartPrinted part ctx p s (string_bytes old) t (string_bytes new)

-- the only region of a list, if it has exactly one
abbrev pub sole : List (Ptr Region) → Option (Ptr Region)
sole (r ∷ []) = Some r
sole _ = None

-- the only region of an operation, if it has exactly one
abbrev pub sole_region : {T A : Type 0} → ContextView T A → Ptr Operation → Option (Ptr Region)
sole_region ctx p = sole (regions ctx.graph p)

module _ {T A : Type 0} (types : ir_text.Ghosts T A) (owns : ir_text.Ghosts A A) (attributes : attr_text.Ghosts A A) (same : A → A → Bool) (ctx : ContextView T A) (p : Ptr Operation) where
  -- what is appended for the only region of an operation, and the state after that
  abbrev pub one_gives : {U : Type 0} → Shown U → Option (List ℕ × Shown U)
  one_gives s = option_and_then (λ r. region_gives types owns attributes same ctx r s) (sole_region ctx p)

  -- the only region of an operation was printed, and so the operation has it
  abbrev pub PrintsOne : {U : Type 0} → Shown U → String Global → Shown U → String Global → Type 0
  PrintsOne s old t new = (r : Ptr Region) × (sole_region ctx p ≡ Some r) × PrintsRegion types owns attributes same ctx r s old t new

  -- the reason of an error when it is printed: out of memory is possible at any time; otherwise there is no such region, or printing
  -- the region fails with this reason
  abbrev pub RefusesOne : {U : Type 0} → Shown U → Refusal → Type 0
  RefusesOne s e = IsOther e → ((e ≡ Misfit) × (sole_region ctx p ≡ None)) ⊎ ((r : Ptr Region) × (sole_region ctx p ≡ Some r) × heads.RegionFaultUnder types owns attributes same ctx r s e)

-- The parts of an operation, as printers write them.
use Rattle.std.proofs.Common.{◌≡◌, ◌++◌, ◌∙◌, List, [], ◌∷◌, ℕ, length, refl, sym, ap, subst, arith, Option, Some, None, IsSomeAnd, codes, slice_get}
use Rattle.std.specs.Option.{option_map, option_and_then}
use Rattle.std.specs.Str.{encode_utf8_all}
use Rattle.irtext_base.specs.Causes.{id_text}
use Rattle.irtext_context.specs.Context.{ContextView, OperationView}
use Rattle.irtext_base.specs.Text.{Text}
use Rattle.irtext_graph.specs.declared.arena.Ptr.{Ptr}
use Rattle.irtext_base.specs.declared.base.attributes.AttrObj.{AttrObj}
use Rattle.irtext_base.specs.declared.base.identifier.OpId.{OpId}
use Rattle.irtext_graph.specs.declared.object.Operation.{Operation}
use Rattle.irtext_print_ir.specs.Printers.OpPrinters.{PartPrinted, header_of, typed_header_of, printed_part, sole}
use Rattle.irtext_print.specs.Printers.PieceText.{symbol_name}
use Rattle.irtext_print.specs.Printers.Shown.{Shown}
use Rattle.irtext_grammar.specs.Contexts.Held.{entries_of}
use Rattle.irtext_print.specs.Printers.Appended.{Writes}
use Rattle.irtext_print.proofs.Printers.Locations.{more, worded}
use Rattle.irtext_graph.specs.declared.object.Region.{Region}

module _ {T A : Type 0} where
  -- a header is appended
  pub header_appended : (op : OperationView T A) (id : OpId) (es : List (Text × AttrObj A)) (name : Text) (old mid new : List ℕ) → op.id ≡ id → op.attributes ≡ es → symbol_name (entries_of es) ≡ Some name
      → mid ≡ old ++ encode_utf8_all (id_text id) → new ≡ mid ++ encode_utf8_all (codes " @" ++ name) → IsSomeAnd (header_of op) (λ t. new ≡ old ++ encode_utf8_all t)
  header_appended op id es name old mid new i a found p q =
      let is : header_of op ≡ Some (id_text id ++ (codes " @" ++ name))
      = ap (λ es. option_map (λ name. id_text op.id ++ (codes " @" ++ name)) (symbol_name (entries_of es))) a
      ∙ ap (option_map (λ name. id_text op.id ++ (codes " @" ++ name))) found ∙ ap (λ i. Some (id_text i ++ (codes " @" ++ name))) i in
      subst (λ o. IsSomeAnd o (λ t. new ≡ old ++ encode_utf8_all t)) (sym is) (more old mid new (id_text id) (codes " @" ++ name) p q)

  -- a type is appended after a header
  pub typed_appended : (op : OperationView T A) (ty : Text) (old mid between new : List ℕ) → IsSomeAnd (header_of op) (λ t. mid ≡ old ++ encode_utf8_all t) → between ≡ mid ++ codes ": " → new ≡ between ++ encode_utf8_all ty
      → IsSomeAnd (typed_header_of ty op) (λ t. new ≡ old ++ encode_utf8_all t)
  typed_appended op ty old mid between new h p q = go (header_of op) h
    where
      go : (o : Option Text) → IsSomeAnd o (λ t. mid ≡ old ++ encode_utf8_all t) → IsSomeAnd (option_map (λ header. header ++ (codes ": " ++ ty)) o) (λ t. new ≡ old ++ encode_utf8_all t)
      go None h = h
      go (Some t) h = more old mid new t (codes ": " ++ ty) h (worded mid between new (codes ": ") ty refl p q)

  module _ {U : Type 0} (s after : Shown U) (old new : List ℕ) (ctx : ContextView T A) (p : Ptr Operation) where
    -- a part that was printed is the text that is claimed
    pub part_writes : (part : OperationView T A → Option Text) → PartPrinted part ctx p s old after new → Writes (printed_part part ctx p s) after old new
    part_writes part r = subst (λ o. Writes (option_map (λ t. (encode_utf8_all t, s)) (option_and_then part o)) after old new) (sym r.written.alive) (go (part r.written.view) r.written.text)
      where
        go : (o : Option Text) → IsSomeAnd o (λ t. new ≡ old ++ encode_utf8_all t) → Writes (option_map (λ t. (encode_utf8_all t, s)) o) after old new
        go None h = tt
        go (Some t) h = record { text = h; state = r.state }

-- the region at the first place of one
pub sole_at : (rs : List (Ptr Region)) (r : Ptr Region) → length rs ≡ 1 → slice_get rs 0 ≡ Some r → sole rs ≡ Some r
sole_at [] r one at = absurd (omega (arith, one))
sole_at (q ∷ []) r one at = at
sole_at (q ∷ (x ∷ rs)) r one at = absurd (omega (arith, one))

-- there is no sole region if there are more or fewer than one
pub sole_none : (rs : List (Ptr Region)) → (length rs ≡ 1 → ⊥) → sole rs ≡ None
sole_none [] h = refl
sole_none (q ∷ []) h = absurd (h refl)
sole_none (q ∷ (x ∷ rs)) h = refl

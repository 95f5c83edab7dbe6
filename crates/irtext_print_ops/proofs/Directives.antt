-- The directives of a live operation, and the parts that they write.
use Rattle.std.proofs.Common.{◌≡◌, ◌+◌, ℕ, zero, suc, List, [], ◌∷◌, ◌++◌, map, drop, Option, Some, None, Bool, true, false, true≢false, not, refl, sym, ap, ◌∙◌, filter_map, append-nil}
use Rattle.std.specs.Borrow.{Bor}
use Rattle.std.specs.Prelude.{⊤, option_map, is_some}
use Rattle.std.specs.List.{cons_option}
use Rattle.std.specs.Str.{encode_utf8_all}
use Rattle.irtext_base.specs.Faults.{id_of}
use Rattle.irtext_base.specs.Format as format
use Rattle.irtext_base.specs.Format.{Format, Directive}
use Rattle.irtext_base.specs.Own.{Language}
use Rattle.irtext_base.specs.declared.base.identifier.OpId.{OpId}
use Rattle.irtext_base.specs.declared.format.Directive as code
use Rattle.irtext_context.specs.Context.{ContextView, OperationView}
use Rattle.irtext_base.specs.FormatViews.{directive_of, directives_of}
use Rattle.irtext_graph.proofs.Nests.{some_eq}
use Rattle.irtext_graph.specs.declared.arena.Ptr.{Ptr}
use Rattle.irtext_graph.specs.declared.object.Operation.{Operation}
use Rattle.irtext_grammar.specs.Contexts.Nested.{seen_operation}
use Rattle.irtext_grammar.specs.Grammar.Tree.{Part}
use Rattle.irtext_grammar.specs.Graphs.Closed.{FitsFormat}
use Rattle.irtext_grammar.specs.Graphs.Graph.{Printing, GraphOp}
use Rattle.irtext_print_ops.specs.Steps.{custom_directives}
use Rattle.irtext_print_ops.specs.Walk.{is_canonical, AreDirectives, directives_in, or_nothing, part_at, parts_left, pieces_text}

drop_mapped : {X Y : Type 0} (f : X → Y) (k : ℕ) (xs : List X) → drop k (map f xs) ≡ map f (drop k xs)
drop_mapped f zero xs = refl
drop_mapped f (suc k) [] = refl
drop_mapped f (suc k) (x ∷ xs) = drop_mapped f k xs

-- the id of an operation as printing sees it
pub seen_id : {T A : Type 0} (written : A → List ℕ) (ctx : ContextView T A) (p : Ptr Operation) (o : Option (OperationView T A)) (id : OpId) → option_map (λ op. op.id) o ≡ Some id →
    (or_nothing (option_map (seen_operation written ctx p) o)).id ≡ id_of id
seen_id written ctx p None id e = absurd (cc)
seen_id written ctx p (Some op) id e = ap id_of (some_eq e)

-- the directives that were found
pub directives_found : (form : Option Format) (ds : List Directive) → Some ds ≡ custom_directives form → directives_in form ≡ ds
directives_found None ds e = absurd (cc)
directives_found (Some format.canonical) ds e = absurd (cc)
directives_found (Some (format.custom es)) ds e = some_eq (sym e)

-- an operation that fits is written as any operation can be where no directives were found
pub repeats_as : {T A : Type 0} (C : Printing T A) (scoped : format.Id → Bool) (o : GraphOp T A) (n : ℕ) (found : Option (Bor (List code.Directive))) (b : Bool) → is_some found ≡ not b → AreDirectives C o found →
    FitsFormat C scoped (C.format_of o.id) o n → b ≡ is_canonical (C.format_of o.id)
repeats_as C scoped o n found b e known fits = go (C.format_of o.id) found b e known fits
  where
    go : (form : Option Format) (found : Option (Bor (List code.Directive))) (b : Bool) → is_some found ≡ not b → option_map (λ ds. directives_of ds.now) found ≡ custom_directives form → FitsFormat C scoped form o n → b ≡ is_canonical form
    go None found b e known fits = absurd fits
    go (Some format.canonical) None true e known fits = refl
    go (Some format.canonical) None false e known fits = absurd (true≢false (sym e))
    go (Some format.canonical) (Some ds) b e known fits = absurd (cc)
    go (Some (format.custom ds)) None b e known fits = absurd (cc)
    go (Some (format.custom ds)) (Some es) true e known fits = absurd (true≢false e)
    go (Some (format.custom ds)) (Some es) false e known fits = refl

module _ {T A : Type 0} (C : Printing T A) (o : GraphOp T A) (items : List code.Directive) where
  -- the part of the next directive, and those after it
  pub parts_step : (at : ℕ) (x : code.Directive) → directives_in (C.format_of o.id) ≡ directives_of items → drop at items ≡ x ∷ drop (at + 1) items →
      parts_left C o at ≡ cons_option (part_at C o (directive_of x)) (parts_left C o (at + 1))
  parts_step at x e d =
      ap (λ z. filter_map (part_at C o) (drop at z)) e
      ∙ (ap (filter_map (part_at C o)) (drop_mapped directive_of at items)
      ∙ (ap (λ z. filter_map (part_at C o) (map directive_of z)) d
      ∙ ap (λ z. cons_option (part_at C o (directive_of x)) (filter_map (part_at C o) z)) (sym (ap (drop (at + 1)) e ∙ drop_mapped directive_of (at + 1) items))))

-- all pieces are written if no piece is left before the next region
pub all_written : {T A : Type 0} (L : Language ⊤ T A) (ps qs : List (Part ⊤ T A)) (now whole : List ℕ) → ps ≡ qs → pieces_text L qs ≡ [] → now ++ encode_utf8_all (pieces_text L ps) ≡ whole → now ≡ whole
all_written L ps qs now whole e n h = sym (append-nil now) ∙ (ap (λ z. now ++ encode_utf8_all z) (sym (ap (pieces_text L) e ∙ n)) ∙ h)

-- What a directive writes, as the calls append it and as the definitions of printing have it.
use Rattle.std.proofs.Common.{◌≡◌, ◌∙◌, ◌++◌, ◌∷◌, ℕ, zero, suc, refl, sym, ap, true, cond, List, [], Option, Some, None, IsSome, IfSome, OnOk, Result, map, drop, slice_get, filter_map}
use Rattle.std.specs.List.{list_all, cons_option}
use Rattle.std.specs.Option.{option_map, option_and_then}
use Rattle.std.specs.Prelude.{⊤}
use Rattle.std.specs.Str.{encode_utf8_all}
use Rattle.std.proofs.lemmas.List.{append-nil}
use Rattle.irtext_base.specs.Format as format
use Rattle.irtext_base.specs.Format.{Directive, sym_name_key}
use Rattle.irtext_base.specs.Own.{Language}
use Rattle.irtext_base.specs.Text.{Text}
use Rattle.irtext_base.specs.declared.base.attributes.AttrObj.{AttrObj}
use Rattle.irtext_base.specs.declared.format.Directive as code
use Rattle.irtext_context.specs.Context.{ContextView, OperationView, operation}
use Rattle.irtext_base.specs.FormatViews.{directive_of}
use Rattle.irtext_graph.specs.Content.{Typed}
use Rattle.irtext_graph.specs.Parts.{operands, successors, results, value_at, IsDefinedValue}
use Rattle.irtext_graph.specs.declared.arena.Ptr.{Ptr}
use Rattle.irtext_graph.specs.declared.object.BasicBlock.{BasicBlock}
use Rattle.irtext_graph.specs.declared.object.Operation.{Operation}
use Rattle.irtext_graph.specs.declared.object.Value.{Value}
use Rattle.irtext_grammar.specs.Contexts.Held.{known_types, entries_of}
use Rattle.irtext_grammar.specs.Contexts.Nested.{number_of, place_of, typed_number, seen_operation, seen_own}
use Rattle.irtext_grammar.specs.Grammar.Tree as tree
use Rattle.irtext_grammar.specs.Grammar.Tree.{Attribute, ident, Name, Part}
use Rattle.irtext_grammar.specs.Graphs.Graph.{GraphOp, Printing, lookup, outlined, part_of}
use Rattle.irtext_grammar.specs.Spelling.Spell as spell
use Rattle.irtext_grammar.specs.Spelling.Spell.{parts, piece, space, joined, comma}
use Rattle.irtext_print.specs.Printers.PieceText.{directive_text, spaced, spaced_if}
use Rattle.irtext_print.specs.Printers.PrintedOperation.{is_supported}
use Rattle.irtext_print.proofs.Printers.Appended.{then}
use Rattle.irtext_print.proofs.Printers.OperationTexts.{parts_text, seen}
use Rattle.irtext_print_ops.specs.Listed.{typed_text, facet_text}
use Rattle.irtext_print_ops.specs.Names.{name_of, operand_text, block_text, label_text}
use Rattle.irtext_print_ops.specs.Written.{part_text}
use Rattle.irtext_print_ops.specs.declared.lists.Facet.TheVariants as facet
use Rattle.irtext_print_ops.proofs.LiveViews.{for_seen}
use Rattle.irtext_print_ops.proofs.ListTexts.{texts_after, at_index, all_texts}

-- all that an operation uses is there
pub record UsesDefined {T A : Type 0} (ctx : ContextView T A) (p : Ptr Operation) : Type 0 where
  pub at : (i : ℕ) (v : Value) → slice_get (operands ctx.graph p) i ≡ Some v → IsSome (number_of ctx v)

module _ {T A : Type 0} (L : Language ⊤ T A) where
  -- what is no region
  abbrev IsPiece : Option (Part ⊤ T A) → Type 0
  IsPiece None = Unit {0}
  IsPiece (Some (tree.piece p)) = Unit {0}
  IsPiece (Some (tree.region i)) = ⊥
  IsPiece (Some tree.regions) = ⊥

  alone : (x : Option (Part ⊤ T A)) → IsPiece x → parts L (cons_option x []) [] ≡ part_text L x
  alone None h = refl
  alone (Some (tree.piece p)) h = ap (λ z. space L p ++ z) (append-nil (piece L p))
  alone (Some (tree.region i)) h = absurd h
  alone (Some tree.regions) h = absurd h

  module _ (C : Printing T A) (ds : List Directive) (o : GraphOp T A) where
    -- what a directive writes that names no value, no block and no type
    plain : (d : Directive) → IsPiece (part_of C ds o d) → list_all is_supported (d ∷ []) ≡ true
        → directive_text L.owns.written C.own_outlined ds o.attributes [] 0 d ≡ part_text L (part_of C ds o d)
    plain d p s = sym (append-nil (directive_text L.owns.written C.own_outlined ds o.attributes [] 0 d)) ∙ sym (parts_text L C o ds [] (d ∷ []) 0 s) ∙ alone (part_of C ds o d) p

    pub word_is : (s : Text) → directive_text L.owns.written C.own_outlined ds o.attributes [] 0 (format.word s) ≡ part_text L (part_of C ds o (format.word s))
    word_is s = refl

    pub attribute_is : (k : Text) → directive_text L.owns.written C.own_outlined ds o.attributes [] 0 (format.attribute k) ≡ part_text L (part_of C ds o (format.attribute k))
    attribute_is k = plain (format.attribute k) (go (lookup k o.attributes)) refl
      where
        go : (x : Option (Attribute A)) → IsPiece (option_map (λ a. tree.piece (tree.attribute k (cond (outlined C a) None (Some a)))) x)
        go None = tt
        go (Some a) = tt

    pub dictionary_is : directive_text L.owns.written C.own_outlined ds o.attributes [] 0 format.dictionary ≡ part_text L (part_of C ds o format.dictionary)
    dictionary_is = plain format.dictionary tt refl

    pub header_is : directive_text L.owns.written C.own_outlined ds o.attributes [] 0 format.header ≡ part_text L (part_of C ds o format.header)
    header_is = plain format.header (go (lookup sym_name_key o.attributes)) refl
      where
        go : (x : Option (Attribute A)) → IsPiece (option_and_then (λ a. elim a [ ident n ↦ Some (tree.piece (tree.header (record { place = tt; text = n }))) | _ ↦ None ]) x)
        go None = tt
        go (Some (ident name)) = tt
        go (Some _) = tt

  module _ (ctx : ContextView T A) (p : Ptr Operation) where
    operand_here : (i : ℕ) (x : Option Value) → spaced_if (option_and_then (operand_text ctx) x) ≡ part_text L (option_map (λ n. tree.piece (tree.operand i (record { place = tt; text = name_of ctx n }))) (option_and_then (number_of ctx) x))
    operand_here i None = refl
    operand_here i (Some v) = go (number_of ctx v)
      where
        go : (o : Option ℕ) → spaced_if (option_map (name_of ctx) o) ≡ part_text L (option_map (λ n. tree.piece (tree.operand i (record { place = tt; text = name_of ctx n }))) o)
        go None = refl
        go (Some n) = refl

    -- the operand at an index
    pub operand_is : UsesDefined ctx p → (i : ℕ) → spaced_if (option_and_then (λ t. t) (slice_get (map (operand_text ctx) (operands ctx.graph p)) i))
        ≡ part_text L (option_map (λ n. tree.piece (tree.operand i (record { place = tt; text = name_of ctx n }))) (slice_get (filter_map (number_of ctx) (operands ctx.graph p)) i))
    operand_is uses_present i =
        ap spaced_if (sym (found_all (operand_text ctx) (operands ctx.graph p) i)) ∙ operand_here i (slice_get (operands ctx.graph p) i)
        ∙ ap (λ x. part_text L (option_map (λ n. tree.piece (tree.operand i (record { place = tt; text = name_of ctx n }))) x)) (sym (at_index (number_of ctx) (operands ctx.graph p) uses_present.at i))
      where
        found_all : (f : Value → Option Text) (xs : List Value) (i : ℕ) → option_and_then f (slice_get xs i) ≡ option_and_then (λ t. t) (slice_get (map f xs) i)
        found_all f [] i = refl
        found_all f (x ∷ xs) zero = refl
        found_all f (x ∷ xs) (suc i) = found_all f xs i

    -- the operands from an index on
    pub operands_are : UsesDefined ctx p → (k : ℕ) → spaced (joined comma (known_types (drop k (map (operand_text ctx) (operands ctx.graph p)))))
        ≡ part_text L (Some (tree.piece (tree.operands (map (λ n. record { place = tt; text = name_of ctx n }) (drop k (filter_map (number_of ctx) (operands ctx.graph p)))))))
    operands_are uses_present k = ap (λ z. spaced (joined comma z)) (sym (texts_after (number_of ctx) (λ n. record { place = tt; text = name_of ctx n }) (λ (n : Name ⊤). n.text) (operands ctx.graph p) uses_present.at k))

    -- the successor at an index
    pub successor_is : (i : ℕ) → spaced_if (option_and_then (λ t. t) (slice_get (map (λ b. Some (label_text ctx b)) (successors ctx.graph p)) i))
        ≡ part_text L (option_map (λ b. tree.piece (tree.successor i (record { place = tt; text = block_text ctx b }))) (slice_get (map (place_of ctx) (successors ctx.graph p)) i))
    successor_is i = go (successors ctx.graph p) i
      where
        go : (xs : List (Ptr BasicBlock)) (j : ℕ) → spaced_if (option_and_then (λ t. t) (slice_get (map (λ b. Some (label_text ctx b)) xs) j))
            ≡ part_text L (option_map (λ b. tree.piece (tree.successor i (record { place = tt; text = block_text ctx b }))) (slice_get (map (place_of ctx) xs) j))
        go [] j = refl
        go (x ∷ xs) zero = refl
        go (x ∷ xs) (suc j) = go xs j

    -- the successors from an index on
    pub successors_are : (k : ℕ) → spaced (joined comma (known_types (drop k (map (λ b. Some (label_text ctx b)) (successors ctx.graph p)))))
        ≡ part_text L (Some (tree.piece (tree.successors (map (λ b. record { place = tt; text = block_text ctx b }) (drop k (map (place_of ctx) (successors ctx.graph p)))))))
    successors_are k = ap (λ z. spaced (joined comma z)) (sym (all_texts (place_of ctx) (λ b. record { place = tt; text = block_text ctx b }) (spell.label L) (successors ctx.graph p) k))

    -- the type at an index among the results that have one
    pub type_is : (i : ℕ) → spaced_if (slice_get (known_types (map (typed_text L.types.written ctx facet.Type) (results ctx.graph p))) i)
        ≡ part_text L (option_map (λ r. tree.piece (tree.result_type i r.1)) (slice_get (filter_map typed_number (results ctx.graph p)) i))
    type_is i = go (results ctx.graph p) i
      where
        inner : (n : ℕ) (o : Option T) (xs : List (Typed (Option T))) (j : ℕ)
            → ((k : ℕ) → spaced_if (slice_get (known_types (map (typed_text L.types.written ctx facet.Type) xs)) k) ≡ part_text L (option_map (λ r. tree.piece (tree.result_type i r.1)) (slice_get (filter_map typed_number xs) k)))
            → spaced_if (slice_get (known_types (option_map (facet_text L.types.written ctx facet.Type) (option_map (λ t. (n, t)) o) ∷ map (typed_text L.types.written ctx facet.Type) xs)) j)
            ≡ part_text L (option_map (λ r. tree.piece (tree.result_type i r.1)) (slice_get (cons_option (option_map (λ t. (n, t)) o) (filter_map typed_number xs)) j))
        inner n None xs j h = h j
        inner n (Some t) xs zero h = refl
        inner n (Some t) xs (suc j) h = h j

        go : (xs : List (Typed (Option T))) (j : ℕ) → spaced_if (slice_get (known_types (map (typed_text L.types.written ctx facet.Type) xs)) j) ≡ part_text L (option_map (λ r. tree.piece (tree.result_type i r.1)) (slice_get (filter_map typed_number xs) j))
        go [] j = refl
        go (x ∷ xs) j = inner x.number x.of_type xs j (λ k. go xs k)

module _ {T A : Type 0} (L : Language ⊤ T A) (C : Printing T A) (ds : List Directive) (written : A → Text) (ctx : ContextView T A) (p : Ptr Operation) where
  -- what a directive writes of the operation
  abbrev text_of : OperationView T A → Directive → Text
  text_of view d = part_text L (part_of C ds (seen_operation written ctx p view) d)

  -- what a directive writes of the operation was appended
  pub part_appended : {text : Text} {d e : code.Directive} (old new : List ℕ) → d ≡ e → new ≡ old ++ encode_utf8_all text → ((view : OperationView T A) → operation ctx p ≡ Some view → text ≡ text_of view (directive_of e))
      → IfSome (seen_own written ctx p) (λ o. new ≡ old ++ encode_utf8_all (part_text L (part_of C ds o (directive_of d))))
  part_appended {d = d} old new same written_so is = for_seen (operation ctx p) (seen_operation written ctx p) (λ o. new ≡ old ++ encode_utf8_all (part_text L (part_of C ds o (directive_of d))))
      (λ view here. written_so ∙ ap (λ t. old ++ encode_utf8_all t) (is view here ∙ ap (λ x. text_of view (directive_of x)) (sym same)))

  -- the same of a call that succeeded
  pub part_written : {X E : Type 0} {text : Text} {d e : code.Directive} (r : Result X E) (old new : List ℕ) → d ≡ e → OnOk r (new ≡ old ++ encode_utf8_all text)
      → ((view : OperationView T A) → operation ctx p ≡ Some view → text ≡ text_of view (directive_of e)) → OnOk r (IfSome (seen_own written ctx p) (λ o. new ≡ old ++ encode_utf8_all (part_text L (part_of C ds o (directive_of d)))))
  part_written r old new same written_so is = then r (λ w. part_appended old new same w is) written_so

  -- of the attributes that were looked up a directive writes what it writes of the operation's
  pub attributes_written : (d : Directive) (es : List (Text × AttrObj A)) → option_map (λ op. op.attributes) (operation ctx p) ≡ Some es → ((o : GraphOp T A) → directive_text L.owns.written C.own_outlined ds o.attributes [] 0 d ≡ part_text L (part_of C ds o d))
      → (view : OperationView T A) → operation ctx p ≡ Some view → directive_text L.owns.written C.own_outlined ds (entries_of es) [] 0 d ≡ text_of view d
  attributes_written d es found is view e = ap (λ z. directive_text L.owns.written C.own_outlined ds (entries_of z) [] 0 d) (sym (seen (λ op. op.attributes) (operation ctx p) view es e found)) ∙ is (seen_operation written ctx p view)

-- what an operation uses has a number
pub uses_defined : {T A : Type 0} (ctx : ContextView T A) (p : Ptr Operation) → ((i : ℕ) (v : Value) → slice_get (operands ctx.graph p) i ≡ Some v → IsDefinedValue ctx.graph v) → UsesDefined ctx p
uses_defined {T = T} {A = A} ctx p uses_present = record { at = λ i v e. go (value_at ctx.graph v) (uses_present i v e) }
  where
    go : (o : Option (Typed (Option T))) → IsSome o → IsSome (option_map (λ (t : Typed (Option T)). t.number) o)
    go None h = absurd (cc)
    go (Some t) h = refl

-- The canonical form, as it is appended and as the definitions of printing have it.
use Rattle.std.proofs.Common.{◌≡◌, ◌∙◌, ◌++◌, ◌∷◌, ℕ, refl, sym, ap, Bool, true, IfSome, option_map, List, [], map, filter, codes, filter_map}
use Rattle.std.proofs.lemmas.List.{append_assoc}
use Rattle.std.specs.Prelude.{⊤, Some}
use Rattle.std.specs.Str.{encode_utf8_all}
use Rattle.irtext_base.specs.Format as format
use Rattle.irtext_base.specs.Own.{Language}
use Rattle.irtext_base.specs.Text.{Text}
use Rattle.irtext_base.specs.declared.base.attributes.AttrObj.{AttrObj}
use Rattle.irtext_context.specs.Context.{ContextView, OperationView, operation}
use Rattle.irtext_graph.specs.Parts.{operands, successors, results}
use Rattle.irtext_graph.specs.declared.arena.Ptr.{Ptr}
use Rattle.irtext_graph.specs.declared.object.Operation.{Operation}
use Rattle.irtext_grammar.specs.Contexts.Held.{entries_of}
use Rattle.irtext_grammar.specs.Contexts.Nested.{number_of, place_of, type_of, typed_number, printing_over, seen_operation, seen_own}
use Rattle.irtext_grammar.specs.Grammar.Tree.{Attribute, Name}
use Rattle.irtext_grammar.specs.Graphs.Graph.{Printing, body_of, entries, inline}
use Rattle.irtext_grammar.specs.Spelling.Spell as spell
use Rattle.irtext_grammar.specs.Spelling.Spell.{entry, joined, comma}
use Rattle.irtext_print.specs.Printers.PieceText.{entry_text, rows_text, dictionary_entries, listed_text}
use Rattle.irtext_print.proofs.Printers.Locations.{more}
use Rattle.irtext_print.proofs.Printers.OperationTexts.{seen}
use Rattle.irtext_print_ops.specs.Opened.{body_front}
use Rattle.irtext_print_ops.specs.Listed.{list_text}
use Rattle.irtext_print_ops.specs.Names.{name_of, block_text}
use Rattle.irtext_print_ops.specs.declared.lists.Listed.TheVariants.{Operands, Successors, OperandTypes, ResultTypes}
use Rattle.irtext_print_ops.proofs.LiveViews.{for_seen}
use Rattle.irtext_print_ops.proofs.ListTexts.{texts_known, all_texts, types_known}

all_kept : {X : Type 0} (xs : List X) → filter (λ x. true) xs ≡ xs
all_kept [] = refl
all_kept (x ∷ xs) = ap (λ z. x ∷ z) (all_kept xs)

-- the parts, one after another
together : (a b r t u : Text) → (codes " (" ++ (a ++ (codes ") [" ++ (b ++ codes "] [")))) ++ (r ++ (codes "]: <(" ++ (t ++ (codes ") -> (" ++ (u ++ codes ")>")))))
    ≡ codes " (" ++ (a ++ (codes ") [" ++ (b ++ (codes "] " ++ ((codes "[" ++ (r ++ codes "]")) ++ (codes ": <(" ++ (t ++ (codes ") -> (" ++ (u ++ codes ")>")))))))))
together a b r t u = simp append_assoc

module _ {T A : Type 0} (L : Language ⊤ T A) (C : Printing T A) where
  -- the dictionary of all attributes that are not outlined
  pub rows_are : (es : List (Text × Attribute A)) → rows_text L.owns.written (dictionary_entries C.own_outlined [] es) ≡ joined comma (map (entry L) (entries C (inline C es)))
  rows_are es = ap (λ z. joined comma (map (entry_text L.owns.written) z)) (all_kept (inline C es)) ∙ ap (joined comma) (go (inline C es))
    where
      go : (es : List (Text × Attribute A)) → map (entry_text L.owns.written) es ≡ map (entry L) (entries C es)
      go [] = refl
      go (e ∷ es) = ap (λ z. entry_text L.owns.written e ∷ z) (go es)

module _ {T A : Type 0} (L : Language ⊤ T A) (outlined once : A → Bool) (same : A → A → Bool) (written : A → Text) (ctx : ContextView T A) (p : Ptr Operation) where
  -- what printing requires of this context
  abbrev printing : Printing T A
  printing = printing_over ctx outlined once same

  -- what is appended, with these entries
  abbrev appended : List (Text × AttrObj A) → Text
  appended es =
      (codes " (" ++ (list_text L.types.written ctx (Operands p) 0 ++ (codes ") [" ++ (list_text L.types.written ctx (Successors p) 0 ++ codes "] ["))))
      ++ (listed_text L.owns.written outlined [] (entries_of es)
      ++ (codes "]: <(" ++ (list_text L.types.written ctx (OperandTypes p) 0 ++ (codes ") -> (" ++ (list_text L.types.written ctx (ResultTypes p) 0 ++ codes ")>")))))

  -- what follows the id, of these texts
  abbrev whole : Text → Text → Text → Text → Text → Text
  whole a b r t u = codes " (" ++ (a ++ (codes ") [" ++ (b ++ (codes "] " ++ ((codes "[" ++ (r ++ codes "]")) ++ (codes ": <(" ++ (t ++ (codes ") -> (" ++ (u ++ codes ")>")))))))))

  abbrev names : Text
  names = joined comma (map (λ (n : Name ⊤). n.text) (map (λ n. record { place = tt; text = name_of ctx n }) (filter_map (number_of ctx) (operands ctx.graph p))))

  abbrev labels : Text
  labels = joined comma (map (spell.label L) (map (λ at. record { place = tt; text = block_text ctx at }) (map (place_of ctx) (successors ctx.graph p))))

  abbrev operand_types : Text
  operand_types = joined comma (map L.types.written (filter_map (type_of ctx) (filter_map (number_of ctx) (operands ctx.graph p))))

  front_is : (view : OperationView T A) → appended view.attributes ≡ body_front L (body_of printing (seen_operation written ctx p view) (Some format.canonical))
  front_is view =
      let a = list_text L.types.written ctx (Operands p) 0 in
      let b = list_text L.types.written ctx (Successors p) 0 in
      let t = list_text L.types.written ctx (OperandTypes p) 0 in
      let u = list_text L.types.written ctx (ResultTypes p) 0 in
      let es = entries_of view.attributes in
      let r = joined comma (map (entry L) (entries printing (inline printing es))) in
      ap (λ z. (codes " (" ++ (a ++ (codes ") [" ++ (b ++ codes "] [")))) ++ (z ++ (codes "]: <(" ++ (t ++ (codes ") -> (" ++ (u ++ codes ")>")))))) (rows_are L printing es)
      ∙ together a b r t u
      ∙ ap (λ z. whole z b r t u) (ap (joined comma) (sym (texts_known (number_of ctx) (λ n. record { place = tt; text = name_of ctx n }) (λ (n : Name ⊤). n.text) (operands ctx.graph p))))
      ∙ ap (λ z. whole names z r t u) (ap (joined comma) (sym (all_texts (place_of ctx) (λ at. record { place = tt; text = block_text ctx at }) (spell.label L) (successors ctx.graph p) 0)))
      ∙ ap (λ z. whole names labels r z u) (ap (joined comma) (sym (types_known (number_of ctx) (type_of ctx) L.types.written (operands ctx.graph p))))
      ∙ ap (λ z. whole names labels r operand_types z) (ap (joined comma) (sym (texts_known typed_number (λ (r : ℕ × T). r.1) L.types.written (results ctx.graph p))))

  -- it was appended in three steps
  pub front_appended : (es : List (Text × AttrObj A)) (old first second new : List ℕ) → option_map (λ op. op.attributes) (operation ctx p) ≡ Some es
      → first ≡ old ++ encode_utf8_all (codes " (" ++ (list_text L.types.written ctx (Operands p) 0 ++ (codes ") [" ++ (list_text L.types.written ctx (Successors p) 0 ++ codes "] ["))))
      → second ≡ first ++ encode_utf8_all (listed_text L.owns.written outlined [] (entries_of es))
      → new ≡ second ++ encode_utf8_all (codes "]: <(" ++ (list_text L.types.written ctx (OperandTypes p) 0 ++ (codes ") -> (" ++ (list_text L.types.written ctx (ResultTypes p) 0 ++ codes ")>"))))
      → IfSome (seen_own written ctx p) (λ o. new ≡ old ++ encode_utf8_all (body_front L (body_of printing o (Some format.canonical))))
  front_appended es old first second new has a b c =
      let uses = codes " (" ++ (list_text L.types.written ctx (Operands p) 0 ++ (codes ") [" ++ (list_text L.types.written ctx (Successors p) 0 ++ codes "] ["))) in
      let types = codes "]: <(" ++ (list_text L.types.written ctx (OperandTypes p) 0 ++ (codes ") -> (" ++ (list_text L.types.written ctx (ResultTypes p) 0 ++ codes ")>"))) in
      let dictionary = listed_text L.owns.written outlined [] (entries_of es) in
      for_seen (operation ctx p) (seen_operation written ctx p) (λ o. new ≡ old ++ encode_utf8_all (body_front L (body_of printing o (Some format.canonical))))
      (λ view e. more old first new uses (dictionary ++ types) a (more first second new dictionary types b c)
      ∙ ap (λ z. old ++ encode_utf8_all z) (ap appended (sym (seen (λ op. op.attributes) (operation ctx p) view es e has)) ∙ front_is view))

-- What precedes a block's operations, as it is appended and as the definitions of printing have it.
use Rattle.std.proofs.Common.{◌≡◌, ◌∙◌, ◌++◌, ◌||◌, ℕ, refl, sym, ap, Bool, true, false, cond, not, IfSome, option_map, None, Some, List, [], ◌∷◌, map, filter, codes}
use Rattle.std.proofs.lemmas.List.{append_assoc}
use Rattle.std.specs.List.{list_any}
use Rattle.std.specs.Prelude.{⊤}
use Rattle.std.specs.Str.{encode_utf8_all}
use Rattle.irtext_base.specs.Own.{Language}
use Rattle.irtext_base.specs.Text.{Text}
use Rattle.irtext_base.specs.declared.base.attributes.AttrObj.{AttrObj}
use Rattle.irtext_context.specs.Context.{ContextView, BlockView, block}
use Rattle.irtext_graph.specs.Parts.{arguments}
use Rattle.irtext_graph.specs.declared.arena.Ptr.{Ptr}
use Rattle.irtext_graph.specs.declared.object.BasicBlock.{BasicBlock}
use Rattle.irtext_grammar.specs.Contexts.Held.{attribute_of, entries_of}
use Rattle.irtext_grammar.specs.Contexts.Nested.{typed_number, printing_over, seen_block, seen_head}
use Rattle.irtext_grammar.specs.Grammar.Tree.{Attribute}
use Rattle.irtext_grammar.specs.Graphs.Graph.{Printing, entries, inline, outlined, tree_head}
use Rattle.irtext_grammar.specs.Spelling.Spell.{entry, joined, comma, argument, dictionary_if}
use Rattle.irtext_print.specs.Printers.PieceText.{dictionary_text}
use Rattle.irtext_print.proofs.Printers.Locations.{more}
use Rattle.irtext_print.proofs.Printers.OperationTexts.{seen}
use Rattle.irtext_print_ops.specs.Opened.{block_head}
use Rattle.irtext_print_ops.specs.Inline.{inline_text}
use Rattle.irtext_print_ops.specs.Listed.{list_text}
use Rattle.irtext_print_ops.specs.Names.{name_of, label_text}
use Rattle.irtext_print_ops.specs.declared.lists.Listed.TheVariants.{Arguments}
use Rattle.irtext_print_ops.proofs.CanonicalTexts.{rows_are}
use Rattle.irtext_print_ops.proofs.ListTexts.{texts_known}
use Rattle.irtext_print_ops.proofs.LiveViews.{for_seen}

-- there are some
abbrev some_of : {X : Type 0} → List X → Bool
some_of [] = false
some_of (x ∷ xs) = true

-- a value passes a test where some are kept
kept : {X : Type 0} (test : X → Bool) (xs : List X) → list_any test xs ≡ some_of (filter test xs)
kept test [] = refl
kept test (x ∷ xs) = go (test x) (kept test xs)
  where
    go : (b : Bool) → list_any test xs ≡ some_of (filter test xs) → (b || list_any test xs) ≡ some_of (cond b (x ∷ filter test xs) (filter test xs))
    go true h = refl
    go false h = h

module _ {A : Type 0} (test : Text × Attribute A → Bool) (key : Text) (attr : AttrObj A) (es left : List (Text × AttrObj A)) (all : Bool) (is : left ≡ (key, attr) ∷ es) (h : list_any test (entries_of left) ≡ all) where
  any_at : (b : Bool) → test (key, attribute_of attr) ≡ b → (b || list_any test (entries_of es)) ≡ all
  any_at b e = ap (λ b. b || list_any test (entries_of es)) (sym e) ∙ ap (λ z. list_any test (entries_of z)) (sym is) ∙ h

  -- the first of these entries passes the test
  pub any_found : test (key, attribute_of attr) ≡ true → true ≡ all
  any_found e = any_at true e

  -- the first of these entries does not
  pub any_later : test (key, attribute_of attr) ≡ false → list_any test (entries_of es) ≡ all
  any_later e = any_at false e

module _ {T A : Type 0} (L : Language ⊤ T A) (C : Printing T A) where
  -- the dictionary of a block
  dictionary_is : (es : List (Text × Attribute A)) → inline_text C.own_outlined L.owns.written es ≡ dictionary_if L (elim (entries C (inline C es)) [ [] ↦ None | e ∷ es ↦ Some (e ∷ es) ])
  dictionary_is es =
      ap (λ b. cond b (dictionary_text L.owns.written C.own_outlined [] es) []) (kept (λ e. not (outlined C e.1)) es)
      ∙ ap (λ z. cond (some_of (inline C es)) (codes " [" ++ (z ++ codes "]")) []) (rows_are L C es)
      ∙ go (inline C es)
    where
      go : (es : List (Text × Attribute A)) → cond (some_of es) (codes " [" ++ (joined comma (map (entry L) (entries C es)) ++ codes "]")) [] ≡ dictionary_if L (elim (entries C es) [ [] ↦ None | e ∷ es ↦ Some (e ∷ es) ])
      go [] = refl
      go (e ∷ es) = refl

module _ {T A : Type 0} (L : Language ⊤ T A) (outlined_own once : A → Bool) (same : A → A → Bool) (written : A → Text) (ctx : ContextView T A) (b : Ptr BasicBlock) where
  -- what printing requires of this context
  abbrev printing : Printing T A
  printing = printing_over ctx outlined_own once same

  -- what is appended, with these entries
  abbrev appended : List (Text × AttrObj A) → Text
  appended es = label_text ctx b ++ ((codes "(" ++ (list_text L.types.written ctx (Arguments b) 0 ++ codes ")")) ++ inline_text outlined_own L.owns.written (entries_of es))

  together : (l a d : Text) → l ++ ((codes "(" ++ (a ++ codes ")")) ++ d) ≡ l ++ (codes "(" ++ (a ++ (codes ")" ++ d)))
  together l a d = ap (λ z. l ++ (codes "(" ++ z)) (append_assoc a (codes ")") d)

  head_is : (view : BlockView T A) → appended view.attributes ≡ block_head L (tree_head printing 0 (seen_block written ctx b view))
  head_is view =
      let a = list_text L.types.written ctx (Arguments b) 0 in
      let es = entries_of view.attributes in
      together (label_text ctx b) a (inline_text outlined_own L.owns.written es)
      ∙ ap (λ z. label_text ctx b ++ (codes "(" ++ (a ++ (codes ")" ++ z)))) (dictionary_is L printing es)
      ∙ ap (λ z. label_text ctx b ++ (codes "(" ++ (joined comma z ++ (codes ")" ++ dictionary_if L (elim (entries printing (inline printing es)) [ [] ↦ None | e ∷ es ↦ Some (e ∷ es) ])))))
      (sym (texts_known typed_number (λ (r : ℕ × T). (record { place = tt; text = name_of ctx r.0 }, r.1)) (argument L) (arguments ctx.graph b)))

  -- it was appended in three steps
  pub head_appended : (es : List (Text × AttrObj A)) (old first second new : List ℕ) → option_map (λ view. view.attributes) (block ctx b) ≡ Some es
      → first ≡ old ++ encode_utf8_all (label_text ctx b)
      → second ≡ first ++ encode_utf8_all (codes "(" ++ (list_text L.types.written ctx (Arguments b) 0 ++ codes ")"))
      → new ≡ second ++ encode_utf8_all (inline_text outlined_own L.owns.written (entries_of es))
      → IfSome (seen_head written ctx b) (λ h. new ≡ old ++ encode_utf8_all (block_head L (tree_head printing 0 h)))
  head_appended es old first second new has p q r =
      let within = codes "(" ++ (list_text L.types.written ctx (Arguments b) 0 ++ codes ")") in
      let dictionary = inline_text outlined_own L.owns.written (entries_of es) in
      for_seen (block ctx b) (seen_block written ctx b) (λ h. new ≡ old ++ encode_utf8_all (block_head L (tree_head printing 0 h)))
      (λ view e. more old first new (label_text ctx b) (within ++ dictionary) p (more first second new within dictionary q r)
      ∙ ap (λ z. old ++ encode_utf8_all z) (ap appended (sym (seen (λ view. view.attributes) (block ctx b) view es e has)) ∙ head_is view))

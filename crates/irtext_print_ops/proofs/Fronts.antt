-- What precedes an operation's parts, and what a directive writes, as they are appended and as the walk has them.
use Rattle.std.proofs.Common.{◌≡◌, ◌∙◌, ◌++◌, ℕ, refl, sym, ap, Bool, true, false, true≢false, not, List, [], map, option_map, Option, Some, None, is_none}
use Rattle.std.proofs.lemmas.List.{append-nil}
use Rattle.std.specs.Borrow.{Bor}
use Rattle.std.specs.Prelude.{⊤, is_some}
use Rattle.std.specs.Str.{encode_utf8_all}
use Rattle.irtext_base.specs.Causes.{id_text}
use Rattle.irtext_base.specs.Faults.{id_of}
use Rattle.irtext_base.specs.Format as format
use Rattle.irtext_base.specs.Format.{Format, Directive}
use Rattle.irtext_base.specs.Own.{Language}
use Rattle.irtext_base.specs.Text.{Text}
use Rattle.irtext_base.specs.declared.base.identifier.OpId.{OpId}
use Rattle.irtext_base.specs.declared.format.Directive as code
use Rattle.irtext_base.specs.FormatViews.{directives_of}
use Rattle.irtext_grammar.specs.Grammar.Tree as tree
use Rattle.irtext_grammar.specs.Grammar.Tree.{Part}
use Rattle.irtext_grammar.specs.Graphs.Graph.{GraphOp, Printing, body_of, part_of, tree_op, value}
use Rattle.irtext_grammar.specs.Spelling.Spell as spell
use Rattle.irtext_grammar.specs.Spelling.Spell.{results}
use Rattle.irtext_print.proofs.Printers.Locations.{more}
use Rattle.irtext_print_ops.specs.Opened.{body_front, operation_front}
use Rattle.irtext_print_ops.specs.Fits.{format_by}
use Rattle.irtext_print_ops.specs.Written as pieces
use Rattle.irtext_print_ops.specs.Steps.{custom_directives}
use Rattle.irtext_print_ops.specs.Walk as walk
use Rattle.irtext_print_ops.specs.Walk.{is_canonical, directives_in, part_at}

-- the format that is written as any operation can be
canonical_is : (form : Option Format) → is_canonical form ≡ true → form ≡ Some format.canonical
canonical_is None e = absurd (true≢false (sym e))
canonical_is (Some format.canonical) e = refl
canonical_is (Some (format.custom ds)) e = absurd (true≢false (sym e))

-- no directives were found, as the code says it
pub none_is : {X : Type 0} (o : Option X) (b : Bool) → is_some o ≡ not b → b ≡ is_none o
none_is None true e = refl
none_is None false e = absurd (true≢false (sym e))
none_is (Some x) true e = absurd (true≢false e)
none_is (Some x) false e = refl

-- the directives of a format that is known
pub directives_by : (form : Option Format) (found : Option (List Directive)) → form ≡ Some (format_by found) → found ≡ custom_directives form
directives_by form None e = ap custom_directives (sym e)
directives_by form (Some ds) e = ap custom_directives (sym e)

-- a format that is known is written as any operation can be where no directives were found
pub canonical_by : (form : Option Format) (found : Option (Bor (List code.Directive))) → form ≡ Some (format_by (option_map (λ ds. directives_of ds.now) found)) → is_none found ≡ is_canonical form
canonical_by form None e = ap is_canonical (sym e)
canonical_by form (Some ds) e = ap is_canonical (sym e)

module _ {T A : Type 0} (L : Language ⊤ T A) (C : Printing T A) (o : GraphOp T A) where
  -- nothing precedes the parts in a form that is not canonical
  no_front : (form : Option Format) → is_canonical form ≡ false → body_front L (body_of C o form) ≡ []
  no_front None e = refl
  no_front (Some format.canonical) e = absurd (true≢false e)
  no_front (Some (format.custom ds)) e = refl

  -- both crates have one text of a part
  same_text : (x : Option (Part ⊤ T A)) → pieces.part_text L x ≡ walk.part_text L x
  same_text None = refl
  same_text (Some (tree.piece p)) = refl
  same_text (Some (tree.region i)) = refl
  same_text (Some tree.regions) = refl

  -- what a directive writes was appended
  pub piece_written : (ds : List Directive) (d : Directive) (old new : List ℕ) → directives_in (C.format_of o.id) ≡ ds → new ≡ old ++ encode_utf8_all (pieces.part_text L (part_of C ds o d))
      → new ≡ old ++ encode_utf8_all (walk.part_text L (part_at C o d))
  piece_written ds d old new e p = p ∙ ap (λ z. old ++ encode_utf8_all (pieces.part_text L (part_of C z o d))) (sym e) ∙ ap (λ t. old ++ encode_utf8_all t) (same_text (part_at C o d))

  module _ (id : OpId) (named : o.id ≡ id_of id) (old first second : List ℕ) (defined : first ≡ old ++ encode_utf8_all (results L (map (λ r. value C r.0) o.results))) (called : second ≡ first ++ encode_utf8_all (id_text id)) where
    -- the names of its results
    abbrev names : Text
    names = results L (map (λ r. value C r.0) o.results)

    -- results and id alone
    pub front_custom : is_canonical (C.format_of o.id) ≡ false → second ≡ old ++ encode_utf8_all (operation_front L (tree_op C 0 o))
    front_custom e =
        more old first second names (id_text id) defined called
        ∙ ap (λ z. old ++ encode_utf8_all (names ++ z)) (sym (append-nil (id_text id)) ∙ ap (λ i. spell.id L i ++ []) (sym named) ∙ ap (λ z. spell.id L o.id ++ z) (sym (no_front (C.format_of o.id) e)))

    -- and what follows them in the canonical form
    pub front_canonical : (new : List ℕ) → is_canonical (C.format_of o.id) ≡ true → new ≡ second ++ encode_utf8_all (body_front L (body_of C o (Some format.canonical)))
        → new ≡ old ++ encode_utf8_all (operation_front L (tree_op C 0 o))
    front_canonical new e p =
        let body = body_front L (body_of C o (Some format.canonical)) in
        more old first new names (id_text id ++ body) defined (more first second new (id_text id) body called p)
        ∙ ap (λ z. old ++ encode_utf8_all (names ++ z)) (ap (λ i. spell.id L i ++ body) (sym named) ∙ ap (λ f. spell.id L o.id ++ body_front L (body_of C o f)) (sym (canonical_is (C.format_of o.id) e)))

-- The names of results, as they are appended and as the definitions of printing have them.
use Rattle.std.proofs.Common.{◌≡◌, ◌∙◌, ◌++◌, ◌∷◌, ℕ, refl, sym, ap, true≢false, false, List, [], Option, map, codes, filter_map}
use Rattle.std.specs.Prelude.{⊤}
use Rattle.std.specs.Str.{encode_utf8_all}
use Rattle.irtext_base.specs.Own.{Language}
use Rattle.irtext_base.specs.Text.{Text}
use Rattle.irtext_context.specs.Context.{ContextView}
use Rattle.irtext_graph.specs.Content.{Typed}
use Rattle.irtext_grammar.specs.Contexts.Held.{known_types}
use Rattle.irtext_grammar.specs.Contexts.Nested.{typed_number}
use Rattle.irtext_grammar.specs.Grammar.Tree.{Name}
use Rattle.irtext_grammar.specs.Spelling.Spell.{joined, comma, results}
use Rattle.irtext_print.proofs.Printers.Locations.{ending}
use Rattle.irtext_print_ops.specs.Listed.{are_none, defined_text, typed_text}
use Rattle.irtext_print_ops.specs.Names.{name_of}
use Rattle.irtext_print_ops.specs.declared.lists.Facet.TheVariants as facet
use Rattle.irtext_print_ops.proofs.ListTexts.{texts_known}

-- there are some
pub some_defined : (ts : List Text) (old mid new : List ℕ) → false ≡ are_none ts → mid ≡ old ++ encode_utf8_all (joined comma ts) → new ≡ mid ++ codes " = " → new ≡ old ++ encode_utf8_all (defined_text ts)
some_defined [] old mid new e p q = absurd (true≢false (sym e))
some_defined (t ∷ ts) old mid new e p q = ending old mid new (joined comma (t ∷ ts)) (codes " = ") refl p q

module _ {T A : Type 0} (L : Language ⊤ T A) (ctx : ContextView T A) where
  -- the names of the results whose types are known
  pub results_are : (xs : List (Typed (Option T))) → defined_text (known_types (map (typed_text L.types.written ctx facet.Name) xs)) ≡ results L (map (λ r. record { place = tt; text = name_of ctx r.0 }) (filter_map typed_number xs))
  results_are xs = ap defined_text (sym (texts_known typed_number (λ r. record { place = tt; text = name_of ctx r.0 }) (λ (n : Name ⊤). n.text) xs)) ∙ go (map (λ r. record { place = tt; text = name_of ctx r.0 }) (filter_map typed_number xs))
    where
      go : (ns : List (Name ⊤)) → defined_text (map (λ (n : Name ⊤). n.text) ns) ≡ results L ns
      go [] = refl
      go (n ∷ ns) = refl

-- What the section gives of an item, entry by entry of its dictionary.
use Rattle.std.proofs.Common.{◌≡◌, ◌∙◌, Bool, true, false, cond, List, ◌∷◌, ap, refl}
use Rattle.irtext_base.specs.Text.{Text}
use Rattle.irtext_base.specs.declared.base.attributes.AttrObj.{AttrObj}
use Rattle.irtext_base.specs.declared.base.attributes.AttrObj.TheVariants.{GivenNames, Ident, Own}
use Rattle.irtext_context.specs.Dictionary as dictionary
use Rattle.irtext_grammar.specs.Contexts.Held.{attribute_of, entries_of}
use Rattle.irtext_grammar.specs.Graphs.Graph.{outlined, outlined_entries}
use Rattle.irtext_print.specs.Printers.PieceText.{outlining}

-- an attribute is outlined by the definitions of printing where the dictionary has it so
pub outlined_same : {A : Type 0} (is_outlined : A → Bool) (attr : AttrObj A) → dictionary.is_outlined is_outlined attr ≡ outlined (outlining is_outlined) (attribute_of attr)
outlined_same is_outlined (GivenNames names) = refl
outlined_same is_outlined (Ident name) = refl
outlined_same is_outlined (Own a) = refl

module _ {A : Type 0} (is_outlined : A → Bool) (key : Text) (attr : AttrObj A) (rest left : List (Text × AttrObj A)) (steps : left ≡ (key, attr) ∷ rest) where
  -- an entry whose attribute is outlined is the first that the section gives
  pub outlined_found : outlined (outlining is_outlined) (attribute_of attr) ≡ true
      → outlined_entries (outlining is_outlined) (entries_of left) ≡ (key, attribute_of attr) ∷ outlined_entries (outlining is_outlined) (entries_of rest)
  outlined_found h =
      let more = outlined_entries (outlining is_outlined) (entries_of rest) in
      ap (λ z. outlined_entries (outlining is_outlined) (entries_of z)) steps ∙ ap (λ b. cond b ((key, attribute_of attr) ∷ more) more) h

  -- one whose attribute isn't is passed over
  pub outlined_passed : outlined (outlining is_outlined) (attribute_of attr) ≡ false
      → outlined_entries (outlining is_outlined) (entries_of left) ≡ outlined_entries (outlining is_outlined) (entries_of rest)
  outlined_passed h =
      let more = outlined_entries (outlining is_outlined) (entries_of rest) in
      ap (λ z. outlined_entries (outlining is_outlined) (entries_of z)) steps ∙ ap (λ b. cond b ((key, attribute_of attr) ∷ more) more) h

-- What entries that were parsed give their items is what those of the text give them.
use Rattle.std.proofs.Common.{◌≡◌, ◌∙◌, ℕ, ◌==◌, nat_eq, Bool, true, false, cond, List, [], ◌∷◌, ◌++◌, Option, Some, None, refl, sym, ap, ap₂, subst}
use Rattle.std.specs.Prelude.{flat_map}
use Rattle.std.specs.Map.{lookup}
use Rattle.std.specs.Option.{option_map}
use Rattle.irtext_base.specs.Text.{Text}
use Rattle.irtext_base.specs.Paths.{Written}
use Rattle.irtext_base.specs.declared.base.attributes.AttrObj.{AttrObj}
use Rattle.irtext_context.specs.Context.{ContextView, KeepsOlder}
use Rattle.irtext_context.specs.declared.base.item.Item.{Item}
use Rattle.irtext_parse_state.specs.States.{same_index}
use Rattle.irtext_grammar.specs.Contexts.Held.{attribute_of}
use Rattle.irtext_grammar.specs.Grammar.Section as section
use Rattle.irtext_grammar.specs.Grammar.Section.{Entry, of_item, of_once, direct, reference}
use Rattle.irtext_grammar.specs.Grammar.Tree.{Name, Attribute}
use Rattle.irtext_grammar.specs.Graphs.Build.{resolved}
use Rattle.irtext_grammar.specs.Names.Acts.{shared_attribute}
use Rattle.irtext_grammar.specs.Parsed.{Each}
use Rattle.irtext_grammar.specs.declared.parsed.Key.{Key}
use Rattle.irtext_parse_locations.specs.Applied.{under, stored_by, all_stored, Gives, GivesAll, AppliesAll, IsNewer, ItemsAreNewer, AreNewer}
use Rattle.irtext_parse_section.specs.Entries.{AreItems, AreOnce}
use Rattle.irtext_parse_section.specs.Said.{IsPair}
use Rattle.irtext_parse_locations.specs.declared.said.GivenAttr.{GivenAttr}
use Rattle.irtext_parse_locations.specs.declared.said.GivenAttr.TheVariants as given
use Rattle.irtext_parse_locations.specs.declared.said.ItemEntry.{ItemEntry}
use Rattle.irtext_parse_locations.proofs.GivenSteps.{newer_still}

under_shared : {A : Type 0} (k n : Text) (o : Option (Attribute A)) → k ≡ n → under k o ≡ elim o [ Some a ↦ (n, a) ∷ [] | None ↦ [] ]
under_shared k n None e = refl
under_shared k n (Some a) e = ap (λ k. (k, a) ∷ []) e

module _ {A X : Type 0} (text : Text) (once : List (ℕ × AttrObj A)) (all : List (Entry ℕ A X)) (h : AreOnce once all) where
  pair_stored : (p : Key × GivenAttr A) (x : Name ℕ × section.Item ℕ A) → IsPair text p x → stored_by once p ≡ resolved all x
  pair_stored (key, given.Direct a) (n, direct b) is = ap₂ (λ (k : Text) (a : Attribute A). (k, a) ∷ []) is.0.named is.1
  pair_stored (key, given.Direct a) (n, reference m) is = absurd is.1
  pair_stored (key, given.Reference r) (n, direct b) is = absurd is.1
  pair_stored (key, given.Reference r) (n, reference m) is =
      under_shared key.name n.text (option_map attribute_of (lookup (nat_eq r.index) once)) is.0.named
      ∙ ap (λ (o : Option (Attribute A)). elim o [ Some a ↦ (n.text, a) ∷ [] | None ↦ [] ]) (h r.index ∙ ap (λ i. shared_attribute i all) is.1.indexed)

  -- what pairs give
  pairs_stored : (ps : List (Key × GivenAttr A)) (xs : List (Name ℕ × section.Item ℕ A)) → Each (IsPair text) ps xs → all_stored once ps ≡ flat_map (resolved all) xs
  pairs_stored [] [] is = refl
  pairs_stored [] (x ∷ xs) is = absurd is
  pairs_stored (p ∷ ps) [] is = absurd is
  pairs_stored (p ∷ ps) (x ∷ xs) (i, is) = ap₂ ◌++◌ (pair_stored p x i) (pairs_stored ps xs is)

module _ {T A : Type 0} (text : Text) (once : List (ℕ × AttrObj A)) (all : List (Entry ℕ A (Written A))) (h : AreOnce once all) (marks : List (ℕ × Item)) (paths : List (List ℕ)) where
  -- what all entries give
  pub applies_all : (items : List (ItemEntry A)) (es : List (Entry ℕ A (Written A))) → AreItems marks paths text items es → (old new : ContextView T A) → GivesAll once items old new → AppliesAll marks paths all es old new
  applies_all items [] k old new g = subst (λ z. GivesAll once z old new) k g
  applies_all items (of_once m a ∷ es) k old new g = applies_all items es k old new g
  applies_all [] (of_item m x ps ∷ es) k old new g = absurd k
  applies_all (e ∷ items) (of_item m x ps ∷ es) (i, k) old new (mid, g, more) = (
    mid,
    record {
      item = e.item;
      carries = i.item;
      location = e.location;
      over = i.location;
      gives = subst (λ content. Gives e.item e.location content old mid) (pairs_stored text once all h e.pairs.items ps i.pairs) g;
    },
    applies_all items es k mid new more,
  )

-- ---- items that are newer than a mark
module _ {T A : Type 0} (mark : ℕ) (c : ContextView T A) where
  -- an item that carries a mark is
  carried_newer : (marks : List (ℕ × Item)) (i : ℕ) (x : Item) → AreNewer mark c marks → lookup (same_index i) marks ≡ Some x → IsNewer mark c x
  carried_newer [] i x n e = absurd (cc e)
  carried_newer (m ∷ marks) i x n e = go (i == m.0) n.0 (carried_newer marks i x n.1) e
    where
      go : (b : Bool) → IsNewer mark c m.1 → (lookup (same_index i) marks ≡ Some x → IsNewer mark c x) → cond b (Some m.1) (lookup (same_index i) marks) ≡ Some x → IsNewer mark c x
      go true n h e = let same : m.1 ≡ x = cc e in subst (λ x. IsNewer mark c x) same n
      go false n h e = h e

  -- so are those of entries
  pub entries_newer : (text : Text) (marks : List (ℕ × Item)) (paths : List (List ℕ)) (items : List (ItemEntry A)) (es : List (Entry ℕ A (Written A))) → AreItems marks paths text items es → AreNewer mark c marks → ItemsAreNewer mark c items
  entries_newer text marks paths items [] k n = subst (λ z. ItemsAreNewer mark c z) (sym k) tt
  entries_newer text marks paths items (of_once m a ∷ es) k n = entries_newer text marks paths items es k n
  entries_newer text marks paths [] (of_item m x ps ∷ es) k n = absurd k
  entries_newer text marks paths (e ∷ items) (of_item m x ps ∷ es) (i, k) n = (carried_newer marks m.index e.item n i.item, entries_newer text marks paths items es k n)

  -- and they stay so while what is older is kept
  pub still_newer : (new : ContextView T A) → KeepsOlder mark c new → (marks : List (ℕ × Item)) → AreNewer mark c marks → AreNewer mark new marks
  still_newer new k [] n = tt
  still_newer new k (m ∷ marks) n = (newer_still mark m.1 k n.0, still_newer new k marks n.1)

-- Attributes that are stored under their keys.
use Rattle.std.proofs.Common.{◌≡◌, Bool, true, false, List, [], ◌∷◌, refl, sym, ap}
use Rattle.std.specs.Str.{bytes_eq}
use Rattle.indexmap.specs.IndexMap.{insert_entry}
use Rattle.irtext_base.specs.Text.{Text}
use Rattle.irtext_base.specs.Format.{same_text}
use Rattle.irtext_base.specs.declared.base.attributes.AttrObj.{AttrObj}
use Rattle.irtext_grammar.specs.Contexts.Held.{attribute_of, entries_of}
use Rattle.irtext_grammar.specs.Graphs.Build.{put}
use Rattle.irtext_grammar.specs.Grammar.Tree.{Attribute}
use Rattle.irtext_grammar.proofs.Lists.SameText.{same_text-bytes_eq, same_text_true}

under : {A : Type 0} (a : Attribute A) (es : List (Text × Attribute A)) (s t : Text) → s ≡ t → (s, a) ∷ es ≡ (t, a) ∷ es
under a es s t e = ap (λ z. (z, a) ∷ es) e

-- an entry that is inserted is put in
pub put_stored : {A : Type 0} (es : List (Text × AttrObj A)) (k : Text) (a : AttrObj A) → entries_of (insert_entry bytes_eq es k a) ≡ put (k, attribute_of a) (entries_of es)
put_stored [] k a = refl
put_stored (d ∷ es) k a = go (same_text k d.0) refl (same_text-bytes_eq k d.0) (put_stored es k a)
  where
    go : (b : Bool) → same_text k d.0 ≡ b → same_text k d.0 ≡ bytes_eq k d.0 → entries_of (insert_entry bytes_eq es k a) ≡ put (k, attribute_of a) (entries_of es) → entries_of (insert_entry bytes_eq (d ∷ es) k a) ≡ put (k, attribute_of a) (entries_of (d ∷ es))
    go true e s h = rw (← s, e) (under (attribute_of a) (entries_of es) d.0 k (sym (same_text_true k d.0 e)))
    go false e s h = rw (← s, e) (ap (λ z. (d.0, attribute_of d.1) ∷ z) h)

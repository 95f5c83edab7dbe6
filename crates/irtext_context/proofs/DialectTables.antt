-- The index of a name's dialect among those of a context.
use Rattle.std.proofs.Common.{◌≡◌, ◌∙◌, ℕ, zero, suc, Bool, true, List, [], ◌∷◌, ◌++◌, length, length-append, slice_get, Option, Some, None, refl, sym, ap, arith, position, unwrap_or, is_some, true≢false}
use Rattle.std.specs.Map.{lookup, keys_of, values_of}
use Rattle.std.specs.Str.{bytes_eq}
use Rattle.indexmap.specs.IndexMap.{insert_entry}
use Rattle.indexmap.specs.Layout.{set_value_at}
use Rattle.indexmap.proofs.MapLemmas.{Found-position, some_index, absent_from_lookup, insert_entry-absent, insert_entry-first}
use Rattle.irtext_base.specs.Text.{Text}
use Rattle.irtext_base.specs.Format.{Format}
use Rattle.irtext_base.specs.declared.base.identifier.OpId.{OpId}
use Rattle.irtext_context.specs.Dialects.{Table, with_op}
use Rattle.irtext_context.specs.DialectTable.{IsKeptAt, no_operations, with_operation}

module _ {K X : Type 0} (k : K) where
  -- another value at the last entry
  set_last : (es : List (K × X)) (v w : X) → set_value_at (es ++ (k, v) ∷ []) (length es) w ≡ es ++ (k, w) ∷ []
  set_last [] v w = refl
  set_last (e ∷ es) v w = ap (λ l. e ∷ l) (set_last es v w)

  -- the last value
  value_last : (es : List (K × X)) (v : X) → slice_get (values_of (es ++ (k, v) ∷ [])) (length es) ≡ Some v
  value_last [] v = refl
  value_last (e ∷ es) v = value_last es v

-- the value that is there already at an index
pub set_same : {K X : Type 0} (es : List (K × X)) (i : ℕ) (v : X) → slice_get (values_of es) i ≡ Some v → set_value_at es i v ≡ es
set_same [] i v e = refl
set_same (x ∷ es) zero v e = let same : x.1 ≡ v = cc e in ap (λ w. (x.0, w) ∷ es) (sym same)
set_same (x ∷ es) (suc i) v e = ap (λ l. x ∷ l) (set_same es i v e)

-- a new key is put last
pub entry_last : {X : Type 0} (es : List (Text × X)) (k : Text) (v : X) → lookup (bytes_eq k) es ≡ None → insert_entry bytes_eq es k v ≡ es ++ (k, v) ∷ []
entry_last es k v none = insert_entry-absent bytes_eq k v es (absent_from_lookup (bytes_eq k) es none)

-- a dialect that is there
pub kept_there : (es : List (Text × Table)) (name : Text) (i : ℕ) → position (bytes_eq name) (keys_of es) ≡ Some i → IsKeptAt es name i es
kept_there es name i p =
    let f = Found-position (bytes_eq name) es i p in
    record {
      within = f.within;
      here = found (lookup (bytes_eq name) es) (slice_get (values_of es) i) (sym (some_index (bytes_eq name) es) ∙ ap is_some p) f.value;
      replaced = λ w. sym (insert_entry-first bytes_eq name w es i f.first);
    }
  where
    found : (o s : Option Table) → is_some o ≡ true → o ≡ s → s ≡ Some (unwrap_or o (no_operations name))
    found (Some table) s h e = sym e
    found None s h e = absurd (true≢false (sym h))

-- a dialect that was added
pub kept_last : (es : List (Text × Table)) (name : Text) → lookup (bytes_eq name) es ≡ None → IsKeptAt es name (length es) (es ++ (name, no_operations name) ∷ [])
kept_last es name none = record {
  within = rw (length-append es ((name, no_operations name) ∷ [])) (omega arith);
  here = value_last name es (no_operations name) ∙ ap (λ o. Some (unwrap_or o (no_operations name))) (sym none);
  replaced = λ w. set_last name es (no_operations name) w ∙ sym (entry_last es name w none);
}

-- a dialect that was added with one operation
pub first_op : (es new : List (Text × Table)) (id : OpId) (format : Format) (isolated : Bool) (key : Text) (table : Table)
    → lookup (bytes_eq id.dialect) es ≡ None → key ≡ id.dialect → table ≡ with_op (no_operations id.dialect) id format isolated
    → new ≡ es ++ (key, table) ∷ [] → new ≡ with_operation es id format isolated
first_op es new id format isolated key table none k t e =
    e ∙ (λ i. es ++ (k i, t i) ∷ []) ∙ sym (entry_last es id.dialect (with_op (no_operations id.dialect) id format isolated) none)
    ∙ ap (λ o. insert_entry bytes_eq es id.dialect (with_op (unwrap_or o (no_operations id.dialect)) id format isolated)) (sym none)

-- What dialects know of an operation once one is registered; and that the order in which two are registered does not matter.
use Rattle.std.proofs.Common.{◌≡◌, ◌∙◌, Bool, true, false, cond, not, ◌&&◌, List, [], ◌∷◌, Option, Some, None, refl, sym, ap, subst}
use Rattle.std.specs.Prelude.{◌↔◌, option_and_then, unwrap_or}
use Rattle.std.specs.Cmp.Lexicographic.{bytes_decides}
use Rattle.std.specs.Map.{lookup}
use Rattle.std.specs.Str.{bytes_eq}
use Rattle.indexmap.specs.IndexMap.{insert_entry}
use Rattle.irtext_base.specs.Format.{Format}
use Rattle.irtext_base.specs.Text.{Text}
use Rattle.irtext_base.specs.declared.base.identifier.OpId.{OpId}
use Rattle.irtext_context.specs.Dialects.{Known, Table, same_id, with_op}
use Rattle.irtext_context.specs.DialectTable.{dialect_of, dialect_or_new, no_operations, registered, with_operation}
use Rattle.irtext_alike.specs.Alike.{KnowAlike}

-- two tests that do not both pass can be made in either order
either_first : {X : Type 0} (x y : X) (o : Option X) (a b : Bool) → (a ≡ true → b ≡ true → ⊥) → cond a (Some x) (cond b (Some y) o) ≡ cond b (Some y) (cond a (Some x) o)
either_first x y o true true apart = absurd (apart refl refl)
either_first x y o true false apart = refl
either_first x y o false b apart = refl

-- a test that is made twice
once_more : {X : Type 0} (x y : X) (o : Option X) (a : Bool) → cond a (Some x) o ≡ cond a (Some x) (cond a (Some y) o)
once_more x y o true = refl
once_more x y o false = refl

module _ {K V : Type 0} (same : K → K → Bool) (decides : (x y : K) → same x y ≡ true ↔ x ≡ y) where
  -- what is found once an entry was put in
  inserted : (i k : K) (v : V) (es : List (K × V)) → lookup (same i) (insert_entry same es k v) ≡ cond (same i k) (Some v) (lookup (same i) es)
  inserted i k v [] = refl
  inserted i k v (e ∷ es) = go (same k e.0) refl (inserted i k v es)
    where
      go : (b : Bool) → same k e.0 ≡ b → lookup (same i) (insert_entry same es k v) ≡ cond (same i k) (Some v) (lookup (same i) es) → lookup (same i) (cond b ((e.0, v) ∷ es) (e ∷ insert_entry same es k v)) ≡ cond (same i k) (Some v) (lookup (same i) (e ∷ es))
      go true is h =
          let k-is-e = (decides k e.0).0 is in
          once_more v e.1 (lookup (same i) es) (same i e.0) ∙ ap (λ z. cond (same i z) (Some v) (cond (same i e.0) (Some e.1) (lookup (same i) es))) (sym k-is-e)
      go false is h =
          ap (cond (same i e.0) (Some e.1)) h
          ∙ either_first e.1 v (lookup (same i) es) (same i e.0) (same i k) (λ f g. let t = (decides k e.0).1 (sym ((decides i k).0 g) ∙ (decides i e.0).0 f) in let z : true ≡ false = sym t ∙ is in cc)

-- ids are equal exactly if the test says so
id_decides : (x y : OpId) → same_id x y ≡ true ↔ x ≡ y
id_decides x y = (
  (λ e. let p = parts (bytes_eq x.dialect y.dialect) (bytes_eq x.name y.name) e in
      let d = (bytes_decides x.dialect y.dialect).0 p.0 in
      let n = (bytes_decides x.name y.name).0 p.1 in
      λ k. record { dialect = d k; name = n k }),
  (λ e. subst (λ z. same_id x z ≡ true) e (both (bytes_eq x.dialect x.dialect) (bytes_eq x.name x.name) ((bytes_decides x.dialect x.dialect).1 refl) ((bytes_decides x.name x.name).1 refl))),
)
  where
    parts : (a b : Bool) → (a && b) ≡ true → (a ≡ true) × (b ≡ true)
    parts true b e = (refl, e)
    parts false b e = absurd (cc)

    both : (a b : Bool) → a ≡ true → b ≡ true → (a && b) ≡ true
    both a b e f = rw (e, f) refl

-- what is known once an operation is registered: of that operation what was registered, and of every other what was known
pub registered_next : (dialects : List (Text × Table)) (x : OpId) (format : Format) (isolated : Bool) (id : OpId)
    → registered (with_operation dialects x format isolated) id ≡ cond (same_id id x) (Some (record { format = format; isolated = isolated })) (registered dialects id)
registered_next dialects x format isolated id =
    ap (option_and_then (λ table. lookup (same_id id) table.entries)) (inserted bytes_eq bytes_decides id.dialect x.dialect (with_op (dialect_or_new dialects x.dialect) x format isolated) dialects)
    ∙ go (bytes_eq id.dialect x.dialect) refl
  where
    known : Known
    known = record { format = format; isolated = isolated }

    was : (o : Option Table) → lookup (same_id id) (unwrap_or o (no_operations x.dialect)).entries ≡ option_and_then (λ table. lookup (same_id id) table.entries) o
    was None = refl
    was (Some t) = refl

    go : (b : Bool) → bytes_eq id.dialect x.dialect ≡ b
        → option_and_then (λ table. lookup (same_id id) table.entries) (cond b (Some (with_op (dialect_or_new dialects x.dialect) x format isolated)) (lookup (bytes_eq id.dialect) dialects))
        ≡ cond (same_id id x) (Some known) (registered dialects id)
    go true is =
        inserted same_id id_decides id x known (dialect_or_new dialects x.dialect).entries
        ∙ ap (cond (same_id id x) (Some known)) (was (dialect_of dialects x.dialect) ∙ ap (λ d. option_and_then (λ table. lookup (same_id id) table.entries) (dialect_of dialects d)) (sym ((bytes_decides id.dialect x.dialect).0 is)))
    go false is = sym (ap (λ b. cond (b && bytes_eq id.name x.name) (Some known) (registered dialects id)) is)

-- two operations can be registered in either order
pub any_order : (dialects : List (Text × Table)) (x y : OpId) (f g : Format) (a b : Bool) → (x ≡ y → ⊥) → KnowAlike (with_operation (with_operation dialects x f a) y g b) (with_operation (with_operation dialects y g b) x f a)
any_order dialects x y f g a b other = λ id.
    registered_next (with_operation dialects x f a) y g b id
    ∙ (ap (cond (same_id id y) (Some (record { format = g; isolated = b }))) (registered_next dialects x f a id)
    ∙ (either_first (record { format = g; isolated = b }) (record { format = f; isolated = a }) (registered dialects id) (same_id id y) (same_id id x) (λ p q. other (sym ((id_decides id x).0 q) ∙ (id_decides id y).0 p))
    ∙ (sym (ap (cond (same_id id x) (Some (record { format = f; isolated = a }))) (registered_next dialects y g b id)) ∙ sym (registered_next (with_operation dialects y g b) x f a id))))

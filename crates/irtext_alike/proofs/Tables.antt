-- Dialects that know each other's operations alike know all operations alike.
use Rattle.std.proofs.Common.{◌≡◌, ◌∙◌, ◌+◌, ◌<◌, ◌≤◌, ℕ, suc, Bool, true, false, cond, IsTrue, inl, inr, refl, sym, ap, subst, arith, List, [], ◌∷◌, length, slice_get, Option, Some, None, option_map}
use Rattle.std.specs.Prelude.{◌↔◌, IfNone, IfSome, is_some, not, option_and_then}
use Rattle.std.specs.Map.{lookup, values_of}
use Rattle.std.specs.Str.{bytes_eq}
use Rattle.std.proofs.Math.Nat.{eq-or-lt_of_le}
use Rattle.std.proofs.lemmas.Option.{slice_get-map, slice_get_within}
use Rattle.irtext_base.specs.declared.base.identifier.OpId.{OpId}
use Rattle.irtext_base.specs.Text.{Text}
use Rattle.irtext_context.specs.Dialects.{Known, Table, same_id}
use Rattle.irtext_context.specs.DialectTable.{dialect_of, registered}
use Rattle.irtext_context.specs.Named.{same_texts}
use Rattle.irtext_graph.proofs.Nests.{some_eq}
use Rattle.irtext_alike.specs.Alike.{KnowAlike}
use Rattle.irtext_alike.specs.Each.{KnowsAt, KnowsTable, KnowsTableAt, KnowsEach}
use Rattle.irtext_alike.specs.First.{IsUnlike}
use Rattle.irtext_alike.specs.declared.unlike.Unlike.{Unlike}
use Rattle.irtext_alike.proofs.Walk.{unlike_differs}

-- ---- loops over indices
module _ (Holds : ℕ → Type 0) where
  -- one more index at which it holds
  pub one_more : (i : ℕ) → ((j : ℕ) → j < i → Holds j) → Holds i → (j : ℕ) → j < i + 1 → Holds j
  one_more i before here j w = elim (eq-or-lt_of_le {n = j} {m = i} (omega (arith, w))) [
    | inl e ↦ subst Holds (sym e) here
    | inr l ↦ before j l
  ]

  -- it does not hold at an index
  pub not_each : (i : ℕ) (holds : Bool) → IsTrue holds ↔ Holds i → holds ≡ false → IsTrue false ↔ ((j : ℕ) → Holds j)
  not_each i holds says fails = ((λ t. absurd (cc)), (λ all. sym fails ∙ says.1 (all i)))

module _ {X : Type 0} (Q : X → Type 0) (xs : List X) where
  -- what holds of each element below the end holds of each
  pub below_end : (i : ℕ) → length xs ≤ i → ((j : ℕ) → j < i → (x : X) → slice_get xs j ≡ Some x → Q x) → (j : ℕ) (x : X) → slice_get xs j ≡ Some x → Q x
  below_end i past each j x e = let w = slice_get_within xs j x e in each j (omega (arith, w, past)) x e

-- ---- a look-up finds an entry at an index
module _ {K V : Type 0} (test : K → Bool) where
  abbrev Found : List (K × V) → V → Type 0
  Found es v = (i : ℕ) × (e : K × V) × (slice_get es i ≡ Some e) × (test e.0 ≡ true) × (e.1 ≡ v)

  found : (es : List (K × V)) (v : V) → lookup test es ≡ Some v → Found es v
  found [] v h = absurd (cc)
  found (e ∷ es) v h = go (test e.0) refl h (found es v)
    where
      go : (b : Bool) → test e.0 ≡ b → cond b (Some e.1) (lookup test es) ≡ Some v → (lookup test es ≡ Some v → Found es v) → Found (e ∷ es) v
      go true is h later = (0, e, refl, is, cc)
      go false is h later = let f = later h in (suc f.0, f.1, f.2, f.3, f.4)

same_ids : (x y : OpId) → same_id x y ≡ true → y ≡ x
same_ids x y h = let s = same_texts x y h in λ i. record { dialect = sym s.0 i; name = sym s.1 i }

-- an operation that is registered is known alike
one_alike : (dialects other : List (Text × Table)) → KnowsEach dialects other → (id : OpId) (known : Known) → registered dialects id ≡ Some known → registered other id ≡ registered dialects id
one_alike dialects other each id known h = go (dialect_of dialects id.dialect) refl h
  where
    go : (o : Option Table) → dialect_of dialects id.dialect ≡ o → option_and_then (λ table. lookup (same_id id) table.entries) o ≡ Some known → registered other id ≡ registered dialects id
    go None is h = absurd (cc)
    go (Some table) is h =
        let d = found (bytes_eq id.dialect) dialects table is in
        let e = found (same_id id) table.entries known h in
        let at : slice_get (values_of dialects) d.0 ≡ Some table = slice_get-map (λ x. x.1) dialects d.0 ∙ ap (option_map (λ x. x.1)) d.2 ∙ ap Some d.4 in
        subst (λ i. registered other i ≡ registered dialects i) (same_ids id e.1.0 e.3) (each d.0 table at e.0 e.1 e.2)

-- dialects that know each other's operations alike
both_alike : (a b : List (Text × Table)) → KnowsEach a b → KnowsEach b a → KnowAlike a b
both_alike a b there back id = go (registered a id) (registered b id) refl refl
  where
    go : (x y : Option Known) → registered a id ≡ x → registered b id ≡ y → registered a id ≡ registered b id
    go (Some k) y is is' = sym (one_alike a b there id k is)
    go None (Some k) is is' = one_alike b a back id k is'
    go None None is is' = is ∙ sym is'

each_known : (a b : List (Text × Table)) → KnowAlike a b → KnowsEach b a
each_known a b alike i table at j e here = alike e.0

-- what the two tests say together
pub same_both_ways : (a b : List (Text × Table)) (x y : Bool) → IsTrue x ↔ KnowsEach a b → IsTrue y ↔ KnowsEach b a → IsTrue (cond x y false) ↔ KnowAlike a b
same_both_ways a b true true p q = ((λ t. both_alike a b (p.0 refl) (q.0 refl)), (λ k. refl))
same_both_ways a b true false p q = ((λ t. absurd (cc)), (λ k. q.1 (each_known a b k)))
same_both_ways a b false y p q = ((λ t. absurd (cc)), (λ k. p.1 (each_known b a (λ id. sym (k id)))))

-- ---- one operation
pub is_alike : (here there : Option Known) (r : Option Unlike) (b : Bool) → is_some r ≡ not b → IfNone r (there ≡ here) → IfSome r (IsUnlike here there) → IsTrue b ↔ there ≡ here
is_alike here there None true is same unlike = ((λ t. same), (λ e. refl))
is_alike here there None false is same unlike = absurd (cc)
is_alike here there (Some why) true is same unlike = absurd (cc)
is_alike here there (Some why) false is same unlike = ((λ t. absurd (cc)), (λ e. absurd (unlike_differs here there why unlike e)))

module _ (dialects other : List (Text × Table)) (entries : List (OpId × Known)) (i : ℕ) where
  -- the operation at the index
  pub at_one : (e : OpId × Known) (b : Bool) → slice_get entries i ≡ Some e → IsTrue b ↔ registered other e.0 ≡ registered dialects e.0 → IsTrue b ↔ KnowsAt dialects other entries i
  at_one e b at says = (
    (λ t f here. subst (λ (x : OpId × Known). registered other x.0 ≡ registered dialects x.0) (some_eq (sym at ∙ here)) (says.0 t)),
    (λ all. says.1 (all e at)),
  )

  -- there is none
  pub at_none : slice_get entries i ≡ None → IsTrue true ↔ KnowsAt dialects other entries i
  at_none gone = ((λ t f here. let none = gone in absurd (cc)), (λ all. refl))

-- ---- one dialect
module _ (dialects other : List (Text × Table)) (i : ℕ) where
  pub dialect_one : (table : Table) (b : Bool) → slice_get (values_of dialects) i ≡ Some table → IsTrue b ↔ KnowsTable dialects other table → IsTrue b ↔ KnowsTableAt dialects other i
  dialect_one table b at says = (
    (λ t f here. subst (λ (x : Table). KnowsTable dialects other x) (some_eq (sym at ∙ here)) (says.0 t)),
    (λ all. says.1 (all table at)),
  )

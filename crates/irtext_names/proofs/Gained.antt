-- What a graph is once a placeholder was made, or was made and went again.
use Rattle.std.proofs.Common.{◌≡◌, ◌+◌, ◌==◌, ◌∙◌, ℕ, zero, suc, refl, sym, ap, subst, arith, Bool, true, false, cond, map, List, [], ◌∷◌, Option, Some, None, IsSome, slice_get, eqb-true, ltb-true, nat_lt, ◌≤◌}
use Rattle.std.specs.Option.{option_map}
use Rattle.irtext_graph.specs.declared.arena.Ptr.{Ptr}
use Rattle.irtext_graph.specs.declared.object.BasicBlock.{BasicBlock}
use Rattle.irtext_graph.specs.declared.object.Operation.{Operation}
use Rattle.irtext_graph.specs.declared.object.Region.{Region}
use Rattle.irtext_graph.specs.declared.object.Object.{Object}
use Rattle.irtext_graph.specs.declared.object.Object.TheVariants.{TheOperation, TheBlock, TheRegion}
use Rattle.irtext_graph.specs.declared.object.Value.{Value}
use Rattle.irtext_graph.specs.declared.object.Value.TheVariants.{Result, Argument}
use Rattle.irtext_graph.specs.declared.object.Defined.{Defined}
use Rattle.irtext_graph.specs.declared.object.Defined.TheVariants.{OfValue, OfBlock}
use Rattle.irtext_graph.specs.Back.{AllOlder, RollsBack}
use Rattle.irtext_graph.specs.Content.{Content.{AnOperation, ABlock, ARegion}}
use Rattle.irtext_graph.specs.Erasing.{without_uses, owner}
use Rattle.irtext_graph.specs.Graph.{GraphView, content, content_of, parent, parent_of, children, children_of, IsNew, KeepsOlder, MakesOperation, MakesBlock}
use Rattle.irtext_graph.specs.Objects.{is_older}
use Rattle.irtext_graph.specs.Parts.{results_of, arguments_of}
use Rattle.irtext_graph.specs.Store.{Store, Cell, get, object_in, drawn, Inserts}
use Rattle.irtext_graph.specs.Used.{IsDefined}
use Rattle.irtext_graph.proofs.Closed.{back_to}
use Rattle.irtext_graph.proofs.Nests.{some_eq}
use Rattle.irtext_names.specs.Placeholders.{IsPlaceholder, MakesValue, MakesLabel, IsUnchanged}
use Rattle.irtext_names.proofs.SameBut.{SameBut}

not_below : (a b : ℕ) → b ≤ a → nat_lt a b ≡ false
not_below a b le = go (nat_lt a b) refl
  where
    go : (t : Bool) → nat_lt a b ≡ t → t ≡ false
    go false e = refl
    go true e = let l = ltb-true a b e in absurd (omega arith)

-- a pointer with a generation that was not yet used finds nothing
fresh_in : {X : Type 0} (c : Option (Cell X)) (n : ℕ) → n ≡ drawn c + 1 → object_in c n ≡ None
fresh_in None n e = refl
fresh_in (Some c) n e = go (c.generation == n) refl
  where
    go : (b : Bool) → (c.generation == n) ≡ b → cond b c.object None ≡ None
    go false is = refl
    go true is = let k = eqb-true c.generation n is in absurd (omega arith)

pub fresh_place : {X K : Type 0} (old new : Store X) (p : Ptr K) {x : _} → Inserts old new p x → get old p ≡ None
fresh_place old new p i = fresh_in (slice_get old.cells p.index) p.generation i.next

module _ {O B T : Type 0} where
  -- graphs are the same but for one object where all other objects are the same
  pub same_stores : (g k : GraphView (Option O) B T) (o : Option Object) → ((p : Ptr Operation) → (o ≡ Some (TheOperation p) → ⊥) → get k.operations p ≡ get g.operations p)
      → ((b : Ptr BasicBlock) → (o ≡ Some (TheBlock b) → ⊥) → get k.blocks b ≡ get g.blocks b) → ((r : Ptr Region) → get k.regions r ≡ get g.regions r)
      → ((q : Object) → o ≡ Some q → content k q ≡ None) → SameBut g k o
  same_stores g k o operations blocks regions gone = record {
    contents = λ q n. ap (option_map without_uses) (content_is q n);
    parents = parent_is;
    lists = children_is;
    gone = gone;
  }
    where
      content_is : (q : Object) → (o ≡ Some q → ⊥) → content k q ≡ content g q
      content_is (TheOperation p) n = ap (λ e. option_map (λ d. AnOperation d.0 d.1) (content_of e)) (operations p n)
      content_is (TheBlock b) n = ap (λ e. option_map (λ d. ABlock d.0 d.1) (content_of e)) (blocks b n)
      content_is (TheRegion r) n = ap (λ e. option_map (λ d. ARegion d.0 d.1) (content_of e)) (regions r)

      parent_is : (q : Object) → (o ≡ Some q → ⊥) → parent k q ≡ parent g q
      parent_is (TheOperation p) n = ap (λ e. option_map TheBlock (parent_of e)) (operations p n)
      parent_is (TheBlock b) n = ap (λ e. option_map TheRegion (parent_of e)) (blocks b n)
      parent_is (TheRegion r) n = ap (λ e. option_map TheOperation (parent_of e)) (regions r)

      children_is : (q : Object) → (o ≡ Some q → ⊥) → children k q ≡ children g q
      children_is (TheOperation p) n = ap (λ e. map TheRegion (children_of e)) (operations p n)
      children_is (TheBlock b) n = ap (λ e. map TheOperation (children_of e)) (blocks b n)
      children_is (TheRegion r) n = ap (λ e. map TheBlock (children_of e)) (regions r)

module _ {O B T : Type 0} where
  -- ---- an object was made
  pub operation_added : {g k : GraphView (Option O) B T} (p : Ptr Operation) {v : _} {ts : _} {os : _} {bs : _} → MakesOperation g k p v ts os bs → SameBut k g (Some (TheOperation p))
  operation_added {g} {k} p m = same_stores k g (Some (TheOperation p)) (λ q n. sym (m.operations.updates.others q (λ e. n (ap (λ r. Some (TheOperation r)) (sym e)))))
      (λ b n. ap (λ s. get s b) (sym m.blocks)) (λ r. ap (λ s. get s r) (sym m.regions))
      (λ q e. rw (← some_eq e) (ap (λ o. option_map (λ d. AnOperation d.0 d.1) (content_of o)) (fresh_place g.operations k.operations p m.operations)))

  pub block_added : {g k : GraphView (Option O) B T} (b : Ptr BasicBlock) {v : _} {ts : _} → MakesBlock g k b v ts → SameBut k g (Some (TheBlock b))
  block_added {g} {k} b m = same_stores k g (Some (TheBlock b)) (λ p n. ap (λ s. get s p) (sym m.operations))
      (λ c n. sym (m.blocks.updates.others c (λ e. n (ap (λ q. Some (TheBlock q)) (sym e))))) (λ r. ap (λ s. get s r) (sym m.regions))
      (λ q e. rw (← some_eq e) (ap (λ o. option_map (λ d. ABlock d.0 d.1) (content_of o)) (fresh_place g.blocks k.blocks b m.blocks)))

module _ {O B T : Type 0} where
  pub made_value : {g k : GraphView (Option O) B (Option T)} (p : Ptr Operation) (ts : List (Option T)) → ts ≡ None ∷ [] → MakesOperation g k p None ts [] [] → MakesValue g k (Result p 0)
  made_value {g} {k} p ts e m = record { operation = p; value = refl; makes = subst (λ xs. MakesOperation g k p None xs [] []) e m }

  -- ---- the result of an operation without data that was made is a placeholder
  module _ {g k : GraphView (Option O) B (Option T)} (v : Value) (m : MakesValue g k v) where
    pub value_same : SameBut k g (Some (owner (OfValue v)))
    value_same = rw m.value (operation_added m.operation m.makes)

    result_placeholder : IsPlaceholder k (OfValue (Result m.operation 0))
    result_placeholder =
        let here = m.makes.operations.updates.changed in
        record { alive = rw here refl; blank = rw here refl; free = rw here refl; empty = rw here refl; alone = λ x d e. only x d e }
      where
        only : (x : Defined) → IsDefined k x → owner x ≡ TheOperation m.operation → x ≡ OfValue (Result m.operation 0)
        only (OfValue (Result p zero)) d e = let s : p ≡ m.operation = cc in rw s refl
        only (OfValue (Result p (suc i))) d e =
            let s : p ≡ m.operation = cc in
            let none = subst (λ o. IsSome (slice_get (results_of (option_map (λ e. e.content.content) o)) (suc i))) (ap (λ r. get k.operations r) s ∙ m.makes.operations.updates.changed) d in
            cc
        only (OfValue (Argument b i)) d e = absurd (cc)
        only (OfBlock b) d e = absurd (cc)

    pub value_placeholder : IsPlaceholder k (OfValue v)
    value_placeholder = rw m.value result_placeholder

    result_new : (n : ℕ) → n ≤ g.made → IsNew n k (TheOperation m.operation)
    result_new n up = ap (λ o. is_older {O = Option O} {B = B} {T = Option T} n (option_map (λ d. AnOperation d.0 d.1) (content_of o))) m.makes.operations.updates.changed ∙ not_below g.made n up

    pub value_new : (n : ℕ) → n ≤ g.made → IsNew n k (owner (OfValue v))
    value_new n up = rw m.value (result_new n up)

  -- ---- a block without arguments that was made is a placeholder
  module _ {g k : GraphView (Option O) B T} (data_of : B) (b : Ptr BasicBlock) (m : MakesLabel data_of g k b) where
    pub block_same : SameBut k g (Some (TheBlock b))
    block_same = block_added b m

    pub block_placeholder : IsPlaceholder k (OfBlock b)
    block_placeholder =
        let here = m.blocks.updates.changed in
        record { alive = rw here refl; blank = rw here refl; free = rw here refl; empty = rw here refl; alone = λ x d e. only x d e }
      where
        only : (x : Defined) → IsDefined k x → owner x ≡ TheBlock b → x ≡ OfBlock b
        only (OfValue (Result p i)) d e = absurd (cc)
        only (OfValue (Argument c i)) d e =
            let s : c ≡ b = cc in
            let none = subst (λ o. IsSome (slice_get (arguments_of (option_map (λ e. e.content.content) o)) i)) (ap (λ r. get k.blocks r) s ∙ m.blocks.updates.changed) d in
            cc
        only (OfBlock c) d e = let s : c ≡ b = cc in rw s refl

    pub block_new : (n : ℕ) → n ≤ g.made → IsNew n k (TheBlock b)
    block_new n up = ap (λ o. is_older {O = Option O} {B = B} {T = T} n (option_map (λ d. ABlock d.0 d.1) (content_of o))) m.blocks.updates.changed ∙ not_below g.made n up

  -- ---- what was made went again
  pub back_again : (mark : ℕ) (g k h : GraphView (Option O) B T) → AllOlder mark g → KeepsOlder mark g k → RollsBack mark k h → IsUnchanged g h
  back_again mark g k h a s r = let b = back_to mark g k s a r in
      record {
        operations = b.0;
        blocks = b.1;
        regions = b.2;
        made = let e = s.made in let f = r.made in omega (arith, e, f);
        values = let e = s.values in let f = r.values in omega (arith, e, f);
        first_place = r.first_place ∙ s.first_place;
      }

  pub before_same : {g h : GraphView (Option O) B T} → IsUnchanged g h → SameBut g h None
  before_same {g} {h} s = same_stores g h None (λ p n. s.operations p) (λ b n. s.blocks b) s.regions (λ q e. cc)

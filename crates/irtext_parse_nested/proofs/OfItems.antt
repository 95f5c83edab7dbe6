-- What is made for an item is of that item: an operation with its results, operands and successors, and a block with its arguments.
use Rattle.std.proofs.Common.{◌≡◌, ◌⊎◌, ℕ, suc, List, [], ◌∷◌, ◌++◌, refl, sym, ap, subst, inl, inr}
use Rattle.irtext_graph.specs.declared.arena.Ptr.{Ptr}
use Rattle.irtext_graph.specs.declared.object.BasicBlock.{BasicBlock}
use Rattle.irtext_graph.specs.declared.object.Operation.{Operation}
use Rattle.irtext_graph.specs.declared.object.Object.{Object}
use Rattle.irtext_graph.specs.declared.object.Object.TheVariants.{TheOperation, TheBlock}
use Rattle.irtext_graph.specs.declared.object.Value.{Value}
use Rattle.irtext_graph.specs.declared.object.Value.TheVariants.{Result, Argument}
use Rattle.irtext_graph.specs.declared.object.Site.{Site}
use Rattle.irtext_graph.specs.declared.object.Site.TheVariants.{AtOperand, AtSuccessor}
use Rattle.irtext_graph.specs.Chained.{Among}
use Rattle.irtext_names.proofs.Linked.Moving.{among_split}
use Rattle.irtext_grammar.specs.Names.Script.{Path, Place, argument, block_at, User, operand, successor}
use Rattle.irtext_names.specs.Linked.{Known, nothing_made}
use Rattle.irtext_names.specs.OfItems.{IsValueOf, IsBlockOf, IsSiteOf, AreOf}
use Rattle.irtext_names.specs.Rows.{made_results, sites_from, with_operation}

-- nothing that was made is of no items
pub nothing_of : (path : ℕ → Path) → AreOf path [] nothing_made
nothing_of path = record { values_of = λ q v a. absurd a; blocks_of = λ q b a. absurd a; sites_of = λ u s a. absurd a }

module _ (path : ℕ → Path) (items : List (ℕ × Object)) (n : ℕ) (k : Object) where
  abbrev more : List (ℕ × Object)
  more = (n, k) ∷ items

  value_still : (q : Place) (v : Value) → IsValueOf path items q v → IsValueOf path more q v
  value_still q (Result p i) h = (h.0, h.1, inr h.2)
  value_still q (Argument b i) h = (h.0, h.1, inr h.2)

  site_still : (u : User) (s : Site) → IsSiteOf path items u s → IsSiteOf path more u s
  site_still u (AtOperand p i) h = (h.0, h.1, inr h.2)
  site_still u (AtSuccessor p i) h = (h.0, h.1, inr h.2)

-- ---- an operation
module _ (path : ℕ → Path) (items : List (ℕ × Object)) (n : ℕ) (op : Ptr Operation) where
  abbrev with_it : List (ℕ × Object)
  with_it = (n, TheOperation op) ∷ items

  result_of : {X : Type 0} (k : ℕ) (xs : List X) (q : Place) (v : Value) → Among (q, v) (made_results (path n) op k xs) → IsValueOf path with_it q v
  result_of k [] q v a = absurd a
  result_of k (x ∷ xs) q v (inl e) = subst (IsValueOf path with_it q) (sym (ap (λ z. z.1) e)) (n, ap (λ z. z.0) e, inl refl)
  result_of k (x ∷ xs) q v (inr a) = result_of (suc k) xs q v a

  operand_of : {X : Type 0} (k : ℕ) (xs : List X) (u : User) (s : Site) → Among (u, s) (sites_from (operand (path n)) (AtOperand op) k xs) → IsSiteOf path with_it u s
  operand_of k [] u s a = absurd a
  operand_of k (x ∷ xs) u s (inl e) = subst (IsSiteOf path with_it u) (sym (ap (λ z. z.1) e)) (n, ap (λ z. z.0) e, inl refl)
  operand_of k (x ∷ xs) u s (inr a) = operand_of (suc k) xs u s a

  successor_of : {X : Type 0} (k : ℕ) (xs : List X) (u : User) (s : Site) → Among (u, s) (sites_from (successor (path n)) (AtSuccessor op) k xs) → IsSiteOf path with_it u s
  successor_of k [] u s a = absurd a
  successor_of k (x ∷ xs) u s (inl e) = subst (IsSiteOf path with_it u) (sym (ap (λ z. z.1) e)) (n, ap (λ z. z.0) e, inl refl)
  successor_of k (x ∷ xs) u s (inr a) = successor_of (suc k) xs u s a

  -- what is made where an operation is made with operands, successors and results in a row is of the items with it
  pub of_operation : {X : Type 0} (operands : List Value) (successors : List (Ptr BasicBlock)) (results : List X) (known : Known) → AreOf path items known → AreOf path with_it (with_operation (path n) op operands successors results known)
  of_operation operands successors results known h = record {
    values_of = λ q v a. elim (among_split (q, v) known.values (made_results (path n) op 0 results) a) [ inl was ↦ value_still path items n (TheOperation op) q v (h.values_of q v was) | inr new ↦ result_of 0 results q v new ];
    blocks_of = λ q b a. let x = h.blocks_of q b a in (x.0, x.1, inr x.2);
    sites_of = λ u s a. elim (among_split (u, s) known.sites (sites_from (operand (path n)) (AtOperand op) 0 operands ++ sites_from (successor (path n)) (AtSuccessor op) 0 successors) a) [
      | inl was ↦ site_still path items n (TheOperation op) u s (h.sites_of u s was)
      | inr new ↦ elim (among_split (u, s) (sites_from (operand (path n)) (AtOperand op) 0 operands) (sites_from (successor (path n)) (AtSuccessor op) 0 successors) new) [
        | inl a ↦ operand_of 0 operands u s a
        | inr a ↦ successor_of 0 successors u s a
      ]
    ];
  }

-- ---- a block

module _ (path : ℕ → Path) (items : List (ℕ × Object)) (n : ℕ) (b : Ptr BasicBlock) where
  abbrev with_block_of : List (ℕ × Object)
  with_block_of = (n, TheBlock b) ∷ items

  -- what is made with a block is of the items that include the block: whatever values were added at places of its arguments, and blocks at
  -- its place
  pub of_block : (known more : Known) → AreOf path items known
      → ((q : Place) (v : Value) → Among (q, v) more.values → Among (q, v) known.values ⊎ ((i : ℕ) × (q ≡ argument (path n) i) × (v ≡ Argument b i)))
      → ((q : Place) (d : Ptr BasicBlock) → Among (q, d) more.blocks → Among (q, d) known.blocks ⊎ ((q ≡ block_at (path n)) × (d ≡ b))) → more.sites ≡ known.sites → AreOf path with_block_of more
  of_block known more h values blocks sites = record {
    values_of = λ q v a. elim (values q v a) [
      | inl was ↦ value_still path items n (TheBlock b) q v (h.values_of q v was)
      | inr (i, at, is) ↦ subst (IsValueOf path with_block_of q) (sym is) (n, at, inl refl)
    ];
    blocks_of = λ q d a. elim (blocks q d a) [
      | inl was ↦ let x = h.blocks_of q d was in (x.0, x.1, inr x.2)
      | inr (at, is) ↦ subst (IsBlockOf path with_block_of q) (sym is) (n, at, inl refl)
    ];
    sites_of = λ u s a. site_still path items n (TheBlock b) u s (h.sites_of u s (subst (Among (u, s)) sites a));
  }

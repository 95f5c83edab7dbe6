-- A use of another: one use less of what it named, and all else is unchanged.
use Rattle.std.proofs.Common.{◌≡◌, ◌≢◌, ◌<◌, ◌+◌, ◌∙◌, ℕ, zero, suc, refl, sym, ap, subst, arith, Bool, true, false, cond, Option, Some, None, List, [], ◌∷◌, slice_get, set, map, get_or, sum_by, option_map}
use Rattle.std.proofs.lemmas.List.Sums.{sum_by-cons}
use Rattle.std.proofs.lemmas.Option.{slice_get_within}
use Rattle.irtext_graph.specs.Arena.{get}
use Rattle.irtext_graph.specs.declared.arena.Arena.{Arena}
use Rattle.irtext_graph.specs.declared.arena.Entry.{Entry}
use Rattle.irtext_graph.specs.declared.arena.Ptr.{Ptr}
use Rattle.irtext_graph.specs.declared.nest.Nest.{Nest}
use Rattle.irtext_graph.specs.declared.object.Operation.{Operation}
use Rattle.irtext_graph.specs.declared.object.BasicBlock.{BasicBlock}
use Rattle.irtext_graph.specs.declared.object.Region.{Region}
use Rattle.irtext_graph.specs.declared.object.Defined.{Defined}
use Rattle.irtext_graph.specs.declared.object.Defined.TheVariants.{OfValue, OfBlock}
use Rattle.irtext_graph.specs.declared.object.Site.{Site}
use Rattle.irtext_graph.specs.declared.object.Site.TheVariants.{AtOperand, AtSuccessor}
use Rattle.irtext_graph.specs.declared.object.Value.{Value}
use Rattle.irtext_graph.specs.declared.objects.Objects.{Objects}
use Rattle.irtext_graph.specs.declared.objects.OperationData.{OperationData}
use Rattle.irtext_graph.specs.declared.objects.Use.{Use}
use Rattle.irtext_graph.specs.Content.{node_of, operation_content}
use Rattle.irtext_graph.specs.Lending.{with_content_at}
use Rattle.irtext_graph.specs.Store.{cell_of}
use Rattle.irtext_graph.specs.Used.{without_uses_in, operations_bare, uses_in, uses_of, uses_left}
use Rattle.irtext_graph.specs.Uses.{eq_defined, operations_seen, operand_in, successor_in, either, use_at, renamed}
use Rattle.irtext_graph.proofs.Arenas.{content_is_live}
use Rattle.irtext_graph.proofs.Children.{sum_with}
use Rattle.irtext_graph.proofs.Counts.{sum-less}
use Rattle.irtext_graph.proofs.Linked.{defined_tells}
use Rattle.irtext_graph.proofs.Stores.{content_same, mapped_seen}

sum_seen : {X Y : Type 0} (f : Y → ℕ) (g : X → Y) (xs : List X) → sum_by f (map g xs) ≡ sum_by (λ x. f (g x)) xs
sum_seen f g [] = refl
sum_seen f g (x ∷ xs) = sum_by-cons f (g x) (map g xs) ∙ ap (λ n. f (g x) + n) (sum_seen f g xs) ∙ sym (sum_by-cons (λ x. f (g x)) x xs)

get_or-is : {X : Type 0} (xs : List X) (i : ℕ) (x o : X) → slice_get xs i ≡ Some o → get_or xs i x ≡ o
get_or-is [] i x o e = absurd (cc)
get_or-is (z ∷ zs) zero x o e = let k : z ≡ o = cc in k
get_or-is (z ∷ zs) (suc i) x o e = get_or-is zs i x o e

-- 1 for what is d, and 0 for all else
abbrev one : Defined → Defined → ℕ
one d x = cond (eq_defined x d) 1 0

one_same : (d : Defined) → one d d ≡ 1
one_same d = rw (defined_tells.same d) refl

one_other : (d x : Defined) → d ≢ x → one d x ≡ 0
one_other d x ne = rw (go (eq_defined x d) refl) refl
  where
    go : (t : Bool) → eq_defined x d ≡ t → t ≡ false
    go true e = absurd (ne (sym (defined_tells.sound x d e)))
    go false e = refl

module _ {D : Type 0} (f : D → Defined) where
  defs_fewer : (xs : List (Use D)) (i : ℕ) (u : Use D) (v : D) (o : Use D) → u ≡ get_or xs i u → slice_get xs i ≡ Some o → f o.def ≢ f v
      → sum_by (λ d. one (f o.def) (f d)) (map (λ u. u.def) (set xs i (renamed v u))) < sum_by (λ d. one (f o.def) (f d)) (map (λ u. u.def) xs)
  defs_fewer xs i u v o at is ne =
      let count : Use D → ℕ = λ u. one (f o.def) (f u.def) in
      let same : u ≡ o = at ∙ get_or-is xs i u o is in
      let was : count u ≡ 1 = ap count same ∙ one_same (f o.def) in
      let now : count (renamed v u) ≡ 0 = one_other (f o.def) (f v) ne in
      let less = sum-less count xs i (renamed v u) u (slice_get_within xs i o is) at (omega (arith, was, now)) in
      let a = sum_seen (λ d. one (f o.def) (f d)) (λ u. u.def) (set xs i (renamed v u)) in
      let b = sum_seen (λ d. one (f o.def) (f d)) (λ u. u.def) xs in
      omega (arith, a, b, less)

  -- the same, where e is what the use at the index names
  def_fewer : (xs : List (Use D)) (i : ℕ) (u : Use D) (v : D) (e : Defined) → u ≡ get_or xs i u → option_map (λ o. o.def) (option_map (either f) (slice_get xs i)) ≡ Some e → e ≢ f v
      → sum_by (λ d. one e (f d)) (map (λ u. u.def) (set xs i (renamed v u))) < sum_by (λ d. one e (f d)) (map (λ u. u.def) xs)
  def_fewer xs i u v e at is ne = go (slice_get xs i) refl is
    where
      go : (s : Option (Use D)) → slice_get xs i ≡ s → option_map (λ o. o.def) (option_map (either f) s) ≡ Some e
          → sum_by (λ d. one e (f d)) (map (λ u. u.def) (set xs i (renamed v u))) < sum_by (λ d. one e (f d)) (map (λ u. u.def) xs)
      go None k h = absurd (cc)
      go (Some o) k h =
          let same : f o.def ≡ e = cc in
          subst (λ e. sum_by (λ d. one e (f d)) (map (λ u. u.def) (set xs i (renamed v u))) < sum_by (λ d. one e (f d)) (map (λ u. u.def) xs)) same (defs_fewer xs i u v o at k (λ q. ne (sym same ∙ q)))

module _ {O T : Type 0} (a : Arena (Nest BasicBlock Region (OperationData O T))) (p : Ptr Operation) (x w : Nest BasicBlock Region (OperationData O T)) (at : option_map (λ o. o.content) (get a p) ≡ Some x) where
  pub bare_same : without_uses_in (node_of operation_content w) ≡ without_uses_in (node_of operation_content x) → operations_bare (with_content_at a p.index w) ≡ operations_bare a
  bare_same same =
      mapped_seen (node_of operation_content) without_uses_in (with_content_at a p.index w)
      ∙ content_same (λ n. without_uses_in (node_of operation_content n)) a p x w at same
      ∙ sym (mapped_seen (node_of operation_content) without_uses_in a)

  content_fewer : (d : Defined) → uses_in d (operation_content w.data) < uses_in d (operation_content x.data) → uses_left d (operations_seen (with_content_at a p.index w)) < uses_left d (operations_seen a)
  content_fewer d less =
      let sum = sum_with (λ s. uses_of d (cell_of (node_of operation_content) s)) (λ n. uses_in d (operation_content n.data)) (λ g o. refl) a p x w at in
      let after = sum_seen (uses_of d) (cell_of (node_of operation_content)) (with_content_at a p.index w).slots.items in
      let before = sum_seen (uses_of d) (cell_of (node_of operation_content)) a.slots.items in
      omega (arith, sum, after, before, less)

  -- what is seen of it under the pointer
  in_data : {V : Type 0} (view : Option (Entry (Nest BasicBlock Region (OperationData O T))) → V) → (b : ℕ) × (view (Some (record { born = b; content = x })) ≡ view (get a p))
  in_data view = let r = content_is_live a p x at in (r.0, ap view (sym r.1))

module _ {O B T : Type 0} (x : Objects O B T) (p : Ptr Operation) (n : Nest BasicBlock Region (OperationData O T)) (at : option_map (λ o. o.content) (get x.operations p) ≡ Some n) (u : Site) (i : ℕ) (d : Defined) where
  -- an operand names another value
  pub operand_fewer : (o : Use Value) (v : Value) → u ≡ AtOperand p i → d ≡ OfValue v → o ≡ get_or n.data.operands i o → (e : Defined) → option_map (λ o. o.def) (use_at x u) ≡ Some e → e ≢ d
      → uses_left e (operations_seen (with_content_at x.operations p.index (record n { «data» = record n.data { operands = set n.data.operands i (renamed v o) } }))) < uses_left e (operations_seen x.operations)
  operand_fewer o v here is same e h ne =
      let seen = in_data x.operations p n n at (λ s. option_map (λ o. o.def) (option_map (either OfValue) (operand_in s i))) in
      let less = def_fewer OfValue n.data.operands i o v e same (seen.1 ∙ ap (λ u. option_map (λ o. o.def) (use_at x u)) (sym here) ∙ h) (λ q. ne (q ∙ sym is)) in
      content_fewer x.operations p n _ at e (omega (arith, less))

  -- a successor names another block
  pub successor_fewer : (o : Use (Ptr BasicBlock)) (b : Ptr BasicBlock) → u ≡ AtSuccessor p i → d ≡ OfBlock b → o ≡ get_or n.data.successors i o → (e : Defined) → option_map (λ o. o.def) (use_at x u) ≡ Some e → e ≢ d
      → uses_left e (operations_seen (with_content_at x.operations p.index (record n { «data» = record n.data { successors = set n.data.successors i (renamed b o) } }))) < uses_left e (operations_seen x.operations)
  successor_fewer o b here is same e h ne =
      let seen = in_data x.operations p n n at (λ s. option_map (λ o. o.def) (option_map (either OfBlock) (successor_in s i))) in
      let less = def_fewer OfBlock n.data.successors i o b e same (seen.1 ∙ ap (λ u. option_map (λ o. o.def) (use_at x u)) (sym here) ∙ h) (λ q. ne (q ∙ sym is)) in
      content_fewer x.operations p n _ at e (omega (arith, less))

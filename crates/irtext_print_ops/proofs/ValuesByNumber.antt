-- What printing finds by a value's number is the value's own, since no two values have the same number.
use Rattle.std.proofs.Common.{◌≡◌, ◌∙◌, ◌⊎◌, ◌+◌, ◌++◌, ◌∷◌, ◌==◌, inl, inr, ℕ, zero, suc, refl, sym, ap, subst, arith, true≢false, Bool, true, false, cond, if◌then◌else◌, List, [], Option, Some, None, IfSome, slice_get}
use Rattle.std.specs.List.{flat_map}
use Rattle.std.specs.Option.{option_map, option_and_then}
use Rattle.std.proofs.lemmas.Bool.{eqb-true, eq-eqb}
use Rattle.std.proofs.lemmas.Option.{same_Some}
use Rattle.irtext_base.specs.Text.{Text}
use Rattle.irtext_base.specs.declared.base.attributes.AttrObj.{AttrObj}
use Rattle.irtext_graph.specs.declared.arena.Entry.{Entry}
use Rattle.irtext_graph.specs.declared.arena.Ptr.{Ptr}
use Rattle.irtext_graph.specs.declared.object.BasicBlock.{BasicBlock}
use Rattle.irtext_graph.specs.declared.object.Operation.{Operation}
use Rattle.irtext_graph.specs.declared.object.Region.{Region}
use Rattle.irtext_graph.specs.declared.object.Value.{Value}
use Rattle.irtext_graph.specs.declared.object.Value.TheVariants.{Result, Argument}
use Rattle.irtext_graph.specs.Content.{Typed, Node, OperationContent, BlockContent}
use Rattle.irtext_graph.specs.Numbers.{NumbersDiffer}
use Rattle.irtext_graph.specs.Parts.{value_at, results_of, arguments_of}
use Rattle.irtext_graph.specs.Store.{Store, Cell, get, object_in}
use Rattle.irtext_context.specs.Context.{ContextView, OperationView, BlockView, operation_of, block_of, view_of}
use Rattle.irtext_context.specs.declared.base.block.BlockData.{BlockData}
use Rattle.irtext_context.specs.declared.base.operation.OperationData.{OperationData}
use Rattle.irtext_context.proofs.Contexts.{OperationEntry, BlockEntry}
use Rattle.irtext_grammar.specs.Contexts.Nested.{NamedValue, given_at, attributes_in, named_from, if_live, numbered_as, named_results, named_arguments, values_of, given_to, type_of}
use Rattle.irtext_grammar.specs.UniqueNames as unique
use Rattle.irtext_grammar.specs.UniqueNames.{given_name}

-- x is one of these
abbrev Among : {X : Type 0} → X → List X → Type 0
Among x [] = ⊥
Among x (y ∷ ys) = (x ≡ y) ⊎ Among x ys

among_left : {X : Type 0} (x : X) (xs ys : List X) → Among x xs → Among x (xs ++ ys)
among_left x [] ys h = absurd h
among_left x (y ∷ xs) ys (inl e) = inl e
among_left x (y ∷ xs) ys (inr h) = inr (among_left x xs ys h)

among_right : {X : Type 0} (x : X) (xs ys : List X) → Among x ys → Among x (xs ++ ys)
among_right x [] ys h = h
among_right x (y ∷ xs) ys h = inr (among_right x xs ys h)

among_either : {X : Type 0} (x : X) (xs ys : List X) → Among x (xs ++ ys) → Among x xs ⊎ Among x ys
among_either x [] ys h = inr h
among_either x (y ∷ xs) ys (inl e) = inl (inl e)
among_either x (y ∷ xs) ys (inr h) = elim (among_either x xs ys h) [ inl l ↦ inl (inr l) | inr r ↦ inr r ]

among_all : {X Y : Type 0} (f : X → List Y) (xs : List X) (i : ℕ) (x : X) (y : Y) → slice_get xs i ≡ Some x → Among y (f x) → Among y (flat_map f xs)
among_all f [] i x y e h = absurd (cc)
among_all f (z ∷ xs) zero x y e h =
    let same : z ≡ x = cc in
    among_left y (f z) (flat_map f xs) (subst (λ u. Among y (f u)) (sym same) h)
among_all f (z ∷ xs) (suc i) x y e h = among_right y (f z) (flat_map f xs) (among_all f xs i x y e h)

all_among : {X Y : Type 0} (f : X → List Y) (xs : List X) (y : Y) → Among y (flat_map f xs) → (i : ℕ) × (x : X) × (slice_get xs i ≡ Some x) × Among y (f x)
all_among f [] y h = absurd h
all_among f (x ∷ xs) y h = elim (among_either y (f x) (flat_map f xs) h) [
  | inl here ↦ (zero, x, refl, here)
  | inr later ↦ let r = all_among f xs y later in (suc r.0, r.1, r.2, r.3)
]

-- what a part of a live object is listed as is among what all objects of its kind are listed as
among_listed : {N X Y : Type 0} (cells : List (Cell N)) (parts : Option (Entry N) → List X) (lists : Option (Entry N) → List Y) (i generation k : ℕ) (x : X) (y : Y) → (slice_get (parts None) k ≡ Some x → ⊥) →
    ((e : Entry N) → object_in (slice_get cells i) generation ≡ Some e → slice_get (parts (Some e)) k ≡ Some x → Among y (lists (Some e))) →
    slice_get (parts (object_in (slice_get cells i) generation)) k ≡ Some x → Among y (flat_map (λ c. lists c.object) cells)
among_listed {N = N} {X = X} {Y = Y} cells parts lists i generation k x y none one h = in_cell (slice_get cells i) refl h
  where
    in_cell : (o : Option (Cell N)) → slice_get cells i ≡ o → slice_get (parts (object_in o generation)) k ≡ Some x → Among y (flat_map (λ c. lists c.object) cells)
    in_cell None at h = absurd (none h)
    in_cell (Some c) at h = go (c.generation == generation) refl c.object refl h
      where
        go : (b : Bool) → (c.generation == generation) ≡ b → (o : Option (Entry N)) → c.object ≡ o → slice_get (parts (if b then o else None)) k ≡ Some x → Among y (flat_map (λ c. lists c.object) cells)
        go false g o is h = absurd (none h)
        go true g None is h = absurd (none h)
        go true g (Some e) is h =
            let there : object_in (slice_get cells i) generation ≡ Some e = ap (λ o. object_in o generation) at ∙ ap (λ b. if b then c.object else None) g ∙ is in
            among_all (λ c. lists c.object) cells i c y at (subst (λ o. Among y (lists o)) (sym is) (one e there h))

-- a value is found by its number, where it is the only one of this number
found_as : {T : Type 0} (n : ℕ) (v : NamedValue T) (xs : List (NamedValue T)) → Among v xs → v.number ≡ n → ((w : NamedValue T) → Among w xs → w.number ≡ n → w ≡ v) → numbered_as n xs ≡ Some v
found_as n v [] h e alone = absurd h
found_as {T = T} n v (w ∷ ws) h e alone = go (w.number == n) refl h (λ later. found_as n v ws later e (λ u m. alone u (inr m)))
  where
    go : (b : Bool) → (w.number == n) ≡ b → (v ≡ w) ⊎ Among v ws → (Among v ws → numbered_as n ws ≡ Some v) → cond b (Some w) (numbered_as n ws) ≡ Some v
    go true t h further = ap Some (alone w (inl refl) (eqb-true w.number n t))
    go false t (inl same) further = absurd (true≢false (sym (eq-eqb w.number n (ap (λ (z : NamedValue T). z.number) (sym same) ∙ e)) ∙ t))
    go false t (inr later) further = further later

module _ {T A : Type 0} where
  -- the value of an index, with the name that attributes give it
  abbrev named : List (Text × AttrObj A) → ℕ → Typed (Option T) → NamedValue T
  named attributes i t = record { number = t.number; of_type = t.of_type; given = given_at i attributes }

  named_at : (attributes : List (Text × AttrObj A)) (i : ℕ) (vs : List (Typed (Option T))) (w : NamedValue T) → Among w (named_from attributes i vs)
      → (k : ℕ) × (t : Typed (Option T)) × (slice_get vs k ≡ Some t) × (w ≡ named attributes (i + k) t)
  named_at attributes i [] w h = absurd h
  named_at attributes i (v ∷ vs) w (inl e) = let same : i ≡ i + 0 = omega arith in (zero, v, refl, e ∙ ap (λ j. named attributes j v) same)
  named_at attributes i (v ∷ vs) w (inr h) =
      let r = named_at attributes (suc i) vs w h in
      let same : suc i + r.0 ≡ i + suc r.0 = omega arith in
      (suc r.0, r.1, r.2, r.3 ∙ ap (λ j. named attributes j r.1) same)

  named_among : (attributes : List (Text × AttrObj A)) (i : ℕ) (vs : List (Typed (Option T))) (j k : ℕ) (t : Typed (Option T)) → j ≡ i + k → slice_get vs k ≡ Some t → Among (named attributes j t) (named_from attributes i vs)
  named_among attributes i [] j k t p e = absurd (cc)
  named_among attributes i (v ∷ vs) j zero t p e =
      let same : t ≡ v = cc in
      let here : j ≡ i = omega (arith, p) in
      inl (ap (λ z. named attributes j z) same ∙ ap (λ n. named attributes n v) here)
  named_among attributes i (v ∷ vs) j (suc k) t p e = inr (named_among attributes (suc i) vs j k t (omega (arith, p)) e)

-- the object at a place is live under the generation of the place
at_cell : {X : Type 0} (s : Store X) (i : ℕ) (c : Cell X) → slice_get s.cells i ≡ Some c → object_in (slice_get s.cells i) c.generation ≡ c.object
at_cell s i c e = ap (λ o. object_in o c.generation) e ∙ ap (λ b. if b then c.object else None) (eq-eqb c.generation c.generation refl)

module _ {T A : Type 0} (ctx : ContextView T A) where
  -- a value as printing has it: its number, its type and its own name
  abbrev its : Value → Typed (Option T) → NamedValue T
  its v t = record { number = t.number; of_type = t.of_type; given = given_name ctx v }

  given_in : (k : ℕ) (e : OperationEntry T A) → option_and_then (λ (op : OperationView T A). unique.given_at k op.attributes) (operation_of e) ≡ given_at k (attributes_in e.content.content.data_of)
  given_in k e = go e.content.content.data_of
    where
      go : (d : Option (OperationData A)) → option_and_then (λ (op : OperationView T A). unique.given_at k op.attributes) (option_map (view_of e.content.content.results e.content.children) d) ≡ given_at k (attributes_in d)
      go None = refl
      go (Some held) = refl

  -- a value as the object under its pointer has it
  as_result : (p : Ptr Operation) (k : ℕ) (e : OperationEntry T A) (t : Typed (Option T)) → get ctx.graph.operations p ≡ Some e → its (Result p k) t ≡ named (attributes_in e.content.content.data_of) k t
  as_result p k e t there = ap (λ g. record { number = t.number; of_type = t.of_type; given = g }) (ap (λ o. option_and_then (λ (op : OperationView T A). unique.given_at k op.attributes) (option_and_then operation_of o)) there ∙ given_in k e)

  as_argument : (p : Ptr BasicBlock) (k : ℕ) (e : BlockEntry T A) (t : Typed (Option T)) → get ctx.graph.blocks p ≡ Some e → its (Argument p k) t ≡ named e.content.content.data_of.attributes k t
  as_argument p k e t there = ap (λ g. record { number = t.number; of_type = t.of_type; given = g }) (ap (λ o. option_and_then (λ (b : BlockView T A). unique.given_at k b.attributes) (option_map block_of o)) there)

  -- what is found among the values is one of them
  abbrev Is : NamedValue T → Type 0
  Is w = (v : Value) × (t : Typed (Option T)) × (value_at ctx.graph v ≡ Some t) × (w ≡ its v t)

  from_results : (i : ℕ) (c : Cell (Node BasicBlock Region (OperationContent (Option (OperationData A)) (Option T)))) → slice_get ctx.graph.operations.cells i ≡ Some c
      → (o : Option (OperationEntry T A)) → c.object ≡ o → (w : NamedValue T) → Among w (if_live named_results o) → Is w
  from_results i c at None is w h = absurd h
  from_results i c at (Some e) is w h =
      let p : Ptr Operation = record { index = i; generation = c.generation; of = record {} } in
      let there : get ctx.graph.operations p ≡ Some e = at_cell ctx.graph.operations i c at ∙ is in
      let n = named_at (attributes_in e.content.content.data_of) 0 e.content.content.results w h in
      let place : 0 + n.0 ≡ n.0 = omega arith in (
        Result p n.0,
        n.1,
        ap (λ o. slice_get (results_of (option_map (λ x. x.content.content) o)) n.0) there ∙ n.2,
        n.3 ∙ ap (λ j. named (attributes_in e.content.content.data_of) j n.1) place ∙ sym (as_result p n.0 e n.1 there),
      )

  from_arguments : (i : ℕ) (c : Cell (Node Region Operation (BlockContent (BlockData A) (Option T)))) → slice_get ctx.graph.blocks.cells i ≡ Some c
      → (o : Option (BlockEntry T A)) → c.object ≡ o → (w : NamedValue T) → Among w (if_live named_arguments o) → Is w
  from_arguments i c at None is w h = absurd h
  from_arguments i c at (Some e) is w h =
      let p : Ptr BasicBlock = record { index = i; generation = c.generation; of = record {} } in
      let there : get ctx.graph.blocks p ≡ Some e = at_cell ctx.graph.blocks i c at ∙ is in
      let n = named_at e.content.content.data_of.attributes 0 e.content.content.arguments w h in
      let place : 0 + n.0 ≡ n.0 = omega arith in (
        Argument p n.0,
        n.1,
        ap (λ o. slice_get (arguments_of (option_map (λ x. x.content.content) o)) n.0) there ∙ n.2,
        n.3 ∙ ap (λ j. named e.content.content.data_of.attributes j n.1) place ∙ sym (as_argument p n.0 e n.1 there),
      )

  each_is : (w : NamedValue T) → Among w (values_of ctx) → Is w
  each_is w h = elim (among_either w (flat_map (λ c. if_live named_results c.object) ctx.graph.operations.cells) (flat_map (λ c. if_live named_arguments c.object) ctx.graph.blocks.cells) h) [
    | inl l ↦ let r = all_among (λ c. if_live named_results c.object) ctx.graph.operations.cells w l in from_results r.0 r.1 r.2 r.1.object refl w r.3
    | inr l ↦ let r = all_among (λ c. if_live named_arguments c.object) ctx.graph.blocks.cells w l in from_arguments r.0 r.1 r.2 r.1.object refl w r.3
  ]

  -- each value is among them
  among_results : (p : Ptr Operation) (k : ℕ) (t : Typed (Option T)) → value_at ctx.graph (Result p k) ≡ Some t → Among (its (Result p k) t) (flat_map (λ c. if_live named_results c.object) ctx.graph.operations.cells)
  among_results p k t h = among_listed ctx.graph.operations.cells (λ o. results_of (option_map (λ x. x.content.content) o)) (if_live named_results) p.index p.generation k t (its (Result p k) t) (λ e. cc)
      (λ e there got. subst (λ w. Among w (named_from (attributes_in e.content.content.data_of) 0 e.content.content.results)) (sym (as_result p k e t there)) (named_among (attributes_in e.content.content.data_of) 0 e.content.content.results k k t (omega arith) got)) h

  among_arguments : (p : Ptr BasicBlock) (k : ℕ) (t : Typed (Option T)) → value_at ctx.graph (Argument p k) ≡ Some t → Among (its (Argument p k) t) (flat_map (λ c. if_live named_arguments c.object) ctx.graph.blocks.cells)
  among_arguments p k t h = among_listed ctx.graph.blocks.cells (λ o. arguments_of (option_map (λ x. x.content.content) o)) (if_live named_arguments) p.index p.generation k t (its (Argument p k) t) (λ e. cc)
      (λ e there got. subst (λ w. Among w (named_from e.content.content.data_of.attributes 0 e.content.content.arguments)) (sym (as_argument p k e t there)) (named_among e.content.content.data_of.attributes 0 e.content.content.arguments k k t (omega arith) got)) h

  is_among : (v : Value) (t : Typed (Option T)) → value_at ctx.graph v ≡ Some t → Among (its v t) (values_of ctx)
  is_among (Result p k) t h = among_left (its (Result p k) t) (flat_map (λ c. if_live named_results c.object) ctx.graph.operations.cells) (flat_map (λ c. if_live named_arguments c.object) ctx.graph.blocks.cells)
      (among_results p k t h)
  is_among (Argument p k) t h = among_right (its (Argument p k) t) (flat_map (λ c. if_live named_results c.object) ctx.graph.operations.cells) (flat_map (λ c. if_live named_arguments c.object) ctx.graph.blocks.cells)
      (among_arguments p k t h)

  -- the value that is found by a value's number is this one
  by_number : NumbersDiffer ctx.graph → (v : Value) (t : Typed (Option T)) → value_at ctx.graph v ≡ Some t → numbered_as t.number (values_of ctx) ≡ Some (its v t)
  by_number differ v t h = found_as t.number (its v t) (values_of ctx) (is_among v t h) refl (λ w m e.
      let r = each_is w m in
      let same : r.0 ≡ v = differ r.0 v r.1 t r.2 h (ap (λ (z : NamedValue T). z.number) (sym r.3) ∙ e) in
      let alike : r.1 ≡ t = same_Some r.1 t (sym r.2 ∙ ap (value_at ctx.graph) same ∙ h) in
      r.3 ∙ ap (λ z. its z r.1) same ∙ ap (its v) alike)

  -- and so is its name
  pub given_by_number : NumbersDiffer ctx.graph → (v : Value) → IfSome (value_at ctx.graph v) (λ t. given_to ctx t.number ≡ given_name ctx v)
  given_by_number differ v = go (value_at ctx.graph v) refl
    where
      go : (o : Option (Typed (Option T))) → value_at ctx.graph v ≡ o → IfSome o (λ t. given_to ctx t.number ≡ given_name ctx v)
      go None e = tt
      go (Some t) e = ap (λ o. option_and_then (λ (w : NamedValue T). w.given) o) (by_number differ v t e)

  -- and its type
  pub type_by_number : NumbersDiffer ctx.graph → (v : Value) → IfSome (value_at ctx.graph v) (λ t. type_of ctx t.number ≡ t.of_type)
  type_by_number differ v = go (value_at ctx.graph v) refl
    where
      go : (o : Option (Typed (Option T))) → value_at ctx.graph v ≡ o → IfSome o (λ t. type_of ctx t.number ≡ t.of_type)
      go None e = tt
      go (Some t) e = ap (λ o. option_and_then (λ (w : NamedValue T). w.of_type) o) (by_number differ v t e)

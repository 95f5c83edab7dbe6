-- An operation of a context and everything nested in it define no value and no block twice.
use Rattle.std.proofs.Common.{◌≡◌, ◌+◌, ◌≤◌, ◌⊎◌, ℕ, zero, suc, Bool, true, false, cond, Option, Some, None, refl, sym, ap, ◌∙◌, subst, inl, inr, arith, List, [], ◌∷◌, map, filter_map, drop, length, slice_get}
use Rattle.std.specs.Prelude.{⊤}
use Rattle.std.specs.List.{cons_option}
use Rattle.std.specs.Option.{option_map}
use Rattle.irtext_base.specs.Text.{Text}
use Rattle.irtext_base.specs.Format as format
use Rattle.irtext_base.specs.Format.{Format, Directive, Id, operand_places, successor_places}
use Rattle.irtext_context.specs.Context.{ContextView, OperationView, BlockView, operation, block}
use Rattle.irtext_graph.specs.declared.arena.Ptr.{Ptr}
use Rattle.irtext_graph.specs.declared.object.BasicBlock.{BasicBlock}
use Rattle.irtext_graph.specs.declared.object.Object.{Object}
use Rattle.irtext_graph.specs.declared.object.Object.TheVariants.{TheOperation, TheBlock, TheRegion}
use Rattle.irtext_graph.specs.declared.object.Operation.{Operation}
use Rattle.irtext_graph.specs.declared.object.Region.{Region}
use Rattle.irtext_graph.specs.declared.object.Value.{Value}
use Rattle.irtext_graph.specs.declared.object.Value.TheVariants.{Result, Argument}
use Rattle.irtext_graph.specs.Chained.{Among}
use Rattle.irtext_graph.specs.Content.{Typed}
use Rattle.irtext_graph.specs.Graph.{children, parent, IsInside}
use Rattle.irtext_graph.specs.Nested.{Nested}
use Rattle.irtext_graph.specs.Numbers.{NumbersDiffer}
use Rattle.irtext_graph.specs.Parts.{results, arguments, regions, blocks, operations_in}
use Rattle.irtext_graph.proofs.Inside.{within_self, within_up, within_on}
use Rattle.irtext_graph.proofs.Same.{ptr_same}
use Rattle.irtext_grammar.specs.Contexts.Nested.{typed_number, place_of, seen_operation, seen_block, seen_regions, seen_blocks, seen_operations, seen_root, operations_by, blocks_by, regions_by, within}
use Rattle.irtext_grammar.specs.Grammar.Forest.{Regions, region, Blocks, Operations}
use Rattle.irtext_grammar.specs.Grammar.Forest as forest
use Rattle.irtext_grammar.specs.Graphs.Closed.{Thing, a_value, a_block, same_thing, uses_of_values, uses_of_blocks, use_if, use_block_if, defined_results, defined_arguments, directives_script, body_script, op_script, graph_regions, graph_blocks, graph_operations, graph_script}
use Rattle.irtext_grammar.specs.Graphs.Graph.{Graph, GraphOp, GraphBlock, Printing}
use Rattle.irtext_grammar.specs.Graphs.Represents.{made, Distinct}
use Rattle.irtext_grammar.specs.Names.Acts.{all_of}
use Rattle.irtext_grammar.specs.Names.Script as script
use Rattle.irtext_grammar.specs.Names.Script.{Path, Script, done, does_all}
use Rattle.irtext_grammar.proofs.Counted.{counted, counted_append, distinct_counted, thing_same}
use Rattle.irtext_grammar.proofs.Kin.{Kin, kin, not_above, same_child, parent_of}

-- what a script defines, counted
abbrev Defines : Thing → Script Thing ⊤ → ℕ
Defines x s = counted x (made s)

-- uses define nothing
values_make : (x : Thing) (p : Path) (k : ℕ) (vs : List ℕ) (s : Script Thing ⊤) → Defines x (does_all (uses_of_values p k vs) s) ≡ Defines x s
values_make x p k [] s = refl
values_make x p k (v ∷ vs) s = values_make x p (suc k) vs s

blocks_make : (x : Thing) (p : Path) (k : ℕ) (bs : List (ℕ × ℕ)) (s : Script Thing ⊤) → Defines x (does_all (uses_of_blocks p k bs) s) ≡ Defines x s
blocks_make x p k [] s = refl
blocks_make x p k (b ∷ bs) s = blocks_make x p (suc k) bs s

value_makes : (x : Thing) (p : Path) (i : ℕ) (o : Option ℕ) (s : Script Thing ⊤) → Defines x (does_all (use_if p i o) s) ≡ Defines x s
value_makes x p i None s = refl
value_makes x p i (Some v) s = refl

block_makes : (x : Thing) (p : Path) (i : ℕ) (o : Option (ℕ × ℕ)) (s : Script Thing ⊤) → Defines x (does_all (use_block_if p i o) s) ≡ Defines x s
block_makes x p i None s = refl
block_makes x p i (Some b) s = refl

-- values that are defined, as items of type `Thing`
abbrev named : {T : Type 0} → List (ℕ × T) → List Thing
named rs = map (λ r. a_value r.0) rs

results_make : {T : Type 0} (x : Thing) (p : Path) (k : ℕ) (rs : List (ℕ × T)) (s : Script Thing ⊤) → Defines x (does_all (defined_results p k rs) s) ≡ counted x (named rs) + Defines x s
results_make x p k [] s = omega arith
results_make x p k (r ∷ rs) s = let e = results_make x p (suc k) rs s in omega (arith, e)

arguments_make : {T : Type 0} (x : Thing) (p : Path) (k : ℕ) (rs : List (ℕ × T)) (s : Script Thing ⊤) → Defines x (does_all (defined_arguments p k rs) s) ≡ counted x (named rs) + Defines x s
arguments_make x p k [] s = omega arith
arguments_make x p k (r ∷ rs) s = let e = arguments_make x p (suc k) rs s in omega (arith, e)

-- ---- values in a row

-- values with one number are one
abbrev Once : {T : Type 0} → List (Typed (Option T)) → Type 0
Once {T} vs = (i j : ℕ) (t u : Typed (Option T)) → slice_get vs i ≡ Some t → slice_get vs j ≡ Some u → t.number ≡ u.number → i ≡ j

-- x is none of the values, or one of them
abbrev OneOf : {T : Type 0} → Thing → List (Typed (Option T)) → ℕ → Type 0
OneOf {T} x vs n = (n ≡ 0) ⊎ ((n ≡ 1) × (i : ℕ) × (t : Typed (Option T)) × (slice_get vs i ≡ Some t) × (x ≡ a_value t.number))

module _ {T : Type 0} (x : Thing) (v : Typed (Option T)) (vs : List (Typed (Option T))) (once : Once (v ∷ vs)) where
  one_more : (n : ℕ) → OneOf x vs n → (b : Bool) → (b ≡ true → x ≡ a_value v.number) → OneOf x (v ∷ vs) (cond b 1 0 + n)
  one_more n h true is = elim h [
    | inl none ↦ inr (omega (arith, none), zero, v, refl, is refl)
    | inr one ↦
        let same : v.number ≡ one.2.number = number_same v.number one.2.number (sym (is refl) ∙ one.4) in
        let e = once zero (suc one.1) v one.2 refl one.3 same in
        absurd (omega (arith, e))
  ]
    where
      number_same : (m n : ℕ) → a_value m ≡ a_value n → m ≡ n
      number_same m n e = cc
  one_more n h false is = elim h [
    | inl none ↦ inl (omega (arith, none))
    | inr one ↦ let e = one.0 in inr (omega (arith, e), suc one.1, one.2, one.3, one.4)
  ]

  skipped : (n : ℕ) → OneOf x vs n → OneOf x (v ∷ vs) n
  skipped n h = elim h [ inl none ↦ inl none | inr one ↦ inr (one.0, suc one.1, one.2, one.3, one.4) ]

one_of : {T : Type 0} (x : Thing) (vs : List (Typed (Option T))) → Once vs → OneOf x vs (counted x (named (filter_map typed_number vs)))
one_of x [] once = inl refl
one_of {T} x (v ∷ vs) once = go v.of_type (one_of x vs (λ i j t u e f q. let k = once (suc i) (suc j) t u e f q in omega (arith, k)))
  where
    go : (o : Option T) → OneOf x vs (counted x (named (filter_map typed_number vs))) → OneOf x (v ∷ vs) (counted x (named (cons_option (option_map (λ (t : T). (v.number, t)) o) (filter_map typed_number vs))))
    go None inner = skipped x v vs once (counted x (named (filter_map typed_number vs))) inner
    go (Some t) inner = one_more x v vs once (counted x (named (filter_map typed_number vs))) inner (same_thing x (a_value v.number)) (thing_same x (a_value v.number))

-- ---- objects

-- the object that defines a value
abbrev definer : Value → Object
definer (Result p i) = TheOperation p
definer (Argument b i) = TheBlock b

module _ {T A : Type 0} (text_of : A → Text) (ctx : ContextView T A) (C : Printing T A) (isolated : Id → Bool)
    (nested : Nested (children ctx.graph) (parent ctx.graph)) (differ : NumbersDiffer ctx.graph) where
  -- an object defines a value or a block
  abbrev Gives : Object → Thing → Type 0
  Gives (TheOperation p) (a_value n) = (i : ℕ) × (t : Typed (Option T)) × (slice_get (results ctx.graph p) i ≡ Some t) × (t.number ≡ n)
  Gives (TheOperation p) (a_block at) = ⊥
  Gives (TheBlock b) (a_value n) = (i : ℕ) × (t : Typed (Option T)) × (slice_get (arguments ctx.graph b) i ≡ Some t) × (t.number ≡ n)
  Gives (TheBlock b) (a_block at) = place_of ctx b ≡ at
  Gives (TheRegion r) x = ⊥

  same_block : (b c : Ptr BasicBlock) (at : ℕ × ℕ) → place_of ctx b ≡ at → place_of ctx c ≡ at → b ≡ c
  same_block b c at e f =
      let whole : place_of ctx b ≡ place_of ctx c = e ∙ sym f in
      let index : ctx.graph.first_place + b.index ≡ ctx.graph.first_place + c.index = ap (λ z. z.0) whole in
      ptr_same b c (omega (arith, index)) (ap (λ z. z.1) whole)

  -- what defines it is one object
  one_giver : (o q : Object) (x : Thing) → Gives o x → Gives q x → o ≡ q
  one_giver (TheOperation p) (TheOperation q) (a_value n) h k = ap definer (differ (Result p h.0) (Result q k.0) h.1 k.1 h.2 k.2 (h.3 ∙ sym k.3))
  one_giver (TheOperation p) (TheBlock q) (a_value n) h k = ap definer (differ (Result p h.0) (Argument q k.0) h.1 k.1 h.2 k.2 (h.3 ∙ sym k.3))
  one_giver (TheBlock p) (TheOperation q) (a_value n) h k = ap definer (differ (Argument p h.0) (Result q k.0) h.1 k.1 h.2 k.2 (h.3 ∙ sym k.3))
  one_giver (TheBlock p) (TheBlock q) (a_value n) h k = ap definer (differ (Argument p h.0) (Argument q k.0) h.1 k.1 h.2 k.2 (h.3 ∙ sym k.3))
  one_giver (TheBlock p) (TheBlock q) (a_block at) h k = ap TheBlock (same_block p q at h k)
  one_giver (TheOperation p) q (a_block at) h k = absurd h
  one_giver (TheBlock p) (TheOperation q) (a_block at) h k = absurd k
  one_giver (TheBlock p) (TheRegion q) x h k = absurd k
  one_giver (TheOperation p) (TheRegion q) (a_value n) h k = absurd k
  one_giver (TheRegion p) q x h k = absurd h

  -- an object, with everything nested in it, defines x n times, and at most once
  abbrev Few : Thing → Object → ℕ → Type 0
  Few x o n = (n ≡ 0) ⊎ ((n ≡ 1) × (q : Object) × IsInside ctx.graph o q × Gives q x)

  -- several objects, with everything nested in them, define x n times, and at most once
  abbrev Any : Thing → List Object → ℕ → Type 0
  Any x os n = (n ≡ 0) ⊎ ((n ≡ 1) × (c : Object) × Among c os × (q : Object) × IsInside ctx.graph c q × Gives q x)

  -- an object itself does
  abbrev Own : Thing → Object → ℕ → Type 0
  Own x o n = (n ≡ 0) ⊎ ((n ≡ 1) × Gives o x)

  abbrev Siblings : Object → List Object → Type 0
  Siblings k os = Kin (parent ctx.graph) k os

  none_any : (x : Thing) (n : ℕ) → Any x [] n → n ≡ 0
  none_any x n h = elim h [ inl e ↦ e | inr one ↦ absurd one.2 ]

  any_more : (x : Thing) (k c : Object) (os : List Object) (n m : ℕ) → Siblings k (c ∷ os) → Few x c n → Any x os m → Any x (c ∷ os) (n + m)
  any_more x k c os n m s h r = elim h [
    | inl none ↦ elim r [
      | inl naught ↦ inl (omega (arith, none, naught))
      | inr one ↦ let e = one.0 in inr (omega (arith, none, e), one.1, inr one.2, one.3, one.4, one.5)
    ]
    | inr here ↦ elim r [
      | inl naught ↦ let e = here.0 in inr (omega (arith, e, naught), c, inl refl, here.1, here.2, here.3)
      | inr one ↦
          let same : one.3 ≡ here.1 = one_giver one.3 here.1 x one.5 here.3 in
          let inside : IsInside ctx.graph one.1 here.1 = subst (λ z. IsInside ctx.graph one.1 z) same one.4 in
          let child = same_child nested k c one.1 here.1 s.1.0 (parent_of (parent ctx.graph) k os s.1.1 one.1 one.2) here.2 inside in
          absurd (s.0.0 (subst (λ z. Among z os) (sym child) one.2))
    ]
  ]

  any_skip : (x : Thing) (c : Object) (os : List Object) (n : ℕ) → Any x os n → Any x (c ∷ os) n
  any_skip x c os n r = elim r [ inl naught ↦ inl naught | inr one ↦ inr (one.0, one.1, inr one.2, one.3, one.4, one.5) ]

  -- the object itself, and what its children define
  own_more : (x : Thing) (k : Object) (os : List Object) (n m : ℕ) → Siblings k os → Own x k n → Any x os m → Few x k (n + m)
  own_more x k os n m s h r = elim h [
    | inl none ↦ elim r [
      | inl naught ↦ inl (omega (arith, none, naught))
      | inr one ↦
          let e = one.0 in
          let up = parent_of (parent ctx.graph) k os s.1 one.1 one.2 in
          inr (omega (arith, none, e), one.3, within_on (parent ctx.graph) k one.1 one.3 (within_up (parent ctx.graph) k one.1 k up (within_self (parent ctx.graph) k)) one.4, one.5)
    ]
    | inr here ↦ elim r [
      | inl naught ↦ let e = here.0 in inr (omega (arith, e, naught), k, within_self (parent ctx.graph) k, here.1)
      | inr one ↦
          let same : one.3 ≡ k = one_giver one.3 k x one.5 here.1 in
          let up = parent_of (parent ctx.graph) k os s.1 one.1 one.2 in
          absurd (not_above nested k one.1 up (subst (λ z. IsInside ctx.graph one.1 z) same one.4))
    ]
  ]

  results_once : (p : Ptr Operation) → Once (results ctx.graph p)
  results_once p i j t u e f n = place (differ (Result p i) (Result p j) t u e f n)
    where
      place : Result p i ≡ Result p j → i ≡ j
      place e = cc

  arguments_once : (b : Ptr BasicBlock) → Once (arguments ctx.graph b)
  arguments_once b i j t u e f n = place (differ (Argument b i) (Argument b j) t u e f n)
    where
      place : Argument b i ≡ Argument b j → i ≡ j
      place e = cc

  results_own : (x : Thing) (p : Ptr Operation) (n : ℕ) → OneOf x (results ctx.graph p) n → Own x (TheOperation p) n
  results_own x p n h = elim h [ inl none ↦ inl none | inr one ↦ inr (one.0, subst (Gives (TheOperation p)) (sym one.4) (one.1, one.2, one.3, refl)) ]

  -- a block's arguments and its label
  block_own : (x : Thing) (b : Ptr BasicBlock) (n : ℕ) → OneOf x (arguments ctx.graph b) n → (t : Bool) → (t ≡ true → x ≡ a_block (place_of ctx b)) → Own x (TheBlock b) (n + cond t 1 0)
  block_own x b n h true is = elim h [
    | inl none ↦ inr (omega (arith, none), subst (Gives (TheBlock b)) (sym (is refl)) refl)
    | inr one ↦ absurd (other one.2.number (place_of ctx b) (sym one.4 ∙ is refl))
  ]
    where
      other : (n : ℕ) (at : ℕ × ℕ) → a_value n ≡ a_block at → ⊥
      other n at e = cc
  block_own x b n h false is = elim h [
    | inl none ↦ inl (omega (arith, none))
    | inr one ↦ let e = one.0 in inr (omega (arith, e), subst (Gives (TheBlock b)) (sym one.4) (one.1, one.2, one.3, refl))
  ]

  -- ---- scripts

  -- a region's script defines x as often as the region does, whatever script follows
  abbrev Region1 : Thing → Object → (Script Thing ⊤ → Script Thing ⊤) → Type 0
  Region1 x o r = (n : ℕ) × Few x o n × ((s : Script Thing ⊤) → Defines x (r s) ≡ n + Defines x s)

  -- the same of regions in a row
  abbrev RegionsOf : Thing → List Object → List (Script Thing ⊤ → Script Thing ⊤) → Type 0
  RegionsOf x [] [] = ⊤
  RegionsOf x (o ∷ os) (r ∷ rs) = Region1 x o r × RegionsOf x os rs
  RegionsOf x _ _ = ⊥

  -- a script defines what some of these objects do, and then another
  abbrev Then : Thing → List Object → Script Thing ⊤ → Script Thing ⊤ → Type 0
  Then x os s then = (n : ℕ) × Any x os n × (Defines x s ≡ n + Defines x then)

  then_same : (x : Thing) (os : List Object) (s t then : Script Thing ⊤) → Defines x s ≡ Defines x t → Then x os t then → Then x os s then
  then_same x os s t then e h = (h.0, h.1, e ∙ h.2)

  all_few : (x : Thing) (k : Object) (os : List Object) (rs : List (Script Thing ⊤ → Script Thing ⊤)) → Siblings k os → RegionsOf x os rs → (then : Script Thing ⊤) → Then x os (all_of rs then) then
  all_few x k [] [] s h then = (0, inl refl, omega arith)
  all_few x k [] (r ∷ rs) s h then = absurd h
  all_few x k (o ∷ os) [] s h then = absurd h
  all_few x k (o ∷ os) (r ∷ rs) s h then =
      let more = all_few x k os rs (s.0.1, s.1.1) h.1 then in
      let e = h.0.2 (all_of rs then) in
      let f = more.2 in
      (h.0.0 + more.0, any_more x k o os h.0.0 more.0 s h.0.1 more.1, omega (arith, e, f))

  module _ (x : Thing) (k : Object) (ds : List Directive) (p : Path) (o : GraphOp T A) (then : Script Thing ⊤) where
    directives_few : (rest : List Directive) (os : List Object) (rs : List (Script Thing ⊤ → Script Thing ⊤)) → Siblings k os → RegionsOf x os rs → Then x os (directives_script ds p o rest rs then) then
    directives_few [] os rs s h = (0, inl refl, omega arith)
    directives_few (format.operand i ∷ rest) os rs s h =
        then_same x os (does_all (use_if p i (slice_get o.operands i)) (directives_script ds p o rest rs then)) (directives_script ds p o rest rs then) then (value_makes x p i (slice_get o.operands i) (directives_script ds p o rest rs then)) (directives_few rest os rs s h)
    directives_few (format.operands ∷ rest) os rs s h =
        then_same x os (does_all (uses_of_values p (length (operand_places ds)) (drop (length (operand_places ds)) o.operands)) (directives_script ds p o rest rs then)) (directives_script ds p o rest rs then) then (values_make x p (length (operand_places ds)) (drop (length (operand_places ds)) o.operands) (directives_script ds p o rest rs then)) (directives_few rest os rs s h)
    directives_few (format.successor i ∷ rest) os rs s h =
        then_same x os (does_all (use_block_if p i (slice_get o.successors i)) (directives_script ds p o rest rs then)) (directives_script ds p o rest rs then) then (block_makes x p i (slice_get o.successors i) (directives_script ds p o rest rs then)) (directives_few rest os rs s h)
    directives_few (format.successors ∷ rest) os rs s h =
        then_same x os (does_all (uses_of_blocks p (length (successor_places ds)) (drop (length (successor_places ds)) o.successors)) (directives_script ds p o rest rs then)) (directives_script ds p o rest rs then) then (blocks_make x p (length (successor_places ds)) (drop (length (successor_places ds)) o.successors) (directives_script ds p o rest rs then)) (directives_few rest os rs s h)
    directives_few (format.region i ∷ rest) os [] s h = directives_few rest os [] s h
    directives_few (format.region i ∷ rest) [] (r ∷ rs) s h = absurd h
    directives_few (format.region i ∷ rest) (c ∷ os) (r ∷ rs) s h =
        let more = directives_few rest os rs (s.0.1, s.1.1) h.1 in
        let e = h.0.2 (directives_script ds p o rest rs then) in
        let f = more.2 in
        (h.0.0 + more.0, any_more x k c os h.0.0 more.0 s h.0.1 more.1, omega (arith, e, f))
    directives_few (format.regions ∷ rest) os rs s h =
        let more = directives_few rest [] [] (tt, tt) tt in
        let e = all_few x k os rs s h (directives_script ds p o rest [] then) in
        let none = none_any x more.0 more.1 in
        let f = e.2 in
        let q = more.2 in
        (e.0, e.1, omega (arith, none, f, q))
    directives_few (_ ∷ rest) os rs s h = directives_few rest os rs s h

  body_few : (x : Thing) (k : Object) (f : Option Format) (p : Path) (o : GraphOp T A) (os : List Object) (rs : List (Script Thing ⊤ → Script Thing ⊤)) → Siblings k os → RegionsOf x os rs → (then : Script Thing ⊤)
      → Then x os (body_script f p o rs then) then
  body_few x k (Some (format.custom ds)) p o os rs s h then = directives_few x k ds p o then ds os rs s h
  body_few x k (Some format.canonical) p o os rs s h then =
      then_same x os (does_all (uses_of_values p 0 o.operands) (does_all (uses_of_blocks p 0 o.successors) (all_of rs then))) (all_of rs then) then
      (values_make x p 0 o.operands (does_all (uses_of_blocks p 0 o.successors) (all_of rs then)) ∙ blocks_make x p 0 o.successors (all_of rs then)) (all_few x k os rs s h then)
  body_few x k None p o os rs s h then =
      then_same x os (does_all (uses_of_values p 0 o.operands) (does_all (uses_of_blocks p 0 o.successors) (all_of rs then))) (all_of rs then) then
      (values_make x p 0 o.operands (does_all (uses_of_blocks p 0 o.successors) (all_of rs then)) ∙ blocks_make x p 0 o.successors (all_of rs then)) (all_few x k os rs s h then)

  -- ---- what is nested in an operation

  -- the regions of an operation, as scripts
  abbrev Inner : Ptr Operation → Regions (Ptr Operation) (Ptr BasicBlock) (Ptr Region) → Type 0
  Inner p rs = (os : List Object) × Siblings (TheOperation p) os × ((x : Thing) (at : Path) (j : ℕ) (iso : Bool) → RegionsOf x os (graph_regions C isolated at j iso (seen_regions text_of ctx rs)))

  -- an operation with its regions
  operation_few : (x : Thing) (p : Ptr Operation) (op : OperationView T A) (rs : Regions (Ptr Operation) (Ptr BasicBlock) (Ptr Region)) → Inner p rs → (at : Path) (j : ℕ) (iso : Bool) (then : Script Thing ⊤)
      → (n : ℕ) × Few x (TheOperation p) n × (Defines x (op_script C isolated at (seen_operation text_of ctx p op) (graph_regions C isolated at j iso (seen_regions text_of ctx rs)) then) ≡ n + Defines x then)
  operation_few x p op rs inner at j iso then =
      let o = seen_operation text_of ctx p op in
      let own = one_of x (results ctx.graph p) (results_once p) in
      let count = counted x (named (filter_map typed_number (results ctx.graph p))) in
      let body = body_few x (TheOperation p) (C.format_of o.id) at o inner.0 (graph_regions C isolated at j iso (seen_regions text_of ctx rs)) inner.1 (inner.2 x at j iso) (does_all (defined_results at 0 o.results) then) in
      let e = body.2 in
      let f = results_make x at 0 o.results then in
      (count + body.0, own_more x (TheOperation p) inner.0 count body.0 inner.1 (results_own x p count own) body.1, omega (arith, e, f))

  module _ (inside : Ptr Operation → Regions (Ptr Operation) (Ptr BasicBlock) (Ptr Region)) (inner : (p : Ptr Operation) → Inner p (inside p)) where
    abbrev operations_seen : List (Ptr Operation) → Operations (GraphOp T A) (GraphBlock T A) ⊤
    operations_seen ps = seen_operations text_of ctx (operations_by ctx.graph inside ps)

    abbrev blocks_seen : List (Ptr BasicBlock) → Blocks (GraphOp T A) (GraphBlock T A) ⊤
    blocks_seen bs = seen_blocks text_of ctx (blocks_by ctx.graph inside bs)

    operations_few : (x : Thing) (k : Object) (ps : List (Ptr Operation)) → Siblings k (map TheOperation ps) → (at : Path) (i : ℕ) (then : Script Thing ⊤)
        → Then x (map TheOperation ps) (graph_operations C isolated at i (operations_seen ps) then) then
    operations_few x k [] s at i then = (0, inl refl, omega arith)
    operations_few x k (p ∷ ps) s at i then = go (operation ctx p) (λ j. operations_few x k ps (s.0.1, s.1.1) at j then)
      where
        go : (o : Option (OperationView T A)) → ((j : ℕ) → Then x (map TheOperation ps) (graph_operations C isolated at j (operations_seen ps) then) then)
            → Then x (TheOperation p ∷ map TheOperation ps)
            (graph_operations C isolated at i (elim o [ Some op ↦ forest.operation (seen_operation text_of ctx p op) (seen_regions text_of ctx (inside p)) (operations_seen ps) | None ↦ operations_seen ps ]) then) then
        go None others = let more = others i in (more.0, any_skip x (TheOperation p) (map TheOperation ps) more.0 more.1, more.2)
        go (Some op) others =
            let more = others (suc i) in
            let here = operation_few x p op (inside p) (inner p) (i ∷ at) 0 (isolated (seen_operation text_of ctx p op).id) (graph_operations C isolated at (suc i) (operations_seen ps) then) in
            let e = here.2 in
            let f = more.2 in
            (here.0 + more.0, any_more x k (TheOperation p) (map TheOperation ps) here.0 more.0 s here.1 more.1, omega (arith, e, f))

    -- a block's own
    block_few : (x : Thing) (b : Ptr BasicBlock) (view : BlockView T A) (at : Path) (then : Script Thing ⊤) → (n : ℕ) × Few x (TheBlock b) n
        × (Defines x (does_all (defined_arguments at 0 (seen_block text_of ctx b view).arguments) (script.does (script.define_label (record { name = a_block (place_of ctx b); at = tt }) (script.block_at at))
        (graph_operations C isolated at 0 (operations_seen (operations_in ctx.graph b)) then))) ≡ n + Defines x then)
    block_few x b view at then =
        let here = a_block (place_of ctx b) in
        let count = counted x (named (filter_map typed_number (arguments ctx.graph b))) in
        let own = block_own x b count (one_of x (arguments ctx.graph b) (arguments_once b)) (same_thing x here) (thing_same x here) in
        let s = kin nested (TheBlock b) in
        let more = operations_few x (TheBlock b) (operations_in ctx.graph b) s at 0 then in
        let os = graph_operations C isolated at 0 (operations_seen (operations_in ctx.graph b)) then in
        let e = arguments_make x at 0 (seen_block text_of ctx b view).arguments (script.does (script.define_label (record { name = here; at = tt }) (script.block_at at)) os) in
        let f = more.2 in
        let label : ℕ = cond (same_thing x here) 1 0 in
        ((count + label) + more.0, own_more x (TheBlock b) (map TheOperation (operations_in ctx.graph b)) (count + label) more.0 s own more.1, omega (arith, e, f))

    blocks_few : (x : Thing) (k : Object) (bs : List (Ptr BasicBlock)) → Siblings k (map TheBlock bs) → (at : Path) (j : ℕ)
        → Any x (map TheBlock bs) (Defines x (graph_blocks C isolated at j (blocks_seen bs)))
    blocks_few x k [] s at j = inl refl
    blocks_few x k (b ∷ bs) s at j = go (block ctx b) (λ i. blocks_few x k bs (s.0.1, s.1.1) at i)
      where
        go : (o : Option (BlockView T A)) → ((i : ℕ) → Any x (map TheBlock bs) (Defines x (graph_blocks C isolated at i (blocks_seen bs)))) → Any x (TheBlock b ∷ map TheBlock bs)
            (Defines x (graph_blocks C isolated at j (elim o [ Some view ↦ forest.block (seen_block text_of ctx b view) (operations_seen (operations_in ctx.graph b)) (blocks_seen bs) | None ↦ blocks_seen bs ])))
        go None others = any_skip x (TheBlock b) (map TheBlock bs) (Defines x (graph_blocks C isolated at j (blocks_seen bs))) (others j)
        go (Some view) others =
            let here = block_few x b view (j ∷ at) (graph_blocks C isolated at (suc j) (blocks_seen bs)) in
            subst (Any x (TheBlock b ∷ map TheBlock bs)) (sym here.2) (any_more x k (TheBlock b) (map TheBlock bs) here.0 (Defines x (graph_blocks C isolated at (suc j) (blocks_seen bs))) s here.1 (others (suc j)))

    -- a region, whatever script follows
    region_few : (x : Thing) (r : Ptr Region) (at : Path) (iso : Bool) → Region1 x (TheRegion r) (script.within iso tt (graph_blocks C isolated at 0 (blocks_seen (blocks ctx.graph r))))
    region_few x r at iso =
        let body = graph_blocks C isolated at 0 (blocks_seen (blocks ctx.graph r)) in
        let s = kin nested (TheRegion r) in
        let n : ℕ = Defines x body in
        let few : Few x (TheRegion r) (0 + n) = own_more x (TheRegion r) (map TheBlock (blocks ctx.graph r)) 0 n s (inl refl) (blocks_few x (TheRegion r) (blocks ctx.graph r) s at 0) in
        (0 + n, few, λ then. let e = counted_append x (made body) (made then) in omega (arith, e))

    regions_few : (x : Thing) (rs : List (Ptr Region)) (at : Path) (j : ℕ) (iso : Bool) → RegionsOf x (map TheRegion rs) (graph_regions C isolated at j iso (seen_regions text_of ctx (regions_by ctx.graph inside rs)))
    regions_few x [] at j iso = tt
    regions_few x (r ∷ rs) at j iso = (region_few x r (j ∷ at) iso, regions_few x rs at (suc j) iso)

  -- so many operations deep
  deep : (n : ℕ) (p : Ptr Operation) → Inner p (within ctx.graph n p)
  deep zero p = ([], (tt, tt), λ x at j iso. tt)
  deep (suc n) p = (map TheRegion (regions ctx.graph p), kin nested (TheOperation p), λ x at j iso. regions_few (within ctx.graph n) (deep n) x (regions ctx.graph p) at j iso)

  abbrev inside_of : Ptr Operation → Regions (Ptr Operation) (Ptr BasicBlock) (Ptr Region)
  inside_of p = within ctx.graph (suc (length ctx.graph.operations.cells)) p

  abbrev graph_at : Ptr Operation → OperationView T A → Graph T A
  graph_at p op = record { own = seen_operation text_of ctx p op; regions = seen_regions text_of ctx (inside_of p) }

  few_under : (p : Ptr Operation) (op : OperationView T A) (x : Thing) → Defines x (graph_script C isolated (graph_at p op)) ≤ 1
  few_under p op x =
      let r = operation_few x p op (inside_of p) (deep (suc (length ctx.graph.operations.cells)) p) [] 0 (isolated (seen_operation text_of ctx p op).id) done in
      let e = r.2 in
      elim r.1 [ inl none ↦ omega (arith, e, none) | inr one ↦ let q = one.0 in omega (arith, e, q) ]

  -- no value and no block is defined twice under an operation
  pub distinct_under : (p : Ptr Operation) (g : Graph T A) → seen_root text_of ctx p ≡ Some g → Distinct C isolated g
  distinct_under p g e = go (operation ctx p) e
    where
      is : (x y : Graph T A) → Some x ≡ Some y → x ≡ y
      is x y h = cc

      go : (o : Option (OperationView T A)) → option_map (graph_at p) o ≡ Some g → Distinct C isolated g
      go None h = absurd (cc)
      go (Some op) h = subst (Distinct C isolated) (is (graph_at p op) g h) (distinct_counted (made (graph_script C isolated (graph_at p op))) (few_under p op))

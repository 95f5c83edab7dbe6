-- What printing sees of a root that was parsed represents what the tree built: each number that is used refers to what the name referred
-- to.
use Rattle.std.proofs.Common.{◌≡◌, ◌∙◌, ◌+◌, ◌-◌, ◌&&◌, ℕ, suc, Bool, true, false, cond, List, [], ◌∷◌, map, filter_map, length, Option, Some, None, is_some, option_map, eqb-true, eq-eqb, refl, sym, ap, ap₂, subst, inl, inr, true≢false, arith}
use Rattle.std.specs.Prelude.{⊤, unwrap_or, option_and_then}
use Rattle.std.specs.List.{list_all, cons_option}
use Rattle.irtext_base.specs.Text.{Text}
use Rattle.irtext_base.specs.Format.{Id, same_text}
use Rattle.irtext_base.specs.Paths.{Written}
use Rattle.irtext_base.proofs.Characters.{and_left, and_right}
use Rattle.irtext_context.specs.Context.{ContextView, BlockView, block}
use Rattle.irtext_graph.specs.declared.arena.Ptr.{Ptr}
use Rattle.irtext_graph.specs.declared.object.Operation.{Operation}
use Rattle.irtext_graph.specs.declared.object.BasicBlock.{BasicBlock}
use Rattle.irtext_graph.specs.declared.object.Object.{Object}
use Rattle.irtext_graph.specs.declared.object.Value.{Value}
use Rattle.irtext_graph.specs.Chained.{Among}
use Rattle.irtext_graph.specs.Content.{Typed}
use Rattle.irtext_graph.specs.Parts.{results, arguments, operands, successors, value_at}
use Rattle.irtext_graph.proofs.Nests.{some_eq}
use Rattle.irtext_graph.proofs.Preorders.{among_left, among_right}
use Rattle.irtext_graph.proofs.Same.{ptr_same}
use Rattle.irtext_grammar.specs.Contexts.Held.{known_types}
use Rattle.irtext_grammar.specs.Contexts.Nested.{number_of, place_of, pointers, printing_over, seen_operation, seen_regions, seen_root}
use Rattle.irtext_grammar.specs.Grammar.Forest as forest
use Rattle.irtext_grammar.specs.Grammar.Forest.{Regions, no_regions, Blocks, no_blocks, Operations, no_operations, MatchRegions, MatchBlocks, MatchOperations, AllRegions, AllBlocks, AllOperations}
use Rattle.irtext_grammar.specs.Grammar.Section.{Entry}
use Rattle.irtext_grammar.specs.Grammar.Tree.{Name, Op, shown, elided, Tree, operand_names, successor_labels}
use Rattle.irtext_grammar.specs.Graphs.Build.{Built, BuiltOp, BuiltBlock, built_op, built_head, built_regions, built_blocks, built_operations, build}
use Rattle.irtext_grammar.specs.Graphs.Closed.{Thing, a_value, a_block, same_thing, graph_blocks, FitRegions, FitBlocks, FitOperations, Fit}
use Rattle.irtext_grammar.specs.Graphs.Graph.{Graph, GraphOp, GraphBlock, Printing}
use Rattle.irtext_grammar.specs.Graphs.Links.{OpLinked, Linked}
use Rattle.irtext_grammar.specs.Graphs.Same.{resolved_op, resolved_block, resolved_regions, resolved_blocks, resolved_operations, resolved_root}
use Rattle.irtext_grammar.specs.Graphs.Represents.{RepresentsOp, RepresentsBlock, Represents}
use Rattle.irtext_grammar.specs.Names.Acts.{result_types, blocks_script}
use Rattle.irtext_grammar.specs.Names.Resolves.{CountsAgree}
use Rattle.irtext_grammar.specs.Names.Scopes.{Fact, uses, defines, facts, lookup}
use Rattle.irtext_grammar.specs.Names.Script.{Path, Place}
use Rattle.irtext_grammar.specs.Spelling.Spellable.{Each}
use Rattle.irtext_grammar.proofs.Names.InScripts.{WholeRegions, WholeBlocks, WholeOperations}
use Rattle.irtext_grammar.specs.ContextParts.{KeepsCounters}
use Rattle.irtext_grammar.proofs.Counted.{thing_same}
use Rattle.irtext_names.specs.Held.{PtrRegions, PtrBlocks, PtrOperations, placed_regions, placed_blocks, placed_operations, placed_under, path_of, value_place, block_place, held_op, held_head, held_regions, held_root, IsWhole}
use Rattle.irtext_names.proofs.OnePlace.{path_is, one_value, one_block}
use Rattle.irtext_names.specs.Placed.{TreeRegions, TreeBlocks, TreeOperations}
use Rattle.pliron_text.proofs.Shown.{SeenOp, SeenBlock, HeldOp, HeldBlock, SeenRegions, SeenBlocks, SeenOperations, HeldRegions, HeldBlocks, HeldOperations, typed_seen, known_again, results_seen, arguments_seen, regions_shown, regions_kept}
use Rattle.irtext_names.proofs.Spots.{spots, AsManyOp, AsManyBlock, blocks_say, tree_blocks_say}
use Rattle.pliron_text.proofs.TrueFacts.{TrueValue, TrueLabel, blocks_true}

thing_itself : (x : Thing) → same_thing x x ≡ true
thing_itself (a_value v) = eq-eqb v v refl
thing_itself (a_block b) = ap₂ ◌&&◌ (eq-eqb b.0 b.0 refl) (eq-eqb b.1 b.1 refl)

-- a definition that is found is among the places of the scope
lookup_spot : (n : Text) (v : List (Fact Text)) (q : Place) → lookup same_text n v ≡ Some q → Among q (spots v)
lookup_spot n [] q e = absurd (cc)
lookup_spot n (uses m u ∷ v) q e = lookup_spot n v q e
lookup_spot n (defines m p ∷ v) q e = go (same_text m n) e (λ f. lookup_spot n v q f)
  where
    go : (b : Bool) → cond b (Some p) (lookup same_text n v) ≡ Some q → (lookup same_text n v ≡ Some q → Among q (spots v)) → Among q (p ∷ spots v)
    go true f later = inl (sym (some_eq f))
    go false f later = inr (later f)

-- ---- what has a name by number, and a place
module _ {D : Type 0} (name : D → Option Thing) (place : D → Option Place)
    (one_name : (d e : D) (x : Thing) → name d ≡ Some x → name e ≡ Some x → d ≡ e) (one_place : (d e : D) (q : Place) → place d ≡ Some q → place e ≡ Some q → d ≡ e) where
  -- a definition with this name is at this place
  abbrev Is : Fact Thing → Type 0
  Is (uses n u) = ⊤
  Is (defines x q) = (d : D) × (name d ≡ Some x) × (place d ≡ Some q)

  named_at : (w : List (Fact Thing)) → Each Is w → (d : D) (q : Place) → place d ≡ Some q → Among q (spots w) → (x : Thing) × (name d ≡ Some x)
  named_at [] t d q at i = absurd i
  named_at (uses n u ∷ w) t d q at i = named_at w t.1 d q at i
  named_at (defines x r ∷ w) t d q at (inl e) = (x, ap name (one_place d t.0.0 q at (t.0.2 ∙ ap Some (sym e))) ∙ t.0.1)
  named_at (defines x r ∷ w) t d q at (inr i) = named_at w t.1 d q at i

  -- its name is looked up as its place
  looks : (w : List (Fact Thing)) → Each Is w → (d : D) (x : Thing) (q : Place) → name d ≡ Some x → place d ≡ Some q → Among q (spots w) → lookup same_thing x w ≡ Some q
  looks [] t d x q n at i = absurd i
  looks (uses m u ∷ w) t d x q n at i = looks w t.1 d x q n at i
  looks (defines y r ∷ w) t d x q n at i = go (same_thing y x) refl i (λ j. looks w t.1 d x q n at j)
    where
      go : (b : Bool) → same_thing y x ≡ b → Among q (r ∷ spots w) → (Among q (spots w) → lookup same_thing x w ≡ Some q) → cond b (Some r) (lookup same_thing x w) ≡ Some q
      go true e i later = let same = one_name t.0.0 d x (t.0.1 ∙ ap Some (thing_same y x e)) n in sym t.0.2 ∙ (ap place same ∙ at)
      go false e (inl f) later =
          let same = one_place t.0.0 d q (t.0.2 ∙ ap Some (sym f)) at in
          let k : y ≡ x = some_eq (sym t.0.1 ∙ (ap name same ∙ n)) in
          absurd (true≢false (sym (thing_itself x) ∙ (ap (λ z. same_thing z x) (sym k) ∙ e)))
      go false e (inr j) later = later j

  module _ (v : List (Fact Text)) (w : List (Fact Thing)) (same : spots v ≡ spots w) (true_all : Each Is w) where
    -- a name of the text refers to what the number of the same value or block refers to
    looked : (n : Name ℕ) (d : D) → place d ≡ lookup same_text n.text v → is_some (lookup same_text n.text v) ≡ true → (x : Thing) × (name d ≡ Some x) × (lookup same_thing x w ≡ lookup same_text n.text v)
    looked n d e some = go (lookup same_text n.text v) refl e some
      where
        go : (o : Option Place) → lookup same_text n.text v ≡ o → place d ≡ o → is_some o ≡ true → (x : Thing) × (name d ≡ Some x) × (lookup same_thing x w ≡ o)
        go None l e s = absurd (true≢false (sym s))
        go (Some q) l e s =
            let there = subst (Among q) same (lookup_spot n.text v q l) in
            let x = named_at w true_all d q e there in
            (x.0, x.1, looks w true_all d x.0 q x.1 e there)

first_of : {X : Type 0} (x y : X) (xs ys : List X) → x ∷ xs ≡ y ∷ ys → x ≡ y
first_of x y xs ys e = cc

rest_of : {X : Type 0} (x y : X) (xs ys : List X) → x ∷ xs ≡ y ∷ ys → xs ≡ ys
rest_of x y xs ys e = cc

unlike : {X : Type 0} (x : X) (xs : List X) → x ∷ xs ≡ [] → ⊥
unlike x xs e = cc

-- what has a name by number each
kept_all : {X Y : Type 0} (f : X → Y) (xs : List X) → filter_map (λ x. Some (f x)) xs ≡ map f xs
kept_all f [] = refl
kept_all f (x ∷ xs) = ap (λ ys. f x ∷ ys) (kept_all f xs)

-- the numbers of things are looked up as the names of a text are that mean the same places
all_looked : {D K : Type 0} (place : D → Option Place) (number : D → Option K) (thing : K → Thing) (v : List (Fact Text)) (w : List (Fact Thing))
    → ((n : Name ℕ) (d : D) → place d ≡ lookup same_text n.text v → is_some (lookup same_text n.text v) ≡ true → (x : Thing) × (option_map thing (number d) ≡ Some x) × (lookup same_thing x w ≡ lookup same_text n.text v))
    → (ds : List D) (ns : List (Name ℕ)) → map place ds ≡ map (λ n. lookup same_text n.text v) ns → list_all is_some (map (λ (n : Name ℕ). lookup same_text n.text v) ns) ≡ true
    → map (λ k. lookup same_thing (thing k) w) (filter_map number ds) ≡ map (λ n. lookup same_text n.text v) ns
all_looked place number thing v w one [] [] e h = refl
all_looked place number thing v w one [] (n ∷ ns) e h = absurd (unlike _ _ (sym e))
all_looked place number thing v w one (d ∷ ds) [] e h = absurd (unlike _ _ e)
all_looked {K = K} place number thing v w one (d ∷ ds) (n ∷ ns) e h =
    let here = first_of (place d) (lookup same_text n.text v) (map place ds) (map (λ n. lookup same_text n.text v) ns) e in
    let later = rest_of (place d) (lookup same_text n.text v) (map place ds) (map (λ n. lookup same_text n.text v) ns) e in
    let some = and_left (is_some (lookup same_text n.text v)) (list_all is_some (map (λ (n : Name ℕ). lookup same_text n.text v) ns)) h in
    let others = and_right (is_some (lookup same_text n.text v)) (list_all is_some (map (λ (n : Name ℕ). lookup same_text n.text v) ns)) h in
    let found = one n d here some in
    go (number d) found.0 found.1 found.2 (all_looked place number thing v w one ds ns later others)
  where
    go : (o : Option K) (y : Thing) → option_map thing o ≡ Some y → lookup same_thing y w ≡ lookup same_text n.text v → map (λ k. lookup same_thing (thing k) w) (filter_map number ds) ≡ map (λ n. lookup same_text n.text v) ns
        → map (λ k. lookup same_thing (thing k) w) (cons_option o (filter_map number ds)) ≡ lookup same_text n.text v ∷ map (λ n. lookup same_text n.text v) ns
    go None y e f r = absurd (cc)
    go (Some m) y e f r = let same : thing m ≡ y = some_eq e in ap₂ (λ a b. a ∷ b) (ap (λ z. lookup same_thing z w) same ∙ f) r

many_same : {X Y : Type 0} (f : X → Y) (xs : List X) → length (map f xs) ≡ length xs
many_same f [] = refl
many_same f (x ∷ xs) = ap suc (many_same f xs)

module _ {T A : Type 0} (c : ContextView T A) (counters : KeepsCounters c.graph) (text_of : A → Text) (p : Ptr Operation) where
  abbrev all : List (Object × Path)
  all = placed_under (pointers c.graph p)

  -- a value by its number
  abbrev value_name : Value → Option Thing
  value_name v = option_map a_value (number_of c v)

  one_number : (v w : Value) (x : Thing) → value_name v ≡ Some x → value_name w ≡ Some x → v ≡ w
  one_number v w x e f = go (value_at c.graph v) refl (value_at c.graph w) refl e f
    where
      go : (a : Option (Typed (Option T))) → value_at c.graph v ≡ a → (b : Option (Typed (Option T))) → value_at c.graph w ≡ b
          → option_map a_value (option_map (λ (t : Typed (Option T)). t.number) a) ≡ Some x → option_map a_value (option_map (λ (t : Typed (Option T)). t.number) b) ≡ Some x → v ≡ w
      go None q b r e f = absurd (cc)
      go (Some t) q None r e f = absurd (cc)
      go (Some t) q (Some u) r e f =
          let both : a_value t.number ≡ a_value u.number = some_eq e ∙ sym (some_eq f) in
          let number : t.number ≡ u.number = cc in
          counters.differ v w t u q r number

  -- a block by its place and its generation
  abbrev block_name : Ptr BasicBlock → Option Thing
  block_name b = Some (a_block (place_of c b))

  one_ptr : (a b : Ptr BasicBlock) (x : Thing) → block_name a ≡ Some x → block_name b ≡ Some x → a ≡ b
  one_ptr a b x e f =
      let both : a_block (place_of c a) ≡ a_block (place_of c b) = some_eq e ∙ sym (some_eq f) in
      let whole : place_of c a ≡ place_of c b = cc in
      let index : c.graph.first_place + a.index ≡ c.graph.first_place + b.index = ap (λ z. z.0) whole in
      ptr_same a b (omega (arith, index)) (ap (λ z. z.1) whole)

  abbrev IsValue : Fact Thing → Type 0
  IsValue = Is value_name (value_place all) one_number (one_value c.graph counters.nested p)

  abbrev IsBlock : Fact Thing → Type 0
  IsBlock = Is block_name (block_place all) one_ptr (one_block c.graph counters.nested p)

  are_values : (w : List (Fact Thing)) → Each (TrueValue c all) w → Each IsValue w
  are_values [] t = tt
  are_values (uses n u ∷ w) t = (tt, are_values w t.1)
  are_values (defines (a_value n) q ∷ w) t = ((t.0.0, ap (option_map a_value) t.0.1, t.0.2), are_values w t.1)
  are_values (defines (a_block at) q ∷ w) t = absurd t.0

  are_blocks : (w : List (Fact Thing)) → Each (TrueLabel c all) w → Each IsBlock w
  are_blocks [] t = tt
  are_blocks (uses n u ∷ w) t = (tt, are_blocks w t.1)
  are_blocks (defines (a_value n) q ∷ w) t = absurd t.0
  are_blocks (defines (a_block at) q ∷ w) t = ((t.0.0, ap (λ z. Some (a_block z)) t.0.1, t.0.2), are_blocks w t.1)

  -- the names of a text and the numbers of what printing sees are defined at the same places, and these are the places of the definitions
  -- there
  record Scoped (v : List (Fact Text)) (w : List (Fact Thing)) : Type 0 where
    same : spots v ≡ spots w
    are : Each IsValue w

  record Labelled (v : List (Fact Text)) (w : List (Fact Thing)) : Type 0 where
    same : spots v ≡ spots w
    are : Each IsBlock w

  operands_look : (v : List (Fact Text)) (w : List (Fact Thing)) → Scoped v w → (vs : List Value) (ns : List (Name ℕ)) → map (value_place all) vs ≡ map (λ n. lookup same_text n.text v) ns → list_all is_some (map (λ (n : Name ℕ). lookup same_text n.text v) ns) ≡ true
      → map (λ x. lookup same_thing (a_value x) w) (filter_map (number_of c) vs) ≡ map (λ n. lookup same_text n.text v) ns
  operands_look v w s = all_looked (value_place all) (number_of c) a_value v w (looked value_name (value_place all) one_number (one_value c.graph counters.nested p) v w s.same s.are)

  successors_look : (v : List (Fact Text)) (w : List (Fact Thing)) → Labelled v w → (bs : List (Ptr BasicBlock)) (ns : List (Name ℕ)) → map (block_place all) bs ≡ map (λ n. lookup same_text n.text v) ns → list_all is_some (map (λ (n : Name ℕ). lookup same_text n.text v) ns) ≡ true
      → map (λ b. lookup same_thing (a_block b) w) (map (place_of c) bs) ≡ map (λ n. lookup same_text n.text v) ns
  successors_look v w s bs ns e h =
      ap (map (λ b. lookup same_thing (a_block b) w)) (sym (kept_all (place_of c) bs))
      ∙ all_looked (block_place all) (λ b. Some (place_of c b)) a_block v w (looked block_name (block_place all) one_ptr (one_block c.graph counters.nested p) v w s.same s.are) bs ns e h

  module _ (C : Printing T A) (label_seen : (b : Ptr BasicBlock) (view : BlockView T A) → block c b ≡ Some view → C.label (place_of c b) ≡ view.label) (isolated : Id → Bool) (first : ℕ → Written A) (es : List (Entry ℕ A (Written A))) where
    -- ---- an operation's own
    module _ (q : Ptr Operation) (o : GraphOp T A) (b : BuiltOp T A (Written A)) (s : SeenOp c text_of all q o) (h : HeldOp c text_of all q b) where
      held_is : b ≡ held_op c all q s.whole.view
      held_is = h.holds ∙ ap (held_op c all q) (some_eq (sym h.is ∙ s.whole.is))

      id_is : o.id ≡ b.id
      id_is = ap (λ (z : GraphOp T A). z.id) s.sees ∙ sym (ap (λ (z : BuiltOp T A (Written A)). z.id) held_is)

      types_are : map (λ (r : ℕ × T). r.1) o.results ≡ b.result_types
      types_are =
          let w = s.whole in
          ap (λ (z : GraphOp T A). map (λ (r : ℕ × T). r.1) z.results) s.sees
          ∙ (typed_seen (results c.graph q) w.types (sym (results_seen c q w.view w.is) ∙ w.known_as)
          ∙ (sym (known_again w.types) ∙ (ap known_types (sym w.known_as) ∙ sym (ap (λ (z : BuiltOp T A (Written A)). z.result_types) held_is))))

      attributes_are : o.attributes ≡ b.attributes
      attributes_are = ap (λ (z : GraphOp T A). z.attributes) s.sees ∙ sym (ap (λ (z : BuiltOp T A (Written A)). z.attributes) held_is)

    as_many : (q : Ptr Operation) (o : GraphOp T A) (v l : List (Fact Text)) (x : Op ℕ T A) → SeenOp c text_of all q o → HeldOp c text_of all q (built_op isolated first es v l x) → CountsAgree x → AsManyOp isolated x o
    as_many q o v l x s h n =
        let b = built_op isolated first es v l x in (
          sym (id_is q o b s h),
          sym (eqb-true (length (result_types x.body)) (length x.names) n) ∙ (sym (ap length (types_are q o b s h)) ∙ many_same (λ (r : ℕ × T). r.1) o.results),
        )

    own_represents : (q : Ptr Operation) (o : GraphOp T A) (v l : List (Fact Text)) (w m : List (Fact Thing)) (x : Op ℕ T A) → SeenOp c text_of all q o → HeldOp c text_of all q (built_op isolated first es v l x) → Scoped v w → Labelled l m → OpLinked (built_op isolated first es v l x)
        → RepresentsOp (resolved_op C isolated w m o) (built_op isolated first es v l x)
    own_represents q o v l w m x s h sv sl linked =
        let b = built_op isolated first es v l x in
        let held = held_is q o b s h in
        record {
          shape = record {
            id = id_is q o b s h;
            result_types = types_are q o b s h;
            operands = ap (λ (z : GraphOp T A). map (λ x. lookup same_thing (a_value x) w) z.operands) s.sees
                ∙ operands_look v w sv (operands c.graph q) (operand_names x) (sym (ap (λ (z : BuiltOp T A (Written A)). z.operands) held)) linked.0;
            successors = ap (λ (z : GraphOp T A). map (λ x. lookup same_thing (a_block x) m) z.successors) s.sees
                ∙ successors_look l m sl (successors c.graph q) (successor_labels x) (sym (ap (λ (z : BuiltOp T A (Written A)). z.successors) held)) linked.1;
          };
          attributes = attributes_are q o b s h;
        }

    -- ---- a block's own
    module _ (k : Ptr BasicBlock) (d : GraphBlock T A) (b : BuiltBlock T A (Written A)) (s : SeenBlock c text_of all k d) (h : HeldBlock c text_of all k b) where
      head_is : b ≡ held_head c all s.whole.view
      head_is = h.holds ∙ ap (held_head c all) (some_eq (sym h.is ∙ s.whole.is))

      argument_types_are : map (λ (r : ℕ × T). r.1) d.arguments ≡ b.argument_types
      argument_types_are =
          let w = s.whole in
          ap (λ (z : GraphBlock T A). map (λ (r : ℕ × T). r.1) z.arguments) s.sees
          ∙ (typed_seen (arguments c.graph k) w.types (sym (arguments_seen c k w.view w.is) ∙ w.known_as)
          ∙ (sym (known_again w.types) ∙ (ap known_types (sym w.known_as) ∙ sym (ap (λ (z : BuiltBlock T A (Written A)). z.argument_types) head_is))))

      there : (o : Option Text) → is_some o ≡ true → o ≡ Some (unwrap_or o [])
      there None e = absurd (true≢false (sym e))
      there (Some n) e = refl

      block_represents : RepresentsBlock (resolved_block C isolated d) b
      block_represents = record {
        shape = record { argument_types = argument_types_are };
        label = ap (λ (z : GraphBlock T A). C.label z.place) s.sees
            ∙ (label_seen k s.whole.view s.whole.is ∙ (there s.whole.view.label (subst (λ (v : BlockView T A). is_some v.label ≡ true) (some_eq (sym h.is ∙ s.whole.is)) h.labelled) ∙ ap Some (sym (ap (λ (z : BuiltBlock T A (Written A)). z.label) head_is))));
        attributes = ap (λ (z : GraphBlock T A). z.attributes) s.sees ∙ sym (ap (λ (z : BuiltBlock T A (Written A)). z.attributes) head_is);
      }

    -- ---- as many of each
    mutual
      regions_many : (v : List (Fact Text)) (r : Path) (j : ℕ) (iso : Bool) (ps : PtrRegions) (gs : Regions (GraphOp T A) (GraphBlock T A) ⊤) (ts : TreeRegions T A) → SeenRegions c text_of all ps gs → HeldRegions c text_of all ps (built_regions isolated first es v r j iso ts)
          → AllRegions CountsAgree (λ h. ⊤) (λ r. ⊤) ts → MatchRegions (AsManyOp isolated) (AsManyBlock isolated) (λ r s. ⊤) ts gs
      regions_many v r j iso no_regions no_regions no_regions s h n = tt
      regions_many v r j iso no_regions no_regions (forest.region brace bs ts) s h n = absurd h
      regions_many v r j iso no_regions (forest.region g cs gs) ts s h n = absurd s
      regions_many v r j iso (forest.region k qs ps) no_regions ts s h n = absurd s
      regions_many v r j iso (forest.region k qs ps) (forest.region g cs gs) no_regions s h n = absurd h
      regions_many v r j iso (forest.region k qs ps) (forest.region g cs gs) (forest.region brace bs ts) s h n = (tt, blocks_many _ _ (j ∷ r) 0 qs cs bs s.1 h.1 n.1, regions_many v r (suc j) iso ps gs ts s.2 h.2 n.2)

      blocks_many : (v l : List (Fact Text)) (r : Path) (j : ℕ) (ps : PtrBlocks) (gs : Blocks (GraphOp T A) (GraphBlock T A) ⊤) (ts : TreeBlocks T A) → SeenBlocks c text_of all ps gs → HeldBlocks c text_of all ps (built_blocks isolated first es v l r j ts)
          → AllBlocks CountsAgree (λ h. ⊤) (λ r. ⊤) ts → MatchBlocks (AsManyOp isolated) (AsManyBlock isolated) (λ r s. ⊤) ts gs
      blocks_many v l r j no_blocks no_blocks no_blocks s h n = tt
      blocks_many v l r j no_blocks no_blocks (forest.block head os ts) s h n = absurd h
      blocks_many v l r j no_blocks (forest.block d cs gs) ts s h n = absurd s
      blocks_many v l r j (forest.block k qs ps) no_blocks ts s h n = absurd s
      blocks_many v l r j (forest.block k qs ps) (forest.block d cs gs) no_blocks s h n = absurd h
      blocks_many v l r j (forest.block k qs ps) (forest.block d cs gs) (forest.block head os ts) s h n = (
        sym (sym (many_same (λ (a : ℕ × T). a.1) d.arguments) ∙ (ap length (argument_types_are k d (built_head isolated first es head) s.0 h.0) ∙ many_same (λ (a : Name ℕ × T). a.1) head.arguments)),
        operations_many v l (j ∷ r) 0 qs cs os s.1 h.1 n.1,
        blocks_many v l r (suc j) ps gs ts s.2 h.2 n.2,
      )

      operations_many : (v l : List (Fact Text)) (r : Path) (j : ℕ) (ps : PtrOperations) (gs : Operations (GraphOp T A) (GraphBlock T A) ⊤) (ts : TreeOperations T A) → SeenOperations c text_of all ps gs → HeldOperations c text_of all ps (built_operations isolated first es v l r j ts)
          → AllOperations CountsAgree (λ h. ⊤) (λ r. ⊤) ts → MatchOperations (AsManyOp isolated) (AsManyBlock isolated) (λ r s. ⊤) ts gs
      operations_many v l r j no_operations no_operations no_operations s h n = tt
      operations_many v l r j no_operations no_operations (forest.operation x rs ts) s h n = absurd h
      operations_many v l r j no_operations (forest.operation o cs gs) ts s h n = absurd s
      operations_many v l r j (forest.operation q qs ps) no_operations ts s h n = absurd s
      operations_many v l r j (forest.operation q qs ps) (forest.operation o cs gs) no_operations s h n = absurd h
      operations_many v l r j (forest.operation q qs ps) (forest.operation o cs gs) (forest.operation x rs ts) s h n = (
        as_many q o v l x s.0 h.0 n.0,
        regions_many v (j ∷ r) 0 (isolated x.id) qs cs rs s.1 h.1 n.1,
        operations_many v l r (suc j) ps gs ts s.2 h.2 n.2,
      )

    -- ---- the whole
    -- each object has the path that this list gives it
    abbrev Into : List (Object × Path) → Type 0
    Into xs = (o : Object) (q : Path) → Among (o, q) xs → path_of all o ≡ Some q

    scoped_if : (iso : Bool) (a v : List (Fact Text)) (b w : List (Fact Thing)) → Scoped a b → Scoped v w → Scoped (cond iso a v) (cond iso b w)
    scoped_if true a v b w s t = s
    scoped_if false a v b w s t = t

    mutual
      regions_represent : (v : List (Fact Text)) (w : List (Fact Thing)) (r : Path) (j : ℕ) (iso : Bool) (ps : PtrRegions) (gs : Regions (GraphOp T A) (GraphBlock T A) ⊤) (ts : TreeRegions T A) → SeenRegions c text_of all ps gs → HeldRegions c text_of all ps (built_regions isolated first es v r j iso ts)
          → AllRegions CountsAgree (λ h. ⊤) (λ r. ⊤) ts → WholeRegions ts → FitRegions C isolated gs → AllRegions OpLinked (λ h. ⊤) (λ r. ⊤) (built_regions isolated first es v r j iso ts) → Into (placed_regions r j ps) → Scoped v w
          → MatchRegions RepresentsOp RepresentsBlock (λ r s. ⊤) (resolved_regions C isolated w r j iso gs) (built_regions isolated first es v r j iso ts)
      regions_represent v w r j iso no_regions no_regions no_regions s h n e f k i sv = tt
      regions_represent v w r j iso no_regions no_regions (forest.region brace bs ts) s h n e f k i sv = absurd h
      regions_represent v w r j iso no_regions (forest.region g cs gs) ts s h n e f k i sv = absurd s
      regions_represent v w r j iso (forest.region z qs ps) no_regions ts s h n e f k i sv = absurd s
      regions_represent v w r j iso (forest.region z qs ps) (forest.region g cs gs) no_regions s h n e f k i sv = absurd h
      regions_represent v w r j iso (forest.region z qs ps) (forest.region g cs gs) (forest.region elided bs ts) s h n e f k i sv = absurd e
      regions_represent v w r j iso (forest.region z qs ps) (forest.region g cs gs) (forest.region (shown place) bs ts) s h n e f k i sv =
          let of_tree = facts same_text (blocks_script isolated (j ∷ r) 0 bs) in
          let of_graph = facts same_thing (graph_blocks C isolated (j ∷ r) 0 cs) in
          let below : Into (placed_blocks (j ∷ r) 0 qs) = λ o q a. i o q (inr (among_left (o, q) (placed_blocks (j ∷ r) 0 qs) (placed_regions r (suc j) ps) a)) in
          let many = blocks_many (cond iso of_tree.values v) of_tree.labels (j ∷ r) 0 qs cs bs s.1 h.1 n.1 in
          let blocks_said = tree_blocks_say isolated (j ∷ r) 0 bs cs e.0 many in
          let said = blocks_say C isolated (j ∷ r) 0 cs f.0 in
          let are = blocks_true c all text_of C isolated (j ∷ r) 0 qs cs s.1 below in
          let values : Scoped of_tree.values of_graph.values = record { same = blocks_said.values ∙ sym said.values; are = are_values of_graph.values are.values } in
          let labels : Labelled of_tree.labels of_graph.labels = record { same = blocks_said.labels ∙ sym said.labels; are = are_blocks of_graph.labels are.labels } in (
            tt,
            blocks_represent (cond iso of_tree.values v) of_tree.labels (cond iso of_graph.values w) of_graph.labels (j ∷ r) 0 qs cs bs s.1 h.1 n.1 e.0 f.0 k.1 below (scoped_if iso of_tree.values v of_graph.values w values sv) labels,
            regions_represent v w r (suc j) iso ps gs ts s.2 h.2 n.2 e.1 f.1 k.2 (λ o q a. i o q (inr (among_right (o, q) (placed_blocks (j ∷ r) 0 qs) (placed_regions r (suc j) ps) a))) sv,
          )

      blocks_represent : (v l : List (Fact Text)) (w m : List (Fact Thing)) (r : Path) (j : ℕ) (ps : PtrBlocks) (gs : Blocks (GraphOp T A) (GraphBlock T A) ⊤) (ts : TreeBlocks T A) → SeenBlocks c text_of all ps gs → HeldBlocks c text_of all ps (built_blocks isolated first es v l r j ts)
          → AllBlocks CountsAgree (λ h. ⊤) (λ r. ⊤) ts → WholeBlocks ts → FitBlocks C isolated gs → AllBlocks OpLinked (λ h. ⊤) (λ r. ⊤) (built_blocks isolated first es v l r j ts) → Into (placed_blocks r j ps) → Scoped v w → Labelled l m
          → MatchBlocks RepresentsOp RepresentsBlock (λ r s. ⊤) (resolved_blocks C isolated w m r j gs) (built_blocks isolated first es v l r j ts)
      blocks_represent v l w m r j no_blocks no_blocks no_blocks s h n e f k i sv sl = tt
      blocks_represent v l w m r j no_blocks no_blocks (forest.block head os ts) s h n e f k i sv sl = absurd h
      blocks_represent v l w m r j no_blocks (forest.block d cs gs) ts s h n e f k i sv sl = absurd s
      blocks_represent v l w m r j (forest.block z qs ps) no_blocks ts s h n e f k i sv sl = absurd s
      blocks_represent v l w m r j (forest.block z qs ps) (forest.block d cs gs) no_blocks s h n e f k i sv sl = absurd h
      blocks_represent v l w m r j (forest.block z qs ps) (forest.block d cs gs) (forest.block head os ts) s h n e f k i sv sl = (
        block_represents z d (built_head isolated first es head) s.0 h.0,
        operations_represent v l w m (j ∷ r) 0 qs cs os s.1 h.1 n.1 e.0 f.0 k.1 (λ o q a. i o q (inr (among_left (o, q) (placed_operations (j ∷ r) 0 qs) (placed_blocks r (suc j) ps) a))) sv sl,
        blocks_represent v l w m r (suc j) ps gs ts s.2 h.2 n.2 e.1 f.1 k.2 (λ o q a. i o q (inr (among_right (o, q) (placed_operations (j ∷ r) 0 qs) (placed_blocks r (suc j) ps) a))) sv sl,
      )

      operations_represent : (v l : List (Fact Text)) (w m : List (Fact Thing)) (r : Path) (j : ℕ) (ps : PtrOperations) (gs : Operations (GraphOp T A) (GraphBlock T A) ⊤) (ts : TreeOperations T A) → SeenOperations c text_of all ps gs → HeldOperations c text_of all ps (built_operations isolated first es v l r j ts)
          → AllOperations CountsAgree (λ h. ⊤) (λ r. ⊤) ts → WholeOperations ts → FitOperations C isolated gs → AllOperations OpLinked (λ h. ⊤) (λ r. ⊤) (built_operations isolated first es v l r j ts) → Into (placed_operations r j ps) → Scoped v w → Labelled l m
          → MatchOperations RepresentsOp RepresentsBlock (λ r s. ⊤) (resolved_operations C isolated w m r j gs) (built_operations isolated first es v l r j ts)
      operations_represent v l w m r j no_operations no_operations no_operations s h n e f k i sv sl = tt
      operations_represent v l w m r j no_operations no_operations (forest.operation x rs ts) s h n e f k i sv sl = absurd h
      operations_represent v l w m r j no_operations (forest.operation o cs gs) ts s h n e f k i sv sl = absurd s
      operations_represent v l w m r j (forest.operation q qs ps) no_operations ts s h n e f k i sv sl = absurd s
      operations_represent v l w m r j (forest.operation q qs ps) (forest.operation o cs gs) no_operations s h n e f k i sv sl = absurd h
      operations_represent v l w m r j (forest.operation q qs ps) (forest.operation o cs gs) (forest.operation x rs ts) s h n e f k i sv sl =
          let inner = regions_represent v w (j ∷ r) 0 (isolated x.id) qs cs rs s.1 h.1 n.1 e.0.1 f.1 k.1 (λ y z a. i y z (inr (among_left (y, z) (placed_regions (j ∷ r) 0 qs) (placed_operations r (suc j) ps) a))) sv in (
            own_represents q o v l w m x s.0 h.0 sv sl k.0,
            subst (λ (b : Bool). MatchRegions RepresentsOp RepresentsBlock (λ r s. ⊤) (resolved_regions C isolated w (j ∷ r) 0 b cs) (built_regions isolated first es v (j ∷ r) 0 (isolated x.id) rs)) (ap isolated (sym (id_is q o (built_op isolated first es v l x) s.0 h.0))) inner,
            operations_represent v l w m r (suc j) ps gs ts s.2 h.2 n.2 e.1 f.2 k.2 (λ y z a. i y z (inr (among_right (y, z) (placed_regions (j ∷ r) 0 qs) (placed_operations r (suc j) ps) a))) sv sl,
          )

    no_values : Scoped [] []
    no_values = record { same = refl; are = tt }

    no_labels : Labelled [] []
    no_labels = record { same = refl; are = tt }

    module _ (t : Tree ℕ T A) (whole : IsWhole c p) (builds : held_root c p ≡ Some (build isolated first es t)) (counts : CountsAgree t.own × AllRegions CountsAgree (λ h. ⊤) (λ r. ⊤) t.regions) (enough : WholeOperations (forest.operation t.own t.regions no_operations)) where
      -- what is held of the whole
      held : ◌≡◌ {A = Option (Built T A (Written A))} (Some (record { own = held_op c all p whole.0.view; regions = held_regions c all (pointers c.graph p).regions })) (Some (build isolated first es t))
      held = sym (ap (option_map (λ view. record { own = held_op c all p view; regions = held_regions c all (pointers c.graph p).regions })) whole.0.is) ∙ builds

      own_held : HeldOp c text_of all p (built_op isolated first es [] [] t.own)
      own_held = record { view = whole.0.view; is = whole.0.is; holds = sym (ap (λ (z : Built T A (Written A)). z.own) (some_eq held)) }

      regions_held : HeldRegions c text_of all (pointers c.graph p).regions (built_regions isolated first es [] [] 0 (isolated t.own.id) t.regions)
      regions_held = subst (HeldRegions c text_of all (pointers c.graph p).regions) (ap (λ (z : Built T A (Written A)). z.regions) (some_eq held)) (regions_kept c text_of all (pointers c.graph p).regions whole.1)

      abbrev seen : Graph T A
      seen = record { own = seen_operation text_of c p whole.0.view; regions = seen_regions text_of c (pointers c.graph p).regions }

      seen_is : (g : Graph T A) → seen_root text_of c p ≡ Some g → seen ≡ g
      seen_is g sees = some_eq (sym (ap (option_map (λ op. record { own = seen_operation text_of c p op; regions = seen_regions text_of c (pointers c.graph p).regions })) whole.0.is) ∙ sees)

      own_seen : SeenOp c text_of all p (seen_operation text_of c p whole.0.view)
      own_seen = record { whole = whole.0; sees = refl }

      inner_seen : SeenRegions c text_of all (pointers c.graph p).regions (seen_regions text_of c (pointers c.graph p).regions)
      inner_seen = regions_shown c text_of all (pointers c.graph p).regions whole.1

      -- it has as many of each as the tree
      pub many_held : (g : Graph T A) → seen_root text_of c p ≡ Some g → AsManyOp isolated t.own g.own × MatchRegions (AsManyOp isolated) (AsManyBlock isolated) (λ r s. ⊤) t.regions g.regions
      many_held g sees =
          subst (λ (z : Graph T A). AsManyOp isolated t.own z.own × MatchRegions (AsManyOp isolated) (AsManyBlock isolated) (λ r s. ⊤) t.regions z.regions) (seen_is g sees)
          (as_many p (seen_operation text_of c p whole.0.view) [] [] t.own own_seen own_held counts.0, regions_many [] [] 0 (isolated t.own.id) (pointers c.graph p).regions (seen_regions text_of c (pointers c.graph p).regions) t.regions inner_seen regions_held counts.1)

      represents_seen : Linked (build isolated first es t) → Fit C isolated seen → Represents (resolved_root C isolated seen) (build isolated first es t)
      represents_seen linked fit =
          let o = seen_operation text_of c p whole.0.view in
          let inner = regions_represent [] [] [] 0 (isolated t.own.id) (pointers c.graph p).regions (seen_regions text_of c (pointers c.graph p).regions) t.regions inner_seen regions_held counts.1 enough.0.1 fit.1 linked.1 (λ y z a. path_is c.graph counters.nested p y z (inr a)) no_values in (
            own_represents p o [] [] [] [] t.own own_seen own_held no_values no_labels linked.0,
            subst (λ (b : Bool). MatchRegions RepresentsOp RepresentsBlock (λ r s. ⊤) (resolved_regions C isolated [] [] 0 b (seen_regions text_of c (pointers c.graph p).regions)) (built_regions isolated first es [] [] 0 (isolated t.own.id) t.regions))
                (ap isolated (sym (id_is p o (built_op isolated first es [] [] t.own) own_seen own_held))) inner,
          )

      -- what printing sees represents what the tree built
      pub represents_held : Linked (build isolated first es t) → (g : Graph T A) → seen_root text_of c p ≡ Some g → Fit C isolated g → Represents (resolved_root C isolated g) (build isolated first es t)
      represents_held linked g sees fit = subst (λ z. Represents (resolved_root C isolated z) (build isolated first es t)) (seen_is g sees) (represents_seen linked (subst (Fit C isolated) (sym (seen_is g sees)) fit))

-- the label of a block is the one that printing finds at its place
pub label_found : {T A : Type 0} (c : ContextView T A) (outlined once : A → Bool) (eq : A → A → Bool) (b : Ptr BasicBlock) (view : BlockView T A) → block c b ≡ Some view → (printing_over c outlined once eq).label (place_of c b) ≡ view.label
label_found {T} {A} c outlined once eq b view e =
    let at : Ptr BasicBlock = record { index = (c.graph.first_place + b.index) - c.graph.first_place; generation = b.generation; of = record {} } in
    let same : at ≡ b = ptr_same at b (omega arith) refl in
    ap (λ (z : Ptr BasicBlock). option_and_then (λ (v : BlockView T A). v.label) (block c z)) same ∙ ap (option_and_then (λ (v : BlockView T A). v.label)) e

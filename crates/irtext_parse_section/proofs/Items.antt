-- What one item has once a section was applied: what the entry of its mark gives it, over what it had.
use Rattle.std.proofs.Common.{◌≡◌, ◌∙◌, ℕ, ◌==◌, nat_eq, Bool, true, false, cond, not, ◌&&◌, is_some, List, [], ◌∷◌, ◌++◌, Option, Some, None, refl, sym, ap, subst, true≢false, arith}
use Rattle.std.proofs.lemmas.Bool.Decides.{nat_tests}
use Rattle.std.specs.Prelude.{flat_map, option_and_then, unwrap_or}
use Rattle.std.specs.Map.{lookup}
use Rattle.std.specs.Option.{option_map}
use Rattle.irtext_base.specs.Text.{Text}
use Rattle.irtext_base.specs.Format.{same_text, block_label_key}
use Rattle.irtext_base.specs.Locations.{AttrView}
use Rattle.irtext_base.specs.Answers.{Outcome}
use Rattle.irtext_base.specs.Paths.{Written}
use Rattle.irtext_base.specs.declared.location.Location.{Location}
use Rattle.irtext_context.specs.Context.{ContextView, OperationView, BlockView, operation_of, block_of, operation, block, with_loc, with_attributes, with_block_loc, with_block_attributes, with_label}
use Rattle.irtext_context.specs.declared.base.item.Item.{Item}
use Rattle.irtext_context.specs.declared.base.item.Item.TheVariants as item
use Rattle.irtext_context.proofs.Contexts.{edited_seen, edited_block_seen}
use Rattle.irtext_graph.specs.Store.{get}
use Rattle.irtext_graph.specs.declared.arena.Ptr.{Ptr}
use Rattle.irtext_graph.specs.declared.object.BasicBlock.{BasicBlock}
use Rattle.irtext_graph.specs.declared.object.Operation.{Operation}
use Rattle.irtext_parse_state.specs.States.{same_index, marks_of}
use Rattle.irtext_parse_state.specs.declared.parsable.state.StateStream.{StateStream}
use Rattle.irtext_grammar.specs.Contexts.Held.{entries_of, location_over}
use Rattle.irtext_grammar.specs.Grammar.Section as section
use Rattle.irtext_grammar.specs.Grammar.Section.{Entry, of_item, of_once}
use Rattle.irtext_grammar.specs.Grammar.Tree.{Mark, Attribute, given_names, ident, own}
use Rattle.irtext_grammar.specs.Graphs.Build.{content_in, content, located, label_among, labelled, but_label, with_content, resolved}
use Rattle.irtext_grammar.specs.Names.Acts.{Rule}
use Rattle.irtext_grammar.specs.Names.Script.{Failure, UnknownIndex}
use Rattle.irtext_grammar.specs.Names.Scopes.{is_among}
use Rattle.irtext_grammar.specs.Promises.Section.{indices_of, given_over}
use Rattle.irtext_grammar.specs.Agrees.{refused}
use Rattle.irtext_grammar.specs.Entries.{wrong_references}
use Rattle.irtext_grammar.proofs.Claims.{wrong_index, wrong_pairs, wrong_entries, refused_parts}
use Rattle.irtext_parse_locations.specs.Applied.{no_label, label_by, label_in, LocatesOperation, StoresOperation, LocatesBlock, StoresBlock, LabelsBlock, Gives, AppliesAll}
use Rattle.irtext_parse_section.specs.Items.{CarriesOnly, OperationHas, BlockHas, OperationGiven, BlockGiven}
use Rattle.irtext_parse_section.specs.Section.{ReadsSection}
use Rattle.irtext_parse_section.proofs.Frames.{Avoids, applied_paths, operation_beside, block_beside, operation_avoided, block_avoided}

-- ---- indices
front_none : {X : Type 0} (xs ys : List X) → xs ++ ys ≡ [] → xs ≡ []
front_none [] ys e = refl
front_none (x ∷ xs) ys e = absurd (cc e)

after_none : {X : Type 0} (xs ys : List X) → xs ++ ys ≡ [] → ys ≡ []
after_none [] ys e = e
after_none (x ∷ xs) ys e = absurd (cc e)

among_still : (i k : ℕ) (xs : List ℕ) → is_among i xs ≡ true → is_among i (xs ++ k ∷ []) ≡ true
among_still i k [] e = absurd (true≢false (sym e))
among_still i k (x ∷ xs) e = go (nat_eq x i) (among_still i k xs) e
  where
    go : (b : Bool) → (is_among i xs ≡ true → is_among i (xs ++ k ∷ []) ≡ true) → cond b true (is_among i xs) ≡ true → cond b true (is_among i (xs ++ k ∷ [])) ≡ true
    go true h e = refl
    go false h e = h e

among_last : (i k : ℕ) (xs : List ℕ) → nat_eq k i ≡ true → is_among i (xs ++ k ∷ []) ≡ true
among_last i k [] e = ap (λ b. cond b true false) e
among_last i k (x ∷ xs) e = go (nat_eq x i) (among_last i k xs e)
  where
    go : (b : Bool) → is_among i (xs ++ k ∷ []) ≡ true → cond b true (is_among i (xs ++ k ∷ [])) ≡ true
    go true h = refl
    go false h = h

same_number : (i j : ℕ) → (i == j) ≡ true → i ≡ j
same_number i j e = grind (arith, nat_tests)

apart_number : (i j : ℕ) → (i == j) ≡ false → i ≡ j → ⊥
apart_number i j e f = grind (arith, nat_tests)

number_eq : (i j : ℕ) → i ≡ j → nat_eq i j ≡ true
number_eq i j e = grind (arith, nat_tests)

-- the index of an entry that is not wrong is of none before it
index_new : (marks before : List ℕ) (m : Mark ℕ) → wrong_index marks before m ≡ [] → is_among m.index before ≡ true → ⊥
index_new marks before m e f = go (is_among m.index marks && not (is_among m.index before)) refl e
  where
    fails : (a b : Bool) → b ≡ true → (a && not b) ≡ true → ⊥
    fails true true f g = true≢false (sym g)
    fails true false f g = true≢false (sym f)
    fails false b f g = true≢false (sym g)

    go : (b : Bool) → (is_among m.index marks && not (is_among m.index before)) ≡ b → cond {A = List (Failure Text ℕ)} b [] (record { cause = UnknownIndex m.index; at = Some m.place } ∷ []) ≡ [] → ⊥
    go true g e = fails (is_among m.index marks) (is_among m.index before) f g
    go false g e = cc e

module _ {A : Type 0} (marks : List (ℕ × Item)) (rules : ℕ → Rule A) (x : Item) where
  -- where no mark is of the item, no entry is
  avoids_unmarked : ((i : ℕ) → lookup (same_index i) marks ≡ Some x → ⊥) → (es : List (Entry ℕ A (Written A))) → Avoids marks x es
  avoids_unmarked n [] = tt
  avoids_unmarked n (of_once m a ∷ es) = avoids_unmarked n es
  avoids_unmarked n (of_item m y ps ∷ es) = (n m.index, avoids_unmarked n es)

  -- no entry of an item follows the one of its mark
  avoids_later : (k : ℕ) → ((i : ℕ) → lookup (same_index i) marks ≡ Some x → i ≡ k) → (before : List ℕ) (es : List (Entry ℕ A (Written A))) → is_among k before ≡ true → wrong_entries (indices_of marks) rules before es ≡ [] → Avoids marks x es
  avoids_later k only before [] f e = tt
  avoids_later k only before (of_once m a ∷ es) f e = avoids_later k only before es f e
  avoids_later k only before (of_item m y ps ∷ es) f e =
      let first = wrong_index (indices_of marks) before m in
      let pairs = wrong_pairs (rules m.index) ps in
      let more = wrong_entries (indices_of marks) rules (before ++ m.index ∷ []) es in (
        λ c. index_new (indices_of marks) before m (front_none first (pairs ++ more) e) (subst (λ i. is_among i before ≡ true) (sym (only m.index c)) f),
        avoids_later k only (before ++ m.index ∷ []) es (among_still k m.index before f) (after_none pairs more (after_none first (pairs ++ more) e)),
      )

-- ---- a label
label_of : {A : Type 0} (d : Text) (l : Option Text) (a : Attribute A) → elim a [ ident n ↦ n | _ ↦ unwrap_or l d ] ≡ unwrap_or (label_by (Some a) l) d
label_of d l (given_names ns) = refl
label_of d l (ident n) = refl
label_of d l (own a) = refl

label_step : {A : Type 0} (b : Bool) (d : Text) (l : Option Text) (a : Attribute A) → cond b (elim a [ ident n ↦ n | _ ↦ unwrap_or l d ]) (unwrap_or l d) ≡ unwrap_or (cond b (label_by (Some a) l) l) d
label_step true d l a = label_of d l a
label_step false d l a = refl

-- the label among attributes, or else the one that was there
label_given : {A : Type 0} (d : Text) (l : Option Text) (es : List (Text × Attribute A)) → label_among (unwrap_or l d) es ≡ unwrap_or (label_in l es) d
label_given d l [] = refl
label_given d l (e ∷ es) =
    ap (λ t. label_among t es) (label_step (same_text e.0 block_label_key) d l e.1) ∙ label_given d (cond (same_text e.0 block_label_key) (label_by (Some e.1) l) l) es

-- the one that is given, or else the one that was there
abbrev chosen : {X : Type 0} → X → Option X → X
chosen x None = x
chosen x (Some y) = y

module _ {A : Type 0} (paths : List (List ℕ)) where
  chosen_over : (l : Location A) (g : Option (Location A)) (x : Option (Written A)) (content : List (Text × Attribute A)) → given_over paths g ≡ x → location_over paths (chosen l g) ≡ located (location_over paths l) (Some (x, content))
  chosen_over l g x content e = subst (λ x. location_over paths (chosen l g) ≡ located (location_over paths l) (Some (x, content))) e (go g)
    where
      go : (g : Option (Location A)) → location_over paths (chosen l g) ≡ located (location_over paths l) (Some (given_over paths g, content))
      go None = refl
      go (Some y) = refl

-- the label that is given, or else the one that was there
abbrev named : Option Text → Option Text → Option Text
named l None = l
named l (Some n) = Some n

named_or : (l g : Option Text) (d : Text) → unwrap_or (named l g) d ≡ unwrap_or g (unwrap_or l d)
named_or l None d = refl
named_or l (Some n) d = refl

named_some : (l g : Option Text) → is_some l ≡ true → is_some (named l g) ≡ true
named_some l None h = h
named_some l (Some n) h = refl

-- ---- what one entry gives
-- what is seen of an item, once it changed
changed_view : {V : Type 0} (change : V → V) (view : V) {before after : Option V} → before ≡ Some view → after ≡ option_map change before → after ≡ Some (change view)
changed_view change view is e = e ∙ ap (option_map change) is

module _ {T A : Type 0} (paths : List (List ℕ)) where
  -- nothing besides
  operation_same : (p : Ptr Operation) (view : OperationView T A) (c : ContextView T A) → operation c p ≡ Some view → OperationHas paths None c p view
  operation_same p view c is = record { after = view; is = is; id = refl; types = refl; inner = refl; entries = refl; location = refl }

  block_same : (b : Ptr BasicBlock) (view : BlockView T A) (c : ContextView T A) → block c b ≡ Some view → BlockHas paths None c b view
  block_same b view c is = record { after = view; is = is; label = refl; has_label = λ h. h; types = refl; inner = refl; entries = refl; location = refl }

  -- ---- an operation
  operation_located : (p : Ptr Operation) (view : OperationView T A) (l : Option (Location A)) (a b : ContextView T A) → operation a p ≡ Some view → LocatesOperation p l a b → operation b p ≡ Some (record view { loc = chosen view.loc l })
  operation_located p view None a b is e = ap (λ (c : ContextView T A). operation c p) e ∙ is
  operation_located p view (Some l) a b is e = let change = λ (v : OperationView T A). record v { loc = l } in changed_view change view is (edited_seen a b p (with_loc l) change (λ results regions held. refl) e)

  operation_stored : (p : Ptr Operation) (view : OperationView T A) (content : List (Text × Attribute A)) (a b : ContextView T A) → operation a p ≡ Some view → (k : StoresOperation p content a b) → operation b p ≡ Some (record view { attributes = k.left })
  operation_stored p view content a b is k = let change = λ (v : OperationView T A). record v { attributes = k.left } in changed_view change view is (edited_seen a b p (with_attributes k.left) change (λ results regions held. refl) k.edits)

  operation_gets : (p : Ptr Operation) (view : OperationView T A) (l : Option (Location A)) (x : Option (Written A)) (content : List (Text × Attribute A)) (a b : ContextView T A) → operation a p ≡ Some view → given_over paths l ≡ x
      → Gives (item.Operation p) l content a b → OperationHas paths (Some (x, content)) b p view
  operation_gets p view l x content a b is over g = go (operation a p) is g
    where
      go : (o : Option (OperationView T A)) → o ≡ Some view → cond (is_some o) ((mid : ContextView T A) × LocatesOperation p l a mid × StoresOperation p content mid b) (b ≡ a) → OperationHas paths (Some (x, content)) b p view
      go None e g = absurd (cc e)
      go (Some v) e (mid, h, k) =
          let there = operation_located p view l a mid is h in
          record {
            after = record view { loc = chosen view.loc l; attributes = k.left };
            is = operation_stored p (record view { loc = chosen view.loc l }) content mid b there k;
            id = refl;
            types = refl;
            inner = refl;
            entries = k.stored (record view { loc = chosen view.loc l }) there;
            location = chosen_over paths view.loc l x content over;
          }

  -- ---- a block
  block_located : (p : Ptr BasicBlock) (view : BlockView T A) (l : Option (Location A)) (a b : ContextView T A) → block a p ≡ Some view → LocatesBlock p l a b → block b p ≡ Some (record view { loc = chosen view.loc l })
  block_located p view None a b is e = ap (λ (c : ContextView T A). block c p) e ∙ is
  block_located p view (Some l) a b is e = let change = λ (v : BlockView T A). record v { loc = l } in changed_view change view is (edited_block_seen a b p (with_block_loc l) change (λ arguments operations held. refl) e)

  block_stored : (p : Ptr BasicBlock) (view : BlockView T A) (content : List (Text × Attribute A)) (a b : ContextView T A) → block a p ≡ Some view → (k : StoresBlock p content a b) → block b p ≡ Some (record view { attributes = k.left })
  block_stored p view content a b is k = let change = λ (v : BlockView T A). record v { attributes = k.left } in changed_view change view is (edited_block_seen a b p (with_block_attributes k.left) change (λ arguments operations held. refl) k.edits)

  block_labelled : (p : Ptr BasicBlock) (view : BlockView T A) (l : Option Text) (a b : ContextView T A) → block a p ≡ Some view → LabelsBlock p l a b → block b p ≡ Some (record view { label = named view.label l })
  block_labelled p view None a b is e = ap (λ (c : ContextView T A). block c p) e ∙ is
  block_labelled p view (Some l) a b is e = let change = λ (v : BlockView T A). record v { label = Some l } in changed_view change view is (edited_block_seen a b p (with_label (Some l)) change (λ arguments operations held. refl) e)

  block_gets : (p : Ptr BasicBlock) (view : BlockView T A) (l : Option (Location A)) (x : Option (Written A)) (content : List (Text × Attribute A)) (a b : ContextView T A) → block a p ≡ Some view → given_over paths l ≡ x
      → Gives (item.Block p) l content a b → BlockHas paths (Some (x, content)) b p view
  block_gets p view l x content a b is over g = go (block a p) is g
    where
      go : (o : Option (BlockView T A)) → o ≡ Some view → cond (is_some o) ((mid last : ContextView T A) × LocatesBlock p l a mid × StoresBlock p (no_label content) mid last × LabelsBlock p (label_in None content) last b) (b ≡ a) → BlockHas paths (Some (x, content)) b p view
      go None e g = absurd (cc e)
      go (Some v) e (mid, last, h, k, w) =
          let placed = block_located p view l a mid is h in
          let filled = block_stored p (record view { loc = chosen view.loc l }) (no_label content) mid last placed k in
          record {
            after = record view { loc = chosen view.loc l; attributes = k.left; label = named view.label (label_in None content) };
            is = block_labelled p (record view { loc = chosen view.loc l; attributes = k.left }) (label_in None content) last b filled w;
            label = named_or view.label (label_in None content) [] ∙ sym (label_given (unwrap_or view.label []) None content);
            has_label = named_some view.label (label_in None content);
            types = refl;
            inner = refl;
            entries = k.stored (record view { loc = chosen view.loc l }) placed;
            location = chosen_over paths view.loc l x content over;
          }

module _ (marks : List (ℕ × Item)) where
  -- one entry is of the item whose mark it has
  of_mark : (k i : ℕ) (x y : Item) → (i == k) ≡ true → lookup (same_index i) marks ≡ Some y → lookup (same_index k) marks ≡ Some x → y ≡ x
  of_mark k i x y e f g = cc (sym f ∙ (ap (λ i. lookup (same_index i) marks) (same_number i k e) ∙ g))

  not_mark : (k i : ℕ) (x y : Item) → (i == k) ≡ false → lookup (same_index i) marks ≡ Some y → ((j : ℕ) → lookup (same_index j) marks ≡ Some x → j ≡ k) → y ≡ x → ⊥
  not_mark k i x y e f only same = apart_number i k e (only i (f ∙ ap Some same))

-- ---- what all entries give
module _ {T A : Type 0} (marks : List (ℕ × Item)) (rules : ℕ → Rule A) (paths : List (List ℕ)) (all : List (Entry ℕ A (Written A))) where
  -- an item with a mark has what the entry of this mark gives: it has what one entry gives, others leave what is seen of it, and those that avoid it leave what it has
  module _ (y : Item) (k : ℕ) (carried : lookup (same_index k) marks ≡ Some y) (only : (i : ℕ) → lookup (same_index i) marks ≡ Some y → i ≡ k)
      {V : Type 0} (seen : ContextView T A → Option V) (view : V) (Has : Option (Option (Written A) × List (Text × Attribute A)) → ContextView T A → Type 0) (same : (c : ContextView T A) → seen c ≡ Some view → Has None c)
      (gets : (l : Option (Location A)) (x : Option (Written A)) (content : List (Text × Attribute A)) (a b : ContextView T A) → seen a ≡ Some view → given_over paths l ≡ x → Gives y l content a b → Has (Some (x, content)) b)
      (beside : (z : Item) (l : Option (Location A)) (content : List (Text × Attribute A)) (a b : ContextView T A) → (z ≡ y → ⊥) → Gives z l content a b → seen b ≡ seen a)
      (kept : (es : List (Entry ℕ A (Written A))) (a b : ContextView T A) → Avoids marks y es → AppliesAll marks paths all es a b → (given : Option (Option (Written A) × List (Text × Attribute A))) → Has given a → Has given b) where
    marked : (before : List ℕ) (es : List (Entry ℕ A (Written A))) → wrong_entries (indices_of marks) rules before es ≡ [] → (a b : ContextView T A) → seen a ≡ Some view → AppliesAll marks paths all es a b → Has (content_in all es k) b
    marked before [] fine a b is e = same b (ap seen e ∙ is)
    marked before (of_once m x ∷ es) fine a b is h = marked before es fine a b is h
    marked before (of_item m x ps ∷ es) fine a b is (mid, one, more) = go (m.index == k) refl (marked next es later mid b)
      where
        next : List ℕ
        next = before ++ m.index ∷ []

        later : wrong_entries (indices_of marks) rules next es ≡ []
        later = after_none (wrong_pairs (rules m.index) ps) (wrong_entries (indices_of marks) rules next es) (after_none (wrong_index (indices_of marks) before m) (wrong_pairs (rules m.index) ps ++ wrong_entries (indices_of marks) rules next es) fine)

        given : List (Text × Attribute A)
        given = flat_map (resolved all) ps

        go : (t : Bool) → (m.index == k) ≡ t → (seen mid ≡ Some view → AppliesAll marks paths all es mid b → Has (content_in all es k) b) → Has (cond t (Some (x, given)) (content_in all es k)) b
        go true e again =
            let its : Gives y one.location given a mid = subst (λ z. Gives z one.location given a mid) (of_mark marks k m.index y one.item e one.carries carried) one.gives in
            let avoids = avoids_later marks rules y k only next es (among_last k m.index before (number_eq m.index k (same_number m.index k e))) later in
            kept es mid b avoids more (Some (x, given)) (gets one.location x given a mid is one.over its)
        go false e again = again (beside one.item one.location given a mid (not_mark marks k m.index y one.item e one.carries only) one.gives ∙ is) more

  marked_operation : (p : Ptr Operation) (k : ℕ) → lookup (same_index k) marks ≡ Some (item.Operation p) → ((i : ℕ) → lookup (same_index i) marks ≡ Some (item.Operation p) → i ≡ k) → (view : OperationView T A) (es : List (Entry ℕ A (Written A)))
      → wrong_entries (indices_of marks) rules [] es ≡ [] → (a b : ContextView T A) → operation a p ≡ Some view → AppliesAll marks paths all es a b → OperationHas paths (content_in all es k) b p view
  marked_operation p k carried only view =
      marked (item.Operation p) k carried only (λ c. operation c p) view (λ given c. OperationHas paths given c p view) (operation_same paths p view) (operation_gets paths p view)
      (λ z l content a b n g. ap (option_and_then operation_of) (operation_beside p z l content a b n g))
      (λ es a b v h given has. record { after = has.after; is = ap (option_and_then operation_of) (operation_avoided marks paths all p es a b v h) ∙ has.is; id = has.id; types = has.types; inner = has.inner; entries = has.entries; location = has.location }) []

  marked_block : (p : Ptr BasicBlock) (k : ℕ) → lookup (same_index k) marks ≡ Some (item.Block p) → ((i : ℕ) → lookup (same_index i) marks ≡ Some (item.Block p) → i ≡ k) → (view : BlockView T A) (es : List (Entry ℕ A (Written A)))
      → wrong_entries (indices_of marks) rules [] es ≡ [] → (a b : ContextView T A) → block a p ≡ Some view → AppliesAll marks paths all es a b → BlockHas paths (content_in all es k) b p view
  marked_block p k carried only view =
      marked (item.Block p) k carried only (λ c. block c p) view (λ given c. BlockHas paths given c p view) (block_same paths p view) (block_gets paths p view)
      (λ z l content a b n g. ap (option_map block_of) (block_beside p z l content a b n g))
      (λ es a b v h given has. record { after = has.after; is = ap (option_map block_of) (block_avoided marks paths all p es a b v h) ∙ has.is; label = has.label; has_label = has.has_label; types = has.types; inner = has.inner; entries = has.entries; location = has.location }) []

-- ---- once a section was parsed
module _ {T A U : Type 0} (attr : Text → Outcome (AttrView A)) (old new : StateStream T A U) (r : ReadsSection attr old new) where
  abbrev c : ContextView T A
  c = old.state.ctx.now

  abbrev d : ContextView T A
  d = new.state.ctx.now

  abbrev marks : List (ℕ × Item)
  marks = marks_of old.state

  same_graph : r.middle.graph ≡ c.graph
  same_graph = ap (λ (x : ContextView T A). x.graph) r.adds.rest

  same_paths : d.paths ≡ r.middle.paths
  same_paths = applied_paths marks r.middle.paths r.entries r.entries r.middle d r.applied

  -- an operation without a mark is unchanged
  pub operation_untouched : (p : Ptr Operation) → CarriesOnly marks (item.Operation p) None → get d.graph.operations p ≡ get c.graph.operations p
  operation_untouched p n = operation_avoided marks r.middle.paths r.entries p r.entries r.middle d (avoids_unmarked {A = A} marks (λ i k a. true) (item.Operation p) n r.entries) r.applied ∙ ap (λ g. get g.operations p) same_graph

  -- the same for a block
  pub block_untouched : (p : Ptr BasicBlock) → CarriesOnly marks (item.Block p) None → get d.graph.blocks p ≡ get c.graph.blocks p
  block_untouched p n = block_avoided marks r.middle.paths r.entries p r.entries r.middle d (avoids_unmarked {A = A} marks (λ i k a. true) (item.Block p) n r.entries) r.applied ∙ ap (λ g. get g.blocks p) same_graph

  module _ (rules : ℕ → Rule A) (none : refused (indices_of marks) rules r.entries ≡ []) where
    all_fine : wrong_entries (indices_of marks) rules [] r.entries ≡ []
    all_fine = front_none (wrong_entries (indices_of marks) rules [] r.entries) (wrong_references rules r.entries) (sym (refused_parts (indices_of marks) rules r.entries) ∙ none)

    operation_over : (p : Ptr Operation) (m : Option (Mark ℕ)) (view : OperationView T A) → OperationHas r.middle.paths (content r.entries m) d p view → OperationGiven r.entries m d p view
    operation_over p m view h = subst (λ z. OperationHas z (content r.entries m) d p view) (sym same_paths) h

    block_over : (p : Ptr BasicBlock) (m : Option (Mark ℕ)) (view : BlockView T A) → BlockHas r.middle.paths (content r.entries m) d p view → BlockGiven r.entries m d p view
    block_over p m view h = subst (λ z. BlockHas z (content r.entries m) d p view) (sym same_paths) h

    -- an operation has what the entry of its mark gives it, over what it had
    pub operation_given : (p : Ptr Operation) (m : Option (Mark ℕ)) → CarriesOnly marks (item.Operation p) m → (view : OperationView T A) → operation c p ≡ Some view → OperationGiven r.entries m d p view
    operation_given p None carries view is = operation_over p None view (operation_same r.middle.paths p view d (ap (option_and_then operation_of) (operation_untouched p carries) ∙ is))
    operation_given p (Some k) carries view is =
        operation_over p (Some k) view (marked_operation marks rules r.middle.paths r.entries p k.index carries.0 carries.1 view r.entries all_fine r.middle d (ap (λ g. option_and_then operation_of (get g.operations p)) same_graph ∙ is) r.applied)

    -- so has a block, and its label
    pub block_given : (b : Ptr BasicBlock) (m : Option (Mark ℕ)) → CarriesOnly marks (item.Block b) m → (view : BlockView T A) → block c b ≡ Some view → BlockGiven r.entries m d b view
    block_given b None carries view is = block_over b None view (block_same r.middle.paths b view d (ap (option_map block_of) (block_untouched b carries) ∙ is))
    block_given b (Some k) carries view is =
        block_over b (Some k) view (marked_block marks rules r.middle.paths r.entries b k.index carries.0 carries.1 view r.entries all_fine r.middle d (ap (λ g. option_map block_of (get g.blocks b)) same_graph ∙ is) r.applied)

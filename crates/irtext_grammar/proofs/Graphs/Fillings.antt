-- What a tree builds that was parsed from a printed graph, with a section that gives each item what the graph's item has, is equal to the
-- graph up to fillings.
use Rattle.std.proofs.Common.{◌≡◌, ℕ, suc, Bool, true, false, cond, List, [], ◌∷◌, ◌++◌, map, length, Option, Some, None, option_map, refl, sym, ap, ap₂, ◌∙◌, subst, true≢false}
use Rattle.std.specs.Prelude.{⊤}
use Rattle.irtext_base.specs.Text.{Text}
use Rattle.irtext_base.specs.Format.{same_text, Id}
use Rattle.irtext_grammar.specs.Grammar.Forest.{Regions, no_regions, region, Blocks, no_blocks, block, Operations, no_operations, operation, MatchRegions, MatchBlocks, MatchOperations, regions_list, AllRegions, AllBlocks, AllOperations}
use Rattle.irtext_grammar.specs.Grammar.Tree as tree
use Rattle.irtext_grammar.specs.Grammar.Tree.{Name, Attribute, Piece, Part, Body, custom, canonical, Op, Head, Brace, Tree, views, parts_of}
use Rattle.irtext_grammar.specs.Grammar.Bare.{bare_name, bare_entry, bare_piece, bare_part, bare_argument, bare_body, bare}
use Rattle.irtext_grammar.specs.Graphs.Graph.{Graph, GraphOp, GraphBlock, Printing, value, inline, entries, is_marked, body_of, written, op_outlined, block_outlined, outlined_entries, label_entry, outlined}
use Rattle.irtext_grammar.specs.Grammar.Section.{Entry}
use Rattle.irtext_grammar.specs.Names.Script.{Path, Script}
use Rattle.irtext_grammar.specs.Names.Scopes.{Fact, no_scope, failures}
use Rattle.irtext_grammar.specs.Names.Acts.{block_may_hold, entries_if, tree_script}
use Rattle.irtext_grammar.specs.Graphs.Build.{stored, plain_entry, inline_entries, put_all, read_names, content, located, with_content, labelled, but_label, built_op, built_head, built_regions, built_blocks, built_operations, build}
use Rattle.irtext_grammar.specs.Graphs.Closed.{Thing, a_block, printed, FitsFormat, FitRegions, FitBlocks, FitOperations, Fit}
use Rattle.irtext_grammar.specs.Graphs.ReservedKeys.{KeepsRule, KeepsKeys, OpKeepsKeys, BlockKeepsKeys, GraphKeepsKeys}
use Rattle.irtext_grammar.specs.Graphs.RoundTrip.{KeysDiffer, GraphKeysDiffer}
use Rattle.irtext_grammar.specs.Graphs.Same.{SmallGraph, resolved_op, resolved_block, resolved_regions, resolved_blocks, resolved_operations, resolved_root, Locations, SameShape, SameBlockShape, SameDictionary, SameLocation, SameLabel, SameOp, SameBlock, SameShapes, UpToFillings}
use Rattle.irtext_grammar.specs.Spelling.SectionEntries.{own_content}
use Rattle.irtext_grammar.specs.Graphs.Contents.{as_text, OpContent, BlockContent, Contents}
use Rattle.irtext_grammar.specs.Graphs.Links.{OpLinked}
use Rattle.irtext_grammar.proofs.Grammar.PartsOfFormats.{Formed}
use Rattle.irtext_grammar.proofs.Graphs.BareScript.{mapped_twice}
use Rattle.irtext_grammar.proofs.Graphs.BareBuild.{shapes_bare}
use Rattle.irtext_grammar.proofs.Graphs.Match.{same_shapes}
use Rattle.irtext_grammar.proofs.Lists.Dictionaries.{Picks, picks_filter}
use Rattle.irtext_grammar.proofs.Graphs.DictionaryHalves.{inlined, content_added, content_but_label, content_label, block_keeps, same_dictionary}
use Rattle.irtext_grammar.proofs.Graphs.KeptWritten.{keeps_filter}
use Rattle.irtext_grammar.proofs.Graphs.InlineEntries.{plainly, written_picks}
use Rattle.irtext_grammar.proofs.Lists.Numbering.{some_inside}
use Rattle.irtext_grammar.proofs.Graphs.WrittenAs.{WrittenOp, WrittenBlock, written_as}
use Rattle.irtext_grammar.proofs.Graphs.Links.{all_there}

-- ---- what is stored, places aside
module _ {P T A : Type 0} where
  stored_bare : (x : Piece P T A) → stored (bare_piece x) ≡ stored x
  stored_bare (tree.dictionary es) = mapped_twice bare_entry plain_entry es
  stored_bare _ = refl

  parts_stored : (ps : List (Part P T A)) → views stored (map bare_part ps) ≡ views stored ps
  parts_stored [] = refl
  parts_stored (tree.piece x ∷ ps) = ap₂ ◌++◌ (stored_bare x) (parts_stored ps)
  parts_stored (tree.region i ∷ ps) = parts_stored ps
  parts_stored (tree.regions ∷ ps) = parts_stored ps

  body_stored : (b : Body P T A) → views stored (parts_of (bare_body b)) ≡ views stored (parts_of b)
  body_stored (custom ps) = parts_stored ps
  body_stored (canonical ns ls es xs ys) = ap (λ z. z ++ []) (mapped_twice bare_entry plain_entry es)

module _ {P A : Type 0} where
  entries_stored : (es : Option (List (Name P × Attribute A))) → map plain_entry (entries_if (option_map (map bare_entry) es)) ≡ map plain_entry (entries_if es)
  entries_stored None = refl
  entries_stored (Some es) = mapped_twice bare_entry plain_entry es

-- ---- what a mark's entry says of its item
-- a location was parsed where the item has one, and has its text
abbrev SameGiven : {X : Type 0} → Locations X → Option Text → Option X → Type 0
SameGiven K None None = ⊤
SameGiven K (Some l) (Some x) = K.text x ≡ l
SameGiven K _ _ = ⊥

same_given : {X : Type 0} (K : Locations X) (l : Option Text) (x : Option X) → option_map K.text x ≡ l → SameGiven K l x
same_given K None None e = tt
same_given K (Some l) (Some x) e = cc
same_given K None (Some x) e = absurd (none e)
  where
    none : {Y : Type 0} {y : Y} → Some y ≡ None → ⊥
    none e = cc
same_given K (Some l) None e = absurd (none e)
  where
    none : {Y : Type 0} {y : Y} → None ≡ Some y → ⊥
    none e = cc

module _ {P T A X : Type 0} (C : Printing T A) (K : Locations X) (all : List (Entry P A X)) where
  -- an item's mark leads to its location and its outlined attributes, if it has one of them
  abbrev SaysOf : Option Text → List (Text × Attribute A) → Option (tree.Mark P) → Type 0
  SaysOf l es m = (x : Option X) × (content all m ≡ cond (is_marked C l es) (Some (x, es)) None) × SameGiven K l x

  marked_located : (l : Option Text) (es : List (Text × Attribute A)) → is_marked C l es ≡ false → l ≡ None
  marked_located None es h = refl
  marked_located (Some l) es h = absurd (true≢false h)

  says_of : (l : Option Text) (es : List (Text × Attribute A)) (m : Option (tree.Mark P)) → option_map (as_text K.text) (content all m) ≡ own_content C l es → SaysOf l es m
  says_of l es m = go (is_marked C l es) refl (content all m) refl
    where
      none : {Y : Type 0} (y : Y) → Some y ≡ None → ⊥
      none y e = cc

      go : (b : Bool) → is_marked C l es ≡ b → (c : Option (Option X × List (Text × Attribute A))) → content all m ≡ c → option_map (as_text K.text) c ≡ cond b (Some (l, es)) None → SaysOf l es m
      go true k (Some (x, ds)) e h =
          let q = some_inside (option_map K.text x, ds) (l, es) h in
          (x, e ∙ (ap (λ z. Some (x, z)) (ap (λ z. z.1) q) ∙ sym (ap (λ b. cond b (Some (x, es)) None) k)), same_given K l x (ap (λ z. z.0) q))
      go true k None e h = absurd (none _ (sym h))
      go false k (Some c) e h = absurd (none _ h)
      go false k None e h =
          (None, e ∙ sym (ap (λ b. cond b (Some (None, es)) None) k), subst (λ z. SameGiven K z None) (sym (marked_located l es k)) tt)

module _ {P T A X : Type 0} (C : Printing T A) (isolated : Id → Bool) (K : Locations X) (first : P → X) (is_first : (p : P) → K.is_position (first p) ≡ true) (es : List (Entry P A X)) where
  located_same : (l : Option Text) (ds : List (Text × Attribute A)) (m : Option (tree.Mark P)) (p : P) → SaysOf C K es l ds m → SameLocation K l (located (first p) (content es m))
  located_same None ds m p (None, e, g) = subst (λ c. SameLocation K None (located (first p) c)) (sym e) (go (is_marked C None ds))
    where
      go : (b : Bool) → SameLocation K None (located (first p) (cond b (Some (None, ds)) None))
      go true = is_first p
      go false = is_first p
  located_same None ds m p (Some x, e, g) = absurd g
  located_same (Some l) ds m p (None, e, g) = absurd g
  located_same (Some l) ds m p (Some x, e, g) = subst (λ c. SameLocation K (Some l) (located (first p) c)) (sym e) g

  -- with what was parsed at the item, and what its mark's content adds to that
  dictionary_same : (ds : List (Text × Attribute A)) (c : Option (Option X × List (Text × Attribute A))) (names ns : List Text) (here shown : List (Text × Attribute A))
      → KeysDiffer ds → KeepsKeys ds → Picks (inlined C) ds shown → here ≡ shown → ns ≡ names → ((base : List (Text × Attribute A)) → with_content base c ≡ put_all base (outlined_entries C ds))
      → SameDictionary names ds (with_content (put_all [] (here ++ read_names ns)) c)
  dictionary_same ds c names ns here shown d k p e f adds =
      subst (SameDictionary names ds) (sym (ap₂ (λ xs z. with_content (put_all [] (xs ++ read_names z)) c) e f ∙ adds (put_all [] (shown ++ read_names names)))) (same_dictionary C names ds shown d k p)

  op_adds : (l : Option Text) (ds : List (Text × Attribute A)) (m : Option (tree.Mark P)) → SaysOf C K es l ds m → (base : List (Text × Attribute A)) → with_content base (content es m) ≡ put_all base ds
  op_adds l ds m s base = ap (with_content base) s.1 ∙ content_added C l ds base s.0

  block_adds : (l o : Option Text) (ds : List (Text × Attribute A)) (m : Option (tree.Mark P)) → KeepsRule block_may_hold ds → SaysOf C K es l (label_entry o ++ ds) m
      → (base : List (Text × Attribute A)) → with_content base (but_label (content es m)) ≡ put_all base ds
  block_adds l o ds m k s base = ap (λ c. with_content base (but_label c)) s.1 ∙ content_but_label C l o ds base s.0 k

  same_label : (o : Option Text) (name t x : Text) → t ≡ name → x ≡ elim o [ Some n ↦ n | None ↦ t ] → SameLabel name o x
  same_label None name t x e h = h ∙ e
  same_label (Some n) name t x e h = h

  label_same : (l o : Option Text) (ds : List (Text × Attribute A)) (m : Option (tree.Mark P)) (name t : Text) → t ≡ name → KeepsRule block_may_hold ds → SaysOf C K es l (label_entry o ++ ds) m
      → SameLabel name o (labelled t (content es m))
  label_same l o ds m name t e k s = same_label o name t _ e (ap (labelled t) s.1 ∙ content_label C l o ds t s.0 k)

  op_same : (w m : List (Fact Thing)) (v l : List (Fact Text)) (o : GraphOp T A) (p : Op P T A) (n : ℕ) → FitsFormat C isolated (C.format_of o.id) o n → OpKeepsKeys o → KeysDiffer o.attributes → WrittenOp C o p
      → SaysOf C K es o.location (op_outlined C o) p.mark → SameShape (resolved_op C isolated w m o) (built_op isolated first es v l p) → OpLinked (built_op isolated first es v l p) → SameOp K (resolved_op C isolated w m o) (built_op isolated first es v l p)
  op_same w m v l o p n f k d r s h t = record {
    shape = h;
    operands_there = t.0;
    successors_there = t.1;
    dictionary =
        dictionary_same o.attributes (content es p.mark) _ (map (λ n. n.text) p.names) (inline_entries p) (views stored (parts_of (body_of C o (C.format_of o.id)))) d k (written_picks C isolated o d n (C.format_of o.id) f)
        (sym (body_stored p.body) ∙ ap (λ z. views stored (parts_of z.body)) r.1)
        (sym (mapped_twice bare_name (λ n. n.text) p.names) ∙ (ap (λ z. map (λ n. n.text) z.names) r.1 ∙ mapped_twice (λ (r : ℕ × T). value C r.0) (λ n. n.text) o.results)) (op_adds o.location (op_outlined C o) p.mark s);
    location = located_same o.location (op_outlined C o) p.mark p.place s;
  }

  head_entries : (ds : List (Name ⊤ × Attribute A)) → entries_if (elim ds [ [] ↦ None | e ∷ rest ↦ Some (e ∷ rest) ]) ≡ ds
  head_entries [] = refl
  head_entries (e ∷ ds) = refl

  kept : (b : GraphBlock T A) → BlockKeepsKeys b → KeepsRule block_may_hold (outlined_entries C b.attributes)
  kept b k = keeps_filter block_may_hold (λ e. outlined C e.1) b.attributes k

  block_same : (b : GraphBlock T A) (h : Head P T A) → BlockKeepsKeys b → KeysDiffer b.attributes → WrittenBlock C b h → SaysOf C K es b.location (block_outlined C b) h.mark → SameBlockShape (resolved_block C isolated b) (built_head isolated first es h)
      → SameBlock K (resolved_block C isolated b) (built_head isolated first es h)
  block_same b h k d r s e = record {
    shape = e;
    label = label_same b.location (C.label b.place) (outlined_entries C b.attributes) h.mark (printed C (a_block b.place)) h.label.text (ap (λ z. z.label.text) r.1) (kept b k) s;
    dictionary =
        dictionary_same b.attributes (but_label (content es h.mark)) _ (map (λ a. a.0.text) h.arguments) (map plain_entry (entries_if h.attributes)) (inline C b.attributes) d (block_keeps b.attributes k) (picks_filter (inlined C) b.attributes d)
        (sym (entries_stored h.attributes) ∙ (ap (λ z. map plain_entry (entries_if z.attributes)) r.1 ∙ (ap (map plain_entry) (head_entries (entries C (inline C b.attributes))) ∙ plainly C (inline C b.attributes))))
        (sym (mapped_twice bare_argument (λ (a : Name ⊤ × T). a.0.text) h.arguments) ∙ (ap (λ z. map (λ a. a.0.text) z.arguments) r.1 ∙ mapped_twice (λ (a : ℕ × T). (value C a.0, a.1)) (λ (a : Name ⊤ × T). a.0.text) b.arguments)) (block_adds b.location (C.label b.place) (outlined_entries C b.attributes) h.mark (kept b k) s);
    location = located_same b.location (block_outlined C b) h.mark h.label.place s;
  }

  abbrev Differ : GraphOp T A → Type 0
  Differ o = KeysDiffer o.attributes

  abbrev BlockDiffer : GraphBlock T A → Type 0
  BlockDiffer b = KeysDiffer b.attributes

  abbrev Says : GraphOp T A → Op P T A → Type 0
  Says = OpContent C K.text es

  abbrev BlockSays : GraphBlock T A → Head P T A → Type 0
  BlockSays = BlockContent C K.text es

  mutual
    regions_same : (a : Regions (GraphOp T A) (GraphBlock T A) ⊤) (r : Regions (Op P T A) (Head P T A) (Brace P)) (w : List (Fact Thing)) (v : List (Fact Text)) (q : Path) (j : ℕ) (iso also : Bool)
        → FitRegions C isolated a → AllRegions OpKeepsKeys BlockKeepsKeys (λ r. ⊤) a → AllRegions Differ BlockDiffer (λ r. ⊤) a → MatchRegions (WrittenOp C) (WrittenBlock C) (λ x y. ⊤) a r → MatchRegions Says BlockSays (λ x y. ⊤) a r → MatchRegions SameShape SameBlockShape (λ x y. ⊤) (resolved_regions C isolated w q j iso a) (built_regions isolated first es v q j also r) → AllRegions OpLinked (λ b. ⊤) (λ r. ⊤) (built_regions isolated first es v q j also r) → MatchRegions (SameOp K) (SameBlock K) (λ x y. ⊤) (resolved_regions C isolated w q j iso a) (built_regions isolated first es v q j also r)
    regions_same no_regions no_regions w v q j iso also f k d r s h t = tt
    regions_same (region c cs ss) (region b bs rs) w v q j iso also f k d r s h t =
        (tt, blocks_same cs bs _ _ _ _ (j ∷ q) 0 f.0 k.1 d.1 r.1 s.1 h.1 t.1, regions_same ss rs w v q (suc j) iso also f.1 k.2 d.2 r.2 s.2 h.2 t.2)
    regions_same _ _ w v q j iso also f k d r s h t = absurd r

    blocks_same : (a : Blocks (GraphOp T A) (GraphBlock T A) ⊤) (r : Blocks (Op P T A) (Head P T A) (Brace P)) (w m : List (Fact Thing)) (v l : List (Fact Text)) (q : Path) (i : ℕ)
        → FitBlocks C isolated a → AllBlocks OpKeepsKeys BlockKeepsKeys (λ r. ⊤) a → AllBlocks Differ BlockDiffer (λ r. ⊤) a → MatchBlocks (WrittenOp C) (WrittenBlock C) (λ x y. ⊤) a r → MatchBlocks Says BlockSays (λ x y. ⊤) a r → MatchBlocks SameShape SameBlockShape (λ x y. ⊤) (resolved_blocks C isolated w m q i a) (built_blocks isolated first es v l q i r) → AllBlocks OpLinked (λ b. ⊤) (λ r. ⊤) (built_blocks isolated first es v l q i r) → MatchBlocks (SameOp K) (SameBlock K) (λ x y. ⊤) (resolved_blocks C isolated w m q i a) (built_blocks isolated first es v l q i r)
    blocks_same no_blocks no_blocks w m v l q i f k d r s h t = tt
    blocks_same (block c cs ds) (block g os bs) w m v l q i f k d r s h t =
        (block_same c g k.0 d.0 r.0 (says_of C K es c.location (block_outlined C c) _ s.0) h.0, operations_same cs os w m v l (i ∷ q) 0 f.0 k.1 d.1 r.1 s.1 h.1 t.1, blocks_same ds bs w m v l q (suc i) f.1 k.2 d.2 r.2 s.2 h.2 t.2)
    blocks_same _ _ w m v l q i f k d r s h t = absurd r

    operations_same : (a : Operations (GraphOp T A) (GraphBlock T A) ⊤) (r : Operations (Op P T A) (Head P T A) (Brace P)) (w m : List (Fact Thing)) (v l : List (Fact Text)) (q : Path) (i : ℕ)
        → FitOperations C isolated a → AllOperations OpKeepsKeys BlockKeepsKeys (λ r. ⊤) a → AllOperations Differ BlockDiffer (λ r. ⊤) a → MatchOperations (WrittenOp C) (WrittenBlock C) (λ x y. ⊤) a r → MatchOperations Says BlockSays (λ x y. ⊤) a r → MatchOperations SameShape SameBlockShape (λ x y. ⊤) (resolved_operations C isolated w m q i a) (built_operations isolated first es v l q i r) → AllOperations OpLinked (λ b. ⊤) (λ r. ⊤) (built_operations isolated first es v l q i r) → MatchOperations (SameOp K) (SameBlock K) (λ x y. ⊤) (resolved_operations C isolated w m q i a) (built_operations isolated first es v l q i r)
    operations_same no_operations no_operations w m v l q i f k d r s h t = tt
    operations_same (operation c cs ds) (operation o rs os) w m v l q i f k d r s h t =
        (op_same w m v l c o (length (regions_list cs)) f.0 k.0 d.0 r.0 (says_of C K es c.location (op_outlined C c) _ s.0) h.0 t.0, regions_same cs rs w v (i ∷ q) 0 _ _ f.1 k.1 d.1 r.1 s.1 h.1 t.1, operations_same ds os w m v l q (suc i) f.2 k.2 d.2 r.2 s.2 h.2 t.2)
    operations_same _ _ w m v l q i f k d r s h t = absurd r

  -- what is built of a tree that is written of a graph is equal to the graph up to fillings
  pub fillings : (g : Graph T A) (t : Tree P T A) (x : Script Text P) → Fit C isolated g → SmallGraph C isolated g → GraphKeepsKeys g → GraphKeysDiffer g → bare t ≡ written C None g → Formed t
      → failures same_text no_scope (tree_script isolated t x) ≡ [] → Contents C K.text es g t → UpToFillings K (resolved_root C isolated g) (build isolated first es t)
  fillings g t x f small k d e formed resolves s =
      let h = shapes_bare isolated first es (λ (p : ⊤). p) [] (resolved_root C isolated g) t (subst (λ z. SameShapes (resolved_root C isolated g) (build isolated (λ (p : ⊤). p) [] z)) (sym e) (same_shapes C isolated (λ (p : ⊤). p) [] g f small)) in
      let w = written_as C g t e in
      let t' = all_there isolated first es t formed x resolves in
      (op_same [] [] [] [] g.own t.own (length (regions_list g.regions)) f.0 k.0 d.0 w.0 (says_of C K es g.own.location (op_outlined C g.own) t.own.mark s.0) h.0 t'.0, regions_same g.regions t.regions [] [] [] 0 _ _ f.1 k.1 d.1 w.1 s.1 h.1 t'.1)

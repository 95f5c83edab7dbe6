-- What a tree that resolves builds has names for all results and arguments, keys that are allowed, and labels in no dictionary.
use Rattle.std.proofs.Common.{◌≡◌, ℕ, suc, Bool, true, false, cond, not, ◌&&◌, ◌||◌, ◌==◌, List, [], ◌∷◌, ◌++◌, map, filter, flat_map, length, Option, Some, None, is_some, nat_eq, inl, inr, refl, sym, ap, ap₂, ◌∙◌, subst, true≢false, arith}
use Rattle.std.specs.Prelude.{⊤}
use Rattle.std.proofs.lemmas.Bool.Decides.{nat_tests}
use Rattle.irtext_base.specs.Text.{Text}
use Rattle.irtext_base.specs.Format as format
use Rattle.irtext_base.specs.Format.{Format, Directive, Accepted, same_text, has, keys, given_names_key, block_label_key, Id}
use Rattle.irtext_grammar.specs.Grammar.Tree.{Name, Attribute, own, Piece, Part, Body, Op, Head, Brace, shown, elided, Tree, IsOf, directive, parts_of, views, in_order, operand_names, successor_labels}
use Rattle.irtext_grammar.specs.Spelling.Spellable.{Each}
use Rattle.irtext_grammar.specs.Grammar.Forest.{Regions, no_regions, region, Blocks, no_blocks, block, Operations, no_operations, operation, MatchRegions, MatchBlocks, MatchOperations, AllRegions, AllBlocks, AllOperations}
use Rattle.irtext_grammar.specs.Grammar.Tree as tree
use Rattle.irtext_grammar.specs.Grammar.Section.{Item, direct, reference, Entry, of_item, of_once}
use Rattle.irtext_grammar.specs.Graphs.Graph.{Graph, GraphOp, GraphBlock, Printing, lookup}
use Rattle.irtext_grammar.specs.Names.Script.{Path}
use Rattle.irtext_grammar.specs.Names.Scopes.{Fact, is_among}
use Rattle.irtext_grammar.specs.Names.Acts.{Rule, may_hold, block_may_hold, keeps_label_key, is_given, keeps_if, shared_attribute, result_types, entries_if, marked_as, block_marks_in_regions, block_marks_in_blocks, block_marks_in_operations}
use Rattle.irtext_grammar.specs.Graphs.Build.{put, put_all, read_names, plain_entry, stored, inline_entries, resolved, content_in, content, with_content, but_label, built_op, built_head, built_regions, built_blocks, built_operations, build}
use Rattle.irtext_grammar.specs.Graphs.ReservedKeys.{KeepsRule, KeepsKeys, OpKeepsKeys, BlockKeepsKeys, GraphKeepsKeys}
use Rattle.irtext_grammar.specs.Names.Resolves.{KeysKept, is_kept, EntryKept, CountsAgree, OpKeysKept, HeadKeysKept, texts, Resolves}
use Rattle.irtext_grammar.specs.Graphs.Closed.{Thing}
use Rattle.irtext_grammar.specs.Graphs.Same.{resolved_op, resolved_block, resolved_regions, resolved_blocks, resolved_operations, resolved_root}
use Rattle.irtext_grammar.specs.Graphs.Regained.{HoldsNames, OpNamed, BlockNamed, Named}
use Rattle.irtext_grammar.specs.Graphs.Represents.{RepresentsOp, RepresentsBlock, Represents}
use Rattle.irtext_grammar.specs.Spelling.Writable.{has_region}
use Rattle.irtext_grammar.proofs.Graphs.FitsFormat.{meets, and_left, and_right}
use Rattle.irtext_grammar.proofs.Grammar.PartsOfFormats.{FormedOp, FormedRegions, FormedBlocks, FormedOperations, Formed}
use Rattle.irtext_grammar.proofs.Lists.Lists.{or_else}
use Rattle.irtext_grammar.proofs.Lists.Dictionaries.{last_of, last_both, lookup_put_all}
use Rattle.irtext_grammar.proofs.Lists.Numbering.{some_inside}
use Rattle.irtext_grammar.proofs.Lists.Numbers.{among_left, among_right}
use Rattle.irtext_grammar.proofs.Names.ResolvedScript.{same_text_symmetric}
use Rattle.irtext_grammar.proofs.Lists.Fresh.{is_not}
use Rattle.irtext_grammar.proofs.Names.ActsOfTrees.{entries_in}

unequal : {X : Type 0} (x : X) (xs : List X) → x ∷ xs ≡ [] → ⊥
unequal x xs e = cc

both_true : (a b : Bool) → a ≡ true → b ≡ true → (a && b) ≡ true
both_true true b e f = f
both_true false b e f = e

-- ---- names
or_first : {X : Type 0} (o q : Option X) → is_some o ≡ true → is_some (or_else o q) ≡ true
or_first (Some x) q h = refl
or_first None q h = absurd (true≢false (sym h))

or_second : {X : Type 0} (o q : Option X) → is_some q ≡ true → is_some (or_else o q) ≡ true
or_second (Some x) q h = refl
or_second None q h = h

-- names that were parsed are there
names_put : {A : Type 0} (base : List (Text × Attribute A)) (n : Text) (ns : List Text) → is_some (lookup given_names_key (put_all [] (base ++ read_names (n ∷ ns)))) ≡ true
names_put base n ns =
    ap is_some (lookup_put_all given_names_key [] (base ++ read_names (n ∷ ns))) ∙ or_first (last_of given_names_key (base ++ read_names (n ∷ ns))) None (ap is_some (last_both given_names_key base (read_names (n ∷ ns))))

names_there : {A X : Type 0} (base : List (Text × Attribute A)) (n : Text) (ns : List Text) (c : Option (X × List (Text × Attribute A)))
    → is_some (lookup given_names_key (with_content (put_all [] (base ++ read_names (n ∷ ns))) c)) ≡ true
names_there base n ns None = names_put base n ns
names_there base n ns (Some d) =
    ap is_some (lookup_put_all given_names_key (put_all [] (base ++ read_names (n ∷ ns))) d.1)
    ∙ or_second (last_of given_names_key d.1) (lookup given_names_key (put_all [] (base ++ read_names (n ∷ ns)))) (names_put base n ns)

holds_names : {Y A X : Type 0} (things : List Y) (names : List Text) (es base : List (Text × Attribute A)) (c : Option (X × List (Text × Attribute A))) → (names ≡ [] → things ≡ [])
    → es ≡ with_content (put_all [] (base ++ read_names names)) c → HoldsNames things es
holds_names things [] es base c f e = inl (f refl)
holds_names things (n ∷ ns) es base c f e = inr (ap (λ z. is_some (lookup given_names_key z)) e ∙ names_there base n ns c)

-- as many values as types, and as many types as names
none_named : {P T : Type 0} (xs : List (ℕ × T)) (ts : List T) (ns : List (Name P)) → map (λ (r : ℕ × T). r.1) xs ≡ ts → (length ts == length ns) ≡ true → map (λ n. n.text) ns ≡ [] → xs ≡ []
none_named [] ts ns e h q = refl
none_named (x ∷ xs) ts [] e h q = absurd (more (length (map (λ (r : ℕ × _). r.1) xs)) (ap (λ z. length z == 0) e ∙ h))
  where
    more : (k : ℕ) → (suc k == 0) ≡ true → ⊥
    more k h = grind (arith, nat_tests)
none_named (x ∷ xs) ts (n ∷ ns) e h q = absurd (unequal n.text _ q)

none_typed : {P T : Type 0} (xs : List (ℕ × T)) (ys : List (Name P × T)) → map (λ (r : ℕ × T). r.1) xs ≡ map (λ a. a.1) ys → map (λ a. a.0.text) ys ≡ [] → xs ≡ []
none_typed [] ys e q = refl
none_typed (x ∷ xs) [] e q = absurd (unequal x.1 _ e)
none_typed (x ∷ xs) (y ∷ ys) e q = absurd (unequal y.0.text _ q)

-- ---- which attributes are allowed under keys
keeps_both : {A : Type 0} (rule : Rule A) (xs ys : List (Text × Attribute A)) → KeepsRule rule xs → KeepsRule rule ys → KeepsRule rule (xs ++ ys)
keeps_both rule [] ys h k = k
keeps_both rule (x ∷ xs) ys h k = both_true (rule x.0 x.1) _ (and_left (rule x.0 x.1) _ h) (keeps_both rule xs ys (and_right (rule x.0 x.1) _ h) k)

keeps_put : {A : Type 0} (rule : Rule A) (e : Text × Attribute A) (ds : List (Text × Attribute A)) → rule e.0 e.1 ≡ true → KeepsRule rule ds → KeepsRule rule (put e ds)
keeps_put rule e [] h k = both_true (rule e.0 e.1) true h refl
keeps_put rule e (d ∷ ds) h k = go (same_text e.0 d.0) (keeps_put rule e ds h (and_right (rule d.0 d.1) _ k))
  where
    go : (b : Bool) → KeepsRule rule (put e ds) → KeepsRule rule (cond b (e ∷ ds) (d ∷ put e ds))
    go true r = both_true (rule e.0 e.1) _ h (and_right (rule d.0 d.1) _ k)
    go false r = both_true (rule d.0 d.1) _ (and_left (rule d.0 d.1) _ k) r

keeps_put_all : {A : Type 0} (rule : Rule A) (es ds : List (Text × Attribute A)) → KeepsRule rule es → KeepsRule rule ds → KeepsRule rule (put_all es ds)
keeps_put_all rule es [] h k = h
keeps_put_all rule es (d ∷ ds) h k = keeps_put_all rule (put d es) ds (keeps_put rule d es (and_left (rule d.0 d.1) _ k) h) (and_right (rule d.0 d.1) _ k)

keeps_names : (A : Type 0) (ns : List Text) → KeepsRule {A = A} block_may_hold (read_names ns)
keeps_names A [] = refl
keeps_names A (n ∷ ns) = refl

block_to_key : {A : Type 0} (es : List (Text × Attribute A)) → KeepsRule block_may_hold es → KeepsKeys es
block_to_key [] h = refl
block_to_key (e ∷ es) h = both_true (may_hold e.0 e.1) _ (and_left (may_hold e.0 e.1) _ (and_left (block_may_hold e.0 e.1) _ h)) (block_to_key es (and_right (block_may_hold e.0 e.1) _ h))

label_to_key : {A : Type 0} (es : List (Text × Attribute A)) → KeepsRule keeps_label_key es → KeepsKeys es
label_to_key [] h = refl
label_to_key (e ∷ es) h = both_true (may_hold e.0 e.1) _ (and_left (may_hold e.0 e.1) _ (and_left (keeps_label_key e.0 e.1) _ h)) (label_to_key es (and_right (keeps_label_key e.0 e.1) _ h))

without_label : {A : Type 0} (es : List (Text × Attribute A)) → KeepsRule keeps_label_key es → KeepsRule block_may_hold (filter (λ e. not (same_text e.0 block_label_key)) es)
without_label [] h = refl
without_label {A} (e ∷ es) h = go (not (same_text e.0 block_label_key)) refl (without_label es (and_right (keeps_label_key e.0 e.1) _ h))
  where
    go : (b : Bool) → not (same_text e.0 block_label_key) ≡ b → KeepsRule {A = A} block_may_hold (filter (λ e. not (same_text e.0 block_label_key)) es)
        → KeepsRule {A = A} block_may_hold (cond b (e ∷ filter (λ e. not (same_text e.0 block_label_key)) es) (filter (λ e. not (same_text e.0 block_label_key)) es))
    go true q r = both_true (block_may_hold e.0 e.1) _ (both_true (may_hold e.0 e.1) _ (and_left (may_hold e.0 e.1) _ (and_left (keeps_label_key e.0 e.1) _ h)) q) r
    go false q r = r

plain_keeps : {P A : Type 0} (rule : Rule A) (es : List (Name P × Attribute A)) → KeysKept rule es → KeepsRule rule (map plain_entry es)
plain_keeps rule [] h = refl
plain_keeps rule (e ∷ es) h = both_true (rule e.0.text e.1) _ h.0 (plain_keeps rule es h.1)

-- ---- what entries give
module _ {P A X : Type 0} (rules : ℕ → Rule A) (all : List (Entry P A X)) where
  item_keeps : (rule : Rule A) (e : Name P × Item P A) → is_kept rule all e ≡ true → KeepsRule rule (resolved all e)
  item_keeps rule (n, direct a) h = both_true (rule n.text a) true h refl
  item_keeps rule (n, reference m) h = go (shared_attribute m.index all) h
    where
      go : (o : Option (Attribute A)) → keeps_if rule n.text o ≡ true → KeepsRule rule (elim o [ Some a ↦ (n.text, a) ∷ [] | None ↦ [] ])
      go None h = refl
      go (Some a) h = both_true (rule n.text a) true h refl

  items_keep : (rule : Rule A) (es : List (Name P × Item P A)) → Each (λ e. is_kept rule all e ≡ true) es → KeepsRule rule (flat_map (resolved all) es)
  items_keep rule [] h = refl
  items_keep rule (e ∷ es) h = keeps_both rule (resolved all e) (flat_map (resolved all) es) (item_keeps rule e h.0) (items_keep rule es h.1)

  abbrev Kept : Rule A → Option (Option X × List (Text × Attribute A)) → Type 0
  Kept rule None = ⊤
  Kept rule (Some c) = KeepsRule rule c.1

  content_in_keeps : (es : List (Entry P A X)) (i : ℕ) → Each (EntryKept rules all) es → Kept (rules i) (content_in all es i)
  content_in_keeps [] i h = tt
  content_in_keeps (of_item m x items ∷ es) i h = go (m.index == i) refl (content_in_keeps es i h.1)
    where
      same : (a b : ℕ) → (a == b) ≡ true → a ≡ b
      same a b e = grind (arith, nat_tests)

      go : (b : Bool) → (m.index == i) ≡ b → Kept (rules i) (content_in all es i) → Kept (rules i) (cond b (Some (x, flat_map (resolved all) items)) (content_in all es i))
      go true e r = subst (λ z. KeepsRule (rules z) (flat_map (resolved all) items)) (same m.index i e) (items_keep (rules m.index) items h.0)
      go false e r = r
  content_in_keeps (of_once m a ∷ es) i h = content_in_keeps es i h.1

  with_kept : (rule : Rule A) (es : List (Text × Attribute A)) (c : Option (Option X × List (Text × Attribute A))) → KeepsRule rule es → Kept rule c → KeepsRule rule (with_content es c)
  with_kept rule es None h k = h
  with_kept rule es (Some c) h k = keeps_put_all rule es c.1 h k

-- ---- what a text stores
abbrev key_of_part : {P T A : Type 0} → Part P T A → List Text
key_of_part (tree.piece (tree.attribute k a)) = k ∷ []
key_of_part _ = []

none_some : {X : Type 0} (x : X) → None ≡ Some x → ⊥
none_some x e = cc

first_of_lists : {X : Type 0} (x y : X) (xs ys : List X) → x ∷ xs ≡ y ∷ ys → (x ≡ y) × (xs ≡ ys)
first_of_lists x y xs ys e = (cc, cc)

parts_keys : {P T A : Type 0} (ps : List (Part P T A)) (ds : List Directive) → map directive ps ≡ map Some ds → keys ds ≡ flat_map key_of_part ps
parts_keys [] [] e = refl
parts_keys [] (d ∷ ds) e = absurd (unequal (Some d) _ (sym e))
parts_keys (x ∷ ps) [] e = absurd (unequal (directive x) _ e)
parts_keys {P} {T} {A} (x ∷ ps) (d ∷ ds) e = let q = first_of_lists (directive x) (Some d) _ _ e in one x q.0 (parts_keys ps ds q.1)
  where
    one : (x : Part P T A) → directive x ≡ Some d → keys ds ≡ flat_map key_of_part ps → keys (d ∷ ds) ≡ key_of_part x ++ flat_map key_of_part ps
    one (tree.piece (tree.word s)) q r = ap (λ z. keys (z ∷ ds)) (sym (some_inside _ d q)) ∙ r
    one (tree.piece (tree.operand i n)) q r = ap (λ z. keys (z ∷ ds)) (sym (some_inside _ d q)) ∙ r
    one (tree.piece (tree.operands ns)) q r = ap (λ z. keys (z ∷ ds)) (sym (some_inside _ d q)) ∙ r
    one (tree.piece (tree.successor i n)) q r = ap (λ z. keys (z ∷ ds)) (sym (some_inside _ d q)) ∙ r
    one (tree.piece (tree.successors ns)) q r = ap (λ z. keys (z ∷ ds)) (sym (some_inside _ d q)) ∙ r
    one (tree.piece (tree.attribute k a)) q r = ap (λ z. keys (z ∷ ds)) (sym (some_inside _ d q)) ∙ ap (λ z. k ∷ z) r
    one (tree.piece (tree.dictionary es)) q r = ap (λ z. keys (z ∷ ds)) (sym (some_inside _ d q)) ∙ r
    one (tree.piece (tree.result_type i t)) q r = ap (λ z. keys (z ∷ ds)) (sym (some_inside _ d q)) ∙ r
    one (tree.piece (tree.header n)) q r = ap (λ z. keys (z ∷ ds)) (sym (some_inside _ d q)) ∙ r
    one (tree.piece (tree.types ts)) q r = absurd (none_some d q)
    one (tree.region i) q r = ap (λ z. keys (z ∷ ds)) (sym (some_inside _ d q)) ∙ r
    one tree.regions q r = ap (λ z. keys (z ∷ ds)) (sym (some_inside _ d q)) ∙ r

neither : (a b : Bool) → (a || b) ≡ false → (a ≡ false) × (b ≡ false)
neither true b e = absurd (true≢false e)
neither false b e = (refl, e)

kept_front : {P A : Type 0} (rule : Rule A) (xs ys : List (Name P × Attribute A)) → KeysKept rule (xs ++ ys) → KeysKept rule xs × KeysKept rule ys
kept_front rule [] ys h = (tt, h)
kept_front rule (x ∷ xs) ys h = let r = kept_front rule xs ys h.1 in ((h.0, r.0), r.1)

module _ {P T A : Type 0} where
  parts_inline : (ps : List (Part P T A)) → has same_text given_names_key (flat_map key_of_part ps) ≡ false → KeysKept may_hold (views entries_in ps) → KeepsKeys (views stored ps)
  parts_inline [] h k = refl
  parts_inline (tree.piece (tree.attribute key None) ∷ ps) h k = parts_inline ps (neither (same_text given_names_key key) _ h).1 k
  parts_inline (tree.piece (tree.attribute key (Some a)) ∷ ps) h k =
      let q = neither (same_text given_names_key key) _ h in
      both_true (may_hold key a) _ (ap (λ b. not b || is_given a) (same_text_symmetric key given_names_key ∙ q.0)) (parts_inline ps q.1 k)
  parts_inline (tree.piece (tree.dictionary es) ∷ ps) h k =
      let r = kept_front may_hold es (views entries_in ps) k in
      keeps_both may_hold (map plain_entry es) (views stored ps) (plain_keeps may_hold es r.0) (parts_inline ps h r.1)
  parts_inline (_ ∷ ps) h k = parts_inline ps h k

  no_names_key : (f : Format) (b : Body P T A) → Accepted f → IsOf f b → has same_text given_names_key (flat_map key_of_part (parts_of b)) ≡ false
  no_names_key (format.custom ds) (tree.custom ps) a i =
      let c = (meets ds a).sixth in
      ap (has same_text given_names_key) (sym (parts_keys ps ds i)) ∙ is_not _ (and_right _ _ (and_left _ _ (and_left _ _ (and_left _ _ c))))
  no_names_key format.canonical (tree.canonical ns ls es xs ys) a i = refl
  no_names_key (format.custom ds) (tree.canonical ns ls es xs ys) a i = absurd i
  no_names_key format.canonical (tree.custom ps) a i = absurd i

-- ---- item by item
module _ {P T A X : Type 0} (C : Printing T A) (isolated : Id → Bool) (first : P → X) (es : List (Entry P A X)) (B : List ℕ) where
  -- the marks are of blocks
  abbrev Marked : List ℕ → Type 0
  Marked ms = (i : ℕ) → is_among i ms ≡ true → is_among i B ≡ true

  module _ (OfO : GraphOp T A → Type 0) (OfB : GraphBlock T A → Type 0)
      (op : (o : GraphOp T A) (x : Op P T A) (rs : Regions (Op P T A) (Head P T A) (Brace P)) (v l : List (Fact Thing)) (w m : List (Fact Text)) → RepresentsOp (resolved_op C isolated v l o) (built_op isolated first es w m x) → CountsAgree x → OpKeysKept x → FormedOp x rs → OfO o)
      (head : (b : GraphBlock T A) (h : Head P T A) → RepresentsBlock (resolved_block C isolated b) (built_head isolated first es h) → HeadKeysKept h → Marked (marked_as h.mark) → OfB b) where
    mutual
      regions_of : (v : List (Fact Thing)) (w : List (Fact Text)) (p q : Path) (j k : ℕ) (iso yet : Bool) (rs : Regions (GraphOp T A) (GraphBlock T A) ⊤) (ts : Regions (Op P T A) (Head P T A) (Brace P))
          → MatchRegions RepresentsOp RepresentsBlock (λ r s. ⊤) (resolved_regions C isolated v p j iso rs) (built_regions isolated first es w q k yet ts) → AllRegions CountsAgree (λ h. ⊤) (λ r. ⊤) ts → AllRegions OpKeysKept HeadKeysKept (λ r. ⊤) ts → FormedRegions ts → Marked (block_marks_in_regions ts) → AllRegions OfO OfB (λ r. ⊤) rs
      regions_of v w p q j k iso yet no_regions ts s c e f m = tt
      regions_of v w p q j k iso yet (region r bs rs) no_regions s c e f m = absurd s
      regions_of v w p q j k iso yet (region r bs rs) (region elided cs ts) s c e f m = absurd f
      regions_of v w p q j k iso yet (region r bs rs) (region (shown z) cs ts) s c e f m = (
        tt,
        blocks_of _ _ _ _ (j ∷ p) (k ∷ q) 0 0 bs cs s.1 c.1 e.1 f.0 (λ i h. m i (among_left i (block_marks_in_blocks cs) (block_marks_in_regions ts) h)),
        regions_of v w p q (suc j) (suc k) iso yet rs ts s.2 c.2 e.2 f.1 (λ i h. m i (among_right i (block_marks_in_blocks cs) (block_marks_in_regions ts) h)),
      )

      blocks_of : (v l : List (Fact Thing)) (w u : List (Fact Text)) (p q : Path) (j k : ℕ) (bs : Blocks (GraphOp T A) (GraphBlock T A) ⊤) (cs : Blocks (Op P T A) (Head P T A) (Brace P))
          → MatchBlocks RepresentsOp RepresentsBlock (λ r s. ⊤) (resolved_blocks C isolated v l p j bs) (built_blocks isolated first es w u q k cs) → AllBlocks CountsAgree (λ h. ⊤) (λ r. ⊤) cs → AllBlocks OpKeysKept HeadKeysKept (λ r. ⊤) cs → FormedBlocks cs → Marked (block_marks_in_blocks cs) → AllBlocks OfO OfB (λ r. ⊤) bs
      blocks_of v l w u p q j k no_blocks cs s c e f m = tt
      blocks_of v l w u p q j k (block b os bs) no_blocks s c e f m = absurd s
      blocks_of v l w u p q j k (block b os bs) (block h xs cs) s c e f m =
          let ms = marked_as h.mark in
          let ns = block_marks_in_operations xs in
          let ks = block_marks_in_blocks cs in (
            head b h s.0 e.0 (λ i g. m i (among_left i ms (ns ++ ks) g)),
            operations_of v l w u (j ∷ p) (k ∷ q) 0 0 os xs s.1 c.1 e.1 f.0 (λ i g. m i (among_right i ms (ns ++ ks) (among_left i ns ks g))),
            blocks_of v l w u p q (suc j) (suc k) bs cs s.2 c.2 e.2 f.1 (λ i g. m i (among_right i ms (ns ++ ks) (among_right i ns ks g))),
          )

      operations_of : (v l : List (Fact Thing)) (w u : List (Fact Text)) (p q : Path) (j k : ℕ) (os : Operations (GraphOp T A) (GraphBlock T A) ⊤) (xs : Operations (Op P T A) (Head P T A) (Brace P))
          → MatchOperations RepresentsOp RepresentsBlock (λ r s. ⊤) (resolved_operations C isolated v l p j os) (built_operations isolated first es w u q k xs) → AllOperations CountsAgree (λ h. ⊤) (λ r. ⊤) xs → AllOperations OpKeysKept HeadKeysKept (λ r. ⊤) xs → FormedOperations xs → Marked (block_marks_in_operations xs) → AllOperations OfO OfB (λ r. ⊤) os
      operations_of v l w u p q j k no_operations xs s c e f m = tt
      operations_of v l w u p q j k (operation o rs os) no_operations s c e f m = absurd s
      operations_of v l w u p q j k (operation o rs os) (operation x ts xs) s c e f m =
          let ms = block_marks_in_regions ts in
          let ns = block_marks_in_operations xs in (
            op o x ts v l w u s.0 c.0 e.0 f.0.0,
            regions_of v w (j ∷ p) (k ∷ q) 0 0 (isolated o.id) (isolated x.id) rs ts s.1 c.1 e.1 f.0.1 (λ i g. m i (among_left i ms ns g)),
            operations_of v l w u p q (suc j) (suc k) os xs s.2 c.2 e.2 f.1 (λ i g. m i (among_right i ms ns g)),
          )

  op_named : (o : GraphOp T A) (x : Op P T A) (rs : Regions (Op P T A) (Head P T A) (Brace P)) (v l : List (Fact Thing)) (w m : List (Fact Text)) → RepresentsOp (resolved_op C isolated v l o) (built_op isolated first es w m x)
      → CountsAgree x → OpKeysKept x → FormedOp x rs → OpNamed C o
  op_named o x rs v l w m s c k f = holds_names o.results (map (λ n. n.text) x.names) o.attributes (inline_entries x) (content es x.mark) (λ e. none_named o.results (result_types x.body) x.names s.shape.result_types c e) s.attributes

  block_named : (b : GraphBlock T A) (h : Head P T A) → RepresentsBlock (resolved_block C isolated b) (built_head isolated first es h) → HeadKeysKept h → Marked (marked_as h.mark) → BlockNamed C b
  block_named b h s k m = (
    ap is_some s.label,
    holds_names b.arguments (map (λ a. a.0.text) h.arguments) b.attributes (map plain_entry (entries_if h.attributes)) (but_label (content es h.mark)) (λ e. none_typed b.arguments h.arguments s.shape.argument_types e) s.attributes,
  )

  module _ (kept : Each (EntryKept (λ i. cond (is_among i B) keeps_label_key may_hold) es) es) where
    abbrev rules : ℕ → Rule A
    rules i = cond (is_among i B) keeps_label_key may_hold

    op_kept : (o : GraphOp T A) (x : Op P T A) (rs : Regions (Op P T A) (Head P T A) (Brace P)) (v l : List (Fact Thing)) (w m : List (Fact Text)) → RepresentsOp (resolved_op C isolated v l o) (built_op isolated first es w m x)
        → CountsAgree x → OpKeysKept x → FormedOp x rs → OpKeepsKeys o
    op_kept o x rs v l w m s c k f =
        subst KeepsKeys (sym s.attributes)
        (with_kept rules es may_hold _ (content es x.mark)
        (keeps_put_all may_hold [] (inline_entries x ++ read_names (map (λ n. n.text) x.names)) refl
        (keeps_both may_hold (inline_entries x) _ (parts_inline (parts_of x.body) (no_names_key f.format x.body f.accepted f.is_of) k) (block_to_key (read_names (map (λ n. n.text) x.names)) (keeps_names A (map (λ n. n.text) x.names)))))
        (of_mark x.mark))
      where
        either : (b : Bool) (ds : List (Text × Attribute A)) → KeepsRule (cond b keeps_label_key may_hold) ds → KeepsKeys ds
        either true ds h = label_to_key ds h
        either false ds h = h

        each : (i : ℕ) (c : Option (Option X × List (Text × Attribute A))) → Kept rules es (rules i) c → Kept rules es may_hold c
        each i None h = tt
        each i (Some c) h = either (is_among i B) c.1 h

        of_mark : (m : Option (tree.Mark P)) → Kept rules es may_hold (content es m)
        of_mark None = tt
        of_mark (Some m) = each m.index (content_in es es m.index) (content_in_keeps rules es es m.index kept)

    block_kept : (b : GraphBlock T A) (h : Head P T A) → RepresentsBlock (resolved_block C isolated b) (built_head isolated first es h) → HeadKeysKept h → Marked (marked_as h.mark) → BlockKeepsKeys b
    block_kept b h s k m =
        subst (KeepsRule block_may_hold) (sym s.attributes)
        (with_kept rules es block_may_hold _ (but_label (content es h.mark))
        (keeps_put_all block_may_hold [] (map plain_entry (entries_if h.attributes) ++ read_names (map (λ a. a.0.text) h.arguments)) refl
        (keeps_both block_may_hold (map plain_entry (entries_if h.attributes)) _ (plain_keeps block_may_hold (entries_if h.attributes) k) (keeps_names A (map (λ a. a.0.text) h.arguments))))
        (of_mark h.mark m))
      where
        each : (i : ℕ) (c : Option (Option X × List (Text × Attribute A))) → is_among i B ≡ true → Kept rules es (rules i) c → Kept rules es block_may_hold (but_label c)
        each i None e h = tt
        each i (Some c) e h = without_label c.1 (subst (λ b. KeepsRule (cond b keeps_label_key may_hold) c.1) e h)

        alike : (n : ℕ) → nat_eq n n ≡ true
        alike n = grind (arith, nat_tests)

        of_mark : (m : Option (tree.Mark P)) → Marked (marked_as m) → Kept rules es block_may_hold (but_label (content es m))
        of_mark None r = tt
        of_mark (Some m) r = each m.index (content_in es es m.index) (r m.index (ap (λ b. cond b true false) (alike m.index))) (content_in_keeps rules es es m.index kept)

-- ---- the root
no_texts : {P : Type 0} (ns : List (Name P)) → texts ns ≡ [] → ns ≡ []
no_texts [] e = refl
no_texts (n ∷ ns) e = absurd (unequal n.text _ e)

both_empty : {Y : Type 0} (xs ys : List Y) → xs ++ ys ≡ [] → (xs ≡ []) × (ys ≡ [])
both_empty [] ys e = (refl, e)
both_empty (x ∷ xs) ys e = absurd (unequal x _ e)

none_mapped : {Y Z : Type 0} (h : Y → Z) (xs : List Y) → map h xs ≡ [] → xs ≡ []
none_mapped h [] e = refl
none_mapped h (x ∷ xs) e = absurd (unequal (h x) _ e)

module _ {P T A : Type 0} where
  abbrev single_operands : List (Part P T A) → List (ℕ × Name P)
  single_operands = views (λ p. elim p [ tree.operand i n ↦ (i, n) ∷ [] | _ ↦ [] ])

  abbrev more_operands : List (Part P T A) → List (Name P)
  more_operands = views (λ p. elim p [ tree.operands ns ↦ ns | _ ↦ [] ])

  abbrev single_successors : List (Part P T A) → List (ℕ × Name P)
  single_successors = views (λ p. elim p [ tree.successor i n ↦ (i, n) ∷ [] | _ ↦ [] ])

  abbrev more_successors : List (Part P T A) → List (Name P)
  more_successors = views (λ p. elim p [ tree.successors ns ↦ ns | _ ↦ [] ])

  -- where a view of pieces is empty, two others are that are empty at each piece at which it is
  none_seen : {X Y Z : Type 0} (view : Piece P T A → List X) (single : Piece P T A → List Y) (more : Piece P T A → List Z) → ((x : Piece P T A) → view x ≡ [] → (single x ≡ []) × (more x ≡ []))
      → (ps : List (Part P T A)) → views view ps ≡ [] → (views single ps ≡ []) × (views more ps ≡ [])
  none_seen view single more h [] e = (refl, refl)
  none_seen view single more h (tree.piece x ∷ ps) e =
      let b = both_empty (view x) (views view ps) e in
      let f = h x b.0 in
      let r = none_seen view single more h ps b.1 in
      (ap₂ ◌++◌ f.0 r.0, ap₂ ◌++◌ f.1 r.1)
  none_seen view single more h (_ ∷ ps) e = none_seen view single more h ps e

  none_used : (ps : List (Part P T A)) → views (λ p. elim p [ tree.operand i n ↦ n ∷ [] | tree.operands ns ↦ ns | _ ↦ [] ]) ps ≡ [] → (single_operands ps ≡ []) × (more_operands ps ≡ [])
  none_used = none_seen _ _ _ (elim [ tree.operand i n ↦ λ e. absurd (unequal n _ e) | tree.operands ns ↦ λ e. (refl, e) | _ ↦ λ e. (refl, refl) ])

  none_branched : (ps : List (Part P T A)) → views (λ p. elim p [ tree.successor i n ↦ n ∷ [] | tree.successors ns ↦ ns | _ ↦ [] ]) ps ≡ [] → (single_successors ps ≡ []) × (more_successors ps ≡ [])
  none_branched = none_seen _ _ _ (elim [ tree.successor i n ↦ λ e. absurd (unequal n _ e) | tree.successors ns ↦ λ e. (refl, e) | _ ↦ λ e. (refl, refl) ])

  no_operand_names : (o : Op P T A) → views (λ p. elim p [ tree.operand i n ↦ n ∷ [] | tree.operands ns ↦ ns | _ ↦ [] ]) (parts_of o.body) ≡ [] → operand_names o ≡ []
  no_operand_names o e = let q = none_used (parts_of o.body) e in ap₂ (λ (a : List (ℕ × Name P)) (b : List (Name P)). in_order a ++ b) q.0 q.1

  no_successor_labels : (o : Op P T A) → views (λ p. elim p [ tree.successor i n ↦ n ∷ [] | tree.successors ns ↦ ns | _ ↦ [] ]) (parts_of o.body) ≡ [] → successor_labels o ≡ []
  no_successor_labels o e = let q = none_branched (parts_of o.body) e in ap₂ (λ (a : List (ℕ × Name P)) (b : List (Name P)). in_order a ++ b) q.0 q.1

module _ {P T A X : Type 0} (C : Printing T A) (isolated : Id → Bool) (first : P → X) (es : List (Entry P A X)) (g : Graph T A) (t : Tree P T A) (s : Represents (resolved_root C isolated g) (build isolated first es t)) (f : Formed t) (r : Resolves isolated t es) where
  abbrev B : List ℕ
  B = block_marks_in_regions t.regions

  -- all results, arguments and blocks have names
  pub built_named : Named C g
  built_named = (
    op_named C isolated first es B g.own t.own t.regions [] [] [] [] s.0 r.counts.0 r.keys.0 f.0,
    regions_of C isolated first es B (OpNamed C) (BlockNamed C) (op_named C isolated first es B) (block_named C isolated first es B) [] [] [] [] 0 0 (isolated g.own.id) (isolated t.own.id) g.regions t.regions s.1 r.counts.1 r.keys.1 f.1 (λ i h. h),
  )

  -- the dictionaries contain only entries that are allowed
  pub built_kept : GraphKeepsKeys g
  built_kept = (
    op_kept C isolated first es B r.section.kept g.own t.own t.regions [] [] [] [] s.0 r.counts.0 r.keys.0 f.0,
    regions_of C isolated first es B OpKeepsKeys BlockKeepsKeys (op_kept C isolated first es B r.section.kept) (block_kept C isolated first es B r.section.kept) [] [] [] [] 0 0 (isolated g.own.id) (isolated t.own.id) g.regions t.regions
        s.1 r.counts.1 r.keys.1 f.1 (λ i h. h),
  )

  -- no name is defined or used outside of its regions
  pub no_results : g.own.results ≡ []
  no_results = none_named g.own.results (result_types t.own.body) t.own.names s.0.shape.result_types r.counts.0 (ap (map (λ n. n.text)) r.nothing_outside.0)

  -- the root has no operands
  pub no_operands : g.own.operands ≡ []
  no_operands = none_mapped _ g.own.operands (s.0.shape.operands ∙ ap (map _) (no_operand_names t.own (no_texts _ r.nothing_outside.1)))

  -- the root has no successors
  pub no_successors : g.own.successors ≡ []
  no_successors = none_mapped _ g.own.successors (s.0.shape.successors ∙ ap (map _) (no_successor_labels t.own (no_texts _ r.nothing_outside.2)))

  -- the root is isolated if it has a region
  pub isolated_if : has_region g.regions ≡ true → isolated g.own.id ≡ true
  isolated_if e = ap isolated s.0.shape.id ∙ r.is_isolated (regions_too [] [] [] 0 0 (isolated g.own.id) (isolated t.own.id) g.regions t.regions s.1 e)
    where
      regions_too : (v : List (Fact Thing)) (w : List (Fact Text)) (p : Path) (j k : ℕ) (iso yet : Bool) (rs : Regions (GraphOp T A) (GraphBlock T A) ⊤) (ts : Regions (Op P T A) (Head P T A) (Brace P))
          → MatchRegions RepresentsOp RepresentsBlock (λ r s. ⊤) (resolved_regions C isolated v p j iso rs) (built_regions isolated first es w p k yet ts) → has_region rs ≡ true → has_region ts ≡ true
      regions_too v w p j k iso yet no_regions ts s e = absurd (true≢false (sym e))
      regions_too v w p j k iso yet (region q bs rs) no_regions s e = absurd s
      regions_too v w p j k iso yet (region q bs rs) (region z cs ts) s e = refl

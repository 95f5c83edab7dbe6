-- The k-th entry has index k: each item's mark leads to the item's own location and outlined attributes.
use Rattle.std.proofs.Common.{◌≡◌, ℕ, zero, suc, ◌+◌, ◌<◌, Bool, true, false, cond, ◌==◌, List, [], ◌∷◌, ◌++◌, map, length, Option, Some, None, refl, sym, ap, ap₂, ◌∙◌, subst, append_assoc, append-nil, arith}
use Rattle.std.specs.Prelude.{⊤, flat_map}
use Rattle.std.proofs.lemmas.Bool.Decides.{nat_tests}
use Rattle.irtext_base.specs.Text.{Text}
use Rattle.irtext_base.specs.Format.{has}
use Rattle.irtext_grammar.specs.Grammar.Forest.{Regions, no_regions, region, Blocks, no_blocks, block, Operations, no_operations, operation, MatchRegions, MatchBlocks, MatchOperations, MatchRoots}
use Rattle.irtext_grammar.specs.Grammar.Tree.{Attribute, given_names, ident, own, Op, Head, Brace, Tree}
use Rattle.irtext_grammar.specs.Spelling.Spellable.{Each}
use Rattle.irtext_grammar.specs.Grammar.Bare.{bare_mark_if, bare_op, bare_head, bare_regions, bare_blocks, bare_operations, bare}
use Rattle.irtext_grammar.specs.Graphs.Graph as graph
use Rattle.irtext_grammar.specs.Graphs.Graph.{Graph, Limit, GraphOp, GraphBlock, Printing, shared, place_in, is_marked, mark_at, own_marks, marks_in_regions, marks_in_blocks, marks_in_operations, tree_regions, tree_blocks, tree_operations, written, own_entry, entries_of_regions, entries_of_blocks, entries_of_operations, entries_of, op_outlined, block_outlined}
use Rattle.irtext_grammar.specs.Grammar.Section.{Entry, direct, reference}
use Rattle.irtext_grammar.specs.Graphs.Contents as contents
use Rattle.irtext_grammar.specs.Graphs.Contents.{Contents}
use Rattle.irtext_grammar.specs.Graphs.Build.{resolved, content_in, content}
use Rattle.irtext_grammar.specs.Spelling.SectionEntries.{bare_section, mark_of, written_pair, written_items, written_once, written_section, own_content}
use Rattle.irtext_grammar.proofs.Sections.Bare.{content_bare}
use Rattle.irtext_grammar.proofs.Sections.Once.{Mention, Mentions, each_shared, once_written}

length-both : {X : Type 0} (xs ys : List X) → length (xs ++ ys) ≡ length xs + length ys
length-both [] ys = omega arith
length-both (x ∷ xs) ys = let e = length-both xs ys in omega arith

-- a list is part of another, from a place on
pub record IsSublist {X : Type 0} (all : List X) (n : ℕ) (xs : List X) : Type 0 where
  pub before : List X
  pub after : List X
  pub is : all ≡ before ++ (xs ++ after)
  pub place : length before ≡ n

sublist_left : {X : Type 0} {all : List X} {n : ℕ} (xs ys : List X) → IsSublist all n (xs ++ ys) → IsSublist all n xs
sublist_left xs ys s = record { before = s.before; after = ys ++ s.after; is = s.is ∙ ap (λ z. s.before ++ z) (append_assoc xs ys s.after); place = s.place }

sublist_right : {X : Type 0} {all : List X} {n : ℕ} (m : ℕ) (xs ys : List X) → IsSublist all n (xs ++ ys) → n + length xs ≡ m → IsSublist all m ys
sublist_right {n = n} m xs ys s e =
    let l = length-both s.before xs in
    let p = s.place in
    record { before = s.before ++ xs; after = s.after; is = s.is ∙ (ap (λ z. s.before ++ z) (append_assoc xs ys s.after) ∙ sym (append_assoc s.before xs (ys ++ s.after))); place = omega arith }

abbrev Nothing : {R S : Type 0} → R → S → Type 0
Nothing r s = ⊤

each_in_middle : {X : Type 0} (Q : X → Type 0) (before after : List X) (x : X) → Each Q (before ++ (x ∷ after)) → Q x
each_in_middle Q [] after x h = h.0
each_in_middle Q (y ∷ before) after x h = each_in_middle Q before after x h.1

length_three : {X : Type 0} (xs ys zs : List X) → length (xs ++ (ys ++ zs)) ≡ length xs + (length ys + length zs)
length_three xs ys zs = omega (arith, length-both xs (ys ++ zs), length-both ys zs)

-- the entries of a graph are as many as its marks
module _ {T A : Type 0} (C : Printing T A) where
  -- an item has as many entries as marks
  pub own_length : (l : Option Text) (es : List (Text × Attribute A)) → length (own_entry C l es) ≡ own_marks C l es
  own_length l es = go (is_marked C l es)
    where
      go : (b : Bool) → length {A = graph.Entry C} (cond b (record { location = l; attributes = es } ∷ []) []) ≡ cond b 1 0
      go true = refl
      go false = refl

  mutual
    -- regions have as many entries as marks
    pub regions_length : (l : Limit) (rs : Regions (GraphOp T A) (GraphBlock T A) ⊤) → length (entries_of_regions C l rs) ≡ marks_in_regions C l rs
    regions_length l no_regions = refl
    regions_length None (region r bs rs) = length-both (entries_of_blocks C None bs) (entries_of_regions C None rs) ∙ ap₂ ◌+◌ (blocks_length None bs) (regions_length None rs)
    regions_length (Some zero) (region r bs rs) = let e = regions_length (Some zero) rs in omega arith
    regions_length (Some (suc k)) (region r bs rs) = length-both (entries_of_blocks C (Some k) bs) (entries_of_regions C (Some (suc k)) rs) ∙ ap₂ ◌+◌ (blocks_length (Some k) bs) (regions_length (Some (suc k)) rs)

    -- blocks have as many entries as marks
    pub blocks_length : (l : Limit) (bs : Blocks (GraphOp T A) (GraphBlock T A) ⊤) → length (entries_of_blocks C l bs) ≡ marks_in_blocks C l bs
    blocks_length l no_blocks = refl
    blocks_length l (block h os bs) =
        omega (arith, length_three (own_entry C h.location (block_outlined C h)) (entries_of_operations C l os) (entries_of_blocks C l bs), own_length h.location (block_outlined C h), operations_length l os, blocks_length l bs)

    -- operations have as many entries as marks
    pub operations_length : (l : Limit) (os : Operations (GraphOp T A) (GraphBlock T A) ⊤) → length (entries_of_operations C l os) ≡ marks_in_operations C l os
    operations_length l no_operations = refl
    operations_length l (operation o rs os) =
        omega (arith, length_three (entries_of_regions C l rs) (own_entry C o.location (op_outlined C o)) (entries_of_operations C l os), own_length o.location (op_outlined C o), regions_length l rs, operations_length l os)

  -- a graph has as many entries as marks
  pub length_entries : (l : Limit) (g : Graph T A) → length (entries_of C l g) ≡ marks_in_regions C l g.regions + own_marks C g.own.location (op_outlined C g.own)
  length_entries l g = length-both (entries_of_regions C l g.regions) (own_entry C g.own.location (op_outlined C g.own)) ∙ ap₂ ◌+◌ (regions_length l g.regions) (own_length g.own.location (op_outlined C g.own))

  module _ (sound : (a b : A) → C.same_own a b ≡ true → a ≡ b) (reflexive : (a : A) → C.same_own a a ≡ true) (all : List (graph.Entry C)) where
    abbrev W : List (Entry ⊤ A Text)
    W = written_section C all

    -- what is written of an attribute leads back to it
    pair_resolved : (k : Text) (a : Attribute A) → Mention C sound (shared C all) a → resolved W (written_pair C (length all) (shared C all) (k, a)) ≡ (k, a) ∷ []
    pair_resolved k (given_names ns) h = refl
    pair_resolved k (ident n) h = refl
    pair_resolved k (own a) h = go (C.own_once a) h
      where
        go : (b : Bool) → (b ≡ true → has C.same_own a (shared C all) ≡ true) → resolved W (record { place = tt; text = k }, cond b (reference (mark_of (length all + place_in C (shared C all) a))) (direct (own a))) ≡ (k, own a) ∷ []
        go false h = refl
        go true h = ap (λ o. elim o [ Some x ↦ (k, x) ∷ [] | None ↦ [] ]) (once_written C sound all a (h refl))

    all_resolved : (es : List (Text × Attribute A)) → Each (λ x. Mention C sound (shared C all) x.1) es → flat_map (resolved W) (map (written_pair C (length all) (shared C all)) es) ≡ es
    all_resolved [] h = refl
    all_resolved (e ∷ es) h = ap₂ ◌++◌ (pair_resolved e.0 e.1 h.0) (all_resolved es h.1)

    content_items : (n : ℕ) (before : List (graph.Entry C)) (e : graph.Entry C) (after : List (graph.Entry C)) (last : List (Entry ⊤ A Text))
        → content_in W (written_items C (length all) (shared C all) n (before ++ (e ∷ after)) ++ last) (n + length before) ≡ Some (e.location, flat_map (resolved W) (map (written_pair C (length all) (shared C all)) e.attributes))
    content_items n [] e after last = ap (λ b. cond b (Some (e.location, flat_map (resolved W) (map (written_pair C (length all) (shared C all)) e.attributes))) (content_in W (written_items C (length all) (shared C all) (suc n) after ++ last) (n + 0))) (alike n (n + 0) (omega arith))
      where
        alike : (n i : ℕ) → i ≡ n → (n == i) ≡ true
        alike n i h = grind (arith, nat_tests)
    content_items n (x ∷ before) e after last =
        let k : n + suc (length before) ≡ suc n + length before = omega arith in
        let rest = written_items C (length all) (shared C all) (suc n) (before ++ (e ∷ after)) ++ last in
        ap (λ b. cond b (Some (x.location, flat_map (resolved W) (map (written_pair C (length all) (shared C all)) x.attributes))) (content_in W rest (n + suc (length before)))) (apart n (n + suc (length before)) (omega arith))
        ∙ (ap (content_in W rest) k ∙ content_items (suc n) before e after last)
      where
        apart : (n i : ℕ) → n < i → (n == i) ≡ false
        apart n i h = grind (arith, nat_tests)

    -- the entry at a place has its index
    content_there : (n : ℕ) (e : graph.Entry C) → IsSublist all n (e ∷ []) → content {P = ⊤} W (Some (mark_of n)) ≡ Some (e.location, e.attributes)
    content_there n e s =
        let once = shared C all in
        let last = written_once (length all) once in
        let k : n ≡ 0 + length s.before = sym s.place ∙ omega arith in
        let h = each_in_middle (Mentions C sound once) s.before s.after e (subst (Each (Mentions C sound once)) s.is (each_shared C sound reflexive all)) in
        ap (λ i. content_in W W i) k ∙ (ap (λ z. content_in W (written_items C (length all) once 0 z ++ last) (0 + length s.before)) s.is
        ∙ (content_items 0 s.before e s.after last ∙ ap (λ z. Some (e.location, z)) (all_resolved e.attributes h)))

    own_there : (n : ℕ) (l : Option Text) (es : List (Text × Attribute A)) → IsSublist all n (own_entry C l es) → content W (mark_at C n l es) ≡ own_content C l es
    own_there n l es = go (is_marked C l es)
      where
        go : (b : Bool) → IsSublist {X = graph.Entry C} all n (cond b (record { location = l; attributes = es } ∷ []) [])
            → content {P = ⊤} W (cond b (Some (mark_of n)) None) ≡ cond b (Some (l, es)) None
        go true s = content_there n (record { location = l; attributes = es }) s
        go false s = refl

    abbrev WrittenOp : GraphOp T A → Op ⊤ T A → Type 0
    WrittenOp o x = content W x.mark ≡ own_content C o.location (op_outlined C o)

    abbrev WrittenBlock : GraphBlock T A → Head ⊤ T A → Type 0
    WrittenBlock h x = content W x.mark ≡ own_content C h.location (block_outlined C h)

    mutual
      regions_content : (n : ℕ) (rs : Regions (GraphOp T A) (GraphBlock T A) ⊤) → IsSublist all n (entries_of_regions C None rs) → MatchRegions WrittenOp WrittenBlock Nothing rs (tree_regions C None n rs)
      regions_content n no_regions s = tt
      regions_content n (region r bs rs) s =
          let x = entries_of_blocks C None bs in
          let y = entries_of_regions C None rs in
          (tt, blocks_content n bs (sublist_left x y s), regions_content (n + marks_in_blocks C None bs) rs (sublist_right _ x y s (ap (λ k. n + k) (blocks_length None bs))))

      blocks_content : (n : ℕ) (bs : Blocks (GraphOp T A) (GraphBlock T A) ⊤) → IsSublist all n (entries_of_blocks C None bs) → MatchBlocks WrittenOp WrittenBlock Nothing bs (tree_blocks C None n bs)
      blocks_content n no_blocks s = tt
      blocks_content n (block h os bs) s =
          let q = n + own_marks C h.location (block_outlined C h) in
          let x = own_entry C h.location (block_outlined C h) in
          let y = entries_of_operations C None os in
          let z = entries_of_blocks C None bs in
          let r = sublist_right q x (y ++ z) s (ap (λ k. n + k) (own_length h.location (block_outlined C h))) in
          (own_there n h.location (block_outlined C h) (sublist_left x (y ++ z) s), operations_content q os (sublist_left y z r), blocks_content (q + marks_in_operations C None os) bs (sublist_right _ y z r (ap (λ k. q + k) (operations_length None os))))

      operations_content : (n : ℕ) (os : Operations (GraphOp T A) (GraphBlock T A) ⊤) → IsSublist all n (entries_of_operations C None os) → MatchOperations WrittenOp WrittenBlock Nothing os (tree_operations C None n os)
      operations_content n no_operations s = tt
      operations_content n (operation o rs os) s =
          let q = n + marks_in_regions C None rs in
          let w = q + own_marks C o.location (op_outlined C o) in
          let x = entries_of_regions C None rs in
          let y = own_entry C o.location (op_outlined C o) in
          let z = entries_of_operations C None os in
          let r = sublist_right q x (y ++ z) s (ap (λ k. n + k) (regions_length None rs)) in
          (own_there q o.location (op_outlined C o) (sublist_left y z r), regions_content n rs (sublist_left x (y ++ z) s), operations_content w os (sublist_right w y z r (ap (λ k. q + k) (own_length o.location (op_outlined C o)))))

  module _ (sound : (a b : A) → C.same_own a b ≡ true → a ≡ b) (reflexive : (a : A) → C.same_own a a ≡ true) where
    -- each item of what is written of a graph has its own entry
    pub written_content : (g : Graph T A) → let all = entries_of C None g in MatchRoots (WrittenOp sound reflexive all) (WrittenBlock sound reflexive all) Nothing g (written C None g)
    written_content g =
        let q = marks_in_regions C None g.regions in
        let all = entries_of C None g in
        let x = entries_of_regions C None g.regions in
        let y = own_entry C g.own.location (op_outlined C g.own) in
        let whole : IsSublist all 0 (x ++ y) = record { before = []; after = []; is = sym (append-nil (x ++ y)); place = refl } in
        (own_there sound reflexive all q g.own.location (op_outlined C g.own) (sublist_right q x y whole (ap (λ k. 0 + k) (regions_length None g.regions) ∙ omega arith)), regions_content sound reflexive all 0 g.regions (sublist_left x y whole))

-- what matches a tree without its places matches the tree
module _ {O B R P T A : Type 0} (F : O → Op ⊤ T A → Type 0) (G : B → Head ⊤ T A → Type 0) (F' : O → Op P T A → Type 0) (G' : B → Head P T A → Type 0) (f : (o : O) (x : Op P T A) → F o (bare_op x) → F' o x) (g : (h : B) (x : Head P T A) → G h (bare_head x) → G' h x) where
  mutual
    match_regions : (xs : Regions O B R) (rs : Regions (Op P T A) (Head P T A) (Brace P)) → MatchRegions F G Nothing xs (bare_regions rs) → MatchRegions F' G' Nothing xs rs
    match_regions no_regions no_regions m = tt
    match_regions no_regions (region b bs rs) m = absurd m
    match_regions (region r ys xs) no_regions m = absurd m
    match_regions (region r ys xs) (region b bs rs) m = (tt, match_blocks ys bs m.1, match_regions xs rs m.2)

    match_blocks : (xs : Blocks O B R) (bs : Blocks (Op P T A) (Head P T A) (Brace P)) → MatchBlocks F G Nothing xs (bare_blocks bs) → MatchBlocks F' G' Nothing xs bs
    match_blocks no_blocks no_blocks m = tt
    match_blocks no_blocks (block h os bs) m = absurd m
    match_blocks (block b ys xs) no_blocks m = absurd m
    match_blocks (block b ys xs) (block h os bs) m = (g b h m.0, match_operations ys os m.1, match_blocks xs bs m.2)

    match_operations : (xs : Operations O B R) (os : Operations (Op P T A) (Head P T A) (Brace P)) → MatchOperations F G Nothing xs (bare_operations os) → MatchOperations F' G' Nothing xs os
    match_operations no_operations no_operations m = tt
    match_operations no_operations (operation o rs os) m = absurd m
    match_operations (operation x ys xs) no_operations m = absurd m
    match_operations (operation x ys xs) (operation o rs os) m = (f x o m.0, match_regions ys rs m.1, match_operations xs os m.2)

module _ {T A X : Type 0} (C : Printing T A) (sound : (a b : A) → C.same_own a b ≡ true → a ≡ b) (reflexive : (a : A) → C.same_own a a ≡ true) (text : X → Text) where
  -- each item of a tree and section that are the printed ones but for places has its own entry
  pub contents_back : {P : Type 0} (g : Graph T A) (t : Tree P T A) (es : List (Entry P A X)) → bare t ≡ written C None g → bare_section text es ≡ written_section C (entries_of C None g) → Contents C text es g t
  contents_back {P} g t es same_tree same_section =
      let all = entries_of C None g in
      let F = WrittenOp C sound reflexive all in
      let G = WrittenBlock C sound reflexive all in
      let op : (o : GraphOp T A) (x : Op P T A) → F o (bare_op x) → contents.OpContent C text es o x = λ o x h. sym (content_bare text es x.mark) ∙ (ap (λ z. content z (bare_mark_if x.mark)) same_section ∙ h) in
      let head : (h : GraphBlock T A) (x : Head P T A) → G h (bare_head x) → contents.BlockContent C text es h x = λ h x k. sym (content_bare text es x.mark) ∙ (ap (λ z. content z (bare_mark_if x.mark)) same_section ∙ k) in
      let m = subst (MatchRoots F G Nothing g) (sym same_tree) (written_content C sound reflexive g) in
      (op g.own t.own m.0, match_regions F G (contents.OpContent C text es) (contents.BlockContent C text es) op head g.regions t.regions m.1)

-- What each turn writes: of an operation a piece, a region or its mark; of a region a block's head or the brace after the last; of a block
-- an operation's results and id.
use Rattle.std.proofs.Common.{◌≡◌, ℕ, ◌+◌, List, [], ◌∷◌, ◌++◌, Option, Some, None, Bool, true, false, arith, refl, ap, sym, ◌∙◌, append_assoc, append-nil}
use Rattle.std.specs.Prelude.{cond, ⊤, codes, map}
use Rattle.irtext_base.specs.Text.{Text}
use Rattle.irtext_base.specs.Own.{Language}
use Rattle.irtext_grammar.specs.Grammar.Forest.{Regions, no_regions, region, Blocks, no_blocks, block, Operations, no_operations, operation}
use Rattle.irtext_grammar.specs.Grammar.Tree as tree
use Rattle.irtext_grammar.specs.Grammar.Tree.{Part, Piece, Body, Op, shown, elided}
use Rattle.irtext_grammar.specs.Graphs.Graph.{GraphOp, GraphBlock, Printing, Limit, is_elided, inside, op_outlined, block_outlined, own_marks, marks_in_regions, marks_in_blocks, marks_in_operations, tree_regions, tree_blocks, tree_operations, tree_head, tree_op, body_of}
use Rattle.irtext_grammar.specs.Spelling.Spell.{newline, joined, joined_from, comma, label, argument, dictionary, dictionary_if, results, id, body, concrete, parts, mark_if, region_texts, block_texts, operation_texts, block_text, operation_text, region_text, space, piece}
use Rattle.irtext_print_ops.specs.Opened.{Open, an_operation, a_region, a_block, joined_on, covers, mark_count, marks, mark_text, rest, open_rest, Turns, opening, closing, between_blocks, between_operations, unless_first, block_front, body_front, operation_front, opened}
use Rattle.irtext_print_ops.proofs.Opens.{alone}

module _ {T A : Type 0} (C : Printing T A) (L : Language ⊤ T A) (width : ℕ) where
  nothing : (n : ℕ) → n + 0 ≡ n
  nothing n = omega arith

  -- no other frame is open after it
  pub ends : (f : Open T A) (n : ℕ) (text : Text) (k : ℕ) → rest C L width f n ≡ text → marks C f ≡ k → Turns C L width f n text k []
  ends f n text k e m = record { written = e ∙ sym (append-nil text); counted = m ∙ sym (nothing k) }

  -- one frame is open after it, without a mark
  pub goes_on : (f : Open T A) (n : ℕ) (text : Text) (g : Open T A) → rest C L width f n ≡ text ++ rest C L width g n → marks C f ≡ marks C g → Turns C L width f n text 0 (g ∷ [])
  goes_on f n text g e m = record {
    written = e ∙ (ap (λ k. text ++ rest C L width g k) (sym (nothing n)) ∙ ap (λ z. text ++ z) (sym (alone C L width g (n + 0))));
    counted = m ∙ one (marks C g);
  }
    where
      one : (a : ℕ) → a ≡ 0 + (0 + a)
      one a = omega arith

  -- two frames are open after it: the inner one comes first
  pub enters : (f : Open T A) (n : ℕ) (text : Text) (k : ℕ) (g h : Open T A) → rest C L width f n ≡ text ++ (rest C L width h (n + k) ++ rest C L width g ((n + k) + marks C h)) →
      marks C f ≡ k + (marks C h + marks C g) → Turns C L width f n text k (g ∷ h ∷ [])
  enters f n text k g h e m = record {
    written = e ∙ (ap (λ z. text ++ (z ++ rest C L width g ((n + k) + marks C h))) (sym (alone C L width h (n + k)))
        ∙ ap (λ j. text ++ (open_rest C L width (h ∷ []) (n + k) ++ rest C L width g ((n + k) + j))) (one (marks C h)));
    counted = m ∙ two k (marks C h) (marks C g);
  }
    where
      one : (a : ℕ) → a ≡ 0 + a
      one a = omega arith

      two : (k a b : ℕ) → k + (a + b) ≡ k + ((0 + a) + b)
      two k a b = omega arith

  -- ---- an operation

  module _ (i : ℕ) (l : Limit) (own : Option (GraphOp T A)) where
    pub operation_ends : (rs : Regions (GraphOp T A) (GraphBlock T A) ⊤) (n : ℕ) → covers {T = T} {A = A} [] rs ≡ true → Turns C L width (an_operation i l own false [] rs) n (mark_text C L width n own) (mark_count C own) []
    operation_ends no_regions n e = ends (an_operation i l own false [] no_regions) n (mark_text C L width n own) (mark_count C own) (ap (λ m. mark_text C L width m own) (nothing n)) (zero_more (mark_count C own))
      where
        zero_more : (a : ℕ) → 0 + a ≡ a
        zero_more a = omega arith
    operation_ends (region r bs rs) n e = absurd (cc)

    pub piece_turns : (p : Piece ⊤ T A) (ps : List (Part ⊤ T A)) (rs : Regions (GraphOp T A) (GraphBlock T A) ⊤) (n : ℕ) →
        Turns C L width (an_operation i l own false (tree.piece p ∷ ps) rs) n (space L p ++ piece L p) 0 (an_operation i l own false ps rs ∷ [])
    piece_turns p ps rs n = goes_on (an_operation i l own false (tree.piece p ∷ ps) rs) n (space L p ++ piece L p) (an_operation i l own false ps rs)
        (regroup (space L p) (piece L p) (parts L ps (region_texts L width i (tree_regions C l n rs))) (mark_text C L width (n + marks_in_regions C l rs) own)) refl
      where
        regroup : (a b c d : Text) → (a ++ (b ++ c)) ++ d ≡ (a ++ b) ++ (c ++ d)
        regroup a b c d = simp append_assoc

    pub no_region_turns : (j : ℕ) (ps : List (Part ⊤ T A)) (n : ℕ) →
        Turns C L width (an_operation i l own false (tree.region j ∷ ps) no_regions) n [] 0 (an_operation i l own false ps no_regions ∷ [])
    no_region_turns j ps n = goes_on (an_operation i l own false (tree.region j ∷ ps) no_regions) n [] (an_operation i l own false ps no_regions) refl refl

    pub repeats_turns : (ps : List (Part ⊤ T A)) (rs : Regions (GraphOp T A) (GraphBlock T A) ⊤) (n : ℕ) →
        Turns C L width (an_operation i l own false (tree.regions ∷ ps) rs) n (codes " ") 0 (an_operation i l own true ps rs ∷ [])
    repeats_turns ps rs n = goes_on (an_operation i l own false (tree.regions ∷ ps) rs) n (codes " ") (an_operation i l own true ps rs)
        (regroup (codes " ") (joined [] (region_texts L width i (tree_regions C l n rs))) (parts L ps []) (mark_text C L width (n + marks_in_regions C l rs) own)) refl
      where
        regroup : (a b c d : Text) → (a ++ (b ++ c)) ++ d ≡ a ++ (b ++ (c ++ d))
        regroup a b c d = simp append_assoc

    pub repeats_end : (ps : List (Part ⊤ T A)) (n : ℕ) →
        Turns C L width (an_operation i l own true ps no_regions) n [] 0 (an_operation i l own false ps no_regions ∷ [])
    repeats_end ps n = goes_on (an_operation i l own true ps no_regions) n [] (an_operation i l own false ps no_regions) refl refl

    -- a region that is elided
    elided_tree : (r : ⊤) (bs : Blocks (GraphOp T A) (GraphBlock T A) ⊤) (rs : Regions (GraphOp T A) (GraphBlock T A) ⊤) (n : ℕ) → is_elided C l ≡ true →
        tree_regions C l n (region r bs rs) ≡ region elided no_blocks (tree_regions C l n rs)
    elided_tree r bs rs n e = ap (λ b. cond b (region elided no_blocks (tree_regions C l n rs)) (region (shown tt) (tree_blocks C (inside C l) n bs) (tree_regions C l (n + marks_in_blocks C (inside C l) bs) rs))) e

    elided_marks : (r : ⊤) (bs : Blocks (GraphOp T A) (GraphBlock T A) ⊤) (rs : Regions (GraphOp T A) (GraphBlock T A) ⊤) → is_elided C l ≡ true →
        marks_in_regions C l (region r bs rs) ≡ marks_in_regions C l rs
    elided_marks r bs rs e = ap (λ b. cond b 0 (marks_in_blocks C (inside C l) bs) + marks_in_regions C l rs) e ∙ zero_more (marks_in_regions C l rs)
      where
        zero_more : (a : ℕ) → 0 + a ≡ a
        zero_more a = omega arith

    -- a region that is not elided
    shown_tree : (r : ⊤) (bs : Blocks (GraphOp T A) (GraphBlock T A) ⊤) (rs : Regions (GraphOp T A) (GraphBlock T A) ⊤) (n : ℕ) → is_elided C l ≡ false →
        tree_regions C l n (region r bs rs) ≡ region (shown tt) (tree_blocks C (inside C l) n bs) (tree_regions C l (n + marks_in_blocks C (inside C l) bs) rs)
    shown_tree r bs rs n e = ap (λ b. cond b (region elided no_blocks (tree_regions C l n rs)) (region (shown tt) (tree_blocks C (inside C l) n bs) (tree_regions C l (n + marks_in_blocks C (inside C l) bs) rs))) e

    shown_marks : (r : ⊤) (bs : Blocks (GraphOp T A) (GraphBlock T A) ⊤) (rs : Regions (GraphOp T A) (GraphBlock T A) ⊤) → is_elided C l ≡ false →
        marks_in_regions C l (region r bs rs) ≡ marks_in_blocks C (inside C l) bs + marks_in_regions C l rs
    shown_marks r bs rs e = ap (λ b. cond b 0 (marks_in_blocks C (inside C l) bs) + marks_in_regions C l rs) e

    joined_plain : (ts : List Text) → joined_from [] ts ≡ joined [] ts
    joined_plain [] = refl
    joined_plain (t ∷ ts) = refl

    pub elided_turns : (j : ℕ) (ps : List (Part ⊤ T A)) (r : ⊤) (bs : Blocks (GraphOp T A) (GraphBlock T A) ⊤) (rs : Regions (GraphOp T A) (GraphBlock T A) ⊤) (n : ℕ) → is_elided C l ≡ true →
        Turns C L width (an_operation i l own false (tree.region j ∷ ps) (region r bs rs)) n (codes " " ++ codes "{..}") 0 (an_operation i l own false ps rs ∷ [])
    elided_turns j ps r bs rs n e = goes_on (an_operation i l own false (tree.region j ∷ ps) (region r bs rs)) n (codes " " ++ codes "{..}") (an_operation i l own false ps rs)
        (ap (λ t. parts L (tree.region j ∷ ps) (region_texts L width i t) ++ mark_text C L width (n + marks_in_regions C l (region r bs rs)) own) (elided_tree r bs rs n e)
        ∙ (ap (λ m. parts L (tree.region j ∷ ps) (codes "{..}" ∷ region_texts L width i (tree_regions C l n rs)) ++ mark_text C L width (n + m) own) (elided_marks r bs rs e)
        ∙ regroup (codes " ") (codes "{..}") (parts L ps (region_texts L width i (tree_regions C l n rs))) (mark_text C L width (n + marks_in_regions C l rs) own)))
        (ap (λ m. m + mark_count C own) (elided_marks r bs rs e))
      where
        regroup : (a b c d : Text) → (a ++ (b ++ c)) ++ d ≡ (a ++ b) ++ (c ++ d)
        regroup a b c d = simp append_assoc

    pub elided_repeats : (ps : List (Part ⊤ T A)) (r : ⊤) (bs : Blocks (GraphOp T A) (GraphBlock T A) ⊤) (rs : Regions (GraphOp T A) (GraphBlock T A) ⊤) (n : ℕ) → is_elided C l ≡ true →
        Turns C L width (an_operation i l own true ps (region r bs rs)) n (codes "{..}") 0 (an_operation i l own true ps rs ∷ [])
    elided_repeats ps r bs rs n e =
        let ts = region_texts L width i (tree_regions C l n rs) in
        let tail = parts L ps [] in
        goes_on (an_operation i l own true ps (region r bs rs)) n (codes "{..}") (an_operation i l own true ps rs)
        (ap (λ t. joined [] (region_texts L width i t) ++ (tail ++ mark_text C L width (n + marks_in_regions C l (region r bs rs)) own)) (elided_tree r bs rs n e)
        ∙ (ap (λ m. joined [] (codes "{..}" ∷ ts) ++ (tail ++ mark_text C L width (n + m) own)) (elided_marks r bs rs e)
        ∙ (ap (λ z. (codes "{..}" ++ z) ++ (tail ++ mark_text C L width (n + marks_in_regions C l rs) own)) (joined_plain ts)
        ∙ append_assoc (codes "{..}") (joined [] ts) (tail ++ mark_text C L width (n + marks_in_regions C l rs) own))))
        (ap (λ m. m + mark_count C own) (elided_marks r bs rs e))

    -- two frames are open after it, and no mark was written
    pub enters_plain : (f : Open T A) (n : ℕ) (text : Text) (g h : Open T A) → rest C L width f n ≡ text ++ (rest C L width h n ++ rest C L width g (n + marks C h)) →
        marks C f ≡ marks C h + marks C g → Turns C L width f n text 0 (g ∷ h ∷ [])
    enters_plain f n text g h e m = enters f n text 0 g h
        (e ∙ ap (λ k. text ++ (rest C L width h k ++ rest C L width g (k + marks C h))) (sym (nothing n)))
        (m ∙ one (marks C h + marks C g))
      where
        one : (a : ℕ) → a ≡ 0 + a
        one a = omega arith

    add_assoc : (a b c : ℕ) → a + (b + c) ≡ (a + b) + c
    add_assoc a b c = omega arith

    pub shown_turns : (j : ℕ) (ps : List (Part ⊤ T A)) (r : ⊤) (bs : Blocks (GraphOp T A) (GraphBlock T A) ⊤) (rs : Regions (GraphOp T A) (GraphBlock T A) ⊤) (n : ℕ) → is_elided C l ≡ false →
        Turns C L width (an_operation i l own false (tree.region j ∷ ps) (region r bs rs)) n (codes " " ++ opening width i) 0 (an_operation i l own false ps rs ∷ a_region i (inside C l) true bs ∷ [])
    shown_turns j ps r bs rs n e =
        let mb = marks_in_blocks C (inside C l) bs in
        let mr = marks_in_regions C l rs in
        let blocks = block_texts L width (i + width) (tree_blocks C (inside C l) n bs) in
        let ts = region_texts L width i (tree_regions C l (n + mb) rs) in
        enters_plain (an_operation i l own false (tree.region j ∷ ps) (region r bs rs)) n (codes " " ++ opening width i) (an_operation i l own false ps rs) (a_region i (inside C l) true bs)
        (ap (λ t. parts L (tree.region j ∷ ps) (region_texts L width i t) ++ mark_text C L width (n + marks_in_regions C l (region r bs rs)) own) (shown_tree r bs rs n e)
        ∙ (ap (λ m. parts L (tree.region j ∷ ps) (region_text L width i (shown tt) blocks ∷ ts) ++ mark_text C L width (n + m) own) (shown_marks r bs rs e)
        ∙ (ap (λ m. parts L (tree.region j ∷ ps) (region_text L width i (shown tt) blocks ∷ ts) ++ mark_text C L width m own) (add_assoc n mb mr)
        ∙ regroup (codes " ") (newline i) (codes "{") (newline (i + width)) (joined (between_blocks (i + width)) blocks) (closing i) (parts L ps ts) (mark_text C L width ((n + mb) + mr) own))))
        (ap (λ m. m + mark_count C own) (shown_marks r bs rs e) ∙ sym (add_assoc mb mr (mark_count C own)))
      where
        regroup : (s nl o ni b c p m : Text) → (s ++ ((nl ++ (o ++ (ni ++ (b ++ c)))) ++ p)) ++ m ≡ (s ++ (nl ++ (o ++ ni))) ++ ((b ++ c) ++ (p ++ m))
        regroup s nl o ni b c p m = simp append_assoc

    pub shown_repeats : (ps : List (Part ⊤ T A)) (r : ⊤) (bs : Blocks (GraphOp T A) (GraphBlock T A) ⊤) (rs : Regions (GraphOp T A) (GraphBlock T A) ⊤) (n : ℕ) → is_elided C l ≡ false →
        Turns C L width (an_operation i l own true ps (region r bs rs)) n (opening width i) 0 (an_operation i l own true ps rs ∷ a_region i (inside C l) true bs ∷ [])
    shown_repeats ps r bs rs n e =
        let mb = marks_in_blocks C (inside C l) bs in
        let mr = marks_in_regions C l rs in
        let blocks = block_texts L width (i + width) (tree_blocks C (inside C l) n bs) in
        let ts = region_texts L width i (tree_regions C l (n + mb) rs) in
        let tail = parts L ps [] in
        enters_plain (an_operation i l own true ps (region r bs rs)) n (opening width i) (an_operation i l own true ps rs) (a_region i (inside C l) true bs)
        (ap (λ t. joined [] (region_texts L width i t) ++ (tail ++ mark_text C L width (n + marks_in_regions C l (region r bs rs)) own)) (shown_tree r bs rs n e)
        ∙ (ap (λ m. joined [] (region_text L width i (shown tt) blocks ∷ ts) ++ (tail ++ mark_text C L width (n + m) own)) (shown_marks r bs rs e)
        ∙ (ap (λ m. joined [] (region_text L width i (shown tt) blocks ∷ ts) ++ (tail ++ mark_text C L width m own)) (add_assoc n mb mr)
        ∙ (ap (λ z. (region_text L width i (shown tt) blocks ++ z) ++ (tail ++ mark_text C L width ((n + mb) + mr) own)) (joined_plain ts)
        ∙ regroup (newline i) (codes "{") (newline (i + width)) (joined (between_blocks (i + width)) blocks) (closing i) (joined [] ts) (tail ++ mark_text C L width ((n + mb) + mr) own)))))
        (ap (λ m. m + mark_count C own) (shown_marks r bs rs e) ∙ sym (add_assoc mb mr (mark_count C own)))
      where
        regroup : (nl o ni b c p m : Text) → ((nl ++ (o ++ (ni ++ (b ++ c)))) ++ p) ++ m ≡ (nl ++ (o ++ ni)) ++ ((b ++ c) ++ (p ++ m))
        regroup nl o ni b c p m = simp append_assoc

  -- ---- a region and a block

  joined_none : (first : Bool) (between : Text) → joined_on first between [] ≡ []
  joined_none true between = refl
  joined_none false between = refl

  joined_more : (first : Bool) (between t : Text) (ts : List Text) → joined_on first between (t ∷ ts) ≡ unless_first first between ++ (t ++ joined_on false between ts)
  joined_more true between t ts = refl
  joined_more false between t ts = refl

  pub region_ends : (i : ℕ) (l : Limit) (first : Bool) (n : ℕ) → Turns C L width (a_region i l first no_blocks) n (closing i) 0 []
  region_ends i l first n = ends (a_region i l first no_blocks) n (closing i) 0 (ap (λ z. z ++ closing i) (joined_none first (between_blocks (i + width)))) refl

  pub block_ends : (i : ℕ) (l : Limit) (first : Bool) (n : ℕ) → Turns C L width (a_block i l first no_operations) n [] 0 []
  block_ends i l first n = ends (a_block i l first no_operations) n [] 0 (joined_none first (between_operations (i + width))) refl

  pub block_turns : (i : ℕ) (l : Limit) (first : Bool) (h : GraphBlock T A) (os : Operations (GraphOp T A) (GraphBlock T A) ⊤) (bs : Blocks (GraphOp T A) (GraphBlock T A) ⊤) (n : ℕ) →
      Turns C L width (a_region i l first (block h os bs)) n (unless_first first (between_blocks (i + width)) ++ block_front L ((i + width) + width) (tree_head C n h))
      (own_marks C h.location (block_outlined C h)) (a_region i l false bs ∷ a_block (i + width) l true os ∷ [])
  block_turns i l first h os bs n =
      let k = own_marks C h.location (block_outlined C h) in
      let mo = marks_in_operations C l os in
      let b = between_blocks (i + width) in
      let head = tree_head C n h in
      let d = (i + width) + width in
      let ops = operation_texts L width d (tree_operations C l (n + k) os) in
      let more = block_texts L width (i + width) (tree_blocks C l ((n + k) + mo) bs) in
      enters (a_region i l first (block h os bs)) n (unless_first first b ++ block_front L d head) k (a_region i l false bs) (a_block (i + width) l true os)
      (ap (λ z. z ++ closing i) (joined_more first b (block_text L width (i + width) head ops) more)
      ∙ regroup (unless_first first b) (label L head.label) (codes "(") (joined comma (map (argument L) head.arguments)) (codes ")") (dictionary_if L head.attributes) (mark_if L head.mark) (codes ":") (newline d)
      (joined (between_operations d) ops) (joined_on false b more) (closing i))
      (three k mo (marks_in_blocks C l bs))
    where
      three : (a b c : ℕ) → (a + b) + c ≡ a + (b + c)
      three a b c = omega arith

      regroup : (u a b c d e m k nl o r cl : Text) → (u ++ ((a ++ (b ++ (c ++ (d ++ (e ++ (m ++ (k ++ (nl ++ o)))))))) ++ r)) ++ cl
          ≡ (u ++ ((a ++ (b ++ (c ++ (d ++ e)))) ++ (m ++ (k ++ nl)))) ++ (o ++ (r ++ cl))
      regroup u a b c d e m k nl o r cl = simp append_assoc

  -- ---- the beginning of an operation

  body_begins : (i : ℕ) (l : Limit) (own : Option (GraphOp T A)) (b : Body ⊤ T A) (rs : Regions (GraphOp T A) (GraphBlock T A) ⊤) (n : ℕ) →
      body L b (region_texts L width i (tree_regions C l n rs)) ++ mark_text C L width (n + marks_in_regions C l rs) own ≡ body_front L b ++ rest C L width (opened i l own b rs) n
  body_begins i l own (tree.custom ps) rs n = refl
  body_begins i l own (tree.canonical names labels entries ots rts) rs n =
      regroup (codes " (") (joined comma (map (λ m. m.text) names)) (codes ") [") (joined comma (map (label L) labels)) (codes "] ") (dictionary L entries) (codes ": <(")
      (joined comma (map L.types.written ots)) (codes ") -> (") (joined comma (map L.types.written rts)) (codes ")>") (joined [] (region_texts L width i (tree_regions C l n rs))) (mark_text C L width (n + marks_in_regions C l rs) own)
    where
      regroup : (a b c d e f g h i j k r m : Text) → (a ++ (b ++ (c ++ (d ++ (e ++ (f ++ (g ++ (h ++ (i ++ (j ++ (k ++ r))))))))))) ++ m
          ≡ (a ++ (b ++ (c ++ (d ++ (e ++ (f ++ (g ++ (h ++ (i ++ (j ++ k)))))))))) ++ (r ++ ([] ++ m))
      regroup a b c d e f g h i j k r m = simp append_assoc

  -- the concrete text of an operation, with its mark where it is to be written
  pub operation_begins : (i : ℕ) (l : Limit) (own : Option (GraphOp T A)) (o : Op ⊤ T A) (rs : Regions (GraphOp T A) (GraphBlock T A) ⊤) (n : ℕ) →
      concrete L o (region_texts L width i (tree_regions C l n rs)) ++ mark_text C L width (n + marks_in_regions C l rs) own
      ≡ operation_front L o ++ rest C L width (opened i l own o.body rs) n
  operation_begins i l own o rs n =
      let b = body L o.body (region_texts L width i (tree_regions C l n rs)) in
      let m = mark_text C L width (n + marks_in_regions C l rs) own in
      regroup (results L o.names) (id L o.id) b m
      ∙ (ap (λ z. results L o.names ++ (id L o.id ++ z)) (body_begins i l own o.body rs n)
      ∙ regroup_back (results L o.names) (id L o.id) (body_front L o.body) (rest C L width (opened i l own o.body rs) n))
    where
      regroup : (a b c d : Text) → (a ++ (b ++ c)) ++ d ≡ a ++ (b ++ (c ++ d))
      regroup a b c d = simp append_assoc

      regroup_back : (a b c d : Text) → a ++ (b ++ (c ++ d)) ≡ (a ++ (b ++ c)) ++ d
      regroup_back a b c d = simp append_assoc

  opened_marks : (i : ℕ) (l : Limit) (own : Option (GraphOp T A)) (b : Body ⊤ T A) (rs : Regions (GraphOp T A) (GraphBlock T A) ⊤) → marks C (opened i l own b rs) ≡ marks_in_regions C l rs + mark_count C own
  opened_marks i l own (tree.custom ps) rs = refl
  opened_marks i l own (tree.canonical names labels entries ots rts) rs = refl

  pub operation_turns : (i : ℕ) (l : Limit) (first : Bool) (o : GraphOp T A) (rs : Regions (GraphOp T A) (GraphBlock T A) ⊤) (os : Operations (GraphOp T A) (GraphBlock T A) ⊤) (n : ℕ) →
      Turns C L width (a_block i l first (operation o rs os)) n (unless_first first (between_operations (i + width)) ++ operation_front L (tree_op C (n + marks_in_regions C l rs) o)) 0
      (a_block i l false os ∷ opened (i + width) l (Some o) (body_of C o (C.format_of o.id)) rs ∷ [])
  operation_turns i l first o rs os n =
      let mr = marks_in_regions C l rs in
      let k = own_marks C o.location (op_outlined C o) in
      let op = tree_op C (n + mr) o in
      let b = between_operations (i + width) in
      let inner = opened (i + width) l (Some o) (body_of C o (C.format_of o.id)) rs in
      let more : ℕ → List Text = (λ m. operation_texts L width (i + width) (tree_operations C l m os)) in
      enters_plain 0 None None (a_block i l first (operation o rs os)) n (unless_first first b ++ operation_front L op) (a_block i l false os) inner
      (joined_more first b (operation_text L op (region_texts L width (i + width) (tree_regions C l n rs))) (more ((n + mr) + k))
      ∙ (ap (λ z. unless_first first b ++ (z ++ joined_on false b (more ((n + mr) + k)))) (operation_begins (i + width) l (Some o) op rs n)
      ∙ (regroup (unless_first first b) (operation_front L op) (rest C L width inner n) (joined_on false b (more ((n + mr) + k)))
      ∙ ap (λ m. (unless_first first b ++ operation_front L op) ++ (rest C L width inner n ++ joined_on false b (more m))) (sum n mr k ∙ ap (λ j. n + j) (sym (opened_marks (i + width) l (Some o) (body_of C o (C.format_of o.id)) rs))))))
      (ap (λ j. j + marks_in_operations C l os) (sym (opened_marks (i + width) l (Some o) (body_of C o (C.format_of o.id)) rs)))
    where
      sum : (a b c : ℕ) → (a + b) + c ≡ a + (b + c)
      sum a b c = omega arith

      regroup : (a b c d : Text) → a ++ ((b ++ c) ++ d) ≡ (a ++ b) ++ (c ++ d)
      regroup a b c d = simp append_assoc

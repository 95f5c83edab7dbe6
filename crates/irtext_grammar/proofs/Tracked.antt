-- What a context contains after each item of nested text, with each item at its place and nothing else created: the structure of each turn,
-- with the premises of the lemmas on what it contains.
use Rattle.std.proofs.Common.{◌≡◌, ◌∙◌, ℕ, Bool, List, [], ◌∷◌, ◌++◌, Option, Some, None, option_map, refl, sym, ap, subst, inl, inr}
use Rattle.irtext_base.specs.Format.{Format, Id}
use Rattle.irtext_base.specs.declared.location.Location.{Location}
use Rattle.irtext_context.specs.Context.{ContextView, OperationView, BlockView, RegionView, operation, block, region, regions_in}
use Rattle.irtext_graph.specs.declared.arena.Ptr.{Ptr}
use Rattle.irtext_graph.specs.declared.object.Operation.{Operation}
use Rattle.irtext_graph.specs.declared.object.BasicBlock.{BasicBlock}
use Rattle.irtext_graph.specs.declared.object.Region.{Region}
use Rattle.irtext_graph.specs.declared.object.Object.{Object}
use Rattle.irtext_graph.specs.declared.object.Object.TheVariants.{TheOperation, TheBlock, TheRegion}
use Rattle.irtext_graph.specs.Chained.{Among}
use Rattle.irtext_graph.proofs.Preorders.{among_left, among_right}
use Rattle.irtext_grammar.specs.Grammar.Tree.{Name, Mark, Piece, Part, Head}
use Rattle.irtext_grammar.specs.Naming.{body_of, unmarked}
use Rattle.irtext_grammar.specs.Reached.{Actions}
use Rattle.irtext_grammar.specs.Building.{Unfinished, operation_so_far, region_so_far, but_its_mark, Building, nothing_open, building}
use Rattle.irtext_grammar.specs.Grows.{with_last_region, with_last_block, with_last_operation, RegionCame, OperationGains, RegionGains, BlockGains, OperationCame, BlockCame, OwnBecame}
use Rattle.irtext_grammar.specs.Unchanged.{OwnSoFar, own_of, OpenAt, operation_under, ended_under, region_under, open_objects, AreOpenAt, IsThere, IsAsItWas, HoldsSoFar, ModifiesOnly}
use Rattle.irtext_grammar.specs.Tracks.{Made, noted, operations_in, blocks_in, HasChild, IsHeld, Tracks, HoldsMade}
use Rattle.irtext_grammar.proofs.Acts as acts
use Rattle.irtext_grammar.proofs.Edits.{among_or_not}
use Rattle.irtext_grammar.proofs.Kept.{there_still}
use Rattle.irtext_grammar.proofs.Noted.{holds_wider, still_noted, came_noted, block_came_noted, became_noted}

-- ---- children
-- the last element is a member of the list, and so are those before it
among_last : {X : Type 0} (xs : List X) (x : X) → Among x (xs ++ x ∷ [])
among_last xs x = among_right x xs (x ∷ []) (inl refl)

block_gained : (o : Option RegionView) (b q : Ptr BasicBlock) → Among q (blocks_in o) → Among q (blocks_in (option_map (with_last_block b) o))
block_gained None b q i = i
block_gained (Some view) b q i = among_left q view.blocks (b ∷ []) i

module _ {T A : Type 0} where
  region_gained : (o : Option (OperationView T A)) (r q : Ptr Region) → Among q (regions_in o) → Among q (regions_in (option_map (with_last_region r) o))
  region_gained None r q i = i
  region_gained (Some view) r q i = among_left q view.regions (r ∷ []) i

  operation_gained : (o : Option (BlockView T A)) (p q : Ptr Operation) → Among q (operations_in o) → Among q (operations_in (option_map (with_last_operation p) o))
  operation_gained None p q i = i
  operation_gained (Some view) p q i = among_left q view.operations (p ∷ []) i

  -- an unchanged object has the children that it had
  same_children : (old new : ContextView T A) (k o : Object) → IsAsItWas old new k → HasChild old k o → HasChild new k o
  same_children old new (TheOperation p) (TheRegion r) e i = subst (λ z. Among r (regions_in z)) (sym e.0) i
  same_children old new (TheOperation p) (TheOperation q) e i = absurd i
  same_children old new (TheOperation p) (TheBlock b) e i = absurd i
  same_children old new (TheRegion r) (TheBlock b) e i = subst (λ z. Among b (blocks_in z)) (sym e) i
  same_children old new (TheRegion r) (TheOperation q) e i = absurd i
  same_children old new (TheRegion r) (TheRegion q) e i = absurd i
  same_children old new (TheBlock b) (TheOperation p) e i = subst (λ z. Among p (operations_in z)) (sym e.0) i
  same_children old new (TheBlock b) (TheBlock d) e i = absurd i
  same_children old new (TheBlock b) (TheRegion r) e i = absurd i

  -- one that gained a child has it, and those that it had
  operation_children : (old new : ContextView T A) (p : Ptr Operation) (r : Ptr Region) → OperationGains old new p r → (o : Object) → HasChild old (TheOperation p) o → HasChild new (TheOperation p) o
  operation_children old new p r g (TheRegion q) i = subst (λ z. Among q (regions_in z)) (sym g.gains) (region_gained (operation old p) r q i)
  operation_children old new p r g (TheOperation q) i = absurd i
  operation_children old new p r g (TheBlock b) i = absurd i

  region_children : (old new : ContextView T A) (r : Ptr Region) (b : Ptr BasicBlock) → RegionGains old new r b → (o : Object) → HasChild old (TheRegion r) o → HasChild new (TheRegion r) o
  region_children old new r b g (TheBlock d) i = subst (λ z. Among d (blocks_in z)) (sym g.gains) (block_gained (region old r) b d i)
  region_children old new r b g (TheOperation q) i = absurd i
  region_children old new r b g (TheRegion q) i = absurd i

  block_children : (old new : ContextView T A) (b : Ptr BasicBlock) (p : Ptr Operation) → BlockGains old new b p → (o : Object) → HasChild old (TheBlock b) o → HasChild new (TheBlock b) o
  block_children old new b p g (TheOperation q) i = subst (λ z. Among q (operations_in z)) (sym g.gains) (operation_gained (block old b) p q i)
  block_children old new b p g (TheBlock d) i = absurd i
  block_children old new b p g (TheRegion r) i = absurd i

  -- one whose own changed has the regions that it had
  own_children : (I : ℕ → Location A → Type 0) (old new : ContextView T A) (p : Ptr Operation) (own : OwnSoFar T A) → OwnBecame old new I p own → (o : Object) → HasChild old (TheOperation p) o → HasChild new (TheOperation p) o
  own_children I old new p own h (TheRegion r) i = go (operation old p) refl i
    where
      go : (x : Option (OperationView T A)) → operation old p ≡ x → Among r (regions_in x) → Among r (regions_in (operation new p))
      go None e j = absurd j
      go (Some was) e j = subst (λ z. Among r (regions_in z)) (sym h.is) (subst (Among r) (sym (h.regions was e)) j)
  own_children I old new p own h (TheOperation q) i = absurd i
  own_children I old new p own h (TheBlock b) i = absurd i

-- ---- a context that changes
-- each object of the one list is in the other
abbrev Within : List Object → List Object → Type 0
Within xs ys = (o : Object) → Among o xs → Among o ys

module _ {T A : Type 0} (start old new : ContextView T A) (items : Made) (whole : List Object) (ats nexts : List (OpenAt T A)) (root : Option (Ptr Operation)) (t : Tracks start old items whole ats root)
    (but : List Object) (s : ModifiesOnly but old new) (wider : Within (open_objects ats) (open_objects nexts)) (opens : Within but (open_objects nexts)) (there : (o : Object) → Among o (open_objects nexts) → IsThere new o)
    (came : (o : Object) → Among o (open_objects nexts) → IsThere old o → Among o (open_objects ats)) where
  held_still : (o : Object) → IsHeld whole ats o → IsHeld whole nexts o
  held_still o (inl i) = inl i
  held_still o (inr i) = inr (wider o i)

  stays_there : (o : Object) → IsThere start o → IsThere new o
  stays_there o h = elim (among_or_not o but) [
    | inl i ↦ there o (opens o i)
    | inr n ↦ there_still old new o (s.spared o (t.stays o h) n) (t.stays o h)
  ]

  -- the items that were made, and one more or none, and the children that were there or more
  tracks_on : (now : Made) → ((n : ℕ) (o : Object) → Among (n, o) now → IsHeld whole nexts o) → ((n m : ℕ) (o : Object) → Among (n, o) now → Among (m, o) now → n ≡ m)
      → ((k o : Object) → IsHeld whole ats k → HasChild old k o → HasChild new k o) → Tracks start new now whole nexts root
  tracks_on now known once children = record {
    known = known;
    once = once;
    all = λ o h. elim (s.brought o h) [ inl was ↦ elim (t.all o was) [ inl first ↦ inl first | inr held ↦ inr (held_still o held) ] | inr i ↦ inr (inr (opens o i)) ];
    came = λ o h first. elim h [
      | inl i ↦ t.came o (inl i) first
      | inr i ↦ t.came o (inr (came o i (t.stays o first))) first
    ];
    stays = stays_there;
    inside = λ o i. elim (t.inside o i) [ inl e ↦ inl e | inr (k, held, child) ↦ inr (k, held_still k held, children k o held child) ];
  }

  -- no item more
  tracks_same : ((k o : Object) → IsHeld whole ats k → HasChild old k o → HasChild new k o) → Tracks start new items whole nexts root
  tracks_same children = tracks_on items (λ n o i. held_still o (t.known n o i)) t.once children

  -- one item more, of an object that was not there
  tracks_more : (place : ℕ) (k : Object) → Among k (open_objects nexts) → ((o : Object) → IsHeld whole ats o → IsThere old o) → (IsThere old k → ⊥)
      → ((k o : Object) → IsHeld whole ats k → HasChild old k o → HasChild new k o) → Tracks start new ((place, k) ∷ items) whole nexts root
  tracks_more place k i held is_new children = tracks_on ((place, k) ∷ items) known once children
    where
      known : (n : ℕ) (o : Object) → Among (n, o) ((place, k) ∷ items) → IsHeld whole nexts o
      known n o (inl e) = inr (subst (λ z. Among z (open_objects nexts)) (sym (ap (λ z. z.1) e)) i)
      known n o (inr j) = held_still o (t.known n o j)

      older : (n m : ℕ) (o : Object) → ◌≡◌ {A = ℕ × Object} (n, o) (place, k) → Among (m, o) items → ⊥
      older n m o e j = is_new (subst (λ z. IsThere old z) (ap (λ z. z.1) e) (held o (t.known m o j)))

      once : (n m : ℕ) (o : Object) → Among (n, o) ((place, k) ∷ items) → Among (m, o) ((place, k) ∷ items) → n ≡ m
      once n m o (inl e) (inl f) = ap (λ z. z.0) e ∙ sym (ap (λ z. z.0) f)
      once n m o (inl e) (inr j) = absurd (older n m o e j)
      once n m o (inr j) (inl e) = absurd (older m n o e j)
      once n m o (inr i) (inr j) = t.once n m o i j

-- the children that were there are there, where one object alone gained or changed, and another is new
module _ {T A : Type 0} (I : Object → ℕ → Location A → Type 0) (old new : ContextView T A) (whole : List Object) (ats : List (OpenAt T A)) (root : Option (Ptr Operation)) (b : Building T A) (h : HoldsSoFar I old whole ats root b) where
  held_there : (o : Object) → IsHeld whole ats o → IsThere old o
  held_there o (inl i) = h.whole_there o i
  held_there o (inr i) = h.open_there o i

  children_by : (but : List Object) → ModifiesOnly but old new → ((k : Object) → Among k but → IsThere old k → (o : Object) → HasChild old k o → HasChild new k o) → (k o : Object) → IsHeld whole ats k → HasChild old k o → HasChild new k o
  children_by but s grown k o held child = elim (among_or_not k but) [
    | inl i ↦ grown k i (held_there k held) o child
    | inr n ↦ same_children old new k o (s.spared k (held_there k held) n) child
  ]

-- one new object, and one that grew
grown_pair : {T A : Type 0} (old new : ContextView T A) (n k : Object) → (IsThere old n → ⊥) → ((o : Object) → HasChild old k o → HasChild new k o) → (j : Object) → Among j (n ∷ k ∷ []) → IsThere old j → (o : Object) → HasChild old j o → HasChild new j o
grown_pair old new n k is_new grown j (inl e) there o child = absurd (is_new (subst (λ z. IsThere old z) e there))
grown_pair old new n k is_new grown j (inr (inl e)) there o child = subst (λ z. HasChild new z o) (sym e) (grown o (subst (λ z. HasChild old z o) e child))
grown_pair old new n k is_new grown j (inr (inr i)) there o child = absurd i

-- the new one was not open
new_open : {T A : Type 0} (old : ContextView T A) (n : Object) (os : List Object) → (IsThere old n → ⊥) → (o : Object) → Among o (n ∷ os) → IsThere old o → Among o os
new_open old n os is_new o (inl e) there = absurd (is_new (subst (λ z. IsThere old z) e there))
new_open old n os is_new o (inr i) there = i

module _ {T A : Type 0} (L : ℕ → Location A → Type 0) (start old new : ContextView T A) (items : Made) (whole : List Object) (root : Option (Ptr Operation)) (formats : Id → Option Format) where
  abbrev does : Actions T A (Building T A)
  does = building {T = T} {A = A} formats

  -- an operation begins, where nothing is open
  pub uses_at_root : (p : Ptr Operation) (own : OwnSoFar T A) (parts : List (Part ℕ T A)) (b : Building T A) → HoldsMade L start old items whole [] root b → OperationCame old new L p own → ModifiesOnly (TheOperation p ∷ []) old new
      → HoldsMade L start new ((own.place, TheOperation p) ∷ items) whole (operation_under p own ∷ []) root (does.uses own.place own.id parts b)
  uses_at_root p own parts b h came s =
      let n = TheOperation p in
      let more = (own.place, n) ∷ items in
      let held = acts.uses_at_root (noted more L) old new whole root formats p own parts b (holds_wider (noted items L) (noted more L) (still_noted L items own.place n) old whole [] root b h.so_far) (came_noted L old new items p own came) s in
      record {
        so_far = held;
        tracks = tracks_more start old new items whole [] (operation_under p own ∷ []) root h.tracks (n ∷ []) s (λ o i. absurd i) (λ o i. i) held.open_there (new_open old n [] came.is_new) own.place n (inl refl)
            (held_there (noted items L) old new whole [] root b h.so_far) came.is_new
            (children_by (noted items L) old new whole [] root b h.so_far (n ∷ []) s (λ k i there o child. elim i [ inl e ↦ absurd (came.is_new (subst (λ z. IsThere old z) e there)) | inr j ↦ absurd j ]));
      }

  -- an operation begins in a block
  pub uses_in_block : (r : Ptr Region) (d : Ptr BasicBlock) (ats : List (OpenAt T A)) (p : Ptr Operation) (own : OwnSoFar T A) (parts : List (Part ℕ T A)) (b : Building T A)
      → HoldsMade L start old items whole (region_under r (Some d) ∷ ats) root b → OperationCame old new L p own → BlockGains old new d p → ModifiesOnly (TheOperation p ∷ TheBlock d ∷ []) old new
      → HoldsMade L start new ((own.place, TheOperation p) ∷ items) whole (operation_under p own ∷ region_under r (Some d) ∷ ats) root (does.uses own.place own.id parts b)
  uses_in_block r d ats p own parts b h came g s =
      let n = TheOperation p in
      let opens = region_under r (Some d) ∷ ats in
      let more = (own.place, n) ∷ items in
      let held = acts.uses_in_block (noted more L) old new whole root formats r d ats p own parts b (holds_wider (noted items L) (noted more L) (still_noted L items own.place n) old whole opens root b h.so_far) (came_noted L old new items p own came) g s in
      record {
        so_far = held;
        tracks = tracks_more start old new items whole opens (operation_under p own ∷ opens) root h.tracks (n ∷ TheBlock d ∷ []) s (λ o i. inr i)
            (λ o i. elim i [ inl e ↦ inl e | inr j ↦ elim j [ inl e ↦ inr (inl e) | inr k ↦ absurd k ] ]) held.open_there (new_open old n (open_objects opens) came.is_new) own.place n (inl refl)
            (held_there (noted items L) old new whole opens root b h.so_far) came.is_new
            (children_by (noted items L) old new whole opens root b h.so_far (n ∷ TheBlock d ∷ []) s (grown_pair old new n (TheBlock d) came.is_new (block_children old new d p g)));
      }

  -- a region begins in an operation
  pub enters_operation : (iso : Bool) (p : Ptr Operation) (own : OwnSoFar T A) (ats : List (OpenAt T A)) (r : Ptr Region) (b : Building T A)
      → HoldsMade L start old items whole (operation_under p own ∷ ats) root b → RegionCame old new r → OperationGains old new p r → ModifiesOnly (TheRegion r ∷ TheOperation p ∷ []) old new
      → HoldsMade L start new items whole (region_under r None ∷ operation_under p own ∷ ats) root (does.enters iso b)
  enters_operation iso p own ats r b h came g s =
      let n = TheRegion r in
      let opens = operation_under p own ∷ ats in
      let held = acts.enters_operation (noted items L) old new whole root formats iso p own ats r b h.so_far came g s in
      record {
        so_far = held;
        tracks = tracks_same start old new items whole opens (region_under r None ∷ opens) root h.tracks (n ∷ TheOperation p ∷ []) s (λ o i. inr i)
            (λ o i. elim i [ inl e ↦ inl e | inr j ↦ elim j [ inl e ↦ inr (inl e) | inr k ↦ absurd k ] ]) held.open_there (new_open old n (open_objects opens) came.is_new)
            (children_by (noted items L) old new whole opens root b h.so_far (n ∷ TheOperation p ∷ []) s (grown_pair old new n (TheOperation p) came.is_new (operation_children old new p r g)));
      }

  -- the first block of a region begins
  pub heads_first : (r : Ptr Region) (ats : List (OpenAt T A)) (d : Ptr BasicBlock) (head : Head ℕ T A) (b : Building T A)
      → HoldsMade L start old items whole (region_under r None ∷ ats) root b → BlockCame old new L d head → RegionGains old new r d → ModifiesOnly (TheBlock d ∷ TheRegion r ∷ []) old new
      → HoldsMade L start new ((head.label.place, TheBlock d) ∷ items) whole (region_under r (Some d) ∷ ats) root (does.heads head b)
  heads_first r ats d head b h came g s =
      let n = TheBlock d in
      let opens = region_under r None ∷ ats in
      let more = (head.label.place, n) ∷ items in
      let held = acts.heads_first (noted more L) old new whole root formats r ats d head b (holds_wider (noted items L) (noted more L) (still_noted L items head.label.place n) old whole opens root b h.so_far) (block_came_noted L old new items d head came) g s in
      record {
        so_far = held;
        tracks = tracks_more start old new items whole opens (region_under r (Some d) ∷ ats) root h.tracks (n ∷ TheRegion r ∷ []) s (λ o i. inr i)
            (λ o i. elim i [ inl e ↦ inl e | inr j ↦ elim j [ inl e ↦ inr (inl e) | inr k ↦ absurd k ] ]) held.open_there (new_open old n (open_objects opens) came.is_new) head.label.place n (inl refl)
            (held_there (noted items L) old new whole opens root b h.so_far) came.is_new
            (children_by (noted items L) old new whole opens root b h.so_far (n ∷ TheRegion r ∷ []) s (grown_pair old new n (TheRegion r) came.is_new (region_children old new r d g)));
      }

  -- an operation's own changes
  pub late_operation : (place : ℕ) (id : Id) (piece : Piece ℕ T A) (p : Ptr Operation) (own next : OwnSoFar T A) (ats : List (OpenAt T A)) (b : Building T A)
      → HoldsMade L start old items whole (operation_under p own ∷ ats) root b → OwnBecame old new L p next → next.place ≡ own.place → next.id ≡ own.id → ModifiesOnly (TheOperation p ∷ []) old new
      → HoldsMade L start new items whole (operation_under p next ∷ ats) root (does.late place id piece b)
  late_operation place id piece p own next ats b h became at as_id s =
      let n = TheOperation p in
      let opens = operation_under p own ∷ ats in
      let item = subst (λ z. Among (z, n) items) (sym at) (own_noted own (h.so_far.are_open)) in
      let held = acts.late_operation (noted items L) old new whole root formats place id piece p own next ats b h.so_far (became_noted L old new items p next item became) at as_id s in
      record {
        so_far = held;
        tracks = tracks_same start old new items whole opens (operation_under p next ∷ ats) root h.tracks (n ∷ []) s (λ o i. i)
            (λ o i. elim i [ inl e ↦ inl e | inr j ↦ absurd j ]) held.open_there (λ o i there. i)
            (children_by (noted items L) old new whole opens root b h.so_far (n ∷ []) s
            (λ k i there o child. elim i [ inl e ↦ subst (λ z. HasChild new z o) (sym e) (own_children L old new p next became o (subst (λ z. HasChild old z o) e child)) | inr j ↦ absurd j ]));
      }
    where
      own_noted : (own : OwnSoFar T A) → AreOpenAt (noted items L) old whole (operation_under p own ∷ ats) b.unfinished None → Among (own.place, TheOperation p) items
      own_noted own k = go b.unfinished k
        where
          go : (us : List (Unfinished T A)) → AreOpenAt (noted items L) old whole (operation_under p own ∷ ats) us None → Among (own.place, TheOperation p) items
          go [] k = absurd k
          go (operation_so_far at id rs ∷ us) ((e, f, k), l) = k.has.location.0
          go (region_so_far bs last ∷ us) (k, l) = absurd k
          go (but_its_mark o rs ∷ us) (k, l) = absurd k

-- where nothing was parsed, nothing was made
pub holds_nothing : {T A : Type 0} (L : ℕ → Location A → Type 0) (c : ContextView T A) → HoldsMade L c c [] [] [] None nothing_open
holds_nothing L c = record {
  so_far = acts.holds_nothing (noted [] L) c;
  tracks = record {
    known = λ n o i. absurd i;
    once = λ n m o i j. absurd i;
    all = λ o h. inl h;
    came = λ o h first. elim h [ inl i ↦ i | inr i ↦ i ];
    stays = λ o h. h;
    inside = λ o i. absurd i;
  };
}

-- ---- what ends in a context that does not change
-- the innermost of what is open is whole: the same objects are held
module _ {T A : Type 0} (whole : List Object) (k : Object) (ats nexts : List (OpenAt T A)) (e : open_objects ats ≡ k ∷ open_objects nexts) where
  held_whole : (o : Object) → IsHeld whole ats o → IsHeld (k ∷ whole) nexts o
  held_whole o (inl i) = inl (inr i)
  held_whole o (inr i) = elim (subst (Among o) e i) [ inl same ↦ inl (inl same) | inr later ↦ inr later ]

  held_open : (o : Object) → IsHeld (k ∷ whole) nexts o → IsHeld whole ats o
  held_open o (inl (inl same)) = inr (subst (Among o) (sym e) (inl same))
  held_open o (inl (inr i)) = inl i
  held_open o (inr i) = inr (subst (Among o) (sym e) (inr i))

module _ {T A : Type 0} (start c : ContextView T A) (items : Made) (whole : List Object) (root : Option (Ptr Operation)) where
  -- the innermost open object is complete, and its parent is complete or open
  ends : (k : Object) (ats nexts : List (OpenAt T A)) → open_objects ats ≡ k ∷ open_objects nexts → Tracks start c items whole ats root → (j : Object) → Among j (open_objects nexts) → HasChild c j k
      → Tracks start c items (k ∷ whole) nexts root
  ends k ats nexts e t j at child =
      let move : (o : Object) → IsHeld whole ats o → IsHeld (k ∷ whole) nexts o = held_whole whole k ats nexts e in
      record {
        known = λ n o i. move o (t.known n o i);
        once = t.once;
        all = λ o h. elim (t.all o h) [ inl first ↦ inl first | inr held ↦ inr (move o held) ];
        came = λ o h. t.came o (held_open whole k ats nexts e o h);
        stays = t.stays;
        inside = λ o i. elim i [
          | inl same ↦ inr (j, inr at, subst (HasChild c j) (sym same) child)
          | inr i ↦ elim (t.inside o i) [ inl f ↦ inl f | inr (m, held, inner) ↦ inr (m, move m held, inner) ]
        ];
      }

  -- the root is whole
  ends_root : (p : Ptr Operation) (ats : List (OpenAt T A)) → open_objects ats ≡ TheOperation p ∷ [] → root ≡ None → Tracks start c items whole ats root → Tracks start c items (TheOperation p ∷ whole) [] (Some p)
  ends_root p ats e none t =
      let move : (o : Object) → IsHeld whole ats o → IsHeld {T = T} {A = A} (TheOperation p ∷ whole) [] o = held_whole whole (TheOperation p) ats [] e in
      record {
        known = λ n o i. move o (t.known n o i);
        once = t.once;
        all = λ o h. elim (t.all o h) [ inl first ↦ inl first | inr held ↦ inr (move o held) ];
        came = λ o h. t.came o (held_open whole (TheOperation p) ats [] e o h);
        stays = t.stays;
        inside = λ o i. elim i [
          | inl same ↦ inl (ap Some (sym same))
          | inr i ↦ elim (t.inside o i) [ inl f ↦ absurd (no_root o f) | inr (m, held, inner) ↦ inr (m, move m held, inner) ]
        ];
      }
    where
      no_root : (o : Object) → option_map TheOperation root ≡ Some o → ⊥
      no_root o f = let g : option_map TheOperation None ≡ Some o = subst (λ z. option_map TheOperation z ≡ Some o) none f in cc

-- ---- the children of the open objects
module _ {T A : Type 0} (I : Object → ℕ → Location A → Type 0) (c : ContextView T A) (whole : List Object) where
  -- the block that is open in a region is a child of the region
  block_in_region : (r : Ptr Region) (b : Ptr BasicBlock) (ats : List (OpenAt T A)) (us : List (Unfinished T A)) → AreOpenAt I c whole (region_under r (Some b) ∷ ats) us None → HasChild c (TheRegion r) (TheBlock b)
  block_in_region r b ats [] h = absurd h
  block_in_region r b ats (region_so_far bs None ∷ us) (f, h) = absurd f
  block_in_region r b ats (operation_so_far at id rs ∷ us) (f, h) = absurd f
  block_in_region r b ats (but_its_mark o rs ∷ us) (f, h) = absurd f
  block_in_region r b ats (region_so_far bs (Some last) ∷ us) ((f, k), h) = subst (λ z. Among b (blocks_in z)) (sym f.is) (subst (Among b) (sym f.blocks) (among_last f.done b))

  -- the region that is open in an operation is a child of the operation
  region_in_operation : (r : Ptr Region) (p : Ptr Operation) (own : OwnSoFar T A) (ats : List (OpenAt T A)) (us : List (Unfinished T A)) → AreOpenAt I c whole (region_under r None ∷ operation_under p own ∷ ats) us None → HasChild c (TheOperation p) (TheRegion r)
  region_in_operation r p own ats [] h = absurd h
  region_in_operation r p own ats (region_so_far bs (Some last) ∷ us) (f, h) = absurd f
  region_in_operation r p own ats (operation_so_far at id rs ∷ us) (f, h) = absurd f
  region_in_operation r p own ats (but_its_mark o rs ∷ us) (f, h) = absurd f
  region_in_operation r p own ats (region_so_far bs None ∷ []) (f, h) = absurd h
  region_in_operation r p own ats (region_so_far bs None ∷ region_so_far cs last ∷ us) (f, (g, h)) = absurd g
  region_in_operation r p own ats (region_so_far bs None ∷ but_its_mark o rs ∷ us) (f, (g, h)) = absurd g
  region_in_operation r p own ats (region_so_far bs None ∷ operation_so_far at id rs ∷ us) (k, ((f, g, l), h)) =
      subst (λ z. Among r (regions_in z)) (sym l.is) (subst (Among r) (sym l.regions) (among_last l.done r))

  -- the operation that waits for its mark in a block is a child of the block
  operation_in_block : (p : Ptr Operation) (r : Ptr Region) (b : Ptr BasicBlock) (ats : List (OpenAt T A)) (us : List (Unfinished T A)) → AreOpenAt I c whole (ended_under p ∷ region_under r (Some b) ∷ ats) us None → HasChild c (TheBlock b) (TheOperation p)
  operation_in_block p r b ats [] h = absurd h
  operation_in_block p r b ats (region_so_far bs last ∷ us) (f, h) = absurd f
  operation_in_block p r b ats (operation_so_far at id rs ∷ us) (f, h) = absurd f
  operation_in_block p r b ats (but_its_mark o rs ∷ []) (f, h) = absurd h
  operation_in_block p r b ats (but_its_mark o rs ∷ region_so_far bs None ∷ us) (f, (g, h)) = absurd g
  operation_in_block p r b ats (but_its_mark o rs ∷ operation_so_far at id qs ∷ us) (f, (g, h)) = absurd g
  operation_in_block p r b ats (but_its_mark o rs ∷ but_its_mark q qs ∷ us) (f, (g, h)) = absurd g
  operation_in_block p r b ats (but_its_mark o rs ∷ region_so_far bs (Some last) ∷ us) (k, ((f, g), h)) =
      subst (λ z. Among p (operations_in z)) (sym g.is) (subst (Among p) (sym g.operations) (among_last g.done p))

module _ {T A : Type 0} (L : ℕ → Location A → Type 0) (start c : ContextView T A) (items : Made) (whole : List Object) (root : Option (Ptr Operation)) where
  -- a block that is open ends
  pub block_ends : (r : Ptr Region) (d : Ptr BasicBlock) (ats : List (OpenAt T A)) (b : Building T A) → HoldsMade L start c items whole (region_under r (Some d) ∷ ats) root b
      → HoldsMade L start c items (TheBlock d ∷ whole) (region_under r None ∷ ats) root (record { unfinished = acts.block_ended b.unfinished; tree = b.tree })
  block_ends r d ats b h = record {
    so_far = acts.block_ends (noted items L) c whole root r d ats b h.so_far;
    tracks = ends start c items whole root (TheBlock d) (region_under r (Some d) ∷ ats) (region_under r None ∷ ats) refl h.tracks (TheRegion r) (inl refl) (block_in_region (noted items L) c whole r d ats b.unfinished h.so_far.are_open);
  }

  module _ (formats : Id → Option Format) where
    abbrev ending : Actions T A (Building T A)
    ending = building {T = T} {A = A} formats

    -- a region that holds no open block ends
    pub leaves_empty : (iso : Bool) (place : ℕ) (r : Ptr Region) (p : Ptr Operation) (own : OwnSoFar T A) (ats : List (OpenAt T A)) (b : Building T A)
        → HoldsMade L start c items whole (region_under r None ∷ operation_under p own ∷ ats) root b → HoldsMade L start c items (TheRegion r ∷ whole) (operation_under p own ∷ ats) root (ending.leaves iso place b)
    leaves_empty iso place r p own ats b h = record {
      so_far = acts.leaves_empty (noted items L) c whole root formats iso place r p own ats b h.so_far;
      tracks = ends start c items whole root (TheRegion r) (region_under r None ∷ operation_under p own ∷ ats) (operation_under p own ∷ ats) refl h.tracks (TheOperation p) (inl refl)
          (region_in_operation (noted items L) c whole r p own ats b.unfinished h.so_far.are_open);
    }

    -- an operation ends, up to its mark, where its own is that of what its parts are
    pub closes_operation : (names : List (Name ℕ)) (parts : List (Part ℕ T A)) (p : Ptr Operation) (own : OwnSoFar T A) (ats : List (OpenAt T A)) (b : Building T A)
        → own ≡ own_of (unmarked own.place names own.id (body_of (formats own.id) parts)) → HoldsMade L start c items whole (operation_under p own ∷ ats) root b
        → HoldsMade L start c items whole (ended_under p ∷ ats) root (ending.closes own.place names own.id parts b)
    closes_operation names parts p own ats b e h = record {
      so_far = acts.closes_operation (noted items L) c whole root formats names parts p own ats b e h.so_far;
      tracks = record { known = h.tracks.known; once = h.tracks.once; all = h.tracks.all; came = h.tracks.came; stays = h.tracks.stays; inside = h.tracks.inside };
    }

    -- the mark of an operation is known, and it is whole: one of a block
    pub marks_in_block : (mark : Option (Mark ℕ)) (p : Ptr Operation) (r : Ptr Region) (d : Ptr BasicBlock) (ats : List (OpenAt T A)) (b : Building T A)
        → HoldsMade L start c items whole (ended_under p ∷ region_under r (Some d) ∷ ats) root b → HoldsMade L start c items (TheOperation p ∷ whole) (region_under r (Some d) ∷ ats) root (ending.marks mark b)
    marks_in_block mark p r d ats b h = record {
      so_far = acts.marks_in_block (noted items L) c whole root formats mark p r d ats b h.so_far;
      tracks = ends start c items whole root (TheOperation p) (ended_under p ∷ region_under r (Some d) ∷ ats) (region_under r (Some d) ∷ ats) refl h.tracks (TheBlock d) (inl refl)
          (operation_in_block (noted items L) c whole p r d ats b.unfinished h.so_far.are_open);
    }

-- or the root
pub marks_root : {T A : Type 0} (L : ℕ → Location A → Type 0) (start c : ContextView T A) (items : Made) (whole : List Object) (formats : Id → Option Format) (mark : Option (Mark ℕ)) (p : Ptr Operation) (b : Building T A)
    → HoldsMade L start c items whole (ended_under p ∷ []) None b → HoldsMade L start c items (TheOperation p ∷ whole) [] (Some p) ((building {T = T} {A = A} formats).marks mark b)
marks_root L start c items whole formats mark p b h = record {
  so_far = acts.marks_root (noted items L) c whole None formats mark p b h.so_far;
  tracks = ends_root start c items whole None p (ended_under p ∷ []) refl refl h.tracks;
}

-- ---- with the block that is open
module _ {T A : Type 0} (L : ℕ → Location A → Type 0) (start : ContextView T A) (items : Made) (whole : List Object) (root : Option (Ptr Operation)) (formats : Id → Option Format) where
  abbrev builds : Actions T A (Building T A)
  builds = building {T = T} {A = A} formats

  -- a block begins after another, which ends
  pub heads_next : (old new : ContextView T A) (r : Ptr Region) (before : Ptr BasicBlock) (ats : List (OpenAt T A)) (d : Ptr BasicBlock) (head : Head ℕ T A) (b : Building T A)
      → HoldsMade L start old items whole (region_under r (Some before) ∷ ats) root b → BlockCame old new L d head → RegionGains old new r d → ModifiesOnly (TheBlock d ∷ TheRegion r ∷ []) old new
      → HoldsMade L start new ((head.label.place, TheBlock d) ∷ items) (TheBlock before ∷ whole) (region_under r (Some d) ∷ ats) root (builds.heads head b)
  heads_next old new r before ats d head b h came g s =
      subst (λ z. HoldsMade L start new ((head.label.place, TheBlock d) ∷ items) (TheBlock before ∷ whole) (region_under r (Some d) ∷ ats) root (record { unfinished = z; tree = b.tree })) (acts.begins_after_end head b.unfinished)
      (heads_first L start old new items (TheBlock before ∷ whole) root formats r ats d head (record { unfinished = acts.block_ended b.unfinished; tree = b.tree }) (block_ends L start old items whole root r before ats b h) came g s)

  -- a region ends, with the block that is open in it
  pub leaves_with_block : (c : ContextView T A) (iso : Bool) (place : ℕ) (r : Ptr Region) (d : Ptr BasicBlock) (p : Ptr Operation) (own : OwnSoFar T A) (ats : List (OpenAt T A)) (b : Building T A)
      → HoldsMade L start c items whole (region_under r (Some d) ∷ operation_under p own ∷ ats) root b
      → HoldsMade L start c items (TheRegion r ∷ TheBlock d ∷ whole) (operation_under p own ∷ ats) root (builds.leaves iso place b)
  leaves_with_block c iso place r d p own ats b h =
      subst (λ z. HoldsMade L start c items (TheRegion r ∷ TheBlock d ∷ whole) (operation_under p own ∷ ats) root (record { unfinished = z; tree = b.tree })) (acts.ends_after place b.unfinished)
      (leaves_empty L start c items (TheBlock d ∷ whole) root formats iso place r p own ats (record { unfinished = acts.block_ended b.unfinished; tree = b.tree }) (block_ends L start c items whole root r d (operation_under p own ∷ ats) b h))

-- What the context contains after each turn, if the turn creates its object or changes the innermost open one.
use Rattle.std.proofs.Common.{◌≡◌, ◌∙◌, ℕ, Bool, List, [], ◌∷◌, ◌++◌, Option, Some, None, refl, sym, ap, subst, append-nil, inl, inr}
use Rattle.irtext_base.specs.Format.{Format, Id}
use Rattle.irtext_base.specs.declared.location.Location.{Location}
use Rattle.irtext_context.specs.Context.{ContextView, OperationView, operation}
use Rattle.irtext_context.specs.declared.base.item.Item.{Item}
use Rattle.irtext_context.specs.declared.base.item.Item.TheVariants as item
use Rattle.irtext_graph.specs.declared.arena.Ptr.{Ptr}
use Rattle.irtext_graph.specs.declared.object.BasicBlock.{BasicBlock}
use Rattle.irtext_graph.specs.declared.object.Operation.{Operation}
use Rattle.irtext_graph.specs.declared.object.Region.{Region}
use Rattle.irtext_graph.specs.declared.object.Object.{Object}
use Rattle.irtext_graph.specs.declared.object.Object.TheVariants.{TheOperation, TheBlock, TheRegion}
use Rattle.irtext_graph.specs.Chained.{Among}
use Rattle.irtext_grammar.specs.Grammar.Forest as forest
use Rattle.irtext_grammar.specs.Grammar.Forest.{Blocks, no_regions, Operations}
use Rattle.irtext_grammar.specs.Grammar.Tree as tree
use Rattle.irtext_grammar.specs.Grammar.Tree.{Name, Mark, Piece, Part, Op, Head, Brace, shown}
use Rattle.irtext_grammar.specs.Naming.{body_of, unmarked}
use Rattle.irtext_grammar.specs.Building.{Unfinished, operation_so_far, region_so_far, but_its_mark, Building, building, whole_blocks}
use Rattle.irtext_grammar.specs.Grows.{RegionCame, OperationGains, RegionGains, BlockGains, OperationCame, BlockCame, OwnBecame}
use Rattle.irtext_grammar.specs.Unchanged.{OwnSoFar, own_of, OpenAt, operation_under, ended_under, region_under, HasOwn, HasUses, RegionsHold, BlocksHold, RegionIsOpen, AreOpenAt, IsThere, IsAsItWas, ModifiesOnly}
use Rattle.irtext_grammar.specs.Tracks as tracks
use Rattle.irtext_grammar.specs.Tracks.{Made, noted, HoldsMade}
use Rattle.irtext_grammar.proofs.Acts.{block_ended}
use Rattle.irtext_grammar.proofs.Tracked.{uses_in_block, enters_operation, heads_first, heads_next, late_operation, closes_operation, marks_root, marks_in_block, block_ends, leaves_empty, leaves_with_block}
use Rattle.irtext_grammar.proofs.Kept.{region_kept}
use Rattle.irtext_names.specs.Carriers.{noted_as}
use Rattle.irtext_parse_root.specs.Built.{built, IsHeld, RegionTracks, HoldsRegion}
use Rattle.irtext_parse_root.specs.Carried.{marks_in_blocks, marks_so_far, AreCarried}
use Rattle.irtext_parse_root.specs.Here.{Base, within}
use Rattle.irtext_parse_root.proofs.Carrying.{uses_carry, enters_carry, leaves_carry, closes_carry, root_carry, block_carry, alone_carry, heads_carry, carried_still, carried_more, carried_last, carried_new}
use Rattle.irtext_parse_root.specs.Recorded.{Did, did_use, did_late, did_enter, did_leave, did_close, did_mark, did_head}

-- an operation that is open has its own
pub own_there : {T A : Type 0} (L : ℕ → Location A → Type 0) (items : Made) (c : ContextView T A) (w : List Object) (p : Ptr Operation) (own : OwnSoFar T A) (ats : List (OpenAt T A)) (us : List (Unfinished T A))
    → AreOpenAt (noted items L) c w (operation_under p own ∷ ats) us None → (view : OperationView T A) × (operation c p ≡ Some view) × HasOwn L view own × HasUses c p own
own_there L items c w p own ats [] h = absurd h
own_there L items c w p own ats (region_so_far bs last ∷ us) (f, h) = absurd f
own_there L items c w p own ats (but_its_mark o rs ∷ us) (f, h) = absurd f
own_there L items c w p own ats (operation_so_far at id rs ∷ us) ((e, f, k), h) = (k.view, k.is, record { id = k.has.id; types = k.has.types; entries = k.has.entries; location = k.has.location.1 }, record { operands_are = k.uses.operands_are; successors_are = k.uses.successors_are })

module _ {T A : Type 0} (formats : Id → Option Format) (L : ℕ → Location A → Type 0) (base : Base) (start old new : ContextView T A) (items : Made) (marks : List (ℕ × Item)) where
  -- what all that was done built
  abbrev built_of : List (Did T A) → Building T A
  built_of ds = built formats L base start old items ds

  -- an operation begins in a block
  pub begins_in_block : (r : Ptr Region) (k : Ptr BasicBlock) (last : Option (Ptr BasicBlock)) (ats : List (OpenAt T A)) (p : Ptr Operation) (own : OwnSoFar T A) (place : ℕ) (id : Id) (parts : List (Part ℕ T A)) (ds : List (Did T A))
      → last ≡ Some k → own.place ≡ place → own.id ≡ id → OperationCame old new L p own → BlockGains old new k p → ModifiesOnly (TheOperation p ∷ TheBlock k ∷ []) old new
      → IsHeld formats L base start old items marks (region_under r last ∷ ats) None ds
      → IsHeld formats L base start new ((place, TheOperation p) ∷ items) (marks ++ []) (operation_under p own ∷ region_under r last ∷ ats) None (did_use place id parts ∷ ds)
  begins_in_block r k last ats p own place id parts ds e at as_id came gains spares h = record {
    whole = h.whole;
    holds = subst (λ z. HoldsMade L start new ((z, TheOperation p) ∷ items) h.whole (operation_under p own ∷ region_under r last ∷ ats) None ((building formats).uses z id parts (built_of ds))) at
        (subst (λ z. HoldsMade L start new ((own.place, TheOperation p) ∷ items) h.whole (operation_under p own ∷ region_under r last ∷ ats) None ((building formats).uses own.place z parts (built_of ds))) as_id
        (subst (λ z. HoldsMade L start new ((own.place, TheOperation p) ∷ items) h.whole (operation_under p own ∷ region_under r z ∷ ats) None ((building formats).uses own.place own.id parts (built_of ds))) (sym e)
        (uses_in_block L start old new items h.whole None formats r k ats p own parts (built_of ds) (subst (λ z. HoldsMade L start old items h.whole (region_under r z ∷ ats) None (built_of ds)) e h.holds) came gains spares)));
    carried = carried_more items (marks_so_far (built_of ds)) (marks_so_far ((building formats).uses place id parts (built_of ds))) marks (place, TheOperation p) (uses_carry formats (noted items L) old h.whole place id parts (built_of ds)) h.carried;
  }

  -- a region begins
  pub region_enters : (iso : Bool) (r : Ptr Region) (p : Ptr Operation) (own : OwnSoFar T A) (ats : List (OpenAt T A)) (ds : List (Did T A)) → RegionCame old new r → OperationGains old new p r → ModifiesOnly (TheRegion r ∷ TheOperation p ∷ []) old new
      → IsHeld formats L base start old items marks (operation_under p own ∷ ats) None ds → IsHeld formats L base start new items (marks ++ []) (region_under r None ∷ operation_under p own ∷ ats) None (did_enter iso ∷ ds)
  region_enters iso r p own ats ds came gains spares h = record { whole = h.whole; holds = enters_operation L start old new items h.whole None formats iso p own ats r (built_of ds) h.holds came gains spares; carried = carried_still items (marks_so_far (built_of ds)) (marks_so_far ((building formats).enters iso (built_of ds))) marks (enters_carry formats (noted items L) old h.whole iso (built_of ds)) h.carried }

  -- a piece after a region
  pub piece_comes : (place : ℕ) (id : Id) (piece : Piece ℕ T A) (p : Ptr Operation) (own next : OwnSoFar T A) (ats : List (OpenAt T A)) (ds : List (Did T A)) → next.place ≡ own.place → next.id ≡ own.id
      → ((view : OperationView T A) → operation old p ≡ Some view → HasOwn L view own → HasUses old p own → OwnBecame old new L p next) → ModifiesOnly (TheOperation p ∷ []) old new
      → IsHeld formats L base start old items marks (operation_under p own ∷ ats) None ds → IsHeld formats L base start new items (marks ++ []) (operation_under p next ∷ ats) None (did_late place id piece ∷ ds)
  piece_comes place id piece p own next ats ds at as_id became spares h =
      let v = own_there L items old h.whole p own ats (built_of ds).unfinished h.holds.so_far.are_open in
      record { whole = h.whole; holds = late_operation L start old new items h.whole None formats place id piece p own next ats (built_of ds) h.holds (became v.0 v.1 v.2 v.3) at as_id spares; carried = carried_still items (marks_so_far (built_of ds)) (marks_so_far (built_of ds)) marks refl h.carried }

  -- an operation ends, up to its mark
  closes : (place : ℕ) (names : List (Name ℕ)) (id : Id) (parts : List (Part ℕ T A)) (p : Ptr Operation) (own next : OwnSoFar T A) (ats : List (OpenAt T A)) (ds : List (Did T A)) → next.place ≡ own.place → next.id ≡ own.id
      → next.place ≡ place → next.id ≡ id → own_of (unmarked place names id (body_of (formats id) parts)) ≡ next
      → ((view : OperationView T A) → operation old p ≡ Some view → HasOwn L view own → HasUses old p own → OwnBecame old new L p next) → ModifiesOnly (TheOperation p ∷ []) old new
      → (h : IsHeld formats L base start old items marks (operation_under p own ∷ ats) None ds) → HoldsMade L start new items h.whole (ended_under p ∷ ats) None ((building formats).closes place names id parts (built_of ds))
  closes place names id parts p own next ats ds at as_id here with_id is became spares h =
      let v = own_there L items old h.whole p own ats (built_of ds).unfinished h.holds.so_far.are_open in
      subst (λ z. HoldsMade L start new items h.whole (ended_under p ∷ ats) None ((building formats).closes z names id parts (built_of ds))) here
      (subst (λ z. HoldsMade L start new items h.whole (ended_under p ∷ ats) None ((building formats).closes next.place names z parts (built_of ds))) with_id
      (closes_operation L start new items h.whole None formats names parts p next ats (built_of ds)
      (sym is ∙ (ap (λ z. own_of (unmarked z names id (body_of (formats id) parts))) (sym here) ∙ ap (λ z. own_of (unmarked next.place names z (body_of (formats z) parts))) (sym with_id)))
      (late_operation L start old new items h.whole None formats place id (tree.word []) p own next ats (built_of ds) h.holds (became v.0 v.1 v.2 v.3) at as_id spares)))

  module _ (place : ℕ) (names : List (Name ℕ)) (id : Id) (parts : List (Part ℕ T A)) (mark : Option (Mark ℕ)) (p : Ptr Operation) (own next : OwnSoFar T A) (ds : List (Did T A)) (at : next.place ≡ own.place) (as_id : next.id ≡ own.id)
      (here : next.place ≡ place) (with_id : next.id ≡ id) (is : own_of (unmarked place names id (body_of (formats id) parts)) ≡ next)
      (became : (view : OperationView T A) → operation old p ≡ Some view → HasOwn L view own → HasUses old p own → OwnBecame old new L p next) (spares : ModifiesOnly (TheOperation p ∷ []) old new) where
    -- an operation ends that is outside of every region
    pub root_ends : IsHeld formats L base start old items marks (operation_under p own ∷ []) None ds → IsHeld formats L base start new items (marks ++ noted_as mark (item.Operation p)) [] (Some p) (did_mark mark ∷ did_close place names id parts ∷ ds)
    root_ends h =
        let then = (building formats).closes place names id parts (built_of ds) in
        let closed = closes place names id parts p own next [] ds at as_id here with_id is became spares h in
        let marked = root_carry formats (noted items L) new h.whole mark p then closed.so_far.are_open closed.so_far.tree in
        record {
          whole = TheOperation p ∷ h.whole;
          holds = marks_root L start new items h.whole formats mark p then closed;
          carried = carried_last items (marks_so_far (built_of ds)) (marks_so_far ((building formats).marks mark then)) marks mark marked.0 (item.Operation p)
              (marked.3 ∙ ap (λ z. z ++ noted_as mark marked.0) (closes_carry formats (noted items L) old h.whole place names id parts p own [] (built_of ds) h.holds.so_far.are_open)) marked.2.0 h.carried;
        }

    -- one ends in a block
    pub ends_in_block : (r : Ptr Region) (k : Ptr BasicBlock) (last : Option (Ptr BasicBlock)) (ats : List (OpenAt T A)) → last ≡ Some k
        → IsHeld formats L base start old items marks (operation_under p own ∷ region_under r last ∷ ats) None ds → IsHeld formats L base start new items (marks ++ noted_as mark (item.Operation p)) (region_under r last ∷ ats) None (did_mark mark ∷ did_close place names id parts ∷ ds)
    ends_in_block r k last ats e h =
        let then = (building formats).closes place names id parts (built_of ds) in
        let closed = closes place names id parts p own next (region_under r last ∷ ats) ds at as_id here with_id is became spares h in
        let in_it = subst (λ z. HoldsMade L start new items h.whole (ended_under p ∷ region_under r z ∷ ats) None then) e closed in
        let marked = block_carry formats (noted items L) new h.whole mark p r k ats then in_it.so_far.are_open in
        record {
          whole = TheOperation p ∷ h.whole;
          holds = subst (λ z. HoldsMade L start new items (TheOperation p ∷ h.whole) (region_under r z ∷ ats) None ((building formats).marks mark then)) (sym e) (marks_in_block L start new items h.whole None formats mark p r k ats then in_it);
          carried = carried_last items (marks_so_far (built_of ds)) (marks_so_far ((building formats).marks mark then)) marks mark marked.0 (item.Operation p)
              (marked.3 ∙ ap (λ z. z ++ noted_as mark marked.0) (closes_carry formats (noted items L) old h.whole place names id parts p own (region_under r last ∷ ats) (built_of ds) h.holds.so_far.are_open)) marked.2.0 h.carried;
        }

  -- its mark
  head_carried : (r : Ptr Region) (k : Ptr BasicBlock) (head : Head ℕ T A) (last : Option (Ptr BasicBlock)) (ats : List (OpenAt T A)) (ds : List (Did T A)) → IsHeld formats L base start old items marks (region_under r last ∷ ats) None ds
      → AreCarried ((head.label.place, TheBlock k) ∷ items) (marks_so_far ((building formats).heads head (built_of ds))) (marks ++ noted_as head.mark (item.Block k))
  head_carried r k head last ats ds h = carried_new items (marks_so_far (built_of ds)) (marks_so_far ((building formats).heads head (built_of ds))) marks head.mark head.label.place (item.Block k)
      (heads_carry formats (noted items L) old h.whole head r last ats (built_of ds) h.holds.so_far.are_open) h.carried

  -- a block begins, the first of its region or after another
  pub block_comes : (r : Ptr Region) (k : Ptr BasicBlock) (head : Head ℕ T A) (last : Option (Ptr BasicBlock)) (ats : List (OpenAt T A)) (ds : List (Did T A)) → BlockCame old new L k head → RegionGains old new r k
      → ModifiesOnly (TheBlock k ∷ TheRegion r ∷ []) old new
      → IsHeld formats L base start old items marks (region_under r last ∷ ats) None ds → IsHeld formats L base start new ((head.label.place, TheBlock k) ∷ items) (marks ++ noted_as head.mark (item.Block k)) (region_under r (Some k) ∷ ats) None (did_head head ∷ ds)
  block_comes r k head None ats ds came gains spares h =
      record { whole = h.whole; holds = heads_first L start old new items h.whole None formats r ats k head (built_of ds) h.holds came gains spares; carried = head_carried r k head None ats ds h }
  block_comes r k head (Some before) ats ds came gains spares h =
      record { whole = TheBlock before ∷ h.whole; holds = heads_next L start items h.whole None formats old new r before ats k head (built_of ds) h.holds came gains spares; carried = head_carried r k head (Some before) ats ds h }

module _ {T A : Type 0} (formats : Id → Option Format) (L : ℕ → Location A → Type 0) (base : Base) (start c : ContextView T A) (items : Made) (marks : List (ℕ × Item)) where
  -- the marks are those that were
  leave_carried : (iso : Bool) (place : ℕ) (r : Ptr Region) (last : Option (Ptr BasicBlock)) (p : Ptr Operation) (own : OwnSoFar T A) (ats : List (OpenAt T A)) (ds : List (Did T A))
      → IsHeld formats L base start c items marks (region_under r last ∷ operation_under p own ∷ ats) None ds → AreCarried items (marks_so_far ((building formats).leaves iso place (built formats L base start c items ds))) (marks ++ [])
  leave_carried iso place r last p own ats ds h = carried_still items (marks_so_far (built formats L base start c items ds)) (marks_so_far ((building formats).leaves iso place (built formats L base start c items ds))) marks
      (leaves_carry formats (noted items L) c h.whole iso place r last p own ats (built formats L base start c items ds) h.holds.so_far.are_open) h.carried

  -- a region is left, in an operation
  pub region_leaves : (iso : Bool) (place : ℕ) (r : Ptr Region) (last : Option (Ptr BasicBlock)) (p : Ptr Operation) (own : OwnSoFar T A) (ats : List (OpenAt T A)) (ds : List (Did T A))
      → IsHeld formats L base start c items marks (region_under r last ∷ operation_under p own ∷ ats) None ds → IsHeld formats L base start c items (marks ++ []) (operation_under p own ∷ ats) None (did_leave iso place ∷ ds)
  region_leaves iso place r None p own ats ds h =
      record { whole = TheRegion r ∷ h.whole; holds = leaves_empty L start c items h.whole None formats iso place r p own ats (built formats L base start c items ds) h.holds; carried = leave_carried iso place r None p own ats ds h }
  region_leaves iso place r (Some k) p own ats ds h =
      record { whole = TheRegion r ∷ TheBlock k ∷ h.whole; holds = leaves_with_block L start items h.whole None formats c iso place r k p own ats (built formats L base start c items ds) h.holds; carried = leave_carried iso place r (Some k) p own ats ds h }

-- ---- the region that is parsed
module _ {T A : Type 0} (L : Object → ℕ → Location A → Type 0) (c : ContextView T A) where
  same_still : (o : Object) → IsAsItWas c c o
  same_still (TheOperation p) = (refl, record { as_many_operands = refl; as_many_successors = refl })
  same_still (TheBlock b) = (refl, refl)
  same_still (TheRegion r) = refl

  -- a region is open alone, and no block in it
  region_alone_open : (w : List Object) (r : Ptr Region) (us : List (Unfinished T A)) → AreOpenAt L c w (region_under r None ∷ []) us None
      → (bs : Blocks (Op ℕ T A) (Head ℕ T A) (Brace ℕ)) × (us ≡ region_so_far bs None ∷ []) × RegionIsOpen L c w r bs []
  region_alone_open w r [] h = absurd h
  region_alone_open w r (region_so_far bs (Some last) ∷ us) (f, h) = absurd f
  region_alone_open w r (operation_so_far at id rs ∷ us) (f, h) = absurd f
  region_alone_open w r (but_its_mark o rs ∷ us) (f, h) = absurd f
  region_alone_open w r (region_so_far bs None ∷ u ∷ us) (f, h) = absurd h
  region_alone_open w r (region_so_far bs None ∷ []) ((e, k), h) = (bs, refl, record { view = k.view; is = k.is; done = k.done; blocks = k.blocks; hold = k.hold })

  -- it is whole then
  region_held : (w : List Object) (r : Ptr Region) (place : ℕ) (bs : Blocks (Op ℕ T A) (Head ℕ T A) (Brace ℕ)) → RegionIsOpen L c w r bs [] → RegionsHold L c (TheRegion r ∷ w) (r ∷ []) (forest.region (shown place) bs no_regions)
  region_held w r place bs h =
      let k = region_kept L c c w (TheRegion r ∷ w) (λ o i. inr i) (λ o i. same_still o) r bs [] refl h in
      (inl refl, (k.view, k.is, subst (λ z. BlocksHold L c (TheRegion r ∷ w) z bs) (sym (k.blocks ∙ append-nil k.done)) k.hold), tt)

  -- and with a block in it
  last_ended : (w : List Object) (r : Ptr Region) (k : Ptr BasicBlock) (us : List (Unfinished T A)) → AreOpenAt L c w (region_under r (Some k) ∷ []) us None
      → (bs : Blocks (Op ℕ T A) (Head ℕ T A) (Brace ℕ)) × (last : Head ℕ T A × Operations (Op ℕ T A) (Head ℕ T A) (Brace ℕ)) × (us ≡ region_so_far bs (Some last) ∷ [])
  last_ended w r k [] h = absurd h
  last_ended w r k (region_so_far bs None ∷ us) (f, h) = absurd f
  last_ended w r k (operation_so_far at id rs ∷ us) (f, h) = absurd f
  last_ended w r k (but_its_mark o rs ∷ us) (f, h) = absurd f
  last_ended w r k (region_so_far bs (Some last) ∷ u ∷ us) (f, h) = absurd h
  last_ended w r k (region_so_far bs (Some last) ∷ []) (f, h) = (bs, last, refl)

  -- the first of a list of one
  first_region : (bs cs : Blocks (Op ℕ T A) (Head ℕ T A) (Brace ℕ)) (us : List (Unfinished T A)) → us ≡ region_so_far cs None ∷ [] → region_so_far bs None ∷ [] ≡ us → cs ≡ bs
  first_region bs cs us e f = let g : region_so_far bs None ∷ [] ≡ region_so_far cs None ∷ [] = f ∙ e in cc

-- if the region is the only open frame, the objects that are complete, with the region, are all that were created
module _ {T A : Type 0} (start c : ContextView T A) (items : Made) (w : List Object) (r : Ptr Region) where
  held_whole : (o : Object) → tracks.IsHeld {T = T} {A = A} w (region_under r None ∷ []) o → Among o (TheRegion r ∷ w)
  held_whole o (inl i) = inr i
  held_whole o (inr (inl e)) = inl e
  held_whole o (inr (inr none)) = absurd none

  whole_held : (o : Object) → Among o (TheRegion r ∷ w) → tracks.IsHeld {T = T} {A = A} w (region_under r None ∷ []) o
  whole_held o (inl e) = inr (inl e)
  whole_held o (inr i) = inl i

  region_tracks : tracks.Tracks start c items w (region_under r None ∷ []) None → RegionTracks start c items (TheRegion r ∷ w) r
  region_tracks t = record {
    known = λ n o i. held_whole o (t.known n o i);
    once = t.once;
    all = λ o there. elim (t.all o there) [ inl was ↦ inl was | inr h ↦ inr (held_whole o h) ];
    came = λ o i there. t.came o (whole_held o i) there;
    stays = t.stays;
    inside = λ o i. elim i [
      | inl e ↦ inl e
      | inr j ↦ elim (t.inside o j) [ inl none ↦ absurd (cc none) | inr (k, held, child) ↦ inr (k, held_whole k held, child) ]
    ];
  }

  region_there : ((o : Object) → Among o w → IsThere c o) → ((o : Object) → Among o (TheRegion r ∷ []) → IsThere c o) → (o : Object) → Among o (TheRegion r ∷ w) → IsThere c o
  region_there whole above o (inl e) = above o (inl e)
  region_there whole above o (inr i) = whole o i

module _ {T A : Type 0} (formats : Id → Option Format) (L : ℕ → Location A → Type 0) (start c : ContextView T A) (items : Made) (marks : List (ℕ × Item)) (r : Ptr Region) where
  -- the marks are those of its blocks
  alone_carried : (last : Option (Ptr BasicBlock)) (ds : List (Did T A)) (bs : Blocks (Op ℕ T A) (Head ℕ T A) (Brace ℕ)) (l : Option (Head ℕ T A × Operations (Op ℕ T A) (Head ℕ T A) (Brace ℕ)))
      → (built formats L (within r) start c items ds).unfinished ≡ region_so_far bs l ∷ [] → IsHeld formats L (within r) start c items marks (region_under r last ∷ []) None ds → AreCarried items (marks_in_blocks (whole_blocks bs l)) (marks ++ [])
  alone_carried last ds bs l e h = carried_still items (marks_so_far (built formats L (within r) start c items ds)) (marks_in_blocks (whole_blocks bs l)) marks
      (alone_carry formats (noted items L) c h.whole bs l (built formats L (within r) start c items ds) e h.holds.so_far.tree) h.carried

  -- the region that is parsed is left
  pub region_alone : (iso : Bool) (place : ℕ) (last : Option (Ptr BasicBlock)) (ds : List (Did T A)) → IsHeld formats L (within r) start c items marks (region_under r last ∷ []) None ds
      → HoldsRegion formats L (within r) start c items (marks ++ []) r (did_leave iso place ∷ ds)
  region_alone iso place None ds h =
      let k = region_alone_open (noted items L) c h.whole r (built formats L (within r) start c items ds).unfinished h.holds.so_far.are_open in
      record { iso = iso; place = place; before = ds; is = refl; blocks = k.0; last = None; built_before = k.1; whole = TheRegion r ∷ h.whole; holds = region_held (noted items L) c h.whole r place k.0 k.2; there = region_there start c items h.whole r h.holds.so_far.whole_there h.holds.so_far.open_there; tracks = region_tracks start c items h.whole r h.holds.tracks; carried = alone_carried None ds k.0 None k.1 h }
  region_alone iso place (Some b) ds h =
      let now = built formats L (within r) start c items ds in
      let e = last_ended (noted items L) c h.whole r b now.unfinished h.holds.so_far.are_open in
      let m = block_ends L start c items h.whole None r b [] now h.holds in
      let k = region_alone_open (noted items L) c (TheBlock b ∷ h.whole) r (block_ended now.unfinished) m.so_far.are_open in
      let same : k.0 ≡ whole_blocks e.0 (Some e.1) = first_region (noted items L) c (whole_blocks e.0 (Some e.1)) k.0 (block_ended now.unfinished) k.1 (sym (ap block_ended e.2)) in
      record {
        iso = iso;
        place = place;
        before = ds;
        is = refl;
        blocks = e.0;
        last = Some e.1;
        built_before = e.2;
        whole = TheRegion r ∷ TheBlock b ∷ h.whole;
        there = region_there start c items (TheBlock b ∷ h.whole) r m.so_far.whole_there m.so_far.open_there;
        tracks = region_tracks start c items (TheBlock b ∷ h.whole) r m.tracks;
        carried = alone_carried (Some b) ds e.0 (Some e.1) e.2 h;
        holds = subst (λ z. RegionsHold (noted items L) c (TheRegion r ∷ TheBlock b ∷ h.whole) (r ∷ []) (forest.region (shown place) z no_regions)) same (region_held (noted items L) c (TheBlock b ∷ h.whole) r place k.0 k.2);
      }

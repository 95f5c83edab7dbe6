-- The marks of what was parsed after each completed item, the items that carry them, and that there is one object at each place.
use Rattle.std.proofs.Common.{◌≡◌, ◌∙◌, ◌≤◌, ◌<◌, ℕ, Bool, List, [], ◌∷◌, ◌++◌, map, Option, Some, None, refl, sym, ap, subst, append-nil, append_assoc, arith, inl, inr}
use Rattle.irtext_base.specs.Format.{Format, Id}
use Rattle.irtext_base.specs.declared.location.Location.{Location}
use Rattle.irtext_context.specs.Context.{ContextView}
use Rattle.irtext_context.specs.declared.base.item.Item.{Item}
use Rattle.irtext_graph.specs.declared.arena.Ptr.{Ptr}
use Rattle.irtext_graph.specs.declared.object.BasicBlock.{BasicBlock}
use Rattle.irtext_graph.specs.declared.object.Operation.{Operation}
use Rattle.irtext_graph.specs.declared.object.Region.{Region}
use Rattle.irtext_graph.specs.declared.object.Object.{Object}
use Rattle.irtext_graph.specs.declared.object.Object.TheVariants.{TheOperation}
use Rattle.irtext_graph.specs.Chained.{Among}
use Rattle.irtext_grammar.specs.Grammar.Forest.{Regions, no_regions, region, Blocks, no_blocks, block, Operations, no_operations, operation}
use Rattle.irtext_grammar.specs.Grammar.Tree.{Name, Mark, Part, Op, Head, Brace, shown, Tree}
use Rattle.irtext_grammar.specs.Names.Resolves as resolves
use Rattle.irtext_grammar.specs.Names.Acts.{marked_as}
use Rattle.irtext_grammar.specs.Names.Resolves.{all_in_regions, all_in_blocks, all_in_operations, everywhere}
use Rattle.irtext_grammar.specs.Naming.{body_of, unmarked}
use Rattle.irtext_grammar.specs.Building.{append_regions, append_blocks, append_operations, Unfinished, operation_so_far, region_so_far, but_its_mark, Building, building, whole_blocks, block_begun, region_ended, operation_closed, operation_marked, with_mark}
use Rattle.irtext_grammar.specs.Unchanged.{OwnSoFar, OpenAt, operation_under, ended_under, region_under, IsOpenAt, AreOpenAt, TreeHolds, as_inner}
use Rattle.irtext_grammar.specs.Tracks.{Made}
use Rattle.irtext_names.specs.Carriers.{noted_as}
use Rattle.irtext_parse_root.specs.Carried.{marks_in_regions, marks_in_blocks, marks_in_operations, marks_in, marks_open, marks_whole, marks_so_far, object_of, AreCarried, Falls}

-- ---- the marks of parts that follow one another
module _ {T A : Type 0} where
  regions_appended : (rs more : Regions (Op ℕ T A) (Head ℕ T A) (Brace ℕ)) → marks_in_regions (append_regions rs more) ≡ marks_in_regions rs ++ marks_in_regions more
  regions_appended no_regions more = refl
  regions_appended (region brace bs rs) more = ap (λ z. marks_in_blocks bs ++ z) (regions_appended rs more) ∙ sym (append_assoc (marks_in_blocks bs) (marks_in_regions rs) (marks_in_regions more))

  blocks_appended : (bs more : Blocks (Op ℕ T A) (Head ℕ T A) (Brace ℕ)) → marks_in_blocks (append_blocks bs more) ≡ marks_in_blocks bs ++ marks_in_blocks more
  blocks_appended no_blocks more = refl
  blocks_appended (block h os bs) more = ap (λ z. noted_as h.mark h.label.place ++ (marks_in_operations os ++ z)) (blocks_appended bs more) ∙ simp append_assoc

  operations_appended : (os more : Operations (Op ℕ T A) (Head ℕ T A) (Brace ℕ)) → marks_in_operations (append_operations os more) ≡ marks_in_operations os ++ marks_in_operations more
  operations_appended no_operations more = refl
  operations_appended (operation o rs os) more = ap (λ z. (marks_in_regions rs ++ noted_as o.mark o.place) ++ z) (operations_appended os more) ∙ simp append_assoc

-- ---- what is done

module _ {T A : Type 0} where
  -- a region has begun, or an operation, and nothing in it
  pub empty_inside : (us : List (Unfinished T A)) → marks_open us ++ [] ≡ marks_open us
  empty_inside us = append-nil (marks_open us)

  -- a block begins
  pub head_marks : (h : Head ℕ T A) (bs : Blocks (Op ℕ T A) (Head ℕ T A) (Brace ℕ)) (last : Option (Head ℕ T A × Operations (Op ℕ T A) (Head ℕ T A) (Brace ℕ))) (us : List (Unfinished T A))
      → marks_open (block_begun h (region_so_far bs last ∷ us)) ≡ marks_open (region_so_far bs last ∷ us) ++ noted_as h.mark h.label.place
  head_marks h bs last us =
      ap (λ z. marks_open us ++ z) (blocks_appended (whole_blocks bs last) (block h no_operations no_blocks)) ∙ simp (append_assoc, append-nil)

  -- a region ends in an operation
  pub region_marks : (place at : ℕ) (id : Id) (rs : Regions (Op ℕ T A) (Head ℕ T A) (Brace ℕ)) (bs : Blocks (Op ℕ T A) (Head ℕ T A) (Brace ℕ)) (last : Option (Head ℕ T A × Operations (Op ℕ T A) (Head ℕ T A) (Brace ℕ))) (us : List (Unfinished T A))
      → marks_open (region_ended place (region_so_far bs last ∷ operation_so_far at id rs ∷ us)) ≡ marks_open (region_so_far bs last ∷ operation_so_far at id rs ∷ us)
  region_marks place at id rs bs last us =
      ap (λ z. marks_open us ++ z) (regions_appended rs (region (shown place) (whole_blocks bs last) no_regions)) ∙ simp (append_assoc, append-nil)

  -- an operation ends that is outside of every region
  pub root_marks : (mark : Option (Mark ℕ)) (o : Op ℕ T A) (rs : Regions (Op ℕ T A) (Head ℕ T A) (Brace ℕ)) → marks_so_far (operation_marked mark (but_its_mark o rs ∷ []) None) ≡ marks_open (but_its_mark o rs ∷ []) ++ noted_as mark o.place
  root_marks mark o rs = append-nil (marks_in_regions rs ++ noted_as mark o.place)

  -- one ends in a block
  pub operation_marks : (mark : Option (Mark ℕ)) (o : Op ℕ T A) (rs : Regions (Op ℕ T A) (Head ℕ T A) (Brace ℕ)) (bs : Blocks (Op ℕ T A) (Head ℕ T A) (Brace ℕ)) (last : Head ℕ T A × Operations (Op ℕ T A) (Head ℕ T A) (Brace ℕ)) (us : List (Unfinished T A)) (t : Option (Tree ℕ T A))
      → marks_so_far (operation_marked mark (but_its_mark o rs ∷ region_so_far bs (Some last) ∷ us) t) ≡ marks_so_far (record { unfinished = but_its_mark o rs ∷ region_so_far bs (Some last) ∷ us; tree = t }) ++ noted_as mark o.place
  operation_marks mark o rs bs last us t =
      let one = operation (with_mark mark o) rs no_operations in
      let a = blocks_appended bs (block last.0 (append_operations last.1 one) no_blocks) in
      let b = operations_appended last.1 one in
      let c = blocks_appended bs (block last.0 last.1 no_blocks) in
      let first : marks_so_far (operation_marked mark (but_its_mark o rs ∷ region_so_far bs (Some last) ∷ us) t)
      ≡ marks_whole t ++ (marks_open us ++ (marks_in_blocks bs ++ (noted_as last.0.mark last.0.label.place ++ ((marks_in_operations last.1 ++ ((marks_in_regions rs ++ noted_as mark o.place) ++ [])) ++ [])))) =
      ap (λ z. marks_whole t ++ (marks_open us ++ z)) a ∙ ap (λ z. marks_whole t ++ (marks_open us ++ (marks_in_blocks bs ++ (noted_as last.0.mark last.0.label.place ++ (z ++ []))))) b in
      let then : marks_so_far (record { unfinished = but_its_mark o rs ∷ region_so_far bs (Some last) ∷ us; tree = t })
      ≡ marks_whole t ++ ((marks_open us ++ (marks_in_blocks bs ++ (noted_as last.0.mark last.0.label.place ++ (marks_in_operations last.1 ++ [])))) ++ marks_in_regions rs) =
      ap (λ z. marks_whole t ++ ((marks_open us ++ z) ++ marks_in_regions rs)) c in
      first ∙ ((simp (append_assoc, append-nil)) ∙ ap (λ z. z ++ noted_as mark o.place) (sym then))

-- ---- the open frames
module _ {T A : Type 0} (I : Object → ℕ → Location A → Type 0) (c : ContextView T A) (w : List Object) where
  -- a region is open
  pub region_is_open : (r : Ptr Region) (last : Option (Ptr BasicBlock)) (u : Unfinished T A) (inner : Option Object) → IsOpenAt I c w (region_under r last) u inner
      → (bs : Blocks (Op ℕ T A) (Head ℕ T A) (Brace ℕ)) × (l : Option (Head ℕ T A × Operations (Op ℕ T A) (Head ℕ T A) (Brace ℕ))) × (u ≡ region_so_far bs l)
  region_is_open r last (region_so_far bs l) inner h = (bs, l, refl)
  region_is_open r None (operation_so_far at id rs) inner h = absurd h
  region_is_open r (Some b) (operation_so_far at id rs) inner h = absurd h
  region_is_open r None (but_its_mark o rs) inner h = absurd h
  region_is_open r (Some b) (but_its_mark o rs) inner h = absurd h

  -- and a block in it
  pub block_is_open : (r : Ptr Region) (b : Ptr BasicBlock) (u : Unfinished T A) (inner : Option Object) → IsOpenAt I c w (region_under r (Some b)) u inner
      → (bs : Blocks (Op ℕ T A) (Head ℕ T A) (Brace ℕ)) × (l : Head ℕ T A × Operations (Op ℕ T A) (Head ℕ T A) (Brace ℕ)) × (u ≡ region_so_far bs (Some l))
  block_is_open r b (region_so_far bs (Some l)) inner h = (bs, l, refl)
  block_is_open r b (region_so_far bs None) inner h = absurd h
  block_is_open r b (operation_so_far at id rs) inner h = absurd h
  block_is_open r b (but_its_mark o rs) inner h = absurd h

  -- an operation is open
  pub operation_is_open : (p : Ptr Operation) (own : OwnSoFar T A) (u : Unfinished T A) (inner : Option Object) → IsOpenAt I c w (operation_under p own) u inner
      → (at : ℕ) × (id : Id) × (rs : Regions (Op ℕ T A) (Head ℕ T A) (Brace ℕ)) × (u ≡ operation_so_far at id rs)
  operation_is_open p own (operation_so_far at id rs) inner h = (at, id, rs, refl)
  operation_is_open p own (region_so_far bs last) inner h = absurd h
  operation_is_open p own (but_its_mark o rs) inner h = absurd h

  -- one is whole but for its mark
  pub ended_is_open : (p : Ptr Operation) (u : Unfinished T A) (inner : Option Object) → IsOpenAt I c w (ended_under p) u inner
      → (o : Op ℕ T A) × (rs : Regions (Op ℕ T A) (Head ℕ T A) (Brace ℕ)) × (l : Location A) × (u ≡ but_its_mark o rs) × I (TheOperation p) o.place l
  ended_is_open p (but_its_mark o rs) inner h = (o, rs, h.1.view.loc, refl, h.1.has.location)
  ended_is_open p (operation_so_far at id rs) inner h = absurd h
  ended_is_open p (region_so_far bs last) inner h = absurd h

  -- a frame is open, and others around it
  pub first_open : (at : OpenAt T A) (ats : List (OpenAt T A)) (us : List (Unfinished T A)) (inner : Option Object) → AreOpenAt I c w (at ∷ ats) us inner
      → (u : Unfinished T A) × (more : List (Unfinished T A)) × (us ≡ u ∷ more) × IsOpenAt I c w at u inner × AreOpenAt I c w ats more (as_inner at)
  first_open at ats [] inner h = absurd h
  first_open at ats (u ∷ more) inner h = (u, more, refl, h.0, h.1)

  -- no tree is whole
  pub none_whole : (t : Option (Tree ℕ T A)) → TreeHolds I c w None t → t ≡ None
  none_whole None h = refl
  none_whole (Some t) h = absurd h

  -- nothing is open
  pub none_open : (us : List (Unfinished T A)) (inner : Option Object) → AreOpenAt I c w [] us inner → us ≡ []
  none_open [] inner h = refl
  none_open (u ∷ us) inner h = absurd h

-- ---- what is done where this is open
module _ {T A : Type 0} (formats : Id → Option Format) (I : Object → ℕ → Location A → Type 0) (c : ContextView T A) (w : List Object) where
  -- an operation begins
  pub uses_carry : (place : ℕ) (id : Id) (parts : List (Part ℕ T A)) (b : Building T A) → marks_so_far ((building formats).uses place id parts b) ≡ marks_so_far b
  uses_carry place id parts b = ap (λ z. marks_whole b.tree ++ z) (empty_inside b.unfinished)

  -- a region begins
  pub enters_carry : (iso : Bool) (b : Building T A) → marks_so_far ((building {T = T} {A = A} formats).enters iso b) ≡ marks_so_far b
  enters_carry iso b = ap (λ z. marks_whole b.tree ++ z) (empty_inside b.unfinished)

  -- a region ends in an operation
  pub leaves_carry : (iso : Bool) (place : ℕ) (r : Ptr Region) (last : Option (Ptr BasicBlock)) (p : Ptr Operation) (own : OwnSoFar T A) (ats : List (OpenAt T A)) (b : Building T A)
      → AreOpenAt I c w (region_under r last ∷ operation_under p own ∷ ats) b.unfinished None → marks_so_far ((building formats).leaves iso place b) ≡ marks_so_far b
  leaves_carry iso place r last p own ats b h =
      let f = first_open I c w (region_under r last) (operation_under p own ∷ ats) b.unfinished None h in
      let g = region_is_open I c w r last f.0 None f.3 in
      let k = first_open I c w (operation_under p own) ats f.1 _ f.4 in
      let o = operation_is_open I c w p own k.0 _ k.3 in
      let e : b.unfinished ≡ region_so_far g.0 g.1 ∷ operation_so_far o.0 o.1 o.2 ∷ k.1 = f.2 ∙ (ap (λ z. z ∷ f.1) g.2 ∙ ap (λ z. region_so_far g.0 g.1 ∷ z) (k.2 ∙ ap (λ z. z ∷ k.1) o.3)) in
      ap (λ z. marks_whole b.tree ++ z) (subst (λ us. marks_open (region_ended place us) ≡ marks_open us) (sym e) (region_marks place o.0 o.1 o.2 g.0 g.1 k.1))

  -- an operation ends, up to its mark
  pub closes_carry : (place : ℕ) (names : List (Name ℕ)) (id : Id) (parts : List (Part ℕ T A)) (p : Ptr Operation) (own : OwnSoFar T A) (ats : List (OpenAt T A)) (b : Building T A)
      → AreOpenAt I c w (operation_under p own ∷ ats) b.unfinished None → marks_so_far ((building formats).closes place names id parts b) ≡ marks_so_far b
  closes_carry place names id parts p own ats b h =
      let f = first_open I c w (operation_under p own) ats b.unfinished None h in
      let g = operation_is_open I c w p own f.0 None f.3 in
      let e : b.unfinished ≡ operation_so_far g.0 g.1 g.2 ∷ f.1 = f.2 ∙ ap (λ z. z ∷ f.1) g.3 in
      ap (λ z. marks_whole b.tree ++ z) (subst (λ us. marks_open (operation_closed (unmarked place names id (body_of (formats id) parts)) us) ≡ marks_open us) (sym e) refl)

  -- its mark, outside of each region
  pub root_carry : (mark : Option (Mark ℕ)) (p : Ptr Operation) (b : Building T A) → AreOpenAt I c w (ended_under p ∷ []) b.unfinished None → TreeHolds I c w None b.tree
      → (place : ℕ) × (l : Location A) × I (TheOperation p) place l × (marks_so_far ((building formats).marks mark b) ≡ marks_so_far b ++ noted_as mark place)
  root_carry mark p b h t =
      let f = first_open I c w (ended_under p) [] b.unfinished None h in
      let g = ended_is_open I c w p f.0 None f.3 in
      let none = none_open I c w f.1 _ f.4 in
      let e : b.unfinished ≡ but_its_mark g.0 g.1 ∷ [] = f.2 ∙ (ap (λ z. z ∷ f.1) g.3 ∙ ap (λ z. but_its_mark g.0 g.1 ∷ z) none) in (
        g.0.place,
        g.2,
        g.4,
        subst (λ us. marks_so_far (operation_marked mark us b.tree) ≡ (marks_whole b.tree ++ marks_open us) ++ noted_as mark g.0.place) (sym e)
            (subst (λ x. marks_so_far (operation_marked mark (but_its_mark g.0 g.1 ∷ []) x) ≡ (marks_whole x ++ marks_open (but_its_mark g.0 g.1 ∷ [])) ++ noted_as mark g.0.place) (sym (none_whole I c w b.tree t)) (root_marks mark g.0 g.1)),
      )

  -- and in a block
  pub block_carry : (mark : Option (Mark ℕ)) (p : Ptr Operation) (r : Ptr Region) (k : Ptr BasicBlock) (ats : List (OpenAt T A)) (b : Building T A) → AreOpenAt I c w (ended_under p ∷ region_under r (Some k) ∷ ats) b.unfinished None
      → (place : ℕ) × (l : Location A) × I (TheOperation p) place l × (marks_so_far ((building formats).marks mark b) ≡ marks_so_far b ++ noted_as mark place)
  block_carry mark p r k ats b h =
      let f = first_open I c w (ended_under p) (region_under r (Some k) ∷ ats) b.unfinished None h in
      let g = ended_is_open I c w p f.0 None f.3 in
      let m = first_open I c w (region_under r (Some k)) ats f.1 _ f.4 in
      let n = block_is_open I c w r k m.0 _ m.3 in
      let e : b.unfinished ≡ but_its_mark g.0 g.1 ∷ region_so_far n.0 (Some n.1) ∷ m.1 = f.2 ∙ (ap (λ z. z ∷ f.1) g.3 ∙ ap (λ z. but_its_mark g.0 g.1 ∷ z) (m.2 ∙ ap (λ z. z ∷ m.1) n.2)) in (
        g.0.place,
        g.2,
        g.4,
        subst (λ us. marks_so_far (operation_marked mark us b.tree) ≡ (marks_whole b.tree ++ marks_open us) ++ noted_as mark g.0.place) (sym e) (operation_marks mark g.0 g.1 n.0 n.1 m.1 b.tree),
      )

  -- a region that is open alone
  pub alone_carry : (bs : Blocks (Op ℕ T A) (Head ℕ T A) (Brace ℕ)) (last : Option (Head ℕ T A × Operations (Op ℕ T A) (Head ℕ T A) (Brace ℕ))) (b : Building T A) → b.unfinished ≡ region_so_far bs last ∷ [] → TreeHolds I c w None b.tree
      → marks_in_blocks (whole_blocks bs last) ≡ marks_so_far b
  alone_carry bs last b e t = subst (λ us. marks_in_blocks (whole_blocks bs last) ≡ marks_whole b.tree ++ marks_open us) (sym e)
      (subst (λ x. marks_in_blocks (whole_blocks bs last) ≡ marks_whole x ++ marks_in_blocks (whole_blocks bs last)) (sym (none_whole I c w b.tree t)) refl)

  -- a block begins
  pub heads_carry : (head : Head ℕ T A) (r : Ptr Region) (last : Option (Ptr BasicBlock)) (ats : List (OpenAt T A)) (b : Building T A) → AreOpenAt I c w (region_under r last ∷ ats) b.unfinished None
      → marks_so_far ((building formats).heads head b) ≡ marks_so_far b ++ noted_as head.mark head.label.place
  heads_carry head r last ats b h =
      let f = first_open I c w (region_under r last) ats b.unfinished None h in
      let g = region_is_open I c w r last f.0 None f.3 in
      let e : b.unfinished ≡ region_so_far g.0 g.1 ∷ f.1 = f.2 ∙ ap (λ z. z ∷ f.1) g.2 in
      subst (λ us. marks_whole b.tree ++ marks_open (block_begun head us) ≡ (marks_whole b.tree ++ marks_open us) ++ noted_as head.mark head.label.place) (sym e)
      (ap (λ z. marks_whole b.tree ++ z) (head_marks head g.0 g.1 f.1) ∙ sym (append_assoc (marks_whole b.tree) (marks_open (region_so_far g.0 g.1 ∷ f.1)) (noted_as head.mark head.label.place)))

-- ---- the items that carry marks
carried_wider : (items : Made) (one : ℕ × Object) (ms : List (ℕ × ℕ)) (ns : List (ℕ × Item)) → AreCarried items ms ns → AreCarried (one ∷ items) ms ns
carried_wider items one [] [] h = tt
carried_wider items one [] (n ∷ ns) h = absurd h
carried_wider items one (m ∷ ms) [] h = absurd h
carried_wider items one (m ∷ ms) (n ∷ ns) (e, i, h) = (e, inr i, carried_wider items one ms ns h)

pub carried_both : (items : Made) (ms more : List (ℕ × ℕ)) (ns others : List (ℕ × Item)) → AreCarried items ms ns → AreCarried items more others → AreCarried items (ms ++ more) (ns ++ others)
carried_both items [] more [] others h k = k
carried_both items [] more (n ∷ ns) others h k = absurd h
carried_both items (m ∷ ms) more [] others h k = absurd h
carried_both items (m ∷ ms) more (n ∷ ns) others (e, i, h) k = (e, i, carried_both items ms more ns others h k)

pub carried_one : (items : Made) (mark : Option (Mark ℕ)) (place : ℕ) (x : Item) → Among (place, object_of x) items → AreCarried items (noted_as mark place) (noted_as mark x)
carried_one items None place x i = tt
carried_one items (Some m) place x i = (refl, i, tt)

module _ (items : Made) (ms more : List (ℕ × ℕ)) (ns : List (ℕ × Item)) where
  -- no mark was added
  pub carried_still : more ≡ ms → AreCarried items ms ns → AreCarried items more (ns ++ [])
  carried_still e h = subst (λ z. AreCarried items z (ns ++ [])) (sym e) (subst (AreCarried items ms) (sym (append-nil ns)) h)

  -- no mark was added, but an item
  pub carried_more : (one : ℕ × Object) → more ≡ ms → AreCarried items ms ns → AreCarried (one ∷ items) more (ns ++ [])
  carried_more one e h = carried_wider items one more (ns ++ []) (carried_still e h)

  -- a mark was added, if there is one
  pub carried_last : (mark : Option (Mark ℕ)) (place : ℕ) (x : Item) → more ≡ ms ++ noted_as mark place → Among (place, object_of x) items → AreCarried items ms ns → AreCarried items more (ns ++ noted_as mark x)
  carried_last mark place x e i h = subst (λ z. AreCarried items z (ns ++ noted_as mark x)) (sym e) (carried_both items ms (noted_as mark place) ns (noted_as mark x) h (carried_one items mark place x i))

  -- a mark was added with its item, if there is one
  pub carried_new : (mark : Option (Mark ℕ)) (place : ℕ) (x : Item) → more ≡ ms ++ noted_as mark place → AreCarried items ms ns → AreCarried ((place, object_of x) ∷ items) more (ns ++ noted_as mark x)
  carried_new mark place x e h = subst (λ z. AreCarried ((place, object_of x) ∷ items) z (ns ++ noted_as mark x)) (sym e)
      (carried_both ((place, object_of x) ∷ items) ms (noted_as mark place) ns (noted_as mark x) (carried_wider items (place, object_of x) ms ns h) (carried_one ((place, object_of x) ∷ items) mark place x (inl refl)))

-- ---- places
-- nothing more was made
pub falls_less : (above : ℕ) (items : Made) (low below : ℕ) → below ≤ low → Falls above items low → Falls above items below
falls_less above [] low below le h = omega (arith, le, h)
falls_less above (one ∷ items) low below le h = let l = h.0 in (omega (arith, le, l), h.1)

-- items that were made later have lower places
pub falls_both : (above : ℕ) (items more : Made) (middle below : ℕ) → Falls above items middle → Falls middle more below → Falls above (more ++ items) below
falls_both above items [] middle below h k = falls_less above items middle below k h
falls_both above items (one ∷ more) middle below h k = (k.0, falls_both above items more middle one.0 h k.1)

-- the place of the last item is below the bound of all places
lowest : (above : ℕ) (items : Made) (below n : ℕ) (o : Object) → Falls above items below → Among (n, o) items → below < n
lowest above [] below n o h i = absurd i
lowest above (one ∷ items) below n o h (inl e) = let l = h.0 in let f = ap (λ z. z.0) e in omega (arith, l, f)
lowest above (one ∷ items) below n o h (inr i) = let l = h.0 in let k = lowest above items one.0 n o h.1 i in omega (arith, l, k)

-- at most one object is at a place
pub one_object : (above : ℕ) (items : Made) (below n : ℕ) (o p : Object) → Falls above items below → Among (n, o) items → Among (n, p) items → o ≡ p
one_object above [] below n o p h i j = absurd i
one_object above (one ∷ items) below n o p h (inl e) (inl f) = ap (λ z. z.1) e ∙ sym (ap (λ z. z.1) f)
one_object above (one ∷ items) below n o p h (inl e) (inr j) = let k = lowest above items one.0 n p h.1 j in let f = ap (λ z. z.0) e in absurd (omega (arith, k, f))
one_object above (one ∷ items) below n o p h (inr i) (inl f) = let k = lowest above items one.0 n o h.1 i in let e = ap (λ z. z.0) f in absurd (omega (arith, k, e))
one_object above (one ∷ items) below n o p h (inr i) (inr j) = one_object above items one.0 n o p h.1 i j

-- the mark at an item's place is carried by that item
pub carried_by : (above : ℕ) (items : Made) (below : ℕ) (ms : List (ℕ × ℕ)) (ns : List (ℕ × Item)) (i n : ℕ) (o : Object) → AreCarried items ms ns → Falls above items below → Among (i, n) ms → Among (n, o) items
    → (x : Item) × (object_of x ≡ o) × Among (i, x) ns
carried_by above items below [] ns i n o h f m made = absurd m
carried_by above items below (m ∷ ms) [] i n o h f k made = absurd h
carried_by above items below (m ∷ ms) (x ∷ ns) i n o (e, a, h) f (inl k) made =
    (x.1, one_object above items below n (object_of x.1) o f (subst (λ z. Among (z, object_of x.1) items) (sym (ap (λ z. z.1) k)) a) made, inl (ap (λ z. (z, x.1)) (ap (λ z. z.0) k ∙ sym e)))
carried_by above items below (m ∷ ms) (x ∷ ns) i n o (e, a, h) f (inr k) made =
    let r = carried_by above items below ms ns i n o h f k made in (r.0, r.1, inr r.2)

-- ---- the grammar's marks
map_both : {X Y : Type 0} (f : X → Y) (xs ys : List X) → map f (xs ++ ys) ≡ map f xs ++ map f ys
map_both f [] ys = refl
map_both f (x ∷ xs) ys = ap (λ z. f x ∷ z) (map_both f xs ys)

noted_index : (mark : Option (Mark ℕ)) (place : ℕ) → map (λ m. m.0) (noted_as mark place) ≡ marked_as mark
noted_index None place = refl
noted_index (Some m) place = refl

module _ {T A : Type 0} (isolated : Id → Bool) where
  mutual
    regions_are : (iso : Bool) (rs : Regions (Op ℕ T A) (Head ℕ T A) (Brace ℕ)) → map (λ m. m.0) (marks_in_regions rs) ≡ all_in_regions isolated (λ o. marked_as o.mark) (λ h. marked_as h.mark) everywhere iso rs
    regions_are iso no_regions = refl
    regions_are iso (region brace bs rs) = map_both (λ m. m.0) (marks_in_blocks bs) (marks_in_regions rs) ∙ (ap (λ z. z ++ map (λ m. m.0) (marks_in_regions rs)) (blocks_are bs) ∙ ap (λ z. all_in_blocks isolated (λ o. marked_as o.mark) (λ h. marked_as h.mark) everywhere bs ++ z) (regions_are iso rs))

    blocks_are : (bs : Blocks (Op ℕ T A) (Head ℕ T A) (Brace ℕ)) → map (λ m. m.0) (marks_in_blocks bs) ≡ all_in_blocks isolated (λ o. marked_as o.mark) (λ h. marked_as h.mark) everywhere bs
    blocks_are no_blocks = refl
    blocks_are (block h os bs) = map_both (λ m. m.0) (noted_as h.mark h.label.place) (marks_in_operations os ++ marks_in_blocks bs)
        ∙ (ap (λ z. z ++ map (λ m. m.0) (marks_in_operations os ++ marks_in_blocks bs)) (noted_index h.mark h.label.place)
        ∙ ap (λ z. marked_as h.mark ++ z) (map_both (λ m. m.0) (marks_in_operations os) (marks_in_blocks bs)
        ∙ (ap (λ z. z ++ map (λ m. m.0) (marks_in_blocks bs)) (operations_are os) ∙ ap (λ z. all_in_operations isolated (λ o. marked_as o.mark) (λ h. marked_as h.mark) everywhere os ++ z) (blocks_are bs))))

    operations_are : (os : Operations (Op ℕ T A) (Head ℕ T A) (Brace ℕ)) → map (λ m. m.0) (marks_in_operations os) ≡ all_in_operations isolated (λ o. marked_as o.mark) (λ h. marked_as h.mark) everywhere os
    operations_are no_operations = refl
    operations_are (operation o rs os) = map_both (λ m. m.0) (marks_in_regions rs ++ noted_as o.mark o.place) (marks_in_operations os)
        ∙ (ap (λ z. z ++ map (λ m. m.0) (marks_in_operations os)) (map_both (λ m. m.0) (marks_in_regions rs) (noted_as o.mark o.place)
        ∙ (ap (λ z. z ++ map (λ m. m.0) (noted_as o.mark o.place)) (regions_are (isolated o.id) rs) ∙ ap (λ z. all_in_regions isolated (λ q. marked_as q.mark) (λ h. marked_as h.mark) everywhere (isolated o.id) rs ++ z) (noted_index o.mark o.place)))
        ∙ ap (λ z. (all_in_regions isolated (λ q. marked_as q.mark) (λ h. marked_as h.mark) everywhere (isolated o.id) rs ++ marked_as o.mark) ++ z) (operations_are os))

  -- the indices are those that the grammar sees in the tree
  pub marks_are : (t : Tree ℕ T A) → map (λ m. m.0) (marks_in t) ≡ resolves.marks_of isolated t
  marks_are t = map_both (λ m. m.0) (marks_in_regions t.regions) (noted_as t.own.mark t.own.place)
      ∙ (ap (λ z. z ++ map (λ m. m.0) (noted_as t.own.mark t.own.place)) (regions_are (isolated t.own.id) t.regions)
      ∙ ap (λ z. all_in_regions isolated (λ o. marked_as o.mark) (λ h. marked_as h.mark) everywhere (isolated t.own.id) t.regions ++ z) (noted_index t.own.mark t.own.place))

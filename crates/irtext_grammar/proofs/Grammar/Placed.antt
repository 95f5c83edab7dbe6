-- A tree without places that a text parses as has places with which the text parses as it.
use Rattle.std.specs.Prelude.{◌≡◌, ℕ, List, [], ◌∷◌, map, refl, Option, Some, None, ⊤, option_map}
use Rattle.std.proofs.Common.{inl, inr, sym, ◌∙◌, ap, ap₂, subst}
use Rattle.irtext_base.specs.Text.{Text, after_space}
use Rattle.irtext_base.specs.Reading.{Reading, the, separated, more, repeated}
use Rattle.irtext_grammar.specs.Grammar.Forest.{Regions, no_regions, region, Blocks, no_blocks, block, Operations, no_operations, operation}
use Rattle.irtext_base.specs.Format as format
use Rattle.irtext_base.specs.Format.{Format, Id}
use Rattle.irtext_grammar.specs.Grammar.Tree as tree
use Rattle.irtext_grammar.specs.Grammar.Tree.{Name, Mark, Attribute, Piece, Part, Body, Op, Head, Brace, shown, elided, Tree, directive}
use Rattle.irtext_base.specs.Own.{Language}
use Rattle.irtext_grammar.specs.Grammar.Bare.{bare_name, bare_mark, bare_entry, bare_piece, bare_argument, bare_part, bare_op, bare_head, bare_brace, bare_regions, bare_blocks, bare_operations, bare}
use Rattle.irtext_grammar.specs.Grammar.Reads as reads
use Rattle.irtext_grammar.proofs.Grammar.Nested.{EachRegion, EachBlock, EachOperation, all_regions}

-- a value that the text parses as, whose bare value is the one given
abbrev pub Placed : {X Y : Type 0} → (X → Reading) → (X → Y) → Y → Text → Text → Type 0
Placed {X} F bare y t u = (x : X) × F x t u × (bare x ≡ y)

-- a text that parses as a value without places parses as one with places, of which it is the bare value
abbrev pub Places : {X Y : Type 0} → (X → Reading) → (X → Y) → (Y → Reading) → Type 0
Places {X} {Y} F bare G = (y : Y) (t u : Text) → G y t u → Placed F bare y t u

module _ {X Y : Type 0} (F : X → Reading) (bare : X → Y) (G : Y → Reading) (place : Places F bare G) (sep : ℕ) where
  places_more : Places (λ xs. more sep (map F xs)) (map bare) (λ ys. more sep (map G ys))
  places_more [] t u a = ([], a, refl)
  places_more (y ∷ ys) t u (m, l, (k, a, b)) =
      let r = place y (after_space m) k a in
      let s = places_more ys (after_space k) u b in
      (r.0 ∷ s.0, (m, l, (k, r.1, s.1)), ap₂ ◌∷◌ r.2 s.2)

  -- the same of a list, where it holds of an item
  pub places_list : (absent : Text → Type 0) → Places (λ xs. separated sep absent (map F xs)) (map bare) (λ ys. separated sep absent (map G ys))
  places_list absent [] t u a = ([], a, refl)
  places_list absent (y ∷ ys) t u (m, a, b) =
      let r = place y t m a in
      let s = places_more ys (after_space m) u b in
      (r.0 ∷ s.0, (m, r.1, s.1), ap₂ ◌∷◌ r.2 s.2)

module _ {P T A : Type 0} (L : Language P T A) (spot : Text → P) (at_spot : (t : Text) → L.at (spot t) t) where
  abbrev B : Language ⊤ T A
  B = record { at = λ p t. ⊤; types = L.types; owns = L.owns; format_of = L.format_of; left_out = L.left_out }

  places_name : Places (reads.name L) bare_name (reads.name B)
  places_name n t u a = (record { place = spot t; text = n.text }, (at_spot t, a.1), refl)

  places_label : Places (reads.label L) bare_name (reads.label B)
  places_label n t u a = (record { place = spot t; text = n.text }, (at_spot t, a.1), refl)

  places_target : Places (reads.target L) bare_name (reads.target B)
  places_target n t u (m, o, a) = (record { place = spot m; text = n.text }, (m, o, (at_spot m, a.1)), refl)

  places_mark_if : Places (reads.mark_if L) (option_map bare_mark) (reads.mark_if B)
  places_mark_if None t u a = (None, a, refl)
  places_mark_if (Some m) t u a = (Some (record { place = spot t; index = m.index }), (at_spot t, a.1), refl)

  -- an attribute has no place: it parses with places as without
  pub same_attribute : (a : Attribute A) (t u : Text) → reads.attribute B a t u → reads.attribute L a t u
  same_attribute (tree.given_names ns) t u a = a
  same_attribute (tree.ident n) t u a = a
  same_attribute (tree.own x) t u a = a

  places_entry : Places (reads.entry L) bare_entry (reads.entry B)
  places_entry e t u (m, a, b) = let r = places_name e.0 t m a in ((r.0, e.1), (m, r.1, (b.0, b.1, same_attribute e.1 (after_space b.0) u b.2)), λ i. (r.2 i, e.1))

  places_dictionary : Places (reads.dictionary L) (map bare_entry) (reads.dictionary B)
  places_dictionary es t u (m, o, (k, a, c)) = let r = places_list (reads.entry L) bare_entry (reads.entry B) places_entry 44 reads.no_word es (after_space m) k a in (r.0, (m, o, (k, r.1, c)), r.2)

  places_dictionary_if : Places (reads.dictionary_if L) (option_map (map bare_entry)) (reads.dictionary_if B)
  places_dictionary_if None t u a = (None, a, refl)
  places_dictionary_if (Some es) t u a = let r = places_dictionary es t u a in (Some r.0, r.1, ap Some r.2)

  places_argument : Places (reads.argument L) bare_argument (reads.argument B)
  places_argument e t u (m, a, b) = let r = places_name e.0 t m a in ((r.0, e.1), (m, r.1, b), λ i. (r.2 i, e.1))

  places_names : Places (λ ns. separated 44 reads.no_word (map (reads.name L) ns)) (map bare_name) (λ ns. separated 44 reads.no_word (map (reads.name B) ns))
  places_names = places_list (reads.name L) bare_name (reads.name B) places_name 44 reads.no_word

  places_piece : Places (reads.piece L) bare_piece (reads.piece B)
  places_piece (tree.word s) t u a = (tree.word s, a, refl)
  places_piece (tree.operand i n) t u a = let r = places_name n t u a in (tree.operand i r.0, r.1, ap (tree.operand i) r.2)
  places_piece (tree.operands ns) t u a = let r = places_names ns t u a in (tree.operands r.0, r.1, ap tree.operands r.2)
  places_piece (tree.successor i n) t u a = let r = places_target n t u a in (tree.successor i r.0, r.1, ap (tree.successor i) r.2)
  places_piece (tree.successors ns) t u a = let r = places_list (reads.target L) bare_name (reads.target B) places_target 44 reads.no_label ns t u a in (tree.successors r.0, r.1, ap tree.successors r.2)
  places_piece (tree.attribute k None) t u a = (tree.attribute k None, a, refl)
  places_piece (tree.attribute k (Some x)) t u a = (tree.attribute k (Some x), same_attribute x t u a, refl)
  places_piece (tree.dictionary es) t u a = let r = places_dictionary es t u a in (tree.dictionary r.0, r.1, ap tree.dictionary r.2)
  places_piece (tree.result_type i x) t u a = (tree.result_type i x, a, refl)
  places_piece (tree.header n) t u a = (tree.header (record { place = spot t; text = n.text }), (at_spot t, a.1), refl)
  places_piece (tree.types xs) t u a = (tree.types xs, a, refl)

  -- The other way: places are forgotten.
  forget_more : (ns : List (Name P)) (t u : Text) → more 44 (map (reads.name L) ns) t u → more 44 (map (reads.name B) (map bare_name ns)) t u
  forget_more [] t u a = a
  forget_more (n ∷ ns) t u (m, l, (k, a, b)) = (m, l, (k, (tt, a.1), forget_more ns (after_space k) u b))

  forget_results : (ns : List (Name P)) (t u : Text) → reads.results L ns t u → reads.results B (map bare_name ns) t u
  forget_results [] t u a = a
  forget_results (n ∷ ns) t u (m, (k, a, b), c) = (m, (k, (tt, a.1), forget_more ns (after_space k) m b), c)

  places_results : Places (reads.results_if L) (map bare_name) (reads.results_if B)
  places_results ns t u (inl (m, a, b)) = let r = places_names ns t m a in (r.0, inl (m, r.1, b), r.2)
  places_results ns t u (inr (e, q, no_list)) = ([], inr (refl, q, λ others left a. no_list (map bare_name others) left (forget_results others t left a)), sym e)

  -- parts, over regions of which each has places
  abbrev Inner : Type 0 → Type 0
  Inner Q = Regions (Op Q T A) (Head Q T A) (Brace Q)

  abbrev Leaves : Type 0 → Type 0
  Leaves Q = Blocks (Op Q T A) (Head Q T A) (Brace Q)

  abbrev Steps : Type 0 → Type 0
  Steps Q = Operations (Op Q T A) (Head Q T A) (Brace Q)

  abbrev PlacesRegion : Brace ⊤ → Blocks (Op ⊤ T A) (Head ⊤ T A) (Brace ⊤) → Type 0
  PlacesRegion brace bs = (t u : Text) → reads.region_read B brace (reads.block_readings B bs) t u →
      (brace' : Brace P) × (bs' : Blocks (Op P T A) (Head P T A) (Brace P)) × reads.region_read L brace' (reads.block_readings L bs') t u × (bare_brace brace' ≡ brace) × (bare_blocks bs' ≡ bs)

  abbrev PlacesRegions : Inner ⊤ → Type 0
  PlacesRegions rs = EachRegion PlacesRegion rs

  places_repeated : (rs : Inner ⊤) (t u : Text) → PlacesRegions rs → repeated (the 123) (reads.region_readings B rs) t u
      → (rs' : Inner P) × repeated (the 123) (reads.region_readings L rs') t u × (bare_regions rs' ≡ rs)
  places_repeated no_regions t u s a = (no_regions, a, refl)
  places_repeated (region brace bs rs) t u s (m, a, b) =
      let r = s.0 t m a in
      let k = places_repeated rs (after_space m) u s.1 b in
      (region r.0 r.1 k.0, (m, r.2, k.1), λ i. region (r.3 i) (r.4 i) (k.2 i))

  no_bare : (rs : Inner P) → bare_regions rs ≡ no_regions → rs ≡ no_regions
  no_bare no_regions e = refl
  no_bare (region r bs rs) e = absurd (cc e)

  places_parts : (ps : List (Part ⊤ T A)) (rs : Inner ⊤) (t u : Text) → PlacesRegions rs → reads.parts B ps (reads.region_readings B rs) t u
      → (ps' : List (Part P T A)) × (rs' : Inner P) × reads.parts L ps' (reads.region_readings L rs') t u × (map bare_part ps' ≡ ps) × (bare_regions rs' ≡ rs)
  places_parts [] no_regions t u s a = ([], no_regions, a, refl, refl)
  places_parts [] (region brace bs rs) t u s a = absurd a
  places_parts (tree.piece p ∷ ps) rs t u s (m, a, b) =
      let r = places_piece p (after_space t) m a in
      let k = places_parts ps rs m u s b in
      (tree.piece r.0 ∷ k.0, k.1, (m, r.1, k.2), λ i. tree.piece (r.2 i) ∷ k.3 i, k.4)
  places_parts (tree.region i ∷ ps) no_regions t u s a = absurd a
  places_parts (tree.region i ∷ ps) (region brace bs rs) t u s (m, a, b) =
      let r = s.0 (after_space t) m a in
      let k = places_parts ps rs m u s.1 b in
      (tree.region i ∷ k.0, region r.0 r.1 k.1, (m, r.2, k.2), ap (λ x. tree.region i ∷ x) k.3, λ i. region (r.3 i) (r.4 i) (k.4 i))
  places_parts (tree.regions ∷ ps) rs t u s (m, a, b) =
      let r = places_repeated rs (after_space t) m s a in
      let k = places_parts ps no_regions m u tt b in
      (tree.regions ∷ k.0, r.0, (m, r.1, subst (λ rs. reads.parts L k.0 (reads.region_readings L rs) m u) (no_bare k.1 k.4) k.2), ap (λ x. tree.regions ∷ x) k.3, r.2)

  bare_directive : (ps : List (Part P T A)) → map directive (map bare_part ps) ≡ map directive ps
  bare_directive [] = refl
  bare_directive (tree.piece p ∷ ps) = ap₂ ◌∷◌ (bare_of p) (bare_directive ps)
    where
      bare_of : (p : Piece P T A) → tree.directive_of_piece (bare_piece p) ≡ tree.directive_of_piece p
      bare_of (tree.word s) = refl
      bare_of _ = refl
  bare_directive (tree.region i ∷ ps) = ap (λ x. Some (format.region i) ∷ x) (bare_directive ps)
  bare_directive (tree.regions ∷ ps) = ap (λ x. Some format.regions ∷ x) (bare_directive ps)

  abbrev PlacesOperation : Op ⊤ T A → Inner ⊤ → Type 0
  PlacesOperation o rs = (t u : Text) → reads.operation_read B o (reads.region_readings B rs) t u
      → (o' : Op P T A) × (rs' : Inner P) × reads.operation_read L o' (reads.region_readings L rs') t u × (bare_op o' ≡ o) × (bare_regions rs' ≡ rs)

  is_custom : (f : Format) (ps : List (Part ⊤ T A)) (ps' : List (Part P T A)) → tree.IsOf f (tree.custom ps) → map bare_part ps' ≡ ps → tree.IsOf f (tree.custom ps')
  is_custom format.canonical ps ps' h e = h
  is_custom (format.custom ds) ps ps' h e = sym (bare_directive ps') ∙ ap (map directive) e ∙ h

  places_custom : (place : ⊤) (names : List (Name ⊤)) (id : Id) (ps : List (Part ⊤ T A)) (mark : Option (Mark ⊤)) (rs : Inner ⊤) → PlacesRegions rs
      → PlacesOperation (record { place = place; names = names; id = id; body = tree.custom ps; mark = mark }) rs
  places_custom place names id ps mark rs s t u (at, ((f, fx, is), (m, a, (k, b, (n, c, d))))) =
      let r = places_results names (after_space t) m a in
      let p = places_parts ps rs k n s c in
      let q = places_mark_if mark (after_space n) u d in (
        record { place = spot t; names = r.0; id = id; body = tree.custom p.0; mark = q.0 },
        p.1,
        (at_spot t, ((f, fx, is_custom f ps p.0 is p.3), (m, r.1, (k, b, (n, p.2, q.1))))),
        λ i. record { place = tt; names = r.2 i; id = id; body = tree.custom (p.3 i); mark = q.2 i },
        p.4,
      )

  places_canonical : (place : ⊤) (names : List (Name ⊤)) (id : Id) (ns ls : List (Name ⊤)) (es : List (Name ⊤ × Attribute A)) (xs ys : List T) (mark : Option (Mark ⊤)) (rs : Inner ⊤) → PlacesRegions rs
      → PlacesOperation (record { place = place; names = names; id = id; body = tree.canonical ns ls es xs ys; mark = mark }) rs
  places_canonical place names id ns ls es xs ys mark rs s t u (at, ((f, fx, is), (m, a, (k, b, (n, (m1, a1, (m2, a2, (m3, a3, (m4, a4, (m5, a5, (m6, a6, (m7, a7, (m8, a8, (m9, a9, (m10, a10, (m11, a11, (m12, a12, (m13, a13, (m14, a14, (m15, a15, (m16, a16, (m17, a17, (m18, a18, e)))))))))))))))))), d))))) =
      let r = places_results names (after_space t) m a in
      let N = places_names ns (after_space m1) m2 a2 in
      let S = places_list (reads.target L) bare_name (reads.target B) places_target 44 reads.no_label ls (after_space m4) m5 a5 in
      let D = places_dictionary es (after_space m6) m7 a7 in
      let R = places_repeated rs (after_space m17) m18 s a18 in
      let q = places_mark_if mark (after_space n) u d in (
        record { place = spot t; names = r.0; id = id; body = tree.canonical N.0 S.0 D.0 xs ys; mark = q.0 },
        R.0,
        (at_spot t, ((f, fx, is_canonical f is N.0 S.0 D.0), (m, r.1, (k, b, (n, (m1, a1, (m2, N.1, (m3, a3, (m4, a4, (m5, S.1, (m6, a6, (m7, D.1, (m8, a8, (m9, a9, (m10, a10, (m11, a11, (m12, a12, (m13, a13, (m14, a14, (m15, a15, (m16, a16, (m17, a17, (m18, R.1, e)))))))))))))))))), q.1))))),
        λ i. record { place = tt; names = r.2 i; id = id; body = tree.canonical (N.2 i) (S.2 i) (D.2 i) xs ys; mark = q.2 i },
        R.2,
      )
    where
      is_canonical : (f : Format) → tree.IsOf f (tree.canonical ns ls es xs ys) → (ns' ls' : List (Name P)) (es' : List (Name P × Attribute A)) → tree.IsOf f (tree.canonical ns' ls' es' xs ys)
      is_canonical format.canonical h _ _ _ = h
      is_canonical (format.custom ds) h _ _ _ = absurd h

  places_body : (place : ⊤) (names : List (Name ⊤)) (id : Id) (body : Body ⊤ T A) (mark : Option (Mark ⊤)) (rs : Inner ⊤) → PlacesRegions rs → PlacesOperation (record { place = place; names = names; id = id; body = body; mark = mark }) rs
  places_body place names id (tree.custom ps) mark rs s = places_custom place names id ps mark rs s
  places_body place names id (tree.canonical ns ls es xs ys) mark rs s = places_canonical place names id ns ls es xs ys mark rs s

  places_operation : (o : Op ⊤ T A) (rs : Inner ⊤) → PlacesRegions rs → PlacesOperation o rs
  places_operation o rs s = places_body o.place o.names o.id o.body o.mark rs s

  abbrev PlacesOperations : Steps ⊤ → Type 0
  PlacesOperations os = EachOperation PlacesOperation os

  places_steps_more : (os : Steps ⊤) (t u : Text) → PlacesOperations os → more 59 (reads.operation_readings B os) t u → (os' : Steps P) × more 59 (reads.operation_readings L os') t u × (bare_operations os' ≡ os)
  places_steps_more no_operations t u s a = (no_operations, a, refl)
  places_steps_more (operation o rs os) t u s (m, l, (k, a, b)) =
      let r = s.0 (after_space m) k a in
      let q = places_steps_more os (after_space k) u s.1 b in
      (operation r.0 r.1 q.0, (m, l, (k, r.2, q.1)), λ i. operation (r.3 i) (r.4 i) (q.2 i))

  places_steps : (os : Steps ⊤) (t u : Text) → PlacesOperations os → separated 59 reads.no_operation (reads.operation_readings B os) t u → (os' : Steps P) × separated 59 reads.no_operation (reads.operation_readings L os') t u × (bare_operations os' ≡ os)
  places_steps no_operations t u s a = (no_operations, a, refl)
  places_steps (operation o rs os) t u s (m, a, b) =
      let r = s.0 t m a in
      let q = places_steps_more os (after_space m) u s.1 b in
      (operation r.0 r.1 q.0, (m, r.2, q.1), λ i. operation (r.3 i) (r.4 i) (q.2 i))

  abbrev PlacesBlock : Head ⊤ T A → Steps ⊤ → Type 0
  PlacesBlock h os = (t u : Text) → reads.block_read B h (reads.operation_readings B os) t u
      → (h' : Head P T A) × (os' : Steps P) × reads.block_read L h' (reads.operation_readings L os') t u × (bare_head h' ≡ h) × (bare_operations os' ≡ os)

  places_block : (h : Head ⊤ T A) (os : Steps ⊤) → PlacesOperations os → PlacesBlock h os
  places_block h os s t u (m1, l, (m2, p, (m3, a, (m4, q, (m5, d, (m6, k, (m7, c, o))))))) =
      let l' = places_label h.label t m1 l in
      let a' = places_list (reads.argument L) bare_argument (reads.argument B) places_argument 44 reads.no_word h.arguments (after_space m2) m3 a in
      let d' = places_dictionary_if h.attributes (after_space m4) m5 d in
      let k' = places_mark_if h.mark (after_space m5) m6 k in
      let o' = places_steps os (after_space m7) u s o in (
        record { label = l'.0; arguments = a'.0; attributes = d'.0; mark = k'.0 },
        o'.0,
        (m1, l'.1, (m2, p, (m3, a'.1, (m4, q, (m5, d'.1, (m6, k'.1, (m7, c, o'.1))))))),
        λ i. record { label = l'.2 i; arguments = a'.2 i; attributes = d'.2 i; mark = k'.2 i },
        o'.2,
      )

  abbrev PlacesBlocks : Leaves ⊤ → Type 0
  PlacesBlocks bs = EachBlock PlacesBlock bs

  places_leaves : (bs : Leaves ⊤) (t u : Text) → PlacesBlocks bs → repeated (the 94) (reads.block_readings B bs) t u → (bs' : Leaves P) × repeated (the 94) (reads.block_readings L bs') t u × (bare_blocks bs' ≡ bs)
  places_leaves no_blocks t u s a = (no_blocks, a, refl)
  places_leaves (block h os bs) t u s (m, a, b) =
      let r = s.0 t m a in
      let q = places_leaves bs (after_space m) u s.1 b in
      (block r.0 r.1 q.0, (m, r.2, q.1), λ i. block (r.3 i) (r.4 i) (q.2 i))

  places_region : (brace : Brace ⊤) (bs : Leaves ⊤) → PlacesBlocks bs → (t u : Text) → reads.region_read B brace (reads.block_readings B bs) t u
      → (brace' : Brace P) × (bs' : Leaves P) × reads.region_read L brace' (reads.block_readings L bs') t u × (bare_brace brace' ≡ brace) × (bare_blocks bs' ≡ bs)
  places_region elided no_blocks s t u a = (elided, no_blocks, a, refl, refl)
  places_region elided (block h os bs) s t u a = absurd a
  places_region (shown p) bs s t u (at, (m, o, (k, a, c))) = let r = places_leaves bs (after_space m) k s a in (shown (spot t), r.0, (at_spot t, (m, o, (k, r.1, c))), refl, r.2)

  -- a tree without places that a text parses as has places with which the text parses as it
  pub placed : (t : Tree ⊤ T A) (text rest : Text) → reads.reads B t text rest → (t' : Tree P T A) × reads.reads L t' text rest × (bare t' ≡ t)
  placed t text rest a =
      let r = places_operation t.own t.regions (all_regions PlacesRegion PlacesBlock PlacesOperation places_region places_block places_operation t.regions) text rest a in
      (record { own = r.0; regions = r.1 }, r.2, λ i. record { own = r.3 i; regions = r.4 i })

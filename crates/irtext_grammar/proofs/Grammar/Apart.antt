-- What can begin the text of an operation's parts, and that no list among them can continue into what follows it.
use Rattle.std.specs.Prelude.{◌≡◌, ℕ, Bool, true, false, cond, not, ◌&&◌, ◌||◌, ◌==◌, ◌⊎◌, List, [], ◌∷◌, ◌++◌, map, codes, refl, Option, Some, None, ⊤}
use Rattle.std.specs.List.{list_all}
use Rattle.std.proofs.Common.{inl, inr, sym, ◌∙◌, ap, subst, true≢false}
use Rattle.irtext_base.specs.Format as format
use Rattle.irtext_base.specs.Format.{Directive, has, continuings, beginnings, followers, disjoint, is_list, is_any_region, c7, c8}
use Rattle.irtext_grammar.specs.Grammar.Forest.{Regions, no_regions, region, Blocks}
use Rattle.irtext_grammar.specs.Grammar.Tree as tree
use Rattle.irtext_grammar.specs.Grammar.Tree.{Piece, Part, directive, directive_of_piece}
use Rattle.irtext_grammar.specs.Spelling.Spellable.{Enough}
use Rattle.irtext_grammar.proofs.Grammar.Follows.{Disjoint, disjoint_law, has_left, has_right, has_either}
use Rattle.irtext_base.proofs.Characters.{and_left, and_right}

abbrev Within : (ℕ → Type 0) → List ℕ → List ℕ → Type 0
Within Q xs ys = (k : ℕ) → has ◌==◌ k xs ≡ true → (has ◌==◌ k ys ≡ true) ⊎ Q k

either_within : (Q : ℕ → Type 0) (xs ys zs : List ℕ) (b : Bool) → (b ≡ true → Within Q ys zs) → Within Q (xs ++ cond b ys []) (xs ++ cond b zs [])
either_within Q xs ys zs b w k e = go b w (has_either k xs (cond b ys []) e)
  where
    right : (b : Bool) → (has ◌==◌ k zs ≡ true) ⊎ Q k → b ≡ true → (has ◌==◌ k (xs ++ cond b zs []) ≡ true) ⊎ Q k
    right true (inl h) e = inl (has_right k xs zs h)
    right true (inr q) e = inr q
    right false h e = absurd (true≢false (sym e))

    go : (b : Bool) → (b ≡ true → Within Q ys zs) → (has ◌==◌ k xs ≡ true) ⊎ (has ◌==◌ k (cond b ys []) ≡ true) → (has ◌==◌ k (xs ++ cond b zs []) ≡ true) ⊎ Q k
    go b w (inl h) = inl (has_left k xs (cond b zs []) h)
    go true w (inr h) = right true (w refl k h) refl
    go false w (inr h) = absurd (true≢false (sym h))

-- nothing that follows the directives continues the list, and nothing else does
disjoint_within : (Q : ℕ → Type 0) (cs xs ys : List ℕ) → Within Q xs ys → Disjoint cs ys → ((k : ℕ) → has ◌==◌ k cs ≡ true → Q k → ⊥) → Disjoint cs xs
disjoint_within Q cs xs ys w d none k c x = go (w k x)
  where
    go : (has ◌==◌ k ys ≡ true) ⊎ Q k → ⊥
    go (inl y) = d k c y
    go (inr q) = none k c q

-- operands, successors and result types: directives that no region may precede
abbrev early : Directive → Bool
early d = elim d [ format.operand i ↦ true | format.operands ↦ true | format.successor i ↦ true | format.successors ↦ true | format.result_type i ↦ true | _ ↦ false ]

-- ---- what one part begins with, and what would continue it
abbrev pub first : Option Directive → List ℕ
first None = []
first (Some d) = beginnings d

-- whether a directive, if there is one, is a list
abbrev pub listed : Option Directive → Bool
listed None = false
listed (Some d) = is_list d

abbrev continues : Option Directive → List ℕ
continues None = []
continues (Some d) = continuings d

module _ {P T A : Type 0} where
  -- which characters would continue what was written
  abbrev pub continuing : Piece P T A → List ℕ
  continuing (tree.operands ns) = codes "_,"
  continuing (tree.successors ns) = codes "^,"
  continuing _ = []

  continuing_is : (p : Piece P T A) → continuing p ≡ continues (directive_of_piece p)
  continuing_is (tree.word s) = refl
  continuing_is _ = refl

  piece_apart : (p : Piece P T A) (d : Directive) (ds : List Directive) → directive_of_piece p ≡ Some d → c8 (d ∷ ds) ≡ true → Disjoint (continuing p) (followers ds)
  piece_apart p d ds q c = subst (λ cs. Disjoint cs (followers ds)) (sym (continuing_is p ∙ ap continues q)) (disjoint_law (continuings d) (followers ds) (and_left (disjoint (continuings d) (followers ds)) (c8 ds) c))

  late_apart : (p : Piece P T A) (d : Directive) (ks : List ℕ) → directive_of_piece p ≡ Some d → not (early d) ≡ true → Disjoint (continuing p) ks
  late_apart (tree.operands ns) d ks q e = let f : format.operands ≡ d = cc q in absurd (true≢false (sym e ∙ ap (λ d. not (early d)) (sym f)))
  late_apart (tree.successors ns) d ks q e = let f : format.successors ≡ d = cc q in absurd (true≢false (sym e ∙ ap (λ d. not (early d)) (sym f)))
  late_apart _ d ks q e = λ k h g. true≢false (sym h)

-- ---- all parts
module _ {P T A O B R : Type 0} where
  -- what can begin the parts' text, if what follows the text begins with one of `last`
  abbrev pub starts : List ℕ → List (Part P T A) → Regions O B R → List ℕ
  starts last [] rs = last
  starts last (tree.piece p ∷ ps) rs = first (directive_of_piece p) ++ cond (listed (directive_of_piece p)) (starts last ps rs) []
  starts last (tree.region i ∷ ps) rs = codes "{"
  starts last (tree.regions ∷ ps) no_regions = codes "{" ++ starts last ps no_regions
  starts last (tree.regions ∷ ps) (region r bs rs) = codes "{"

  -- no list can continue into what follows it
  abbrev pub Apart : List ℕ → List (Part P T A) → Regions O B R → Type 0
  Apart last [] rs = ⊤
  Apart last (tree.piece p ∷ ps) rs = Disjoint (continuing p) (starts last ps rs) × Apart last ps rs
  Apart last (tree.region i ∷ ps) no_regions = ⊤
  Apart last (tree.region i ∷ ps) (region r bs rs) = Apart last ps rs
  Apart last (tree.regions ∷ ps) rs = Disjoint (codes "{") (starts last ps no_regions) × Apart last ps no_regions

  -- what can begin the parts can follow the directives
  starts_within : (Q : ℕ → Type 0) (last : List ℕ) → Within Q last (followers []) → (ps : List (Part P T A)) (ds : List Directive) (rs : Regions O B R) → map directive ps ≡ map Some ds
      → Within Q (starts last ps rs) (followers ds)
  starts_within Q last w [] [] rs e k h = w k h
  starts_within Q last w [] (d ∷ ds) rs e k h = absurd (cc e)
  starts_within Q last w (p ∷ ps) [] rs e k h = absurd (cc e)
  starts_within Q last w (tree.piece p ∷ ps) (d ∷ ds) rs e k h =
      let q : directive_of_piece p ≡ Some d = cc e in
      let q' : map directive ps ≡ map Some ds = cc e in
      either_within Q (beginnings d) (starts last ps rs) (followers ds) (is_list d) (λ _. starts_within Q last w ps ds rs q') k
      (subst (λ o. has ◌==◌ k (first o ++ cond (listed o) (starts last ps rs) []) ≡ true) q h)
  starts_within Q last w (tree.region i ∷ ps) (d ∷ ds) rs e k h =
      let q : format.region i ≡ d = cc e in
      inl (subst (λ d. has ◌==◌ k (followers (d ∷ ds)) ≡ true) q h)
  starts_within Q last w (tree.regions ∷ ps) (d ∷ ds) no_regions e k h =
      let q : format.regions ≡ d = cc e in
      let q' : map directive ps ≡ map Some ds = cc e in
      subst (λ d. (has ◌==◌ k (followers (d ∷ ds)) ≡ true) ⊎ Q k) q (either_within Q (codes "{") (starts last ps no_regions) (followers ds) true (λ _. starts_within Q last w ps ds no_regions q') k h)
  starts_within Q last w (tree.regions ∷ ps) (d ∷ ds) (region r bs rs) e k h =
      let q : format.regions ≡ d = cc e in
      inl (subst (λ d. has ◌==◌ k (followers (d ∷ ds)) ≡ true) q (has_left k (codes "{") (followers ds) h))

  -- What can follow any operation follows the parts.
  pub apart_inside : (ps : List (Part P T A)) (ds : List Directive) (rs : Regions O B R) → map directive ps ≡ map Some ds → c8 ds ≡ true → Apart (followers []) ps rs
  apart_inside [] [] rs e c = tt
  apart_inside [] (d ∷ ds) rs e c = absurd (cc e)
  apart_inside (p ∷ ps) [] rs e c = absurd (cc e)
  apart_inside (tree.piece p ∷ ps) (d ∷ ds) rs e c =
      let q : directive_of_piece p ≡ Some d = cc e in
      let q' : map directive ps ≡ map Some ds = cc e in (
        disjoint_within (λ k. ⊥) (continuing p) (starts (followers []) ps rs) (followers ds) (starts_within (λ k. ⊥) (followers []) (λ k h. inl h) ps ds rs q') (piece_apart p d ds q c) (λ k h n. n),
        apart_inside ps ds rs q' (and_right (disjoint (continuings d) (followers ds)) (c8 ds) c),
      )
  apart_inside (tree.region i ∷ ps) (d ∷ ds) no_regions e c = tt
  apart_inside (tree.region i ∷ ps) (d ∷ ds) (region r bs rs) e c =
      let q' : map directive ps ≡ map Some ds = cc e in
      apart_inside ps ds rs q' (and_right (disjoint (continuings d) (followers ds)) (c8 ds) c)
  apart_inside (tree.regions ∷ ps) (d ∷ ds) rs e c =
      let q : format.regions ≡ d = cc e in
      let q' : map directive ps ≡ map Some ds = cc e in
      let s : Disjoint (codes "{") (followers ds) = subst (λ d. Disjoint (continuings d) (followers ds)) (sym q) (disjoint_law (continuings d) (followers ds) (and_left (disjoint (continuings d) (followers ds)) (c8 ds) c)) in (
        disjoint_within (λ k. ⊥) (codes "{") (starts (followers []) ps no_regions) (followers ds) (starts_within (λ k. ⊥) (followers []) (λ k h. inl h) ps ds no_regions q') s (λ k h n. n),
        apart_inside ps ds no_regions q' (and_right (disjoint (continuings d) (followers ds)) (c8 ds) c),
      )

  -- If a region is still to be parsed, what follows the parts makes no difference.
  starts_same : (last other : List ℕ) (ps : List (Part P T A)) (r : R) (bs : Blocks O B R) (rs : Regions O B R) → Enough ps (region r bs rs) → starts last ps (region r bs rs) ≡ starts other ps (region r bs rs)
  starts_same last other [] r bs rs en = absurd en
  starts_same last other (tree.piece p ∷ ps) r bs rs en = ap (λ ks. first (directive_of_piece p) ++ cond (listed (directive_of_piece p)) ks []) (starts_same last other ps r bs rs en)
  starts_same last other (tree.region i ∷ ps) r bs rs en = refl
  starts_same last other (tree.regions ∷ ps) r bs rs en = refl

  -- Behind a word, where no list of names or labels is left.
  apart_late : (ps : List (Part P T A)) (ds : List Directive) (rs : Regions O B R) → map directive ps ≡ map Some ds → c8 ds ≡ true → list_all (λ d. not (early d)) ds ≡ true → Apart (codes "_") ps rs
  apart_late [] ds rs e c l = tt
  apart_late (p ∷ ps) [] rs e c l = absurd (cc e)
  apart_late (tree.piece p ∷ ps) (d ∷ ds) rs e c l =
      let q : directive_of_piece p ≡ Some d = cc e in
      let q' : map directive ps ≡ map Some ds = cc e in
      (late_apart p d (starts (codes "_") ps rs) q (and_left (not (early d)) _ l), apart_late ps ds rs q' (and_right (disjoint (continuings d) (followers ds)) (c8 ds) c) (and_right (not (early d)) _ l))
  apart_late (tree.region i ∷ ps) (d ∷ ds) no_regions e c l = tt
  apart_late (tree.region i ∷ ps) (d ∷ ds) (region r bs rs) e c l =
      let q' : map directive ps ≡ map Some ds = cc e in
      apart_late ps ds rs q' (and_right (disjoint (continuings d) (followers ds)) (c8 ds) c) (and_right (not (early d)) _ l)
  apart_late (tree.regions ∷ ps) (d ∷ ds) rs e c l =
      let q : format.regions ≡ d = cc e in
      let q' : map directive ps ≡ map Some ds = cc e in
      let s : Disjoint (codes "{") (followers ds) = subst (λ d. Disjoint (continuings d) (followers ds)) (sym q) (disjoint_law (continuings d) (followers ds) (and_left (disjoint (continuings d) (followers ds)) (c8 ds) c)) in
      let Q : ℕ → Type 0 = λ k. has ◌==◌ k (codes "_") ≡ true in (
        disjoint_within Q (codes "{") (starts (codes "_") ps no_regions) (followers ds) (starts_within Q (codes "_") (λ k h. inr h) ps ds no_regions q') s (disjoint_law (codes "{") (codes "_") refl),
        apart_late ps ds no_regions q' (and_right (disjoint (continuings d) (followers ds)) (c8 ds) c) (and_right (not (early d)) _ l),
      )

  -- A word follows the parts, and a region is still to be parsed: then no list of names or labels is the last part.
  pub apart_outside : (ps : List (Part P T A)) (ds : List Directive) (r : R) (bs : Blocks O B R) (rs : Regions O B R) → map directive ps ≡ map Some ds → c7 ds ≡ true → c8 ds ≡ true → Enough ps (region r bs rs)
      → Apart (codes "_") ps (region r bs rs)
  apart_outside [] ds r bs rs e s c en = absurd en
  apart_outside (p ∷ ps) [] r bs rs e s c en = absurd (cc e)
  apart_outside (tree.piece p ∷ ps) (d ∷ ds) r bs rs e s c en =
      let q' : map directive ps ≡ map Some ds = cc e in
      let all = apart_inside (tree.piece p ∷ ps) (d ∷ ds) (region r bs rs) e c in (
        subst (Disjoint (continuing p)) (starts_same (followers []) (codes "_") ps r bs rs en) all.0,
        apart_outside ps ds r bs rs q' (and_right (not (is_any_region d) || list_all (λ d. not (early d)) ds) (c7 ds) s) (and_right (disjoint (continuings d) (followers ds)) (c8 ds) c) en,
      )
  apart_outside (tree.region i ∷ ps) (d ∷ ds) r bs rs e s c en =
      let q : format.region i ≡ d = cc e in
      let q' : map directive ps ≡ map Some ds = cc e in
      apart_late ps ds rs q' (and_right (disjoint (continuings d) (followers ds)) (c8 ds) c)
      (and_left (list_all (λ d. not (early d)) ds) (c7 ds) (subst (λ d. ((not (is_any_region d) || list_all (λ d. not (early d)) ds) && c7 ds) ≡ true) (sym q) s))
  apart_outside (tree.regions ∷ ps) (d ∷ ds) r bs rs e s c en =
      let q : format.regions ≡ d = cc e in
      apart_late (tree.regions ∷ ps) (d ∷ ds) (region r bs rs) e c
      (subst (λ d. list_all (λ d. not (early d)) (d ∷ ds) ≡ true) q (and_left (list_all (λ d. not (early d)) ds) (c7 ds) (subst (λ d. ((not (is_any_region d) || list_all (λ d. not (early d)) ds) && c7 ds) ≡ true) (sym q) s)))

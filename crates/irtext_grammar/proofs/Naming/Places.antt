-- The places of a tree's items decrease along the text that is parsed as the tree, so each item has a place of its own, and a function from
-- places to paths gives each item's path.
use Rattle.std.proofs.Common.{◌≡◌, ◌∙◌, ℕ, suc, true, false, cond, ◌≤◌, ◌<◌, ◌==◌, List, [], ◌∷◌, ◌++◌, length, Option, Some, None, codes, ap, arith}
use Rattle.std.proofs.lemmas.Bool.Decides.{nat_tests}
use Rattle.std.specs.Prelude.{⊤}
use Rattle.irtext_base.specs.Text.{Text, after_space}
use Rattle.irtext_base.specs.Reading.{Reading, the, more, separated, repeated}
use Rattle.irtext_base.specs.Format.{Format, Id}
use Rattle.irtext_base.specs.Own.{Texts, Language, language}
use Rattle.irtext_grammar.specs.Grammar.Forest.{Regions, no_regions, region, Blocks, no_blocks, block, Operations, no_operations, operation}
use Rattle.irtext_grammar.specs.Grammar.Tree as tree
use Rattle.irtext_grammar.specs.Grammar.Tree.{Part, Op, Head, Brace, shown, elided, Tree, at_place, parts_of}
use Rattle.irtext_grammar.specs.Grammar.Reads as reads
use Rattle.irtext_grammar.specs.Spelling.Spellable.{Each}
use Rattle.irtext_grammar.specs.Names.Script.{Path}
use Rattle.irtext_grammar.specs.Naming.{paths_in_regions, paths_in_blocks, paths_in_operations, paths_in, Names}
use Rattle.irtext_grammar.proofs.Naming.Shorter.{Shortens, space_shorter, word_shorter, leaves_identifier, leaves_results_if, leaves_mark_if, leaves_piece, leaves_dictionary_if, leaves_arguments}

-- ---- places that decrease
-- the places decrease along the list, from below the first number, and the second is not above the last
abbrev pub Falls : ℕ → ℕ → List (ℕ × Path) → Type 0
Falls high low [] = low ≤ high
Falls high low (item ∷ items) = (item.0 < high) × Falls item.0 low items

falls_from : (high higher low : ℕ) (items : List (ℕ × Path)) → high ≤ higher → Falls high low items → Falls higher low items
falls_from high higher low [] h f = omega (arith, h, f)
falls_from high higher low (item ∷ items) h f = (omega (arith, h, f.0), f.1)

falls_to : (high low lower : ℕ) (items : List (ℕ × Path)) → lower ≤ low → Falls high low items → Falls high lower items
falls_to high low lower [] h f = omega (arith, h, f)
falls_to high low lower (item ∷ items) h f = (f.0, falls_to item.0 low lower items h f.1)

falls_both : (high middle low : ℕ) (xs ys : List (ℕ × Path)) → Falls high middle xs → Falls middle low ys → Falls high low (xs ++ ys)
falls_both high middle low [] ys f g = falls_from middle high low ys f g
falls_both high middle low (x ∷ xs) ys f g = (f.0, falls_both x.0 middle low xs ys f.1 g)

falls_below : (high low : ℕ) (items : List (ℕ × Path)) → Falls high low items → Each (λ item. item.0 < high) items
falls_below high low [] f = tt
falls_below high low (item ∷ items) f = (f.0, each_lower item.0 high items f.0 (falls_below item.0 low items f.1))
  where
    each_lower : (low high : ℕ) (items : List (ℕ × Path)) → low < high → Each (λ item. item.0 < low) items → Each (λ item. item.0 < high) items
    each_lower low high [] h e = tt
    each_lower low high (item ∷ items) h e = (omega (arith, h, e.0), each_lower low high items h e.1)

-- ---- the path at a place
-- the path of the first item of a place
pub path_at : List (ℕ × Path) → ℕ → Path
path_at items place = elim (at_place place items) [ Some p ↦ p | None ↦ [] ]

own_path : (e : ℕ × Path) (es : List (ℕ × Path)) → path_at (e ∷ es) e.0 ≡ e.1
unfolding path_at
own_path e es = let same : (e.0 == e.0) ≡ true = grind (arith, nat_tests) in ap (λ b. elim (cond b (Some e.1) (at_place e.0 es)) [ Some p ↦ p | None ↦ [] ]) same

other_path : (e : ℕ × Path) (es : List (ℕ × Path)) (place : ℕ) → place < e.0 → path_at (e ∷ es) place ≡ path_at es place
unfolding path_at
other_path e es place h = let other : (e.0 == place) ≡ false = grind (arith, nat_tests) in ap (λ b. elim (cond b (Some e.1) (at_place place es)) [ Some p ↦ p | None ↦ [] ]) other

others_paths : (e : ℕ × Path) (es items : List (ℕ × Path)) → Each (λ item. item.0 < e.0) items → Each (λ item. path_at es item.0 ≡ item.1) items → Each (λ item. path_at (e ∷ es) item.0 ≡ item.1) items
others_paths e es [] h p = tt
others_paths e es (item ∷ items) h p = (other_path e es item.0 h.0 ∙ p.0, others_paths e es items h.1 p.1)

-- where places fall, each has its item's path
pub paths_apart : (high low : ℕ) (items : List (ℕ × Path)) → Falls high low items → Each (λ item. path_at items item.0 ≡ item.1) items
paths_apart high low [] f = tt
paths_apart high low (e ∷ es) f = (own_path e es, others_paths e es es (falls_below e.0 low es f.1) (paths_apart e.0 low es f.1))

-- ---- readings along which the places of these items decrease
pub record Spans (R : Reading) (items : List (ℕ × Path)) : Type 0 where
  pub falls : (t u : Text) → R t u → Falls (suc (length t)) (suc (length u)) items

module _ {T A : Type 0} (types : Texts T) (owns : Texts A) (formats : Id → Option Format) (short_types : Shortens types) (short_owns : Shortens owns) where
  abbrev L : Language ℕ T A
  L = language types owns formats

  abbrev Inner : Type 0
  Inner = Regions (Op ℕ T A) (Head ℕ T A) (Brace ℕ)

  abbrev RegionsSpan : Path → ℕ → Inner → Type 0
  RegionsSpan p j no_regions = ⊤
  RegionsSpan p j (region brace bs rs) = Spans (reads.region_read L brace (reads.block_readings L bs)) (paths_in_blocks (j ∷ p) 0 bs) × RegionsSpan p (suc j) rs

  abbrev BlocksSpan : Path → ℕ → Blocks (Op ℕ T A) (Head ℕ T A) (Brace ℕ) → Type 0
  BlocksSpan p k no_blocks = ⊤
  BlocksSpan p k (block h os bs) = Spans (reads.block_read L h (reads.operation_readings L os)) ((h.label.place, k ∷ p) ∷ paths_in_operations (k ∷ p) 0 os) × BlocksSpan p (suc k) bs

  abbrev OperationsSpan : Path → ℕ → Operations (Op ℕ T A) (Head ℕ T A) (Brace ℕ) → Type 0
  OperationsSpan p i no_operations = ⊤
  OperationsSpan p i (operation o rs os) = Spans (reads.operation_read L o (reads.region_readings L rs)) ((o.place, i ∷ p) ∷ paths_in_regions (i ∷ p) 0 rs) × OperationsSpan p (suc i) os

  -- one reading, white space, and the others
  step : (xs ys : List (ℕ × Path)) (t m u : Text) → Falls (suc (length t)) (suc (length m)) xs → Falls (suc (length (after_space m))) (suc (length u)) ys → Falls (suc (length t)) (suc (length u)) (xs ++ ys)
  step xs ys t m u f g =
      falls_both (suc (length t)) (suc (length m)) (suc (length u)) xs ys f (falls_from (suc (length (after_space m))) (suc (length m)) (suc (length u)) ys (omega (arith, space_shorter m)) g)

  regions_repeated : (p : Path) (j : ℕ) (rs : Inner) → RegionsSpan p j rs → (t u : Text) → repeated (the 123) (reads.region_readings L rs) t u → Falls (suc (length t)) (suc (length u)) (paths_in_regions p j rs)
  regions_repeated p j no_regions s t u h = omega (arith, ap length h.1)
  regions_repeated p j (region brace bs rs) s t u (m, a, b) =
      step (paths_in_blocks (j ∷ p) 0 bs) (paths_in_regions p (suc j) rs) t m u (s.0.falls t m a) (regions_repeated p (suc j) rs s.1 (after_space m) u b)

  blocks_repeated : (p : Path) (k : ℕ) (bs : Blocks (Op ℕ T A) (Head ℕ T A) (Brace ℕ)) → BlocksSpan p k bs → (t u : Text) → repeated (the 94) (reads.block_readings L bs) t u → Falls (suc (length t)) (suc (length u)) (paths_in_blocks p k bs)
  blocks_repeated p k no_blocks s t u h = omega (arith, ap length h.1)
  blocks_repeated p k (block h os bs) s t u (m, a, b) =
      step ((h.label.place, k ∷ p) ∷ paths_in_operations (k ∷ p) 0 os) (paths_in_blocks p (suc k) bs) t m u (s.0.falls t m a) (blocks_repeated p (suc k) bs s.1 (after_space m) u b)

  operations_more : (p : Path) (i : ℕ) (os : Operations (Op ℕ T A) (Head ℕ T A) (Brace ℕ)) → OperationsSpan p i os → (t u : Text) → more 59 (reads.operation_readings L os) t u → Falls (suc (length t)) (suc (length u)) (paths_in_operations p i os)
  operations_more p i no_operations s t u h = omega (arith, ap length h.1)
  operations_more p i (operation o rs os) s t u (m, l, (k, a, b)) =
      let items = paths_in_operations p i (operation o rs os) in
      falls_from (suc (length (after_space m))) (suc (length t)) (suc (length u)) items (omega (arith, space_shorter m, word_shorter (59 ∷ []) t m l))
      (step ((o.place, i ∷ p) ∷ paths_in_regions (i ∷ p) 0 rs) (paths_in_operations p (suc i) os) (after_space m) k u (s.0.falls (after_space m) k a) (operations_more p (suc i) os s.1 (after_space k) u b))

  operations_separated : (p : Path) (i : ℕ) (os : Operations (Op ℕ T A) (Head ℕ T A) (Brace ℕ)) → OperationsSpan p i os → (t u : Text) → separated 59 reads.no_operation (reads.operation_readings L os) t u
      → Falls (suc (length t)) (suc (length u)) (paths_in_operations p i os)
  operations_separated p i no_operations s t u h = omega (arith, ap length h.1)
  operations_separated p i (operation o rs os) s t u (m, a, b) =
      step ((o.place, i ∷ p) ∷ paths_in_regions (i ∷ p) 0 rs) (paths_in_operations p (suc i) os) t m u (s.0.falls t m a) (operations_more p (suc i) os s.1 (after_space m) u b)

  parts_fall : (ps : List (Part ℕ T A)) (p : Path) (j : ℕ) (rs : Inner) → RegionsSpan p j rs → (t u : Text) → reads.parts L ps (reads.region_readings L rs) t u → Falls (suc (length t)) (suc (length u)) (paths_in_regions p j rs)
  parts_fall [] p j no_regions s t u h = omega (arith, ap length h)
  parts_fall [] p j (region brace bs rs) s t u h = absurd h
  parts_fall (tree.piece x ∷ ps) p j rs s t u (m, a, b) =
      falls_from (suc (length m)) (suc (length t)) (suc (length u)) (paths_in_regions p j rs) (omega (arith, space_shorter t, (leaves_piece types owns formats short_types short_owns x).by (after_space t) m a)) (parts_fall ps p j rs s m u b)
  parts_fall (tree.region i ∷ ps) p j no_regions s t u h = absurd h
  parts_fall (tree.region i ∷ ps) p j (region brace bs rs) s t u (m, a, b) =
      falls_from (suc (length (after_space t))) (suc (length t)) (suc (length u)) (paths_in_regions p j (region brace bs rs)) (omega (arith, space_shorter t))
      (falls_both (suc (length (after_space t))) (suc (length m)) (suc (length u)) (paths_in_blocks (j ∷ p) 0 bs) (paths_in_regions p (suc j) rs) (s.0.falls (after_space t) m a) (parts_fall ps p (suc j) rs s.1 m u b))
  parts_fall (tree.regions ∷ ps) p j rs s t u (m, a, b) =
      let left : suc (length u) ≤ suc (length m) = parts_fall ps p j no_regions tt m u b in
      falls_from (suc (length (after_space t))) (suc (length t)) (suc (length u)) (paths_in_regions p j rs) (omega (arith, space_shorter t))
      (falls_to (suc (length (after_space t))) (suc (length m)) (suc (length u)) (paths_in_regions p j rs) left (regions_repeated p j rs s (after_space t) m a))

  operation_spans : (p q : Path) (o : Op ℕ T A) (rs : Inner) → RegionsSpan p 0 rs → Spans (reads.operation_read L o (reads.region_readings L rs)) ((o.place, q) ∷ paths_in_regions p 0 rs)
  operation_spans p q o rs s = record {
    falls = λ t u (at, (known, (m, names, (w, (a, dialect, (b, dot, name)), (n, body, mark))))).
        let inside = parts_fall (parts_of o.body) p 0 rs s w n body in
        let marked = (leaves_mark_if types owns formats short_types short_owns o.mark).by (after_space n) u mark in
        let named = (leaves_results_if types owns formats short_types short_owns o.names).by (after_space t) m names in
        let led = (leaves_identifier o.id.dialect).by (after_space m) a dialect in
        let dotted = word_shorter (codes ".") a b dot in
        let called = (leaves_identifier o.id.name).by b w name in (
          omega (arith, at),
          falls_from (suc (length w)) o.place (suc (length u)) (paths_in_regions p 0 rs) (omega (arith, at, space_shorter t, named, space_shorter m, led, dotted, called))
              (falls_to (suc (length w)) (suc (length n)) (suc (length u)) (paths_in_regions p 0 rs) (omega (arith, marked, space_shorter n)) inside),
        );
  }

  block_spans : (p q : Path) (h : Head ℕ T A) (os : Operations (Op ℕ T A) (Head ℕ T A) (Brace ℕ)) → OperationsSpan p 0 os → Spans (reads.block_read L h (reads.operation_readings L os)) ((h.label.place, q) ∷ paths_in_operations p 0 os)
  block_spans p q h os s = record {
    falls = λ t u (m1, (at, (c, caret, label)), (m2, opened, (m3, arguments, (m4, shut, (m5, attributes, (m6, mark, (m7, colon, held))))))).
        let inside = operations_separated p 0 os s (after_space m7) u held in
        let l1 = word_shorter (codes "^") t c caret in
        let l2 = (leaves_identifier h.label.text).by c m1 label in
        let l3 = word_shorter (codes "(") (after_space m1) m2 opened in
        let l4 = (leaves_arguments types owns formats short_types short_owns h.arguments).by (after_space m2) m3 arguments in
        let l5 = word_shorter (codes ")") (after_space m3) m4 shut in
        let l6 = (leaves_dictionary_if types owns formats short_types short_owns h.attributes).by (after_space m4) m5 attributes in
        let l7 = (leaves_mark_if types owns formats short_types short_owns h.mark).by (after_space m5) m6 mark in
        let l8 = word_shorter (codes ":") (after_space m6) m7 colon in
        let tail : length (after_space m7) ≤ length m4 = omega (arith, space_shorter m4, l6, space_shorter m5, l7, space_shorter m6, l8, space_shorter m7) in (
          omega (arith, at),
          falls_from (suc (length (after_space m7))) h.label.place (suc (length u)) (paths_in_operations p 0 os) (omega (arith, at, l1, l2, space_shorter m1, l3, space_shorter m2, l4, space_shorter m3, l5, tail)) inside,
        );
  }

  pub region_spans : (p : Path) (brace : Brace ℕ) (bs : Blocks (Op ℕ T A) (Head ℕ T A) (Brace ℕ)) → BlocksSpan p 0 bs → Spans (reads.region_read L brace (reads.block_readings L bs)) (paths_in_blocks p 0 bs)
  region_spans p elided no_blocks s = record { falls = λ t u h. absurd h }
  region_spans p elided (block h os bs) s = record { falls = λ t u h. absurd h }
  region_spans p (shown place) bs s = record {
    falls = λ t u (at, (m, opened, (k, held, shut))).
        let inside = blocks_repeated p 0 bs s (after_space m) k held in
        let l1 = word_shorter (codes "{") t m opened in
        let l2 = word_shorter (codes "}") (after_space k) u shut in
        falls_from (suc (length (after_space m))) (suc (length t)) (suc (length u)) (paths_in_blocks p 0 bs) (omega (arith, l1, space_shorter m))
        (falls_to (suc (length (after_space m))) (suc (length k)) (suc (length u)) (paths_in_blocks p 0 bs) (omega (arith, l2, space_shorter k)) inside);
  }

  mutual
    regions_span : (p : Path) (j : ℕ) (rs : Inner) → RegionsSpan p j rs
    regions_span p j no_regions = tt
    regions_span p j (region brace bs rs) = (region_spans (j ∷ p) brace bs (blocks_span (j ∷ p) 0 bs), regions_span p (suc j) rs)

    pub blocks_span : (p : Path) (k : ℕ) (bs : Blocks (Op ℕ T A) (Head ℕ T A) (Brace ℕ)) → BlocksSpan p k bs
    blocks_span p k no_blocks = tt
    blocks_span p k (block h os bs) = (block_spans (k ∷ p) (k ∷ p) h os (operations_span (k ∷ p) 0 os), blocks_span p (suc k) bs)

    operations_span : (p : Path) (i : ℕ) (os : Operations (Op ℕ T A) (Head ℕ T A) (Brace ℕ)) → OperationsSpan p i os
    operations_span p i no_operations = tt
    operations_span p i (operation o rs os) = (operation_spans (i ∷ p) (i ∷ p) o rs (regions_span (i ∷ p) 0 rs), operations_span p (suc i) os)

  -- the places of the items of a tree that a text parses as fall along the text
  pub places_fall : (t : Tree ℕ T A) (text rest : Text) → reads.reads L t text rest → Falls (suc (length text)) (suc (length rest)) (paths_in t)
  places_fall t text rest h = (operation_spans [] [] t.own t.regions (regions_span [] 0 t.regions)).falls text rest h

  -- so each has a place of its own, and there is a function that says the path of each
  pub names_exist : (t : Tree ℕ T A) (text rest : Text) → reads.reads L t text rest → (path : ℕ → Path) × Names path t
  names_exist t text rest h = (path_at (paths_in t), paths_apart (suc (length text)) (suc (length rest)) (paths_in t) (places_fall t text rest h))

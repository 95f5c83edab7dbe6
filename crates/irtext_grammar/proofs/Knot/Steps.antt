-- The parts of a body that a format parses are those of the format's steps, before the first region and from there on.
use Rattle.std.proofs.Common.{◌≡◌, ◌∙◌, ℕ, true, not, List, [], ◌∷◌, ◌++◌, map, Some, None, codes, refl, sym, ap, ap₂, true≢false}
use Rattle.std.specs.Prelude.{⊤}
use Rattle.std.specs.List.{list_all}
use Rattle.irtext_base.specs.Text.{Text}
use Rattle.irtext_base.specs.Format as format
use Rattle.irtext_base.specs.Format.{Format, Directive, Id, Accepted, is_any_region}
use Rattle.irtext_context.specs.Dialects.{Table}
use Rattle.irtext_grammar.specs.Contexts.Formats.{format_of}
use Rattle.irtext_grammar.specs.Grammar.Tree as tree
use Rattle.irtext_grammar.specs.Grammar.Tree.{Name, Attribute, Piece, Part, Body, IsOf, parts_of, directive, directive_of_piece}
use Rattle.irtext_grammar.proofs.Joins.Body.{accepted_orderly}
use Rattle.irtext_grammar.proofs.Joins.PartSteps.{Orderly}
use Rattle.irtext_grammar.specs.Heads.{Step, flat, types, one, all, step_of, canonical_steps, steps_of, region_steps}
use Rattle.irtext_grammar.specs.Exact.{IsOfStep}
use Rattle.irtext_grammar.specs.Reached.{steps_in, front_parts, region_parts}
use Rattle.irtext_grammar.proofs.Exact.Pieces.{is_made, is_types}

module _ {T A : Type 0} where
  -- the part is one that the step parses
  abbrev pub IsPartOf : Part ℕ T A → Step → Type 0
  IsPartOf (tree.piece p) step = IsOfStep step p
  IsPartOf (tree.region i) (one j) = i ≡ j
  IsPartOf tree.regions all = ⊤
  IsPartOf _ _ = ⊥

  -- the parts are those of the steps, in their order
  abbrev pub ArePartsOf : List (Part ℕ T A) → List Step → Type 0
  ArePartsOf [] [] = ⊤
  ArePartsOf (p ∷ ps) (s ∷ ss) = IsPartOf p s × ArePartsOf ps ss
  ArePartsOf _ _ = ⊥

  -- ---- a body's parts are those of its format's steps
  piece_step : (p : Piece ℕ T A) (d : Directive) → directive_of_piece p ≡ Some d → IsOfStep (step_of d) p
  piece_step p (format.region i) e = absurd (is_made (format.region i) p e)
  piece_step p format.regions e = absurd (is_made format.regions p e)
  piece_step p _ e = e

  part_step : (p : Part ℕ T A) (d : Directive) → directive p ≡ Some d → IsPartOf p (step_of d)
  part_step (tree.piece p) d e = piece_step p d e
  part_step (tree.region i) (format.region j) e = cc e
  part_step (tree.region i) _ e = absurd (cc e)
  part_step tree.regions format.regions e = tt
  part_step tree.regions _ e = absurd (cc e)

  parts_steps : (ps : List (Part ℕ T A)) (ds : List Directive) → map directive ps ≡ map Some ds → ArePartsOf ps (map step_of ds)
  parts_steps [] [] e = tt
  parts_steps [] (d ∷ ds) e = absurd (cc e)
  parts_steps (p ∷ ps) [] e = absurd (cc e)
  parts_steps (p ∷ ps) (d ∷ ds) e = (part_step p d (cc e), parts_steps ps ds (cc e))

  -- the parts of a body are those of the steps of its format
  pub body_steps : (f : Format) (body : Body ℕ T A) → IsOf f body → ArePartsOf (parts_of body) (steps_of f)
  body_steps format.canonical (tree.canonical names labels entries operand_types result_types) e =
      (refl, (refl, (refl, (refl, (refl, (refl, (refl, (refl, (refl, (refl, (tt, (refl, (refl, (refl, (tt, (refl, (refl, (tt, tt))))))))))))))))))
  body_steps format.canonical (tree.custom ps) e = absurd e
  body_steps (format.custom ds) (tree.custom ps) e = parts_steps ps ds e
  body_steps (format.custom ds) (tree.canonical names labels entries operand_types result_types) e = absurd e

  -- ---- and parts of a format's steps are those of a body
  piece_directive : (p : Piece ℕ T A) (d : Directive) → IsOfStep (step_of d) p → directive_of_piece p ≡ Some d
  piece_directive p (format.region i) e = absurd e
  piece_directive p format.regions e = absurd e
  piece_directive p _ e = e

  part_directive : (p : Part ℕ T A) (d : Directive) → IsPartOf p (step_of d) → directive p ≡ Some d
  part_directive (tree.piece p) d e = piece_directive p d e
  part_directive (tree.region i) (format.region j) e = ap (λ i. Some (format.region i)) e
  part_directive (tree.region i) _ e = absurd e
  part_directive tree.regions format.regions e = refl
  part_directive tree.regions _ e = absurd e

  parts_directives : (ps : List (Part ℕ T A)) (ds : List Directive) → ArePartsOf ps (map step_of ds) → map directive ps ≡ map Some ds
  parts_directives [] [] e = refl
  parts_directives [] (d ∷ ds) e = absurd e
  parts_directives (p ∷ ps) [] e = absurd e
  parts_directives (p ∷ ps) (d ∷ ds) e = ap₂ ◌∷◌ (part_directive p d e.0) (parts_directives ps ds e.1)

  flat_piece : (d : Directive) (p : Part ℕ T A) → IsPartOf p (flat d) → (q : Piece ℕ T A) × (p ≡ tree.piece q) × IsOfStep (flat d) q
  flat_piece d (tree.piece q) h = (q, refl, h)
  flat_piece d (tree.region i) h = absurd h
  flat_piece d tree.regions h = absurd h

  types_piece : (p : Part ℕ T A) → IsPartOf p types → (q : Piece ℕ T A) × (p ≡ tree.piece q) × IsOfStep types q
  types_piece (tree.piece q) h = (q, refl, h)
  types_piece (tree.region i) h = absurd h
  types_piece tree.regions h = absurd h

  -- the parts of these steps are made so, of something
  record MadeSo {X : Type 0} (ss : List Step) (parts : X → List (Part ℕ T A)) : Type 0 where
    pub from : (ps : List (Part ℕ T A)) → ArePartsOf ps ss → (x : X) × (ps ≡ parts x)

  -- with a list before the parts
  list_before : {X Y : Type 0} {ss : List Step} {parts : X → List (Part ℕ T A)} (see : List Y → Piece ℕ T A) (s : Step)
      → ((p : Piece ℕ T A) → IsOfStep s p → (ys : List Y) × (see ys ≡ p)) → ((p : Part ℕ T A) → IsPartOf p s → (q : Piece ℕ T A) × (p ≡ tree.piece q) × IsOfStep s q)
      → MadeSo ss parts → MadeSo {X = List Y × X} (s ∷ ss) (λ x. tree.piece (see x.0) ∷ parts x.1)
  list_before {X} {Y} {ss} {parts} see s is piece h = record { from = go }
    where
      go : (ps : List (Part ℕ T A)) → ArePartsOf ps (s ∷ ss) → (x : List Y × X) × (ps ≡ tree.piece (see x.0) ∷ parts x.1)
      go [] k = absurd k
      go (p ∷ ps) k =
          let q = piece p k.0 in
          let l = is q.0 q.2 in
          let m = h.from ps k.1 in
          ((l.0, m.0), ap₂ ◌∷◌ (q.1 ∙ ap (λ p. tree.piece p) (sym l.1)) m.1)

  -- with a word before the parts
  word_before : {X : Type 0} {ss : List Step} {parts : X → List (Part ℕ T A)} (w : Text) → MadeSo ss parts → MadeSo (flat (format.word w) ∷ ss) (λ x. tree.piece (tree.word w) ∷ parts x)
  word_before {X} {ss} {parts} w h = record { from = go }
    where
      go : (ps : List (Part ℕ T A)) → ArePartsOf ps (flat (format.word w) ∷ ss) → (x : X) × (ps ≡ tree.piece (tree.word w) ∷ parts x)
      go [] k = absurd k
      go (p ∷ ps) k =
          let q = flat_piece (format.word w) p k.0 in
          let m = h.from ps k.1 in
          (m.0, ap₂ ◌∷◌ (q.1 ∙ ap (λ p. tree.piece p) (sym (is_made (format.word w) q.0 q.2).1)) m.1)

  -- all regions that are left
  regions_alone : MadeSo {X = Unit {0}} (all ∷ []) (λ x. tree.regions ∷ [])
  regions_alone = record { from = go }
    where
      go : (ps : List (Part ℕ T A)) → ArePartsOf ps (all ∷ []) → (x : Unit {0}) × (ps ≡ tree.regions ∷ [])
      go [] h = absurd h
      go (tree.piece p ∷ ps) h = absurd h.0
      go (tree.region i ∷ ps) h = absurd h.0
      go (tree.regions ∷ []) h = (tt, refl)
      go (tree.regions ∷ (p ∷ ps)) h = absurd h.1

  -- the parts of a canonical body
  canonical_so : MadeSo {X = List (Name ℕ) × (List (Name ℕ) × (List (Name ℕ × Attribute A) × (List T × (List T × Unit {0}))))} canonical_steps (λ x. parts_of (tree.canonical x.0 x.1.0 x.1.1.0 x.1.1.1.0 x.1.1.1.1.0))
  canonical_so = word_before (codes "(") (list_before tree.operands (flat format.operands) (is_made format.operands) (flat_piece format.operands)
      (word_before (codes ")") (word_before (codes "[") (list_before tree.successors (flat format.successors) (is_made format.successors) (flat_piece format.successors)
      (word_before (codes "]") (list_before tree.dictionary (flat format.dictionary) (is_made format.dictionary) (flat_piece format.dictionary)
      (word_before (codes ":") (word_before (codes "<") (word_before (codes "(") (list_before tree.types types is_types types_piece
      (word_before (codes ")") (word_before (codes "->") (word_before (codes "(") (list_before tree.types types is_types types_piece
      (word_before (codes ")") (word_before (codes ">") regions_alone))))))))))))))))

  -- a body with these parts, of this format
  pub record BodyOf (f : Format) (ps : List (Part ℕ T A)) : Type 0 where
    pub body : Body ℕ T A
    pub is_of : IsOf f body
    pub parts : parts_of body ≡ ps

  canonical_body : (ps : List (Part ℕ T A)) → ArePartsOf ps canonical_steps → BodyOf format.canonical ps
  canonical_body ps h =
      let m = canonical_so.from ps h in
      record { body = tree.canonical m.0.0 m.0.1.0 m.0.1.1.0 m.0.1.1.1.0 m.0.1.1.1.1.0; is_of = tt; parts = sym m.1 }

  -- parts of a format's steps are those of a body that the format parses
  pub body_of_steps : (f : Format) (ps : List (Part ℕ T A)) → ArePartsOf ps (steps_of f) → BodyOf f ps
  body_of_steps format.canonical ps h = canonical_body ps h
  body_of_steps (format.custom ds) ps h = record { body = tree.custom ps; is_of = parts_directives ps ds h; parts = refl }

  -- ---- before the first region, and from there on
  -- the parts from the first region on are those of the steps from there on
  pub region_fit : (ps : List (Part ℕ T A)) (ss : List Step) → ArePartsOf ps ss → ArePartsOf (region_parts ps) (region_steps ss)
  region_fit [] [] h = tt
  region_fit [] (step ∷ ss) h = absurd h
  region_fit (p ∷ ps) [] h = absurd h
  region_fit (tree.piece p ∷ ps) (flat d ∷ ss) h = region_fit ps ss h.1
  region_fit (tree.piece p ∷ ps) (types ∷ ss) h = region_fit ps ss h.1
  region_fit (tree.region i ∷ ps) (one j ∷ ss) h = h
  region_fit (tree.regions ∷ ps) (all ∷ ss) h = h
  region_fit (p ∷ ps) (step ∷ ss) h = absurd h.0

  -- both make up all parts
  pub split_parts : (ps : List (Part ℕ T A)) → front_parts ps ++ region_parts ps ≡ ps
  split_parts [] = refl
  split_parts (tree.piece p ∷ ps) = ap (λ ps. tree.piece p ∷ ps) (split_parts ps)
  split_parts (tree.region i ∷ ps) = refl
  split_parts (tree.regions ∷ ps) = refl

-- the steps of an operation whose format is known
pub steps_known : (dialects : List (Text × Table)) (id : Id) (f : Format) → format_of dialects id ≡ Some f → steps_in dialects id ≡ steps_of f
steps_known dialects id f e = ap (λ o. elim o [ Some f ↦ steps_of f | None ↦ [] ]) e

-- ---- after the step that parses all other regions, no step parses a region
-- no step parses a region
abbrev pub ArePieces : List Step → Type 0
ArePieces [] = ⊤
ArePieces (flat d ∷ ss) = ArePieces ss
ArePieces (types ∷ ss) = ArePieces ss
ArePieces (one i ∷ ss) = ⊥
ArePieces (all ∷ ss) = ⊥

-- no step parses a region after the step of all other regions
abbrev pub EndsRegions : List Step → Type 0
EndsRegions [] = ⊤
EndsRegions (all ∷ ss) = ArePieces ss
EndsRegions (_ ∷ ss) = EndsRegions ss

no_steps : (ds : List Directive) → list_all (λ d. not (is_any_region d)) ds ≡ true → ArePieces (map step_of ds)
no_steps [] e = tt
no_steps (format.region i ∷ ds) e = absurd (true≢false (sym e))
no_steps (format.regions ∷ ds) e = absurd (true≢false (sym e))
no_steps (_ ∷ ds) e = no_steps ds e

orderly_steps : (ds : List Directive) → Orderly ds → EndsRegions (map step_of ds)
orderly_steps [] h = tt
orderly_steps (format.regions ∷ ds) h = no_steps ds h.0
orderly_steps (_ ∷ ds) h = orderly_steps ds h.1

accepted_steps : (f : Format) → Accepted f → EndsRegions (steps_of f)
accepted_steps format.canonical h = tt
accepted_steps (format.custom ds) h = orderly_steps ds (accepted_orderly ds h)

last_steps : (ss : List Step) → EndsRegions ss → EndsRegions (region_steps ss)
last_steps [] h = tt
last_steps (one i ∷ ss) h = h
last_steps (all ∷ ss) h = h
last_steps (flat d ∷ ss) h = last_steps ss h
last_steps (types ∷ ss) h = last_steps ss h

-- in the steps of an accepted format, none parses a region after the step of all other regions
pub ends_regions : (f : Format) → Accepted f → EndsRegions (region_steps (steps_of f))
ends_regions f h = last_steps (steps_of f) (accepted_steps f h)

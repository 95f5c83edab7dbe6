-- How many operands and successors the whole body of an operation names: as many as were used by the pieces before its first region.
use Rattle.std.proofs.Common.{◌≡◌, ◌∙◌, ◌+◌, ℕ, Bool, true, List, [], ◌∷◌, ◌++◌, length, map, flat_map, Some, refl, sym, ap, ap₂, subst, arith, append-nil, length-append}
use Rattle.irtext_base.specs.Text.{Text}
use Rattle.irtext_base.specs.Format as format
use Rattle.irtext_base.specs.Format.{Format, Directive, Id, Accepted, are_places}
use Rattle.irtext_format_check.specs.Conditions.{WritesNamesOrType}
use Rattle.irtext_grammar.specs.Grammar.Tree as tree
use Rattle.irtext_grammar.specs.Grammar.Tree.{Name, Piece, Part, parts_of, views, in_order, directive_of_piece, operand_names, successor_labels}
use Rattle.irtext_grammar.proofs.Lists.InOrder.{firsts, firsts_length}
use Rattle.irtext_grammar.proofs.Lists.Numbering.{in_order_length}
use Rattle.irtext_grammar.specs.Heads.{Step, flat, types, one, all, step_of, steps_of, canonical_steps, front_steps, region_steps}
use Rattle.irtext_grammar.specs.Naming.{body_of, canonical_of, unmarked, single_operands, single_successors}
use Rattle.irtext_grammar.specs.declared.parsed.ReadName.{ReadName}
use Rattle.irtext_grammar.specs.declared.parsed.ReadPiece.{ReadPiece}
use Rattle.irtext_grammar.specs.Parsed.{Each, IsPiece}
use Rattle.irtext_parse_nested.specs.Beginning.{ArePartsOf}
use Rattle.irtext_parse_nested.specs.OpenOperation.{ReadNeither}
use Rattle.irtext_names.specs.Gathering.{operand_place, successor_place, operand_list, successor_list, type_list}
use Rattle.irtext_parse_nested.proofs.BegunParts.{single_operand, named_operands, single_successor, named_successors, views_both, views_pieces, after_neither, operand_places_are, successor_places_are, later_untyped, listed_later, two_lists, only_regions, alike}
use Rattle.irtext_parse_nested.proofs.StepParts.{AreOfSteps, picked, operand_of, successor_of}

-- parts of steps that parse no name show none
module _ {T A X : Type 0} (G : Piece ℕ T A → List X) (quiet : (q : Piece ℕ T A) (d : Directive) → directive_of_piece q ≡ Some d → (WritesNamesOrType d → ⊥) → G q ≡ []) where
  later_quiet : (ss : List Step) (later : List (Part ℕ T A)) → ReadNeither ss → ArePartsOf ss later → views G later ≡ []
  later_quiet [] [] n a = refl
  later_quiet (s ∷ ss) [] n a = absurd a
  later_quiet [] (p ∷ later) n a = absurd a
  later_quiet (one i ∷ ss) (tree.region j ∷ later) n a = later_quiet ss later n.1 a.1
  later_quiet (one i ∷ ss) (tree.regions ∷ later) n a = absurd a.0
  later_quiet (one i ∷ ss) (tree.piece q ∷ later) n a = absurd a.0
  later_quiet (all ∷ ss) (tree.region j ∷ later) n a = absurd a.0
  later_quiet (all ∷ ss) (tree.regions ∷ later) n a = later_quiet ss later n.1 a.1
  later_quiet (all ∷ ss) (tree.piece q ∷ later) n a = absurd a.0
  later_quiet (types ∷ ss) (p ∷ later) n a = absurd n.0
  later_quiet (flat d ∷ ss) (tree.region j ∷ later) n a = absurd a.0
  later_quiet (flat d ∷ ss) (tree.regions ∷ later) n a = absurd a.0
  later_quiet (flat d ∷ ss) (tree.piece q ∷ later) n a = ap₂ ◌++◌ (quiet q d a.0 n.0) (later_quiet ss later n.1 a.1)

loud : (d e : Directive) → Some d ≡ Some e → WritesNamesOrType d → WritesNamesOrType e
loud d e f w = let g : d ≡ e = cc f in subst WritesNamesOrType g w

-- the parts of the body that any operation can have, with two lists of types
module _ {T A X : Type 0} (G : Piece ℕ T A → List X) where
  canonical_shown : (H : List (Name ℕ) → List (Name ℕ) → List X) → ((a b : List (Name ℕ)) (es : _) (xs ys : List T) → views G (parts_of (tree.canonical a b es xs ys)) ≡ H a b)
      → (ls : List (List T)) (ps : List (Part ℕ T A)) → length ls ≡ 2
      → views G (parts_of (canonical_of ls ps)) ≡ H (views (λ p. elim p [ tree.operands ns ↦ ns | _ ↦ [] ]) ps) (views (λ p. elim p [ tree.successors ns ↦ ns | _ ↦ [] ]) ps)
  canonical_shown H h [] ps e = absurd (omega (arith, e))
  canonical_shown H h (xs ∷ []) ps e = absurd (omega (arith, e))
  canonical_shown H h (xs ∷ ys ∷ ls) ps e = h _ _ _ xs ys

firsts_both : {X : Type 0} (xs ys : List (ℕ × X)) → firsts (xs ++ ys) ≡ firsts xs ++ firsts ys
firsts_both [] ys = refl
firsts_both (x ∷ xs) ys = ap (λ z. x.0 ∷ z) (firsts_both xs ys)

-- ---- names of one kind: operands, or successors
-- What was parsed and the piece show of names of one kind: the place of one with a directive of its own, and a list. Where a directive
-- parses no name, there are none; the canonical form has only a list.
pub record Kind {T A : Type 0} (place : ReadPiece T A → List ℕ) (list : ReadPiece T A → List ReadName) (single : Piece ℕ T A → List (ℕ × Name ℕ)) (named : Piece ℕ T A → List (Name ℕ)) : Type 0 where
  seen : (table : List Text) (text : Text) (r : ReadPiece T A) (p : Piece ℕ T A) → IsPiece table text r p → (place r ≡ firsts (single p)) × (length (list r) ≡ length (named p))
  quiet : (q : Piece ℕ T A) (d : Directive) → directive_of_piece q ≡ Some d → (WritesNamesOrType d → ⊥) → (single q ≡ []) × (named q ≡ [])
  canonical : (ls : List (List T)) (ps : List (Part ℕ T A)) → length ls ≡ 2
      → (views single (parts_of (canonical_of ls ps)) ≡ []) × (views named (parts_of (canonical_of ls ps)) ≡ views named ps)

module _ {T A : Type 0} (place : ReadPiece T A → List ℕ) (list : ReadPiece T A → List ReadName) (single : Piece ℕ T A → List (ℕ × Name ℕ)) (named : Piece ℕ T A → List (Name ℕ)) (kind : Kind place list single named)
    (table : List Text) (text : Text) (inside : Bool) where
  places_seen : (rs : List (ReadPiece T A)) (ps : List (Piece ℕ T A)) → Each (IsPiece table text) rs ps → flat_map place rs ≡ firsts (flat_map single ps)
  places_seen [] [] e = refl
  places_seen [] (p ∷ ps) e = absurd e
  places_seen (r ∷ rs) [] e = absurd e
  places_seen (r ∷ rs) (p ∷ ps) e = ap₂ ◌++◌ (kind.seen table text r p e.0).0 (places_seen rs ps e.1) ∙ sym (firsts_both (single p) (flat_map single ps))

  lists_seen : (rs : List (ReadPiece T A)) (ps : List (Piece ℕ T A)) → Each (IsPiece table text) rs ps → length (flat_map list rs) ≡ length (flat_map named ps)
  lists_seen [] [] e = refl
  lists_seen [] (p ∷ ps) e = absurd e
  lists_seen (r ∷ rs) [] e = absurd e
  lists_seen (r ∷ rs) (p ∷ ps) e =
      let a = (kind.seen table text r p e.0).1 in let b = lists_seen rs ps e.1 in
      let m = length-append (list r) (flat_map list rs) in let n = length-append (named p) (flat_map named ps) in
      omega (arith, a, b, m, n)

  module _ (rs : List (ReadPiece T A)) (ps : List (Piece ℕ T A)) (each : Each (IsPiece table text) rs ps) where
    single_length : are_places (flat_map place rs) ≡ true → length (in_order (flat_map single ps)) ≡ length (flat_map place rs)
    single_length are =
        let same = places_seen rs ps each in
        in_order_length (flat_map single ps) (ap are_places (sym same) ∙ are) ∙ (sym (firsts_length (flat_map single ps)) ∙ ap length (sym same))

    -- what the pieces show is all that is shown, where nothing is of what comes later
    front_alone : {X : Type 0} (G : Piece ℕ T A → List X) (later : List (Part ℕ T A)) → views G later ≡ [] → views G (map (λ p. tree.piece p) ps ++ later) ≡ flat_map G ps
    front_alone G later none = views_both G (map (λ p. tree.piece p) ps) later
        ∙ (ap (λ z. views G (map (λ p. tree.piece p) ps) ++ z) none ∙ (append-nil (views G (map (λ p. tree.piece p) ps)) ∙ views_pieces G ps))

    -- the whole body names as many as were used
    pub names_counted : (f : Format) → Accepted f → AreOfSteps inside (front_steps (steps_of f)) ps → (n : ℕ) → (are_places (flat_map place rs) ≡ true) × (n ≡ length (flat_map place rs))
        → (f ≡ format.canonical → n ≡ 0) → (later : List (Part ℕ T A)) → ArePartsOf (region_steps (steps_of f)) later
        → length (in_order (views single (parts_of (body_of (Some f) (map (λ p. tree.piece p) ps ++ later)))) ++ views named (parts_of (body_of (Some f) (map (λ p. tree.piece p) ps ++ later))))
        ≡ length (flat_map place rs) + length (flat_map list rs)
    names_counted (format.custom ds) a of n are zero_if later l =
        let following = after_neither (format.custom ds) a in
        let singles = front_alone single later (later_quiet single (λ q d e w. (kind.quiet q d e w).0) (region_steps (map step_of ds)) later following l) in
        let others = front_alone named later (later_quiet named (λ q d e w. (kind.quiet q d e w).1) (region_steps (map step_of ds)) later following l) in
        let all = ap₂ (λ x y. length (in_order x ++ y)) singles others in
        let m = length-append (in_order (flat_map single ps)) (flat_map named ps) in
        let k = single_length are.0 in
        let c = lists_seen rs ps each in
        omega (arith, all, m, k, c)
    names_counted format.canonical a of n are zero_if later l =
        let none : later ≡ tree.regions ∷ [] = only_regions later l in
        let h = later_untyped (all ∷ []) later (tt, tt) l in
        let body : body_of (Some format.canonical) (map (λ p. tree.piece p) ps ++ later) ≡ canonical_of (flat_map type_list rs) (map (λ p. tree.piece p) ps ++ later) =
        ap (λ ls. canonical_of ls (map (λ p. tree.piece p) ps ++ later)) (listed_later table text inside rs ps each later h) in
        let shown = kind.canonical (flat_map type_list rs) (map (λ p. tree.piece p) ps ++ later) (two_lists table text inside rs ps each of) in
        let whole = ap (λ b. length (in_order (views single (parts_of b)) ++ views named (parts_of b))) body in
        let all = ap₂ (λ x y. length (in_order x ++ y)) shown.0 (shown.1 ∙ front_alone named later (ap (views named) none)) in
        let z = sym are.1 ∙ zero_if refl in
        let c = lists_seen rs ps each in
        omega (arith, whole, all, z, c)

-- ---- operands and successors
operands_quiet : {T A : Type 0} (q : Piece ℕ T A) (d : Directive) → directive_of_piece q ≡ Some d → (WritesNamesOrType d → ⊥) → (single_operand q ≡ []) × (named_operands q ≡ [])
operands_quiet (tree.operand i n) d e w = absurd (w (loud (format.operand i) d e tt))
operands_quiet (tree.operands ns) d e w = absurd (w (loud format.operands d e tt))
operands_quiet q d e w = (refl, refl)

successors_quiet : {T A : Type 0} (q : Piece ℕ T A) (d : Directive) → directive_of_piece q ≡ Some d → (WritesNamesOrType d → ⊥) → (single_successor q ≡ []) × (named_successors q ≡ [])
successors_quiet (tree.successor i n) d e w = absurd (w (loud (format.successor i) d e tt))
successors_quiet (tree.successors ns) d e w = absurd (w (loud format.successors d e tt))
successors_quiet q d e w = (refl, refl)

-- the place of a piece is that of its directive
firsts_are : {T A : Type 0} (p : Piece ℕ T A) → (picked operand_of (directive_of_piece p) ≡ firsts (single_operand p)) × (picked successor_of (directive_of_piece p) ≡ firsts (single_successor p))
firsts_are (tree.operand i n) = (refl, refl)
firsts_are p = (refl, refl)

operand_kind : {T A : Type 0} → Kind {T = T} {A = A} operand_place operand_list single_operand named_operands
operand_kind = record {
  quiet = operands_quiet;
  seen = λ table text r p e. let a = alike table text r p e in (a.operand ∙ (firsts_are p).0, a.operand_names);
  canonical = λ ls ps two. (canonical_shown single_operand (λ a b. []) (λ a b es xs ys. refl) ls ps two, canonical_shown named_operands (λ a b. a) (λ a b es xs ys. append-nil a) ls ps two);
}

successor_kind : {T A : Type 0} → Kind {T = T} {A = A} successor_place successor_list single_successor named_successors
successor_kind = record {
  quiet = successors_quiet;
  seen = λ table text r p e. let a = alike table text r p e in (a.successor ∙ (firsts_are p).1, a.successor_names);
  canonical = λ ls ps two. (canonical_shown single_successor (λ a b. []) (λ a b es xs ys. refl) ls ps two, canonical_shown named_successors (λ a b. b) (λ a b es xs ys. append-nil b) ls ps two);
}

module _ {T A : Type 0} (table : List Text) (text : Text) (inside : Bool) (rs : List (ReadPiece T A)) (ps : List (Piece ℕ T A)) (each : Each (IsPiece table text) rs ps) where
  pub operands_counted : (f : Format) → Accepted f → AreOfSteps inside (front_steps (steps_of f)) ps → (place : ℕ) (names : List (Name ℕ)) (id : Id) (later : List (Part ℕ T A)) → ArePartsOf (region_steps (steps_of f)) later
      → length (operand_names (unmarked place names id (body_of (Some f) (map (λ p. tree.piece p) ps ++ later)))) ≡ length (flat_map operand_place rs) + length (flat_map operand_list rs)
  operands_counted f a of place names id later l = names_counted operand_place operand_list single_operand named_operands operand_kind table text inside rs ps each f a of
      (single_operands (Some f)) (operand_places_are table text inside rs ps each f a of) (λ e. ap (λ g. single_operands (Some g)) e) later l

  pub successors_counted : (f : Format) → Accepted f → AreOfSteps inside (front_steps (steps_of f)) ps → (place : ℕ) (names : List (Name ℕ)) (id : Id) (later : List (Part ℕ T A)) → ArePartsOf (region_steps (steps_of f)) later
      → length (successor_labels (unmarked place names id (body_of (Some f) (map (λ p. tree.piece p) ps ++ later)))) ≡ length (flat_map successor_place rs) + length (flat_map successor_list rs)
  successors_counted f a of place names id later l = names_counted successor_place successor_list single_successor named_successors successor_kind table text inside rs ps each f a of
      (single_successors (Some f)) (successor_places_are table text inside rs ps each f a of) (λ e. ap (λ g. single_successors (Some g)) e) later l

-- The parts before an operation's first region are those of its steps.
use Rattle.std.proofs.Common.{◌≡◌, ◌∙◌, ℕ, suc, Bool, true, false, cond, not, ◌&&◌, List, [], ◌∷◌, ◌++◌, length, map, flat_map, filter_map, option_to_list, if◌then◌else◌, Option, Some, None, refl, sym, ap, ap₂, subst, append_assoc, append-nil, true≢false}
use Rattle.std.specs.Prelude.{⊤}
use Rattle.std.specs.List.{list_all, cons_option}
use Rattle.irtext_base.specs.Text.{Text}
use Rattle.irtext_base.specs.Format as format
use Rattle.irtext_base.specs.Format.{Directive, Accepted, count, c1, c2, c3, c4, c5, c6, c7}
use Rattle.irtext_base.specs.Answers.{Outcome, Read, Missing, Bad, mapped, followed}
use Rattle.irtext_base.specs.Locations.{AttrView}
use Rattle.irtext_tokens.specs.Infix.{Reader, ◌▷◌}
use Rattle.irtext_tokens.specs.ListOutcomes.{items_after, or_empty, separated_at}
use Rattle.irtext_tokens.specs.Tokens.{space_at, word}
use Rattle.irtext_grammar.specs.Grammar.Tree as tree
use Rattle.irtext_grammar.specs.Grammar.Tree.{Name, Piece, Part, directive_of_piece}
use Rattle.irtext_grammar.proofs.Graphs.FitsFormat.{and_left, and_right}
use Rattle.irtext_grammar.proofs.Joins.Answers.{followed_read, mapped_read}
use Rattle.irtext_grammar.specs.Exact.{IsOfStep, UsesNone}
use Rattle.irtext_grammar.specs.Heads.{Step, flat, types, one, all, step_of, front_steps, used_at, target_at, symbol_at, dictionary_by, outlined_or_at, piece_at, setting}
use Rattle.irtext_grammar.specs.Resume.{front_at}
use Rattle.irtext_grammar.proofs.Exact.Outside.{used_never, target_never}

-- each piece is one that its step parses, and uses no name outside of each region
abbrev pub AreOfSteps : {T A : Type 0} → Bool → List Step → List (Piece ℕ T A) → Type 0
AreOfSteps inside [] [] = ⊤
AreOfSteps inside [] (p ∷ ps) = ⊥
AreOfSteps inside (s ∷ ss) [] = ⊥
AreOfSteps inside (s ∷ ss) (p ∷ ps) = IsOfStep s p × (inside ≡ false → UsesNone p) × AreOfSteps inside ss ps

module _ {T A : Type 0} (types_at : Text → Outcome T) (attr : Text → Outcome (AttrView A)) where
  -- what a step parses is a piece of it
  pub piece_of : (inside : Bool) (step : Step) (text : Text) (p : Piece ℕ T A) (taken rest : Text) → piece_at types_at attr (setting inside false) step text ≡ Read p taken rest → IsOfStep step p
  piece_of inside (flat (format.word s)) text p taken rest e = subst (IsOfStep (flat (format.word s))) (mapped_read (λ _. tree.word s) (word s text) p taken rest e).2 refl
  piece_of inside (flat (format.operand i)) text p taken rest e = subst (IsOfStep (flat (format.operand i))) (mapped_read (tree.operand i) (used_at inside text) p taken rest e).2 refl
  piece_of inside (flat format.operands) text p taken rest e = subst (IsOfStep (flat format.operands)) (mapped_read tree.operands (separated_at 44 (used_at inside) text) p taken rest e).2 refl
  piece_of inside (flat (format.successor i)) text p taken rest e = subst (IsOfStep (flat (format.successor i))) (mapped_read (tree.successor i) (target_at inside text) p taken rest e).2 refl
  piece_of inside (flat format.successors) text p taken rest e = subst (IsOfStep (flat format.successors)) (mapped_read tree.successors (separated_at 44 (target_at inside) text) p taken rest e).2 refl
  piece_of inside (flat (format.attribute k)) text p taken rest e = subst (IsOfStep (flat (format.attribute k))) (mapped_read (tree.attribute k) (outlined_or_at attr text) p taken rest e).2 refl
  piece_of inside (flat format.dictionary) text p taken rest e = subst (IsOfStep (flat format.dictionary)) (mapped_read tree.dictionary (dictionary_by attr false text) p taken rest e).2 refl
  piece_of inside (flat (format.result_type i)) text p taken rest e = subst (IsOfStep (flat (format.result_type i))) (mapped_read (tree.result_type i) (types_at text) p taken rest e).2 refl
  piece_of inside (flat format.header) text p taken rest e = subst (IsOfStep (flat format.header)) (mapped_read tree.header (symbol_at text) p taken rest e).2 refl
  piece_of inside (flat (format.region i)) text p taken rest e = absurd (cc e)
  piece_of inside (flat format.regions) text p taken rest e = absurd (cc e)
  piece_of inside types text p taken rest e = subst (IsOfStep types) (mapped_read tree.types (separated_at 44 types_at text) p taken rest e).2 tt
  piece_of inside (one i) text p taken rest e = absurd (cc e)
  piece_of inside all text p taken rest e = absurd (cc e)

  -- if an item is never parsed, only the empty list is
  never_listed : (item : Reader (Name ℕ)) → ((text : Text) (n : Name ℕ) (taken rest : Text) → item text ≡ Read n taken rest → ⊥) → (text : Text) (ns : List (Name ℕ)) (taken rest : Text)
      → separated_at 44 item text ≡ Read ns taken rest → ns ≡ []
  never_listed item never text ns taken rest e = go (item text) refl e
    where
      go : (o : Outcome (Name ℕ)) → item text ≡ o → or_empty (followed (followed o (λ x t. mapped (λ _. x ∷ []) (space_at t))) (λ found t. items_after 44 item (length t) found t)) text ≡ Read ns taken rest → ns ≡ []
      go (Read x a r) f e = absurd (never text x a r f)
      go (Missing cause) f e = sym (cc e)
      go (Bad cause upto) f e = absurd (cc e)

  -- outside of each region it uses no name
  unused_of : (step : Step) (text : Text) (p : Piece ℕ T A) (taken rest : Text) → piece_at types_at attr (setting false false) step text ≡ Read p taken rest → UsesNone p
  unused_of (flat (format.word s)) text p taken rest e = subst UsesNone (mapped_read (λ _. tree.word s) (word s text) p taken rest e).2 tt
  unused_of (flat (format.operand i)) text p taken rest e = absurd (let m = mapped_read (tree.operand i) (used_at false text) p taken rest e in used_never text m.0 taken rest m.1)
  unused_of (flat format.operands) text p taken rest e =
      let m = mapped_read tree.operands (separated_at 44 (used_at false) text) p taken rest e in
      subst UsesNone m.2 (never_listed (used_at false) used_never text m.0 taken rest m.1)
  unused_of (flat (format.successor i)) text p taken rest e = absurd (let m = mapped_read (tree.successor i) (target_at false text) p taken rest e in target_never text m.0 taken rest m.1)
  unused_of (flat format.successors) text p taken rest e =
      let m = mapped_read tree.successors (separated_at 44 (target_at false) text) p taken rest e in
      subst UsesNone m.2 (never_listed (target_at false) target_never text m.0 taken rest m.1)
  unused_of (flat (format.attribute k)) text p taken rest e = subst UsesNone (mapped_read (tree.attribute k) (outlined_or_at attr text) p taken rest e).2 tt
  unused_of (flat format.dictionary) text p taken rest e = subst UsesNone (mapped_read tree.dictionary (dictionary_by attr false text) p taken rest e).2 tt
  unused_of (flat (format.result_type i)) text p taken rest e = subst UsesNone (mapped_read (tree.result_type i) (types_at text) p taken rest e).2 tt
  unused_of (flat format.header) text p taken rest e = subst UsesNone (mapped_read tree.header (symbol_at text) p taken rest e).2 tt
  unused_of (flat (format.region i)) text p taken rest e = absurd (cc e)
  unused_of (flat format.regions) text p taken rest e = absurd (cc e)
  unused_of types text p taken rest e = subst UsesNone (mapped_read tree.types (separated_at 44 types_at text) p taken rest e).2 tt
  unused_of (one i) text p taken rest e = absurd (cc e)
  unused_of all text p taken rest e = absurd (cc e)

  unused_if : (inside : Bool) (step : Step) (text : Text) (p : Piece ℕ T A) (taken rest : Text) → piece_at types_at attr (setting inside false) step text ≡ Read p taken rest → inside ≡ false → UsesNone p
  unused_if true step text p taken rest e f = absurd (true≢false f)
  unused_if false step text p taken rest e f = unused_of step text p taken rest e

  -- The parts that a front parses are those of its steps.
  pub record FrontParts (inside : Bool) (ss : List Step) (found parts : List (Part ℕ T A)) : Type 0 where
    pub pieces : List (Piece ℕ T A)
    pub parts_are : parts ≡ found ++ map (λ p. tree.piece p) pieces
    pub of_steps : AreOfSteps inside ss pieces

  pub front_parts : (inside : Bool) (ss : List Step) (found parts : List (Part ℕ T A)) (text taken rest : Text) → front_at types_at attr (setting inside false) ss found text ≡ Read parts taken rest → FrontParts inside ss found parts
  front_parts inside [] found parts text taken rest e = record { pieces = []; parts_are = (let f : found ≡ parts = cc e in sym f) ∙ sym (append-nil found); of_steps = tt }
  front_parts inside (s ∷ ss) found parts text taken rest e =
      let r = followed_read ((space_at ▷ piece_at types_at attr (setting inside false) s) text) (λ p. front_at types_at attr (setting inside false) ss (found ++ tree.piece p ∷ [])) parts taken rest e in
      let q = followed_read (space_at text) (λ _. piece_at types_at attr (setting inside false) s) r.value r.front r.middle r.first in
      let more = front_parts inside ss (found ++ tree.piece r.value ∷ []) parts r.middle r.more rest r.second in
      record {
        pieces = r.value ∷ more.pieces;
        parts_are = more.parts_are ∙ append_assoc found (tree.piece r.value ∷ []) (map (λ p. tree.piece p) more.pieces);
        of_steps = (piece_of inside s q.middle r.value q.more r.middle q.second, unused_if inside s q.middle r.value q.more r.middle q.second, more.of_steps);
      }

-- ---- what pieces show, their steps show
-- the directive of a step; a list of types has none
abbrev pub directive_of_step : Step → Option Directive
directive_of_step (flat d) = Some d
directive_of_step types = None
directive_of_step (one i) = Some (format.region i)
directive_of_step all = Some format.regions

-- what this finds of a directive
abbrev pub picked : {X : Type 0} → (Directive → Option X) → Option Directive → List X
picked of None = []
picked of (Some d) = option_to_list (of d)

-- the place of an operand or of a successor with a directive of its own; and whether the directive passes a test
abbrev pub operand_of : Directive → Option ℕ
operand_of d = elim d [ format.operand i ↦ Some i | _ ↦ None ]

abbrev pub successor_of : Directive → Option ℕ
successor_of d = elim d [ format.successor i ↦ Some i | _ ↦ None ]

abbrev pub flag : (Directive → Bool) → Directive → Option (Unit {0})
flag test d = cond (test d) (Some tt) None

-- one for each list of types
abbrev pub list_in : Option Directive → List (Unit {0})
list_in None = tt ∷ []
list_in (Some d) = []

-- a piece has the directive of its step
same_directive : {T A : Type 0} (s : Step) (p : Piece ℕ T A) → IsOfStep s p → directive_of_piece p ≡ directive_of_step s
same_directive (flat d) p o = o
same_directive types (tree.types ts) o = refl
same_directive types p o = absurd o
same_directive (one i) p o = absurd o
same_directive all p o = absurd o

pub shown_by_steps : {T A X : Type 0} (D : Option Directive → List X) (inside : Bool) (ss : List Step) (ps : List (Piece ℕ T A)) → AreOfSteps inside ss ps
    → flat_map (λ p. D (directive_of_piece p)) ps ≡ flat_map (λ s. D (directive_of_step s)) ss
shown_by_steps D inside [] [] a = refl
shown_by_steps D inside [] (p ∷ ps) a = absurd a
shown_by_steps D inside (s ∷ ss) [] a = absurd a
shown_by_steps D inside (s ∷ ss) (p ∷ ps) a = ap₂ ◌++◌ (ap D (same_directive s p a.0)) (shown_by_steps D inside ss ps a.2)

-- ---- the steps before the first region show what the format does
-- the directive parses a name or a type
abbrev pub is_early : Directive → Bool
is_early d = elim d [ format.operand i ↦ true | format.operands ↦ true | format.successor i ↦ true | format.successors ↦ true | format.result_type i ↦ true | _ ↦ false ]

-- nothing is found of a directive that parses no name and no type
abbrev pub OnlyEarly : {X : Type 0} → (Directive → Option X) → Type 0
OnlyEarly of = (d : Directive) → not (is_early d) ≡ true → of d ≡ None

module _ {X : Type 0} (of : Directive → Option X) (late : OnlyEarly of) where
  found_first : (d : Directive) (ds : List Directive) (o : Option X) → of d ≡ o → filter_map of (d ∷ ds) ≡ option_to_list o ++ filter_map of ds
  found_first d ds None e = ap (λ o. cons_option o (filter_map of ds)) e
  found_first d ds (Some x) e = ap (λ o. cons_option o (filter_map of ds)) e

  after_none : (ds : List Directive) → list_all (λ d. not (is_early d)) ds ≡ true → filter_map of ds ≡ []
  after_none [] e = refl
  after_none (d ∷ ds) e = found_first d ds None (late d (and_left (not (is_early d)) (list_all (λ d. not (is_early d)) ds) e))
      ∙ after_none ds (and_right (not (is_early d)) (list_all (λ d. not (is_early d)) ds) e)

  pub shown_in_front : (ds : List Directive) → c7 ds ≡ true → flat_map (λ s. picked of (directive_of_step s)) (front_steps (map step_of ds)) ≡ filter_map of ds
  shown_in_front [] e = refl
  shown_in_front (format.region i ∷ ds) e = sym (found_first (format.region i) ds None (late (format.region i) refl) ∙ after_none ds (and_left _ (c7 ds) e))
  shown_in_front (format.regions ∷ ds) e = sym (found_first format.regions ds None (late format.regions refl) ∙ after_none ds (and_left _ (c7 ds) e))
  shown_in_front (d ∷ ds) e = ap (λ z. option_to_list (of d) ++ z) (shown_in_front ds e) ∙ sym (found_first d ds (of d) refl)

pub flagged : (test : Directive → Bool) (ds : List Directive) → length (filter_map (flag test) ds) ≡ count test ds
flagged test [] = refl
flagged test (d ∷ ds) = go (test d) (flagged test ds)
  where
    go : (b : Bool) → length (filter_map (flag test) ds) ≡ count test ds
        → length (cons_option (cond b (Some tt) None) (filter_map (flag test) ds)) ≡ cond b (suc (count test ds)) (count test ds)
    go true h = ap suc h
    go false h = h

-- ---- an accepted format
-- each condition holds of an accepted list of directives
passed : (b : Bool) (x n : ℕ) → (if b then x else suc n) ≡ 0 → (b ≡ true) × (x ≡ 0)
passed true x n e = (refl, e)
passed false x n e = absurd (cc e)

-- What is needed of an accepted format: operands and successors have the places from 0 on, and one list at most.
pub record Places (ds : List Directive) : Type 0 where
  pub operands : c2 ds ≡ true
  pub successors : c3 ds ≡ true
  pub following : c7 ds ≡ true

pub accepted_places : (ds : List Directive) → Accepted (format.custom ds) → Places ds
accepted_places ds a =
    let one = passed (c1 ds) _ 0 a in
    let two = passed (c2 ds) _ 1 one.1 in
    let three = passed (c3 ds) _ 2 two.1 in
    let four = passed (c4 ds) _ 3 three.1 in
    let five = passed (c5 ds) _ 4 four.1 in
    let six = passed (c6 ds) _ 5 five.1 in
    let seven = passed (c7 ds) _ 6 six.1 in
    record { operands = two.0; successors = three.0; following = seven.0 }

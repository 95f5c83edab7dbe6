-- The parser of a step returns the pieces that the grammar parses.
use Rattle.std.proofs.Common.{◌≡◌, ◌∙◌, ℕ, true, Option, Some, List, ◌++◌, refl, sym, ap, subst}
use Rattle.std.specs.Prelude.{◌↔◌, ⊤}
use Rattle.irtext_base.specs.Text.{Text}
use Rattle.irtext_base.specs.Reading.{Reading}
use Rattle.irtext_base.specs.Faults.{Fault}
use Rattle.irtext_base.specs.Format as format
use Rattle.irtext_base.specs.Format.{Id, Format, Directive}
use Rattle.irtext_base.specs.Answers.{Outcome, Read, Missing, mapped}
use Rattle.irtext_base.specs.Own.{Language, language, texts_of}
use Rattle.irtext_tokens.specs.Infix.{Reader, ◌⇒◌}
use Rattle.irtext_tokens.specs.AttrTexts.{attr_at}
use Rattle.irtext_grammar.specs.Grammar.Reads as reads
use Rattle.irtext_grammar.specs.Grammar.Tree as tree
use Rattle.irtext_grammar.specs.Grammar.Tree.{Name, Attribute, Piece, directive_of_piece}
use Rattle.irtext_grammar.proofs.Joins.Answers.{Splits, mapped_read}
use Rattle.irtext_grammar.specs.Exact.{Exact, NeedsWord, IsOfStep, step_piece}
use Rattle.irtext_grammar.specs.Heads.{Step, flat, types, one, all, piece_at, outlined_or_at, setting}
use Rattle.irtext_grammar.proofs.Exact.Combined.{exact_word}
use Rattle.irtext_grammar.proofs.Exact.Listed.{exact_list}
use Rattle.irtext_grammar.proofs.Exact.Names.{exact_used, exact_target, exact_symbol, starts_name, starts_target}
use Rattle.irtext_grammar.proofs.Exact.Attributes.{exact_dictionary, outlined_read, exact_outlined}
use Rattle.irtext_grammar.proofs.Exact.Types.{exact_type, starts_type}

-- ---- which pieces a step parses
module _ {T A : Type 0} where
  -- the piece is made of this directive and of a value; no piece is made of one for regions
  abbrev pub IsMade : Directive → Piece ℕ T A → Type 0
  IsMade (format.word s) p = Unit {0} × (tree.word s ≡ p)
  IsMade (format.operand i) p = (n : Name ℕ) × (tree.operand i n ≡ p)
  IsMade format.operands p = (ns : List (Name ℕ)) × (tree.operands ns ≡ p)
  IsMade (format.successor i) p = (n : Name ℕ) × (tree.successor i n ≡ p)
  IsMade format.successors p = (ns : List (Name ℕ)) × (tree.successors ns ≡ p)
  IsMade (format.attribute k) p = (o : Option (Attribute A)) × (tree.attribute k o ≡ p)
  IsMade format.dictionary p = (es : List (Name ℕ × Attribute A)) × (tree.dictionary es ≡ p)
  IsMade (format.result_type i) p = (t : T) × (tree.result_type i t ≡ p)
  IsMade format.header p = (n : Name ℕ) × (tree.header n ≡ p)
  IsMade _ p = ⊥

  made_alike : (p : Piece ℕ T A) (c d : Directive) → Some c ≡ Some d → IsMade c p → IsMade d p
  made_alike p c d e m = let f : c ≡ d = cc e in subst (λ d. IsMade d p) f m

  -- a piece that a directive parses is made of it
  pub is_made : (d : Directive) (p : Piece ℕ T A) → directive_of_piece p ≡ Some d → IsMade d p
  is_made d (tree.word s) e = made_alike (tree.word s) (format.word s) d e (tt, refl)
  is_made d (tree.operand i n) e = made_alike (tree.operand i n) (format.operand i) d e (n, refl)
  is_made d (tree.operands ns) e = made_alike (tree.operands ns) format.operands d e (ns, refl)
  is_made d (tree.successor i n) e = made_alike (tree.successor i n) (format.successor i) d e (n, refl)
  is_made d (tree.successors ns) e = made_alike (tree.successors ns) format.successors d e (ns, refl)
  is_made d (tree.attribute k o) e = made_alike (tree.attribute k o) (format.attribute k) d e (o, refl)
  is_made d (tree.dictionary es) e = made_alike (tree.dictionary es) format.dictionary d e (es, refl)
  is_made d (tree.result_type i t) e = made_alike (tree.result_type i t) (format.result_type i) d e (t, refl)
  is_made d (tree.header n) e = made_alike (tree.header n) format.header d e (n, refl)
  is_made d (tree.types ts) e = absurd (cc e)

  -- types
  pub is_types : (p : Piece ℕ T A) → IsOfStep types p → (ts : List T) × (tree.types ts ≡ p)
  is_types (tree.types ts) i = (ts, refl)
  is_types _ i = absurd i

-- the step may have a marker in the place of what it parses
abbrev pub Marks : Step → Type 0
Marks (flat (format.attribute k)) = ⊤
Marks _ = ⊥

module _ {T A : Type 0} (types_at : Text → Outcome T) (types_written : T → Text) (reading : Text → Outcome A) (written : A → Text) (formats : Id → Option Format)
    (types_split : Splits types_at) (splits : Splits reading) where
  -- the language of the parsers
  abbrev l : Language ℕ T A
  l = language (texts_of types_at types_written) (texts_of reading written) formats

  -- what a step parses, if its value determines the piece
  by_step : {X : Type 0} {f : Reader X} {r : X → Reading} → Exact f r → (step : Step) (see : X → Piece ℕ T A) → ((x : X) → IsOfStep step (see x))
      → ((x : X) (text rest : Text) → reads.piece l (see x) text rest ↔ r x text rest) → ((p : Piece ℕ T A) → IsOfStep step p → (x : X) × (see x ≡ p)) → Exact (f ⇒ see) (step_piece l step)
  by_step {f = f} h step see is same back = record {
    read = λ text p taken rest e.
        let m = mapped_read see (f text) p taken rest e in
        let k = h.read text m.0 taken rest m.1 in
        ((subst (IsOfStep step) m.2 (is m.0), subst (λ p. reads.piece l p text rest) m.2 ((same m.0 text rest).1 k.0)), k.1);
    found = λ text p rest (i, q).
        let b = back p i in
        let a = h.found text b.0 rest ((same b.0 text rest).0 (subst (λ p. reads.piece l p text rest) (sym b.1) q)) in
        (a.0, ap (mapped see) a.1 ∙ ap (λ p. Read p a.0 rest) b.1);
  }

  -- nothing is parsed where no piece is of the step
  by_none : (step : Step) (cause : Text → Fault) → ((p : Piece ℕ T A) → IsOfStep step p → ⊥) → Exact (λ text. Missing (cause text)) (step_piece l step)
  by_none step cause none = record { read = λ text p taken rest e. absurd (cc e); found = λ text p rest r. absurd (none p r.0) }

  -- A piece that a step parses, and no other, is what the grammar parses as a piece of that step; where a marker may be in place of an
  -- attribute, each attribute begins as a word does.
  pub exact_piece : (step : Step) → (Marks step → NeedsWord reading) → Exact (piece_at types_at (attr_at reading) (setting true true) step) (step_piece l step)
  exact_piece (flat (format.word s)) h = by_step (exact_word s) (flat (format.word s)) (λ _. tree.word s) (λ x. refl) (λ x text rest. (λ r. r, λ r. r)) (is_made (format.word s))
  exact_piece (flat (format.operand i)) h =
      by_step (exact_used (texts_of types_at types_written) (texts_of reading written) formats) (flat (format.operand i)) (tree.operand i) (λ x. refl) (λ x text rest. (λ r. r, λ r. r)) (is_made (format.operand i))
  exact_piece (flat format.operands) h =
      by_step (exact_list 44 (exact_used (texts_of types_at types_written) (texts_of reading written) formats) starts_name) (flat format.operands) tree.operands (λ x. refl) (λ x text rest. (λ r. r, λ r. r)) (is_made format.operands)
  exact_piece (flat (format.successor i)) h =
      by_step (exact_target (texts_of types_at types_written) (texts_of reading written) formats) (flat (format.successor i)) (tree.successor i) (λ x. refl) (λ x text rest. (λ r. r, λ r. r)) (is_made (format.successor i))
  exact_piece (flat format.successors) h =
      by_step (exact_list 44 (exact_target (texts_of types_at types_written) (texts_of reading written) formats) starts_target) (flat format.successors) tree.successors (λ x. refl) (λ x text rest. (λ r. r, λ r. r)) (is_made format.successors)
  exact_piece (flat (format.attribute k)) h =
      by_step (exact_outlined (texts_of types_at types_written) reading written formats splits (h tt) k) (flat (format.attribute k)) (tree.attribute k) (λ x. refl) (λ x text rest. (λ r. r, λ r. r)) (is_made (format.attribute k))
  exact_piece (flat format.dictionary) h =
      by_step (exact_dictionary (texts_of types_at types_written) reading written formats splits) (flat format.dictionary) tree.dictionary (λ x. refl) (λ x text rest. (λ r. r, λ r. r)) (is_made format.dictionary)
  exact_piece (flat (format.result_type i)) h =
      by_step (exact_type types_at types_written (texts_of reading written) formats types_split) (flat (format.result_type i)) (tree.result_type i) (λ x. refl) (λ x text rest. (λ r. r, λ r. r)) (is_made (format.result_type i))
  exact_piece (flat (format.region i)) h = by_none (flat (format.region i)) _ (is_made (format.region i))
  exact_piece (flat format.regions) h = by_none (flat format.regions) _ (is_made format.regions)
  exact_piece (flat format.header) h =
      by_step (exact_symbol (texts_of types_at types_written) (texts_of reading written) formats) (flat format.header) tree.header (λ x. refl) (λ x text rest. (λ r. r, λ r. r)) (is_made format.header)
  exact_piece types h =
      by_step (exact_list 44 (exact_type types_at types_written (texts_of reading written) formats types_split) (starts_type types_at types_written (texts_of reading written) formats types_split))
      types tree.types (λ x. tt) (λ x text rest. (λ r. r, λ r. r)) is_types
  exact_piece (one i) h = by_none (one i) _ (λ p i. i)
  exact_piece all h = by_none all _ (λ p i. i)

  -- What a step parses, the grammar parses as a piece of that step, however attributes begin.
  pub piece_read : (step : Step) (text : Text) (p : Piece ℕ T A) (taken rest : Text) → piece_at types_at (attr_at reading) (setting true true) step text ≡ Read p taken rest → step_piece l step p text rest × (taken ++ rest ≡ text)
  piece_read (flat (format.attribute k)) text p taken rest e =
      let m = mapped_read (tree.attribute k) (outlined_or_at (attr_at reading) text) p taken rest e in
      let r = outlined_read (texts_of types_at types_written) reading written formats splits k text m.0 taken rest m.1 in
      (subst (λ p. step_piece l (flat (format.attribute k)) p text rest) m.2 (refl, r.0), r.1)
  piece_read step text p taken rest e = (exact_piece step (λ i. absurd i)).read text p taken rest e

-- The names of what is parsed stand in the text at their places.
use Rattle.std.proofs.Common.{◌≡◌, ◌∙◌, inl, inr, ℕ, List, [], ◌∷◌, ◌++◌, map, length, codes, refl, sym, ap, subst, append_assoc}
use Rattle.std.specs.Char.{is_whitespace}
use Rattle.irtext_base.specs.Text.{Text, front, after_space, in_word}
use Rattle.irtext_base.specs.Reading.{Reading, ◌▸◌, literal, identifier, more, separated}
use Rattle.irtext_base.specs.Answers.{Outcome, Read, Missing, Bad}
use Rattle.irtext_base.specs.Format.{Id}
use Rattle.irtext_base.specs.Own.{Language, found, verdict, texts_of}
use Rattle.irtext_base.proofs.Along.{front_after}
use Rattle.irtext_context.specs.Dialects.{Table}
use Rattle.irtext_grammar.specs.Exact.{block_head, operation_lead}
use Rattle.irtext_grammar.specs.Grammar.Reads as reads
use Rattle.irtext_grammar.specs.Grammar.Tree as tree
use Rattle.irtext_grammar.specs.Grammar.Tree.{Name, Piece, Head}
use Rattle.irtext_grammar.specs.Promises.Supported.{supported}
use Rattle.irtext_grammar.specs.Spelling.Spellable.{Each}
use Rattle.irtext_grammar.proofs.Joins.Answers.{Splits}
use Rattle.irtext_grammar.proofs.Lists.Each.{each_both}
use Rattle.irtext_survey.specs.Mentioned.{spelled, HasAt}
use Rattle.irtext_survey.specs.Notes.{mentioned, argument_names, piece_uses, head_names}
use Rattle.irtext_survey.specs.declared.notes.Mention.{Mention}
use Rattle.irtext_survey.specs.declared.notes.Mention.TheVariants.{UsesValue, UsesLabel, DefinesValue, DefinesLabel}

-- the one text is an end of the other
pub record IsEnd (whole text : Text) : Type 0 where
  pub before : Text
  pub same : before ++ text ≡ whole

module _ {whole : Text} where
  pub end_later : {text : Text} (taken rest : Text) → taken ++ rest ≡ text → IsEnd whole text → IsEnd whole rest
  end_later taken rest e h = record { before = h.before ++ taken; same = append_assoc h.before taken rest ∙ (ap (λ z. h.before ++ z) e ∙ h.same) }

  pub end_spaced : {text : Text} → IsEnd whole text → IsEnd whole (after_space text)
  end_spaced {text} h = end_later (front is_whitespace text) (after_space text) (front_after is_whitespace text) h

  end_literal : {text rest : Text} (word : Text) → literal word text rest → IsEnd whole text → IsEnd whole rest
  end_literal {rest = rest} word e h = end_later word rest (sym e) h

  end_identifier : {text rest : Text} (name : Text) → identifier name text rest → IsEnd whole text → IsEnd whole rest
  end_identifier {text} {rest} name (b, n, e) h = end_later (front in_word text) rest (ap (λ z. front in_word text ++ z) e ∙ front_after in_word text) h

  -- what is parsed at an end of the text stands at its place
  has_at : {text rest : Text} (reading : Reading) (place : ℕ) → IsEnd whole text → place ≡ length text → reading text rest → HasAt whole reading place
  has_at {text} {rest} reading place h e r = record { before = h.before; rest = text; same = h.same; counts = sym e; left = rest; reads = r }

-- ---- lists
module _ {X : Type 0} (whole : Text) (R : X → Reading) (Says : X → Type 0) (item : (x : X) (text rest : Text) → IsEnd whole text → R x text rest → Says x × IsEnd whole rest) (separator : ℕ) where
  more_say : (xs : List X) (text rest : Text) → IsEnd whole text → more separator (map R xs) text rest → Each Says xs
  more_say [] text rest h r = tt
  more_say (x ∷ xs) text rest h (m, s, (n, a, b)) =
      let k = item x (after_space m) n (end_spaced (end_literal (separator ∷ []) s h)) a in
      (k.0, more_say xs (after_space n) rest (end_spaced k.1) b)

  list_says : (missing : Text → Type 0) (xs : List X) (text rest : Text) → IsEnd whole text → separated separator missing (map R xs) text rest → Each Says xs
  list_says missing [] text rest h r = tt
  list_says missing (x ∷ xs) text rest h (n, a, b) =
      let k = item x text n h a in
      (k.0, more_say xs (after_space n) rest (end_spaced k.1) b)

module _ (whole : Text) where
  -- the name stands at its place, spelled as it is mentioned
  abbrev pub IsSpelled : Mention × Name ℕ → Type 0
  IsSpelled m = HasAt whole (spelled m.0 m.1.text) m.1.place

  -- an identifier that is the name stands at its place
  abbrev pub IsThere : Name ℕ → Type 0
  IsThere n = HasAt whole (identifier n.text) n.place

  pub values_spelled : (ns : List (Name ℕ)) → Each IsThere ns → Each IsSpelled (mentioned UsesValue ns)
  values_spelled [] e = tt
  values_spelled (n ∷ ns) e = (e.0, values_spelled ns e.1)

  labels_spelled : (ns : List (Name ℕ)) → Each IsThere ns → Each IsSpelled (mentioned UsesLabel ns)
  labels_spelled [] e = tt
  labels_spelled (n ∷ ns) e = (e.0, labels_spelled ns e.1)

  pub results_spelled : (ns : List (Name ℕ)) → Each IsThere ns → Each IsSpelled (mentioned DefinesValue ns)
  results_spelled [] e = tt
  results_spelled (n ∷ ns) e = (e.0, results_spelled ns e.1)

  arguments_spelled : {T : Type 0} (bs : List (Name ℕ × T)) → Each (λ a. IsThere a.0) bs → Each IsSpelled (argument_names bs)
  arguments_spelled [] e = tt
  arguments_spelled (a ∷ bs) e = (e.0, arguments_spelled bs e.1)

  module _ {T A : Type 0} (types_at : Text → Outcome T) (types_written : T → Text) (reading : Text → Outcome A) (written : A → Text) (dialects : List (Text × Table)) (types_split : Splits types_at) where
    abbrev L : Language ℕ T A
    L = supported dialects (texts_of types_at types_written) (texts_of reading written)

    name_there : (n : Name ℕ) (text rest : Text) → IsEnd whole text → reads.name L n text rest → IsThere n × IsEnd whole rest
    name_there n text rest h (at, r) = (has_at (identifier n.text) n.place h at r, end_identifier n.text r h)

    target_there : (n : Name ℕ) (text rest : Text) → IsEnd whole text → reads.target L n text rest → IsThere n × IsEnd whole rest
    target_there n text rest h (m, s, r) = name_there n m rest (end_literal (codes "^") s h) r

    type_ends : (t : T) (text rest : Text) → reads.type L t text rest → IsEnd whole text → IsEnd whole rest
    type_ends t text rest r h = go (types_at text) refl r
      where
        go : (o : Outcome T) → types_at text ≡ o → verdict o ≡ found t rest → IsEnd whole rest
        go (Read x taken left) e v =
            let k : left ≡ rest = cc v in
            subst (IsEnd whole) k (end_later taken left (types_split text x taken left e) h)
        go (Missing cause) e v = absurd (cc v)
        go (Bad cause upto) e v = absurd (cc v)

    argument_there : (a : Name ℕ × T) (text rest : Text) → IsEnd whole text → reads.argument L a text rest → IsThere a.0 × IsEnd whole rest
    argument_there a text rest h (m, r, (k, s, t)) =
        let n = name_there a.0 text m h r in
        (n.0, type_ends a.1 (after_space k) rest t (end_spaced (end_literal (codes ":") s (end_spaced n.1))))

    -- the names that a piece uses
    pub piece_spelled : (p : Piece ℕ T A) (text rest : Text) → IsEnd whole text → reads.piece L p text rest → Each IsSpelled (piece_uses p)
    piece_spelled (tree.word s) text rest h r = tt
    piece_spelled (tree.operand i n) text rest h r = ((name_there n text rest h r).0, tt)
    piece_spelled (tree.operands ns) text rest h r = values_spelled ns (list_says whole (reads.name L) IsThere name_there 44 reads.no_word ns text rest h r)
    piece_spelled (tree.successor i n) text rest h r = ((target_there n text rest h r).0, tt)
    piece_spelled (tree.successors ns) text rest h r = labels_spelled ns (list_says whole (reads.target L) IsThere target_there 44 reads.no_label ns text rest h r)
    piece_spelled (tree.attribute k a) text rest h r = tt
    piece_spelled (tree.dictionary es) text rest h r = tt
    piece_spelled (tree.result_type i t) text rest h r = tt
    piece_spelled (tree.header n) text rest h r = tt
    piece_spelled (tree.types ts) text rest h r = tt

    -- the names that the header of a block defines
    pub head_spelled : (b : Head ℕ T A) (text rest : Text) → IsEnd whole text → block_head L b text rest → Each IsSpelled (head_names b)
    head_spelled b text rest h (m, (at, (k, s, r)), (n, p, (q, args, others))) =
        let label = has_at (literal (codes "^") ▸ identifier b.label.text) b.label.place h at (k, s, r) in
        let inside = end_spaced (end_literal (codes "(") p (end_spaced (end_identifier b.label.text r (end_literal (codes "^") s h)))) in
        each_both IsSpelled (argument_names b.arguments) ((DefinesLabel, b.label) ∷ [])
        (arguments_spelled b.arguments (list_says whole (reads.argument L) (λ a. IsThere a.0) argument_there 44 reads.no_word b.arguments (after_space n) q inside args))
        (label, tt)

    -- the names of an operation's results
    pub lead_spelled : (lead : List (Name ℕ) × Id) (text rest : Text) → IsEnd whole text → operation_lead L lead text rest → Each IsThere lead.0
    lead_spelled lead text rest h (m, inl (k, r, s), i) = list_says whole (reads.name L) IsThere name_there 44 reads.no_word lead.0 (after_space text) k (end_spaced h) r
    lead_spelled lead text rest h (m, inr (none, s, o), i) = subst (Each IsThere) (sym none) tt

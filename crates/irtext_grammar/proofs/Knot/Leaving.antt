-- How much of a text the parsers of an operation's own parts and of a block's header leave: no more than the text, and less after an id or
-- a label.
use Rattle.std.proofs.Common.{◌≡◌, ℕ, zero, suc, ◌≤◌, Bool, true, false, cond, List, [], ◌∷◌, ◌++◌, Some, None, codes, is_some, length, length-append, refl, ap, arith}
use Rattle.irtext_base.specs.Text.{Text, begins, front, after, begins_word, in_word}
use Rattle.irtext_base.specs.Reading.{the}
use Rattle.irtext_base.specs.Format as format
use Rattle.irtext_base.specs.Format.{Directive, Id}
use Rattle.irtext_base.specs.Faults.{Demand, Unexpected, AnOperation, UnregisteredOp, UnregisteredDialect, ReservedKey}
use Rattle.irtext_base.specs.Stream.{first_of}
use Rattle.irtext_base.specs.Answers.{Outcome, Read, Missing, Bad}
use Rattle.irtext_base.specs.Locations.{AttrView}
use Rattle.irtext_base.proofs.Along.{front_after}
use Rattle.irtext_base.proofs.Characters.{begins_in}
use Rattle.irtext_context.specs.Dialects.{Table}
use Rattle.irtext_context.specs.DialectTable.{dialect_of, registered}
use Rattle.irtext_tokens.specs.Infix.{Reader, nothing, ◌▷◌, ◌◁◌, ◌▶◌, ◌⇒◌}
use Rattle.irtext_tokens.specs.ListOutcomes.{item_after, items_after, or_empty, separated_at}
use Rattle.irtext_tokens.specs.Tokens.{space_at, word_at, word, id_with, id_at}
use Rattle.irtext_tokens.proofs.Honest.{honest_space, honest_word, honest_name, honest_spaced, honest_index}
use Rattle.irtext_grammar.specs.Contexts.Formats.{op_id}
use Rattle.irtext_grammar.specs.Grammar.Tree.{Name, Attribute}
use Rattle.irtext_grammar.specs.Names.Acts.{may_hold}
use Rattle.irtext_grammar.specs.Readers.Directives.{attribute_at}
use Rattle.irtext_grammar.specs.Readers.Marker.{marker, starts_with}
use Rattle.irtext_grammar.specs.Readers.Operations.{registered_after}
use Rattle.irtext_grammar.specs.Readers.Parts.{after_lead}
use Rattle.irtext_grammar.specs.Readers.RestLengths.{Leaves, LeavesNoMore}
use Rattle.irtext_grammar.proofs.Locations.RestLengths.{Within, within_honest, within_no_more, within_either, ◌so◌, ◌then◌, seen, leaves_read, leaves_missing, leaves_bad, leaves_prefixed, leaves_word}
use Rattle.irtext_grammar.specs.declared.parsed.Setting.{Setting}
use Rattle.irtext_grammar.specs.Heads.{name_at, label_at, symbol_at, mark_if_at, outside, used_at, target_at, allowed, pair_at, entry_by, dictionary_by, outlined_or_at, Step, flat, types, one, all, directive_at, piece_at, argument_at, dictionary_if_at, head_at, results_at, named, lead_at, led_by, led_at}

-- ---- parsers put together
module _ {b : ℕ} where
  -- an outcome that leaves no more than the bound, whatever the text
  same_within : {X : Type 0} {o : Outcome X} → Leaves b o → Within b (λ text. o)
  same_within h = record { leaves = λ text i. h }

  -- nothing is parsed
  none_within : {X : Type 0} (x : X) → Within b (nothing x)
  none_within x = record { leaves = λ text i. leaves_read b x [] text i }

  kept_within : {X Y : Type 0} {f : Reader X} {g : Reader Y} → Within b f → Within b g → Within b (f ◁ g)
  kept_within h k = ◌so◌ h (λ x. seen _ k)

-- of a text one longer than the bound, no more than the bound is left
record Shortens {X : Type 0} (b : ℕ) (f : Reader X) : Type 0 where
  pub leaves : (text : Text) → length text ≤ suc b → Leaves b (f text)

module _ {b : ℕ} {X Y : Type 0} where
  shortens_so : {f : Reader X} {k : X → Reader Y} → Shortens b f → ((x : X) → Within b (k x)) → Shortens b (f ▶ k)
  shortens_so {f} {k} h g = record {
    leaves = λ text i. (◌so◌ {f = λ _. f text} {k = k} (same_within (h.leaves text i)) g).leaves [] (omega arith);
  }

  shortens_seen : {f : Reader X} (see : X → Y) → Shortens b f → Shortens b (f ⇒ see)
  shortens_seen {f} see h = record {
    leaves = λ text i. (seen {f = λ _. f text} see (same_within (h.leaves text i))).leaves [] (omega arith);
  }

shortens_word : {b : ℕ} (c : ℕ) (w : Text) → Shortens b (word (c ∷ w))
shortens_word {b} c w = record { leaves = λ text i. leaves_word b c w text i }

-- an opening brace consumes at least one character
pub brace_leaves : (b : ℕ) (text : Text) → length text ≤ suc b → Leaves b ((word (codes "{") ▷ space_at) text)
brace_leaves b = (shortens_so (shortens_word 123 []) (λ _. within_honest honest_space)).leaves

-- ---- a word
word_shorter : (c : ℕ) (text : Text) → begins_word c ≡ true → length (after in_word (c ∷ text)) ≤ length text
word_shorter c text e =
    let s : after in_word (c ∷ text) ≡ after in_word text = rw (begins_in c e) refl in
    let f = front_after in_word text in
    omega (arith, ap length s, ap length f, length-append (front in_word text) (after in_word text))

word_leaves : (b : ℕ) (demand : Demand) (text : Text) → length text ≤ suc b → Leaves b (word_at demand text)
unfolding word_at
word_leaves b demand [] i = leaves_missing b _
word_leaves b demand (c ∷ text) i = go (begins_word c) refl
  where
    go : (t : Bool) → begins_word c ≡ t
        → Leaves b (cond t (Read (front in_word (c ∷ text)) (front in_word (c ∷ text)) (after in_word (c ∷ text))) (Missing (Unexpected (first_of (c ∷ text)) demand)))
    go true e = let j = word_shorter c text e in leaves_read b _ _ (after in_word (c ∷ text)) (omega (arith, i, j))
    go false e = leaves_missing b _

shortens_id : {b : ℕ} → Shortens b id_at
unfolding id_at
shortens_id {b} = shortens_so (record { leaves = word_leaves b AnOperation })
    (λ dialect. ◌then◌ (within_honest (honest_word (codes "."))) (seen (id_with dialect) (within_honest (honest_name _))))

-- ---- lists
module _ {b : ℕ} {X : Type 0} (separator : ℕ) {item : Reader X} (h : Within b item) where
  item_within : (found : List X) → Within b (item_after separator item found)
  item_within found = ◌so◌ h (λ x. seen (λ _. found ++ (x ∷ [])) (within_honest honest_space))

  items_within : (n : ℕ) (found : List X) → Within b (items_after separator item n found)
  items_within zero found = none_within found
  items_within (suc n) found = within_either (begins (the separator))
      (◌then◌ (within_honest (honest_word (separator ∷ []))) (◌then◌ (within_honest honest_space) (◌so◌ (item_within found) (λ more. items_within n more))))
      (none_within found)

  or_empty_leaves : (o : Outcome (List X)) (text : Text) → length text ≤ b → Leaves b o → Leaves b (or_empty o text)
  or_empty_leaves (Read xs taken rest) text i k = k
  or_empty_leaves (Missing cause) text i k = leaves_read b [] [] text i
  or_empty_leaves (Bad cause upto) text i k = leaves_bad b cause upto

  separated_within : Within b (separated_at separator item)
  separated_within = record {
    leaves = λ text i. or_empty_leaves _ text i ((◌so◌ {k = λ found t. items_after separator item (length t) found t} (item_within [])
        (λ found. record { leaves = λ t j. (items_within (length t) found).leaves t j })).leaves text i);
  }

-- ---- names and marks
module _ {b : ℕ} where
  name_within : Within b name_at
  name_within = record { leaves = λ text i. (seen _ (within_honest (honest_name _))).leaves text i }

  label_shortens : Shortens b label_at
  label_shortens = record { leaves = λ text i. (shortens_seen _ (shortens_so (shortens_word 94 []) (λ _. within_honest (honest_name _)))).leaves text i }

  symbol_within : Within b symbol_at
  symbol_within = record { leaves = λ text i. (seen _ (◌then◌ (within_honest (honest_word (codes "@"))) (within_honest (honest_name _)))).leaves text i }

  -- a mark, if there is one, leaves no more than its text
  pub mark_within : Within b mark_if_at
  mark_within = within_either (begins (the 33)) (seen Some (record { leaves = λ text i. (seen _ (within_honest honest_index)).leaves text i })) (none_within None)

  outside_leaves : (o : Outcome (Name ℕ)) → Leaves b (outside o)
  outside_leaves (Read n taken rest) = leaves_bad b _ _
  outside_leaves (Missing cause) = leaves_missing b cause
  outside_leaves (Bad cause upto) = leaves_bad b cause upto

  used_within : (inside : Bool) → Within b (used_at inside)
  used_within true = record { leaves = λ text i. name_within.leaves text i }
  used_within false = record { leaves = λ text i. outside_leaves (name_at text) }

  target_within : (inside : Bool) → Within b (target_at inside)
  target_within inside = ◌then◌ (within_honest (honest_word (codes "^"))) (used_within inside)

-- ---- attributes
module _ {b : ℕ} {A : Type 0} {attr : Reader (AttrView A)} (h : LeavesNoMore attr) where
  attribute_within : Within b (attribute_at attr)
  attribute_within = seen _ (within_no_more h)

  pair_within : Within b (pair_at attr)
  pair_within = ◌so◌ name_within (λ key. ◌then◌ (within_honest (honest_spaced (codes ":"))) (seen _ attribute_within))

  allowed_leaves : (o : Outcome (Name ℕ × Attribute A)) → Leaves b o → Leaves b (allowed o)
  allowed_leaves (Read e taken rest) k = go (may_hold e.0.text e.1)
    where
      go : (t : Bool) → Leaves b (cond t (Read e taken rest) (Bad (ReservedKey e.0.text) []))
      go true = k
      go false = leaves_bad b _ _
  allowed_leaves (Missing cause) k = leaves_missing b cause
  allowed_leaves (Bad cause upto) k = leaves_bad b cause upto

  entry_within : (any_key : Bool) → Within b (entry_by attr any_key)
  entry_within true = record { leaves = λ text i. pair_within.leaves text i }
  entry_within false = record { leaves = λ text i. allowed_leaves (pair_at attr text) (pair_within.leaves text i) }

  dictionary_within : (any_key : Bool) → Within b (dictionary_by attr any_key)
  unfolding dictionary_by
  dictionary_within any_key = ◌then◌ (within_honest (honest_word (codes "["))) (◌then◌ (within_honest honest_space)
      (kept_within (separated_within 44 (entry_within any_key)) (within_honest (honest_word (codes "]")))))

  outlined_within : Within b (outlined_or_at attr)
  outlined_within = within_either (starts_with marker) (seen (λ _. None) (within_honest (honest_word marker))) (seen Some attribute_within)

-- ---- pieces and headers
module _ {b : ℕ} {T A : Type 0} {types_at : Reader T} {attr : Reader (AttrView A)} (no_more : LeavesNoMore types_at) (h : LeavesNoMore attr) where
  no_piece : {X : Type 0} → Within {X = X} b (λ text. Missing (Unexpected (first_of text) AnOperation))
  no_piece = record { leaves = λ text i. leaves_missing b _ }

  directive_within : (at : Setting) (d : Directive) → Within b (directive_at types_at attr at d)
  directive_within at (format.word s) = seen _ (within_honest (honest_word s))
  directive_within at (format.operand i) = seen _ (used_within at.inside)
  directive_within at format.operands = seen _ (separated_within 44 (used_within at.inside))
  directive_within at (format.successor i) = seen _ (target_within at.inside)
  directive_within at format.successors = seen _ (separated_within 44 (target_within at.inside))
  directive_within at (format.attribute k) = seen _ (outlined_within h)
  directive_within at format.dictionary = seen _ (dictionary_within h at.any_key)
  directive_within at (format.result_type i) = seen _ (within_no_more no_more)
  directive_within at format.header = seen _ symbol_within
  directive_within at (format.region i) = no_piece
  directive_within at format.regions = no_piece

  -- a step that is no region leaves no more than its text
  pub piece_within : (at : Setting) (step : Step) → Within b (piece_at types_at attr at step)
  piece_within at (flat d) = directive_within at d
  piece_within at types = seen _ (separated_within 44 (within_no_more no_more))
  piece_within at (one i) = no_piece
  piece_within at all = no_piece

  argument_within : Within b (argument_at types_at attr)
  argument_within = ◌so◌ name_within (λ n. ◌then◌ (within_honest (honest_spaced (codes ":"))) (seen _ (within_no_more no_more)))

  dictionary_if_within : Within b (dictionary_if_at types_at attr)
  dictionary_if_within = within_either (begins (the 91)) (seen Some (dictionary_within h true)) (none_within None)

  -- a block's header consumes at least one character
  pub head_leaves : (text : Text) → length text ≤ suc b → Leaves b (head_at types_at attr text)
  head_leaves = (shortens_so label_shortens (λ label. ◌then◌ (within_honest (honest_spaced (codes "("))) (◌so◌ (separated_within 44 argument_within) (λ arguments.
      ◌then◌ (within_honest (honest_word (codes ")"))) (◌then◌ (within_honest honest_space) (◌so◌ dictionary_if_within (λ attributes.
      ◌then◌ (within_honest honest_space) (◌so◌ mark_within (λ mark. ◌then◌ (within_honest honest_space) (seen _ (within_honest (honest_word (codes ":"))))))))))))).leaves

-- ---- an operation's lead and its id
module _ {b : ℕ} where
  named_leaves : (o : Outcome (List (Name ℕ))) (text : Text) → length text ≤ b → Leaves b o → Leaves b (named o text)
  named_leaves (Read ns taken rest) text i k = k
  named_leaves (Missing cause) text i k = leaves_read b [] [] text i
  named_leaves (Bad cause upto) text i k = leaves_read b [] [] text i

  results_within : Within b results_at
  results_within = kept_within (separated_within 44 name_within) (within_honest (honest_word (codes "=")))

  lead_within : Within b lead_at
  lead_within = ◌then◌ (within_honest honest_space)
      (kept_within (record { leaves = λ text i. named_leaves (results_at text) text i (results_within.leaves text i) }) (within_honest honest_space))

  after_leaves : {X : Type 0} (lead : Text) (o : Outcome X) → Leaves b o → Leaves b (after_lead lead o)
  after_leaves [] o h = h
  after_leaves (c ∷ lead) o h = leaves_prefixed b (c ∷ lead) o h

  registered_leaves : (dialects : List (Text × Table)) (lead : Text) (o : Outcome Id) → Leaves b o → Leaves b (registered_after dialects lead o)
  registered_leaves dialects lead (Read id taken rest) h = go (is_some (dialect_of dialects id.dialect)) (is_some (registered dialects (op_id id)))
    where
      go : (known there : Bool) → Leaves b (cond known (cond there (Read id taken rest) (Bad (UnregisteredOp id) [])) (Bad (UnregisteredDialect id.dialect) lead))
      go true true = h
      go true false = leaves_bad b _ _
      go false there = leaves_bad b _ _
  registered_leaves dialects lead (Missing cause) h = leaves_missing b cause
  registered_leaves dialects lead (Bad cause upto) h = leaves_bad b cause upto

  led_leaves_by : (dialects : List (Text × Table)) (o : Outcome (List (Name ℕ))) → Leaves (suc b) o → Leaves b (led_by dialects o)
  led_leaves_by dialects (Read ns lead rest) h =
      (seen {f = λ _. registered_after dialects lead (after_lead lead (id_at rest))} _
      (same_within (registered_leaves dialects lead _ (after_leaves lead (id_at rest) (shortens_id.leaves rest (h.by ns lead rest refl)))))).leaves [] (omega arith)
  led_leaves_by dialects (Missing cause) h = leaves_missing b cause
  led_leaves_by dialects (Bad cause upto) h = leaves_bad b cause upto

-- an operation's lead and id consume at least one character
pub led_leaves : (b : ℕ) (dialects : List (Text × Table)) (text : Text) → length text ≤ suc b → Leaves b (led_at dialects text)
led_leaves b dialects text i = led_leaves_by dialects (lead_at text) (lead_within.leaves text i)

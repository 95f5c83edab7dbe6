-- The place of a block's label is the place of its header.
use Rattle.std.proofs.Common.{◌≡◌, ◌∙◌, ℕ, List, Option, codes, length, refl, sym, ap, subst}
use Rattle.irtext_base.specs.Text.{Text}
use Rattle.irtext_base.specs.Answers.{Read}
use Rattle.irtext_base.specs.Locations.{AttrView}
use Rattle.irtext_tokens.specs.Infix.{Reader, ◌▷◌, ◌▶◌, ◌⇒◌}
use Rattle.irtext_tokens.specs.ListOutcomes.{separated_at}
use Rattle.irtext_tokens.specs.Tokens.{space_at, word, identifier_at}
use Rattle.irtext_tokens.specs.Demanded.{spaced_at}
use Rattle.irtext_grammar.specs.Grammar.Tree.{Name, Mark, Attribute, Head}
use Rattle.irtext_grammar.proofs.Joins.Answers.{followed_read, mapped_read}
use Rattle.irtext_grammar.specs.Heads.{name_of, label_at, argument_at, dictionary_if_at, mark_if_at, head_at}

-- each value that the parser parses has the property
record Gives {X : Type 0} (P : X → Type 0) (f : Reader X) : Type 0 where
  pub by : (text : Text) (x : X) (taken rest : Text) → f text ≡ Read x taken rest → P x

module _ {X Y : Type 0} (P : Y → Type 0) where
  -- of one parser and another after it, the value of the other
  gives_so : (f : Reader X) (k : X → Reader Y) → ((x : X) → Gives P (k x)) → Gives P (f ▶ k)
  gives_so f k g = record { by = λ text y taken rest e. let q = followed_read (f text) k y taken rest e in (g q.value).by q.middle y q.more rest q.second }

  gives_next : (f : Reader X) (g : Reader Y) → Gives P g → Gives P (f ▷ g)
  gives_next f g h = record { by = λ text y taken rest e. let q = followed_read (f text) (λ _ t. g t) y taken rest e in h.by q.middle y q.more rest q.second }

  -- a parsed value seen by a function
  gives_seen : (see : X → Y) (f : Reader X) → ((x : X) → P (see x)) → Gives P (f ⇒ see)
  gives_seen see f h = record { by = λ text y taken rest e. let q = mapped_read see (f text) y taken rest e in subst P q.2 (h q.0) }

module _ {T A : Type 0} (types_at : Reader T) (attr : Reader (AttrView A)) (label : Name ℕ) where
  abbrev head_with : List (Name ℕ × T) → Option (List (Name ℕ × Attribute A)) → Option (Mark ℕ) → Head ℕ T A
  head_with arguments attributes mark = record { label = label; arguments = arguments; attributes = attributes; mark = mark }

  -- what follows the label, from its end
  abbrev after_mark : List (Name ℕ × T) → Option (List (Name ℕ × Attribute A)) → Option (Mark ℕ) → Reader (Head ℕ T A)
  after_mark arguments attributes mark = space_at ▷ word (codes ":") ⇒ λ _. head_with arguments attributes mark

  abbrev after_attributes : List (Name ℕ × T) → Option (List (Name ℕ × Attribute A)) → Reader (Head ℕ T A)
  after_attributes arguments attributes = space_at ▷ mark_if_at ▶ λ mark. after_mark arguments attributes mark

  abbrev after_arguments : List (Name ℕ × T) → Reader (Head ℕ T A)
  after_arguments arguments = word (codes ")") ▷ space_at ▷ dictionary_if_at types_at attr ▶ λ attributes. after_attributes arguments attributes

  abbrev after_label : Reader (Head ℕ T A)
  after_label = spaced_at (codes "(") ▷ separated_at 44 (argument_at types_at attr) ▶ λ arguments. after_arguments arguments

  abbrev HasIt : Head ℕ T A → Type 0
  HasIt h = h.label ≡ label

  keeps_label : Gives HasIt after_label
  keeps_label =
      gives_next HasIt (spaced_at (codes "(")) (separated_at 44 (argument_at types_at attr) ▶ λ arguments. after_arguments arguments)
      (gives_so HasIt (separated_at 44 (argument_at types_at attr)) (λ arguments. after_arguments arguments) (λ arguments.
      gives_next HasIt (word (codes ")")) (space_at ▷ dictionary_if_at types_at attr ▶ λ attributes. after_attributes arguments attributes)
      (gives_next HasIt space_at (dictionary_if_at types_at attr ▶ λ attributes. after_attributes arguments attributes)
      (gives_so HasIt (dictionary_if_at types_at attr) (λ attributes. after_attributes arguments attributes) (λ attributes.
      gives_next HasIt space_at (mark_if_at ▶ λ mark. after_mark arguments attributes mark)
      (gives_so HasIt mark_if_at (λ mark. after_mark arguments attributes mark) (λ mark.
      gives_next HasIt space_at (word (codes ":") ⇒ λ _. head_with arguments attributes mark)
      (gives_seen HasIt (λ _. head_with arguments attributes mark) (word (codes ":")) (λ x. refl)))))))))

module _ {T A : Type 0} (types_at : Reader T) (attr : Reader (AttrView A)) where
  -- the place of the label is that of the header
  pub head_place : (text : Text) (h : Head ℕ T A) (taken rest : Text) → head_at types_at attr text ≡ Read h taken rest → h.label.place ≡ length text
  head_place text h taken rest e =
      let q = followed_read (label_at text) (λ label. after_label types_at attr label) h taken rest e in
      let same = (keeps_label types_at attr q.value).by q.middle h q.more rest q.second in
      let m = mapped_read (name_of (length text)) ((word (codes "^") ▷ identifier_at) text) q.value q.front q.middle q.first in
      ap (λ n. n.place) same ∙ sym (ap (λ n. n.place) m.2)

-- The references of entries and their keys have places in the text that the entries were parsed from.
use Rattle.std.proofs.Common.{◌≡◌, ℕ, ◌≤◌, Bool, true, false, cond, Option, Some, List, [], ◌∷◌, ◌++◌, map, length, length-append, refl, sym, ap, subst, arith}
use Rattle.std.specs.Prelude.{flat_map, is_some, ⊤}
use Rattle.std.specs.Char.{is_whitespace}
use Rattle.irtext_base.specs.Text.{Text, front, after, after_space, in_word}
use Rattle.irtext_base.specs.Reading.{the, more, separated, repeated}
use Rattle.irtext_base.specs.Format.{Id, Format}
use Rattle.irtext_base.specs.Answers.{Outcome}
use Rattle.irtext_base.specs.Locations.{AttrView}
use Rattle.irtext_base.specs.Own.{Texts, Language, language, texts_of}
use Rattle.irtext_base.specs.Paths.{Written}
use Rattle.irtext_base.proofs.Along.{front_after}
use Rattle.irtext_base.proofs.Characters.{after_twice}
use Rattle.irtext_tokens.specs.AttrTexts.{attr_at}
use Rattle.irtext_grammar.proofs.Lists.Each.{each_both}
use Rattle.irtext_grammar.proofs.Names.ResolvedSection.{flat_both}
use Rattle.irtext_grammar.specs.Grammar.Reads as reads
use Rattle.irtext_grammar.specs.Grammar.Section as section
use Rattle.irtext_grammar.specs.Grammar.Section.{Item, direct, reference, Entry, of_item, of_once}
use Rattle.irtext_grammar.specs.Grammar.Tree.{Name}
use Rattle.irtext_grammar.specs.Names.Acts.{Rule, keeps_if, shared_attribute, reference_acts, late_acts}
use Rattle.irtext_grammar.specs.Names.Script.{Failure}
use Rattle.irtext_grammar.specs.Spelling.Spellable.{Each}
use Rattle.irtext_grammar.proofs.Joins.Answers.{Splits}
use Rattle.irtext_grammar.specs.Exact.{NeedsWord}
use Rattle.irtext_grammar.proofs.Exact.Attributes.{exact_attribute}
use Rattle.irtext_grammar.proofs.Exact.Names.{exact_mark}
use Rattle.irtext_grammar.proofs.Claims.{wrong, wrongs}
use Rattle.irtext_grammar.proofs.Given.{splits_entry_location, located_found}
use Rattle.irtext_grammar.proofs.Pairs.{exact_pair, own_location}

-- ---- the failures of references are at the places of the references
-- the place of a reference is at most this far from the end
abbrev IsNear : {A : Type 0} → ℕ → Item ℕ A → Type 0
IsNear b (direct a) = ⊤
IsNear b (reference m) = m.place ≤ b

-- so do the keys and the references of pairs
abbrev AreNear : {A : Type 0} → ℕ → List (Name ℕ × Item ℕ A) → Type 0
AreNear b ps = Each (λ p. (p.0.place ≤ b) × IsNear b p.1) ps

-- and those of an entry
abbrev pub EntryNear : {A X : Type 0} → ℕ → Entry ℕ A X → Type 0
EntryNear b (of_item m x ps) = AreNear b ps
EntryNear b (of_once m a) = ⊤

-- the place of a failure is at most this far from the end
pub record IsWithin (b : ℕ) (f : Failure Text ℕ) : Type 0 where
  pub place : ℕ
  pub at : f.at ≡ Some place
  pub near : place ≤ b

module _ (b : ℕ) where
  claimed_near : (c : Bool) (f : Failure Text ℕ) (fs : List (Failure Text ℕ)) → IsWithin b f → Each (IsWithin b) fs → Each (IsWithin b) (cond c [] (f ∷ []) ++ fs)
  claimed_near true f fs h k = k
  claimed_near false f fs h k = (h, k)

  module _ {A X : Type 0} where
    references_near : (rule : Rule A) (all : List (Entry ℕ A X)) (ps : List (Name ℕ × Item ℕ A)) → AreNear b ps → Each (IsWithin b) (wrongs (flat_map (reference_acts rule all) ps))
    references_near rule all [] h = tt
    references_near rule all ((n, direct a) ∷ ps) h = references_near rule all ps h.1
    references_near rule all ((n, reference m) ∷ ps) h =
        claimed_near (is_some (shared_attribute m.index all)) _ _ (record { place = m.place; at = refl; near = h.0.1 })
        (claimed_near (keeps_if rule n.text (shared_attribute m.index all)) _ _ (record { place = n.place; at = refl; near = h.0.0 }) (references_near rule all ps h.1))

    pub late_near : (rules : ℕ → Rule A) (all es : List (Entry ℕ A X)) → Each (EntryNear b) es → Each (IsWithin b) (wrongs (flat_map (late_acts rules all) es))
    late_near rules all [] h = tt
    late_near rules all (of_once m a ∷ es) h = late_near rules all es h.1
    late_near rules all (of_item m x ps ∷ es) h =
        subst (Each (IsWithin b)) (sym (flat_both wrong (flat_map (reference_acts (rules m.index) all) ps) (flat_map (late_acts rules all) es)))
        (each_both (IsWithin b) (wrongs (flat_map (reference_acts (rules m.index) all) ps)) (wrongs (flat_map (late_acts rules all) es)) (references_near (rules m.index) all ps h.0) (late_near rules all es h.1))

-- ---- what is parsed leaves no more than its text
split_near : (taken rest text : Text) → taken ++ rest ≡ text → length rest ≤ length text
split_near taken rest text e = omega (arith, ap length e, length-append taken rest)

space_near : (text : Text) → length (after_space text) ≤ length text
space_near text = split_near (front is_whitespace text) (after_space text) text (front_after is_whitespace text)

word_near : (text : Text) → length (after in_word text) ≤ length text
word_near text = split_near (front in_word text) (after in_word text) text (front_after in_word text)

module _ {T A : Type 0} (types : Texts T) (reading : Text → Outcome A) (written : A → Text) (formats : Id → Option Format) (splits : Splits reading) (words : NeedsWord reading) (cut : Splits (attr_at reading)) where
  abbrev l : Language ℕ T A
  l = language types (texts_of reading written) formats

  abbrev attr : Text → Outcome (AttrView A)
  attr = attr_at reading

  pair_left : (b : ℕ) (p : Name ℕ × Item ℕ A) (text rest : Text) → length text ≤ b → section.pair l (own_location reading) p text rest → length rest ≤ b
  pair_left b p text rest h r =
      let k = (exact_pair types reading written formats splits words).found text p rest r in
      let s = ((exact_pair types reading written formats splits words).read text p k.0 rest k.1).1 in
      omega (arith, h, split_near k.0 rest text s)

  pair_places : (b : ℕ) (p : Name ℕ × Item ℕ A) (text rest : Text) → length text ≤ b → section.pair l (own_location reading) p text rest → (p.0.place ≤ b) × IsNear b p.1
  pair_places b (n, direct a) text rest h (m, (at, w), s) = (omega (arith, h, at), tt)
  pair_places b (n, reference k) text rest h (m, (at, w), (e, q, s)) =
      (omega (arith, h, at), omega (arith, h, s.0, ap length w.2, word_near text, space_near m, ap length q, space_near e))

  pair_near : (b : ℕ) (p : Name ℕ × Item ℕ A) (text rest : Text) → length text ≤ b → section.pair l (own_location reading) p text rest → ((p.0.place ≤ b) × IsNear b p.1) × (length rest ≤ b)
  pair_near b p text rest h r = (pair_places b p text rest h r, pair_left b p text rest h r)

  pairs_near : (b : ℕ) (ps : List (Name ℕ × Item ℕ A)) (text rest : Text) → length text ≤ b → separated 44 reads.no_word (map (section.pair l (own_location reading)) ps) text rest → AreNear b ps × (length rest ≤ b)
  pairs_near b [] text rest h r = (tt, omega (arith, h, ap length r.1))
  pairs_near b (p ∷ ps) text rest h (mid, r, s) =
      let k = pair_near b p text mid h r in
      let n = more_near ps (after_space mid) rest (omega (arith, k.1, space_near mid)) s in
      ((k.0, n.0), n.1)
    where
      more_near : (ps : List (Name ℕ × Item ℕ A)) (text rest : Text) → length text ≤ b → more 44 (map (section.pair l (own_location reading)) ps) text rest → AreNear b ps × (length rest ≤ b)
      more_near [] text rest h r = (tt, omega (arith, h, ap length r.1))
      more_near (p ∷ ps) text rest h (m, c, (mid, r, s)) =
          let k = pair_near b p (after_space m) mid (omega (arith, h, ap length c, space_near m)) r in
          let n = more_near ps (after_space mid) rest (omega (arith, k.1, space_near mid)) s in
          ((k.0, n.0), n.1)

  entry_near : (b : ℕ) (e : Entry ℕ A (Written A)) (text rest : Text) → length text ≤ b → section.entry l (own_location reading) e text rest → EntryNear b e × (length rest ≤ b)
  entry_near b (of_once m a) text rest h (mid, r, (end, q, s)) =
      let k = (exact_mark types (texts_of reading written) formats).found text m mid r in
      let i = split_near k.0 mid text ((exact_mark types (texts_of reading written) formats).read text m k.0 mid k.1).1 in
      let j = (exact_attribute types reading written formats splits).found (after_space end) a rest s in
      let o = split_near j.0 rest (after_space end) ((exact_attribute types reading written formats splits).read (after_space end) a j.0 rest j.1).1 in
      (tt, omega (arith, h, i, space_near mid, ap length q, space_near end, o))
  entry_near b (of_item m x ps) text rest h (mid, r, (end, q, (c, d, (f, g, (j, s, w))))) =
      let k = (exact_mark types (texts_of reading written) formats).found text m mid r in
      let i = split_near k.0 mid text ((exact_mark types (texts_of reading written) formats).read text m k.0 mid k.1).1 in
      let n = located_found attr cut l (own_location reading) (λ t. refl) (after_space end) x c (after_twice is_whitespace end) d in
      let o = split_near n.0 (after_space c) (after_space end) (splits_entry_location attr cut (after_space end) x n.0 (after_space c) n.1) in
      let inside : length (after_space f) ≤ b = omega (arith, h, i, space_near mid, ap length q, space_near end, o, ap length g, space_near f) in
      let v = pairs_near b ps (after_space f) j inside s in
      (v.0, omega (arith, v.1, space_near j, ap length w))

  -- entries that the grammar parses from a text have their places in it
  pub entries_near : (b : ℕ) (es : List (Entry ℕ A (Written A))) (text rest : Text) → length text ≤ b → repeated (the 33) (map (section.entry l (own_location reading)) es) text rest → Each (EntryNear b) es
  entries_near b [] text rest h r = tt
  entries_near b (e ∷ es) text rest h (mid, r, s) =
      let k = entry_near b e text mid h r in
      (k.0, entries_near b es (after_space mid) rest (omega (arith, k.1, space_near mid)) s)

-- The parser of a section for its syntax alone accepts what the grammar parses, and nothing else.
use Rattle.std.proofs.Common.{◌≡◌, ◌∙◌, ◌≤◌, inl, inr, Option, ℕ, zero, suc, Bool, true, false, cond, List, [], ◌∷◌, ◌++◌, map, length, length-append, refl, sym, ap, ap₂, subst, true≢false, append_assoc, append-nil, arith}
use Rattle.std.specs.Prelude.{codes}
use Rattle.std.specs.Char.{is_whitespace}
use Rattle.irtext_base.specs.Text.{Text, begins, front, after_space}
use Rattle.irtext_base.specs.Reading.{Reading, the, repeated}
use Rattle.irtext_base.specs.Format.{Id, Format}
use Rattle.irtext_base.specs.Answers.{Outcome, Read, followed}
use Rattle.irtext_base.specs.Locations.{AttrView}
use Rattle.irtext_base.specs.Own.{Texts, Language, language, texts_of}
use Rattle.irtext_base.specs.Paths.{Written}
use Rattle.irtext_base.proofs.Along.{front_after}
use Rattle.irtext_tokens.specs.AttrTexts.{attr_at}
use Rattle.irtext_tokens.specs.Demanded.{spaced_at}
use Rattle.irtext_tokens.specs.Tokens.{space_at}
use Rattle.irtext_grammar.specs.Exact.{NeedsWord}
use Rattle.irtext_grammar.specs.Grammar.Section as section
use Rattle.irtext_grammar.specs.Grammar.Section.{Item, direct, reference, Entry, of_item, of_once}
use Rattle.irtext_grammar.specs.Grammar.Tree.{Name}
use Rattle.irtext_grammar.specs.Names.Script.{Failure}
use Rattle.irtext_grammar.specs.Agrees.{ReadOrStops}
use Rattle.irtext_grammar.proofs.Claims.{wrong_pairs}
use Rattle.irtext_grammar.proofs.Entries.{wrong_entry, entry_read, entry_found}
use Rattle.irtext_grammar.proofs.Grows.{grows_entry, less_left}
use Rattle.irtext_grammar.proofs.Joins.Answers.{Splits, followed_read, followed-read}
use Rattle.irtext_grammar.proofs.Joins.Section.{spaced_read, spaced_found}
use Rattle.irtext_grammar.proofs.Pairs.{own_location}
use Rattle.irtext_survey.specs.Section.{any_rule, any_index, entry_in, entries_in, section_in}

shorter_space : (text : Text) → length (after_space text) ≤ length text
shorter_space text = omega (arith, ap length (front_after is_whitespace text), length-append (front is_whitespace text) (after_space text))

-- ---- nothing is wrong where anything is allowed
pairs_right : {A : Type 0} (ps : List (Name ℕ × Item ℕ A)) → wrong_pairs any_rule ps ≡ []
pairs_right [] = refl
pairs_right ((n, direct a) ∷ ps) = pairs_right ps
pairs_right ((n, reference m) ∷ ps) = pairs_right ps

entry_right : {A X : Type 0} (e : Entry ℕ A X) → wrong_entry any_index (λ i. any_rule) e ≡ []
entry_right (of_item m x ps) = pairs_right ps
entry_right (of_once m a) = refl

module _ {T A : Type 0} (types : Texts T) (reading : Text → Outcome A) (written : A → Text) (formats : Id → Option Format) (splits : Splits reading) (words : NeedsWord reading) (cut : Splits (attr_at reading)) where
  abbrev l : Language ℕ T A
  l = language types (texts_of reading written) formats

  abbrev attr : Text → Outcome (AttrView A)
  attr = attr_at reading

  abbrev An : Entry ℕ A (Written A) → Reading
  An e = section.entry l (own_location reading) e

  -- ---- one entry
  one_read : (text : Text) (e : Entry ℕ A (Written A)) (taken rest : Text) → entry_in attr text ≡ Read e taken rest → An e text rest × (taken ++ rest ≡ text)
  one_read text e taken rest is = let k = entry_read types reading written formats splits words cut any_index (λ i. any_rule) text e taken rest is in (k.0, k.1)

  one_found : (text : Text) (e : Entry ℕ A (Written A)) (rest : Text) → An e text rest → (taken : Text) × (entry_in attr text ≡ Read e taken rest)
  one_found text e rest r = go (wrong_entry any_index (λ i. any_rule) e) (entry_right e) (entry_found types reading written formats splits words cut any_index (λ i. any_rule) text e rest r)
    where
      go : (fs : List (Failure Text ℕ)) → fs ≡ [] → ReadOrStops text (entry_in attr text) e rest fs → (taken : Text) × (entry_in attr text ≡ Read e taken rest)
      go fs none (inl w) = w.1
      go fs none (inr s) = absurd (cc (none, s.is))

  -- ---- all entries
  -- what follows an entry
  abbrev entry_next : ℕ → List (Entry ℕ A (Written A)) → Entry ℕ A (Written A) → Text → Outcome (List (Entry ℕ A (Written A)))
  entry_next n found e t = followed (space_at t) (λ _ u. entries_in attr n (found ++ e ∷ []) u)

  -- the entries that were accepted after those found
  record AllRead (found all : List (Entry ℕ A (Written A))) (text rest : Text) : Type 0 where
    pub es : List (Entry ℕ A (Written A))
    pub whole : all ≡ found ++ es
    pub reads : repeated (the 33) (map An es) text rest

  entries_none : (found es : List (Entry ℕ A (Written A))) (text taken rest : Text) → begins (the 33) text ≡ false → Read found [] text ≡ Read es taken rest → AllRead found es text rest
  entries_none found es text taken rest stop e = record {
    es = [];
    whole = let h : found ≡ es = cc e in sym h ∙ sym (append-nil found);
    reads = (stop, let h : text ≡ rest = cc e in sym h);
  }

  nothing_left : (text : Text) → length text ≤ 0 → begins (the 33) text ≡ false
  nothing_left [] h = refl
  nothing_left (c ∷ text) h = absurd (omega (arith, h))

  entries_accepted : (n : ℕ) (found es : List (Entry ℕ A (Written A))) (text taken rest : Text) → length text ≤ n → entries_in attr n found text ≡ Read es taken rest → AllRead found es text rest
  entries_accepted zero found es text taken rest enough e = entries_none found es text taken rest (nothing_left text enough) e
  entries_accepted (suc n) found es text taken rest enough e = go (begins (the 33) text) refl e (λ more u t rest small is. entries_accepted n more es u t rest small is)
    where
      go : (b : Bool) → begins (the 33) text ≡ b → cond b (followed (entry_in attr text) (entry_next n found)) (Read found [] text) ≡ Read es taken rest
          → ((more : List (Entry ℕ A (Written A))) (u t rest : Text) → length u ≤ n → entries_in attr n more u ≡ Read es t rest → AllRead more es u rest) → AllRead found es text rest
      go true b e again =
          let a = followed_read (entry_in attr text) (entry_next n found) es taken rest e in
          let r = one_read text a.value a.front a.middle a.first in
          let s = followed_read (space_at a.middle) (λ _ u. entries_in attr n (found ++ a.value ∷ []) u) es a.more rest a.second in
          let spaced : after_space a.middle ≡ s.middle = cc s.first in
          let less = less_left (entry_in attr text) a.value a.front a.middle text (grows_entry attr any_index (λ i. any_rule) text) a.first r.1 in
          let k = again (found ++ a.value ∷ []) s.middle s.more rest (omega (arith, enough, less, shorter_space a.middle, ap length spaced)) s.second in
          record {
            es = a.value ∷ k.es;
            whole = k.whole ∙ append_assoc found (a.value ∷ []) k.es;
            reads = (a.middle, r.0, subst (λ t. repeated (the 33) (map An k.es) t rest) (sym spaced) k.reads);
          }
      go false b e again = entries_none found es text taken rest b e

  entry_begins : (e : Entry ℕ A (Written A)) (text rest : Text) → An e text rest → begins (the 33) text ≡ true
  entry_begins (of_item m x ps) text rest (mid, r, s) = ap (begins (the 33)) r.1.1
  entry_begins (of_once m a) text rest (mid, r, s) = ap (begins (the 33)) r.1.1

  entries_there : (n : ℕ) (found es : List (Entry ℕ A (Written A))) (text rest : Text) → length text ≤ n → repeated (the 33) (map An es) text rest → (taken : Text) × (entries_in attr n found text ≡ Read (found ++ es) taken rest)
  entries_there zero found [] text rest i (f, e) = ([], ap₂ (λ z t. Read z [] t) (sym (append-nil found)) (sym e))
  entries_there (suc n) found [] text rest i (f, e) = ([], rw f (ap₂ (λ z t. Read z [] t) (sym (append-nil found)) (sym e)))
  entries_there zero found (e ∷ es) text rest i (mid, r, more) = absurd (true≢false (sym (entry_begins e text mid r) ∙ nothing_left text i))
  entries_there (suc n) found (e ∷ es) text rest i (mid, r, more) =
      let begun = entry_begins e text mid r in
      let one = one_found text e mid r in
      let split = (one_read text e one.0 mid one.1).1 in
      let less = less_left (entry_in attr text) e one.0 mid text (grows_entry attr any_index (λ i. any_rule) text) one.1 split in
      let w = entries_there n (found ++ e ∷ []) es (after_space mid) rest (omega (arith, i, less, shorter_space mid)) more in
      let all : (found ++ e ∷ []) ++ es ≡ found ++ e ∷ es = append_assoc found (e ∷ []) es in (
        one.0 ++ (front is_whitespace mid ++ w.0),
        rw begun (followed-read (entry_in attr text) (entry_next n found) e (found ++ e ∷ es) one.0 mid (front is_whitespace mid ++ w.0) rest one.1
            (followed-read (space_at mid) (λ _ u. entries_in attr n (found ++ e ∷ []) u) tt (found ++ e ∷ es) (front is_whitespace mid) (after_space mid) w.0 rest refl (w.1 ∙ ap (λ z. Read z w.0 rest) all))),
      )

  -- ---- the section
  abbrev all_next : Unit {0} → Text → Outcome (List (Entry ℕ A (Written A)))
  all_next _ t = entries_in attr (length t) [] t

  -- a section that is accepted the grammar parses
  pub syntax_read : (text : Text) (es : List (Entry ℕ A (Written A))) (taken rest : Text) → section_in attr text ≡ Read es taken rest → section.section l (own_location reading) es text rest
  syntax_read text es taken rest e =
      let a = followed_read (spaced_at (codes "outlined_attributes:") text) all_next es taken rest e in
      let s = spaced_read (codes "outlined_attributes:") text a.front a.middle a.first in
      let k = entries_accepted (length a.middle) [] es a.middle a.more rest (omega arith) a.second in
      (s.0, s.1, subst (λ t. repeated (the 33) (map An es) t rest) (sym s.2) (subst (λ fs. repeated (the 33) (map An fs) a.middle rest) (sym k.whole) k.reads))

  -- a section that the grammar parses is accepted
  pub syntax_found : (text : Text) (es : List (Entry ℕ A (Written A))) (rest : Text) → section.section l (own_location reading) es text rest → (taken : Text) × (section_in attr text ≡ Read es taken rest)
  syntax_found text es rest (m, e, r) =
      let h = spaced_found (codes "outlined_attributes:") text m e in
      let w = entries_there (length (after_space m)) [] es (after_space m) rest (omega arith) r in
      (h.0 ++ w.0, followed-read (spaced_at (codes "outlined_attributes:") text) all_next tt es h.0 (after_space m) w.0 rest h.1 w.1)

-- The parser of a section returns what the grammar parses, and the first failure is the same.
use Rattle.std.proofs.Common.{◌≡◌, ◌∙◌, inl, inr, ℕ, Option, Some, List, [], ◌∷◌, ◌++◌, map, length, length-append, refl, sym, ap, ap₂, subst, arith}
use Rattle.std.proofs.lemmas.List.{take-append-drop, length-drop}
use Rattle.std.specs.Prelude.{codes, ◌-◌, take, drop}
use Rattle.irtext_base.specs.Text.{Text, after_space}
use Rattle.irtext_base.specs.Reading.{the, repeated}
use Rattle.irtext_base.specs.Format.{Id, Format}
use Rattle.irtext_base.specs.Answers.{Outcome, Read, Missing, Bad}
use Rattle.irtext_base.specs.Locations.{AttrView}
use Rattle.irtext_base.specs.Own.{Texts, Language, language, texts_of}
use Rattle.irtext_base.specs.Paths.{Written}
use Rattle.irtext_tokens.specs.AttrTexts.{attr_at}
use Rattle.irtext_tokens.specs.Demanded.{spaced_at}
use Rattle.irtext_grammar.specs.Grammar.Section as section
use Rattle.irtext_grammar.specs.Grammar.Section.{Entry}
use Rattle.irtext_grammar.specs.Names.Acts.{Rule}
use Rattle.irtext_grammar.specs.Names.Script.{Failure}
use Rattle.irtext_grammar.specs.Spelling.Spellable.{Each}
use Rattle.irtext_grammar.proofs.Joins.Answers.{Splits, followed_read, followed-read}
use Rattle.irtext_grammar.proofs.Joins.Section.{spaced_read, spaced_found}
use Rattle.irtext_grammar.specs.Exact.{NeedsWord}
use Rattle.irtext_grammar.proofs.Exact.Combined.{split_after_front}
use Rattle.irtext_grammar.specs.Entries.{fault_for, upto, wrong_references, unless_wrong, referred, entries_after, entries_at, section_at}
use Rattle.irtext_grammar.specs.Agrees.{StopsAt, ReadOrStops, refused}
use Rattle.irtext_grammar.proofs.Claims.{wrong_entries, references_fail, refused_parts}
use Rattle.irtext_grammar.proofs.Entries.{entries_read, entries_found}
use Rattle.irtext_grammar.proofs.Given.{splits_spaced}
use Rattle.irtext_grammar.proofs.Places.{EntryNear, IsWithin, late_near, entries_near}
use Rattle.irtext_grammar.proofs.Stops.{stops_before, stops_as, stops_after, stops_second}
use Rattle.irtext_grammar.proofs.Pairs.{own_location}

-- ---- references
module _ {A X : Type 0} (rules : ℕ → Rule A) where
  referred_read : (text : Text) (o : Outcome (List (Entry ℕ A X))) (es : List (Entry ℕ A X)) (taken rest : Text) → referred rules text o ≡ Read es taken rest → (o ≡ Read es taken rest) × (wrong_references rules es ≡ [])
  referred_read text (Read fs t r) es taken rest e = go (wrong_references rules fs) refl e
    where
      go : (ws : List (Failure Text ℕ)) → wrong_references rules fs ≡ ws → unless_wrong text ws (Read fs t r) ≡ Read es taken rest → (Read fs t r ≡ Read es taken rest) × (wrong_references rules es ≡ [])
      go [] w e = (e, let f : fs ≡ es = cc e in ap (wrong_references rules) (sym f) ∙ w)
      go (f ∷ fs) w e = absurd (cc e)
  referred_read text (Missing cause) es taken rest e = absurd (cc e)
  referred_read text (Bad cause upto) es taken rest e = absurd (cc e)

  -- entries that were parsed from a text, with places in it, are returned, or the text is bad at the first reference that fails
  referred_found : (text : Text) (o : Outcome (List (Entry ℕ A X))) (es : List (Entry ℕ A X)) (taken rest : Text) → o ≡ Read es taken rest → Each (EntryNear (length text)) es → ReadOrStops text (referred rules text o) es rest (wrong_references rules es)
  referred_found text o es taken rest e near = go (wrong_references rules es) refl (subst (Each (IsWithin (length text))) (sym (references_fail rules es)) (late_near (length text) rules es es near))
    where
      go : (ws : List (Failure Text ℕ)) → wrong_references rules es ≡ ws → Each (IsWithin (length text)) (wrong_references rules es) → ReadOrStops text (referred rules text o) es rest (wrong_references rules es)
      go [] w h = inl (w, (taken, ap (referred rules text) e ∙ ap (λ ws. unless_wrong text ws (Read es taken rest)) w))
      go (f ∷ fs) w h =
          let k : IsWithin (length text) f = (subst (Each (IsWithin (length text))) w h).0 in
          let n = length text - k.place in
          inr (record {
            first = f;
            others = fs;
            is = w;
            upto = take n text;
            stop = drop n text;
            splits = take-append-drop n text;
            at = k.at ∙ ap Some (omega (arith, length-drop n text, k.near));
            bad = ap (referred rules text) e ∙ (ap (λ ws. unless_wrong text ws (Read es taken rest)) w ∙ ap (λ p. Bad (fault_for f.cause) (upto text p)) k.at);
          })

module _ {T A : Type 0} (types : Texts T) (reading : Text → Outcome A) (written : A → Text) (formats : Id → Option Format) (splits : Splits reading) (words : NeedsWord reading) (cut : Splits (attr_at reading)) where
  abbrev l : Language ℕ T A
  l = language types (texts_of reading written) formats

  abbrev attr : Text → Outcome (AttrView A)
  attr = attr_at reading

  module _ (marks : List ℕ) (rules : ℕ → Rule A) where
    abbrev all_next : Unit {0} → Text → Outcome (List (Entry ℕ A (Written A)))
    all_next _ t = entries_after attr marks rules (length t) [] t

    -- a section that is accepted the grammar parses, and it has no failure
    pub section_read : (text : Text) (es : List (Entry ℕ A (Written A))) (taken rest : Text) → section_at attr marks rules text ≡ Read es taken rest
        → section.section l (own_location reading) es text rest × (taken ++ rest ≡ text) × (refused marks rules es ≡ [])
    section_read text es taken rest e =
        let r = referred_read rules text (entries_at attr marks rules text) es taken rest e in
        let a = followed_read (spaced_at (codes "outlined_attributes:") text) all_next es taken rest r.0 in
        let s = spaced_read (codes "outlined_attributes:") text a.front a.middle a.first in
        let k = entries_read types reading written formats splits words cut marks rules (length a.middle) [] es a.middle a.more rest (omega arith) a.second in (
          (s.0, s.1, subst (λ t. repeated (the 33) (map (section.entry l (own_location reading)) es) t rest) (sym s.2) (subst (λ fs. repeated (the 33) (map (section.entry l (own_location reading)) fs) a.middle rest) (sym k.whole) k.reads)),
          split_after_front text a.front a.middle a.more rest taken (splits_spaced attr cut (codes "outlined_attributes:") text a.value a.front a.middle a.first) k.split a.whole,
          refused_parts marks rules es ∙ ap₂ ◌++◌ (ap (wrong_entries marks rules []) k.whole ∙ k.fine) r.1,
        )

    -- a section that the grammar parses is accepted, or rejected at the first failure
    pub section_found : (text : Text) (es : List (Entry ℕ A (Written A))) (rest : Text) → section.section l (own_location reading) es text rest → ReadOrStops text (section_at attr marks rules text) es rest (refused marks rules es)
    section_found text es rest (m, e, r) = go (entries_found types reading written formats splits words cut marks rules (length (after_space m)) [] es (after_space m) rest (omega arith) r)
      where
        h : (taken : Text) × (spaced_at (codes "outlined_attributes:") text ≡ Read tt taken (after_space m))
        h = spaced_found (codes "outlined_attributes:") text m e

        split : h.0 ++ after_space m ≡ text
        split = splits_spaced attr cut (codes "outlined_attributes:") text tt h.0 (after_space m) h.1

        parts : refused marks rules es ≡ wrong_entries marks rules [] es ++ wrong_references rules es
        parts = refused_parts marks rules es

        near : Each (EntryNear (length text)) es
        near = entries_near types reading written formats splits words cut (length text) es (after_space m) rest (omega (arith, ap length split, length-append h.0 (after_space m))) r

        late : wrong_entries marks rules [] es ≡ [] → ReadOrStops text (section_at attr marks rules text) es rest (wrong_references rules es) → ReadOrStops text (section_at attr marks rules text) es rest (refused marks rules es)
        late w (inl v) = inl (parts ∙ ap₂ ◌++◌ w v.0, v.1)
        late w (inr v) = inr (stops_as (wrong_references rules es) (refused marks rules es) (parts ∙ ap (λ z. z ++ wrong_references rules es) w) v)

        go : ReadOrStops (after_space m) (entries_after attr marks rules (length (after_space m)) [] (after_space m)) es rest (wrong_entries marks rules [] es) → ReadOrStops text (section_at attr marks rules text) es rest (refused marks rules es)
        go (inl w) =
            let all : entries_at attr marks rules text ≡ Read es (h.0 ++ w.1.0) rest = followed-read (spaced_at (codes "outlined_attributes:") text) all_next tt es h.0 (after_space m) w.1.0 rest h.1 w.1.1 in
            late w.0 (referred_found rules text (entries_at attr marks rules text) es (h.0 ++ w.1.0) rest all near)
        go (inr s) =
            let inner : StopsAt text (entries_at attr marks rules text) (wrong_entries marks rules [] es) = stops_second all_next (spaced_at (codes "outlined_attributes:") text) tt h.0 (after_space m) text h.1 split s in
            let outer : StopsAt text (section_at attr marks rules text) (wrong_entries marks rules [] es) = stops_after [] text text refl (λ cause u b. ap (referred rules text) b) inner in
            inr (stops_before (wrong_entries marks rules [] es) (wrong_references rules es) (refused marks rules es) parts outer)

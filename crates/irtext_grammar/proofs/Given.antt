-- The parser of what an item's entry gives returns what the grammar parses: its location, and its pairs.
use Rattle.std.proofs.Common.{◌≡◌, ◌∙◌, inl, inr, ℕ, Bool, true, false, cond, Option, Some, None, List, [], ◌++◌, length, refl, sym, ap, ap₂, subst, append_assoc}
use Rattle.std.specs.Prelude.{codes}
use Rattle.std.specs.Char.{is_whitespace}
use Rattle.irtext_base.specs.Text.{Text, begins, front, after_space}
use Rattle.irtext_base.specs.Reading.{Reading, ◌▹◌, the}
use Rattle.irtext_base.specs.Format.{Id, Format}
use Rattle.irtext_base.specs.Answers.{Outcome, Read, Missing, Bad, mapped, followed}
use Rattle.irtext_base.specs.Locations.{AttrView}
use Rattle.irtext_base.specs.Own.{Texts, Language, Verdict, language, texts_of, found, verdict}
use Rattle.irtext_base.specs.Paths.{Written}
use Rattle.irtext_base.proofs.Sincere.{Of}
use Rattle.irtext_tokens.specs.AttrTexts.{attr_at}
use Rattle.irtext_tokens.specs.Infix.{Reader, either}
use Rattle.irtext_tokens.specs.Tokens.{space_at, text_at}
use Rattle.irtext_tokens.specs.Demanded.{spaced_at}
use Rattle.irtext_tokens.proofs.Honest.{Honest}
use Rattle.irtext_grammar.specs.Grammar.Section as section
use Rattle.irtext_grammar.specs.Grammar.Section.{Item}
use Rattle.irtext_grammar.specs.Grammar.Tree.{Name}
use Rattle.irtext_grammar.specs.Names.Acts.{Rule}
use Rattle.irtext_grammar.specs.Readers.Locations.{WrittenRow, after_location, row_of, row_at, location_at}
use Rattle.irtext_grammar.specs.Readers.Section.{entry_location_at}
use Rattle.irtext_grammar.proofs.Joins.Answers.{Splits, followed_read, followed-read, mapped_read, splits_followed, splits_mapped}
use Rattle.irtext_grammar.proofs.Joins.Section.{spaced_read, spaced_found}
use Rattle.irtext_grammar.proofs.Joins.Tokens.{text_read, text-literal, splits_text, splits_space}
use Rattle.irtext_grammar.proofs.Readers.Honest.{Keeps, keeps_within}
use Rattle.irtext_grammar.specs.Exact.{NeedsWord}
use Rattle.irtext_grammar.specs.Entries.{given_at, pairs_at}
use Rattle.irtext_grammar.specs.Agrees.{ReadOrStops}
use Rattle.irtext_grammar.proofs.Claims.{wrong_pairs}
use Rattle.irtext_grammar.proofs.Pairs.{bracketed, pairs_read, pairs_found, own_location}
use Rattle.irtext_grammar.proofs.Stops.{stops_seen, stops_second}

-- ---- what is taken of a location and what is left make up the text
-- a parser that takes a front of its text
pub record Cuts {X : Type 0} (f : Reader X) : Type 0 where
  pub splits : Splits f

cuts_honest : {X : Type 0} {f : Reader X} → Honest f → Cuts f
cuts_honest {f = f} h = record { splits = λ text x taken rest e. (subst (Of text) e (h.of text)).says }

cuts_either : {X : Type 0} {f g : Reader X} (test : Text → Bool) → Cuts f → Cuts g → Cuts (either test f g)
cuts_either {X} {f} {g} test h k = record { splits = λ text x taken rest e. go text (test text) x taken rest e }
  where
    go : (text : Text) (b : Bool) (x : X) (taken rest : Text) → cond b (f text) (g text) ≡ Read x taken rest → taken ++ rest ≡ text
    go text true x taken rest e = h.splits text x taken rest e
    go text false x taken rest e = k.splits text x taken rest e

module _ {A : Type 0} (inner : Reader (Written A)) (more : Reader (WrittenRow A)) where
  cuts_row : Cuts inner → ((w : Written A) → Cuts (after_location inner more w)) → Cuts (row_at inner more)
  cuts_row h k = record { splits = λ text x taken rest e. go text (inner text) refl x taken rest e }
    where
      go : (text : Text) (o : Outcome (Written A)) → inner text ≡ o → (x : WrittenRow A) (taken rest : Text) → row_of inner more o text ≡ Read x taken rest → taken ++ rest ≡ text
      go text (Read w t r) is x taken rest e =
          splits_followed inner (after_location inner more) h.splits (λ w. (k w).splits) text x taken rest (ap (λ o. followed o (after_location inner more)) is ∙ e)
      go text (Missing cause) is x taken rest e = let f : [] ≡ taken = cc e in let g : text ≡ rest = cc e in ap₂ ◌++◌ (sym f) (sym g)
      go text (Bad cause upto) is x taken rest e = absurd (cc e)

cuts_keeps : Keeps (λ X f. Cuts f)
cuts_keeps = record {
  honest = cuts_honest;
  follows = λ {X} {Y} {f} {k} h g. record { splits = splits_followed f k h.splits (λ x. (g x).splits) };
  sees = λ {X} {Y} {f} see h. record { splits = splits_mapped see f h.splits };
  one_of = cuts_either;
  row = cuts_row;
}

-- a location takes a front of its text, where an attribute does
pub splits_location : {A : Type 0} (attr : Text → Outcome (AttrView A)) → Splits attr → Splits (location_at attr)
splits_location attr h text x taken rest e = (keeps_within cuts_keeps (record { splits = h }) (length text)).splits text x taken rest e

-- the outcome, as the grammar uses it, is a value only if the parser succeeded
verdict_found : {X : Type 0} (o : Outcome X) (x : X) (rest : Text) → verdict o ≡ found x rest → (taken : Text) × (o ≡ Read x taken rest)
verdict_found (Read y a r) x rest e = (a, ap₂ (λ y r. Read y a r) (cc e) (cc e))
verdict_found (Missing cause) x rest e = absurd (cc e)
verdict_found (Bad cause upto) x rest e = absurd (cc e)

module _ {A : Type 0} (attr : Text → Outcome (AttrView A)) (cut : Splits attr) where
  -- ---- an entry's location: what its parser does, step by step
  abbrev last_next : Written A → Unit {0} → Text → Outcome (Option (Written A))
  last_next x _ text = mapped (λ _. Some x) (space_at text)

  abbrev comma_next : Written A → Unit {0} → Text → Outcome (Option (Written A))
  comma_next x _ text = followed (text_at (codes ",") text) (last_next x)

  abbrev bracket_next : Written A → Text → Outcome (Option (Written A))
  bracket_next x text = followed (spaced_at (codes "]") text) (comma_next x)

  abbrev place_next : Unit {0} → Text → Outcome (Option (Written A))
  place_next _ text = followed (location_at attr text) bracket_next

  abbrev after_at : Unit {0} → Text → Outcome (Option (Written A))
  after_at _ text = followed (space_at text) place_next

  pub splits_spaced : (w : Text) → Splits (spaced_at w)
  splits_spaced w = splits_followed space_at (λ _ t. followed (text_at w t) (λ _ u. space_at u)) splits_space (λ _. splits_followed (text_at w) (λ _ u. space_at u) (splits_text w) (λ _. splits_space))

  -- what is taken of it and what is left make up the text
  pub splits_entry_location : Splits (entry_location_at attr)
  splits_entry_location text x taken rest e = go (begins (the 64) text) e
    where
      some : Splits (λ t. followed (text_at (codes "@[") t) after_at)
      some = splits_followed (text_at (codes "@[")) after_at (splits_text (codes "@[")) (λ _. splits_followed space_at place_next splits_space
          (λ _. splits_followed (location_at attr) bracket_next (splits_location attr cut) (λ w. splits_followed (spaced_at (codes "]")) (comma_next w) (splits_spaced (codes "]"))
          (λ _. splits_followed (text_at (codes ",")) (last_next w) (splits_text (codes ",")) (λ _. splits_mapped (λ _. Some w) space_at splits_space)))))

      go : (b : Bool) → cond b (followed (text_at (codes "@[") text) after_at) (Read None [] text) ≡ Read x taken rest → taken ++ rest ≡ text
      go true e = some text x taken rest e
      go false e = let f : [] ≡ taken = cc e in let g : text ≡ rest = cc e in ap₂ ◌++◌ (sym f) (sym g)

  module _ {T : Type 0} (L : Language ℕ T A) (loc : Text → Verdict (Written A)) (agreed : (text : Text) → loc text ≡ verdict (location_at attr text)) where
    -- the location's text, without white space before it
    located_read : (text : Text) (x : Option (Written A)) (taken rest : Text) → after_space text ≡ text → entry_location_at attr text ≡ Read x taken rest
        → (m : Text) × section.located L loc x text m × (after_space m ≡ rest)
    located_read text x taken rest tight e = go (begins (the 64) text) refl e
      where
        some : followed (text_at (codes "@[") text) after_at ≡ Read x taken rest → (m : Text) × section.located L loc x text m × (after_space m ≡ rest)
        some e =
            let a = followed_read (text_at (codes "@[") text) after_at x taken rest e in
            let b = followed_read (space_at a.middle) place_next x a.more rest a.second in
            let c = followed_read (location_at attr b.middle) bracket_next x b.more rest b.second in
            let d = followed_read (spaced_at (codes "]") c.middle) (comma_next c.value) x c.more rest c.second in
            let g = followed_read (text_at (codes ",") d.middle) (last_next c.value) x d.more rest d.second in
            let h = mapped_read (λ _. Some c.value) (space_at g.middle) x g.more rest g.second in
            let s = spaced_read (codes "]") c.middle d.front d.middle d.first in
            let at_place : after_space a.middle ≡ b.middle = cc b.first in
            let at_end : after_space g.middle ≡ rest = cc h.1 in (
              g.middle,
              subst (λ x. section.located L loc x text g.middle) h.2 (
                a.middle,
                text_read (codes "@[") text a.front a.middle a.first,
                (
                  c.middle,
                  ap loc at_place ∙ (agreed b.middle ∙ ap verdict c.first),
                  (s.0, s.1, s.2 ∙ text_read (codes ",") d.middle g.front g.middle g.first),
                ),
              ),
              at_end,
            )

        go : (b : Bool) → begins (the 64) text ≡ b → cond b (followed (text_at (codes "@[") text) after_at) (Read None [] text) ≡ Read x taken rest → (m : Text) × section.located L loc x text m × (after_space m ≡ rest)
        go true f e = some e
        go false f e = let g : None ≡ x = cc e in let h : text ≡ rest = cc e in (text, subst (λ x. section.located L loc x text text) g (f, refl), tight ∙ h)

    pub located_found : (text : Text) (x : Option (Written A)) (m : Text) → after_space text ≡ text → section.located L loc x text m → (taken : Text) × (entry_location_at attr text ≡ Read x taken (after_space m))
    located_found text None m tight (f, e) = ([], rw f (ap (Read None []) (sym tight ∙ ap after_space (sym e))))
    located_found text (Some x) m tight (t, a, (u, b, (v, c, d))) =
        let p = verdict_found (location_at attr (after_space t)) x u (sym (agreed (after_space t)) ∙ b) in
        let s = spaced_found (codes "]") u v c in
        let f : begins (the 64) text ≡ true = ap (begins (the 64)) a in (
          codes "@[" ++ (front is_whitespace t ++ (p.0 ++ (s.0 ++ (codes "," ++ front is_whitespace m)))),
          rw f (followed-read (text_at (codes "@[") text) after_at tt (Some x) (codes "@[") t (front is_whitespace t ++ (p.0 ++ (s.0 ++ (codes "," ++ front is_whitespace m)))) (after_space m) (text-literal (codes "@[") text t a)
              (followed-read (space_at t) place_next tt (Some x) (front is_whitespace t) (after_space t) (p.0 ++ (s.0 ++ (codes "," ++ front is_whitespace m))) (after_space m) refl
              (followed-read (location_at attr (after_space t)) bracket_next x (Some x) p.0 u (s.0 ++ (codes "," ++ front is_whitespace m)) (after_space m) p.1
              (followed-read (spaced_at (codes "]") u) (comma_next x) tt (Some x) s.0 (after_space v) (codes "," ++ front is_whitespace m) (after_space m) s.1
              (followed-read (text_at (codes ",") (after_space v)) (last_next x) tt (Some x) (codes ",") m (front is_whitespace m) (after_space m) (text-literal (codes ",") (after_space v) m d) refl))))),
        )

module _ {T A : Type 0} (types : Texts T) (reading : Text → Outcome A) (written : A → Text) (formats : Id → Option Format) (splits : Splits reading) (words : NeedsWord reading) (cut : Splits (attr_at reading)) where
  abbrev l : Language ℕ T A
  l = language types (texts_of reading written) formats

  abbrev attr : Text → Outcome (AttrView A)
  attr = attr_at reading

  -- what an item's entry gives, as the grammar has it
  abbrev Given : Option (Written A) × List (Name ℕ × Item ℕ A) → Reading
  Given g = section.located l (own_location reading) g.0 ▹ bracketed l (own_location reading) g.1

  module _ (rule : Rule A) where
    abbrev pairs_next : Option (Written A) → Text → Outcome (Option (Written A) × List (Name ℕ × Item ℕ A))
    pairs_next x t = mapped (λ ps. (x, ps)) (pairs_at attr rule t)

    -- what is accepted the grammar parses, and without a failure
    pub given_read : (text : Text) (g : Option (Written A) × List (Name ℕ × Item ℕ A)) (taken rest : Text) → after_space text ≡ text → given_at attr rule text ≡ Read g taken rest
        → Given g text rest × (taken ++ rest ≡ text) × (wrong_pairs rule g.1 ≡ [])
    given_read text g taken rest tight e =
        let a = followed_read (entry_location_at attr text) pairs_next g taken rest e in
        let m = mapped_read (λ ps. (a.value, ps)) (pairs_at attr rule a.middle) g a.more rest a.second in
        let b = located_read attr cut l (own_location reading) (λ t. refl) text a.value a.front a.middle tight a.first in
        let c = pairs_read types reading written formats splits words rule a.middle m.0 a.more rest m.1 in
        let read : Given (a.value, m.0) text rest = (b.0, b.1, subst (λ t. bracketed l (own_location reading) m.0 t rest) (sym b.2) c.0) in (
          subst (λ g. Given g text rest) m.2 read,
          ap (λ t. t ++ rest) (sym a.whole) ∙ (append_assoc a.front a.more rest ∙ (ap (λ t. a.front ++ t) c.1 ∙ splits_entry_location attr cut text a.value a.front a.middle a.first)),
          ap (wrong_pairs rule) (sym (ap (λ g. g.1) m.2)) ∙ c.2,
        )

    -- what the grammar parses is accepted, up to the first key whose attribute is not allowed
    pub given_found : (text : Text) (g : Option (Written A) × List (Name ℕ × Item ℕ A)) (rest : Text) → after_space text ≡ text → Given g text rest → ReadOrStops text (given_at attr rule text) g rest (wrong_pairs rule g.1)
    given_found text g rest tight (mid, a, b) = go (pairs_found types reading written formats splits words rule (after_space mid) g.1 rest b)
      where
        k : (taken : Text) × (entry_location_at attr text ≡ Read g.0 taken (after_space mid))
        k = located_found attr cut l (own_location reading) (λ t. refl) text g.0 mid tight a

        go : ReadOrStops (after_space mid) (pairs_at attr rule (after_space mid)) g.1 rest (wrong_pairs rule g.1) → ReadOrStops text (given_at attr rule text) g rest (wrong_pairs rule g.1)
        go (inl w) = inl (w.0, (k.0 ++ w.1.0, followed-read (entry_location_at attr text) pairs_next g.0 g k.0 (after_space mid) w.1.0 rest k.1 (ap (mapped (λ ps. (g.0, ps))) w.1.1)))
        go (inr s) =
            inr (stops_second pairs_next (entry_location_at attr text) g.0 k.0 (after_space mid) text k.1 (splits_entry_location attr cut text g.0 k.0 (after_space mid) k.1) (stops_seen (λ ps. (g.0, ps)) s))

-- The text of a section parses as its entries, whatever precedes it, and whatever follows except `!`.
use Rattle.std.proofs.Common.{◌≡◌, ℕ, suc, ◌+◌, ◌<◌, ◌^◌, Bool, true, false, cond, List, [], ◌∷◌, ◌++◌, map, length, Option, Some, None, option_map, refl, sym, ap, ap₂, subst, inr, append_assoc, arith}
use Rattle.std.specs.Prelude.{⊤, codes, decimal}
use Rattle.std.specs.Char.{is_whitespace}
use Rattle.irtext_base.specs.Text.{Text, begins, after_space}
use Rattle.irtext_base.specs.Reading.{Reading, ◌▹◌, white, the, literal, separated, more, repeated}
use Rattle.irtext_base.specs.Own.{Language, found, Lawful, Unreserved, Ends, Verdict}
use Rattle.irtext_grammar.specs.Grammar.Tree.{Name, Mark, Attribute, given_names, ident, own}
use Rattle.irtext_grammar.specs.Spelling.Spellable.{Each, IsIdentifier, IsSpellableAttribute}
use Rattle.irtext_grammar.specs.Graphs.Identifiers.{EntryHasIdentifiers}
use Rattle.irtext_grammar.specs.Graphs.Graph as graph
use Rattle.irtext_grammar.specs.Graphs.Graph.{Printing, place_in, shared}
use Rattle.irtext_grammar.specs.Grammar.Bare.{bare_name, bare_mark}
use Rattle.irtext_grammar.specs.Grammar.Section as read
use Rattle.irtext_grammar.specs.Grammar.Section.{Item, direct, reference, Entry, of_item, of_once}
use Rattle.irtext_grammar.specs.Grammar.Reads as reads
use Rattle.irtext_grammar.specs.Spelling.Spell as spell
use Rattle.irtext_grammar.specs.Spelling.Spell.{joined, joined_from, comma}
use Rattle.irtext_grammar.specs.Spelling.Section as section
use Rattle.irtext_grammar.specs.Graphs.Same.{Locations}
use Rattle.irtext_grammar.specs.Graphs.RoundTrip.{LocationReads}
use Rattle.irtext_grammar.specs.Spelling.SectionEntries.{bare_item, bare_pair, bare_section_entry, bare_section, mark_of, written_item, written_pair, written_items, written_once, written_section}
use Rattle.irtext_base.proofs.Characters.{after_stops, after_twice}
use Rattle.irtext_base.proofs.Numbers.{number_here}
use Rattle.irtext_grammar.proofs.Grammar.Sequences.{Reaches, reaches_from, reaches_then, reaches_literal, reaches_identifier, reaches_ends, reaches_white}
use Rattle.irtext_grammar.proofs.Grammar.Back.{back_attribute}
use Rattle.irtext_grammar.proofs.Grammar.Placed.{same_attribute}

-- something that the text parses as up to f, and that is y without its places
pub record Found {X Y : Type 0} (F : X → Reading) (bare : X → Y) (y : Y) (t f : Text) : Type 0 where
  pub item : X
  pub thru : Reaches (F item) t f
  pub same : bare item ≡ y

-- lists
module _ {X Y Z : Type 0} (F : X → Reading) (bare : X → Z) (what : Y → Z) (s : Y → Text) (Good : Y → Type 0) (back : (y : Y) (f : Text) → Good y → Ends f → Found F bare (what y) (s y ++ f) f) where
  ends_joined : (ys : List Y) (f : Text) → Ends f → Ends (joined_from comma (map s ys) ++ f)
  ends_joined [] f h = h
  ends_joined (y ∷ ys) f h = inr refl

  found_more : (ys : List Y) (f : Text) → Each Good ys → Ends f → begins (the 44) (after_space f) ≡ false
      → Found (λ xs. more 44 (map F xs)) (map bare) (map what ys) (joined_from comma (map s ys) ++ f) f
  found_more [] f g h e = record { item = []; thru = reaches_ends (the 44) f e; same = refl }
  found_more (y ∷ ys) f g h e =
      let j = joined_from comma (map s ys) in
      let x = back y (j ++ f) g.0 (ends_joined ys f h) in
      let xs = found_more ys f g.1 h e in
      record {
        item = x.item ∷ xs.item;
        thru = reaches_then (reaches_literal 44 [] (32 ∷ ((s y ++ j) ++ f)) refl) (reaches_then (reaches_from (ap after_space (append_assoc (s y) j f)) x.thru) xs.thru);
        same = ap₂ ◌∷◌ x.same xs.same;
      }

  found_list : (absent : Text → Type 0) (ys : List Y) (f : Text) → Each Good ys → Ends f → begins (the 44) (after_space f) ≡ false → absent (after_space f)
      → Found (λ xs. separated 44 absent (map F xs)) (map bare) (map what ys) (joined comma (map s ys) ++ f) f
  found_list absent [] f g h e n = record { item = []; thru = record { left = after_space f; reading = (n, refl); same = after_twice is_whitespace f }; same = refl }
  found_list absent (y ∷ ys) f g h e n =
      let j = joined_from comma (map s ys) in
      let x = back y (j ++ f) g.0 (ends_joined ys f h) in
      let xs = found_more ys f g.1 h e in
      let r : Reaches (F x.item ▹ more 44 (map F xs.item)) ((s y ++ j) ++ f) f = reaches_then (reaches_from (ap after_space (append_assoc (s y) j f)) x.thru) xs.thru in
      record { item = x.item ∷ xs.item; thru = record { left = r.left; reading = r.reading; same = r.same }; same = ap₂ ◌∷◌ x.same xs.same }

module _ {P T A X : Type 0} (L : Language P T A) (types : Lawful T L.types) (owns : Lawful A L.owns) (unreserved : Unreserved A L.owns) (spot : Text → P) (at_spot : (t : Text) → L.at (spot t) t)
    (location_at : Text → Verdict X) (K : Locations X) (C : Printing T A) where
  -- the same language without places, in which the section is written
  abbrev B : Language ⊤ T A
  B = record { at = λ p t. ⊤; types = L.types; owns = L.owns; format_of = L.format_of; left_out = L.left_out }

  found_name : (s f : Text) → IsIdentifier s → Ends f → Found (reads.name L) bare_name (graph.named C s) (s ++ f) f
  found_name s f w e = let r = reaches_identifier s f w e in
      record { item = record { place = spot (after_space (s ++ f)); text = s }; thru = record { left = r.left; reading = (at_spot (after_space (s ++ f)), r.reading); same = r.same }; same = refl }

  found_mark : (n : ℕ) (f : Text) → n < 2 ^ 64 → Ends f → Found (reads.mark L) bare_mark (mark_of n) (33 ∷ (decimal n ++ f)) f
  found_mark n f h e = let t = 33 ∷ (decimal n ++ f) in
      record { item = record { place = spot t; index = n }; thru = record { left = f; reading = (at_spot t, (decimal n ++ f, refl, number_here n f h e)); same = refl }; same = refl }

  reaches_attribute : (a : Attribute A) (f : Text) → IsSpellableAttribute a → Ends f → Reaches (reads.attribute L a) (spell.attribute B a ++ f) f
  reaches_attribute a f w e = let r = back_attribute B types owns unreserved (λ p t. tt) a f w e in
      record { left = r.left; reading = same_attribute L spot at_spot a (after_space (spell.attribute B a ++ f)) r.left r.reading; same = r.same }

  module _ (items : ℕ) (once : List A) where
    -- a number holds the index of what is written once
    abbrev pub SmallItem : Attribute A → Type 0
    SmallItem (own a) = C.own_once a ≡ true → items + place_in C once a < 2 ^ 64
    SmallItem _ = ⊤

    -- the names of an entry are identifiers, and what it says is small enough to be parsed back
    abbrev pub IsSpellablePair : Text × Attribute A → Type 0
    IsSpellablePair e = EntryHasIdentifiers e × SmallItem e.1

    found_direct : (a : Attribute A) (f : Text) → IsSpellableAttribute a → Ends f → Found (read.item L location_at) bare_item (direct a) (spell.attribute B a ++ f) f
    found_direct a f w e = let r = reaches_attribute a f w e in record { item = direct a; thru = record { left = r.left; reading = r.reading; same = r.same }; same = refl }

    found_item : (a : Attribute A) (f : Text) → IsSpellableAttribute a → SmallItem a → Ends f → Found (read.item L location_at) bare_item (written_item C items once a) (section.item B C items once a ++ f) f
    found_item (given_names ns) f w h e = found_direct (given_names ns) f w e
    found_item (ident n) f w h e = found_direct (ident n) f w e
    found_item (own a) f w h e = go (C.own_once a) h
      where
        go : (b : Bool) → (b ≡ true → items + place_in C once a < 2 ^ 64)
            → Found (read.item L location_at) bare_item (cond b (reference (mark_of (items + place_in C once a))) (direct (own a))) (cond b (codes "!" ++ decimal (items + place_in C once a)) (spell.attribute B (own a)) ++ f) f
        go false k = found_direct (own a) f w e
        go true k = let m = found_mark (items + place_in C once a) f (k refl) e in
            record { item = reference m.item; thru = record { left = m.thru.left; reading = m.thru.reading; same = m.thru.same }; same = ap reference m.same }

    abbrev pair_text : Text × Attribute A → Text
    pair_text a = a.0 ++ (codes " = " ++ section.item B C items once a.1)

    found_pair : (a : Text × Attribute A) (f : Text) → IsSpellablePair a → Ends f → Found (read.pair L location_at) bare_pair (written_pair C items once a) (pair_text a ++ f) f
    found_pair a f w e =
        let s = section.item B C items once a.1 in
        let n = found_name a.0 (32 ∷ 61 ∷ 32 ∷ (s ++ f)) w.0.0 (inr refl) in
        let x = found_item a.1 f w.0.1 w.1 e in
        record {
          item = (n.item, x.item);
          thru = reaches_then (reaches_from (ap after_space (append_assoc a.0 (32 ∷ 61 ∷ 32 ∷ s) f)) n.thru) (reaches_then (reaches_from refl (reaches_literal 61 [] (32 ∷ (s ++ f)) refl)) (reaches_from refl x.thru));
          same = λ i. (n.same i, x.same i);
        }

    found_located : (l : Option Text) (f : Text) → LocationReads location_at K l → Found (read.located L location_at) (option_map K.text) l (section.located B C l ++ (91 ∷ f)) (91 ∷ f)
    found_located None f h = record { item = None; thru = reaches_ends (the 64) (91 ∷ f) refl; same = refl }
    found_located (Some l) f h =
        let t = 93 ∷ 44 ∷ 32 ∷ 91 ∷ f in
        let r = h.1 t refl in
        record {
          item = Some r.0;
          thru = reaches_then (reaches_from (ap (λ z. 64 ∷ 91 ∷ z) (append_assoc l (codes "], ") (91 ∷ f))) (reaches_literal 64 (codes "[") (l ++ t) refl))
              (reaches_then (located l t r.0 r.1 h.0 refl r.2 r.4) (reaches_then (reaches_literal 93 [] (44 ∷ 32 ∷ 91 ∷ f) refl) (reaches_step (reaches_literal 44 [] (32 ∷ 91 ∷ f) refl))));
          same = ap Some r.3;
        }
      where
        reaches_step : {R : Reading} {t : Text} → Reaches R t (32 ∷ 91 ∷ f) → Reaches R t (91 ∷ f)
        reaches_step r = record { left = r.left; reading = r.reading; same = r.same }

        tight : (l t : Text) → begins is_whitespace l ≡ false → begins is_whitespace t ≡ false → after_space (l ++ t) ≡ l ++ t
        tight [] [] e g = refl
        tight [] (c ∷ t) e g = after_stops is_whitespace c t g
        tight (c ∷ l) t e g = after_stops is_whitespace c (l ++ t) e

        located : (l t : Text) (x : X) (left : Text) → begins is_whitespace l ≡ false → begins is_whitespace t ≡ false → location_at (l ++ t) ≡ found x left → after_space left ≡ after_space t → Reaches (read.location L location_at x) (l ++ t) t
        located l t x left e g q s = record { left = left; reading = subst (λ z. location_at z ≡ found x left) (sym (tight l t e g)) q; same = s }

    -- the location of an item's entry parses, and each of its pairs can be written and parsed back
    abbrev pub IsSpellableEntryOf : graph.Entry C → Type 0
    IsSpellableEntryOf e = LocationReads location_at K e.location × Each IsSpellablePair e.attributes

    regroup : (d l j f : Text) → (codes "!" ++ (d ++ (codes " = " ++ (l ++ (codes "[" ++ (j ++ codes "]\n")))))) ++ f ≡ 33 ∷ (d ++ (32 ∷ 61 ∷ 32 ∷ (l ++ (91 ∷ (j ++ (93 ∷ 10 ∷ f))))))
    regroup d l j f = simp append_assoc

    found_entry : (n : ℕ) (e : graph.Entry C) (f : Text) → n < 2 ^ 64 → IsSpellableEntryOf e
        → Found (read.entry L location_at) (bare_section_entry K.text) (of_item (mark_of n) e.location (map (written_pair C items once) e.attributes)) (section.entry_text B C items once n e ++ f) f
    found_entry n e f h w =
        let j = joined comma (map pair_text e.attributes) in
        let l = section.located B C e.location in
        let t3 = 93 ∷ 10 ∷ f in
        let t1 = 32 ∷ 61 ∷ 32 ∷ (l ++ (91 ∷ (j ++ t3))) in
        let m = found_mark n t1 h (inr refl) in
        let x = found_located e.location (j ++ t3) w.0 in
        let es = found_list (read.pair L location_at) bare_pair (written_pair C items once) pair_text IsSpellablePair found_pair reads.no_word e.attributes t3 w.1 (inr refl) refl refl in
        record {
          item = of_item m.item x.item es.item;
          thru = reaches_entry m.item x.item es.item (reaches_from (ap after_space (regroup (decimal n) l j f)) (reaches_then m.thru (reaches_then (reaches_from refl (reaches_literal 61 [] (32 ∷ (l ++ (91 ∷ (j ++ t3)))) refl)) (reaches_then (reaches_from refl x.thru)
              (reaches_then (reaches_literal 91 [] (j ++ t3) refl) (reaches_then es.thru (reaches_line (reaches_literal 93 [] (10 ∷ f) refl))))))));
          same = λ i. of_item (m.same i) (x.same i) (es.same i);
        }
      where
        reaches_line : {R : Reading} {t : Text} → Reaches R t (10 ∷ f) → Reaches R t f
        reaches_line r = record { left = r.left; reading = r.reading; same = r.same }

        reaches_entry : (m : Mark P) (x : Option X) (es : List (Name P × Item P A)) {t f : Text} → Reaches (reads.mark L m ▹ literal (codes "=") ▹ read.located L location_at x ▹ literal (codes "[") ▹ separated 44 reads.no_word (map (read.pair L location_at) es) ▹ literal (codes "]")) t f
            → Reaches (read.entry L location_at (of_item m x es)) t f
        reaches_entry m x es r = record { left = r.left; reading = r.reading; same = r.same }

  found_once : (n : ℕ) (a : A) (f : Text) → n < 2 ^ 64
      → Found (read.entry L location_at) (bare_section_entry K.text) (of_once (mark_of n) (own a)) (33 ∷ (decimal n ++ (32 ∷ 61 ∷ 32 ∷ (L.owns.written a ++ (10 ∷ f))))) f
  found_once n a f h =
      let t = L.owns.written a ++ (10 ∷ f) in
      let m = found_mark n (32 ∷ 61 ∷ 32 ∷ t) h (inr refl) in
      record {
        item = of_once m.item (own a);
        thru = reaches_entry m.item (reaches_then m.thru (reaches_then (reaches_from refl (reaches_literal 61 [] (32 ∷ t) refl)) (reaches_from refl (reaches_line (reaches_attribute (own a) (10 ∷ f) tt (inr refl))))));
        same = λ i. of_once (m.same i) (own a);
      }
    where
      reaches_line : {R : Reading} {t : Text} → Reaches R t (10 ∷ f) → Reaches R t f
      reaches_line r = record { left = r.left; reading = r.reading; same = r.same }

      reaches_entry : (m : Mark P) {t f : Text} → Reaches (reads.mark L m ▹ literal (codes "=") ▹ reads.attribute L (own a)) t f → Reaches (read.entry L location_at (of_once m (own a))) t f
      reaches_entry m r = record { left = r.left; reading = r.reading; same = r.same }

  abbrev Entries : List (Entry P A X) → Reading
  Entries xs = repeated (the 33) (map (read.entry L location_at) xs)

  found_onces : (n : ℕ) (rest : List A) (f : Text) → n + length rest < 2 ^ 64 → begins (the 33) (after_space f) ≡ false → Found Entries (bare_section K.text) (written_once n rest) (section.once_texts B C n rest ++ f) f
  found_onces n [] f h e = record { item = []; thru = reaches_ends (the 33) f e; same = refl }
  found_onces n (a ∷ rest) f h e =
      let t = section.once_texts B C (suc n) rest in
      let x = found_once n a (t ++ f) (omega arith) in
      let xs = found_onces (suc n) rest f (omega arith) e in
      record { item = x.item ∷ xs.item; thru = reaches_entries x.item xs.item (reaches_from (ap after_space (regroup_once (decimal n) (L.owns.written a) t f)) (reaches_then x.thru xs.thru)); same = ap₂ ◌∷◌ x.same xs.same }
    where
      regroup_once : (d w t f : Text) → (codes "!" ++ (d ++ (codes " = " ++ (w ++ (10 ∷ t))))) ++ f ≡ 33 ∷ (d ++ (32 ∷ 61 ∷ 32 ∷ (w ++ (10 ∷ (t ++ f)))))
      regroup_once d w t f = simp append_assoc

      reaches_entries : (x : Entry P A X) (xs : List (Entry P A X)) {t f : Text} → Reaches (read.entry L location_at x ▹ Entries xs) t f → Reaches (Entries (x ∷ xs)) t f
      reaches_entries x xs r = record { left = r.left; reading = r.reading; same = r.same }

  found_items : (items : ℕ) (once : List A) (n : ℕ) (es : List (graph.Entry C)) (last : List (Entry ⊤ A Text)) (s f : Text) → n + length es < 2 ^ 64 → Each (IsSpellableEntryOf items once) es → Found Entries (bare_section K.text) last s f
      → Found Entries (bare_section K.text) (written_items C items once n es ++ last) (section.entry_texts B C items once n es ++ s) f
  found_items items once n [] last s f h w r = r
  found_items items once n (e ∷ es) last s f h w r =
      let t = section.entry_texts B C items once (suc n) es in
      let x = found_entry items once n e (t ++ s) (omega arith) w.0 in
      let xs = found_items items once (suc n) es last s f (omega arith) w.1 r in
      record { item = x.item ∷ xs.item; thru = reaches_entries x.item xs.item (reaches_from (ap after_space (append_assoc (section.entry_text B C items once n e) t s)) (reaches_then x.thru xs.thru)); same = ap₂ ◌∷◌ x.same xs.same }
    where
      reaches_entries : (x : Entry P A X) (xs : List (Entry P A X)) {t f : Text} → Reaches (read.entry L location_at x ▹ Entries xs) t f → Reaches (Entries (x ∷ xs)) t f
      reaches_entries x xs r = record { left = r.left; reading = r.reading; same = r.same }

  -- the section of a list of items that is not empty
  pub found_section : (e : graph.Entry C) (es : List (graph.Entry C)) (f : Text) → let all = e ∷ es in length all + length (shared C all) < 2 ^ 64 → Each (IsSpellableEntryOf (length all) (shared C all)) all → begins (the 33) (after_space f) ≡ false
      → Found (read.section L location_at) (bare_section K.text) (written_section C all) (section.section B C all ++ f) f
  found_section e es f h w b =
      let all = e ∷ es in
      let once = shared C all in
      let items = length all in
      let entries = section.entry_texts B C items once 0 all in
      let onces = section.once_texts B C items once in
      let r = found_items items once 0 all (written_once items once) (onces ++ f) f (omega arith) w (found_onces items once f h b) in
      record {
        item = r.item;
        thru = reaches_section r.item (reaches_white (reaches_from {t' = 111 ∷ (codes "utlined_attributes:" ++ (10 ∷ ((entries ++ onces) ++ f)))} refl (reaches_then (reaches_from refl (reaches_literal 111 (codes "utlined_attributes:") (10 ∷ ((entries ++ onces) ++ f)) refl)) (reaches_from (ap after_space (append_assoc entries onces f)) r.thru))));
        same = r.same;
      }
    where
      reaches_section : (xs : List (Entry P A X)) {t f : Text} → Reaches (white (literal (codes "outlined_attributes:") ▹ Entries xs)) t f → Reaches (read.section L location_at xs) t f
      reaches_section xs r = record { left = r.left; reading = r.reading; same = r.same }

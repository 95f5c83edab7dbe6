-- The parsers of entries return what the grammar parses, up to the first that is wrong.
use Rattle.std.proofs.Common.{◌≡◌, ◌∙◌, ◌≤◌, inl, inr, ℕ, zero, suc, Bool, true, false, cond, not, ◌&&◌, ◌||◌, Option, Some, None, List, [], ◌∷◌, ◌++◌, map, length, refl, sym, ap, ap₂, subst, true≢false, append_assoc, append-nil, length-append, arith}
use Rattle.std.proofs.lemmas.Bool.Decides.{nat_tests}
use Rattle.std.specs.Prelude.{codes}
use Rattle.std.specs.Char.{is_whitespace}
use Rattle.irtext_base.specs.Text.{Text, begins, front, after_space, begins_word}
use Rattle.irtext_base.specs.Reading.{Reading, ◌▹◌, the, literal, repeated}
use Rattle.irtext_base.specs.Format.{Id, Format}
use Rattle.irtext_base.specs.Faults as fault
use Rattle.irtext_base.specs.Answers.{Outcome, Read, Missing, Bad, mapped, followed}
use Rattle.irtext_base.specs.Locations.{AttrView}
use Rattle.irtext_base.specs.Own.{Texts, Language, language, texts_of}
use Rattle.irtext_base.specs.Paths.{Written}
use Rattle.irtext_base.proofs.Along.{front_after}
use Rattle.irtext_base.proofs.Characters.{after_twice}
use Rattle.irtext_tokens.specs.AttrTexts.{attr_at}
use Rattle.irtext_tokens.specs.Tokens.{space_at}
use Rattle.irtext_tokens.specs.Demanded.{spaced_at}
use Rattle.irtext_grammar.specs.Grammar.Reads as reads
use Rattle.irtext_grammar.specs.Grammar.Section as section
use Rattle.irtext_grammar.specs.Grammar.Section.{Item, Entry, of_item, of_once}
use Rattle.irtext_grammar.specs.Grammar.Tree.{Name, Mark}
use Rattle.irtext_grammar.specs.Names.Acts.{Rule}
use Rattle.irtext_grammar.specs.Names.Resolves.{indices}
use Rattle.irtext_grammar.specs.Names.Script.{Failure, UnknownIndex}
use Rattle.irtext_grammar.proofs.Names.ResolvedSection.{flat_both}
use Rattle.irtext_grammar.specs.Readers.Directives.{attribute_at}
use Rattle.irtext_grammar.proofs.Joins.Answers.{Splits, followed_read, followed-read, mapped_read}
use Rattle.irtext_grammar.proofs.Joins.Section.{spaced_read, spaced_found}
use Rattle.irtext_grammar.proofs.Joins.Tokens.{splits_space}
use Rattle.irtext_grammar.specs.Exact.{NeedsWord}
use Rattle.irtext_grammar.specs.Heads.{mark_at}
use Rattle.irtext_grammar.proofs.Exact.Attributes.{exact_attribute}
use Rattle.irtext_grammar.proofs.Exact.Combined.{split_after_front}
use Rattle.irtext_grammar.proofs.Exact.Names.{exact_mark}
use Rattle.irtext_grammar.specs.Entries.{begins_given, tested, entry_head_at, given_at, entry_at, may_have, entries_after}
use Rattle.irtext_grammar.specs.Agrees.{StopsAt, ReadOrStops}
use Rattle.irtext_grammar.proofs.Claims.{wrong_index, wrong_pairs, wrong_entries}
use Rattle.irtext_grammar.proofs.Given.{splits_spaced, given_read, given_found}
use Rattle.irtext_grammar.proofs.Grows.{grows_entry, less_left}
use Rattle.irtext_grammar.proofs.Pairs.{bracketed, attribute_begins, own_location}
use Rattle.irtext_grammar.proofs.Stops.{stops_before, stops_as, stops_first, stops_second, stops_seen}

-- if a word begins here, the entry does not go on as that of an item
no_given_there : (text : Text) → begins begins_word text ≡ true → begins_given text ≡ false
no_given_there [] e = absurd (true≢false (sym e))
no_given_there (c ∷ text) e = other c e
  where
    other : (c : ℕ) → begins_word c ≡ true → (the 64 c || the 91 c) ≡ false
    other c e = grind (arith, nat_tests)

-- ---- one entry
-- a head that parses passed the test, if the entry goes on as that of an item
tested_read : (test : ℕ → Bool) (o : Outcome (Mark ℕ)) (m : Mark ℕ) (taken rest : Text) → tested test o ≡ Read m taken rest → (o ≡ Read m taken rest) × ((begins_given rest && not (test m.index)) ≡ false)
tested_read test (Read n a r) m taken rest e = go (begins_given r && not (test n.index)) refl e
  where
    go : (b : Bool) → (begins_given r && not (test n.index)) ≡ b → cond b (Bad (fault.UnknownIndex n.index) []) (Read n a r) ≡ Read m taken rest → (Read n a r ≡ Read m taken rest) × ((begins_given rest && not (test m.index)) ≡ false)
    go true f e = absurd (cc e)
    go false f e = (e, let g : n ≡ m = cc e in let h : r ≡ rest = cc e in ap₂ (λ (r : Text) (n : Mark ℕ). begins_given r && not (test n.index)) (sym h) (sym g) ∙ f)
tested_read test (Missing cause) m taken rest e = absurd (cc e)
tested_read test (Bad cause upto) m taken rest e = absurd (cc e)

passes : (a b : Bool) → a ≡ true → (a && not b) ≡ false → b ≡ true
passes true true e f = refl
passes true false e f = absurd (true≢false f)
passes false b e f = absurd (true≢false (sym e))

module _ {A X : Type 0} (test : ℕ → Bool) (rules : ℕ → Rule A) where
  -- the failures of an entry alone, without those of its references, given the test of its index
  abbrev pub wrong_entry : Entry ℕ A X → List (Failure Text ℕ)
  wrong_entry (of_item m x ps) = cond (test m.index) [] (record { cause = UnknownIndex m.index; at = Some m.place } ∷ []) ++ wrong_pairs (rules m.index) ps
  wrong_entry (of_once m a) = []

module _ {T A : Type 0} (types : Texts T) (reading : Text → Outcome A) (written : A → Text) (formats : Id → Option Format) (splits : Splits reading) (words : NeedsWord reading) (cut : Splits (attr_at reading)) where
  abbrev l : Language ℕ T A
  l = language types (texts_of reading written) formats

  abbrev attr : Text → Outcome (AttrView A)
  attr = attr_at reading

  abbrev An : Entry ℕ A (Written A) → Reading
  An e = section.entry l (own_location reading) e

  -- an index and `=`
  abbrev equals_next : Mark ℕ → Text → Outcome (Mark ℕ)
  equals_next m t = mapped (λ _. m) (spaced_at (codes "=") t)

  -- an entry's head, as the grammar parses it; the rest is without leading white space
  record HeadRead (m : Mark ℕ) (text taken rest : Text) : Type 0 where
    pub mid : Text
    pub marks : reads.mark l m text mid
    pub end : Text
    pub equals : literal (codes "=") (after_space mid) end
    pub left : after_space end ≡ rest
    pub split : taken ++ rest ≡ text

  head_read : (text : Text) (m : Mark ℕ) (taken rest : Text) → entry_head_at text ≡ Read m taken rest → HeadRead m text taken rest
  head_read text m taken rest e =
      let a = followed_read (mark_at text) equals_next m taken rest e in
      let b = mapped_read (λ _. a.value) (spaced_at (codes "=") a.middle) m a.more rest a.second in
      let k = (exact_mark types (texts_of reading written) formats).read text a.value a.front a.middle a.first in
      let s = spaced_read (codes "=") a.middle a.more rest b.1 in
      record {
        mid = a.middle;
        marks = subst (λ m. reads.mark l m text a.middle) b.2 k.0;
        end = s.0;
        equals = s.1;
        left = s.2;
        split = split_after_front text a.front a.middle a.more rest taken k.1 (splits_spaced attr cut (codes "=") a.middle b.0 a.more rest b.1) a.whole;
      }

  head_found : (text : Text) (m : Mark ℕ) (mid end : Text) → reads.mark l m text mid → literal (codes "=") (after_space mid) end → (taken : Text) × (entry_head_at text ≡ Read m taken (after_space end))
  head_found text m mid end r e =
      let k = (exact_mark types (texts_of reading written) formats).found text m mid r in
      let s = spaced_found (codes "=") mid end e in
      (k.0 ++ s.0, followed-read (mark_at text) equals_next m m k.0 mid s.0 (after_space end) k.1 (ap (mapped (λ _. m)) s.1))

  module _ (test : ℕ → Bool) (rules : ℕ → Rule A) where
    abbrev item_next : Mark ℕ → Text → Outcome (Entry ℕ A (Written A))
    item_next m t = mapped (λ g. of_item m g.0 g.1) (given_at attr (rules m.index) t)

    abbrev once_next : Mark ℕ → Text → Outcome (Entry ℕ A (Written A))
    once_next m t = mapped (of_once m) (attribute_at attr t)

    abbrev choice : Mark ℕ → Text → Outcome (Entry ℕ A (Written A))
    choice m t = cond (begins_given t) (item_next m t) (once_next m t)

    -- an entry that is accepted the grammar parses, and without a failure
    pub entry_read : (text : Text) (e : Entry ℕ A (Written A)) (taken rest : Text) → entry_at attr test rules text ≡ Read e taken rest → An e text rest × (taken ++ rest ≡ text) × (wrong_entry test rules e ≡ [])
    entry_read text e taken rest is =
        let a = followed_read (tested test (entry_head_at text)) choice e taken rest is in
        let t = tested_read test (entry_head_at text) a.value a.front a.middle a.first in
        let h = head_read text a.value a.front a.middle t.0 in
        go a.value a.front a.middle a.more a.whole t.1 h (begins_given a.middle) refl a.second
      where
        go : (m : Mark ℕ) (front middle more : Text) → front ++ more ≡ taken → (begins_given middle && not (test m.index)) ≡ false → HeadRead m text front middle → (b : Bool) → begins_given middle ≡ b
            → cond b (item_next m middle) (once_next m middle) ≡ Read e more rest → An e text rest × (taken ++ rest ≡ text) × (wrong_entry test rules e ≡ [])
        go m front middle more whole t h true f is =
            let k = mapped_read (λ g. of_item m g.0 g.1) (given_at attr (rules m.index) middle) e more rest is in
            let tight : after_space middle ≡ middle = subst (λ t. after_space t ≡ t) h.left (after_twice is_whitespace h.end) in
            let g = given_read types reading written formats splits words cut (rules m.index) middle k.0 more rest tight k.1 in
            let read : An (of_item m k.0.0 k.0.1) text rest = (h.mid, h.marks, (h.end, h.equals, subst (λ t. (section.located l (own_location reading) k.0.0 ▹ bracketed l (own_location reading) k.0.1) t rest) (sym h.left) g.0)) in
            let right : wrong_entry test rules (of_item m k.0.0 k.0.1) ≡ [] = rw (passes (begins_given middle) (test m.index) f t) g.2 in (
              subst (λ e. An e text rest) k.2 read,
              split_after_front text front middle more rest taken h.split g.1 whole,
              subst (λ e. wrong_entry test rules e ≡ []) k.2 right,
            )
        go m front middle more whole t h false f is =
            let k = mapped_read (of_once m) (attribute_at attr middle) e more rest is in
            let g = (exact_attribute types reading written formats splits).read middle k.0 more rest k.1 in
            let read : An (of_once m k.0) text rest = (h.mid, h.marks, (h.end, h.equals, subst (λ t. reads.attribute l k.0 t rest) (sym h.left) g.0)) in (
              subst (λ e. An e text rest) k.2 read,
              split_after_front text front middle more rest taken h.split g.1 whole,
              subst (λ e. wrong_entry test rules e ≡ []) k.2 refl,
            )

    -- an item's entry goes on with a bracket or `@`
    goes_on : (x : Option (Written A)) (ps : List (Name ℕ × Item ℕ A)) (end rest : Text) → (section.located l (own_location reading) x ▹ bracketed l (own_location reading) ps) (after_space end) rest → begins_given (after_space end) ≡ true
    goes_on None ps end rest (mid, (f, same), (m, a, b)) =
        let e : after_space end ≡ 91 ∷ m = sym (after_twice is_whitespace end) ∙ (ap after_space (sym same) ∙ a) in
        ap begins_given e
    goes_on (Some x) ps end rest (mid, (t, a, b), c) = ap begins_given a

    -- an entry that the grammar parses is accepted, where nothing is wrong with it
    pub entry_found : (text : Text) (e : Entry ℕ A (Written A)) (rest : Text) → An e text rest → ReadOrStops text (entry_at attr test rules text) e rest (wrong_entry test rules e)
    entry_found text (of_once m a) rest (mid, r, (end, q, s)) =
        let h = head_found text m mid end r q in
        let no : begins_given (after_space end) ≡ false = no_given_there (after_space end) (attribute_begins types reading written formats splits words a (after_space end) rest s) in
        let k = (exact_attribute types reading written formats splits).found (after_space end) a rest s in
        let head : tested test (entry_head_at text) ≡ Read m h.0 (after_space end) = ap (tested test) h.1 ∙ rw no refl in
        let last : choice m (after_space end) ≡ Read (of_once m a) k.0 rest = rw no (ap (mapped (of_once m)) k.1) in
        inl (refl, (h.0 ++ k.0, followed-read (tested test (entry_head_at text)) choice m (of_once m a) h.0 (after_space end) k.0 rest head last))
    entry_found text (of_item m x ps) rest (mid, r, (end, q, s)) = go (test m.index) refl
      where
        h : (taken : Text) × (entry_head_at text ≡ Read m taken (after_space end))
        h = head_found text m mid end r q

        on : begins_given (after_space end) ≡ true
        on = goes_on x ps end rest s

        fine : test m.index ≡ true → ReadOrStops (after_space end) (given_at attr (rules m.index) (after_space end)) (x, ps) rest (wrong_pairs (rules m.index) ps) → ReadOrStops text (entry_at attr test rules text) (of_item m x ps) rest (wrong_entry test rules (of_item m x ps))
        fine f k = so k
          where
            head : tested test (entry_head_at text) ≡ Read m h.0 (after_space end)
            head = ap (tested test) h.1 ∙ rw (on, f) refl

            same : wrong_entry test rules (of_item m x ps) ≡ wrong_pairs (rules m.index) ps
            same = rw f refl

            split : h.0 ++ after_space end ≡ text
            split = (head_read text m h.0 (after_space end) h.1).split

            so : ReadOrStops (after_space end) (given_at attr (rules m.index) (after_space end)) (x, ps) rest (wrong_pairs (rules m.index) ps) → ReadOrStops text (entry_at attr test rules text) (of_item m x ps) rest (wrong_entry test rules (of_item m x ps))
            so (inl w) =
                let last : choice m (after_space end) ≡ Read (of_item m x ps) w.1.0 rest = rw on (ap (mapped (λ g. of_item m g.0 g.1)) w.1.1) in
                inl (same ∙ w.0, (h.0 ++ w.1.0, followed-read (tested test (entry_head_at text)) choice m (of_item m x ps) h.0 (after_space end) w.1.0 rest head last))
            so (inr w) =
                let last : StopsAt (after_space end) (choice m (after_space end)) (wrong_pairs (rules m.index) ps) = rw on (stops_seen (λ g. of_item m g.0 g.1) w) in
                inr (stops_as (wrong_pairs (rules m.index) ps) (wrong_entry test rules (of_item m x ps)) same (stops_second choice (tested test (entry_head_at text)) m h.0 (after_space end) text head split last))

        go : (b : Bool) → test m.index ≡ b → ReadOrStops text (entry_at attr test rules text) (of_item m x ps) rest (wrong_entry test rules (of_item m x ps))
        go true f = fine f (given_found types reading written formats splits words cut (rules m.index) (after_space end) (x, ps) rest (after_twice is_whitespace end) s)
        go false f =
            let head : tested test (entry_head_at text) ≡ Bad (fault.UnknownIndex m.index) [] = ap (tested test) h.1 ∙ rw (on, f) refl in
            inr (record {
              first = record { cause = UnknownIndex m.index; at = Some m.place };
              others = wrong_pairs (rules m.index) ps;
              is = rw f refl;
              upto = [];
              stop = text;
              splits = refl;
              at = ap Some r.0;
              bad = ap (λ o. followed o choice) head;
            })

  -- ---- entries, one after another
  module _ (marks : List ℕ) (rules : ℕ → Rule A) where
    abbrev test_after : List (Entry ℕ A (Written A)) → ℕ → Bool
    test_after earlier = may_have marks earlier

    -- what is wrong with entries is what is wrong with the first, and then with the others
    wrong_step : (earlier : List (Entry ℕ A (Written A))) (e : Entry ℕ A (Written A)) (es : List (Entry ℕ A (Written A)))
        → wrong_entries marks rules (indices earlier) (e ∷ es) ≡ wrong_entry (test_after earlier) rules e ++ wrong_entries marks rules (indices (earlier ++ e ∷ [])) es
    wrong_step earlier (of_item m x ps) es =
        let next : indices (earlier ++ of_item m x ps ∷ []) ≡ indices earlier ++ m.index ∷ [] = flat_both _ earlier (of_item m x ps ∷ []) in
        let e : Entry ℕ A (Written A) = of_item m x ps in
        sym (append_assoc (wrong_index marks (indices earlier) m) (wrong_pairs (rules m.index) ps) (wrong_entries marks rules (indices earlier ++ m.index ∷ []) es))
        ∙ ap (λ z. wrong_entry (test_after earlier) rules e ++ wrong_entries marks rules z es) (sym next)
    wrong_step earlier (of_once m a) es =
        let next : indices (earlier ++ of_once m a ∷ []) ≡ indices earlier = flat_both _ earlier (of_once m a ∷ []) ∙ append-nil (indices earlier) in
        ap (λ z. wrong_entries marks rules z es) (sym next)

    abbrev more_next : ℕ → List (Entry ℕ A (Written A)) → Entry ℕ A (Written A) → Unit {0} → Text → Outcome (List (Entry ℕ A (Written A)))
    more_next n earlier e _ t = entries_after attr marks rules n (earlier ++ e ∷ []) t

    abbrev entry_next : ℕ → List (Entry ℕ A (Written A)) → Entry ℕ A (Written A) → Text → Outcome (List (Entry ℕ A (Written A)))
    entry_next n earlier e t = followed (space_at t) (more_next n earlier e)

    -- entries that parse after others, as the grammar parses them
    pub record EntriesRead (earlier all : List (Entry ℕ A (Written A))) (text taken rest : Text) : Type 0 where
      pub es : List (Entry ℕ A (Written A))
      pub whole : all ≡ earlier ++ es
      pub reads : repeated (the 33) (map An es) text rest
      pub split : taken ++ rest ≡ text
      pub fine : wrong_entries marks rules (indices earlier) es ≡ []

    none_read : (earlier all : List (Entry ℕ A (Written A))) (text taken rest : Text) → begins (the 33) text ≡ false → ◌≡◌ {A = Outcome (List (Entry ℕ A (Written A)))} (Read earlier [] text) (Read all taken rest) → EntriesRead earlier all text taken rest
    none_read earlier all text taken rest none e =
        let f : earlier ≡ all = cc e in
        let g : text ≡ rest = cc e in
        let h : [] ≡ taken = cc e in
        record { es = []; whole = sym f ∙ sym (append-nil earlier); reads = (none, sym g); split = ap₂ ◌++◌ (sym h) (sym g); fine = refl }

    shorter_space : (text : Text) → length (after_space text) ≤ length text
    shorter_space text = omega (arith, ap length (front_after is_whitespace text), length-append (front is_whitespace text) (after_space text))

    pub entries_read : (n : ℕ) (earlier all : List (Entry ℕ A (Written A))) (text taken rest : Text) → length text ≤ n → entries_after attr marks rules n earlier text ≡ Read all taken rest → EntriesRead earlier all text taken rest
    entries_read zero earlier all [] taken rest i e = none_read earlier all [] taken rest refl e
    entries_read zero earlier all (c ∷ text) taken rest i e = absurd (omega (arith, i))
    entries_read (suc n) earlier all text taken rest i e = go (begins (the 33) text) refl (entries_read n) e
      where
        go : (b : Bool) → begins (the 33) text ≡ b → ((earlier all : List (Entry ℕ A (Written A))) (text taken rest : Text) → length text ≤ n → entries_after attr marks rules n earlier text ≡ Read all taken rest → EntriesRead earlier all text taken rest)
            → cond b (followed (entry_at attr (test_after earlier) rules text) (entry_next n earlier)) (Read earlier [] text) ≡ Read all taken rest → EntriesRead earlier all text taken rest
        go false f again e = none_read earlier all text taken rest f e
        go true f again e =
            let a = followed_read (entry_at attr (test_after earlier) rules text) (entry_next n earlier) all taken rest e in
            let b = followed_read (space_at a.middle) (more_next n earlier a.value) all a.more rest a.second in
            let r = entry_read (test_after earlier) rules text a.value a.front a.middle a.first in
            let spaced : after_space a.middle ≡ b.middle = cc b.first in
            let less = less_left (entry_at attr (test_after earlier) rules text) a.value a.front a.middle text (grows_entry attr (test_after earlier) rules text) a.first r.1 in
            let enough : length b.middle ≤ n = omega (arith, i, less, shorter_space a.middle, ap length spaced) in
            let k = again (earlier ++ a.value ∷ []) all b.middle b.more rest enough b.second in
            let following : a.more ++ rest ≡ a.middle = split_after_front a.middle b.front b.middle b.more rest a.more (splits_space a.middle b.value b.front b.middle b.first) k.split b.whole in
            record {
              es = a.value ∷ k.es;
              whole = k.whole ∙ append_assoc earlier (a.value ∷ []) k.es;
              reads = (a.middle, r.0, subst (λ t. repeated (the 33) (map An k.es) t rest) (sym spaced) k.reads);
              split = split_after_front text a.front a.middle a.more rest taken r.1 following a.whole;
              fine = wrong_step earlier a.value k.es ∙ ap₂ ◌++◌ r.2 k.fine;
            }

    entry_begins : (e : Entry ℕ A (Written A)) (text rest : Text) → An e text rest → begins (the 33) text ≡ true
    entry_begins (of_item m x ps) text rest (mid, r, s) = ap (begins (the 33)) r.1.1
    entry_begins (of_once m a) text rest (mid, r, s) = ap (begins (the 33)) r.1.1

    something : (text : Text) → begins (the 33) text ≡ true → length text ≤ 0 → ⊥
    something [] e h = true≢false (sym e)
    something (c ∷ text) e h = omega (arith, h)

    -- entries that the grammar parses are accepted, up to the first failure
    pub entries_found : (n : ℕ) (earlier es : List (Entry ℕ A (Written A))) (text rest : Text) → length text ≤ n → repeated (the 33) (map An es) text rest
        → ReadOrStops text (entries_after attr marks rules n earlier text) (earlier ++ es) rest (wrong_entries marks rules (indices earlier) es)
    entries_found zero earlier [] text rest i (f, e) = inl (refl, ([], ap₂ (λ z t. Read z [] t) (sym (append-nil earlier)) (sym e)))
    entries_found (suc n) earlier [] text rest i (f, e) = inl (refl, ([], rw f (ap₂ (λ z t. Read z [] t) (sym (append-nil earlier)) (sym e))))
    entries_found zero earlier (e ∷ es) text rest i (mid, r, more) = absurd (something text (entry_begins e text mid r) i)
    entries_found (suc n) earlier (e ∷ es) text rest i (mid, r, more) = so (entry_found (test_after earlier) rules text e mid r) (λ enough. entries_found n (earlier ++ e ∷ []) es (after_space mid) rest enough more)
      where
        begun : begins (the 33) text ≡ true
        begun = entry_begins e text mid r

        step : wrong_entries marks rules (indices earlier) (e ∷ es) ≡ wrong_entry (test_after earlier) rules e ++ wrong_entries marks rules (indices (earlier ++ e ∷ [])) es
        step = wrong_step earlier e es

        following : (taken : Text) → entry_at attr (test_after earlier) rules text ≡ Read e taken mid → wrong_entry (test_after earlier) rules e ≡ []
            → ReadOrStops (after_space mid) (entries_after attr marks rules n (earlier ++ e ∷ []) (after_space mid)) ((earlier ++ e ∷ []) ++ es) rest (wrong_entries marks rules (indices (earlier ++ e ∷ [])) es)
            → ReadOrStops text (entries_after attr marks rules (suc n) earlier text) (earlier ++ e ∷ es) rest (wrong_entries marks rules (indices earlier) (e ∷ es))
        following taken is fine (inl w) =
            let all : (earlier ++ e ∷ []) ++ es ≡ earlier ++ e ∷ es = append_assoc earlier (e ∷ []) es in
            inl (
              step ∙ ap₂ ◌++◌ fine w.0,
              (
                taken ++ (front is_whitespace mid ++ w.1.0),
                rw begun (followed-read (entry_at attr (test_after earlier) rules text) (entry_next n earlier) e (earlier ++ e ∷ es) taken mid (front is_whitespace mid ++ w.1.0) rest is
                    (followed-read (space_at mid) (more_next n earlier e) tt (earlier ++ e ∷ es) (front is_whitespace mid) (after_space mid) w.1.0 rest refl (w.1.1 ∙ ap (λ z. Read z w.1.0 rest) all))),
              ),
            )
        following taken is fine (inr w) =
            let inner = stops_second (more_next n earlier e) (space_at mid) tt (front is_whitespace mid) (after_space mid) mid refl (front_after is_whitespace mid) w in
            let split = (entry_read (test_after earlier) rules text e taken mid is).1 in
            let whole : StopsAt text (followed (entry_at attr (test_after earlier) rules text) (entry_next n earlier)) (wrong_entries marks rules (indices (earlier ++ e ∷ [])) es) = stops_second (entry_next n earlier) (entry_at attr (test_after earlier) rules text) e taken mid text is split inner in
            inr (stops_as (wrong_entries marks rules (indices (earlier ++ e ∷ [])) es) (wrong_entries marks rules (indices earlier) (e ∷ es)) (step ∙ ap (λ z. z ++ wrong_entries marks rules (indices (earlier ++ e ∷ [])) es) fine) (rw begun whole))

        so : ReadOrStops text (entry_at attr (test_after earlier) rules text) e mid (wrong_entry (test_after earlier) rules e)
            → (length (after_space mid) ≤ n → ReadOrStops (after_space mid) (entries_after attr marks rules n (earlier ++ e ∷ []) (after_space mid)) ((earlier ++ e ∷ []) ++ es) rest (wrong_entries marks rules (indices (earlier ++ e ∷ [])) es))
            → ReadOrStops text (entries_after attr marks rules (suc n) earlier text) (earlier ++ e ∷ es) rest (wrong_entries marks rules (indices earlier) (e ∷ es))
        so (inl w) again =
            let split = (entry_read (test_after earlier) rules text e w.1.0 mid w.1.1).1 in
            let less = less_left (entry_at attr (test_after earlier) rules text) e w.1.0 mid text (grows_entry attr (test_after earlier) rules text) w.1.1 split in
            following w.1.0 w.1.1 w.0 (again (omega (arith, i, less, shorter_space mid)))
        so (inr w) again =
            let whole : StopsAt text (followed (entry_at attr (test_after earlier) rules text) (entry_next n earlier)) (wrong_entry (test_after earlier) rules e) = stops_first (entry_next n earlier) w in
            inr (stops_before (wrong_entry (test_after earlier) rules e) (wrong_entries marks rules (indices (earlier ++ e ∷ [])) es) (wrong_entries marks rules (indices earlier) (e ∷ es)) step (rw begun whole))

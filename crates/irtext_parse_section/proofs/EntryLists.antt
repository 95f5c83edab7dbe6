-- The parsed entries represent those of the text: one entry more, over the paths that are kept then.
use Rattle.std.proofs.Common.{◌≡◌, ◌∙◌, ℕ, Bool, true, false, cond, not, ◌&&◌, ◌||◌, ◌==◌, nat_eq, is_some, List, [], ◌∷◌, ◌++◌, length, Option, Some, None, refl, sym, ap, ap₂, subst, append-nil, true≢false, arith}
use Rattle.std.proofs.lemmas.Bool.Decides.{nat_tests}
use Rattle.std.specs.Map.{lookup}
use Rattle.std.specs.Option.{option_map}
use Rattle.indexmap.specs.IndexMap.{insert_entry}
use Rattle.irtext_base.specs.Text.{Text}
use Rattle.irtext_base.specs.Answers.{Outcome, Read, Missing, Bad, mapped}
use Rattle.irtext_base.specs.Faults as fault
use Rattle.irtext_base.specs.Locations.{AttrView, location_view}
use Rattle.irtext_base.specs.Paths.{Written, KeepsPaths}
use Rattle.irtext_base.specs.declared.base.attributes.AttrObj.{AttrObj}
use Rattle.irtext_base.specs.declared.location.Location.{Location}
use Rattle.irtext_base.proofs.PathKeys.{stays_known, written_same}
use Rattle.irtext_context.specs.declared.base.item.Item.{Item}
use Rattle.irtext_parse_state.specs.States.{same_index}
use Rattle.irtext_grammar.specs.Contexts.Held.{attribute_of}
use Rattle.irtext_grammar.specs.Grammar.Section as section
use Rattle.irtext_grammar.specs.Grammar.Section.{Entry, of_item, of_once}
use Rattle.irtext_grammar.specs.Grammar.Tree.{Name, Mark, Attribute}
use Rattle.irtext_grammar.specs.Names.Acts.{Rule, shared_attribute}
use Rattle.irtext_grammar.specs.Names.Resolves.{indices}
use Rattle.irtext_grammar.specs.Names.Scopes.{is_among}
use Rattle.irtext_grammar.proofs.Names.ResolvedSection.{flat_both}
use Rattle.irtext_grammar.specs.Promises.Section.{indices_of, known_given, given_over, given_kept}
use Rattle.irtext_grammar.specs.Readers.Directives.{attribute_at}
use Rattle.irtext_parse_section.specs.OnlyPaths.{may_follow}
use Rattle.irtext_grammar.proofs.Joins.Answers.{followed_read, mapped_read}
use Rattle.irtext_grammar.specs.Entries.{begins_given, tested, entry_head_at, given_at, entry_at, may_have}
use Rattle.irtext_parse_section.specs.Entries.{IsItemEntry, IsEntry, AreItems, AreSeen, AreOnce, Noted, AreNoted, entry_kept, all_entries_kept, Notes}
use Rattle.irtext_parse_locations.specs.declared.said.ItemEntry.{ItemEntry}
use Rattle.irtext_parse_locations.specs.declared.said.ReadEntry.{ReadEntry}
use Rattle.irtext_parse_locations.specs.declared.said.ReadEntry.TheVariants as read

-- ---- indices
swap_sides : (i j : ℕ) → (i == j) ≡ nat_eq j i
swap_sides i j = grind (arith, nat_tests)

-- a mark is recorded under the indices of marks
pub noted_among : {X : Type 0} (marks : List (ℕ × X)) (i : ℕ) → is_some (lookup (same_index i) marks) ≡ is_among i (indices_of marks)
noted_among [] i = refl
noted_among (m ∷ ms) i = go (i == m.0) refl (noted_among ms i)
  where
    go : (b : Bool) → (i == m.0) ≡ b → is_some (lookup (same_index i) ms) ≡ is_among i (indices_of ms) → is_some (lookup (same_index i) (m ∷ ms)) ≡ cond (nat_eq m.0 i) true (is_among i (indices_of ms))
    go true e h = rw (e, sym (swap_sides i m.0) ∙ e) refl
    go false e h = rw (e, sym (swap_sides i m.0) ∙ e) h

-- one index more is looked up
among_more : (i k : ℕ) (xs : List ℕ) → is_among i (xs ++ k ∷ []) ≡ (is_among i xs || nat_eq k i)
among_more i k [] = last (nat_eq k i)
  where
    last : (b : Bool) → cond b true false ≡ b
    last true = refl
    last false = refl
among_more i k (x ∷ xs) = go (nat_eq x i) (among_more i k xs)
  where
    go : (b : Bool) → is_among i (xs ++ k ∷ []) ≡ (is_among i xs || nat_eq k i) → cond b true (is_among i (xs ++ k ∷ [])) ≡ (cond b true (is_among i xs) || nat_eq k i)
    go true h = refl
    go false h = h

seen_more : {Y : Type 0} (i k : ℕ) (y : Y) (seen : List (ℕ × Y)) → is_some (lookup (same_index i) (seen ++ (k, y) ∷ [])) ≡ (is_some (lookup (same_index i) seen) || nat_eq k i)
seen_more i k y [] = last (i == k) refl
  where
    last : (b : Bool) → (i == k) ≡ b → is_some (lookup (same_index i) ((k, y) ∷ [])) ≡ nat_eq k i
    last true e = rw (e, sym (swap_sides i k) ∙ e) refl
    last false e = rw (e, sym (swap_sides i k) ∙ e) refl
seen_more i k y (s ∷ seen) = go (i == s.0) refl (seen_more i k y seen)
  where
    go : (b : Bool) → (i == s.0) ≡ b → is_some (lookup (same_index i) (seen ++ (k, y) ∷ [])) ≡ (is_some (lookup (same_index i) seen) || nat_eq k i) → is_some (lookup (same_index i) (s ∷ seen ++ (k, y) ∷ [])) ≡ (is_some (lookup (same_index i) (s ∷ seen)) || nat_eq k i)
    go true e h = rw e refl
    go false e h = rw e h

module _ {A X : Type 0} (seen : List (ℕ × Unit {0})) (found : List (Entry ℕ A X)) (h : AreSeen seen found) where
  -- the parser's test is that of the text
  pub test_same : {Y : Type 0} (marks : List (ℕ × Y)) (j : ℕ) → may_follow marks seen j ≡ may_have (indices_of marks) found j
  test_same marks j = ap₂ (λ a b. a && not b) (noted_among marks j) (h j)

  -- an item's entry was recorded
  seen_item : (k : ℕ) (m : Mark ℕ) (x : Option X) (ps : List (Name ℕ × section.Item ℕ A)) → k ≡ m.index → AreSeen (seen ++ (k, tt) ∷ []) (found ++ of_item m x ps ∷ [])
  seen_item k m x ps e i =
      seen_more i k tt seen ∙ (ap₂ ◌||◌ (h i) (ap (λ k. nat_eq k i) e) ∙ (sym (among_more i m.index (indices found)) ∙ ap (is_among i) (sym (flat_both _ found (of_item m x ps ∷ [])))))

  -- an attribute that is written once has no index of an item
  seen_once : (m : Mark ℕ) (a : Attribute A) → AreSeen seen (found ++ of_once m a ∷ [])
  seen_once m a i = h i ∙ ap (is_among i) (sym (flat_both _ found (of_once m a ∷ []) ∙ append-nil (indices found)))

-- ---- attributes that are written once
module _ {A X : Type 0} where
  -- the last entry with its index is the one that counts
  shared_once : (i : ℕ) (m : Mark ℕ) (a : Attribute A) (es : List (Entry ℕ A X)) → shared_attribute i (es ++ of_once m a ∷ []) ≡ cond (m.index == i) (Some a) (shared_attribute i es)
  shared_once i m a [] = refl
  shared_once i m a (of_item k x ps ∷ es) = shared_once i m a es
  shared_once i m a (of_once k b ∷ es) = go (m.index == i) refl (shared_once i m a es)
    where
      go : (c : Bool) → (m.index == i) ≡ c → shared_attribute i (es ++ of_once m a ∷ []) ≡ cond (m.index == i) (Some a) (shared_attribute i es)
          → shared_attribute i (of_once k b ∷ es ++ of_once m a ∷ []) ≡ cond (m.index == i) (Some a) (shared_attribute i (of_once k b ∷ es))
      go true e h = rw (h, e) refl
      go false e h = rw (h, e) refl

  shared_item : (i : ℕ) (m : Mark ℕ) (x : Option X) (ps : List (Name ℕ × section.Item ℕ A)) (es : List (Entry ℕ A X)) → shared_attribute i (es ++ of_item m x ps ∷ []) ≡ shared_attribute i es
  shared_item i m x ps [] = refl
  shared_item i m x ps (of_item k y qs ∷ es) = shared_item i m x ps es
  shared_item i m x ps (of_once k b ∷ es) = ap (λ o. elim o [ Some c ↦ Some c | None ↦ cond (k.index == i) (Some b) None ]) (shared_item i m x ps es)

apart : (i k j : ℕ) → nat_eq i k ≡ true → nat_eq i j ≡ true → nat_eq k j ≡ false → ⊥
apart i k j e f g = grind (arith, nat_tests)

joined : (i k j : ℕ) → nat_eq k j ≡ true → nat_eq i j ≡ nat_eq i k
joined i k j e = grind (arith, nat_tests)

-- what is looked up once one was inserted
inserted : {V : Type 0} (i k : ℕ) (v : V) (es : List (ℕ × V)) → lookup (nat_eq i) (insert_entry nat_eq es k v) ≡ cond (nat_eq i k) (Some v) (lookup (nat_eq i) es)
inserted i k v [] = refl
inserted i k v (e ∷ es) = go (nat_eq k e.0) refl (nat_eq i k) refl (nat_eq i e.0) refl (inserted i k v es)
  where
    go : (a : Bool) → nat_eq k e.0 ≡ a → (b : Bool) → nat_eq i k ≡ b → (c : Bool) → nat_eq i e.0 ≡ c → lookup (nat_eq i) (insert_entry nat_eq es k v) ≡ cond (nat_eq i k) (Some v) (lookup (nat_eq i) es)
        → lookup (nat_eq i) (insert_entry nat_eq (e ∷ es) k v) ≡ cond (nat_eq i k) (Some v) (lookup (nat_eq i) (e ∷ es))
    go true f true g true p h = rw (f, p, g) refl
    go true f false g true p h = absurd (true≢false (sym p ∙ (joined i k e.0 f ∙ g)))
    go true f true g false p h = absurd (true≢false (sym g ∙ (sym (joined i k e.0 f) ∙ p)))
    go true f false g false p h = rw (f, p, g) refl
    go false f true g true p h = absurd (apart i k e.0 g p f)
    go false f false g true p h = rw (f, p, g) refl
    go false f true g false p h = rw (f, p) (h ∙ rw g refl)
    go false f false g false p h = rw (f, p) (h ∙ rw g refl)

option_cond : {V W : Type 0} (f : V → W) (b : Bool) (v : V) (o : Option V) → option_map f (cond b (Some v) o) ≡ cond b (Some (f v)) (option_map f o)
option_cond f true v o = refl
option_cond f false v o = refl

module _ {A X : Type 0} (once : List (ℕ × AttrObj A)) (found : List (Entry ℕ A X)) (h : AreOnce once found) where
  once_once : (k : ℕ) (b : AttrObj A) (m : Mark ℕ) (a : Attribute A) → k ≡ m.index → attribute_of b ≡ a → AreOnce (insert_entry nat_eq once k b) (found ++ of_once m a ∷ [])
  once_once k b m a e f i =
      ap (option_map attribute_of) (inserted i k b once) ∙ (option_cond attribute_of (nat_eq i k) b (lookup (nat_eq i) once)
      ∙ (ap (λ z. cond (nat_eq i k) (Some (attribute_of b)) z) (h i)
      ∙ (ap₂ (λ t z. cond t (Some z) (shared_attribute i found)) (ap (nat_eq i) e ∙ sym (swap_sides m.index i)) f ∙ sym (shared_once i m a found))))

  once_item : (m : Mark ℕ) (x : Option X) (ps : List (Name ℕ × section.Item ℕ A)) → AreOnce once (found ++ of_item m x ps ∷ [])
  once_item m x ps i = h i ∙ sym (shared_item i m x ps found)

-- ---- entries of items
module _ {A : Type 0} where
  module _ (p q : List (List ℕ)) (k : KeepsPaths p q) where
    given_known : (l : Option (Location A)) → known_given (length p) l ≡ true → known_given (length q) l ≡ true
    given_known None h = refl
    given_known (Some l) h = stays_known p q k (location_view l) h

    given_same : (l : Option (Location A)) → known_given (length p) l ≡ true → given_over q l ≡ given_over p l
    given_same None h = refl
    given_same (Some l) h = ap Some (written_same p q k (location_view l) h)

  module _ (marks : List (ℕ × Item)) (text : Text) where
    -- they represent the same over more paths
    items_on : (p q : List (List ℕ)) → KeepsPaths p q → (items : List (ItemEntry A)) (es : List (Entry ℕ A (Written A))) → AreItems marks p text items es → AreItems marks q text items es
    items_on p q k items [] h = h
    items_on p q k items (of_once m a ∷ es) h = items_on p q k items es h
    items_on p q k [] (of_item m x ps ∷ es) h = h
    items_on p q k (e ∷ items) (of_item m x ps ∷ es) (i, h) =
        (record { item = i.item; known = given_known p q k e.location i.known; location = given_same p q k e.location i.known ∙ i.location; pairs = i.pairs }, items_on p q k items es h)

    module _ (paths : List (List ℕ)) where
      items_once : (items : List (ItemEntry A)) (es : List (Entry ℕ A (Written A))) (m : Mark ℕ) (a : Attribute A) → AreItems marks paths text items es → AreItems marks paths text items (es ++ of_once m a ∷ [])
      items_once items [] m a h = h
      items_once items (of_once n b ∷ es) m a h = items_once items es m a h
      items_once [] (of_item n x ps ∷ es) m a h = h
      items_once (e ∷ items) (of_item n x ps ∷ es) m a (i, h) = (i, items_once items es m a h)

      items_item : (items : List (ItemEntry A)) (es : List (Entry ℕ A (Written A))) (e : ItemEntry A) (m : Mark ℕ) (x : Option (Written A)) (ps : List (Name ℕ × section.Item ℕ A)) → AreItems marks paths text items es
          → IsItemEntry marks paths text e m.index x ps → AreItems marks paths text (items ++ e ∷ []) (es ++ of_item m x ps ∷ [])
      items_item items [] e m x ps h i = subst (λ z. AreItems marks paths text (z ++ e ∷ []) (of_item m x ps ∷ [])) (sym h) (i, refl)
      items_item items (of_once n b ∷ es) e m x ps h i = items_item items es e m x ps h i
      items_item [] (of_item n y qs ∷ es) e m x ps h i = absurd h
      items_item (d ∷ items) (of_item n y qs ∷ es) e m x ps (j, h) i = (j, items_item items es e m x ps h i)

  -- ---- paths
  kept_item : (paths : List (List ℕ)) (es : List (Entry ℕ A (Written A))) (m : Mark ℕ) (x : Option (Written A)) (ps : List (Name ℕ × section.Item ℕ A)) → all_entries_kept paths (es ++ of_item m x ps ∷ []) ≡ given_kept (all_entries_kept paths es) x
  kept_item paths [] m x ps = refl
  kept_item paths (of_item n y qs ∷ es) m x ps = kept_item (given_kept paths y) es m x ps
  kept_item paths (of_once n b ∷ es) m x ps = kept_item paths es m x ps

  kept_once : (paths : List (List ℕ)) (es : List (Entry ℕ A (Written A))) (m : Mark ℕ) (a : Attribute A) → all_entries_kept paths (es ++ of_once m a ∷ []) ≡ all_entries_kept paths es
  kept_once paths [] m a = refl
  kept_once paths (of_item n y qs ∷ es) m a = kept_once (given_kept paths y) es m a
  kept_once paths (of_once n b ∷ es) m a = kept_once paths es m a

  -- ---- one entry more
  -- the entry is of an index that none before it has
  abbrev pub IsFresh : List (ℕ × Unit {0}) → Entry ℕ A (Written A) → Type 0
  IsFresh seen (of_item m x ps) = lookup (same_index m.index) seen ≡ None
  IsFresh seen (of_once m a) = Unit {0}

  pub entry_more : (marks : List (ℕ × Item)) (first before paths : List (List ℕ)) (text : Text) (old new : Noted A) (found : List (Entry ℕ A (Written A))) (e : ReadEntry A) (x : Entry ℕ A (Written A)) → KeepsPaths before paths
      → AreNoted marks first before text old found → IsFresh old.seen x → IsEntry marks paths text e x → paths ≡ entry_kept before paths e → Notes old e new → AreNoted marks first paths text new (found ++ x ∷ [])
  entry_more marks first before paths text old new found (read.OfItem i e) (of_item m x ps) keeps h fresh is kept n =
      let items = items_item marks text paths old.items found e m x ps (items_on marks text before paths keeps old.items found h.are.items) is.1 in
      record {
        are = record {
          items = subst (λ z. AreItems marks paths text z (found ++ of_item m x ps ∷ [])) (sym n.0) items;
          once = subst (λ z. AreOnce z (found ++ of_item m x ps ∷ [])) (sym n.2) (once_item old.once found h.are.once m x ps);
        };
        seen = subst (λ z. AreSeen z (found ++ of_item m x ps ∷ [])) (sym (n.1 (ap (λ j. lookup (same_index j) old.seen) is.0 ∙ fresh))) (seen_item old.seen found h.seen i m x ps is.0);
        kept = kept ∙ (ap₂ given_kept h.kept is.1.location ∙ sym (kept_item first found m x ps));
      }
  entry_more marks first before paths text old new found (read.OfItem i e) (of_once m a) keeps h fresh is kept n = absurd is
  entry_more marks first before paths text old new found (read.OfOnce i b) (of_item m x ps) keeps h fresh is kept n = absurd is
  entry_more marks first before paths text old new found (read.OfOnce i b) (of_once m a) keeps h fresh is kept n =
      let items = items_once marks text paths old.items found m a (items_on marks text before paths keeps old.items found h.are.items) in
      record {
        are = record {
          items = subst (λ z. AreItems marks paths text z (found ++ of_once m a ∷ [])) (sym n.0) items;
          once = subst (λ z. AreOnce z (found ++ of_once m a ∷ [])) (sym n.2) (once_once old.once found h.are.once i b m a is.0 is.1);
        };
        seen = subst (λ z. AreSeen z (found ++ of_once m a ∷ [])) (sym n.1) (seen_once old.seen found h.seen m a);
        kept = kept ∙ (h.kept ∙ sym (kept_once first found m a));
      }

-- ---- an entry that is parsed is of a new index
passes : (a b : Bool) → a ≡ true → (a && not b) ≡ false → b ≡ true
passes true true e f = refl
passes true false e f = absurd (true≢false f)
passes false b e f = absurd (true≢false (sym e))

tested_passes : (test : ℕ → Bool) (o : Outcome (Mark ℕ)) (m : Mark ℕ) (taken rest : Text) → tested test o ≡ Read m taken rest → begins_given rest ≡ true → test m.index ≡ true
tested_passes test (Read n a r) m taken rest e given = go (begins_given r && not (test n.index)) refl e
  where
    go : (b : Bool) → (begins_given r && not (test n.index)) ≡ b → cond b (Bad (fault.UnknownIndex n.index) []) (Read n a r) ≡ Read m taken rest → test m.index ≡ true
    go true f e = absurd (cc e)
    go false f e =
        let g : n ≡ m = cc e in
        let h : r ≡ rest = cc e in
        passes (begins_given rest) (test m.index) given (ap₂ (λ (r : Text) (n : Mark ℕ). begins_given r && not (test n.index)) (sym h) (sym g) ∙ f)
tested_passes test (Missing cause) m taken rest e given = absurd (cc e)
tested_passes test (Bad cause upto) m taken rest e given = absurd (cc e)

head_passes : (a b : Bool) → (a && not b) ≡ true → b ≡ false
head_passes true true e = absurd (true≢false (sym e))
head_passes true false e = refl
head_passes false b e = absurd (true≢false (sym e))

none_there : {X : Type 0} (o : Option X) → is_some o ≡ false → o ≡ None
none_there None e = refl
none_there (Some x) e = absurd (true≢false e)

module _ {A : Type 0} (attr : Text → Outcome (AttrView A)) (rules : ℕ → Rule A) where
  -- what follows an entry's head
  abbrev after_head : Mark ℕ → Text → Outcome (Entry ℕ A (Written A))
  after_head m t = cond (begins_given t) (mapped (λ g. of_item m g.0 g.1) (given_at attr (rules m.index) t)) (mapped (of_once m) (attribute_at attr t))

  chosen : (b : Bool) (m n : Mark ℕ) (x : Option (Written A)) (ps : List (Name ℕ × section.Item ℕ A)) (u more rest : Text) → begins_given u ≡ b
      → cond b (mapped (λ g. of_item n g.0 g.1) (given_at attr (rules n.index) u)) (mapped (of_once n) (attribute_at attr u)) ≡ Read (of_item m x ps) more rest → (begins_given u ≡ true) × (n ≡ m)
  chosen true m n x ps u more rest e s = let k = mapped_read (λ g. of_item n g.0 g.1) (given_at attr (rules n.index) u) (of_item m x ps) more rest s in (e, cc k.2)
  chosen false m n x ps u more rest e s = let k = mapped_read (of_once n) (attribute_at attr u) (of_item m x ps) more rest s in absurd (cc k.2)

  item_passes : (test : ℕ → Bool) (m : Mark ℕ) (x : Option (Written A)) (ps : List (Name ℕ × section.Item ℕ A)) (text taken rest : Text) → entry_at attr test rules text ≡ Read (of_item m x ps) taken rest → test m.index ≡ true
  item_passes test m x ps text taken rest e =
      let a = followed_read (tested test (entry_head_at text)) after_head (of_item m x ps) taken rest e in
      let c = chosen (begins_given a.middle) m a.value x ps a.middle a.more rest refl a.second in
      ap (λ (n : Mark ℕ). test n.index) (sym c.1) ∙ tested_passes test (entry_head_at text) a.value a.front a.middle a.first c.0

  -- an entry that is parsed has an index that none before it has
  pub entry_fresh : {Y : Type 0} (marks : List (ℕ × Y)) (seen : List (ℕ × Unit {0})) (x : Entry ℕ A (Written A)) (text taken rest : Text) → entry_at attr (may_follow marks seen) rules text ≡ Read x taken rest → IsFresh seen x
  entry_fresh marks seen (of_item m x ps) text taken rest e =
      none_there (lookup (same_index m.index) seen) (head_passes (is_some (lookup (same_index m.index) marks)) (is_some (lookup (same_index m.index) seen)) (item_passes (may_follow marks seen) m x ps text taken rest e))
  entry_fresh marks seen (of_once m a) text taken rest e = tt

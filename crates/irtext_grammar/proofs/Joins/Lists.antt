-- What the parser of a list with a separator returns, and the grammar's readings of the list. An item that is not allowed is bad where it
-- begins.
use Rattle.std.proofs.Common.{◌≡◌, ◌∙◌, ◌≤◌, ◌⊎◌, inl, inr, ℕ, zero, suc, Bool, true, false, cond, ◌&&◌, List, [], ◌∷◌, ◌++◌, map, length, length-append, refl, sym, ap, ap₂, subst, arith, append_assoc, append-nil}
use Rattle.std.specs.List.{list_all}
use Rattle.std.specs.Char.{is_whitespace}
use Rattle.irtext_base.specs.Text.{Text, begins, front, after_space}
use Rattle.irtext_base.specs.Reading.{Reading, the, separated, more}
use Rattle.irtext_base.specs.Faults.{Fault}
use Rattle.irtext_base.specs.Answers.{Outcome, Read, Missing, Bad, mapped, followed, prefixed}
use Rattle.irtext_base.proofs.Along.{front_after}
use Rattle.irtext_base.proofs.Characters.{after_twice}
use Rattle.irtext_tokens.specs.ListOutcomes.{item_after, items_after, or_empty, separated_at}
use Rattle.irtext_tokens.specs.Tokens.{text_at}
use Rattle.irtext_grammar.specs.Readers.Positions.{space_at}
use Rattle.irtext_grammar.proofs.Joins.Answers.{followed_read, Splits, splits_followed, splits_mapped}
use Rattle.irtext_grammar.proofs.Joins.Tokens.{text_read, text-literal, splits_text, splits_space}
use Rattle.irtext_grammar.proofs.Lists.SameText.{same_itself}

-- what is left is no longer than the text
shorter : (text taken rest : Text) → taken ++ rest ≡ text → length rest ≤ length text
shorter text taken rest e = omega (arith, ap length e, length-append taken rest)

space_shorter : (text : Text) → length (after_space text) ≤ length text
space_shorter text = shorter text (front is_whitespace text) (after_space text) (front_after is_whitespace text)

-- the list that was parsed, or the first item was missing
or_read : {Y : Type 0} (o : Outcome (List Y)) (text : Text) (all : List Y) (taken rest : Text) → or_empty o text ≡ Read all taken rest
    → (o ≡ Read all taken rest) ⊎ ((cause : Fault) × (o ≡ Missing cause) × (all ≡ []) × (rest ≡ text) × (taken ≡ []))
or_read (Read xs t r) text all taken rest e = inl e
or_read (Missing cause) text all taken rest e = inr (cause, refl, sym (cc e), sym (cc e), sym (cc e))
or_read (Bad cause upto) text all taken rest e = inl e

never_missing : {X : Type 0} (t : Text) (o : Outcome X) (cause : Fault) → prefixed t o ≡ Missing cause → ⊥
never_missing t (Read x m r) cause e = cc e
never_missing t (Missing c) cause e = cc e
never_missing t (Bad c u) cause e = cc e

-- where both are missing, the first one is
pub first_missing : {X Y : Type 0} (o : Outcome X) (next : X → Text → Outcome Y) (cause : Fault) → followed o next ≡ Missing cause → o ≡ Missing cause
first_missing (Read x t r) next cause e = absurd (never_missing t (next x r) cause e)
first_missing (Missing c) next cause e = let f : c ≡ cause = cc e in ap (λ c. Missing c) f
first_missing (Bad c u) next cause e = absurd (cc e)

module _ {Y : Type 0} (sep : ℕ) (item : Text → Outcome Y) where
  abbrev item_next : List Y → Y → Text → Outcome (List Y)
  item_next before y text = mapped (λ _. before ++ (y ∷ [])) (space_at text)

  abbrev items_next : ℕ → List Y → Text → Outcome (List Y)
  items_next n before text = items_after sep item n before text

  abbrev after_spaces : ℕ → List Y → Unit {0} → Text → Outcome (List Y)
  after_spaces n before u text = followed (item_after sep item before text) (items_next n)

  abbrev after_separator : ℕ → List Y → Unit {0} → Text → Outcome (List Y)
  after_separator n before u text = followed (space_at text) (after_spaces n before)

  abbrev first_next : List Y → Text → Outcome (List Y)
  first_next before text = items_after sep item (length text) before text

  splits_item : Splits item → (before : List Y) → Splits (λ text. item_after sep item before text)
  splits_item h before = splits_followed item (item_next before) h (λ y. splits_mapped (λ _. before ++ (y ∷ [])) space_at splits_space)

  splits_items : Splits item → (n : ℕ) (before : List Y) → Splits (λ text. items_after sep item n before text)
  splits_items h zero before text ys taken rest e = let f : [] ≡ taken = cc e in let g : text ≡ rest = cc e in ap₂ ◌++◌ (sym f) (sym g)
  splits_items h (suc n) before text ys taken rest e = go (begins (the sep) text) (splits_items h n) e
    where
      go : (b : Bool) → ((before : List Y) → Splits (λ text. items_after sep item n before text)) → cond b (followed (text_at (sep ∷ []) text) (after_separator n before)) (Read before [] text) ≡ Read ys taken rest → taken ++ rest ≡ text
      go true k e = splits_followed (text_at (sep ∷ [])) (after_separator n before) (splits_text (sep ∷ [])) (λ u. splits_followed space_at (after_spaces n before) splits_space
          (λ v. splits_followed (λ t. item_after sep item before t) (items_next n) (splits_item h before) k)) text ys taken rest e
      go false k e = let f : [] ≡ taken = cc e in let g : text ≡ rest = cc e in ap₂ ◌++◌ (sym f) (sym g)

  -- what a list takes and leaves is the text, where an item's is
  pub splits_separated : Splits item → Splits (λ text. separated_at sep item text)
  splits_separated h text ys taken rest e =
      elim (or_read (followed (item_after sep item [] text) first_next) text ys taken rest e) [
        | inl f ↦ splits_followed (λ t. item_after sep item [] t) first_next (splits_item h []) (λ before t. splits_items h (length t) before t) text ys taken rest f
        | inr f ↦ ap₂ ◌++◌ f.4 f.3
      ]

-- an item that was parsed, as the grammar has it
pub record ItemRead {X Y : Type 0} (reading : X → Reading) (see : X → Y) (allowed : X → Bool) (text : Text) (y : Y) (rest : Text) : Type 0 where
  pub item : X
  pub read : reading item text rest
  pub sees : see item ≡ y
  pub fine : allowed item ≡ true

-- how a parser of items and the grammar's reading of an item are related
pub record Items (X Y : Type 0) : Type 1 where
  pub item : Text → Outcome Y
  pub reading : X → Reading
  pub missing : Text → Type 0
  pub see : X → Y
  pub allowed : X → Bool
  pub wrong : X → Fault
  pub splits : Splits item
  pub reads : (text : Text) (y : Y) (taken rest : Text) → item text ≡ Read y taken rest → ItemRead reading see allowed text y rest
  pub misses : (text : Text) (cause : Fault) → item text ≡ Missing cause → missing text
  pub found : (x : X) (text rest : Text) → reading x text rest → allowed x ≡ true → (taken : Text) × (item text ≡ Read (see x) taken rest)
  pub refused : (x : X) (text rest : Text) → reading x text rest → allowed x ≡ false → item text ≡ Bad (wrong x) []
  pub missed : (text : Text) → missing text → (cause : Fault) × (item text ≡ Missing cause)

module _ {X Y : Type 0} (sep : ℕ) (i : Items X Y) where
  -- ---- what was parsed
  -- items, each after a separator
  record More (text : Text) (before all : List Y) (rest : Text) : Type 0 where
    pub items : List X
    pub whole : all ≡ before ++ map i.see items
    pub read : more sep (map i.reading items) text rest
    pub fine : list_all i.allowed items ≡ true

  -- an item with the white space after it
  record One (text : Text) (before all : List Y) (rest : Text) : Type 0 where
    pub item : X
    pub middle : Text
    pub read : i.reading item text middle
    pub whole : all ≡ before ++ (i.see item ∷ [])
    pub left : rest ≡ after_space middle
    pub fine : i.allowed item ≡ true

  stopped : (text : Text) (before all : List Y) (taken rest : Text) → begins (the sep) text ≡ false → ◌≡◌ {A = Outcome (List Y)} (Read before [] text) (Read all taken rest) → More text before all rest
  stopped text before all taken rest b e =
      let f : before ≡ all = cc e in
      let g : text ≡ rest = cc e in
      record { items = []; whole = sym f ∙ sym (append-nil before); read = (b, sym g); fine = refl }

  one_read : (text : Text) (before all : List Y) (taken rest : Text) → item_after sep i.item before text ≡ Read all taken rest → One text before all rest
  one_read text before all taken rest e =
      let f = followed_read (i.item text) (item_next sep i.item before) all taken rest e in
      let r = i.reads text f.value f.front f.middle f.first in
      let g : before ++ (f.value ∷ []) ≡ all = cc f.second in
      let h : after_space f.middle ≡ rest = cc f.second in
      record { item = r.item; middle = f.middle; read = r.read; whole = sym g ∙ ap (λ y. before ++ (y ∷ [])) (sym r.sees); left = sym h; fine = r.fine }

  more_read : (n : ℕ) (before all : List Y) (text taken rest : Text) → length text ≤ n → items_after sep i.item n before text ≡ Read all taken rest → More text before all rest
  more_read zero before all [] taken rest l e = stopped [] before all taken rest refl e
  more_read zero before all (c ∷ text) taken rest l e = absurd (omega (arith, l))
  more_read (suc n) before all text taken rest l e = go (begins (the sep) text) refl (more_read n) e
    where
      go : (b : Bool) → begins (the sep) text ≡ b → ((before all : List Y) (text taken rest : Text) → length text ≤ n → items_after sep i.item n before text ≡ Read all taken rest → More text before all rest)
          → cond b (followed (text_at (sep ∷ []) text) (after_separator sep i.item n before)) (Read before [] text) ≡ Read all taken rest → More text before all rest
      go false b again e = stopped text before all taken rest b e
      go true b again e =
          let f = followed_read (text_at (sep ∷ []) text) (after_separator sep i.item n before) all taken rest e in
          let g = followed_read (space_at f.middle) (after_spaces sep i.item n before) all f.more rest f.second in
          let spaced : after_space f.middle ≡ g.middle = cc g.first in
          let h = followed_read (item_after sep i.item before g.middle) (items_next sep i.item n) all g.more rest g.second in
          let one = one_read g.middle before h.value h.front h.middle h.first in
          let first : text ≡ sep ∷ f.middle = text_read (sep ∷ []) text f.front f.middle f.first in
          let less = shorter g.middle h.front h.middle (splits_item sep i.item i.splits before g.middle h.value h.front h.middle h.first) in
          let enough : length h.middle ≤ n = omega (arith, l, less, ap length first, ap length spaced, space_shorter f.middle) in
          let k = again h.value all h.middle h.more rest enough h.second in
          record {
            items = one.item ∷ k.items;
            whole = k.whole ∙ (ap (λ z. z ++ map i.see k.items) one.whole ∙ append_assoc before (i.see one.item ∷ []) (map i.see k.items));
            read = (f.middle, first, (one.middle, subst (λ z. i.reading one.item z one.middle) (sym spaced) one.read, subst (λ z. more sep (map i.reading k.items) z rest) one.left k.read));
            fine = ap₂ ◌&&◌ one.fine k.fine;
          }

  -- the items that were parsed, as the grammar has them
  pub record ListRead (text : Text) (all : List Y) (rest : Text) : Type 0 where
    pub items : List X
    pub whole : map i.see items ≡ all
    pub read : separated sep i.missing (map i.reading items) text rest
    pub fine : list_all i.allowed items ≡ true

  -- a list that is accepted is one that the grammar parses, item by item
  pub list_read : (text : Text) (all : List Y) (taken rest : Text) → separated_at sep i.item text ≡ Read all taken rest → ListRead text all rest
  list_read text all taken rest e =
      elim (or_read (followed (item_after sep i.item [] text) (first_next sep i.item)) text all taken rest e) [
        | inr h ↦
            let item = first_missing (item_after sep i.item [] text) (first_next sep i.item) h.0 h.1 in
            let first = first_missing (i.item text) (item_next sep i.item []) h.0 item in
            record { items = []; whole = sym h.2; read = (i.misses text h.0 first, h.3); fine = refl }
        | inl h ↦
            let f = followed_read (item_after sep i.item [] text) (first_next sep i.item) all taken rest h in
            let one = one_read text [] f.value f.front f.middle f.first in
            let k = more_read (length f.middle) f.value all f.middle f.more rest (omega arith) f.second in
            record {
              items = one.item ∷ k.items;
              whole = sym (k.whole ∙ ap (λ z. z ++ map i.see k.items) one.whole);
              read = (one.middle, one.read, subst (λ z. more sep (map i.reading k.items) z rest) one.left k.read);
              fine = ap₂ ◌&&◌ one.fine k.fine;
            }
      ]

  more_tight : (items : List X) (text rest : Text) → more sep (map i.reading items) (after_space text) rest → after_space rest ≡ rest
  more_tight [] text rest h = ap after_space h.1 ∙ (after_twice is_whitespace text ∙ sym h.1)
  more_tight (x ∷ items) text rest h = more_tight items h.2.0 rest h.2.2

  -- after a list that follows white space, no white space is left
  pub list_tight : (items : List X) (text rest : Text) → separated sep i.missing (map i.reading items) (after_space text) rest → after_space rest ≡ rest
  list_tight [] text rest h = ap after_space h.1 ∙ (after_twice is_whitespace text ∙ sym h.1)
  list_tight (x ∷ items) text rest h = more_tight items h.0 rest h.2

  -- ---- what is to be parsed
  -- an item that is not allowed, and the text that it begins
  pub record Refused : Type 0 where
    pub item : X
    pub text : Text
    pub left : Text
    pub wrong : i.allowed item ≡ false
    pub read : i.reading item text left

  -- the first item that is not allowed, where the parser stops
  pub record Stop (items : List X) (text : Text) (o : Outcome (List Y)) : Type 0 where
    pub at : Refused
    pub before : List X
    pub following : List X
    pub whole : items ≡ before ++ (at.item ∷ following)
    pub fine : list_all i.allowed before ≡ true
    pub upto : Text
    pub splits : upto ++ at.text ≡ text
    pub is : o ≡ Bad (i.wrong at.item) upto

  -- the items after those found are parsed, if all are allowed
  pub data ListFound (found : List Y) (items : List X) (text rest : Text) (o : Outcome (List Y)) : Type 0 where
    all_fine : list_all i.allowed items ≡ true → (taken : Text) → o ≡ Read (found ++ map i.see items) taken rest → ListFound found items text rest o
    one_stops : Stop items text o → ListFound found items text rest o

  -- a stop with other items before it, and more characters
  stop_after : {items : List X} (whole : List X) (before : List X) (front mid text : Text) (o p : Outcome (List Y)) (k : Stop items mid p) → whole ≡ before ++ (k.at.item ∷ k.following) → list_all i.allowed before ≡ true → front ++ mid ≡ text
      → ((cause : Fault) (upto : Text) → p ≡ Bad cause upto → o ≡ Bad cause (front ++ upto)) → Stop whole text o
  stop_after whole before front mid text o p k w a s f = record {
    at = k.at;
    before = before;
    following = k.following;
    whole = w;
    fine = a;
    upto = front ++ k.upto;
    splits = append_assoc front k.upto k.at.text ∙ (ap (λ t. front ++ t) k.splits ∙ s);
    is = f (i.wrong k.at.item) k.upto k.is;
  }

  -- the same stop, where what stops so is bad in the same way
  pub stop_as : (items : List X) (text : Text) (o p : Outcome (List Y)) → ((cause : Fault) (upto : Text) → o ≡ Bad cause upto → p ≡ Bad cause upto) → Stop items text o → Stop items text p
  stop_as items text o p f k = stop_after items k.before [] text text p o k k.whole k.fine refl f

  -- the first item is not allowed
  stops_first : (x : X) (items : List X) (text left : Text) (o : Outcome (List Y)) → i.reading x text left → i.allowed x ≡ false → o ≡ Bad (i.wrong x) [] → Stop (x ∷ items) text o
  stops_first x items text left o r f e = record { at = record { item = x; text = text; left = left; wrong = f; read = r }; before = []; following = items; whole = refl; fine = refl; upto = []; splits = refl; is = e }

  -- one more item before
  later : (x : X) (found : List Y) (items : List X) (front mid text rest : Text) (o p : Outcome (List Y)) → i.allowed x ≡ true → front ++ mid ≡ text → o ≡ prefixed front p
      → ListFound (found ++ (i.see x ∷ [])) items mid rest p → ListFound found (x ∷ items) text rest o
  later x found items front mid text rest o p f s e (all_fine g taken h) =
      all_fine (ap₂ ◌&&◌ f g) (front ++ taken) (e ∙ (ap (prefixed front) h ∙ ap (λ ys. Read ys (front ++ taken) rest) (append_assoc found (i.see x ∷ []) (map i.see items))))
  later x found items front mid text rest o p f s e (one_stops k) =
      one_stops (stop_after (x ∷ items) (x ∷ k.before) front mid text o p k (ap (λ items. x ∷ items) k.whole) (ap₂ ◌&&◌ f k.fine) s (λ cause upto b. e ∙ ap (prefixed front) b))

  -- more characters before
  pub moved : (found : List Y) (items : List X) (front mid text rest : Text) (o p : Outcome (List Y)) → front ++ mid ≡ text → o ≡ prefixed front p → ListFound found items mid rest p → ListFound found items text rest o
  moved found items front mid text rest o p s e (all_fine g taken h) = all_fine g (front ++ taken) (e ∙ ap (prefixed front) h)
  moved found items front mid text rest o p s e (one_stops k) = one_stops (stop_after items k.before front mid text o p k k.whole k.fine s (λ cause upto b. e ∙ ap (prefixed front) b))

  -- an item and what follows it, given the parser of the rest
  item_found : (x : X) (found : List Y) (items : List X) (text mid rest : Text) (next : List Y → Text → Outcome (List Y)) → i.reading x text mid
      → ListFound (found ++ (i.see x ∷ [])) items (after_space mid) rest (next (found ++ (i.see x ∷ [])) (after_space mid)) → ListFound found (x ∷ items) text rest (followed (item_after sep i.item found text) next)
  item_found x found items text mid rest next r k = go (i.allowed x) refl
    where
      go : (b : Bool) → i.allowed x ≡ b → ListFound found (x ∷ items) text rest (followed (item_after sep i.item found text) next)
      go false f = one_stops (stops_first x items text mid _ r f (ap (λ o. followed (followed o (item_next sep i.item found)) next) (i.refused x text mid r f)))
      go true f =
          let a = i.found x text mid r f in
          let s : (a.0 ++ front is_whitespace mid) ++ after_space mid ≡ text = append_assoc a.0 (front is_whitespace mid) (after_space mid) ∙ (ap (λ t. a.0 ++ t) (front_after is_whitespace mid) ∙ i.splits text (i.see x) a.0 mid a.1) in
          later x found items (a.0 ++ front is_whitespace mid) (after_space mid) text rest _ (next (found ++ (i.see x ∷ [])) (after_space mid)) f s (ap (λ o. followed (followed o (item_next sep i.item found)) next) a.1) k

  -- what an item leaves is no longer
  item_shorter : (x : X) (text mid : Text) → i.reading x text mid → i.allowed x ≡ true → length (after_space mid) ≤ length text
  item_shorter x text mid r f =
      let a = i.found x text mid r f in
      omega (arith, space_shorter mid, shorter text a.0 mid (i.splits text (i.see x) a.0 mid a.1))

  -- items, each after a separator
  more_found : (items : List X) (n : ℕ) (found : List Y) (text rest : Text) → length text ≤ n → more sep (map i.reading items) text rest → ListFound found items text rest (items_after sep i.item n found text)
  more_found [] zero found text rest l h = all_fine refl [] (ap (λ z. Read found [] z) (sym h.1) ∙ ap (λ z. Read z [] rest) (sym (append-nil found)))
  more_found [] (suc n) found text rest l h = all_fine refl [] (rw h.0 (ap (λ z. Read found [] z) (sym h.1) ∙ ap (λ z. Read z [] rest) (sym (append-nil found))))
  more_found (x ∷ items) zero found text rest l h = absurd (omega (arith, l, ap length h.1))
  more_found (x ∷ items) (suc n) found text rest l (between, first, (mid, r, following)) =
      let some : begins (the sep) text ≡ true = ap (begins (the sep)) first ∙ same_itself sep in
      let lead : Text = (sep ∷ []) ++ front is_whitespace between in
      let opened : items_after sep i.item (suc n) found text ≡ prefixed (sep ∷ []) (prefixed (front is_whitespace between) (followed (item_after sep i.item found (after_space between)) (items_next sep i.item n))) =
      rw some (ap (λ o. followed o (after_separator sep i.item n found)) (text-literal (sep ∷ []) text between first)) in
      moved found (x ∷ items) (sep ∷ []) between text rest _ (prefixed (front is_whitespace between) (followed (item_after sep i.item found (after_space between)) (items_next sep i.item n))) (sym first) opened
      (moved found (x ∷ items) (front is_whitespace between) (after_space between) between rest _ (followed (item_after sep i.item found (after_space between)) (items_next sep i.item n)) (front_after is_whitespace between) refl
      (go (i.allowed x) refl (λ enough. more_found items n (found ++ (i.see x ∷ [])) (after_space mid) rest enough following)))
    where
      go : (b : Bool) → i.allowed x ≡ b → (length (after_space mid) ≤ n → ListFound (found ++ (i.see x ∷ [])) items (after_space mid) rest (items_after sep i.item n (found ++ (i.see x ∷ [])) (after_space mid)))
          → ListFound found (x ∷ items) (after_space between) rest (followed (item_after sep i.item found (after_space between)) (items_next sep i.item n))
      go false f again = one_stops (stops_first x items (after_space between) mid _ r f (ap (λ o. followed (followed o (item_next sep i.item found)) (items_next sep i.item n)) (i.refused x (after_space between) mid r f)))
      go true f again =
          let enough : length (after_space mid) ≤ n = omega (arith, l, ap length first, space_shorter between, item_shorter x (after_space between) mid r f) in
          item_found x found items (after_space between) mid rest (items_next sep i.item n) r (again enough)

  -- What the grammar parses is accepted, up to the first item that is not allowed.
  pub list_found : (items : List X) (text rest : Text) → separated sep i.missing (map i.reading items) text rest → ListFound [] items text rest (separated_at sep i.item text)
  list_found [] text rest h =
      let m = i.missed text h.0 in
      all_fine refl [] (ap (λ o. or_empty (followed (followed o (item_next sep i.item [])) (first_next sep i.item)) text) m.1 ∙ ap (λ z. Read [] [] z) (sym h.1))
  list_found (x ∷ items) text rest (mid, r, following) =
      whole (item_found x [] items text mid rest (first_next sep i.item) r (more_found items (length (after_space mid)) (i.see x ∷ []) (after_space mid) rest (omega arith) following))
    where
      whole : ListFound [] (x ∷ items) text rest (followed (item_after sep i.item [] text) (first_next sep i.item)) → ListFound [] (x ∷ items) text rest (separated_at sep i.item text)
      whole (all_fine f taken e) = all_fine f taken (ap (λ o. or_empty o text) e)
      whole (one_stops k) = one_stops (stop_as (x ∷ items) text _ (separated_at sep i.item text) (λ cause upto e. ap (λ o. or_empty o text) e) k)

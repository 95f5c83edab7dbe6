-- A location's text is parsed back as the same location.
use Rattle.std.proofs.Common.{◌≡◌, ℕ, zero, suc, ◌≤◌, Option, Some, None, List, [], ◌∷◌, ◌++◌, length, refl, sym, ◌∙◌, ap, append_assoc, arith}
use Rattle.std.proofs.Math.Nat.{le_refl}
use Rattle.std.specs.Prelude.{codes, IfSome, ⊤}
use Rattle.std.specs.Str.{chars, IsUtf8}
use Rattle.irtext_base.specs.Text.{Text, after_space}
use Rattle.irtext_base.specs.Answers.{Outcome, Read, followed}
use Rattle.irtext_base.specs.Causes.{position_text}
use Rattle.irtext_base.specs.Locations.{AttrView, src_pos, fused, named, call_site, unknown, no_location, location}
use Rattle.irtext_base.specs.Paths.{Written}
use Rattle.irtext_base.specs.Quoted.{quoted}
use Rattle.irtext_stream.specs.declared.position.SourcePosition.{SourcePosition}
use Rattle.irtext_base.proofs.Characters.{after_twice}
use Rattle.irtext_tokens.specs.Tokens.{text_at}
use Rattle.irtext_grammar.specs.Readers.Positions.{space_at}
use Rattle.irtext_grammar.specs.Readers.Locations.{WrittenRow, row_at, after_location, location_within, more_within}
use Rattle.irtext_grammar.specs.Spelling.AttrText.{attr_text}
use Rattle.irtext_grammar.specs.Spelling.Locations.{source_text, written_text, row_texts}
use Rattle.irtext_grammar.specs.Promises.PrintedBack.{Fits32}
use Rattle.irtext_grammar.specs.Spelling.Spell.{joined, joined_from, comma}
use Rattle.irtext_grammar.specs.Promises.LocationsBack.{GivesBack, AttrReads, AllRead, RowRead, AllFit, RowFit, left_after, EndsLocation}
use Rattle.irtext_grammar.proofs.Locations.GivesBack.{gives_followed, gives_nothing, gives_at, gives_left, gives_text, gives_space, fits_after, shorter_after}
use Rattle.irtext_grammar.proofs.Locations.Kinds.{gives_after, gives_row, kind_place, kind_fused, kind_noted, kind_named, kind_call_site, kind_unknown}

module _ {A : Type 0} where
  -- at most white space is taken after a location
  pub left_space : (l : Written A) (rest : Text) → after_space (left_after l rest) ≡ after_space rest
  left_space (call_site callee caller) rest = after_twice _ rest
  left_space _ rest = refl

  -- nothing is taken if no white space follows
  pub left_tight : (l : Written A) (rest : Text) → after_space rest ≡ rest → left_after l rest ≡ rest
  left_tight (call_site callee caller) rest e = e
  left_tight _ rest e = refl

  -- a location's text begins with no white space
  pub tight_text : (text_of : A → Text) (l : Written A) (rest : Text) → after_space (written_text text_of l ++ rest) ≡ written_text text_of l ++ rest
  tight_text text_of (src_pos None at) rest = refl
  tight_text text_of (src_pos (Some path) at) rest = refl
  tight_text text_of (fused None ls) rest = refl
  tight_text text_of (fused (Some a) ls) rest = refl
  tight_text text_of _ rest = refl

module _ {A : Type 0} (attr : Text → Outcome (AttrView A)) (text_of : A → Text) where
  -- the location's text is parsed back under each bound that its length is within
  abbrev IsBack : Written A → Type 0
  IsBack l = (rest : Text) → EndsLocation rest → (n : ℕ) → length (written_text text_of l ++ rest) ≤ n → GivesBack (location_within attr n (written_text text_of l ++ rest)) l (written_text text_of l ++ rest) (left_after l rest)

  -- the same of each location in a row
  abbrev AreBack : WrittenRow A → Type 0
  AreBack no_location = ⊤
  AreBack (location l ls) = IsBack l × AreBack ls

  -- before what begins with no white space all that follows is left
  back_before : (l : Written A) (rest : Text) → IsBack l → EndsLocation rest → after_space rest ≡ rest → (n : ℕ) → length (written_text text_of l ++ rest) ≤ n
      → GivesBack (location_within attr n (written_text text_of l ++ rest)) l (written_text text_of l ++ rest) rest
  back_before l rest back ends tight n small = gives_left _ l (written_text text_of l ++ rest) (left_after l rest) rest (left_tight l rest tight) (back rest ends n small)

  -- ---- a row
  -- the texts of locations that follow another, before `]`
  abbrev more_text : WrittenRow A → Text → Text
  more_text ls rest = joined_from comma (row_texts text_of ls) ++ (codes "]" ++ rest)

  more_ends : (ls : WrittenRow A) (rest : Text) → EndsLocation (more_text ls rest)
  more_ends no_location rest = refl
  more_ends (location l ls) rest = refl

  more_tight : (ls : WrittenRow A) (rest : Text) → after_space (more_text ls rest) ≡ more_text ls rest
  more_tight no_location rest = refl
  more_tight (location l ls) rest = refl

  more_back : (ls : WrittenRow A) (rest : Text) (n : ℕ) → AreBack ls → length (more_text ls rest) ≤ n → GivesBack (more_within attr n (more_text ls rest)) ls (more_text ls rest) (codes "]" ++ rest)
  more_back no_location rest zero back small = absurd (omega (arith, small))
  more_back no_location rest (suc n) back small = gives_nothing no_location (codes "]" ++ rest)
  more_back (location l ls) rest zero back small = absurd (omega (arith, small))
  more_back (location l ls) rest (suc n) back small =
      let inner = location_within attr n in
      let more = more_within attr n in
      let left = more_text ls rest in
      let u = written_text text_of l ++ left in
      let parts : more_text (location l ls) rest ≡ codes ", " ++ u = ap (λ t. codes ", " ++ t) (append_assoc (written_text text_of l) (joined_from comma (row_texts text_of ls)) (codes "]" ++ rest)) in
      let fits : length u ≤ n = shorter_after 44 (codes " ") u (more_text (location l ls) rest) n parts small in
      let whole = location l ls in
      let end = codes "]" ++ rest in
      let next : Unit → Text → Outcome (WrittenRow A) = λ _ u. followed (inner u) (after_location inner more) in
      gives_at (more_within attr (suc n)) whole (more_text whole rest) (codes ", " ++ u) end parts
      (gives_followed (text_at (codes ",") (codes ", " ++ u)) (λ _ t. followed (space_at t) next) tt whole (codes ", " ++ u) (codes " " ++ u) end (gives_text (codes ",") (codes " " ++ u))
      (gives_followed (space_at (codes " " ++ u)) next tt whole (codes " " ++ u) u end (gives_space (codes " " ++ u) u (tight_text text_of l left))
      (gives_followed (inner u) (after_location inner more) l whole u left end (back_before l left back.0 (more_ends ls rest) (more_tight ls rest) n fits)
      (gives_after inner more l ls left end (more_tight ls rest) (more_back ls rest n back.1 (fits_after (written_text text_of l) left u n refl fits))))))

  -- the texts of locations in a row, before `]`
  abbrev items_text : WrittenRow A → Text → Text
  items_text ls rest = joined comma (row_texts text_of ls) ++ (codes "]" ++ rest)

  items_tight : (ls : WrittenRow A) (rest : Text) → after_space (items_text ls rest) ≡ items_text ls rest
  items_tight no_location rest = refl
  items_tight (location l ls) rest =
      let parts = append_assoc (written_text text_of l) (joined_from comma (row_texts text_of ls)) (codes "]" ++ rest) in
      ap after_space parts ∙ (tight_text text_of l (more_text ls rest) ∙ sym parts)

  items_back : (ls : WrittenRow A) (rest : Text) (n : ℕ) → AreBack ls → length (items_text ls rest) ≤ n
      → GivesBack (row_at (location_within attr n) (more_within attr n) (items_text ls rest)) ls (items_text ls rest) (codes "]" ++ rest)
  items_back no_location rest zero back small = gives_nothing no_location (codes "]" ++ rest)
  items_back no_location rest (suc n) back small = gives_nothing no_location (codes "]" ++ rest)
  items_back (location l ls) rest n back small =
      let left = more_text ls rest in
      let u = written_text text_of l ++ left in
      let inner = location_within attr n in
      let more = more_within attr n in
      let parts : items_text (location l ls) rest ≡ u = append_assoc (written_text text_of l) (joined_from comma (row_texts text_of ls)) (codes "]" ++ rest) in
      let fits : length u ≤ n = fits_after [] u (items_text (location l ls) rest) n parts small in
      gives_at (row_at inner more) (location l ls) (items_text (location l ls) rest) u (codes "]" ++ rest) parts
      (gives_row inner more l (location l ls) u left (codes "]" ++ rest) (back_before l left back.0 (more_ends ls rest) (more_tight ls rest) n fits)
      (gives_after inner more l ls left (codes "]" ++ rest) (more_tight ls rest) (more_back ls rest n back.1 (fits_after (written_text text_of l) left u n refl fits))))

  -- ---- each kind
  place_back : (s : Option (List ℕ)) (at : SourcePosition) → IfSome s IsUtf8 × Fits32 at → IsBack (src_pos s at)
  place_back None at fit rest ends zero small = absurd (omega (arith, small))
  place_back (Some path) at fit rest ends zero small = absurd (omega (arith, small))
  place_back s at fit rest ends (suc n) small =
      let whole = src_pos s at in
      let text = source_text s ++ (codes ": " ++ (position_text at ++ rest)) in
      gives_at (location_within attr (suc n)) whole (written_text text_of whole ++ rest) text rest (append_assoc (source_text s) (codes ": " ++ position_text at) rest)
      (kind_place (location_within attr n) (more_within attr n) attr s at rest fit.0 fit.1 ends)

  fused_back : (m : Option (AttrView A)) (ls : WrittenRow A) → IfSome m (AttrReads attr text_of) → AreBack ls → IsBack (fused m ls)
  fused_back None ls reads back rest ends zero small = absurd (omega (arith, small))
  fused_back (Some a) ls reads back rest ends zero small = absurd (omega (arith, small))
  fused_back None ls reads back rest ends (suc n) small =
      let items = items_text ls rest in
      let text = codes "fused" ++ (codes "[" ++ items) in
      let parts : written_text text_of (fused None ls) ++ rest ≡ text = ap (λ t. codes "fused[" ++ t) (append_assoc (joined comma (row_texts text_of ls)) (codes "]") rest) in
      let fits : length items ≤ n = shorter_after 102 (codes "used[") items (written_text text_of (fused None ls) ++ rest) n parts small in
      gives_at (location_within attr (suc n)) (fused None ls) (written_text text_of (fused None ls) ++ rest) text rest parts
      (kind_fused (location_within attr n) (more_within attr n) attr ls items rest (items_tight ls rest) (items_back ls rest n back fits))
  fused_back (Some a) ls reads back rest ends (suc n) small =
      let items = items_text ls rest in
      let row = joined comma (row_texts text_of ls) in
      let front = codes "used<" ++ (attr_text text_of a ++ codes ">[") in
      let text = codes "fused<" ++ (attr_text text_of a ++ (codes ">[" ++ items)) in
      let whole = fused (Some a) ls in
      let parts : written_text text_of whole ++ rest ≡ text =
      ap (λ t. codes "fused<" ++ t) (ap (λ t. t ++ rest) (append_assoc (attr_text text_of a) (codes ">") (codes "[" ++ (row ++ codes "]"))) ∙ append_assoc (attr_text text_of a) (codes ">[" ++ (row ++ codes "]")) rest ∙ ap (λ t. attr_text text_of a ++ (codes ">[" ++ t)) (append_assoc row (codes "]") rest)) in
      let split : text ≡ 102 ∷ (front ++ items) = ap (λ t. codes "fused<" ++ t) (sym (append_assoc (attr_text text_of a) (codes ">[") items)) in
      let fits : length items ≤ n = shorter_after 102 front items (written_text text_of whole ++ rest) n (parts ∙ split) small in
      gives_at (location_within attr (suc n)) whole (written_text text_of whole ++ rest) text rest parts
      (kind_noted (location_within attr n) (more_within attr n) attr text_of a ls items rest reads (items_tight ls rest) (items_back ls rest n back fits))

  named_back : (name : List ℕ) (l : Written A) → IsUtf8 name → IsBack l → IsBack (named name l)
  named_back name l fine back rest ends zero small = absurd (omega (arith, small))
  named_back name l fine back rest ends (suc n) small =
      let q = quoted (chars name) in
      let end = codes ")" ++ rest in
      let z = written_text text_of l ++ end in
      let front = codes "ame: " ++ (q ++ codes ", loc: (") in
      let text = codes "name: " ++ (q ++ (codes ", loc: (" ++ z)) in
      let whole = named name l in
      let parts : written_text text_of whole ++ rest ≡ text =
      ap (λ t. codes "name: " ++ t) (append_assoc q (codes ", loc: (" ++ (written_text text_of l ++ codes ")")) rest ∙ ap (λ t. q ++ (codes ", loc: (" ++ t)) (append_assoc (written_text text_of l) (codes ")") rest)) in
      let split : text ≡ 110 ∷ (front ++ z) = ap (λ t. codes "name: " ++ t) (sym (append_assoc q (codes ", loc: (") z)) in
      let fits : length z ≤ n = shorter_after 110 front z (written_text text_of whole ++ rest) n (parts ∙ split) small in
      gives_at (location_within attr (suc n)) whole (written_text text_of whole ++ rest) text rest parts
      (kind_named (location_within attr n) (more_within attr n) attr name l z rest fine (back_before l end back refl refl n fits))

  call_back : (callee caller : Written A) → IsBack callee → IsBack caller → IsBack (call_site callee caller)
  call_back callee caller back again rest ends zero small = absurd (omega (arith, small))
  call_back callee caller back again rest ends (suc n) small =
      let end = codes ")" ++ rest in
      let w = written_text text_of caller ++ end in
      let v = codes " at " ++ w in
      let u = written_text text_of callee ++ v in
      let whole = call_site callee caller in
      let parts : written_text text_of whole ++ rest ≡ codes "callsite(" ++ u =
      ap (λ t. codes "callsite(" ++ t) (append_assoc (written_text text_of callee) (codes " at " ++ (written_text text_of caller ++ codes ")")) rest
      ∙ ap (λ t. written_text text_of callee ++ (codes " at " ++ t)) (append_assoc (written_text text_of caller) (codes ")") rest)) in
      let fits : length u ≤ n = shorter_after 99 (codes "allsite(") u (written_text text_of whole ++ rest) n parts small in
      let inner_fits : length w ≤ n = fits_after (written_text text_of callee ++ codes " at ") w u n (sym (append_assoc (written_text text_of callee) (codes " at ") w)) fits in
      gives_at (location_within attr (suc n)) whole (written_text text_of whole ++ rest) (codes "callsite(" ++ u) (left_after whole rest) parts
      (kind_call_site (location_within attr n) (more_within attr n) attr callee caller u (left_after callee v) w rest (tight_text text_of callee v) (back v refl n fits)
      (left_space callee v) (tight_text text_of caller end) (back_before caller end again refl refl n inner_fits))

  unknown_back : IsBack unknown
  unknown_back rest ends zero small = absurd (omega (arith, small))
  unknown_back rest ends (suc n) small = kind_unknown (location_within attr n) (more_within attr n) attr rest

  mutual
    -- a location's text is parsed back
    pub location_back : (l : Written A) → AllRead attr text_of l → AllFit l → IsBack l
    location_back (src_pos s at) reads fits = place_back s at fits
    location_back (fused m ls) reads fits = fused_back m ls reads.0 (row_back ls reads.1 fits)
    location_back (named name child) reads fits = named_back name child fits.0 (location_back child reads fits.1)
    location_back (call_site callee caller) reads fits = call_back callee caller (location_back callee reads.0 fits.0) (location_back caller reads.1 fits.1)
    location_back unknown reads fits = unknown_back

    row_back : (ls : WrittenRow A) → RowRead attr text_of ls → RowFit ls → AreBack ls
    row_back no_location reads fits = tt
    row_back (location l ls) reads fits = (location_back l reads.0 fits.0, row_back ls reads.1 fits.1)

  -- the whole text is parsed under one bound, so two locations with one text are one
  pub location_same : (l k : Written A) → AllRead attr text_of l → AllFit l → AllRead attr text_of k → AllFit k → written_text text_of l ≡ written_text text_of k → l ≡ k
  location_same l k read_l fits_l read_k fits_k e =
      let at : Text → Outcome (Written A) = λ text. location_within attr (length (text ++ [])) (text ++ []) in
      let a = location_back l read_l fits_l [] refl (length (written_text text_of l ++ [])) (le_refl _) in
      let b = location_back k read_k fits_k [] refl (length (written_text text_of k ++ [])) (le_refl _) in
      let one : Read l a.taken (left_after l []) ≡ Read k b.taken (left_after k []) = sym a.is ∙ (ap at e ∙ b.is) in
      cc one

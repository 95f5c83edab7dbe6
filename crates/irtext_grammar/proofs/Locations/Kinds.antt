-- A location of each kind is parsed back where the locations inside it are.
use Rattle.std.proofs.Common.{◌≡◌, ℕ, Option, Some, None, List, ◌++◌, inr, refl, sym, ◌∙◌, ap}
use Rattle.std.specs.Prelude.{codes, IfSome}
use Rattle.std.specs.Str.{chars, IsUtf8}
use Rattle.irtext_base.specs.Text.{Text, after_space}
use Rattle.irtext_base.specs.Answers.{Outcome, followed, mapped}
use Rattle.irtext_base.specs.Causes.{position_text}
use Rattle.irtext_base.specs.Locations.{AttrView, src_pos, fused, named, call_site, unknown, location}
use Rattle.irtext_base.specs.Paths.{Written}
use Rattle.irtext_base.specs.Quoted.{quoted}
use Rattle.irtext_stream.specs.declared.position.SourcePosition.{SourcePosition}
use Rattle.irtext_base.proofs.Characters.{word_tight}
use Rattle.irtext_tokens.specs.Tokens.{text_at}
use Rattle.irtext_grammar.specs.Readers.Positions.{space_at, spaced_at, position_at}
use Rattle.irtext_grammar.specs.Readers.Locations.{bytes_at, name_at, source_at, WrittenRow, place_at, metadata_at, after_location, row_at, row_of, kind_at}
use Rattle.irtext_grammar.specs.Spelling.AttrText.{attr_text}
use Rattle.irtext_grammar.specs.Spelling.Locations.{source_text}
use Rattle.irtext_grammar.specs.Promises.PrintedBack.{Fits32}
use Rattle.irtext_grammar.specs.Promises.LocationsBack.{GivesBack, AttrReads, EndsLocation}
use Rattle.irtext_grammar.proofs.Locations.GivesBack.{gives_followed, gives_mapped, gives_nothing, gives_text, gives_space, gives_spaced}
use Rattle.irtext_grammar.proofs.Locations.Parts.{gives_position, gives_bytes, gives_source}

-- what is between a name and the location that it names; the result is the name
abbrev after_name : List ℕ → Text → Outcome (List ℕ)
after_name name v = followed (spaced_at (codes ",") v) (λ _ w. followed (text_at (codes "loc") w) (λ _ x. followed (spaced_at (codes ":") x) (λ _ y. mapped (λ _. name) (text_at (codes "(") y))))

gives_after_name : (name : List ℕ) (z : Text) → GivesBack (after_name name (codes ", loc: (" ++ z)) name (codes ", loc: (" ++ z) z
gives_after_name name z =
    let v = codes ", loc: (" ++ z in
    let w = codes "loc: (" ++ z in
    let x = codes ": (" ++ z in
    let y = codes "(" ++ z in
    let bracket : Unit → Text → Outcome (List ℕ) = λ _ y. mapped (λ _. name) (text_at (codes "(") y) in
    let colon : Unit → Text → Outcome (List ℕ) = λ _ x. followed (spaced_at (codes ":") x) bracket in
    gives_followed (spaced_at (codes ",") v) (λ _ w. followed (text_at (codes "loc") w) colon) tt name v w z (gives_spaced (codes ",") v (codes " " ++ w) w refl refl)
    (gives_followed (text_at (codes "loc") w) colon tt name w x z (gives_text (codes "loc") x)
    (gives_followed (spaced_at (codes ":") x) bracket tt name x y z (gives_spaced (codes ":") x (codes " " ++ y) y refl refl)
    (gives_mapped (λ _. name) (text_at (codes "(") y) tt y z (gives_text (codes "(") z))))

gives_name : (name : List ℕ) (z : Text) → IsUtf8 name → GivesBack (name_at (codes "name: " ++ (quoted (chars name) ++ (codes ", loc: (" ++ z)))) name (codes "name: " ++ (quoted (chars name) ++ (codes ", loc: (" ++ z))) z
gives_name name z fine =
    let v = codes ", loc: (" ++ z in
    let u = quoted (chars name) ++ v in
    let t = codes ": " ++ u in
    let quote : Unit → Text → Outcome (List ℕ) = λ _ u. followed (bytes_at u) after_name in
    gives_followed (text_at (codes "name") (codes "name" ++ t)) (λ _ t. followed (spaced_at (codes ":") t) quote) tt name (codes "name" ++ t) t z (gives_text (codes "name") t)
    (gives_followed (spaced_at (codes ":") t) quote tt name t u z (gives_spaced (codes ":") t (codes " " ++ u) u refl refl)
    (gives_followed (bytes_at u) after_name name name u v z (gives_bytes name v fine) (gives_after_name name z)))

module _ {A : Type 0} where
  -- a place of a source
  gives_place : (s : Option (List ℕ)) (at : SourcePosition) (rest : Text) → IfSome s IsUtf8 → Fits32 at → EndsLocation rest
      → GivesBack (place_at {A = A} (source_text s ++ (codes ": " ++ (position_text at ++ rest)))) (src_pos s at) (source_text s ++ (codes ": " ++ (position_text at ++ rest))) rest
  gives_place s at rest fine fits ends =
      let u = position_text at ++ rest in
      let t = codes ": " ++ u in
      let from : Option (List ℕ) → Text → Outcome (Written A) = λ s t. followed (spaced_at (codes ":") t) (λ _ u. mapped (src_pos s) (position_at u)) in
      gives_followed (source_at (source_text s ++ t)) from s (src_pos s at) (source_text s ++ t) t rest (gives_source s t fine)
      (gives_followed (spaced_at (codes ":") t) (λ _ u. mapped (src_pos s) (position_at u)) tt (src_pos s at) t u rest (gives_spaced (codes ":") t (codes " " ++ u) u refl refl)
      (gives_mapped (src_pos s) (position_at u) at u rest (gives_position at rest fits ends)))

  -- an attribute between `<` and `>`
  gives_metadata : (attr : Text → Outcome (AttrView A)) (text_of : A → Text) (a : AttrView A) (rest : Text) → AttrReads attr text_of a
      → GivesBack (metadata_at attr (codes "<" ++ (attr_text text_of a ++ (codes ">" ++ rest)))) (Some a) (codes "<" ++ (attr_text text_of a ++ (codes ">" ++ rest))) rest
  gives_metadata attr text_of a rest reads =
      let end = codes ">" ++ rest in
      let t = attr_text text_of a ++ end in
      let back = reads.again end (inr refl) in
      let last : Unit → Text → Outcome (Option (AttrView A)) = λ _ w. mapped (λ _. Some a) (text_at (codes ">") w) in
      let closing : AttrView A → Text → Outcome (Option (AttrView A)) = λ a v. followed (space_at v) (λ _ w. mapped (λ _. Some a) (text_at (codes ">") w)) in
      let inside : Unit → Text → Outcome (Option (AttrView A)) = λ _ u. followed (attr u) closing in
      gives_followed (text_at (codes "<") (codes "<" ++ t)) (λ _ t. followed (space_at t) inside) tt (Some a) (codes "<" ++ t) t rest (gives_text (codes "<") t)
      (gives_followed (space_at t) inside tt (Some a) t t rest (gives_space t t (word_tight t (reads.starts end)))
      (gives_followed (attr t) closing a (Some a) t back.0 rest back.1
      (gives_followed (space_at back.0) last tt (Some a) back.0 end rest (gives_space back.0 end back.2)
      (gives_mapped (λ _. Some a) (text_at (codes ">") end) tt end rest (gives_text (codes ">") rest)))))

  module _ (inner : Text → Outcome (Written A)) (more : Text → Outcome (WrittenRow A)) where
    -- white space after a location, and the locations that follow it
    pub gives_after : (l : Written A) (ls : WrittenRow A) (text rest : Text) → after_space text ≡ text → GivesBack (more text) ls text rest → GivesBack (after_location inner more l text) (location l ls) text rest
    gives_after l ls text rest tight h =
        gives_followed (space_at text) (λ _ t. mapped (location l) (more t)) tt (location l ls) text text rest (gives_space text text tight) (gives_mapped (location l) (more text) ls text rest h)

    -- a first location, and those that follow it
    pub gives_row : (l : Written A) (ls : WrittenRow A) (text mid rest : Text) → GivesBack (inner text) l text mid → GivesBack (after_location inner more l mid) ls mid rest → GivesBack (row_at inner more text) ls text rest
    gives_row l ls text mid rest h k =
        let read = gives_followed (inner text) (after_location inner more) l ls text mid rest h k in
        record { taken = read.taken; is = ap (λ o. row_of inner more o text) h.is ∙ (sym (ap (λ o. followed o (after_location inner more)) h.is) ∙ read.is); whole = read.whole }

    module _ (attr : Text → Outcome (AttrView A)) where
      -- a place of a source, by its first character
      pub kind_place : (s : Option (List ℕ)) (at : SourcePosition) (rest : Text) → IfSome s IsUtf8 → Fits32 at → EndsLocation rest
          → GivesBack (kind_at inner more attr (source_text s ++ (codes ": " ++ (position_text at ++ rest)))) (src_pos s at) (source_text s ++ (codes ": " ++ (position_text at ++ rest))) rest
      kind_place None at rest fine fits ends = gives_place None at rest fine fits ends
      kind_place (Some path) at rest fine fits ends = gives_place (Some path) at rest fine fits ends

      -- what follows the metadata: locations between `[` and `]`
      abbrev listed : Option (AttrView A) → Text → Outcome (Written A)
      listed m v = followed (text_at (codes "[") v) (λ _ w. followed (space_at w) (λ _ x. followed (row_at inner more x) (λ ls y. mapped (λ _. fused m ls) (text_at (codes "]") y))))

      gives_listed : (m : Option (AttrView A)) (ls : WrittenRow A) (items rest : Text) → after_space items ≡ items → GivesBack (row_at inner more items) ls items (codes "]" ++ rest)
          → GivesBack (listed m (codes "[" ++ items)) (fused m ls) (codes "[" ++ items) rest
      gives_listed m ls items rest tight h =
          let end = codes "]" ++ rest in
          let whole = fused m ls in
          let close : WrittenRow A → Text → Outcome (Written A) = λ ls y. mapped (λ _. fused m ls) (text_at (codes "]") y) in
          let row : Unit → Text → Outcome (Written A) = λ _ x. followed (row_at inner more x) close in
          gives_followed (text_at (codes "[") (codes "[" ++ items)) (λ _ w. followed (space_at w) row) tt whole (codes "[" ++ items) items rest (gives_text (codes "[") items)
          (gives_followed (space_at items) row tt whole items items rest (gives_space items items tight)
          (gives_followed (row_at inner more items) close ls whole items end rest h (gives_mapped (λ _. whole) (text_at (codes "]") end) tt end rest (gives_text (codes "]") rest))))

      -- several locations as one
      pub kind_fused : (ls : WrittenRow A) (items rest : Text) → after_space items ≡ items → GivesBack (row_at inner more items) ls items (codes "]" ++ rest)
          → GivesBack (kind_at inner more attr (codes "fused" ++ (codes "[" ++ items))) (fused None ls) (codes "fused" ++ (codes "[" ++ items)) rest
      kind_fused ls items rest tight h =
          let t = codes "[" ++ items in
          let next : Unit → Text → Outcome (Written A) = λ _ u. followed (metadata_at attr u) listed in
          gives_followed (text_at (codes "fused") (codes "fused" ++ t)) (λ _ t. followed (space_at t) next) tt (fused None ls) (codes "fused" ++ t) t rest (gives_text (codes "fused") t)
          (gives_followed (space_at t) next tt (fused None ls) t t rest (gives_space t t refl)
          (gives_followed (metadata_at attr t) listed None (fused None ls) t t rest (gives_nothing None t) (gives_listed None ls items rest tight h)))

      -- the same with metadata
      pub kind_noted : (text_of : A → Text) (a : AttrView A) (ls : WrittenRow A) (items rest : Text) → AttrReads attr text_of a → after_space items ≡ items → GivesBack (row_at inner more items) ls items (codes "]" ++ rest)
          → GivesBack (kind_at inner more attr (codes "fused<" ++ (attr_text text_of a ++ (codes ">[" ++ items)))) (fused (Some a) ls) (codes "fused<" ++ (attr_text text_of a ++ (codes ">[" ++ items))) rest
      kind_noted text_of a ls items rest reads tight h =
          let v = codes "[" ++ items in
          let t = codes "<" ++ (attr_text text_of a ++ (codes ">" ++ v)) in
          let next : Unit → Text → Outcome (Written A) = λ _ u. followed (metadata_at attr u) listed in
          gives_followed (text_at (codes "fused") (codes "fused" ++ t)) (λ _ t. followed (space_at t) next) tt (fused (Some a) ls) (codes "fused" ++ t) t rest (gives_text (codes "fused") t)
          (gives_followed (space_at t) next tt (fused (Some a) ls) t t rest (gives_space t t refl)
          (gives_followed (metadata_at attr t) listed (Some a) (fused (Some a) ls) t v rest (gives_metadata attr text_of a v reads) (gives_listed (Some a) ls items rest tight h)))

      -- a name for a location
      pub kind_named : (name : List ℕ) (l : Written A) (z rest : Text) → IsUtf8 name → GivesBack (inner z) l z (codes ")" ++ rest)
          → GivesBack (kind_at inner more attr (codes "name: " ++ (quoted (chars name) ++ (codes ", loc: (" ++ z)))) (named name l) (codes "name: " ++ (quoted (chars name) ++ (codes ", loc: (" ++ z))) rest
      kind_named name l z rest fine h =
          let text = codes "name: " ++ (quoted (chars name) ++ (codes ", loc: (" ++ z)) in
          let end = codes ")" ++ rest in
          let whole = named name l in
          let close : Written A → Text → Outcome (Written A) = λ l end. mapped (λ _. named name l) (text_at (codes ")") end) in
          gives_followed (name_at text) (λ name t. followed (inner t) (λ l u. mapped (λ _. named name l) (text_at (codes ")") u))) name whole text z rest (gives_name name z fine)
          (gives_followed (inner z) close l whole z end rest h (gives_mapped (λ _. whole) (text_at (codes ")") end) tt end rest (gives_text (codes ")") rest)))

      -- the location of a callee's caller
      abbrev caller_at : Written A → Text → Outcome (Written A)
      caller_at callee v = followed (spaced_at (codes "at") v) (λ _ w. followed (inner w) (λ caller x. mapped (λ _. call_site callee caller) (spaced_at (codes ")") x)))

      gives_caller : (callee caller : Written A) (v w rest : Text) → after_space v ≡ codes "at " ++ w → after_space w ≡ w → GivesBack (inner w) caller w (codes ")" ++ rest)
          → GivesBack (caller_at callee v) (call_site callee caller) v (after_space rest)
      gives_caller callee caller v w rest e f h =
          let end = codes ")" ++ rest in
          let whole = call_site callee caller in
          let left = after_space rest in
          let close : Written A → Text → Outcome (Written A) = λ caller x. mapped (λ _. call_site callee caller) (spaced_at (codes ")") x) in
          gives_followed (spaced_at (codes "at") v) (λ _ w. followed (inner w) close) tt whole v w left (gives_spaced (codes "at") v (codes " " ++ w) w e f)
          (gives_followed (inner w) close caller whole w end left h (gives_mapped (λ _. whole) (spaced_at (codes ")") end) tt end left (gives_spaced (codes ")") end rest left refl refl)))

      -- a callee's location and its caller's
      pub kind_call_site : (callee caller : Written A) (u v w rest : Text) → after_space u ≡ u → GivesBack (inner u) callee u v → after_space v ≡ codes "at " ++ w → after_space w ≡ w → GivesBack (inner w) caller w (codes ")" ++ rest)
          → GivesBack (kind_at inner more attr (codes "callsite(" ++ u)) (call_site callee caller) (codes "callsite(" ++ u) (after_space rest)
      kind_call_site callee caller u v w rest d g e f h =
          let whole = call_site callee caller in
          let left = after_space rest in
          let t = codes "(" ++ u in
          let first : Unit → Text → Outcome (Written A) = λ _ u. followed (inner u) caller_at in
          gives_followed (text_at (codes "callsite") (codes "callsite" ++ t)) (λ _ t. followed (spaced_at (codes "(") t) first) tt whole (codes "callsite" ++ t) t left (gives_text (codes "callsite") t)
          (gives_followed (spaced_at (codes "(") t) first tt whole t u left (gives_spaced (codes "(") t u u refl d)
          (gives_followed (inner u) caller_at callee whole u v left g (gives_caller callee caller v w rest e f h)))

      -- no location
      pub kind_unknown : (rest : Text) → GivesBack (kind_at inner more attr (codes "?" ++ rest)) unknown (codes "?" ++ rest) rest
      kind_unknown rest = gives_mapped (λ _. unknown) (text_at (codes "?") (codes "?" ++ rest)) tt (codes "?" ++ rest) rest (gives_text (codes "?") rest)

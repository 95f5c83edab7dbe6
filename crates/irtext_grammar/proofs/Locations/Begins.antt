-- Where a location begins, its parser is one that its first character names; elsewhere there is none.
use Rattle.std.proofs.Common.{◌≡◌, ◌∙◌, ap, refl, sym, subst, ℕ, zero, suc, ◌≤◌, Bool, true, false, cond, ◌||◌, Option, Some, None, Result, List, [], ◌∷◌, length, codes, arith, true≢false}
use Rattle.std.specs.Str.{encode_utf8_all}
use Rattle.irtext_base.specs.Text.{Text, begins}
use Rattle.irtext_base.specs.Reading.{the}
use Rattle.irtext_base.specs.Stream.{StreamView, first_of}
use Rattle.irtext_base.specs.Faults.{Unexpected, ASource, ALocation, Word}
use Rattle.irtext_base.specs.Answers.{Outcome, Read, Missing, Bad, Answers, demanded, prefixed, mapped, followed, unless_failed}
use Rattle.irtext_base.specs.Locations.{AttrView, unknown}
use Rattle.irtext_base.specs.Paths.{Written}
use Rattle.irtext_base.specs.declared.parsable.fault.ParseFault.{ParseFault}
use Rattle.irtext_tokens.specs.MustRead.{MustRead, MayRead}
use Rattle.irtext_tokens.specs.Tokens.{text_at, spelled_at}
use Rattle.irtext_tokens.specs.QuotedTexts.{quoted_at, units_at}
use Rattle.irtext_grammar.specs.Readers.Streams.{itself, replaced}
use Rattle.irtext_grammar.specs.Readers.Locations.{begins_source, begins_location, bytes_at, path_at, source_at, place_at, name_at, WrittenRow, fused_at, named_at, call_site_at, kind_at, location_within, more_within}

-- the parser's value is missing here: nothing was taken
abbrev pub is_missing : {X : Type 0} → Outcome X → Bool
is_missing (Read x taken rest) = false
is_missing (Missing cause) = true
is_missing (Bad cause upto) = false

missing_prefixed : {X : Type 0} (t : Text) (o : Outcome X) → is_missing (prefixed t o) ≡ false
missing_prefixed t (Read x taken rest) = refl
missing_prefixed t (Missing cause) = refl
missing_prefixed t (Bad cause upto) = refl

-- a sequence is missing if and only if its first part is missing
missing_followed : {X Y : Type 0} (o : Outcome X) (k : X → Text → Outcome Y) → is_missing (followed o k) ≡ is_missing o
missing_followed (Read x taken rest) k = missing_prefixed taken (k x rest)
missing_followed (Missing cause) k = refl
missing_followed (Bad cause upto) k = refl

missing_mapped : {X Y : Type 0} (f : X → Y) (o : Outcome X) → is_missing (mapped f o) ≡ is_missing o
missing_mapped f (Read x taken rest) = refl
missing_mapped f (Missing cause) = refl
missing_mapped f (Bad cause upto) = refl

-- a word is not missing if the text begins with its first character
word_begins : (c : ℕ) (word text : Text) → begins (the c) text ≡ true → is_missing (text_at (c ∷ word) text) ≡ false
word_begins c word [] h = absurd (true≢false (sym h))
word_begins c word (d ∷ text) h =
    ap (λ b. is_missing (cond b (prefixed (d ∷ []) (spelled_at (c ∷ word) word text)) (Missing (Unexpected (Some d) (Word (c ∷ word)))))) h ∙ missing_prefixed (d ∷ []) (spelled_at (c ∷ word) word text)

either : (a b : Bool) → (a || b) ≡ true → a ≡ false → b ≡ true
either true b h e = absurd (true≢false e)
either false b h e = h

neither_left : (a b : Bool) → (a || b) ≡ false → a ≡ false
neither_left true b h = absurd (true≢false h)
neither_left false b h = refl

neither_right : (a b : Bool) → (a || b) ≡ false → b ≡ false
neither_right true b h = absurd (true≢false h)
neither_right false b h = h

-- the tests for the first character
source_tests : (text : Text) → begins begins_source text ≡ (begins (the 34) text || begins (the 60) text)
source_tests [] = refl
source_tests (c ∷ text) = refl

location_tests : (text : Text) → begins begins_location text ≡ (begins begins_source text || (begins (the 102) text || (begins (the 110) text || (begins (the 99) text || begins (the 63) text))))
location_tests [] = refl
location_tests (c ∷ text) = refl

quoted_begins : (text : Text) → begins (the 34) text ≡ true → is_missing (quoted_at text) ≡ false
unfolding quoted_at
quoted_begins text h = missing_followed (text_at (codes "\"") text) (λ mark t. units_at [] t) ∙ word_begins 34 [] text h

-- memory, and no source
abbrev memory : Text → Outcome (Option (List ℕ))
memory text = mapped (λ _. None) (text_at (codes "<in-memory>") text)

abbrev no_source : Text → Outcome (Option (List ℕ))
no_source text = Missing (Unexpected (first_of text) ASource)

-- where a source begins, its parser does not miss it
pub source_begins : (text : Text) → begins begins_source text ≡ true → is_missing (source_at text) ≡ false
source_begins text h = by (begins (the 34) text) refl
  where
    by : (b : Bool) → begins (the 34) text ≡ b → is_missing (cond b (path_at text) (cond (begins (the 60) text) (memory text) (no_source text))) ≡ false
    by true e = missing_mapped Some (bytes_at text) ∙ (missing_mapped encode_utf8_all (quoted_at text) ∙ quoted_begins text e)
    by false e =
        let lt = either (begins (the 34) text) (begins (the 60) text) (sym (source_tests text) ∙ h) e in
        ap (λ b. is_missing (cond b (memory text) (no_source text))) lt
        ∙ (missing_mapped {Y = Option (List ℕ)} (λ _. None) (text_at (codes "<in-memory>") text) ∙ word_begins 60 (codes "in-memory>") text lt)

module _ {A : Type 0} (inner : Text → Outcome (Written A)) (more : Text → Outcome (WrittenRow A)) (attr : Text → Outcome (AttrView A)) (text : Text) where
  -- the kind that the first character names
  pub is_place : begins begins_source text ≡ true → kind_at inner more attr text ≡ place_at text
  is_place a = rw a refl

  -- if the text begins with `f` and no source, the parser is that of a fused location
  pub is_fused : begins begins_source text ≡ false → begins (the 102) text ≡ true → kind_at inner more attr text ≡ fused_at inner more attr text
  is_fused a b = rw (a, b) refl

  -- if it begins with `n`, the parser is that of a named location
  pub is_named : begins begins_source text ≡ false → begins (the 102) text ≡ false → begins (the 110) text ≡ true → kind_at inner more attr text ≡ named_at inner more text
  is_named a b c = rw (a, b, c) refl

  -- if it begins with `c`, the parser is that of a call site
  pub is_call_site : begins begins_source text ≡ false → begins (the 102) text ≡ false → begins (the 110) text ≡ false → begins (the 99) text ≡ true → kind_at inner more attr text ≡ call_site_at inner more text
  is_call_site a b c d = rw (a, b, c, d) refl

  -- if it begins with `?`, the parser is that of an unknown location
  pub is_unknown : begins begins_source text ≡ false → begins (the 102) text ≡ false → begins (the 110) text ≡ false → begins (the 99) text ≡ false → begins (the 63) text ≡ true
      → kind_at inner more attr text ≡ mapped (λ _. unknown) (text_at (codes "?") text)
  is_unknown a b c d e = rw (a, b, c, d, e) refl

  -- elsewhere no location begins
  pub is_none : begins begins_source text ≡ false → begins (the 102) text ≡ false → begins (the 110) text ≡ false → begins (the 99) text ≡ false → begins (the 63) text ≡ false
      → kind_at inner more attr text ≡ Missing (Unexpected (first_of text) ALocation)
  is_none a b c d e = rw (a, b, c, d, e) refl

  -- where a location begins, its kind is not missing
  pub kind_begins : begins begins_location text ≡ true → is_missing (kind_at inner more attr text) ≡ false
  kind_begins h = by (begins begins_source text) refl (begins (the 102) text) refl (begins (the 110) text) refl (begins (the 99) text) refl
    where
      by : (a : Bool) → begins begins_source text ≡ a → (b : Bool) → begins (the 102) text ≡ b → (c : Bool) → begins (the 110) text ≡ c → (d : Bool) → begins (the 99) text ≡ d → is_missing (kind_at inner more attr text) ≡ false
      by true ea b eb c ec d ed = ap is_missing (is_place ea) ∙ (missing_followed (source_at text) _ ∙ source_begins text ea)
      by false ea true eb c ec d ed = ap is_missing (is_fused ea eb) ∙ (missing_followed (text_at (codes "fused") text) _ ∙ word_begins 102 (codes "used") text eb)
      by false ea false eb true ec d ed = ap is_missing (is_named ea eb ec) ∙ (missing_followed (name_at text) _ ∙ (missing_followed (text_at (codes "name") text) _ ∙ word_begins 110 (codes "ame") text ec))
      by false ea false eb false ec true ed = ap is_missing (is_call_site ea eb ec ed) ∙ (missing_followed (text_at (codes "callsite") text) _ ∙ word_begins 99 (codes "allsite") text ed)
      by false ea false eb false ec false ed =
          let e : begins (the 63) text ≡ true = either (begins (the 99) text) _ (either (begins (the 110) text) _ (either (begins (the 102) text) _ (either (begins begins_source text) _ (sym (location_tests text) ∙ h) ea) eb) ec) ed in
          ap is_missing (is_unknown ea eb ec ed e) ∙ (missing_mapped (λ _. unknown) (text_at (codes "?") text) ∙ word_begins 63 [] text e)

module _ {A : Type 0} (attr : Text → Outcome (AttrView A)) where
  -- where no location begins, there is none
  pub none_begins : (depth : ℕ) (text : Text) → begins begins_location text ≡ false → location_within attr depth text ≡ Missing (Unexpected (first_of text) ALocation)
  none_begins zero text h = refl
  none_begins (suc depth) text h =
      let f = sym (location_tests text) ∙ h in
      let a = neither_right (begins begins_source text) _ f in
      let b = neither_right (begins (the 102) text) _ a in
      let c = neither_right (begins (the 110) text) _ b in
      is_none (location_within attr depth) (more_within attr depth) attr text (neither_left (begins begins_source text) _ f) (neither_left (begins (the 102) text) _ a) (neither_left (begins (the 110) text) _ b)
      (neither_left (begins (the 99) text) _ c) (neither_right (begins (the 99) text) _ c)

  -- where one begins, it is not missing at any depth that the text does not pass
  pub one_begins : (depth : ℕ) (text : Text) → length text ≤ depth → begins begins_location text ≡ true → is_missing (location_within attr depth text) ≡ false
  one_begins zero [] small h = absurd (true≢false (sym h))
  one_begins zero (c ∷ text) small h = absurd (omega (arith, small))
  one_begins (suc depth) text small h = kind_begins (location_within attr depth) (more_within attr depth) attr text h

-- an outcome that is not missing is the same if it is required
as_it_is : {X : Type 0} (b : Bool) (o : Outcome X) → is_missing o ≡ false → demanded (unless_failed b o) ≡ unless_failed b o
as_it_is true o e = refl
as_it_is false (Read x t r) e = refl
as_it_is false (Missing cause) e = absurd (true≢false e)
as_it_is false (Bad cause upto) e = refl

-- if the value is not missing, the optional parser returns what the parser that requires it returns
pub may_of_must : {X Y A : Type 0} {see : Y → X} {f : Text → Outcome X} {old new : StreamView} {r : Result Y (ParseFault A)} → is_missing (f old.rest) ≡ false → MustRead itself replaced see f old r new → MayRead itself replaced see f old r new
may_of_must {see = see} {f = f} {old = old} {new = new} {r = r} e h = record { answers = subst (λ o. Answers itself replaced see o old r new) (as_it_is old.failed (f old.rest) e) h.answers }

-- Steps of a section whose entries were parsed: its references are right, or the first that is wrong is the error.
use Rattle.std.proofs.Common.{◌≡◌, ◌∙◌, ◌≤◌, ◌⊎◌, inl, inr, ℕ, Bool, true, false, cond, nat_eq, is_some, List, [], ◌∷◌, ◌++◌, length, length-append, Option, Some, None, Ok, Err, refl, sym, ap, ap₂, subst, append_assoc, arith}
use Rattle.std.proofs.lemmas.List.{take-append-drop, length-drop}
use Rattle.std.specs.Prelude.{codes, ◌-◌, take, drop, flat_map}
use Rattle.std.specs.Map.{lookup}
use Rattle.std.specs.Option.{option_map}
use Rattle.irtext_base.specs.Text.{Text}
use Rattle.irtext_base.specs.Format.{Id, Format}
use Rattle.irtext_base.specs.Faults.{Fault}
use Rattle.irtext_base.specs.Stream.{StreamView}
use Rattle.irtext_base.specs.Answers.{Outcome, Read, Missing, Bad, Takes, RunsOut, Commits, Refuses, Gives, demanded, unless_failed}
use Rattle.irtext_base.specs.Locations.{AttrView}
use Rattle.irtext_base.specs.Own.{Texts, Lawful, Sincere, texts_of}
use Rattle.irtext_base.specs.Paths.{Written}
use Rattle.irtext_base.specs.declared.base.attributes.AttrObj.{AttrObj}
use Rattle.irtext_base.specs.declared.parsable.fault.ParseFault.{ParseFault}
use Rattle.irtext_base.proofs.Compose.{takes_same_stream, same_stream_failed, runs_out_after}
use Rattle.irtext_stream.specs.Places.{IsPlaceAfter}
use Rattle.irtext_stream.specs.declared.position.Place.{Place}
use Rattle.irtext_context.specs.declared.base.item.Item.{Item}
use Rattle.irtext_tokens.specs.AttrTexts.{attr_at}
use Rattle.irtext_tokens.specs.Demanded.{spaced_at}
use Rattle.irtext_tokens.proofs.SetBack.{set_within}
use Rattle.irtext_tokens.proofs.Steps.{alone}
use Rattle.irtext_grammar.specs.Contexts.Held.{attribute_of}
use Rattle.irtext_grammar.specs.Grammar.Section as section
use Rattle.irtext_grammar.specs.Grammar.Section.{Entry, of_item, of_once, direct, reference}
use Rattle.irtext_grammar.specs.Grammar.Tree.{Name, Mark, Attribute}
use Rattle.irtext_grammar.specs.Names.Acts.{Rule, shared_attribute, keeps_if, reference_acts, late_acts}
use Rattle.irtext_grammar.specs.Names.Script.{Failure, Act, claim, UnknownPrintOnce, ReservedKey}
use Rattle.irtext_grammar.specs.Spelling.Spellable as single
use Rattle.irtext_grammar.proofs.Names.ResolvedSection.{flat_both}
use Rattle.irtext_grammar.specs.Readers.Operations.{RefusesAt}
use Rattle.irtext_grammar.specs.Readers.Streams.{itself, replaced}
use Rattle.irtext_grammar.proofs.Joins.Answers.{followed_read}
use Rattle.irtext_grammar.proofs.Readers.Answered.{Answered, answered}
use Rattle.irtext_grammar.proofs.Exact.Attributes.{lawful_needs_word}
use Rattle.irtext_grammar.specs.Parsed.{IsKey, Leaves, Each}
use Rattle.irtext_parse_pieces.specs.Named.{whole, MustMean}
use Rattle.irtext_grammar.specs.declared.parsed.Key.{Key}
use Rattle.irtext_parse_pieces.proofs.Meanings.{must_refuse}
use Rattle.irtext_grammar.specs.Entries.{fault_for, upto, wrong_references, unless_wrong, referred, entries_after, entries_at, section_at}
use Rattle.irtext_grammar.proofs.Claims.{wrong, wrongs, references_fail}
use Rattle.irtext_grammar.proofs.Entries.{entries_read}
use Rattle.irtext_grammar.proofs.Given.{splits_spaced}
use Rattle.irtext_grammar.proofs.Lawful.{splits_attr}
use Rattle.irtext_grammar.proofs.Places.{EntryNear, IsWithin, late_near, entries_near}
use Rattle.irtext_parse_locations.specs.Checked.{Wrong, reference_wrong, pair_wrong, pairs_wrong, items_wrong, RefusesFirst}
use Rattle.irtext_parse_section.specs.Entries.{AreItems, AreOnce}
use Rattle.irtext_parse_locations.specs.Rules.{rule_for, is_block}
use Rattle.irtext_parse_section.specs.Said.{rule_of_item, rules_of, IsPair}
use Rattle.irtext_parse_locations.specs.declared.said.GivenAttr.{GivenAttr}
use Rattle.irtext_parse_locations.specs.declared.said.GivenAttr.TheVariants as given
use Rattle.irtext_parse_locations.specs.declared.said.ItemEntry.{ItemEntry}

-- a failure of the parsed entries is the failure of the grammar, at its place in the text
pub record IsWrong (text : Text) (w : Wrong) (f : Failure Text ℕ) : Type 0 where
  pub cause : w.cause ≡ f.cause
  pub place : ℕ
  pub at : f.at ≡ Some place
  pub leaves : Leaves text w.at place

each_join : {X Y : Type 0} (R : Y → X → Type 0) (us vs : List Y) (xs ys : List X) → Each R us xs → Each R vs ys → Each R (us ++ vs) (xs ++ ys)
each_join R [] vs [] ys h k = k
each_join R [] vs (x ∷ xs) ys h k = absurd h
each_join R (u ∷ us) vs [] ys h k = absurd h
each_join R (u ∷ us) vs (x ∷ xs) ys h k = (h.0, each_join R us vs xs ys h.1 k)

-- ---- what is wrong with references
module _ {A : Type 0} (text : Text) where
  -- what references of this rule claim, where this is the attribute that is named
  abbrev claims : Rule A → Name ℕ → Mark ℕ → Option (Attribute A) → List (Act Text ℕ)
  claims rule n m o = claim (is_some o) (record { cause = UnknownPrintOnce m.index; at = Some m.place }) ∷ claim (keeps_if rule n.text o) (record { cause = ReservedKey n.text; at = Some n.place }) ∷ []

  reference_same : (of_block : Bool) (key : Key) (n : Name ℕ) (i : ℕ) (m : Mark ℕ) (at : Place) (o : Option (AttrObj A)) → IsKey text key n → i ≡ m.index → Leaves text at m.place
      → Each (IsWrong text) (reference_wrong of_block key i at o) (wrongs (claims (rule_for of_block) n m (option_map attribute_of o)))
  reference_same of_block key n i m at None k e l = (record { cause = ap UnknownPrintOnce e; place = m.place; at = refl; leaves = l }, tt)
  reference_same of_block key n i m at (Some a) k e l = go (rule_for of_block key.name (attribute_of a)) (rule_for of_block n.text (attribute_of a)) (ap (λ t. rule_for of_block t (attribute_of a)) k.named)
    where
      go : (b c : Bool) → b ≡ c → Each (IsWrong text) (cond b [] (record { cause = ReservedKey key.name; at = key.at } ∷ [])) (cond c [] (record { cause = ReservedKey n.text; at = Some n.place } ∷ []) ++ [])
      go true true e = tt
      go true false e = absurd (cc e)
      go false true e = absurd (cc e)
      go false false e = (record { cause = ap ReservedKey k.named; place = n.place; at = refl; leaves = k.place }, tt)

  module _ {X : Type 0} (once : List (ℕ × AttrObj A)) (all : List (Entry ℕ A X)) (h : AreOnce once all) where
    pair_same : (of_block : Bool) (p : Key × GivenAttr A) (x : Name ℕ × section.Item ℕ A) → IsPair text p x → Each (IsWrong text) (pair_wrong once of_block p) (wrongs (reference_acts (rule_for of_block) all x))
    pair_same of_block (key, given.Direct a) (n, direct b) is = tt
    pair_same of_block (key, given.Direct a) (n, reference m) is = absurd is.1
    pair_same of_block (key, given.Reference r) (n, direct b) is = absurd is.1
    pair_same of_block (key, given.Reference r) (n, reference m) is =
        subst (λ o. Each (IsWrong text) (reference_wrong of_block key r.index r.at (lookup (nat_eq r.index) once)) (wrongs (claims (rule_for of_block) n m o)))
        (h r.index ∙ ap (λ i. shared_attribute i all) is.1.indexed)
        (reference_same of_block key n r.index m r.at (lookup (nat_eq r.index) once) is.0 is.1.indexed is.1.place)

    pairs_same : (of_block : Bool) (ps : List (Key × GivenAttr A)) (xs : List (Name ℕ × section.Item ℕ A)) → Each (IsPair text) ps xs → Each (IsWrong text) (pairs_wrong once of_block ps) (wrongs (flat_map (reference_acts (rule_for of_block) all) xs))
    pairs_same of_block [] [] is = tt
    pairs_same of_block [] (x ∷ xs) is = absurd is
    pairs_same of_block (p ∷ ps) [] is = absurd is
    pairs_same of_block (p ∷ ps) (x ∷ xs) (i, is) =
        let acts = reference_acts (rule_for of_block) all x in
        let more = flat_map (reference_acts (rule_for of_block) all) xs in
        subst (λ fs. Each (IsWrong text) (pair_wrong once of_block p ++ pairs_wrong once of_block ps) fs) (sym (flat_both wrong acts more))
        (each_join (IsWrong text) (pair_wrong once of_block p) (pairs_wrong once of_block ps) (wrongs acts) (wrongs more) (pair_same of_block p x i) (pairs_same of_block ps xs is))

module _ {A : Type 0} (text : Text) (once : List (ℕ × AttrObj A)) (all : List (Entry ℕ A (Written A))) (h : AreOnce once all) (marks : List (ℕ × Item)) (paths : List (List ℕ)) where
  items_same : (items : List (ItemEntry A)) (es : List (Entry ℕ A (Written A))) → AreItems marks paths text items es → Each (IsWrong text) (items_wrong once items) (wrongs (flat_map (late_acts (rules_of marks) all) es))
  items_same items [] k = subst (λ z. Each (IsWrong text) (items_wrong once z) []) (sym k) tt
  items_same items (of_once m a ∷ es) k = items_same items es k
  items_same [] (of_item m x ps ∷ es) k = absurd k
  items_same (e ∷ items) (of_item m x ps ∷ es) (i, k) =
      let of_block = is_block e.item in
      let acts = flat_map (reference_acts (rules_of marks m.index) all) ps in
      let more = flat_map (late_acts (rules_of marks) all) es in
      let first : Each (IsWrong text) (pairs_wrong once of_block e.pairs.items) (wrongs acts) =
      subst (λ (rule : Rule A). Each (IsWrong text) (pairs_wrong once of_block e.pairs.items) (wrongs (flat_map (reference_acts rule all) ps))) (sym (ap rule_of_item i.item)) (pairs_same text once all h of_block e.pairs.items ps i.pairs) in
      subst (λ fs. Each (IsWrong text) (pairs_wrong once of_block e.pairs.items ++ items_wrong once items) fs) (sym (flat_both wrong acts more))
      (each_join (IsWrong text) (pairs_wrong once of_block e.pairs.items) (items_wrong once items) (wrongs acts) (wrongs more) first (items_same items es k))

  -- what is wrong with the references that were parsed is what is wrong with those of the text
  pub references_same : (items : List (ItemEntry A)) → AreItems marks paths text items all → Each (IsWrong text) (items_wrong once items) (wrong_references (rules_of marks) all)
  references_same items k = subst (λ fs. Each (IsWrong text) (items_wrong once items) fs) (sym (references_fail (rules_of marks) all)) (items_same items all k)

-- ---- the places of references are in the text of the section
module _ {T A : Type 0} (types : Texts T) (reading : Text → Outcome A) (written : A → Text) (sincere : Sincere reading) (lawful : Lawful A (texts_of reading written)) (marks : List ℕ) (rules : ℕ → Rule A) where
  abbrev all_next : Unit {0} → Text → Outcome (List (Entry ℕ A (Written A)))
  all_next _ t = entries_after (attr_at reading) marks rules (length t) [] t

  no_formats : Id → Option Format
  no_formats id = None

  pub references_near : (text : Text) (es : List (Entry ℕ A (Written A))) (taken rest : Text) → entries_at (attr_at reading) marks rules text ≡ Read es taken rest → single.Each (IsWithin (length text)) (wrong_references rules es)
  references_near text es taken rest e =
      let cut = splits_attr reading sincere in
      let words = lawful_needs_word reading written lawful in
      let a = followed_read (spaced_at (codes "outlined_attributes:") text) all_next es taken rest e in
      let split = splits_spaced (attr_at reading) cut (codes "outlined_attributes:") text a.value a.front a.middle a.first in
      let k = entries_read types reading written no_formats sincere.reads words cut marks rules (length a.middle) [] es a.middle a.more rest (omega arith) a.second in
      let near = entries_near types reading written no_formats sincere.reads words cut (length text) k.es a.middle rest (omega (arith, ap length split, length-append a.front a.middle)) k.reads in
      subst (single.Each (IsWithin (length text))) (sym (references_fail rules es)) (late_near (length text) rules es es (subst (λ es. single.Each (EntryNear (length text)) es) (sym k.whole) near))

-- ---- a section whose entries were parsed
same_front : (a b c d : Text) → a ++ b ≡ c ++ d → length b ≡ length d → a ≡ c
same_front [] b [] d e l = refl
same_front [] b (y ∷ c) d e l = absurd (omega (arith, ap length e, l, length-append c d))
same_front (x ∷ a) b [] d e l = absurd (omega (arith, ap length e, l, length-append a b))
same_front (x ∷ a) b (y ∷ c) d e l = let f : x ≡ y = cc e in let g : a ++ b ≡ c ++ d = cc e in ap₂ ◌∷◌ f (same_front a b c d g l)

-- a place of the text is after this many of its characters
place_is_there : (first text : Text) (place : Place) (left : ℕ) → left ≤ length text → Leaves (first ++ text) place left → IsPlaceAfter place (first ++ take (length text - left) text)
place_is_there first text place left near l =
    let n = length text - left in
    let all : (first ++ take n text) ++ drop n text ≡ first ++ text = append_assoc first (take n text) (drop n text) ∙ ap (λ z. first ++ z) (take-append-drop n text) in
    let same : l.passed ≡ first ++ take n text = same_front l.passed l.rest (first ++ take n text) (drop n text) (l.same ∙ sym all) (omega (arith, l.counts, length-drop n text, near)) in
    subst (IsPlaceAfter place) same l.positioned

module _ {X : Type 0} where
  read_gives : (b : Bool) (o : Outcome X) (x : X) (t : Text) (old new : StreamView) → b ≡ false → o ≡ Read x t new.rest → Takes itself replaced t new.rest old new → Gives itself replaced (demanded (unless_failed b o)) old x new
  read_gives b o x t old new f e k = subst (λ b. Gives itself replaced (demanded (unless_failed b o)) old x new) (sym f) (subst (λ o. Gives itself replaced (demanded o) old x new) (sym e) (refl, k))

  bad_refuses : {E : Type 0} (b : Bool) (o : Outcome X) (cause : Fault) (u : Text) (old new : StreamView) (fault : ParseFault E) → b ≡ false → o ≡ Bad cause u → Commits itself replaced cause u old fault new → Refuses itself replaced (demanded (unless_failed b o)) old fault new
  bad_refuses b o cause u old new fault f e k = subst (λ b. Refuses itself replaced (demanded (unless_failed b o)) old fault new) (sym f) (subst (λ o. Refuses itself replaced (demanded o) old fault new) (sym e) k)

module _ {A X E : Type 0} (rules : ℕ → Rule A) where
  unread : (text : Text) (b : Bool) (o : Outcome (List (Entry ℕ A X))) (old new : StreamView) (fault : ParseFault E) → RunsOut itself replaced old fault new ⊎ Refuses itself replaced (demanded (unless_failed b o)) old fault new
      → RunsOut itself replaced old fault new ⊎ Refuses itself replaced (demanded (unless_failed b (referred rules text o))) old fault new
  unread text b o old new fault (inl h) = inl h
  unread text true o old new fault (inr h) = inr h
  unread text false (Read x t r) old new fault (inr h) = absurd h
  unread text false (Missing cause) old new fault (inr h) = inr h
  unread text false (Bad cause u) old new fault (inr h) = inr h

module _ {A Y E : Type 0} (attr : Text → Outcome (AttrView A)) (marks : List ℕ) (rules : ℕ → Rule A) where
  -- the entries are an error
  pub section_unread : {Means Other : Y → List (Entry ℕ A (Written A)) → Type 0} {old new : StreamView} {fault : ParseFault E} → MustMean itself replaced Means (entries_at attr marks rules) old (Err fault) new → MustMean itself replaced Other (section_at attr marks rules) old (Err fault) new
  section_unread {old = old} {new = new} {fault = fault} k =
      must_refuse alone {see = k.meant} (record { answers = unread rules old.rest old.failed (entries_at attr marks rules old.rest) old new fault k.read.answers })

  module _ {Means : Y → List (Entry ℕ A (Written A)) → Type 0} {old mid : StreamView} {y : Y} (k : MustMean {A = E} itself replaced Means (entries_at attr marks rules) old (Ok y) mid) where
    abbrev found : List (Entry ℕ A (Written A))
    found = k.meant y

    all_read : Answered (entries_at attr marks rules old.rest) old found mid
    all_read = answered k.read

    -- what they are once their references were looked at
    looked_at : (fs : List (Failure Text ℕ)) → wrong_references rules found ≡ fs → section_at attr marks rules old.rest ≡ unless_wrong old.rest fs (Read found all_read.taken mid.rest)
    looked_at fs e = ap (referred rules old.rest) all_read.is ∙ ap (λ ws. unless_wrong old.rest ws (Read found all_read.taken mid.rest)) e

    -- no reference is wrong
    pub section_right : Each (IsWrong (whole old)) [] (wrong_references rules found) → MustMean {A = E} itself replaced Means (section_at attr marks rules) old (Ok y) mid
    section_right none = record {
      meant = k.meant;
      means = k.means;
      read = record { answers = read_gives old.failed (section_at attr marks rules old.rest) found all_read.taken old mid all_read.fine (looked_at [] (no_other (wrong_references rules found) none)) all_read.takes };
    }
      where
        no_other : (fs : List (Failure Text ℕ)) → Each (IsWrong (whole old)) [] fs → fs ≡ []
        no_other [] h = refl
        no_other (f ∷ fs) h = absurd h

    -- the first that is wrong is the error
    pub section_wrong : {Other : Y → List (Entry ℕ A (Written A)) → Type 0} {new : StreamView} {fault : ParseFault E} (ws : List Wrong) → single.Each (IsWithin (length old.rest)) (wrong_references rules found) → Each (IsWrong (whole old)) ws (wrong_references rules found)
        → RefusesFirst ws mid fault new → MustMean itself replaced Other (section_at attr marks rules) old (Err fault) new
    section_wrong {new = new} {fault = fault} ws near same h =
        must_refuse alone {see = k.meant} (record { answers = go (wrong_references rules found) refl near ws same h })
      where
        stays : (f : Failure Text ℕ) (w : Wrong) → IsWithin (length old.rest) f → IsWrong (whole old) w f → RefusesAt itself replaced (fault_for w.cause) w.at mid fault new → Commits itself replaced (fault_for f.cause) (upto old.rest f.at) old fault new
        stays f w n i r =
            let place : n.place ≡ i.place = cc (sym n.at ∙ i.at) in
            let left = length old.rest - i.place in
            let all : (old.passed ++ take left old.rest) ++ drop left old.rest ≡ old.passed ++ old.rest = append_assoc old.passed (take left old.rest) (drop left old.rest) ∙ ap (λ z. old.passed ++ z) (take-append-drop left old.rest) in
            let s = takes_same_stream itself replaced alone.view_at alone.at_at old mid all_read.taken mid.rest all_read.takes in
            subst (λ p. Commits itself replaced (fault_for f.cause) (upto old.rest p) old fault new) (sym i.at) (record {
              because = r.because ∙ ap fault_for i.cause;
              committed = r.committed;
              place = r.position (old.passed ++ take left old.rest) (drop left old.rest) (all ∙ set_within alone old mid s) (place_is_there old.passed old.rest w.at i.place (omega (arith, n.near, place)) i.leaves);
              left = same_stream_failed itself replaced alone.view_at alone.at_at old.failed old mid new s r.left;
            })

        go : (fs : List (Failure Text ℕ)) → wrong_references rules found ≡ fs → single.Each (IsWithin (length old.rest)) fs → (ws : List Wrong) → Each (IsWrong (whole old)) ws fs → RefusesFirst ws mid fault new
            → RunsOut itself replaced old fault new ⊎ Refuses itself replaced (demanded (unless_failed old.failed (section_at attr marks rules old.rest))) old fault new
        go [] e n [] i h = absurd h
        go [] e n (w ∷ ws) i h = absurd i
        go (f ∷ fs) e n [] i h = absurd h
        go (f ∷ fs) e n (w ∷ ws) i (inl s) = inl (runs_out_after itself replaced alone.view_at alone.at_at old mid new all_read.taken mid.rest fault all_read.fine all_read.takes s)
        go (f ∷ fs) e n (w ∷ ws) i (inr r) =
            inr (bad_refuses old.failed (section_at attr marks rules old.rest) (fault_for f.cause) (upto old.rest f.at) old new fault all_read.fine (looked_at (f ∷ fs) e) (stays f w n.0 i.0 r))

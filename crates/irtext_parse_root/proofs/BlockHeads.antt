-- Why a block's header is an error if no region is open, and what its parser returns for a text.
use Rattle.std.proofs.Common.{◌≡◌, ◌<◌, ◌≤◌, ◌+◌, ◌∙◌, ◌⊎◌, inl, inr, ℕ, zero, suc, Bool, true, false, cond, List, [], ◌∷◌, ◌++◌, length, map, drop, Option, Some, None, is_some, Result, Ok, Err, codes, refl, sym, ap, ap₂, subst, arith, append-nil, slice_get}
use Rattle.std.specs.Map.{lookup}
use Rattle.irtext_base.specs.Text.{Text, begins, is_identifier}
use Rattle.irtext_base.specs.Reading.{the}
use Rattle.irtext_base.specs.Format.{same_text}
use Rattle.irtext_base.specs.Faults as causes
use Rattle.irtext_base.specs.Faults.{Fault, Failed, Unexpected, Word, fault_of}
use Rattle.irtext_base.specs.Own.{Sincere}
use Rattle.irtext_base.specs.Answers.{Outcome, Read, Missing, Bad, Answers, Gives, RunsOut, Refuses, RunsOutHere, Passes, demanded, prefixed, mapped, followed, unless_failed}
use Rattle.irtext_base.specs.Stream.{StreamView, IsAt, first_of, after_taken, after_failure}
use Rattle.irtext_base.specs.Locations.{AttrView}
use Rattle.irtext_base.specs.declared.base.attributes.AttrObj.{AttrObj}
use Rattle.irtext_base.specs.declared.parsable.fault.ParseFault.{ParseFault}
use Rattle.irtext_base.proofs.Compose.{runs_out_here}
use Rattle.irtext_base.proofs.Sincere.{Of}
use Rattle.irtext_stream.specs.Places.{AtOffset}
use Rattle.irtext_tokens.specs.AttrTexts.{attr_at}
use Rattle.irtext_tokens.specs.Infix.{◌▷◌}
use Rattle.irtext_tokens.specs.Tokens.{word, spelled_at, identifier_at}
use Rattle.irtext_tokens.proofs.Honest.{never_failed}
use Rattle.irtext_parse_state.specs.States.{same_index}
use Rattle.irtext_grammar.specs.Contexts.Held.{whole, attribute_of}
use Rattle.irtext_grammar.specs.Grammar.Tree.{Name, Mark, Attribute, Head}
use Rattle.irtext_grammar.specs.Names.Acts.{key_act, block_may_hold, argument_definitions, mark_acts, entries_if, header_acts, word_of}
use Rattle.irtext_grammar.specs.Names.Scopes.{is_among, failures}
use Rattle.irtext_grammar.specs.Names.Script as script
use Rattle.irtext_grammar.specs.Names.Script.{Act, Failure, define_label, block_at, done, does_all}
use Rattle.irtext_grammar.specs.Promises.Root.{UnlessMemory}
use Rattle.irtext_grammar.specs.Promises.Section.{indices_of}
use Rattle.irtext_grammar.specs.Readers.Refusals.{Refusal}
use Rattle.irtext_grammar.specs.Readers.Streams.{itself, replaced}
use Rattle.irtext_grammar.proofs.Readers.EntryIndices.{refusal}
use Rattle.irtext_grammar.proofs.Readers.FirstMissing.{FirstMissing}
use Rattle.irtext_grammar.proofs.Readers.PlainStream.{alone}
use Rattle.irtext_grammar.specs.Heads.{name_of, label_at, head_at}
use Rattle.irtext_grammar.specs.declared.parsed.Key.{Key}
use Rattle.irtext_parse_pieces.specs.declared.headers.BlockHead.{BlockHead}
use Rattle.irtext_grammar.specs.declared.parsed.ReadMark.{ReadMark}
use Rattle.irtext_grammar.specs.declared.parsed.ReadName.{ReadName}
use Rattle.irtext_parse_pieces.specs.Arguments.{IsArgument}
use Rattle.irtext_grammar.specs.Parsed.{IsEntry, IsMark, IsMarkIf, Represents, Each}
use Rattle.irtext_parse_pieces.specs.Headers.{IsHead}
use Rattle.irtext_parse_pieces.specs.Named.{MayMean, MustMean}
use Rattle.irtext_parse_pieces.proofs.Meanings.{may_whole}
use Rattle.irtext_names.specs.Alone.{FailsOutside, RefusesBlock}
use Rattle.irtext_names.specs.Promises.{outside_with, IsOf, IsFirst}
use Rattle.irtext_names.specs.Gathering.{entries_in}
use Rattle.irtext_parse_nested.specs.Blocks.{IsKeyFault}
use Rattle.irtext_names.specs.Definitions.{IsFaultOf}
use Rattle.irtext_parse_nested.proofs.Faults.{place_is_there, some_same}
use Rattle.irtext_parse_nested.proofs.Headers.{keys_each}
use Rattle.irtext_parse_nested.proofs.Marking.{not_noted, noted_before}
use Rattle.irtext_parse_root.proofs.Failing.{head_honest}
use Rattle.irtext_parse_root.specs.Block.{MissesBlock, no_header, by_header, first_reserved, noted_twice}
use Rattle.irtext_parse_root.proofs.Causes.{no_cause}

-- ---- where the text does not begin with `^`, and where it does
stays_prefixed : {X : Type 0} (t : Text) (o : Outcome X) → demanded (prefixed t o) ≡ prefixed t o
stays_prefixed t (Read x taken rest) = refl
stays_prefixed t (Missing cause) = refl
stays_prefixed t (Bad cause upto) = refl

stays_followed : {X Y : Type 0} (o : Outcome X) (k : X → Text → Outcome Y) → demanded o ≡ o → demanded (followed o k) ≡ followed o k
stays_followed (Read x taken rest) k e = stays_prefixed taken (k x rest)
stays_followed (Missing cause) k e = absurd (cc)
stays_followed (Bad cause upto) k e = refl

stays_mapped : {X Y : Type 0} (f : X → Y) (o : Outcome X) → demanded o ≡ o → demanded (mapped f o) ≡ mapped f o
stays_mapped f (Read x taken rest) e = refl
stays_mapped f (Missing cause) e = absurd (cc)
stays_mapped f (Bad cause upto) e = refl

caret : (text : Text) → begins (the 94) text ≡ true → demanded (word (codes "^") text) ≡ word (codes "^") text
caret [] e = absurd (cc)
caret (c ∷ t) e = subst (λ b. demanded (cond b (prefixed (c ∷ []) (spelled_at (codes "^") [] t)) (Missing (Unexpected (Some c) (Word (codes "^"))))) ≡ cond b (prefixed (c ∷ []) (spelled_at (codes "^") [] t)) (Missing (Unexpected (Some c) (Word (codes "^"))))) (sym e) refl

no_caret : (text : Text) → begins (the 94) text ≡ false → word (codes "^") text ≡ Missing (Unexpected (first_of text) (Word (codes "^")))
no_caret [] e = refl
no_caret (c ∷ t) e = ap (λ b. cond b (prefixed (c ∷ []) (spelled_at (codes "^") [] t)) (Missing (Unexpected (Some c) (Word (codes "^"))))) e

-- an empty header, for when none was parsed
nothing_read : {T A : Type 0} → Head ℕ T A
nothing_read = record { label = record { place = 0; text = [] }; arguments = []; attributes = None; mark = None }

misses_first : {X Y : Type 0} (o : Outcome X) (k : X → Text → Outcome Y) (cause : Fault) → o ≡ Missing cause → followed o k ≡ Missing cause
misses_first o k cause e = ap (λ o. followed o k) e

module _ {T A : Type 0} (types_at : Text → Outcome T) (attr : Text → Outcome (AttrView A)) where
  head_there : (text : Text) → begins (the 94) text ≡ true → demanded (head_at types_at attr text) ≡ head_at types_at attr text
  head_there text e = stays_followed (label_at text) _ (stays_mapped (name_of (length text)) ((word (codes "^") ▷ identifier_at) text) (stays_followed (word (codes "^") text) _ (caret text e)))

  head_missing : (text : Text) → begins (the 94) text ≡ false → head_at types_at attr text ≡ Missing (Unexpected (first_of text) (Word (codes "^")))
  head_missing text e = misses_first (label_at text) _ _ (ap (mapped (name_of (length text))) (misses_first (word (codes "^") text) _ _ (no_caret text e)))

  module _ {Y : Type 0} {Means : Y → Head ℕ T A → Type 0} (old new : StreamView) (fine : old.failed ≡ false) where
    -- if the text begins with `^`, the parser that requires a header returns what the optional one does
    pub begun_mean : (r : Result Y (ParseFault A)) → begins (the 94) old.rest ≡ true → MustMean itself replaced Means (head_at types_at attr) old r new → MayMean itself replaced Means (head_at types_at attr) old r new
    begun_mean r e h =
        let o = head_at types_at attr old.rest in
        let a = subst (λ b. Answers itself replaced h.meant (demanded (unless_failed b o)) old r new) fine h.read.answers in
        record { meant = h.meant; means = h.means; read = record { answers = subst (λ b. Answers itself replaced h.meant (unless_failed b o) old r new) (sym fine) (subst (λ o. Answers itself replaced h.meant o old r new) (head_there old.rest e) a) } }

    unread : (fault : ParseFault A) → RunsOut itself replaced old fault new ⊎ Refuses itself replaced (head_at types_at attr old.rest) old fault new → MayMean {Y = Y} itself replaced Means (head_at types_at attr) old (Err fault) new
    unread fault h = record {
      meant = λ _. nothing_read;
      means = tt;
      read = record { answers = subst (λ b. Answers itself replaced (λ (y : Y). nothing_read) (unless_failed b (head_at types_at attr old.rest)) old (Err fault) new) (sym fine) h };
    }

    -- the text does not begin with `^`
    pub none_begins : (fault : ParseFault A) → begins (the 94) old.rest ≡ false → Passes itself replaced (Unexpected (first_of old.rest) (Word (codes "^"))) old fault new → MayMean {Y = Y} itself replaced Means (head_at types_at attr) old (Err fault) new
    none_begins fault e h = unread fault (inr (subst (λ o. Refuses itself replaced o old fault new) (sym (head_missing old.rest e)) h))

    -- nor is there memory to say so
    pub none_runs_out : (fault : ParseFault A) → RunsOutHere itself replaced old fault new → MayMean {Y = Y} itself replaced Means (head_at types_at attr) old (Err fault) new
    none_runs_out fault h = unread fault (inl (runs_out_here itself replaced alone.view_at alone.at_at alone.at_view old new fault fine h))

-- ---- what is wrong with a header
module _ {A : Type 0} (text : Text) (fault : ParseFault A) where
  -- the first failure after these indices
  abbrev First : List ℕ → List (Act Text ℕ) → Type 0
  First marks acts = IsFirst text (failures same_text (outside_with marks) (does_all acts done)) fault

  -- an entry with this key, and this result of its test
  abbrev KeyWith : Name ℕ → List (Act Text ℕ) → Bool → List ℕ → Type 0
  KeyWith n later b marks = IsFirst text (cond b [] (record { cause = script.ReservedKey n.text; at = Some n.place } ∷ []) ++ failures same_text (outside_with marks) (does_all later done)) fault

  one_key : (marks : List ℕ) (later : List (Act Text ℕ)) (r : Key × AttrObj A) (e : Name ℕ × Attribute A) → IsEntry text r e → (b : Bool) → block_may_hold r.0.name (attribute_of r.1) ≡ b → (b ≡ false → IsKeyFault text r.0 fault) → (b ≡ true → First marks later)
      → First marks (key_act block_may_hold e ∷ later)
  one_key marks later r e i true is bad good =
      subst (λ b. KeyWith e.0 later b (marks ++ [])) (sym (ap₂ block_may_hold (sym i.0.named) (sym i.1) ∙ is)) (subst (λ ms. KeyWith e.0 later true ms) (sym (append-nil marks)) (good refl))
  one_key marks later r e i false is bad good =
      let k = bad refl in
      subst (λ b. KeyWith e.0 later b (marks ++ [])) (sym (ap₂ block_may_hold (sym i.0.named) (sym i.1) ∙ is)) (k.because ∙ ap causes.ReservedKey i.0.named, place_is_there i.0.place k.place)

  -- a key that is reserved, or the first failure after the keys
  keys_first : (marks : List ℕ) (more : List (Act Text ℕ)) (rs : List (Key × AttrObj A)) (es : List (Name ℕ × Attribute A)) → Each (IsEntry text) rs es → ((key : Key) → first_reserved rs ≡ Some key → IsKeyFault text key fault)
      → (first_reserved rs ≡ None → First marks more) → First marks (map (key_act block_may_hold) es ++ more)
  keys_first marks more [] [] i some none = none refl
  keys_first marks more [] (e ∷ es) i some none = absurd i
  keys_first marks more (r ∷ rs) [] i some none = absurd i
  keys_first marks more (r ∷ rs) (e ∷ es) i some none =
      one_key marks (map (key_act block_may_hold) es ++ more) r e i.0 (block_may_hold r.0.name (attribute_of r.1)) refl
      (λ bad. some r.0 (ap (λ b. cond b (first_reserved rs) (Some r.0)) bad))
      (λ good. let shown : first_reserved (r ∷ rs) ≡ first_reserved rs = ap (λ b. cond b (first_reserved rs) (Some r.0)) good in keys_first marks more rs es i.1 (λ key f. some key (shown ∙ f)) (λ f. none (shown ∙ f)))

  -- a name outside of every scope
  outside_is : (names : List Text) (read : ReadName) (w : Name ℕ) → Represents names text read w → IsFaultOf names text causes.NoActiveScope read fault → IsOf text (record { cause = script.NoActiveScope w.text; at = Some w.place }) fault
  outside_is names read w s f = (f.because ∙ ap causes.NoActiveScope (some_same (sym f.named ∙ s.named)), place_is_there s.place f.place)

  -- the fault says that the mark's index is recorded already
  abbrev SaysTwice : ReadMark → Type 0
  SaysTwice k = (fault_of fault.cause ≡ causes.DuplicateIndex k.index) × AtOffset k.at.offset text (λ passed rest. IsAt fault.pos.line fault.pos.column passed)

  -- a mark, whose index is recorded already or not
  abbrev MarkWith : Mark ℕ → List (Act Text ℕ) → List ℕ → Bool → Type 0
  MarkWith m more marks b = IsFirst text (cond b (record { cause = script.DuplicateIndex m.index; at = Some m.place } ∷ []) [] ++ failures same_text (outside_with (marks ++ m.index ∷ [])) (does_all more done)) fault

  one_mark : {X : Type 0} (noted : List (ℕ × X)) (more : List (Act Text ℕ)) (r : ReadMark) (m : Mark ℕ) → IsMark text r m → (o : Option X) → lookup (same_index r.index) noted ≡ o → (is_some o ≡ true → SaysTwice r)
      → (is_some o ≡ false → (marks : List ℕ) → First marks more) → MarkWith m more (indices_of noted) (is_among m.index (indices_of noted))
  one_mark noted more r m i None e some none =
      subst (MarkWith m more (indices_of noted)) (sym (not_noted m.index noted (subst (λ j. lookup (same_index j) noted ≡ None) i.indexed e))) (none refl (indices_of noted ++ m.index ∷ []))
  one_mark noted more r m i (Some y) e some none =
      let k = some refl in
      let there : lookup (same_index m.index) noted ≡ Some y = subst (λ j. lookup (same_index j) noted ≡ Some y) i.indexed e in
      subst (MarkWith m more (indices_of noted)) (sym (noted_before m.index noted (λ f. cc (f, there)))) (k.0 ∙ ap causes.DuplicateIndex i.indexed, place_is_there i.place k.1)

  -- a mark whose index is already recorded, or the first failure after it
  mark_first : {X : Type 0} (noted : List (ℕ × X)) (more : List (Act Text ℕ)) (read : Option ReadMark) (m : Option (Mark ℕ)) → IsMarkIf text read m → ((k : ReadMark) → noted_twice read noted ≡ Some k → SaysTwice k)
      → (noted_twice read noted ≡ None → (marks : List ℕ) → First marks more) → First (indices_of noted) (mark_acts m ++ more)
  mark_first noted more None None i some none = none refl (indices_of noted)
  mark_first noted more None (Some m) i some none = absurd i
  mark_first noted more (Some r) None i some none = absurd i
  mark_first noted more (Some r) (Some m) i some none =
      one_mark noted more r m i (lookup (same_index r.index) noted) refl (λ f. some r (ap (λ b. cond b (Some r) None) f)) (λ f. none (ap (λ b. cond b (Some r) None) f))

  module _ {T : Type 0} (names : List Text) (read : BlockHead T A) (head : Head ℕ T A) (is : IsHead names text read head) where
    -- the acts after the keys, and after the arguments
    abbrev late : List (Act Text ℕ)
    late = mark_acts head.mark ++ define_label (word_of head.label) (block_at []) ∷ []

    abbrev keyed : List ℕ → Type 0
    keyed marks = First marks (header_acts [] head)

    -- a key is reserved
    pub key_outside : (marks : List ℕ) (key : Key) → Some key ≡ first_reserved (entries_in read.attributes) → IsKeyFault text key fault → keyed marks
    key_outside marks key e k =
        keys_first marks (argument_definitions [] 0 head.arguments ++ late) (entries_in read.attributes) (entries_if head.attributes) (keys_each text read.attributes head.attributes is.attributes)
        (λ q f. subst (λ z. IsKeyFault text z fault) (some_same (e ∙ f)) k) (λ f. let g = e ∙ f in absurd (cc))

    allowed : (marks : List ℕ) → None ≡ first_reserved (entries_in read.attributes) → First marks (argument_definitions [] 0 head.arguments ++ late) → keyed marks
    allowed marks e h =
        keys_first marks (argument_definitions [] 0 head.arguments ++ late) (entries_in read.attributes) (entries_if head.attributes) (keys_each text read.attributes head.attributes is.attributes)
        (λ q f. let g = e ∙ f in absurd (cc)) (λ f. h)

    argument_first : (marks : List ℕ) (rs : List (ReadName × T)) (hs : List (Name ℕ × T)) (first : ReadName × T) → Each (IsArgument names text) rs hs → slice_get rs 0 ≡ Some first → IsFaultOf names text causes.NoActiveScope first.0 fault
        → First marks (argument_definitions [] 0 hs ++ late)
    argument_first marks [] hs first i e f = absurd (cc)
    argument_first marks (r ∷ rs) [] first i e f = absurd i
    argument_first marks (r ∷ rs) (h ∷ hs) first i e f = outside_is names r.0 h.0 i.0.0 (subst (λ z. IsFaultOf names text causes.NoActiveScope z.0 fault) (sym (some_same e)) f)

    -- an argument is there
    pub argument_outside : (marks : List ℕ) (first : ReadName × T) → None ≡ first_reserved (entries_in read.attributes) → slice_get read.arguments 0 ≡ Some first → IsFaultOf names text causes.NoActiveScope first.0 fault → keyed marks
    argument_outside marks first e there f = allowed marks e (argument_first marks read.arguments head.arguments first is.arguments there f)

    bare : (marks : List ℕ) (rs : List (ReadName × T)) (hs : List (Name ℕ × T)) → Each (IsArgument names text) rs hs → length rs ≡ 0 → First marks late → First marks (argument_definitions [] 0 hs ++ late)
    bare marks [] [] i e h = h
    bare marks [] (x ∷ hs) i e h = absurd i
    bare marks (r ∷ rs) hs i e h = absurd (omega (arith, e))

    module _ {X : Type 0} (noted : List (ℕ × X)) (none : None ≡ first_reserved (entries_in read.attributes)) (no_arguments : length read.arguments ≡ 0) where
      -- the mark's index is recorded already
      pub mark_outside : (k : ReadMark) → Some k ≡ noted_twice read.mark noted → SaysTwice k → keyed (indices_of noted)
      mark_outside k e says =
          allowed (indices_of noted) none (bare (indices_of noted) read.arguments head.arguments is.arguments no_arguments
          (mark_first noted (define_label (word_of head.label) (block_at []) ∷ []) read.mark head.mark is.mark
          (λ q f. subst SaysTwice (some_same (e ∙ f)) says) (λ f marks. let g = e ∙ f in absurd (cc))))

      -- nothing is there but the label
      pub label_outside : None ≡ noted_twice read.mark noted → IsFaultOf names text causes.NoActiveScope read.label fault → keyed (indices_of noted)
      label_outside e f =
          allowed (indices_of noted) none (bare (indices_of noted) read.arguments head.arguments is.arguments no_arguments
          (mark_first noted (define_label (word_of head.label) (block_at []) ∷ []) read.mark head.mark is.mark
          (λ q g. let h = e ∙ g in absurd (cc)) (λ g marks. outside_is names read.label head.label is.label f)))

-- ---- the entries of a dictionary, one after another
module _ {A : Type 0} where
  entry_passes : (es : List (Key × AttrObj A)) (i : ℕ) (e : Key × AttrObj A) → slice_get es i ≡ Some e → block_may_hold e.0.name (attribute_of e.1) ≡ true → first_reserved (drop i es) ≡ first_reserved (drop (suc i) es)
  entry_passes [] i e g h = absurd (cc)
  entry_passes (x ∷ es) zero e g h = ap (λ b. cond b (first_reserved es) (Some x.0)) (subst (λ (z : Key × AttrObj A). block_may_hold z.0.name (attribute_of z.1) ≡ true) (sym (some_same g)) h)
  entry_passes (x ∷ es) (suc i) e g h = entry_passes es i e g h

  -- an entry that is allowed is passed
  pub passes_entry : (es : List (Key × AttrObj A)) (i : ℕ) (e : Key × AttrObj A) → slice_get es i ≡ Some e → block_may_hold e.0.name (attribute_of e.1) ≡ true → first_reserved (drop (i + 1) es) ≡ first_reserved (drop i es)
  passes_entry es i e g h = let same : suc i ≡ i + 1 = omega arith in subst (λ k. first_reserved (drop k es) ≡ first_reserved (drop i es)) same (sym (entry_passes es i e g h))

  -- one that may not is the first
  pub stops_entry : (es : List (Key × AttrObj A)) (i : ℕ) (e : Key × AttrObj A) → slice_get es i ≡ Some e → block_may_hold e.0.name (attribute_of e.1) ≡ false → first_reserved (drop i es) ≡ Some e.0
  stops_entry [] i e g h = absurd (cc)
  stops_entry (x ∷ es) zero e g h =
      ap (λ b. cond b (first_reserved es) (Some x.0)) (subst (λ (z : Key × AttrObj A). block_may_hold z.0.name (attribute_of z.1) ≡ false) (sym (some_same g)) h) ∙ ap (λ (z : Key × AttrObj A). Some z.0) (some_same g)
  stops_entry (x ∷ es) (suc i) e g h = stops_entry es i e g h

  -- after the last one none is left
  pub none_left : (es : List (Key × AttrObj A)) (i : ℕ) → length es ≤ i → first_reserved (drop i es) ≡ None
  none_left [] zero l = refl
  none_left [] (suc i) l = refl
  none_left (x ∷ es) zero l = absurd (omega (arith, l))
  none_left (x ∷ es) (suc i) l = none_left es i (omega (arith, l))

-- ---- what is parsed
-- a name that has a text is one of these
pub named_within : (names : List Text) (i : ℕ) (t : Text) → slice_get names i ≡ Some t → i < length names
named_within [] i t e = absurd (cc)
named_within (n ∷ names) zero t e = omega arith
named_within (n ∷ names) (suc i) t e = let l = named_within names i t e in omega (arith, l)

-- an argument's name is one of these
pub argument_within : {T : Type 0} (names : List Text) (text : Text) (rs : List (ReadName × T)) (hs : List (Name ℕ × T)) (first : ReadName × T) → Each (IsArgument names text) rs hs → slice_get rs 0 ≡ Some first → first.0.name < length names
argument_within names text [] hs first i e = absurd (cc)
argument_within names text (r ∷ rs) [] first i e = absurd i
argument_within names text (r ∷ rs) (h ∷ hs) first i e = subst (λ z. z.0.name < length names) (some_same e) (named_within names r.0.name h.0.text i.0.0.named)

-- where there are no names, all names are identifiers
pub no_words : {names : List Text} → names ≡ [] → (i : ℕ) (t : Text) → slice_get names i ≡ Some t → is_identifier t ≡ true
no_words e i t f = let g = subst (λ ns. slice_get ns i ≡ Some t) e f in absurd (cc)

module _ {T A : Type 0} (types_at : Text → Outcome T) (attr : Text → Outcome (AttrView A)) (names : List Text) (old : StreamView) (fine : old.failed ≡ false) where
  -- a header was parsed: the text begins with it, and the stream is after it
  pub record HeadRead (read : BlockHead T A) (new : StreamView) : Type 0 where
    pub head : Head ℕ T A
    pub taken : Text
    pub rest : Text
    pub there : head_at types_at attr old.rest ≡ Read head taken rest
    pub is : IsHead names (whole new) read head
    pub same : whole new ≡ whole old
    pub left : new ≡ after_taken old taken rest

  pub head_read : (read : BlockHead T A) (new : StreamView) → MayMean {A = A} itself replaced (IsHead names (whole old)) (head_at types_at attr) old (Ok read) new → HeadRead read new
  head_read read new m = go (head_at types_at attr old.rest) refl (subst (λ b. Gives itself replaced (unless_failed b (head_at types_at attr old.rest)) old (m.meant read) new) fine m.read.answers)
    where
      same : whole new ≡ whole old
      same = may_whole alone m.read

      go : (o : Outcome (Head ℕ T A)) → head_at types_at attr old.rest ≡ o → Gives itself replaced o old (m.meant read) new → HeadRead read new
      go (Read h taken rest) e g = record {
        head = m.meant read;
        taken = taken;
        rest = rest;
        there = e ∙ ap (λ x. Read x taken rest) (sym g.0);
        is = subst (λ t. IsHead names t read (m.meant read)) (sym same) m.means;
        same = same;
        left = g.1.is;
      }
      go (Missing cause) e g = absurd g
      go (Bad cause upto) e g = absurd g

-- ---- what an error says
first_fine : {A : Type 0} (text : Text) (fs : List (Failure Text ℕ)) (fault : ParseFault A) → IsFirst text fs fault → fault_of fault.cause ≡ Failed → ⊥
first_fine text [] fault h e = h
first_fine text (f ∷ fs) fault h e = no_cause f.cause (fault_of fault.cause) h.0 e

first_missing : {X : Type 0} {text : Text} (o : Outcome X) → Of text o → FirstMissing o
first_missing (Read x taken rest) h = record { says = tt }
first_missing (Missing cause) h = record { says = h.says }
first_missing (Bad cause upto) h = record { says = tt }

module _ {T A : Type 0} (types_at : Text → Outcome T) (attr : Text → Outcome (AttrView A)) (old new : StreamView) (fault : ParseFault A) where
  -- the header is not parsed
  pub unread_missed : {Y : Type 0} {Means : Y → Head ℕ T A → Type 0} (marks : List ℕ) → old.failed ≡ false → MayMean {Y = Y} itself replaced Means (head_at types_at attr) old (Err fault) new → UnlessMemory (MissesBlock types_at attr marks old new) fault
  unread_missed marks fine m = elim (subst (λ b. RunsOut itself replaced old fault new ⊎ Refuses itself replaced (unless_failed b (head_at types_at attr old.rest)) old fault new) fine m.read.answers) [
    | inl s ↦ inl (record { because = s.because; flag = s.committed })
    | inr r ↦ inr (no_header r)
  ]

  -- it is parsed, and its names are an error
  module _ (names : List Text) (fine : old.failed ≡ false) (read : BlockHead T A) (mid : StreamView) (h : HeadRead types_at attr names old fine read mid) (fails : new ≡ after_failure mid) (marks : List ℕ)
      (said : UnlessMemory (FailsOutside marks (whole mid) h.head) fault) where
    pub read_missed : UnlessMemory (MissesBlock types_at attr marks old new) fault
    read_missed = elim said [
      | inl ran_out ↦ inl ran_out
      | inr f ↦ inr (by_header h.head h.taken h.rest h.there (fails ∙ ap after_failure h.left) (subst (λ t. FailsOutside marks t h.head fault) h.same f))
    ]

    committed : fault.committed ≡ true
    committed = elim said [ inl ran_out ↦ ran_out.flag | inr f ↦ f.flag ]

    pub read_refusal : Refusal old fault new
    read_refusal = record {
      committed = λ e. ap (λ v. v.failed) fails;
      uncommitted = λ e. absurd (cc (committed, e));
      first = λ e. absurd (cc (committed, e));
      failed = λ e. absurd (elim said [ inl ran_out ↦ cc (ran_out.because, e) | inr f ↦ first_fine (whole mid) (failures same_text (outside_with marks) (does_all (header_acts [] h.head) done)) fault f.first e ]);
    }

  -- if no mark was recorded, that is what is promised on a fresh state
  pub misses_fresh : (marks : List ℕ) → marks ≡ [] → UnlessMemory (MissesBlock types_at attr marks old new) fault → UnlessMemory (RefusesBlock types_at attr old) fault
  misses_fresh marks none (inl ran_out) = inl ran_out
  misses_fresh marks none (inr (no_header r)) = inr (record { fails = λ head taken rest e. absurd (subst (λ o. Refuses itself replaced o old fault new) e r) })
  misses_fresh marks none (inr (by_header h t r e n f)) =
      inr (record {
        fails = λ head taken rest g.
            let same : h ≡ head = cc (e, g) in
            subst (λ z. FailsOutside [] (whole old) z fault) same (subst (λ ms. FailsOutside ms (whole old) h fault) none f);
      })

-- the fault of a header that is not parsed, where types and attributes say of a text what is of it
pub unread_refusal : {T A Y : Type 0} {Means : Y → Head ℕ T A → Type 0} (types_at : Text → Outcome T) (reading : Text → Outcome A) → Sincere types_at → Sincere reading → {old new : StreamView} {fault : ParseFault A}
    → MayMean {Y = Y} itself replaced Means (head_at types_at (attr_at reading)) old (Err fault) new → Refusal old fault new
unread_refusal types_at reading sincere_types sincere m =
    let honest = head_honest types_at reading sincere_types sincere in
    refusal (λ text. never_failed honest text) (λ text. first_missing (head_at types_at (attr_at reading) text) (honest.of text)) m.read

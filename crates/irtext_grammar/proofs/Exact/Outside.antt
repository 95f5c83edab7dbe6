-- Outside of each region no name may be used, and an attribute has to be allowed under its key: there the parsers return what the grammar
-- parses, up to the first such name or key.
use Rattle.std.proofs.Common.{◌≡◌, ◌∙◌, inl, inr, ℕ, suc, Bool, true, false, cond, List, [], ◌∷◌, ◌++◌, map, length, Option, Some, codes, refl, sym, ap, subst, true≢false}
use Rattle.std.proofs.lemmas.List.{map-id}
use Rattle.std.specs.Prelude.{flat_map}
use Rattle.std.specs.List.{list_all}
use Rattle.irtext_base.specs.Text.{Text}
use Rattle.irtext_base.specs.Faults.{Fault, ReservedKey}
use Rattle.irtext_base.specs.Format as format
use Rattle.irtext_base.specs.Format.{Id, Format}
use Rattle.irtext_base.specs.Answers.{Outcome, Read, Missing, Bad, mapped, followed}
use Rattle.irtext_base.specs.Locations.{AttrView}
use Rattle.irtext_base.specs.Own.{Language, language, texts_of}
use Rattle.irtext_tokens.specs.Infix.{Reader}
use Rattle.irtext_tokens.specs.AttrTexts.{attr_at}
use Rattle.irtext_tokens.specs.ListOutcomes.{items_after, or_empty, separated_at}
use Rattle.irtext_tokens.specs.Tokens.{space_at, word}
use Rattle.irtext_grammar.specs.Grammar.Reads as reads
use Rattle.irtext_grammar.specs.Grammar.Tree as tree
use Rattle.irtext_grammar.specs.Grammar.Tree.{Name, Attribute, Piece}
use Rattle.irtext_grammar.specs.Names.Acts.{may_hold, key_act, value_uses, label_uses, piece_acts}
use Rattle.irtext_grammar.specs.Names.Scopes.{no_scope}
use Rattle.irtext_grammar.specs.Names.Script as script
use Rattle.irtext_grammar.specs.Names.Script.{Path}
use Rattle.irtext_grammar.specs.Names.TextScopes.{Act, Failure, act_failures}
use Rattle.irtext_grammar.proofs.Graphs.FitsFormat.{and_left, and_right}
use Rattle.irtext_grammar.proofs.Joins.Answers.{Splits, followed_read, mapped_read}
use Rattle.irtext_grammar.proofs.Joins.Brackets.{bracketed_read, bracketed_found, stop_fails}
use Rattle.irtext_grammar.proofs.Joins.Lists.{Items, Stop}
use Rattle.irtext_grammar.proofs.Joins.Tokens.{text-literal}
use Rattle.irtext_grammar.specs.Agrees.{StopsAt, ReadOrStops}
use Rattle.irtext_grammar.specs.Exact.{NeedsWord, IsOfStep, step_piece}
use Rattle.irtext_grammar.specs.Heads.{Step, flat, types, one, all, name_at, outside, used_at, target_at, allowed, pair_at, dictionary_by, piece_at, setting}
use Rattle.irtext_grammar.proofs.Exact.Attributes.{exact_pair, starts_pair, exact_dictionary}
use Rattle.irtext_grammar.proofs.Exact.Listed.{Starts, starts_so, starts_word, none_listed}
use Rattle.irtext_grammar.proofs.Exact.Names.{exact_name, starts_name, starts_target}
use Rattle.irtext_grammar.proofs.Exact.Pieces.{exact_piece, piece_read, is_made, is_types}
use Rattle.irtext_grammar.proofs.Stops.{stops_before, stops_after, stops_second, stops_seen}

-- ---- names
outside_never : (o : Outcome (Name ℕ)) (n : Name ℕ) (taken rest : Text) → outside o ≡ Read n taken rest → ⊥
outside_never (Read m a r) n taken rest e = cc e
outside_never (Missing cause) n taken rest e = cc e
outside_never (Bad cause upto) n taken rest e = cc e

-- a name is never parsed where it may not be used
pub used_never : (text : Text) (n : Name ℕ) (taken rest : Text) → used_at false text ≡ Read n taken rest → ⊥
used_never text n taken rest e = outside_never (name_at text) n taken rest e

-- nor is a label
pub target_never : (text : Text) (n : Name ℕ) (taken rest : Text) → target_at false text ≡ Read n taken rest → ⊥
target_never text n taken rest e =
    let a = followed_read (word (94 ∷ []) text) (λ _ t. used_at false t) n taken rest e in
    used_never a.middle n a.more rest a.second

outside_missing : (o : Outcome (Name ℕ)) (cause : Fault) → outside o ≡ Missing cause → o ≡ Missing cause
outside_missing (Read n a r) cause e = absurd (cc e)
outside_missing (Missing c) cause e = let f : c ≡ cause = cc e in ap (λ c. Missing c) f
outside_missing (Bad c upto) cause e = absurd (cc e)

-- where no name may be used, a name is missing where no word begins
starts_outside : Starts (used_at false) reads.no_word
starts_outside = record {
  misses = λ text cause e. starts_name.misses text cause (outside_missing (name_at text) cause e);
  missed = λ text n. let m = starts_name.missed text n in (m.0, ap outside m.1);
}

starts_no_target : Starts (target_at false) reads.no_label
starts_no_target = starts_so (λ _. used_at false) (starts_word 94 [])

-- ---- lists
-- a list of items that are never parsed is empty
module _ {X : Type 0} {item : Reader X} {none : Text → Type 0} (separator : ℕ) (starts : Starts item none) (never : (text : Text) (x : X) (taken rest : Text) → item text ≡ Read x taken rest → ⊥) where
  -- an empty list, of which nothing was taken
  pub empty_read : (text : Text) (xs : List X) (taken rest : Text) → separated_at separator item text ≡ Read xs taken rest → (xs ≡ []) × (taken ≡ []) × none text × (rest ≡ text)
  empty_read text xs taken rest e = go (item text) refl e
    where
      go : (o : Outcome X) → item text ≡ o → or_empty (followed (followed o (λ x t. mapped (λ _. x ∷ []) (space_at t))) (λ found t. items_after separator item (length t) found t)) text ≡ Read xs taken rest
          → (xs ≡ []) × (taken ≡ []) × none text × (rest ≡ text)
      go (Read x a r) f e = absurd (never text x a r f)
      go (Missing cause) f e = (sym (cc e), sym (cc e), starts.misses text cause f, sym (cc e))
      go (Bad cause upto) f e = absurd (cc e)

-- an empty list, of which no item may be used, is read where its items may be used too
empty_either_way : {P : Type 0} {none : Text → Type 0} {never_used used : Reader (Name ℕ)} (see : List (Name ℕ) → P) → Starts never_used none → Starts used none
    → ((text : Text) (n : Name ℕ) (taken rest : Text) → never_used text ≡ Read n taken rest → ⊥) → (text : Text) (p : P) (taken rest : Text) → mapped see (separated_at 44 never_used text) ≡ Read p taken rest
    → ((more : Text) × (mapped see (separated_at 44 used text) ≡ Read p more rest)) × (taken ++ rest ≡ text)
empty_either_way {never_used = never_used} see starts starts_used never text p taken rest e =
    let m = mapped_read see (separated_at 44 never_used text) p taken rest e in
    let k = empty_read 44 starts never text m.0 taken rest m.1 in
    let is : see [] ≡ p = ap see (sym k.0) ∙ m.2 in
    (([], ap (mapped see) (none_listed 44 starts_used text k.2) ∙ (ap (λ p. Read p [] text) is ∙ ap (Read p []) (sym k.3))), ap (λ t. t ++ rest) k.1 ∙ k.3)

-- ---- keys
module _ {A : Type 0} where
  -- the attribute is allowed under its key
  abbrev holds : Name ℕ × Attribute A → Bool
  holds e = may_hold e.0.text e.1

  -- an entry that parses is one whose attribute is allowed
  allowed_read : (o : Outcome (Name ℕ × Attribute A)) (e : Name ℕ × Attribute A) (taken rest : Text) → allowed o ≡ Read e taken rest → (o ≡ Read e taken rest) × (holds e ≡ true)
  allowed_read (Read q a r) p taken rest e = go (holds q) refl e
    where
      go : (b : Bool) → holds q ≡ b → cond b (Read q a r) (Bad (ReservedKey q.0.text) []) ≡ Read p taken rest → (Read q a r ≡ Read p taken rest) × (holds p ≡ true)
      go true f e = (e, let g : q ≡ p = cc e in ap holds (sym g) ∙ f)
      go false f e = absurd (cc e)
  allowed_read (Missing cause) p taken rest e = absurd (cc e)
  allowed_read (Bad cause upto) p taken rest e = absurd (cc e)

  allowed_missing : (o : Outcome (Name ℕ × Attribute A)) (cause : Fault) → allowed o ≡ Missing cause → o ≡ Missing cause
  allowed_missing (Read q a r) cause e = go (holds q) e
    where
      go : (b : Bool) → cond b (Read q a r) (Bad (ReservedKey q.0.text) []) ≡ Missing cause → Read q a r ≡ Missing cause
      go true e = e
      go false e = absurd (cc e)
  allowed_missing (Missing c) cause e = e
  allowed_missing (Bad c upto) cause e = absurd (cc e)

-- ---- failures
-- the failures of acts where no scope is open
abbrev pub fails_outside : List Act → List Failure
fails_outside acts = flat_map (act_failures no_scope) acts

module _ {A : Type 0} where
  -- entries that are all allowed have no failures
  fine_entries : (es : List (Name ℕ × Attribute A)) → list_all holds es ≡ true → fails_outside (map (key_act may_hold) es) ≡ []
  fine_entries [] h = refl
  fine_entries (e ∷ es) h = let f : holds e ≡ true = and_left (holds e) (list_all holds es) h in rw f (fine_entries es (and_right (holds e) (list_all holds es) h))

  -- after entries that are allowed, the first other one is the first failure
  first_wrong : (before following : List (Name ℕ × Attribute A)) (e : Name ℕ × Attribute A) → list_all holds before ≡ true → holds e ≡ false
      → fails_outside (map (key_act may_hold) (before ++ e ∷ following)) ≡ record { cause = script.ReservedKey e.0.text; at = Some e.0.place } ∷ fails_outside (map (key_act may_hold) following)
  first_wrong [] following e h f = rw f refl
  first_wrong (b ∷ before) following e h f =
      let g : holds b ≡ true = and_left (holds b) (list_all holds before) h in
      rw g (first_wrong before following e (and_right (holds b) (list_all holds before) h) f)

-- the failures of the keys of a piece
abbrev pub key_failures : {T A : Type 0} → Piece ℕ T A → List Failure
key_failures (tree.dictionary es) = fails_outside (map (key_act may_hold) es)
key_failures _ = []

abbrev is_dictionary : Step → Bool
is_dictionary (flat format.dictionary) = true
is_dictionary _ = false

other_piece : {T A : Type 0} (step : Step) (p : Piece ℕ T A) → IsOfStep step p → is_dictionary step ≡ false → key_failures p ≡ []
other_piece (flat d) (tree.dictionary es) is n = let f : format.dictionary ≡ d = cc is in absurd (true≢false (subst (λ d. is_dictionary (flat d) ≡ false) (sym f) n))
other_piece types (tree.dictionary es) is n = absurd is
other_piece (one i) (tree.dictionary es) is n = absurd is
other_piece all (tree.dictionary es) is n = absurd is
other_piece step p is n = refl

-- what is seen of a text that is read or stops
seen_outside : {X Y : Type 0} (see : X → Y) {text : Text} {o : Outcome X} {x : X} {rest : Text} {fs : List Failure} → ReadOrStops text o x rest fs → ReadOrStops text (mapped see o) (see x) rest fs
seen_outside see (inl (none, (taken, e))) = inl (none, (taken, ap (mapped see) e))
seen_outside see (inr s) = inr (stops_seen see s)

module _ {T A : Type 0} (types_at : Text → Outcome T) (types_written : T → Text) (reading : Text → Outcome A) (written : A → Text) (formats : Id → Option Format)
    (types_split : Splits types_at) (splits : Splits reading) where
  abbrev l : Language ℕ T A
  l = language (texts_of types_at types_written) (texts_of reading written) formats

  abbrev attr : Text → Outcome (AttrView A)
  attr = attr_at reading

  -- ---- dictionaries
  -- entries, as the joins of lists take them
  abbrev entries_of : Items (Name ℕ × Attribute A) (Name ℕ × Attribute A)
  entries_of = record {
    item = λ t. allowed (pair_at attr t);
    reading = reads.entry l;
    missing = reads.no_word;
    see = λ e. e;
    allowed = holds;
    wrong = λ e. ReservedKey e.0.text;
    splits = λ text p taken rest e. ((exact_pair (texts_of types_at types_written) reading written formats splits).read text p taken rest (allowed_read (pair_at attr text) p taken rest e).0).1;
    reads = λ text p taken rest e.
        let k = allowed_read (pair_at attr text) p taken rest e in
        record { item = p; read = ((exact_pair (texts_of types_at types_written) reading written formats splits).read text p taken rest k.0).0; sees = refl; fine = k.1 };
    misses = λ text cause e. (starts_pair (texts_of types_at types_written) reading written formats splits).misses text cause (allowed_missing (pair_at attr text) cause e);
    found = λ p text rest r f. let a = (exact_pair (texts_of types_at types_written) reading written formats splits).found text p rest r in (a.0, ap allowed a.1 ∙ rw f refl);
    refused = λ p text rest r f. ap allowed ((exact_pair (texts_of types_at types_written) reading written formats splits).found text p rest r).1 ∙ rw f refl;
    missed = λ text n. let m = (starts_pair (texts_of types_at types_written) reading written formats splits).missed text n in (m.0, ap allowed m.1);
  }

  -- a dictionary that is accepted the grammar parses
  pub dictionary_read : (text : Text) (es : List (Name ℕ × Attribute A)) (taken rest : Text) → dictionary_by attr false text ≡ Read es taken rest → reads.dictionary l es text rest × (taken ++ rest ≡ text)
  unfolding dictionary_by
  dictionary_read text es taken rest e = let b = bracketed_read entries_of map-id text es taken rest e in (b.0, b.1)

  -- if the list stops at an entry, its key is the first failure
  list_stops : (es : List (Name ℕ × Attribute A)) (text : Text) (o : Outcome (List (Name ℕ × Attribute A))) → Stop 44 entries_of es text o → StopsAt text o (fails_outside (map (key_act may_hold) es))
  list_stops es text o k = stop_fails entries_of es text o k (record { cause = script.ReservedKey k.at.item.0.text; at = Some k.at.item.0.place }) (fails_outside (map (key_act may_hold) k.following)) (fails_outside (map (key_act may_hold) es))
      (ap (λ es. fails_outside (map (key_act may_hold) es)) k.whole ∙ first_wrong k.before k.following k.at.item k.fine k.at.wrong) (ap Some k.at.read.1.0) refl

  -- a dictionary that the grammar parses is accepted, up to the first key under which its attribute is not allowed
  dictionary_found : (text : Text) (es : List (Name ℕ × Attribute A)) (rest : Text) → reads.dictionary l es text rest → ReadOrStops text (dictionary_by attr false text) es rest (fails_outside (map (key_act may_hold) es))
  unfolding dictionary_by
  dictionary_found text es rest h = bracketed_found entries_of map-id text es rest h (fails_outside (map (key_act may_hold) es)) (fine_entries es) (list_stops es)

  -- ---- names that are used
  -- a name is bad at its beginning, since no scope is open
  stops_at_name : (fs : List Failure) (n : Name ℕ) (text rest : Text) → fs ≡ record { cause = script.NoActiveScope n.text; at = Some n.place } ∷ [] → reads.name l n text rest → StopsAt text (used_at false text) fs
  stops_at_name fs n text rest is r = record {
    first = record { cause = script.NoActiveScope n.text; at = Some n.place };
    others = [];
    is = is;
    upto = [];
    stop = text;
    splits = refl;
    at = ap Some r.0;
    bad = ap outside ((exact_name (texts_of types_at types_written) (texts_of reading written) formats).found text n rest r).1;
  }

  name_stops : (u : script.User) (n : Name ℕ) (text rest : Text) → reads.name l n text rest → StopsAt text (used_at false text) (fails_outside (script.use_value (record { name = n.text; at = n.place }) u ∷ []))
  name_stops u n text rest r = stops_at_name (fails_outside (script.use_value (record { name = n.text; at = n.place }) u ∷ [])) n text rest refl r

  -- a label is bad after its `^`
  target_stops : (u : script.User) (n : Name ℕ) (text rest : Text) → reads.target l n text rest → StopsAt text (target_at false text) (fails_outside (script.use_label (record { name = n.text; at = n.place }) u ∷ []))
  target_stops u n text rest (m, a, r) = stops_second (λ _ t. used_at false t) (word (codes "^") text) tt (codes "^") m text (text-literal (codes "^") text m a) (sym a)
      (stops_at_name (fails_outside (script.use_label (record { name = n.text; at = n.place }) u ∷ [])) n m rest refl r)

  -- a list is bad where its first item is
  list_is_bad : (item : Reader (Name ℕ)) (text : Text) (fs first others : List Failure) → fs ≡ first ++ others → StopsAt text (item text) first → StopsAt text (separated_at 44 item text) fs
  list_is_bad item text fs first others e s =
      stops_after [] text text refl (λ cause upto b. ap (λ o. or_empty (followed (followed o (λ x t. mapped (λ _. x ∷ []) (space_at t))) (λ found t. items_after 44 item (length t) found t)) text) b)
      (stops_before first others fs e s)

  -- values that are used
  operands_outside : (path : Path) (j : ℕ) (ns : List (Name ℕ)) (text rest : Text) → reads.piece l (tree.operands ns) text rest → ReadOrStops text (separated_at 44 (used_at false) text) ns rest (fails_outside (value_uses path j ns))
  operands_outside path j [] text rest (none, same) = inl (refl, ([], none_listed 44 starts_outside text none ∙ ap (Read [] []) (sym same)))
  operands_outside path j (n ∷ ns) text rest (m, q, z) = inr (list_is_bad (used_at false) text (fails_outside (value_uses path j (n ∷ ns)))
      (fails_outside (script.use_value (record { name = n.text; at = n.place }) (script.operand path j) ∷ [])) (fails_outside (value_uses path (suc j) ns)) refl (name_stops (script.operand path j) n text m q))

  -- labels that are used
  successors_outside : (path : Path) (k : ℕ) (ns : List (Name ℕ)) (text rest : Text) → reads.piece l (tree.successors ns) text rest → ReadOrStops text (separated_at 44 (target_at false) text) ns rest (fails_outside (label_uses path k ns))
  successors_outside path k [] text rest (none, same) = inl (refl, ([], none_listed 44 starts_no_target text none ∙ ap (Read [] []) (sym same)))
  successors_outside path k (n ∷ ns) text rest (m, q, z) = inr (list_is_bad (target_at false) text (fails_outside (label_uses path k (n ∷ ns)))
      (fails_outside (script.use_label (record { name = n.text; at = n.place }) (script.successor path k) ∷ [])) (fails_outside (label_uses path (suc k) ns)) refl (target_stops (script.successor path k) n text m q))

  -- ---- pieces
  -- What the grammar parses as a piece is accepted outside of each region, up to its first failure there.
  pub piece_outside : NeedsWord reading → (path : Path) (j k : ℕ) (step : Step) (p : Piece ℕ T A) (text rest : Text) → step_piece l step p text rest
      → ReadOrStops text (piece_at types_at attr (setting false false) step text) p rest (fails_outside (piece_acts path j k p))
  piece_outside words path j k (flat (format.operand i)) p text rest (is, r) =
      let b = is_made (format.operand i) p is in
      let q : reads.piece l (tree.operand i b.0) text rest = subst (λ p. reads.piece l p text rest) (sym b.1) r in
      subst (λ p. ReadOrStops text (mapped (tree.operand i) (used_at false text)) p rest (fails_outside (piece_acts path j k p))) b.1
      (inr (stops_seen (tree.operand i) (name_stops (script.operand path i) b.0 text rest q)))
  piece_outside words path j k (flat (format.successor i)) p text rest (is, r) =
      let b = is_made (format.successor i) p is in
      let q : reads.piece l (tree.successor i b.0) text rest = subst (λ p. reads.piece l p text rest) (sym b.1) r in
      subst (λ p. ReadOrStops text (mapped (tree.successor i) (target_at false text)) p rest (fails_outside (piece_acts path j k p))) b.1
      (inr (stops_seen (tree.successor i) (target_stops (script.successor path i) b.0 text rest q)))
  piece_outside words path j k (flat format.operands) p text rest (is, r) =
      let b = is_made format.operands p is in
      let q : reads.piece l (tree.operands b.0) text rest = subst (λ p. reads.piece l p text rest) (sym b.1) r in
      subst (λ p. ReadOrStops text (mapped tree.operands (separated_at 44 (used_at false) text)) p rest (fails_outside (piece_acts path j k p))) b.1 (seen_outside tree.operands (operands_outside path j b.0 text rest q))
  piece_outside words path j k (flat format.successors) p text rest (is, r) =
      let b = is_made format.successors p is in
      let q : reads.piece l (tree.successors b.0) text rest = subst (λ p. reads.piece l p text rest) (sym b.1) r in
      subst (λ p. ReadOrStops text (mapped tree.successors (separated_at 44 (target_at false) text)) p rest (fails_outside (piece_acts path j k p))) b.1 (seen_outside tree.successors (successors_outside path k b.0 text rest q))
  piece_outside words path j k (flat format.dictionary) p text rest (is, r) =
      let b = is_made format.dictionary p is in
      let q : reads.piece l (tree.dictionary b.0) text rest = subst (λ p. reads.piece l p text rest) (sym b.1) r in
      subst (λ p. ReadOrStops text (mapped tree.dictionary (dictionary_by attr false text)) p rest (fails_outside (piece_acts path j k p))) b.1 (seen_outside tree.dictionary (dictionary_found text b.0 rest q))
  piece_outside words path j k (flat (format.word w)) p text rest r =
      inl (subst (λ p. fails_outside (piece_acts path j k p) ≡ []) (is_made (format.word w) p r.0).1 refl, (exact_piece types_at types_written reading written formats types_split splits (flat (format.word w)) (λ _. words)).found text p rest r)
  piece_outside words path j k (flat (format.attribute t)) p text rest r =
      inl (subst (λ p. fails_outside (piece_acts path j k p) ≡ []) (is_made (format.attribute t) p r.0).1 refl, (exact_piece types_at types_written reading written formats types_split splits (flat (format.attribute t)) (λ _. words)).found text p rest r)
  piece_outside words path j k (flat (format.result_type i)) p text rest r =
      inl (subst (λ p. fails_outside (piece_acts path j k p) ≡ []) (is_made (format.result_type i) p r.0).1 refl, (exact_piece types_at types_written reading written formats types_split splits (flat (format.result_type i)) (λ _. words)).found text p rest r)
  piece_outside words path j k (flat format.header) p text rest r =
      inl (subst (λ p. fails_outside (piece_acts path j k p) ≡ []) (is_made format.header p r.0).1 refl, (exact_piece types_at types_written reading written formats types_split splits (flat format.header) (λ _. words)).found text p rest r)
  piece_outside words path j k (flat (format.region i)) p text rest r = absurd (is_made (format.region i) p r.0)
  piece_outside words path j k (flat format.regions) p text rest r = absurd (is_made format.regions p r.0)
  piece_outside words path j k types p text rest r =
      inl (subst (λ p. fails_outside (piece_acts path j k p) ≡ []) (is_types p r.0).1 refl, (exact_piece types_at types_written reading written formats types_split splits types (λ _. words)).found text p rest r)
  piece_outside words path j k (one i) p text rest r = absurd r.0
  piece_outside words path j k all p text rest r = absurd r.0

  -- What a step parses outside of each region it parses inside of one too.
  pub outside_read : (step : Step) (text : Text) (p : Piece ℕ T A) (taken rest : Text) → piece_at types_at attr (setting false false) step text ≡ Read p taken rest
      → ((more : Text) × (piece_at types_at attr (setting true false) step text ≡ Read p more rest)) × (taken ++ rest ≡ text)
  outside_read (flat (format.operand i)) text p taken rest e = absurd (let m = mapped_read (tree.operand i) (used_at false text) p taken rest e in used_never text m.0 taken rest m.1)
  outside_read (flat (format.successor i)) text p taken rest e = absurd (let m = mapped_read (tree.successor i) (target_at false text) p taken rest e in target_never text m.0 taken rest m.1)
  outside_read (flat format.operands) text p taken rest e = empty_either_way tree.operands starts_outside starts_name used_never text p taken rest e
  outside_read (flat format.successors) text p taken rest e = empty_either_way tree.successors starts_no_target starts_target target_never text p taken rest e
  outside_read (flat format.dictionary) text p taken rest e =
      let m = mapped_read tree.dictionary (dictionary_by attr false text) p taken rest e in
      ((taken, e), (dictionary_read text m.0 taken rest m.1).1)
  outside_read (flat (format.word w)) text p taken rest e = ((taken, e), (piece_read types_at types_written reading written formats types_split splits (flat (format.word w)) text p taken rest e).1)
  outside_read (flat (format.attribute t)) text p taken rest e = ((taken, e), (piece_read types_at types_written reading written formats types_split splits (flat (format.attribute t)) text p taken rest e).1)
  outside_read (flat (format.result_type i)) text p taken rest e = ((taken, e), (piece_read types_at types_written reading written formats types_split splits (flat (format.result_type i)) text p taken rest e).1)
  outside_read (flat format.header) text p taken rest e = ((taken, e), (piece_read types_at types_written reading written formats types_split splits (flat format.header) text p taken rest e).1)
  outside_read (flat (format.region i)) text p taken rest e = absurd (cc e)
  outside_read (flat format.regions) text p taken rest e = absurd (cc e)
  outside_read types text p taken rest e = ((taken, e), (piece_read types_at types_written reading written formats types_split splits types text p taken rest e).1)
  outside_read (one i) text p taken rest e = absurd (cc e)
  outside_read all text p taken rest e = absurd (cc e)

  -- ---- inside of a region
  -- What a step parses inside of a region the grammar parses as a piece of that step, whatever is accepted under a reserved key.
  pub inside_read : (any_key : Bool) (step : Step) (text : Text) (p : Piece ℕ T A) (taken rest : Text) → piece_at types_at attr (setting true any_key) step text ≡ Read p taken rest → step_piece l step p text rest × (taken ++ rest ≡ text)
  inside_read true step text p taken rest e = piece_read types_at types_written reading written formats types_split splits step text p taken rest e
  inside_read false (flat format.dictionary) text p taken rest e =
      let m = mapped_read tree.dictionary (dictionary_by attr false text) p taken rest e in
      let r = dictionary_read text m.0 taken rest m.1 in
      (subst (λ p. step_piece l (flat format.dictionary) p text rest) m.2 (refl, r.0), r.1)
  inside_read false step text p taken rest e = piece_read types_at types_written reading written formats types_split splits step text p taken rest e

  -- What the grammar parses as a piece is accepted inside of a region, up to the first key under which its attribute is not allowed.
  pub piece_inside : NeedsWord reading → (step : Step) (p : Piece ℕ T A) (text rest : Text) → step_piece l step p text rest
      → ReadOrStops text (piece_at types_at attr (setting true false) step text) p rest (key_failures p)
  piece_inside words (flat format.dictionary) p text rest (is, r) =
      let b = is_made format.dictionary p is in
      let q : reads.piece l (tree.dictionary b.0) text rest = subst (λ p. reads.piece l p text rest) (sym b.1) r in
      subst (λ p. ReadOrStops text (mapped tree.dictionary (dictionary_by attr false text)) p rest (key_failures p)) b.1 (seen_outside tree.dictionary (dictionary_found text b.0 rest q))
  piece_inside words step p text rest r = inl (other_piece step p r.0 refl, (exact_piece types_at types_written reading written formats types_split splits step (λ _. words)).found text p rest r)

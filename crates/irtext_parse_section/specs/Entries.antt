-- Between functions: what the parsed entries represent, one by one and all together, with the paths that the context keeps.
use Rattle.std.specs.Prelude.{◌≡◌, ◌≤◌, ℕ, true, false, cond, is_some, List, [], ◌∷◌, ◌++◌, length, Option, Some, None, Result, Vec, nat_eq, codes, ⊤}
use Rattle.std.specs.Global.{Global}
use Rattle.std.specs.Map.{lookup}
use Rattle.std.specs.Option.{option_map}
use Rattle.indexmap.specs.IndexMap.{insert_entry}
use Rattle.irtext_base.specs.Text.{Text}
use Rattle.irtext_base.specs.Answers.{Outcome, demanded, prefixed}
use Rattle.irtext_base.specs.Stream.{StreamView}
use Rattle.irtext_base.specs.Locations.{AttrView}
use Rattle.irtext_base.specs.Paths.{Written}
use Rattle.irtext_base.specs.declared.base.attributes.AttrObj.{AttrObj}
use Rattle.irtext_base.specs.declared.location.Location.{Location}
use Rattle.irtext_base.specs.declared.parsable.fault.ParseFault.{ParseFault}
use Rattle.irtext_context.specs.declared.base.item.Item.{Item}
use Rattle.irtext_tokens.specs.Demanded.{spaced_at}
use Rattle.irtext_tokens.specs.Infix.{Reader, ◌▷◌}
use Rattle.irtext_tokens.specs.Tokens.{space_at, word}
use Rattle.irtext_parse_state.specs.States.{KeepsRest, same_index, marks_of}
use Rattle.irtext_parse_state.specs.declared.parsable.state.StateStream.{StateStream}
use Rattle.irtext_grammar.specs.Contexts.Held.{attribute_of}
use Rattle.irtext_grammar.specs.Grammar.Tree.{Name, Mark}
use Rattle.irtext_grammar.specs.Grammar.Section as section
use Rattle.irtext_grammar.specs.Grammar.Section.{Entry, of_item, of_once}
use Rattle.irtext_grammar.specs.Names.Acts.{Rule, shared_attribute}
use Rattle.irtext_grammar.specs.Names.Resolves.{indices}
use Rattle.irtext_grammar.specs.Names.Scopes.{is_among}
use Rattle.irtext_grammar.specs.Promises.Section.{known_given, given_over, given_kept, indices_of, Moves}
use Rattle.irtext_grammar.specs.Readers.NewPaths.{AddsPaths}
use Rattle.irtext_grammar.specs.Readers.Streams.{itself, replaced}
use Rattle.irtext_grammar.specs.Parsed.{IsMark}
use Rattle.irtext_parse_pieces.specs.Named.{whole, MustMean}
use Rattle.irtext_grammar.specs.declared.parsed.Key.{Key}
use Rattle.irtext_grammar.specs.Entries.{begins_given, entries_after}
use Rattle.irtext_parse_section.specs.Said.{ArePairs, rules_of}
use Rattle.irtext_parse_section.specs.declared.entry.EntryHead.{EntryHead}
use Rattle.irtext_parse_locations.specs.declared.said.GivenAttr.{GivenAttr}
use Rattle.irtext_parse_locations.specs.declared.said.ItemEntry.{ItemEntry}
use Rattle.irtext_parse_locations.specs.declared.said.ReadEntry.{ReadEntry}
use Rattle.irtext_parse_locations.specs.declared.said.ReadEntry.TheVariants as read
use Rattle.irtext_parse_locations.specs.declared.said.Entries.{Entries}
use Rattle.irtext_parse_locations.specs.declared.said.Entries.TheVariants as said
use Rattle.irtext_parse_locations.specs.declared.said.NotedEntries.{NotedEntries}

-- the indices of earlier entries, if there are any
abbrev pub earlier_indices : {X : Type 0} → Option (List (ℕ × X)) → List (ℕ × X)
earlier_indices None = []
earlier_indices (Some seen) = seen

-- ---- one entry
-- what follows the location of an entry
abbrev pub location_end_at : Reader ⊤
location_end_at = spaced_at (codes "]") ▷ word (codes ",") ▷ space_at

-- the item that carries a mark of this index, unless an earlier entry has the index
abbrev pub next_item : {X Y : Type 0} → List (ℕ × X) → List (ℕ × Y) → ℕ → Option X
next_item marks seen i = cond (is_some (lookup (same_index i) seen)) None (lookup (same_index i) marks)

-- the parsed head has the index of the mark, and is at its place
abbrev pub IsHead : Text → EntryHead → Mark ℕ → Type 0
IsHead text head mark = IsMark text head.mark mark

-- the item that carries the mark is known exactly if an item's entry continues
pub record GoesOn (marks : List (ℕ × Item)) (rest : Text) (head : EntryHead) : Type 0 where
  pub known : is_some head.item ≡ begins_given rest
  pub carries : is_some head.item ≡ true → lookup (same_index head.mark.index) marks ≡ head.item

module _ {A : Type 0} where
  -- what was parsed of an item's entry represents this location and these pairs
  pub record IsGivenOver (paths : List (List ℕ)) (text : Text) (read : Option (Location A) × Vec (Key × GivenAttr A) Global) (given : Option (Written A) × List (Name ℕ × section.Item ℕ A)) : Type 0 where
    pub known : known_given (length paths) read.0 ≡ true
    pub location : given_over paths read.0 ≡ given.0
    pub pairs : ArePairs text read.1 given.1

  -- the parsed entry of an item represents this one, and its item carries the mark
  pub record IsItemEntry (marks : List (ℕ × Item)) (paths : List (List ℕ)) (text : Text) (entry : ItemEntry A) (i : ℕ) (x : Option (Written A)) (ps : List (Name ℕ × section.Item ℕ A)) : Type 0 where
    pub item : lookup (same_index i) marks ≡ Some entry.item
    pub known : known_given (length paths) entry.location ≡ true
    pub location : given_over paths entry.location ≡ x
    pub pairs : ArePairs text entry.pairs ps

  module _ (marks : List (ℕ × Item)) (paths : List (List ℕ)) (text : Text) where
    -- the parsed entry represents this entry
    abbrev pub IsEntry : ReadEntry A → Entry ℕ A (Written A) → Type 0
    IsEntry (read.OfItem i e) (of_item m x ps) = (i ≡ m.index) × IsItemEntry marks paths text e m.index x ps
    IsEntry (read.OfItem i e) (of_once m a) = ⊥
    IsEntry (read.OfOnce i b) (of_item m x ps) = ⊥
    IsEntry (read.OfOnce i b) (of_once m a) = (i ≡ m.index) × (attribute_of b ≡ a)

    -- the parsed entries of items represent those of items among these
    abbrev pub AreItems : List (ItemEntry A) → List (Entry ℕ A (Written A)) → Type 0
    AreItems items [] = items ≡ []
    AreItems items (of_once m a ∷ es) = AreItems items es
    AreItems [] (of_item m x ps ∷ es) = ⊥
    AreItems (e ∷ items) (of_item m x ps ∷ es) = IsItemEntry marks paths text e m.index x ps × AreItems items es

  -- the paths, once those of an entry's location are kept; the location is given with the second list of paths
  abbrev pub entry_kept : List (List ℕ) → List (List ℕ) → ReadEntry A → List (List ℕ)
  entry_kept old new (read.OfItem i e) = given_kept old (given_over new e.location)
  entry_kept old new (read.OfOnce i b) = old

  -- the paths, once those of the locations of entries are kept, one entry after the other
  abbrev pub all_entries_kept : List (List ℕ) → List (Entry ℕ A (Written A)) → List (List ℕ)
  all_entries_kept paths [] = paths
  all_entries_kept paths (of_item m x ps ∷ es) = all_entries_kept (given_kept paths x) es
  all_entries_kept paths (of_once m a ∷ es) = all_entries_kept paths es

  -- ---- all entries
  -- the entries of items, in the order of the text
  abbrev pub items_of : Entries A → List (ItemEntry A)
  items_of said.Nothing = []
  items_of (said.Only e) = e ∷ []
  items_of (said.All es) = es.value.items.items

  -- the print-once attributes
  abbrev pub once_of : Entries A → List (ℕ × AttrObj A)
  once_of said.Nothing = []
  once_of (said.Only e) = []
  once_of (said.All es) = es.value.once.entries

  -- the print-once attributes are those of these entries, the last one for each index
  abbrev pub AreOnce : {X : Type 0} → List (ℕ × AttrObj A) → List (Entry ℕ A X) → Type 0
  AreOnce once es = (i : ℕ) → option_map attribute_of (lookup (nat_eq i) once) ≡ shared_attribute i es

  -- the indices are those of the entries of items
  abbrev pub AreSeen : {X : Type 0} → List (ℕ × ⊤) → List (Entry ℕ A X) → Type 0
  AreSeen seen es = (i : ℕ) → is_some (lookup (same_index i) seen) ≡ is_among i (indices es)

  -- the parsed entries of items represent those among these entries, and so do the print-once attributes
  pub record AreEntries (marks : List (ℕ × Item)) (paths : List (List ℕ)) (text : Text) (of_items : List (ItemEntry A)) (of_once : List (ℕ × AttrObj A)) (es : List (Entry ℕ A (Written A))) : Type 0 where
    pub items : AreItems marks paths text of_items es
    pub once : AreOnce of_once es

  -- the parsed entries represent these, and they took the context from the old paths to the new ones
  pub record AreEntriesOver (marks : List (ℕ × Item)) (old paths : List (List ℕ)) (text : Text) (entries : Entries A) (es : List (Entry ℕ A (Written A))) : Type 0 where
    pub are : AreEntries marks paths text (items_of entries) (once_of entries) es
    pub kept : paths ≡ all_entries_kept old es

-- the entries so far: those of items, their indices, and the print-once attributes
pub record Noted (A : Type 0) : Type 0 where
  pub items : List (ItemEntry A)
  pub seen : List (ℕ × ⊤)
  pub once : List (ℕ × AttrObj A)

module _ {A : Type 0} where
  -- the entries so far, as the code has them
  abbrev pub noted : NotedEntries A → Noted A
  noted es = record { items = es.items.items; seen = es.seen; once = es.once.entries }

  -- no entries
  abbrev pub nothing : Noted A
  nothing = record { items = []; seen = []; once = [] }

  -- one entry
  abbrev pub one_noted : ReadEntry A → Noted A
  one_noted (read.OfItem i e) = record { items = e ∷ []; seen = (i, tt) ∷ []; once = [] }
  one_noted (read.OfOnce i a) = record { items = []; seen = []; once = (i, a) ∷ [] }

  -- the entries so far represent these, and they took the context from the old paths to the new ones
  pub record AreNoted (marks : List (ℕ × Item)) (old paths : List (List ℕ)) (text : Text) (entries : Noted A) (es : List (Entry ℕ A (Written A))) : Type 0 where
    pub are : AreEntries marks paths text entries.items entries.once es
    pub seen : AreSeen entries.seen es
    pub kept : paths ≡ all_entries_kept old es

  -- an entry was added to the others: that of an item as the last; a print-once attribute in place of the one with its index, or as the
  -- last
  abbrev pub Notes : Noted A → ReadEntry A → Noted A → Type 0
  Notes old (read.OfItem i e) new = (new.items ≡ old.items ++ e ∷ []) × (lookup (same_index i) old.seen ≡ None → new.seen ≡ old.seen ++ (i, tt) ∷ []) × (new.once ≡ old.once)
  Notes old (read.OfOnce i a) new = (new.items ≡ old.items) × (new.seen ≡ old.seen) × (new.once ≡ insert_entry nat_eq old.once i a)

-- ---- how far the entries were parsed
-- After the section's first word these entries were parsed, up to the current position of the stream. The outcome for the text that is
-- left completes the outcome of the parser of entries for the whole text.
pub record TextSoFar {A : Type 0} (attr : Text → Outcome (AttrView A)) (marks : List ℕ) (rules : ℕ → Rule A) (old now : StreamView) (found : List (Entry ℕ A (Written A))) : Type 0 where
  pub fine : old.failed ≡ false
  pub moves : Moves old now
  pub room : ℕ
  pub enough : length now.rest ≤ room
  pub completes : demanded (entries_after attr marks rules (length old.rest) [] old.rest) ≡ prefixed moves.taken (entries_after attr marks rules room found now.rest)

-- The entries that were parsed so far represent these of the text, and they took the context to its paths. The rest of the state is
-- unchanged.
pub record EntriesSoFar {T A U : Type 0} (attr : Text → Outcome (AttrView A)) (old now : StateStream T A U) (entries : Noted A) : Type 0 where
  pub rest : KeepsRest old.state now.state
  pub marks : marks_of now.state ≡ marks_of old.state
  pub adds : AddsPaths old.state.ctx.now now.state.ctx.now
  pub found : List (Entry ℕ A (Written A))
  pub are : AreNoted (marks_of old.state) old.state.ctx.now.paths now.state.ctx.now.paths (whole old.stream) entries found
  pub so_far : TextSoFar attr (indices_of (marks_of old.state)) (rules_of (marks_of old.state)) old.stream now.stream found

-- The parsed entries are those that the outcome gives, and they took the context from its paths to those that it has then; or the error
-- is that of the outcome.
abbrev pub MustReadEntries : {T A U E : Type 0} → (Text → Outcome (List (Entry ℕ A (Written A)))) → StateStream T A U → Result (Entries A) (ParseFault E) → StateStream T A U → Type 0
MustReadEntries outcome old result new = MustMean itself replaced (AreEntriesOver (marks_of old.state) old.state.ctx.now.paths new.state.ctx.now.paths (whole old.stream)) outcome old.stream result new.stream

-- After what was parsed so far, the result is the list of all entries of the whole text, or its fault.
abbrev pub MustGoOn : {T A U E : Type 0} → (Text → Outcome (AttrView A)) → Noted A → StateStream T A U → Result (Entries A) (ParseFault E) → StateStream T A U → Type 0
MustGoOn {T} {A} {U} attr entries now result new = (old : StateStream T A U) → EntriesSoFar attr old now entries
    → MustReadEntries (λ t. entries_after attr (indices_of (marks_of old.state)) (rules_of (marks_of old.state)) (length t) [] t) old result new

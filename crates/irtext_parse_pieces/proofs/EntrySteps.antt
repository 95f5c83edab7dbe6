-- Steps of the parser of dictionaries.
use Rattle.std.proofs.Common.{◌≡◌, ℕ, Bool, true, false, Result, Ok, Err, Option, Some, None, List, [], ◌∷◌, ◌++◌, length, refl, sym, subst, ◌∙◌, codes}
use Rattle.std.specs.Char.{is_whitespace}
use Rattle.std.specs.Prelude.{Vec}
use Rattle.std.specs.Str.{chars}
use Rattle.std.specs.Global.{Global}
use Rattle.irtext_base.specs.Text.{Text, begins, front, after, begins_word, in_word}
use Rattle.irtext_base.specs.Reading.{the}
use Rattle.irtext_base.specs.Answers.{Outcome, Read, Takes, Gives, demanded, mapped, followed, unless_failed}
use Rattle.irtext_base.specs.Locations.{AttrView, attr_view}
use Rattle.irtext_base.specs.declared.base.attributes.AttrObj.{AttrObj}
use Rattle.irtext_base.specs.declared.base.attributes.AttrObj.TheVariants.{GivenNames, Ident, Own}
use Rattle.irtext_base.specs.declared.parsable.fault.ParseFault.{ParseFault}
use Rattle.irtext_base.proofs.Compose.{takes_none, refuses_first_demanded, refuses_mapped_demanded}
use Rattle.irtext_stream.specs.Places.{IsPlaceAfter}
use Rattle.irtext_stream.specs.Stream.{Comes}
use Rattle.irtext_tokens.specs.ListOutcomes.{items_after, separated_at}
use Rattle.irtext_tokens.specs.MustRead.{MustRead}
use Rattle.irtext_tokens.specs.Reads.{TakesFront}
use Rattle.irtext_tokens.specs.Tokens.{space_at, text_at, word_at}
use Rattle.irtext_tokens.proofs.Steps.{Lens, Passed, first, spaced, more, refuses, refuses_seen, last_seen, seen_alone}
use Rattle.irtext_grammar.specs.Contexts.Held.{attribute_of}
use Rattle.irtext_grammar.specs.Grammar.Tree.{Name, Attribute}
use Rattle.irtext_grammar.specs.Spelling.AttrText.{attr_tree}
use Rattle.irtext_grammar.specs.Heads.{name_of, name_at, entry_by, dictionary_by, dictionary_at}
use Rattle.irtext_parse_pieces.specs.Beside.{closed, present}
use Rattle.irtext_grammar.specs.declared.parsed.Key.{Key}
use Rattle.irtext_grammar.specs.Parsed.{IsKey, IsEntry, AreEntries, Optional}
use Rattle.irtext_parse_pieces.specs.Entries.{MustEntries, EntriesAfter, dictionary_if}
use Rattle.irtext_parse_pieces.specs.Named.{whole, MayMean, MustMean}
use Rattle.irtext_parse_pieces.proofs.Listings.{list_some}
use Rattle.irtext_parse_pieces.proofs.Meanings.{takes_whole, may_whole, must_refuse, passed_whole}

-- an attribute that was parsed, as trees hold it
tree_of_view : {A : Type 0} (a : AttrObj A) → attr_tree (attr_view a) ≡ attribute_of a
tree_of_view (GivenNames names) = refl
tree_of_view (Ident name) = refl
tree_of_view (Own a) = refl

chars_brackets : chars (codes "[]") ≡ codes "[]"
unfolding chars
chars_brackets = refl

-- no entries are between the brackets
no_entry : {A : Type 0} (attr : Text → Outcome (AttrView A)) (inside : Bool) (rest : Text) → dictionary_by attr inside (codes "[]" ++ rest) ≡ Read [] (codes "[]") rest
unfolding dictionary_by word_at
no_entry attr true rest = refl
no_entry attr false rest = refl

module _ {S A : Type 0} (l : Lens S) where
  -- an attribute that was parsed, as trees hold it
  pub as_tree : {f : Text → Outcome (AttrView A)} {old new : S} (r : Result (AttrObj A) (ParseFault A)) → MustRead l.view l.at attr_view f old r new → MustRead l.view l.at attribute_of (λ t. mapped attr_tree (f t)) old r new
  as_tree (Ok a) h = seen_alone l attribute_of attr_tree a (sym (tree_of_view a)) h
  as_tree {f = f} {old = old} {new = new} (Err fault) h = record { answers = refuses_mapped_demanded l.view l.at l.view_at l.at_at attr_tree (l.view old).failed (f (l.view old).rest) old new fault h.answers }

  -- a key was taken
  pub key_there : {old new : S} (key : Key) → (l.view old).failed ≡ false → begins begins_word (l.view old).rest ≡ true → Takes l.view l.at (front in_word (l.view old).rest) (after in_word (l.view old).rest) old new
      → IsPlaceAfter key.at (l.view old).passed → key.name ≡ front in_word (l.view old).rest → MayMean {A = A} l.view l.at (IsKey (whole (l.view old))) name_at old (Ok key) new
  unfolding word_at
  key_there {old = old} {new = new} key f b t p e = record {
    meant = λ _. name_of (length (l.view old).rest) (front in_word (l.view old).rest);
    means = record { named = e; place = record { passed = (l.view old).passed; rest = (l.view old).rest; same = refl; positioned = p; counts = refl } };
    read = record { answers = rw (f, b) (refl, t) };
  }

  -- brackets with nothing between them were consumed
  pub no_entries : (attr : Text → Outcome (AttrView A)) (inside : Bool) {old new : S} → (l.view old).failed ≡ false → (none : Vec (Key × AttrObj A) Global) → none.items ≡ [] → Comes (chars (codes "[]")) (l.view old) (λ v. new ≡ l.at old v)
      → MustEntries {A = A} l.view l.at (dictionary_by attr inside) old (Ok none) new
  no_entries attr inside {old = old} {new = new} fine none e h =
      let k : Comes (codes "[]") (l.view old) (λ v. new ≡ l.at old v) = subst (λ t. Comes t (l.view old) (λ v. new ≡ l.at old v)) chars_brackets h in
      let g : Gives l.view l.at (demanded (unless_failed false (dictionary_by attr inside (l.view old).rest))) old [] new =
      subst (λ t. Gives l.view l.at (demanded (unless_failed false (dictionary_by attr inside t))) old [] new) (sym k.1)
      (subst (λ o. Gives l.view l.at (demanded (unless_failed false o)) old [] new) (sym (no_entry attr inside k.0)) (refl, record { is = k.2; same = sym k.1 })) in
      record { meant = λ _. []; means = rw e tt; read = record { answers = rw fine g } }

  -- there is a first entry, and what follows it
  pub list_entries : (item : Text → Outcome (Name ℕ × Attribute A)) {old mid new last : S} {first : Key × AttrObj A} {r : Result (Vec (Key × AttrObj A) Global) (ParseFault A)} → MayMean {A = A} l.view l.at (IsEntry (whole (l.view old))) item old (Ok first) mid → Takes l.view l.at (front is_whitespace (l.view mid).rest) (after is_whitespace (l.view mid).rest) mid new
      → EntriesAfter l.view l.at item first new r last → MustEntries l.view l.at (separated_at 44 item) old r last
  list_entries item {old = old} {mid = mid} {new = new} {last = last} {first = n} {r = r} h k rest =
      let e : whole (l.view new) ≡ whole (l.view old) = takes_whole l mid new (front is_whitespace (l.view mid).rest) (after is_whitespace (l.view mid).rest) k ∙ may_whole l h.read in
      list_some l item h.read k (λ fine. subst (λ t. MustMean l.view l.at (AreEntries t) (λ t. items_after 44 item (length t) (h.meant n ∷ []) t) new r last) e (rest (h.meant n) (subst (λ t. IsEntry t n (h.meant n)) (sym e) h.means) fine))

  -- the first part is required, and is an error
  pub first_refused : {X Y V W : Type 0} {see : Y → X} {sees : W → V} {f : Text → Outcome X} {old new : S} {fault : ParseFault A} (k : X → Text → Outcome V) → MustRead {Y = Y} l.view l.at see f old (Err fault) new → MustRead {Y = W} l.view l.at sees (λ t. followed (f t) k) old (Err fault) new
  first_refused {see = see} {sees = sees} {f = f} {old = old} {new = new} {fault = fault} k h = record { answers = refuses_first_demanded l.view l.at l.view_at l.at_at see sees (l.view old).failed (f (l.view old).rest) k old new fault h.answers }

  module _ (attr : Text → Outcome (AttrView A)) where
    -- no dictionary follows
    pub no_dictionary : {Means : Option (Vec (Key × AttrObj A) Global) → Option (List (Name ℕ × Attribute A)) → Type 0} {old : S} → (l.view old).failed ≡ false → begins (the 91) (l.view old).rest ≡ false → Means None None → MustMean {A = A} l.view l.at Means (dictionary_if attr) old (Ok None) old
    no_dictionary {old = old} f b h = record { meant = λ _. None; means = h; read = record { answers = rw (f, b) (refl, takes_none l.view l.at l.view_at l.at_at l.at_view old) } }

    -- one was parsed
    dictionary_there : {text : Text} {old new : S} {entries : Vec (Key × AttrObj A) Global} → begins (the 91) (l.view old).rest ≡ true → MustMean {A = A} l.view l.at (AreEntries text) (dictionary_at attr) old (Ok entries) new
        → MustMean {A = A} l.view l.at (Optional (AreEntries text)) (dictionary_if attr) old (Ok (Some entries)) new
    dictionary_there {old = old} {new = new} {entries = es} b h = record {
      meant = λ _. Some (h.meant es);
      means = h.means;
      read = record { answers = rw b (seen_alone l {A = A} (λ (d : Option (Vec (Key × AttrObj A) Global)). Some (h.meant es)) Some (Some es) refl h.read).answers };
    }

    -- it is an error
    dictionary_refused : {Means : Vec (Key × AttrObj A) Global → List (Name ℕ × Attribute A) → Type 0} {Other : Option (Vec (Key × AttrObj A) Global) → Option (List (Name ℕ × Attribute A)) → Type 0} {old new : S} {fault : ParseFault A} → begins (the 91) (l.view old).rest ≡ true → MustMean l.view l.at Means (dictionary_at attr) old (Err fault) new → MustMean l.view l.at Other (dictionary_if attr) old (Err fault) new
    dictionary_refused {old = old} {new = new} {fault = fault} b h =
        record { meant = λ _. None; means = tt; read = record { answers = rw b (refuses_mapped_demanded l.view l.at l.view_at l.at_at Some (l.view old).failed (dictionary_at attr (l.view old).rest) old new fault h.read.answers) } }

    -- one or the other
    pub dictionary_read : {text : Text} {old new : S} → begins (the 91) (l.view old).rest ≡ true → (r : Result (Vec (Key × AttrObj A) Global) (ParseFault A)) {q : Result (Option (Vec (Key × AttrObj A) Global)) (ParseFault A)} → q ≡ present r → MustMean {A = A} l.view l.at (AreEntries text) (dictionary_at attr) old r new
        → MustMean {A = A} l.view l.at (Optional (AreEntries text)) (dictionary_if attr) old q new
    dictionary_read b (Ok es) e h = rw e (dictionary_there b h)
    dictionary_read b (Err fault) e h = rw e (dictionary_refused b h)

-- what follows the entries
abbrev after_entries : {A : Type 0} → List (Name ℕ × Attribute A) → Text → Outcome (List (Name ℕ × Attribute A))
after_entries es t = mapped (λ _. es) (text_at (codes "]") t)

-- what follows the opening bracket
abbrev after_bracket : {A : Type 0} → (Text → Outcome (AttrView A)) → Bool → Unit {0} → Text → Outcome (List (Name ℕ × Attribute A))
after_bracket attr inside u t = followed (space_at t) (λ _ u. followed (separated_at 44 (entry_by attr inside) u) after_entries)

module _ {S A : Type 0} (l : Lens S) (attr : Text → Outcome (AttrView A)) (inside : Bool) where
  -- there is no opening bracket
  pub no_bracket : {old new : S} {fault : ParseFault A} → MustRead {Y = Unit {0}} l.view l.at (λ u. u) (text_at (codes "[")) old (Err fault) new → MustEntries l.view l.at (dictionary_by attr inside) old (Err fault) new
  unfolding dictionary_by
  no_bracket h = must_refuse l (first_refused l {sees = λ _. []} (after_bracket attr inside) h)

  module _ {old opened spaced_now : S} (bracket : MustRead {A = A} {Y = Unit {0}} l.view l.at (λ u. u) (text_at (codes "[")) old (Ok tt) opened) (space : TakesFront l.view l.at is_whitespace opened spaced_now) where
    entries_next : Passed l (dictionary_by attr inside) (λ u. followed (separated_at 44 (entry_by attr inside) u) after_entries) old spaced_now
    unfolding dictionary_by
    entries_next = spaced l (λ _ u. followed (separated_at 44 (entry_by attr inside) u) after_entries) (first l (after_bracket attr inside) bracket) space

    -- an entry is an error
    pub no_entry_read : {new : S} {fault : ParseFault A} → MustEntries l.view l.at (separated_at 44 (entry_by attr inside)) spaced_now (Err fault) new → MustEntries l.view l.at (dictionary_by attr inside) old (Err fault) new
    no_entry_read h = must_refuse l (refuses l {sees = λ _. []} after_entries entries_next h.read)

    module _ {listed : S} {entries : Vec (Key × AttrObj A) Global} (list : MustEntries {A = A} l.view l.at (separated_at 44 (entry_by attr inside)) spaced_now (Ok entries) listed) where
      end_next : Passed l (dictionary_by attr inside) (after_entries (list.meant entries)) old listed
      end_next = more l after_entries entries_next list.read

      -- there is no closing bracket
      pub no_end : {new : S} {fault : ParseFault A} → MustRead {Y = Unit {0}} l.view l.at (λ u. u) (text_at (codes "]")) listed (Err fault) new → MustEntries l.view l.at (dictionary_by attr inside) old (Err fault) new
      no_end h = must_refuse l (refuses_seen l {sees = λ _. []} (λ _. list.meant entries) end_next h)

      -- all of it was parsed
      pub bracketed : {new : S} → MustRead {A = A} {Y = Unit {0}} l.view l.at (λ u. u) (text_at (codes "]")) listed (Ok tt) new → MustEntries {A = A} l.view l.at (dictionary_by attr inside) old (Ok entries) new
      bracketed h = record {
        meant = λ _. list.meant entries;
        means = subst (λ t. AreEntries t entries (list.meant entries)) (passed_whole l entries_next) list.means;
        read = last_seen l (λ _. list.meant entries) (λ _. list.meant entries) entries refl end_next h;
      }

      -- all of it was parsed, or there is no closing bracket
      pub bracket_ended : (w : Result (Unit {0}) (ParseFault A)) {r : Result (Vec (Key × AttrObj A) Global) (ParseFault A)} {new : S} → r ≡ closed entries w → MustRead {Y = Unit {0}} l.view l.at (λ u. u) (text_at (codes "]")) listed w new → MustEntries l.view l.at (dictionary_by attr inside) old r new
      bracket_ended (Ok u) e h = rw e (bracketed h)
      bracket_ended (Err fault) e h = rw e (no_end h)

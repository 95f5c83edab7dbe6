-- Steps of the parsers of names.
use Rattle.std.proofs.Common.{◌≡◌, ℕ, Bool, true, false, Result, Ok, Err, IsErrAnd, List, [], Some, length, codes, refl, sym, ◌∙◌, inl, inr}
use Rattle.std.specs.List.{slice_get}
use Rattle.irtext_base.specs.Text.{Text, begins, front, after, begins_word, in_word}
use Rattle.irtext_base.specs.Stream.{first_of}
use Rattle.irtext_base.specs.Faults.{Unexpected, AnIdentifier}
use Rattle.irtext_base.specs.Answers.{Takes, Passes, RunsOutHere, Answers, mapped, followed, unless_failed}
use Rattle.irtext_base.specs.declared.parsable.fault.ParseFault.{ParseFault}
use Rattle.irtext_base.proofs.Compose.{runs_out_after, refuses_first_demanded, refuses_mapped_demanded}
use Rattle.irtext_stream.specs.Places.{IsPlaceAfter}
use Rattle.irtext_stream.specs.declared.position.Place.{Place}
use Rattle.irtext_tokens.specs.MustRead.{MayRead, MustRead}
use Rattle.irtext_tokens.specs.Demanded.{symbol_at as mark_and_name}
use Rattle.irtext_tokens.specs.Tokens.{word_at, identifier_at, text_at}
use Rattle.irtext_tokens.proofs.Steps.{Lens, first, last_seen, refuses_seen, begins_refused, seen_alone, mapped_followed, mapped_mapped}
use Rattle.irtext_grammar.specs.Grammar.Tree.{Name}
use Rattle.irtext_grammar.specs.Heads.{name_of, name_at, symbol_at, used_at, target_at}
use Rattle.irtext_parse_pieces.proofs.Meanings.{after_may, may_whole, still_represents}
use Rattle.irtext_grammar.specs.declared.parsed.ReadName.{ReadName}
use Rattle.irtext_grammar.specs.declared.parsed.Symbol.{Symbol}
use Rattle.irtext_parse_pieces.specs.Named.{whole, MayMean, MustMean, MayName, MustName}
use Rattle.irtext_grammar.specs.Parsed.{Represents, IsSymbol}

-- a name without letters, for when none was parsed
pub nobody : Name ℕ
nobody = record { place = 0; text = [] }

-- the text of a name, at another place
abbrev moved_to : ℕ → Name ℕ → Name ℕ
moved_to place n = name_of place n.text

-- a name after a fixed text, with the place of that text
moved_is : (place : ℕ) (w text : Text) → followed (text_at w text) (λ _ u. mapped (moved_to place) (name_at u)) ≡ mapped (name_of place) (followed (text_at w text) (λ _ u. identifier_at u))
moved_is place w text =
    (λ i. followed (text_at w text) (λ _ u. mapped_mapped (moved_to place) (name_of (length u)) (name_of place) (identifier_at u) (λ x. refl) i))
    ∙ sym (mapped_followed (name_of place) (text_at w text) (λ _ u. identifier_at u))

module _ {S A : Type 0} (l : Lens S) where
  -- no name begins there
  pub no_name : {Y : Type 0} {Means : Y → Name ℕ → Type 0} {old new : S} {fault : ParseFault A} → (l.view old).failed ≡ false → begins begins_word (l.view old).rest ≡ false → Passes l.view l.at (Unexpected (first_of (l.view old).rest) AnIdentifier) old fault new
      → MayMean l.view l.at Means name_at old (Err fault) new
  unfolding word_at
  no_name f b h = record { meant = λ _. nobody; means = tt; read = record { answers = rw (f, b) (inr h) } }

  -- out of memory after it
  pub name_ran_out : {Y : Type 0} {Means : Y → Name ℕ → Type 0} {old mid new : S} {fault : ParseFault A} → (l.view old).failed ≡ false → Takes l.view l.at (front in_word (l.view old).rest) (after in_word (l.view old).rest) old mid → RunsOutHere l.view l.at mid fault new
      → MayMean l.view l.at Means name_at old (Err fault) new
  name_ran_out {old = old} {mid = mid} {new = new} {fault = fault} f t h =
      record { meant = λ _. nobody; means = tt; read = record { answers = rw f (inl (runs_out_after l.view l.at l.view_at l.at_at old mid new (front in_word (l.view old).rest) (after in_word (l.view old).rest) fault f t h)) } }

  -- whatever is returned then, it is that error
  pub unstored : {Means : ReadName → Name ℕ → Type 0} {old mid new : S} (r : Result ReadName (ParseFault A)) → (l.view old).failed ≡ false → Takes l.view l.at (front in_word (l.view old).rest) (after in_word (l.view old).rest) old mid → IsErrAnd r (λ fault. RunsOutHere l.view l.at mid fault new)
      → MayMean l.view l.at Means name_at old r new
  unstored (Ok n) f t h = absurd h
  unstored (Err fault) f t h = name_ran_out f t h

  -- a name was taken, and has a number
  pub name_there : {old new : S} (names : List Text) (n : ReadName) → (l.view old).failed ≡ false → begins begins_word (l.view old).rest ≡ true → Takes l.view l.at (front in_word (l.view old).rest) (after in_word (l.view old).rest) old new
      → IsPlaceAfter n.at (l.view old).passed → slice_get names n.name ≡ Some (front in_word (l.view old).rest) → MayName {A = A} l.view l.at names name_at old (Ok n) new
  unfolding word_at
  name_there {old = old} {new = new} names n f b t p e = record {
    meant = λ _. name_of (length (l.view old).rest) (front in_word (l.view old).rest);
    means = record { named = e; place = record { passed = (l.view old).passed; rest = (l.view old).rest; same = refl; positioned = p; counts = refl } };
    read = record { answers = rw (f, b) (refl, t) };
  }

  -- after a fixed text a name was parsed, with the place of that text
  pub after_mark : {old mid new : S} {n : ReadName} (w : Text) (names : List Text) (at : Place) → MustRead {A = A} l.view l.at (λ (u : Unit {0}). u) (text_at w) old (Ok tt) mid → MustName {A = A} l.view l.at names name_at mid (Ok n) new → IsPlaceAfter at (l.view old).passed
      → MustName {A = A} l.view l.at names (λ t. mapped (name_of (length t)) (followed (text_at w t) (λ _ u. identifier_at u))) old (Ok (record { name = n.name; at = at })) new
  after_mark {old = old} {new = new} {n = n} w names at h m p =
      let place = length (l.view old).rest in
      let moved : ReadName = record { name = n.name; at = at } in
      let q = last_seen l {A = A} (λ _. name_of place (m.meant n).text) (moved_to place) moved refl (first l (λ _ u. mapped (moved_to place) (name_at u)) h) m.read in
      record {
        meant = λ _. name_of place (m.meant n).text;
        means = record { named = m.means.named; place = record { passed = (l.view old).passed; rest = (l.view old).rest; same = refl; positioned = p; counts = refl } };
        read = record { answers = rw (← moved_is place w (l.view old).rest) q.answers };
      }

  -- the fixed text is an error
  pub mark_refused : {Means : ReadName → Name ℕ → Type 0} {old new : S} {fault : ParseFault A} (w : Text) → MustRead {Y = Unit {0}} l.view l.at (λ u. u) (text_at w) old (Err fault) new
      → MustMean l.view l.at Means (λ t. mapped (name_of (length t)) (followed (text_at w t) (λ _ u. identifier_at u))) old (Err fault) new
  mark_refused {old = old} {new = new} {fault = fault} w h =
      let place = length (l.view old).rest in
      let q = refuses_first_demanded l.view l.at l.view_at l.at_at (λ u. u) (λ (n : ReadName). nobody) (l.view old).failed (text_at w (l.view old).rest) (λ _ u. mapped (moved_to place) (name_at u)) old new fault h.answers in
      record { meant = λ _. nobody; means = tt; read = record { answers = rw (← moved_is place w (l.view old).rest) q } }

  -- the name after it is an error
  pub marked_refused : {Means Other : ReadName → Name ℕ → Type 0} {old mid new : S} {fault : ParseFault A} (w : Text) → MustRead {A = A} l.view l.at (λ (u : Unit {0}). u) (text_at w) old (Ok tt) mid → MustMean l.view l.at Means name_at mid (Err fault) new
      → MustMean l.view l.at Other (λ t. mapped (name_of (length t)) (followed (text_at w t) (λ _ u. identifier_at u))) old (Err fault) new
  marked_refused {old = old} w h m =
      let place = length (l.view old).rest in
      let q = refuses_seen l {sees = λ (n : ReadName). nobody} (moved_to place) (first l (λ _ u. mapped (moved_to place) (name_at u)) h) m.read in
      record { meant = λ _. nobody; means = tt; read = record { answers = rw (← moved_is place w (l.view old).rest) q.answers } }

  -- no label that is used is there
  pub target_refused : {Means : ReadName → Name ℕ → Type 0} {old new : S} {fault : ParseFault A} (inside : Bool) → Answers l.view l.at (λ (u : Unit {0}). u) (unless_failed (l.view old).failed (text_at (codes "^") (l.view old).rest)) old (Err fault) new
      → MayMean l.view l.at Means (target_at inside) old (Err fault) new
  target_refused inside h = record { meant = λ _. nobody; means = tt; read = begins_refused l {see = λ (u : Unit {0}). u} (λ _. nobody) (λ _ u. used_at inside u) (record { answers = h }) }

  -- a label that is used is parsed after its `^`
  pub target_after : {old mid new : S} {r : Result ReadName (ParseFault A)} (inside : Bool) (names : List Text) → Answers l.view l.at {A = A} (λ (u : Unit {0}). u) (unless_failed (l.view old).failed (text_at (codes "^") (l.view old).rest)) old (Ok tt) mid
      → MustName l.view l.at names (used_at inside) mid r new → MayName l.view l.at names (target_at inside) old r new
  target_after {old = old} {mid = mid} inside names h m =
      let first : MayRead {A = A} l.view l.at (λ (u : Unit {0}). u) (text_at (codes "^")) old (Ok tt) mid = record { answers = h } in
      after_may l (Represents names (whole (l.view old))) (λ n x k. still_represents names names n x (λ i text e. e) (may_whole l first) k) first m

  -- a symbol was parsed
  pub symbol_read : {old new : S} (symbol : Symbol) → MustRead {A = A} l.view l.at (λ name. name) mark_and_name old (Ok symbol.name) new → IsPlaceAfter symbol.at (l.view old).passed → MustMean {A = A} l.view l.at (IsSymbol (whole (l.view old))) symbol_at old (Ok symbol) new
  symbol_read {old = old} symbol h p =
      let place = length (l.view old).rest in
      record {
        meant = λ _. name_of place symbol.name;
        means = record { named = refl; place = record { passed = (l.view old).passed; rest = (l.view old).rest; same = refl; positioned = p; counts = refl } };
        read = record { answers = (seen_alone l {A = A} (λ (s : Symbol). name_of place symbol.name) (name_of place) symbol refl h).answers };
      }

  -- it is an error
  pub symbol_refused : {Means : Symbol → Name ℕ → Type 0} {old new : S} {fault : ParseFault A} → MustRead {Y = Text} l.view l.at (λ name. name) mark_and_name old (Err fault) new → MustMean l.view l.at Means symbol_at old (Err fault) new
  symbol_refused {old = old} {new = new} {fault = fault} h =
      let place = length (l.view old).rest in
      record { meant = λ _. nobody; means = tt; read = record { answers = refuses_mapped_demanded l.view l.at l.view_at l.at_at (name_of place) (l.view old).failed (mark_and_name (l.view old).rest) old new fault h.answers } }

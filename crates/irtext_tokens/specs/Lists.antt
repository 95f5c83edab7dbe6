-- Lists of items, over the calls of any item's parser.
use Rattle.std.specs.Prelude.{◌≡◌, ℕ, ◌<◌, Bool, true, false, Option, Some, None, Result, Ok, Err, List, [], ◌∷◌, ◌++◌, Vec, length}
use Rattle.std.specs.Fn.{CalledAtMut, Mut}
use Rattle.std.specs.Borrow.{MutBor}
use Rattle.std.specs.Char.{is_whitespace}
use Rattle.irtext_base.specs.Text.{Text, begins, front, after_space}
use Rattle.irtext_base.specs.Reading.{the}
use Rattle.irtext_base.specs.Stream.{StreamView, first_of, advanced, after_taken, after_failure}
use Rattle.irtext_base.specs.Faults.{Failed, EmptyItem, BadSeparator, Unexpected, Word}
use Rattle.irtext_base.specs.Answers.{RunsOutHere, Commits, Passes}
use Rattle.irtext_base.specs.declared.parsable.fault.ParseFault.{ParseFault}
use Rattle.irtext_tokens.specs.declared.irfmt.separator.ListSeparator.{ListSeparator}
use Rattle.irtext_tokens.specs.declared.irfmt.separator.ListSeparator.TheVariants as separator

-- the white space at the beginning of a text
abbrev pub spaces : Text → Text
spaces text = front is_whitespace text

-- the stream after the white space that comes next
abbrev pub skipped : StreamView → StreamView
skipped v = after_taken v (spaces v.rest) (after_space v.rest)

-- the character of a separator, if it has one
abbrev pub character_of : ListSeparator → Option ℕ
character_of separator.None = None
character_of separator.Newline = None
character_of (separator.CharNewline c) = Some c
character_of (separator.Char c) = Some c
character_of (separator.CharSpace c) = Some c

-- the parsed items as a list, without their allocation
abbrev pub listed : {X E Z : Type 0} → Result (Vec X Z) E → Result (List X) E
listed (Ok found) = Ok found.items
listed (Err fault) = Err fault

-- the result of more items, with these items before them
abbrev pub prepended : {X E : Type 0} → List X → Result (List X) E → Result (List X) E
prepended xs (Ok ys) = Ok (xs ++ ys)
prepended xs (Err fault) = Err fault

-- a call of the item's parser on f and s may return r, and leave g and t
pub record Calls {S F R X A : Type 0} (seen : R → Result X (ParseFault A)) (item : Mut F (MutBor S × Unit {0}) (R × (MutBor S × Unit {0}))) (f : F) (s : S) (r : Result X (ParseFault A)) (g : F) (t : S) : Type 0 where
  pub answer : R
  pub called : CalledAtMut item f s answer g t
  pub is : seen answer ≡ r

module _ {S : Type 0} (view : S → StreamView) (at : S → StreamView → S) where
  -- what an item that is parsed does to a stream: the text that is left is the old one or a suffix of it
  pub record MovesOn (old new : S) : Type 0 where
    pub taken : Text
    pub same : taken ++ (view new).rest ≡ (view old).rest
    pub passed : (view new).passed ≡ (view old).passed ++ taken
    pub fails : (view new).failed ≡ (view old).failed

  -- the rules of errors: a value leaves the old text or a suffix of it, an uncommitted error leaves the stream unchanged, and a committed
  -- error leaves it failed
  abbrev pub KeepsRules : {Y A : Type 0} → S → Result Y (ParseFault A) → S → Type 0
  KeepsRules old (Ok y) new = MovesOn old new
  KeepsRules old (Err fault) new = (fault.committed ≡ false → new ≡ old) × (fault.committed ≡ true → (view new).failed ≡ true)

  -- the error of a required item: an uncommitted one becomes committed, and the stream is marked as failed
  pub record Insisted {A : Type 0} (fault : ParseFault A) (old : S) (last : ParseFault A) (new : S) : Type 0 where
    pub cause : last.cause ≡ fault.cause
    pub place : last.pos ≡ fault.pos
    pub committed : last.committed ≡ true
    pub already : fault.committed ≡ true → new ≡ old
    pub failing : fault.committed ≡ false → new ≡ at old (after_failure (view old))

  -- on a failed stream the committed error `StreamFailed`, and otherwise a result that the relation allows
  abbrev pub UnlessFailed : {Y A : Type 0} → (S → Result Y (ParseFault A) → S → Type 0) → Bool → S → Result Y (ParseFault A) → S → Type 0
  UnlessFailed R true old (Ok y) new = ⊥
  UnlessFailed R true old (Err fault) new = Commits view at Failed [] old fault new
  UnlessFailed R false old result new = R old result new

  -- the new stream is the old one after white space
  abbrev pub Skips : S → S → Type 0
  Skips old new = new ≡ at old (skipped (view old))

  -- the new stream is the old one after this character and white space
  pub record Opens (c : ℕ) (old new : S) : Type 0 where
    pub mid : S
    pub begins_so : begins (the c) (view old).rest ≡ true
    pub taken : mid ≡ at old (advanced (view old))
    pub skips : Skips mid new

  -- every call of the item's parser keeps the rules
  abbrev pub AlwaysKeepsRules : {F R X A : Type 0} → (R → Result X (ParseFault A)) → Mut F (MutBor S × Unit {0}) (R × (MutBor S × Unit {0})) → Type 0
  AlwaysKeepsRules {F} {R} seen item = (f : F) (s : S) (answer : R) (g : F) (t : S) → CalledAtMut item f s answer g t → KeepsRules s (seen answer) t

  module _ {F X A : Type 0} (calls : F → S → Result X (ParseFault A) → F → S → Type 0) where
    -- Items with white space after each, until one is missing. An item that consumes no character is an error.
    pub data Items : F → S → Result (List X) (ParseFault A) → S → Type 0 where
      missing : (f : F) (s : S) (fault : ParseFault A) (g : F) (t : S) → calls f s (Err fault) g t → fault.committed ≡ false → Items f s (Ok []) t
      bad : (f : F) (s : S) (fault : ParseFault A) (g : F) (t : S) → calls f s (Err fault) g t → fault.committed ≡ true → Items f s (Err fault) t
      empty : (f : F) (s : S) (x : X) (g : F) (t : S) (fault : ParseFault A) (u : S) → calls f s (Ok x) g t → (view t).rest ≡ (view s).rest → Commits view at EmptyItem [] t fault u → Items f s (Err fault) u
      no_room : (f : F) (s : S) (x : X) (g : F) (t : S) (fault : ParseFault A) (u : S) → calls f s (Ok x) g t → RunsOutHere view at t fault u → Items f s (Err fault) u
      more : (f : F) (s : S) (x : X) (g : F) (t b : S) (r q : Result (List X) (ParseFault A)) (u : S) → calls f s (Ok x) g t → length (view t).rest < length (view s).rest → Skips t b
          → Items g b r u → q ≡ prepended (x ∷ []) r → Items f s q u

    -- White space, and items with white space after each.
    pub record SpacedItems (f : F) (s : S) (r : Result (List X) (ParseFault A)) (u : S) : Type 0 where
      pub mid : S
      pub skips : Skips s mid
      pub items : Items f mid r u

    -- After an item and white space: no separator, or a separator, white space and a required item, any number of times.
    pub data Tail (sep : ℕ) : F → S → Result (List X) (ParseFault A) → S → Type 0 where
      none : (f : F) (s : S) → begins (the sep) (view s).rest ≡ false → Tail sep f s (Ok []) s
      insisted : (f : F) (s b : S) (fault last : ParseFault A) (g : F) (t u : S) → Opens sep s b → calls f b (Err fault) g t → Insisted fault t last u → Tail sep f s (Err last) u
      no_more_room : (f : F) (s b : S) (x : X) (g : F) (t : S) (fault : ParseFault A) (u : S) → Opens sep s b → calls f b (Ok x) g t → RunsOutHere view at t fault u → Tail sep f s (Err fault) u
      next : (f : F) (s b : S) (x : X) (g : F) (t d : S) (r q : Result (List X) (ParseFault A)) (u : S) → Opens sep s b → calls f b (Ok x) g t → Skips t d
          → Tail sep g d r u → q ≡ prepended (x ∷ []) r → Tail sep f s q u

    -- the same, with the items that were found before
    abbrev pub TailAfter : ℕ → List X → F → S → Result (List X) (ParseFault A) → S → Type 0
    TailAfter sep xs f s q u = (r : Result (List X) (ParseFault A)) × Tail sep f s r u × (q ≡ prepended xs r)

    -- No item, or an item, white space and the tail.
    pub data Separated (sep : ℕ) : F → S → Result (List X) (ParseFault A) → S → Type 0 where
      no_item : (f : F) (s : S) (fault : ParseFault A) (g : F) (t : S) → calls f s (Err fault) g t → fault.committed ≡ false → Separated sep f s (Ok []) t
      bad_item : (f : F) (s : S) (fault : ParseFault A) (g : F) (t : S) → calls f s (Err fault) g t → fault.committed ≡ true → Separated sep f s (Err fault) t
      no_first_room : (f : F) (s : S) (x : X) (g : F) (t : S) (fault : ParseFault A) (u : S) → calls f s (Ok x) g t → RunsOutHere view at t fault u → Separated sep f s (Err fault) u
      an_item : (f : F) (s : S) (x : X) (g : F) (t b : S) (q : Result (List X) (ParseFault A)) (u : S) → calls f s (Ok x) g t → Skips t b → TailAfter sep (x ∷ []) g b q u → Separated sep f s q u

    -- The left character, white space, the list of items with a separator, and the right character.
    pub data Delimited (left right sep : ℕ) : F → S → Result (List X) (ParseFault A) → S → Type 0 where
      no_left : (f : F) (s : S) (fault : ParseFault A) (u : S) → begins (the left) (view s).rest ≡ false → Passes view at (Unexpected (first_of (view s).rest) (Word (left ∷ []))) s fault u → Delimited left right sep f s (Err fault) u
      bad_inside : (f : F) (s b : S) (fault : ParseFault A) (u : S) → Opens left s b → Separated sep f b (Err fault) u → Delimited left right sep f s (Err fault) u
      no_right : (f : F) (s b : S) (xs : List X) (t : S) (fault : ParseFault A) (u : S) → Opens left s b → Separated sep f b (Ok xs) t → begins (the right) (view t).rest ≡ false
          → Commits view at (Unexpected (first_of (view t).rest) (Word (right ∷ []))) [] t fault u → Delimited left right sep f s (Err fault) u
      closed : (f : F) (s b : S) (xs : List X) (t u : S) → Opens left s b → Separated sep f b (Ok xs) t → begins (the right) (view t).rest ≡ true → u ≡ at t (advanced (view t)) → Delimited left right sep f s (Ok xs) u

    -- items with this character between them; the error `BadSeparator` if it is white space
    abbrev pub WithCharacter : Bool → ℕ → F → S → Result (List X) (ParseFault A) → S → Type 0
    WithCharacter true c f s (Ok xs) u = ⊥
    WithCharacter true c f s (Err fault) u = Passes view at BadSeparator s fault u
    WithCharacter false c f s r u = Separated c f s r u

    -- items with the separator's character between them, or with white space after each if it has no character
    abbrev pub WithSeparator : Option ℕ → F → S → Result (List X) (ParseFault A) → S → Type 0
    WithSeparator None f s r u = Items f s r u
    WithSeparator (Some c) f s r u = WithCharacter (is_whitespace c) c f s r u

    -- White space, the item, and white space. White space before the item counts as consumed: after it the item is required.
    pub data Spaced (f : F) (s : S) : Result X (ParseFault A) → S → Type 0 where
      read : (b : S) (x : X) (g : F) (t u : S) → Skips s b → calls f b (Ok x) g t → Skips t u → Spaced f s (Ok x) u
      refused : (fault : ParseFault A) (g : F) (u : S) → begins is_whitespace (view s).rest ≡ false → calls f s (Err fault) g u → Spaced f s (Err fault) u
      refused_after : (b : S) (fault last : ParseFault A) (g : F) (t u : S) → begins is_whitespace (view s).rest ≡ true → Skips s b → calls f b (Err fault) g t → Insisted fault t last u → Spaced f s (Err last) u

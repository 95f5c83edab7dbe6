-- For callers: when the text of a location is parsed back, and what is left of the text then.
use Rattle.std.specs.Prelude.{◌≡◌, ℕ, true, false, Option, List, ◌++◌, IfSome, ⊤}
use Rattle.std.specs.Char.{is_ascii_digit}
use Rattle.std.specs.Str.{IsUtf8}
use Rattle.irtext_base.specs.Text.{Text, begins, after_space, begins_word}
use Rattle.irtext_base.specs.Answers.{Outcome, Read}
use Rattle.irtext_base.specs.Locations.{AttrView, src_pos, fused, named, call_site, unknown, LocationsOf, no_location, location}
use Rattle.irtext_base.specs.Own.{Ends}
use Rattle.irtext_base.specs.Paths.{Written}
use Rattle.irtext_grammar.specs.Spelling.AttrText.{attr_text}
use Rattle.irtext_grammar.specs.Promises.PrintedBack.{Fits32}

-- the value is parsed from the text, with this rest
pub record GivesBack {X : Type 0} (o : Outcome X) (x : X) (text left : Text) : Type 0 where
  pub taken : Text
  pub is : o ≡ Read x taken left
  pub whole : taken ++ left ≡ text

-- an attribute's text begins with a letter or `_`, and is parsed back before an end; what is left is that end, up to white space at its
-- front
pub record AttrReads {A : Type 0} (attr : Text → Outcome (AttrView A)) (text_of : A → Text) (a : AttrView A) : Type 0 where
  pub starts : (rest : Text) → begins begins_word (attr_text text_of a ++ rest) ≡ true
  pub again : (rest : Text) → Ends rest → (left : Text) × GivesBack (attr (attr_text text_of a ++ rest)) a (attr_text text_of a ++ rest) left × (after_space left ≡ after_space rest)

module _ {A : Type 0} where
  abbrev mutual
    -- each attribute in the location is parsed back
    pub AllRead : (Text → Outcome (AttrView A)) → (A → Text) → Written A → Type 0
    AllRead attr text_of (src_pos s at) = ⊤
    AllRead attr text_of (fused metadata ls) = IfSome metadata (AttrReads attr text_of) × RowRead attr text_of ls
    AllRead attr text_of (named name child) = AllRead attr text_of child
    AllRead attr text_of (call_site callee caller) = AllRead attr text_of callee × AllRead attr text_of caller
    AllRead attr text_of unknown = ⊤

    -- the same of each location in a list
    pub RowRead : (Text → Outcome (AttrView A)) → (A → Text) → LocationsOf (Option (List ℕ)) A → Type 0
    RowRead attr text_of no_location = ⊤
    RowRead attr text_of (location l ls) = AllRead attr text_of l × RowRead attr text_of ls

  abbrev mutual
    -- each path and each name in the location is UTF-8, and each line and each column fits 32 bits
    pub AllFit : Written A → Type 0
    AllFit (src_pos s at) = IfSome s IsUtf8 × Fits32 at
    AllFit (fused metadata ls) = RowFit ls
    AllFit (named name child) = IsUtf8 name × AllFit child
    AllFit (call_site callee caller) = AllFit callee × AllFit caller
    AllFit unknown = ⊤

    -- the same of each location in a list
    pub RowFit : LocationsOf (Option (List ℕ)) A → Type 0
    RowFit no_location = ⊤
    RowFit (location l ls) = AllFit l × RowFit ls

  -- what is left of a text after a location: a call site also takes the white space after it
  abbrev pub left_after : Written A → Text → Text
  left_after (call_site callee caller) rest = after_space rest
  left_after _ rest = rest

-- the text of a location ends here: no digit follows, which would continue its column
abbrev pub EndsLocation : Text → Type 0
EndsLocation rest = begins is_ascii_digit rest ≡ false

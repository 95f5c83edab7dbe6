-- What is missing where nothing of it begins: a name, and a list of what begins with a name.
use Rattle.std.proofs.Common.{◌≡◌, ℕ, Bool, true, false, not, ◌&&◌, Ok, Some, None, List, [], ◌∷◌, codes, refl, sym, ◌∙◌, ap, true≢false}
use Rattle.irtext_base.specs.Text.{Text, begins, begins_word}
use Rattle.irtext_base.specs.Reading.{the}
use Rattle.irtext_base.specs.Stream.{first_of}
use Rattle.irtext_base.specs.Faults.{Fault, Unexpected, AnIdentifier, Word}
use Rattle.irtext_base.specs.Answers.{Outcome, Missing, followed}
use Rattle.irtext_base.proofs.Compose.{takes_none}
use Rattle.irtext_tokens.specs.ListOutcomes.{separated_at}
use Rattle.irtext_tokens.specs.Tokens.{word_at}
use Rattle.irtext_tokens.proofs.Steps.{Lens}
use Rattle.irtext_grammar.specs.Grammar.Tree.{Name}
use Rattle.irtext_grammar.specs.Heads.{name_at, target_at, outside}
use Rattle.irtext_grammar.specs.declared.parsed.NameKind.{NameKind}
use Rattle.irtext_grammar.specs.declared.parsed.NameKind.TheVariants as kind
use Rattle.irtext_parse_pieces.specs.Kinds.{beginning, named_at}
use Rattle.irtext_parse_pieces.specs.Named.{MustMean}

-- the value is missing, and nothing was taken
abbrev pub IsMissing : {X : Type 0} → Outcome X → Type 0
IsMissing o = (cause : Fault) × (o ≡ Missing cause)

-- so is all that begins with it
pub missing_followed : {X Y : Type 0} {o : Outcome X} (k : X → Text → Outcome Y) → IsMissing o → IsMissing (followed o k)
missing_followed k m = (m.0, ap (λ z. followed z k) m.1)

missing_outside : {o : Outcome (Name ℕ)} → IsMissing o → IsMissing (outside o)
missing_outside m = (m.0, ap outside m.1)

-- a name is missing if the text begins with neither a letter nor `_`
pub no_name_begins : (text : Text) → begins begins_word text ≡ false → IsMissing (name_at text)
unfolding word_at
no_name_begins text b = (Unexpected (first_of text) AnIdentifier, rw b refl)

no_label_begins : (inside : Bool) (text : Text) → begins (the 94) text ≡ false → IsMissing (target_at inside text)
no_label_begins inside [] b = (Unexpected None (Word (codes "^")), refl)
no_label_begins inside (c ∷ text) b = (Unexpected (Some c) (Word (codes "^")), rw b refl)

-- a name that is used is missing where nothing of its kind begins
pub none_begins : (kind : NameKind) (inside : Bool) (text : Text) → begins (beginning kind) text ≡ false → IsMissing (named_at kind inside text)
none_begins kind.Value true text b = no_name_begins text b
none_begins kind.Value false text b = missing_outside (no_name_begins text b)
none_begins kind.Block inside text b = no_label_begins inside text b

neither : (a b : Bool) → not a && not b ≡ true → (a ≡ false) × (b ≡ false)
neither false false e = (refl, refl)
neither false true e = absurd (true≢false (sym e))
neither true b e = absurd (true≢false (sym e))

module _ {S X : Type 0} (l : Lens S) (item : Text → Outcome X) where
  -- where the first item is missing there are none
  pub list_absent : {A W : Type 0} {MeansAll : W → List X → Type 0} {old : S} (w : W) → (l.view old).failed ≡ false → IsMissing (item (l.view old).rest) → MeansAll w [] → MustMean {A = A} l.view l.at MeansAll (separated_at 44 item) old (Ok w) old
  list_absent {old = old} w f m h = record { meant = λ _. []; means = h; read = record { answers = rw (f, m.1) (refl, takes_none l.view l.at l.view_at l.at_at l.at_view old) } }

  -- the same if no name of a kind begins and each item begins with one
  pub list_unbegun : {A W : Type 0} {MeansAll : W → List X → Type 0} {old : S} (kind : NameKind) {b : Bool} → ((text : Text) → begins (beginning kind) text ≡ false → IsMissing (item text)) → b ≡ (not (l.view old).failed && not (begins (beginning kind) (l.view old).rest)) → b ≡ true
      → (w : W) → MeansAll w [] → MustMean {A = A} l.view l.at MeansAll (separated_at 44 item) old (Ok w) old
  list_unbegun {old = old} kind missing e t w h =
      let n = neither (l.view old).failed (begins (beginning kind) (l.view old).rest) (sym e ∙ t) in
      list_absent w n.0 (missing (l.view old).rest n.1) h

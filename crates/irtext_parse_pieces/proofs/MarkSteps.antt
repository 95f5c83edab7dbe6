-- Steps of the parser of marks.
use Rattle.std.proofs.Common.{◌≡◌, ℕ, true, false, Ok, Err, Option, Some, None, length, refl}
use Rattle.irtext_base.specs.Text.{Text, begins}
use Rattle.irtext_base.specs.Reading.{the}
use Rattle.irtext_base.specs.Answers.{mapped}
use Rattle.irtext_base.specs.declared.parsable.fault.ParseFault.{ParseFault}
use Rattle.irtext_base.proofs.Compose.{takes_none, refuses_mapped_demanded}
use Rattle.irtext_stream.specs.Places.{IsPlaceAfter}
use Rattle.irtext_tokens.specs.Demanded.{index_at}
use Rattle.irtext_tokens.specs.MustRead.{MustRead}
use Rattle.irtext_tokens.proofs.Steps.{Lens, seen_alone, mapped_mapped}
use Rattle.irtext_grammar.specs.Grammar.Tree.{Mark}
use Rattle.irtext_grammar.specs.Heads.{mark_if_at}
use Rattle.irtext_grammar.specs.declared.parsed.ReadMark.{ReadMark}
use Rattle.irtext_grammar.specs.Parsed.{IsMarkIf}
use Rattle.irtext_parse_pieces.specs.Named.{whole, MustMean}

-- the mark of an index, at a place
abbrev mark_of : ℕ → ℕ → Mark ℕ
mark_of place i = record { place = place; index = i }

-- the same, where there is one
abbrev marked : ℕ → ℕ → Option (Mark ℕ)
marked place i = Some (mark_of place i)

-- if the text begins with `!`, a mark is an index
mark_is : (text : Text) → begins (the 33) text ≡ true → mark_if_at text ≡ mapped (marked (length text)) (index_at text)
mark_is text b = rw b (mapped_mapped Some (mark_of (length text)) (marked (length text)) (index_at text) (λ x. refl))

module _ {S A : Type 0} (l : Lens S) where
  -- no mark follows
  pub no_mark : {old : S} → (l.view old).failed ≡ false → begins (the 33) (l.view old).rest ≡ false → MustMean {A = A} l.view l.at (IsMarkIf (whole (l.view old))) mark_if_at old (Ok None) old
  no_mark {old = old} f b = record { meant = λ _. None; means = tt; read = record { answers = rw (f, b) (refl, takes_none l.view l.at l.view_at l.at_at l.at_view old) } }

  -- an index was parsed after `!`
  pub mark_there : {old new : S} (mark : ReadMark) → begins (the 33) (l.view old).rest ≡ true → MustRead {A = A} l.view l.at (λ n. n) index_at old (Ok mark.index) new → IsPlaceAfter mark.at (l.view old).passed
      → MustMean {A = A} l.view l.at (IsMarkIf (whole (l.view old))) mark_if_at old (Ok (Some mark)) new
  mark_there {old = old} mark b h p =
      let place = length (l.view old).rest in
      record {
        meant = λ _. marked place mark.index;
        means = record { indexed = refl; place = record { passed = (l.view old).passed; rest = (l.view old).rest; same = refl; positioned = p; counts = refl } };
        read = record { answers = rw (mark_is (l.view old).rest b) (seen_alone l {A = A} (λ (m : Option ReadMark). marked place mark.index) (marked place) (Some mark) refl h).answers };
      }

  -- no index follows it
  pub mark_refused : {Means : Option ReadMark → Option (Mark ℕ) → Type 0} {old new : S} {fault : ParseFault A} → begins (the 33) (l.view old).rest ≡ true → MustRead {Y = ℕ} l.view l.at (λ n. n) index_at old (Err fault) new → MustMean l.view l.at Means mark_if_at old (Err fault) new
  mark_refused {old = old} {new = new} {fault = fault} b h =
      record { meant = λ _. None; means = tt; read = record { answers = rw (mark_is (l.view old).rest b) (refuses_mapped_demanded l.view l.at l.view_at l.at_at (marked (length (l.view old).rest)) (l.view old).failed (index_at (l.view old).rest) old new fault h.answers) } }

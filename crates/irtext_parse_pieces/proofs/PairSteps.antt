-- Steps of the parsers of a name, `:`, and a value.
use Rattle.std.proofs.Common.{◌≡◌, ℕ, Result, Ok, Err, refl, codes}
use Rattle.irtext_base.specs.Answers.{Outcome, mapped, followed}
use Rattle.irtext_base.specs.Text.{Text}
use Rattle.irtext_base.specs.declared.parsable.fault.ParseFault.{ParseFault}
use Rattle.irtext_tokens.specs.Demanded.{spaced_at}
use Rattle.irtext_tokens.specs.MustRead.{MustRead}
use Rattle.irtext_tokens.proofs.Steps.{Lens, begins_with, begins_refused, begun_by, more, refuses, refuses_seen, last_seen}
use Rattle.irtext_grammar.specs.Grammar.Tree.{Name}
use Rattle.irtext_grammar.specs.Heads.{name_at}
use Rattle.irtext_parse_pieces.specs.Beside.{paired}
use Rattle.irtext_parse_pieces.specs.Named.{MayMean}
use Rattle.irtext_parse_pieces.proofs.Meanings.{may_refuse, may_unread}

module _ {V : Type 0} (value : Text → Outcome V) where
  -- what follows the colon
  abbrev after_colon : Name ℕ → Unit {0} → Text → Outcome (Name ℕ × V)
  after_colon n u t = mapped (λ v. (n, v)) (value t)

  -- what follows the name
  abbrev after_name : Name ℕ → Text → Outcome (Name ℕ × V)
  after_name n t = followed (spaced_at (codes ":") t) (after_colon n)

  -- a name, `:`, and a value
  abbrev pub pair : Text → Outcome (Name ℕ × V)
  pair t = followed (name_at t) after_name

module _ {S A Y Z V : Type 0} (l : Lens S) (value : Text → Outcome V) (seen : Z → V) {Means : Y → Name ℕ → Type 0} {old : S} where
  -- there is no name
  pub pair_unnamed : {Other : Y × Z → Name ℕ × V → Type 0} {fault : ParseFault A} {new : S} → MayMean l.view l.at Means name_at old (Err fault) new → MayMean l.view l.at Other (pair value) old (Err fault) new
  pair_unnamed h = may_refuse l (begins_refused l (λ w. (h.meant w.0, seen w.1)) (after_name value) h.read)

  module _ {s1 : S} {y : Y} (name : MayMean {A = A} l.view l.at Means name_at old (Ok y) s1) where
    -- there is no colon
    pub pair_alone : {Other : Y × Z → Name ℕ × V → Type 0} {fault : ParseFault A} {new : S} → MustRead {Y = Unit {0}} l.view l.at (λ u. u) (spaced_at (codes ":")) s1 (Err fault) new → MayMean l.view l.at Other (pair value) old (Err fault) new
    pair_alone h = may_unread l (after_name value) name.read (refuses l {sees = λ w. (name.meant y, seen w.1)} (after_colon value (name.meant y)) (begins_with l (after_name value) name.read) h)

    module _ {s2 : S} (colon : MustRead {A = A} {Y = Unit {0}} l.view l.at (λ u. u) (spaced_at (codes ":")) s1 (Ok tt) s2) where
      -- the value is an error
      pub pair_unvalued : {Other : Y × Z → Name ℕ × V → Type 0} {fault : ParseFault A} {new : S} → MustRead l.view l.at seen value s2 (Err fault) new → MayMean l.view l.at Other (pair value) old (Err fault) new
      pair_unvalued h =
          let q = more l (after_colon value (name.meant y)) (begins_with l (after_name value) name.read) colon in
          may_unread l (after_name value) name.read (refuses_seen l {sees = λ w. (name.meant y, seen w.1)} (λ v. (name.meant y, v)) q h)

      -- all of it was parsed
      pub pair_read : {z : Z} {new : S} → MustRead {A = A} l.view l.at seen value s2 (Ok z) new → MayMean {A = A} l.view l.at (λ (w : Y × Z) (x : Name ℕ × V). Means w.0 x.0 × (seen w.1 ≡ x.1)) (pair value) old (Ok (y, z)) new
      pair_read {z = z} h =
          let q = more l (after_colon value (name.meant y)) (begins_with l (after_name value) name.read) colon in
          record {
            meant = λ _. (name.meant y, seen z);
            means = (name.means, refl);
            read = begun_by l (after_name value) name.read (last_seen l (λ _. (name.meant y, seen z)) (λ v. (name.meant y, v)) (y, z) refl q h);
          }

      -- all of it was parsed, or the value is an error
      pub pair_ended : (w : Result Z (ParseFault A)) {r : Result (Y × Z) (ParseFault A)} {new : S} → r ≡ paired y w → MustRead l.view l.at seen value s2 w new → MayMean {A = A} l.view l.at (λ (w : Y × Z) (x : Name ℕ × V). Means w.0 x.0 × (seen w.1 ≡ x.1)) (pair value) old r new
      pair_ended (Ok z) e h = rw e (pair_read h)
      pair_ended (Err fault) e h = rw e (pair_unvalued h)

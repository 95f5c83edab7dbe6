-- Parsers that need no memory if the text has what they parse.
use Rattle.std.proofs.Common.{◌≡◌, ℕ, Bool, true, false, Option, Result, Ok, Err, [], ◌∷◌, codes, ap, subst, sym}
use Rattle.std.specs.Char.{is_ascii_digit, is_ascii_hexdigit}
use Rattle.irtext_base.specs.Text.{Text, begins}
use Rattle.irtext_base.specs.Reading.{the}
use Rattle.irtext_base.specs.Stream.{StreamView}
use Rattle.irtext_base.specs.Answers.{Outcome, Read, Missing, Bad, Takes, Gives, DemandsOf, NeedsNoMemory, mapped, followed, unless_failed}
use Rattle.irtext_base.specs.declared.parsable.fault.ParseFault.{ParseFault}
use Rattle.irtext_base.proofs.Compose.{seen_after}
use Rattle.irtext_tokens.specs.Integers.{no_digit_after, sign_at, before_hexadecimal, numeral_at, bool_at}
use Rattle.irtext_tokens.specs.Tokens.{text_at, sign_of, after_sign}

module _ {X A : Type 0} where
  -- a stream that had failed parses nothing
  pub failed_spares : (Y : Type 0) (b : Bool) (o : Outcome X) (fault : ParseFault A) → b ≡ true → NeedsNoMemory {Y = Y} (unless_failed b o) (Err fault)
  failed_spares Y b o fault e = rw e tt

  -- what is no value is none on a failed stream
  pub unread_spares : (Y : Type 0) (b : Bool) (o : Outcome X) (fault : ParseFault A) → NeedsNoMemory {Y = Y} o (Err fault) → NeedsNoMemory {Y = Y} (unless_failed b o) (Err fault)
  unread_spares Y true o fault h = tt
  unread_spares Y false o fault h = h

  -- what is no value is none, however it is seen
  pub mapped_spares : {V : Type 0} (Y W : Type 0) (see : X → V) (o : Outcome X) (fault last : ParseFault A) → NeedsNoMemory {Y = Y} o (Err fault) → NeedsNoMemory {Y = W} (mapped see o) (Err last)
  mapped_spares Y W see (Read x taken rest) fault last h = absurd h
  mapped_spares Y W see (Missing cause) fault last h = tt
  mapped_spares Y W see (Bad cause upto) fault last h = tt

  -- if the first of two parsers returns no value, both return none
  pub followed_spares : {V : Type 0} (Y W : Type 0) (b : Bool) (o : Outcome X) (next : X → Text → Outcome V) (fault last : ParseFault A) → NeedsNoMemory {Y = Y} (unless_failed b o) (Err fault) → NeedsNoMemory {Y = W} (unless_failed b (followed o next)) (Err last)
  followed_spares Y W true o next fault last h = tt
  followed_spares Y W false (Read x taken rest) next fault last h = absurd h
  followed_spares Y W false (Missing cause) next fault last h = tt
  followed_spares Y W false (Bad cause upto) next fault last h = tt

  -- if the parser of what precedes digits returns no value, that of the number returns none
  pub lead_spares : {V : Type 0} (Y W : Type 0) (digit : ℕ → Bool) (make : X → Text → Option V) (b : Bool) (o : Outcome X) (fault last : ParseFault A) → NeedsNoMemory {Y = Y} (unless_failed b o) (Err fault) → NeedsNoMemory {Y = W} (unless_failed b (numeral_at digit make o)) (Err last)
  lead_spares Y W digit make true o fault last h = tt
  lead_spares Y W digit make false (Read x taken rest) fault last h = absurd h
  lead_spares Y W digit make false (Missing cause) fault last h = tt
  lead_spares Y W digit make false (Bad cause upto) fault last h = tt

  -- what is no value is none, whatever the fault says
  pub err_spares : (Y : Type 0) (o : Outcome X) (fault last : ParseFault A) → NeedsNoMemory {Y = Y} o (Err fault) → NeedsNoMemory {Y = Y} o (Err last)
  err_spares Y (Read x taken rest) fault last h = h
  err_spares Y (Missing cause) fault last h = tt
  err_spares Y (Bad cause upto) fault last h = tt

  -- what is no value when seen is none
  pub unmapped_spares : {V : Type 0} (Y : Type 0) (see : X → V) (b : Bool) (o : Outcome X) (r : Result Y (ParseFault A)) → NeedsNoMemory (unless_failed b (mapped see o)) r → NeedsNoMemory (unless_failed b o) r
  unmapped_spares Y see b o (Ok y) h = tt
  unmapped_spares Y see true o (Err fault) h = tt
  unmapped_spares Y see false (Read x taken rest) (Err fault) h = h
  unmapped_spares Y see false (Missing cause) (Err fault) h = tt
  unmapped_spares Y see false (Bad cause upto) (Err fault) h = tt

module _ {A : Type 0} where
  -- where no digit follows, nothing is parsed
  pub no_digit_spares : (X Y : Type 0) (sign text : Text) (fault : ParseFault A) → NeedsNoMemory {X = X} {Y = Y} (no_digit_after sign text) (Err fault)
  no_digit_spares X Y [] text fault = tt
  no_digit_spares X Y (c ∷ sign) text fault = tt

  -- what begins as `true` and differs later is no truth value
  pub true_spares : (Y W : Type 0) (b : Bool) (text : Text) (fault last : ParseFault A) → b ≡ false → begins (the 116) text ≡ true → NeedsNoMemory {Y = Y} (unless_failed b (text_at (codes "true") text)) (Err fault) → NeedsNoMemory {Y = W} (unless_failed b (bool_at text)) (Err last)
  unfolding bool_at
  true_spares Y W b text fault last e q h = rw (e, q) (mapped_spares Y W (λ _. true) (text_at (codes "true") text) fault last (rw e at h))

  -- what begins as `false` and differs later is no truth value
  pub false_spares : (Y W : Type 0) (b : Bool) (text : Text) (fault last : ParseFault A) → b ≡ false → begins (the 116) text ≡ false → begins (the 102) text ≡ true → NeedsNoMemory {Y = Y} (unless_failed b (text_at (codes "false") text)) (Err fault) → NeedsNoMemory {Y = W} (unless_failed b (bool_at text)) (Err last)
  unfolding bool_at
  false_spares Y W b text fault last e n q h = rw (e, n, q) (mapped_spares Y W (λ _. false) (text_at (codes "false") text) fault last (rw e at h))

  -- where neither begins, there is no truth value
  pub neither_spares : (Y : Type 0) (b : Bool) (text : Text) (fault : ParseFault A) → begins (the 116) text ≡ false → begins (the 102) text ≡ false → NeedsNoMemory {Y = Y} (unless_failed b (bool_at text)) (Err fault)
  unfolding bool_at
  neither_spares Y b text fault n m = unread_spares Y b _ fault (rw (n, m) tt)

module _ {S X Y A : Type 0} (view : S → StreamView) (at : S → StreamView → S) (mid new : S) where
  -- a result whose error is committed needs no memory if the result before needed none
  pub demanded_spares : (o : Outcome X) (a r : Result Y (ParseFault A)) → NeedsNoMemory o a → DemandsOf view at a mid r new → NeedsNoMemory o r
  demanded_spares o (Ok y) r h d = subst (λ r. NeedsNoMemory o r) (sym d.0) tt
  demanded_spares o (Err fault) r h d = subst (λ r. NeedsNoMemory o r) (sym d.1) (err_spares Y o fault d.0 h)

module _ {S A : Type 0} (view : S → StreamView) (at : S → StreamView → S) (view_at : (s : S) (v : StreamView) → view (at s v) ≡ v) (at_at : (s : S) (v w : StreamView) → at (at s v) w ≡ at s w) where
  -- a mark without a hexadecimal digit after it is not parsed
  pub mark_spares : (Y : Type 0) (b : Bool) (o : Outcome Unit) (old mid : S) (u : Unit {0}) (fault : ParseFault A) → Gives view at (unless_failed b o) old u mid → begins is_ascii_hexdigit (view mid).rest ≡ false → NeedsNoMemory {Y = Y} (unless_failed b (followed o (λ v text. before_hexadecimal text))) (Err fault)
  mark_spares Y true o old mid u fault h e = tt
  mark_spares Y false (Read x t r) old mid u fault h e =
      let f : begins is_ascii_hexdigit r ≡ false = subst (λ z. begins is_ascii_hexdigit z ≡ false) (ap (λ v. v.rest) (seen_after view at view_at at_at old mid t r h.1)) e in
      rw f tt
  mark_spares Y false (Missing cause) old mid u fault h e = absurd h
  mark_spares Y false (Bad cause upto) old mid u fault h e = absurd h

  -- an optional sign without a digit after it is not parsed
  pub sign_spares : (Y : Type 0) (old mid : S) (fault : ParseFault A) → Takes view at (sign_of (view old).rest) (after_sign (view old).rest) old mid → begins is_ascii_digit (view mid).rest ≡ false → NeedsNoMemory {Y = Y} (unless_failed (view old).failed (sign_at (view old).rest)) (Err fault)
  sign_spares Y old mid fault k e =
      let f : begins is_ascii_digit (after_sign (view old).rest) ≡ false = subst (λ z. begins is_ascii_digit z ≡ false) (ap (λ v. v.rest) (seen_after view at view_at at_at old mid (sign_of (view old).rest) (after_sign (view old).rest) k)) e in
      unread_spares Y (view old).failed (sign_at (view old).rest) fault (rw f (no_digit_spares Text Y (sign_of (view old).rest) (after_sign (view old).rest) fault))

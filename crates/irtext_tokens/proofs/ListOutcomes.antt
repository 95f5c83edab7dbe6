-- How far a parser of a list with a separator has come.
use Rattle.std.proofs.Common.{◌≡◌, ℕ, zero, suc, ◌<◌, ◌≤◌, Bool, true, false, Result, Ok, Err, List, [], ◌∷◌, length, length-append, refl, sym, ◌∙◌, ap, subst, arith, ◌⊎◌, inl, inr, true≢false}
use Rattle.std.specs.Char.{is_whitespace}
use Rattle.irtext_base.specs.Text.{Text, begins, front, after}
use Rattle.irtext_base.specs.Reading.{the}
use Rattle.irtext_base.specs.Stream.{first_of, advanced}
use Rattle.irtext_base.specs.Answers.{Outcome, Read, Missing, Bad, Takes, Answers, RunsOut, Refuses, Gives, demanded, prefixed, followed, unless_failed}
use Rattle.irtext_base.specs.declared.parsable.fault.ParseFault.{ParseFault}
use Rattle.irtext_base.proofs.Along.{falls}
use Rattle.irtext_base.proofs.Compose.{takes_none, seen_after}
use Rattle.irtext_tokens.specs.Tokens.{space_at, text_at}
use Rattle.irtext_tokens.specs.ListOutcomes.{item_after, items_after, or_empty, separated_at}
use Rattle.irtext_tokens.specs.MustRead.{MustRead, MayRead}
use Rattle.irtext_tokens.proofs.Spelling.{begins_the}
use Rattle.irtext_tokens.proofs.Steps.{Lens, Passed, starts, onward, ends, begins_with, begun_by, last, fine_there}

module _ {X : Type 0} (sep : ℕ) (item : Text → Outcome X) where
  -- no separator, no more items
  items_stop : (n : ℕ) (found : List X) (text : Text) → begins (the sep) text ≡ false → items_after sep item n found text ≡ Read found [] text
  items_stop zero found text e = refl
  items_stop (suc n) found text e = rw e refl

  -- what follows a separator
  abbrev pub after_separator : ℕ → List X → Unit {0} → Text → Outcome (List X)
  after_separator n found u t = followed (space_at t) (λ _ u. followed (item_after sep item found u) (λ more v. items_after sep item n more v))

  -- an item after a separator and white space
  abbrev pub after_spaces : ℕ → List X → Unit {0} → Text → Outcome (List X)
  after_spaces n found u t = followed (item_after sep item found t) (λ more v. items_after sep item n more v)

  -- a separator, and what follows it
  items_go_on : (n : ℕ) (found : List X) (text : Text) → begins (the sep) text ≡ true → items_after sep item (suc n) found text ≡ followed (text_at (sep ∷ []) text) (after_separator n found)
  items_go_on n found text e = rw e refl

  module _ {S : Type 0} (l : Lens S) where
    -- the items found so far, of those after the first ones
    pub record Found (first : List X) (old now : S) (found : List X) : Type 0 where
      pub room : ℕ
      pub enough : length (l.view now).rest ≤ room
      pub passed : Passed l (λ t. items_after sep item (length t) first t) (items_after sep item room found) old now

    -- no more than the first ones
    pub found_first : (first : List X) (old : S) → (l.view old).failed ≡ false → Found first old old first
    found_first first old e = record { room = length (l.view old).rest; enough = omega arith; passed = starts l (λ t. items_after sep item (length t) first t) (items_after sep item (length (l.view old).rest) first) old e refl }

    -- where no separator follows, these are all
    pub found_all : {W A : Type 0} (sees : W → List X) {first found : List X} {old now : S} (w : W) → sees w ≡ found → begins (the sep) (l.view now).rest ≡ false → Found first old now found → MustRead {A = A} l.view l.at sees (λ t. items_after sep item (length t) first t) old (Ok w) now
    found_all sees {found = found} {now = now} w e stop f =
        ends l sees w (onward l (items_after sep item f.room found) (λ t. Read (sees w) [] t) (items_stop f.room found (l.view now).rest stop ∙ ap (λ z. Read z [] (l.view now).rest) (sym e)) f.passed)

    has_one : (room : ℕ) (text : Text) → begins (the sep) text ≡ true → length text ≤ room → (n : ℕ) × (room ≡ suc n)
    has_one zero text e h = let b = begins_the sep text e in absurd (omega (arith, h, ap length b.1))
    has_one (suc n) text e h = (n, refl)

    -- where one follows, more is to be parsed
    pub goes_on : {first found : List X} {old now : S} → begins (the sep) (l.view now).rest ≡ true → (f : Found first old now found)
        → (n : ℕ) × (f.room ≡ suc n) × Passed l (λ t. items_after sep item (length t) first t) (λ t. followed (text_at (sep ∷ []) t) (after_separator n found)) old now
    goes_on {found = found} {now = now} e f =
        let n = has_one f.room (l.view now).rest e f.enough in
        (n.0, n.1, onward l (items_after sep item f.room found) (λ t. followed (text_at (sep ∷ []) t) (after_separator n.0 found)) (ap (λ z. items_after sep item z found (l.view now).rest) n.1 ∙ items_go_on n.0 found (l.view now).rest e) f.passed)

module _ {S : Type 0} (l : Lens S) where
  taken_le : (old new : S) (t r : Text) → Takes l.view l.at t r old new → length (l.view new).rest ≤ length (l.view old).rest
  taken_le old new t r k =
      let e : (l.view new).rest ≡ r = ap (λ v. v.rest) (seen_after l.view l.at l.view_at l.at_at old new t r k) in
      omega (arith, ap length e, ap length k.same, length-append t r)

  given_le : {X : Type 0} (o : Outcome X) (old new : S) (x : X) → Gives l.view l.at o old x new → length (l.view new).rest ≤ length (l.view old).rest
  given_le (Read y t r) old new x h = taken_le old new t r h.1
  given_le (Missing cause) old new x h = absurd h
  given_le (Bad cause upto) old new x h = absurd h

  -- less text is left after a character, white space and a value
  pub falls_after : {X Y A : Type 0} {see : Y → X} {f : Text → Outcome X} {now mid later new : S} {y : Y} (c : ℕ) → begins (the c) (l.view now).rest ≡ true → mid ≡ l.at now (advanced (l.view now)) → Takes l.view l.at (front is_whitespace (l.view mid).rest) (after is_whitespace (l.view mid).rest) mid later → MustRead {A = A} l.view l.at see f later (Ok y) new → length (l.view new).rest < length (l.view now).rest
  falls_after {see = see} {f = f} {now = now} {mid = mid} {later = later} {new = new} {y = y} c b n k h =
      let first = begins_the c (l.view now).rest b in
      let a = falls l.view l.at l.view_at l.at_at now mid c (ap first_of (sym first.1)) n in
      let d = taken_le mid later (front is_whitespace (l.view mid).rest) (after is_whitespace (l.view mid).rest) k in
      let e = given_le (demanded (unless_failed (l.view later).failed (f (l.view later).rest))) later new (see y) h.answers in
      omega (arith, a, d, e)

demanded_or : {X : Type 0} (o : Outcome (List X)) (text : Text) → demanded (or_empty o text) ≡ or_empty o text
demanded_or (Read xs taken rest) text = refl
demanded_or (Missing cause) text = refl
demanded_or (Bad cause upto) text = refl

-- a list is never missing
pub separated_never_missing : {X : Type 0} (sep : ℕ) (item : Text → Outcome X) (text : Text) → demanded (separated_at sep item text) ≡ separated_at sep item text
separated_never_missing sep item text = demanded_or (followed (item_after sep item [] text) (λ found t. items_after sep item (length t) found t)) text

-- what was taken is not missing
or_prefixed : {X : Type 0} (t text : Text) (o : Outcome (List X)) → or_empty (prefixed t o) text ≡ prefixed t o
or_prefixed t text (Read xs more rest) = refl
or_prefixed t text (Missing cause) = refl
or_prefixed t text (Bad cause upto) = refl

module _ {S X : Type 0} (l : Lens S) (k : List X → Text → Outcome (List X)) where
  read_first : (b : Bool) (o : Outcome (List X)) (text : Text) (s new : S) (x : List X) → Gives l.view l.at (unless_failed b o) s x new → unless_failed b (followed o k) ≡ unless_failed b (or_empty (followed o k) text)
  read_first true o text s new x h = refl
  read_first false (Read y t r) text s new x h = sym (or_prefixed t text (k y r))
  read_first false (Missing cause) text s new x h = absurd h
  read_first false (Bad cause upto) text s new x h = absurd h

  missing_first : {A : Type 0} (b : Bool) (o : Outcome (List X)) (s new : S) (fault : ParseFault A) → fault.committed ≡ false → RunsOut l.view l.at s fault new ⊎ Refuses l.view l.at (unless_failed b o) s fault new → Gives l.view l.at (unless_failed b (or_empty (followed o k) (l.view s).rest)) s [] new
  missing_first b o s new fault e (inl h) = absurd (true≢false (sym h.committed ∙ e))
  missing_first true o s new fault e (inr h) = absurd (true≢false (sym h.committed ∙ e))
  missing_first false (Read y t r) s new fault e (inr h) = absurd h
  missing_first false (Missing cause) s new fault e (inr h) = (refl, subst (λ z. Takes l.view l.at [] (l.view s).rest s z) (sym h.left) (takes_none l.view l.at l.view_at l.at_at l.at_view s))
  missing_first false (Bad cause upto) s new fault e (inr h) = absurd (true≢false (sym h.committed ∙ e))

  module _ {W Y A : Type 0} {see : Y → List X} {sees : W → List X} {f : Text → Outcome (List X)} where
    -- if the first item is parsed, the result of what follows is that of the list
    pub list_begun : {old mid new : S} {y : Y} {r : Result W (ParseFault A)} → MayRead {A = A} l.view l.at see f old (Ok y) mid → ((l.view mid).failed ≡ false → MustRead l.view l.at sees (k (see y)) mid r new) → MayRead l.view l.at sees (λ t. or_empty (followed (f t) k) t) old r new
    list_begun {old = old} {mid = mid} {new = new} {y = y} {r = r} h m =
        let p = begins_with l {Y = Y} {A = A} {see = see} {f = f} {old = old} {mid = mid} {y = y} k h in
        let w = begun_by l k h (last l p (m (fine_there l p))) in
        record { answers = subst (λ o. Answers l.view l.at sees o old r new) (read_first (l.view old).failed (f (l.view old).rest) (l.view old).rest old mid (see y) h.answers) w.answers }

    -- where it is missing, there are no items
    pub list_empty : {old new : S} {fault : ParseFault A} (w : W) → sees w ≡ [] → fault.committed ≡ false → MayRead {Y = Y} l.view l.at see f old (Err fault) new → MayRead {A = A} l.view l.at sees (λ t. or_empty (followed (f t) k) t) old (Ok w) new
    list_empty {old = old} {new = new} {fault = fault} w none e h =
        record { answers = subst (λ z. Gives l.view l.at (unless_failed (l.view old).failed (or_empty (followed (f (l.view old).rest) k) (l.view old).rest)) old z new) (sym none) (missing_first (l.view old).failed (f (l.view old).rest) old new fault e h.answers) }

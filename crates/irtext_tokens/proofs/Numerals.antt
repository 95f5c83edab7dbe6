-- Digits after a lead, and what is made of both.
use Rattle.std.proofs.Common.{◌≡◌, ℕ, ℤ, ◌^◌, ◌≤◌, Bool, true, false, cond, eqb, ltb, Option, Some, None, Err, List, [], ◌∷◌, ◌++◌, refl, sym, ◌∙◌, ap, subst, append-nil, arith, ◌⊎◌, inl, inr, codes}
use Rattle.std.proofs.lemmas.Bool.Decides.{nat_tests}
use Rattle.std.proofs.lemmas.Str.{encode_ascii, encodes-append}
use Rattle.std.specs.Char.{is_ascii_digit, is_ascii_hexdigit}
use Rattle.std.specs.Option.{option_eq}
use Rattle.std.specs.Str.{encode_utf8_all}
use Rattle.std.specs.Str.Parse.{digits_value}
use Rattle.irtext_base.specs.Text.{Text, begins, front, after}
use Rattle.irtext_base.specs.Reading.{the}
use Rattle.irtext_base.specs.Stream.{first_of}
use Rattle.irtext_base.specs.Places.{IsPlaceAfter}
use Rattle.irtext_base.specs.Faults.{Fault, NumberRange, Unexpected, Word, AHexadecimalDigit}
use Rattle.irtext_base.specs.Answers.{Outcome, Read, Missing, Bad, Takes, RunsOut, RunsOutHere, FailsAfter, Refuses, Gives, NeedsNoMemory, unless_failed, prefixed, followed}
use Rattle.irtext_base.specs.declared.parsable.fault.ParseFault.{ParseFault}
use Rattle.irtext_stream.specs.declared.position.Place.{Place}
use Rattle.irtext_base.proofs.Compose.{seen_after, takes_more, runs_out_after, refuses_before}
use Rattle.irtext_tokens.specs.Tokens.{sign_of, after_sign, fitting, text_at, spelled_at}
use Rattle.irtext_tokens.specs.Integers.{within, within_of, signed_integer, hexadecimal_integer, signed_text, sign_text, no_digit_after, sign_at, before_hexadecimal, hexadecimal_mark_at, ranged, numeral_at}
use Rattle.irtext_tokens.proofs.Numbers.{encodes-sign}
use Rattle.irtext_tokens.proofs.Steps.{Lens}
use Rattle.irtext_tokens.proofs.Words.{encodes-front_digits}

-- where what fits a type fits 64 bits, what doesn't fit these doesn't fit the type
not_below : (n m : ℕ) → m ≤ 2 ^ 64 → ltb n (2 ^ 64) ≡ false → ltb n m ≡ false
not_below n m h e = grind (arith, nat_tests)

within_of-fitting : (below : Bool → ℕ) (negative : Bool) (n : ℕ) → below negative ≤ 2 ^ 64 → within_of below negative (fitting n) ≡ within below negative n
within_of-fitting below negative n h =
    elim (ltb n (2 ^ 64)) as (λ b. ltb n (2 ^ 64) ≡ b → within_of below negative (cond b (Some n) None) ≡ within below negative n) [
      | true ↦ (λ e. refl)
      | false ↦ (λ e. rw (not_below n (below negative) h e) refl)
    ] refl

-- the test for a minus is the grammar's
is_minus : (sign : Option ℕ) → option_eq eqb sign (Some 45) ≡ begins (the 45) (sign_text sign)
is_minus None = refl
is_minus (Some c) = refl

-- the integer of a sign and of digits that were folded
pub signed_made : (below : Bool → ℕ) (narrow : (negative : Bool) → below negative ≤ 2 ^ 64) (sign : Option ℕ) (digits : Text) (negative : Bool) (m : Option ℕ) (v : Option ℤ) → v ≡ within_of below negative m → negative ≡ option_eq eqb sign (Some 45) → m ≡ fitting (digits_value 10 digits) → signed_integer below (sign_text sign) digits ≡ v
signed_made below narrow sign digits negative m v e n f =
    sym (e ∙ (ap (within_of below negative) f ∙ (within_of-fitting below negative (digits_value 10 digits) (narrow negative) ∙ ap (λ z. within below z (digits_value 10 digits)) (n ∙ is_minus sign))))

-- the integer of hexadecimal digits that were folded
pub hexadecimal_made : (below : Bool → ℕ) (narrow : (negative : Bool) → below negative ≤ 2 ^ 64) (mark : Unit {0}) (digits : Text) (m : Option ℕ) (v : Option ℤ) → v ≡ within_of below false m → m ≡ fitting (digits_value 16 digits) → hexadecimal_integer below mark digits ≡ v
hexadecimal_made below narrow mark digits m v e f = sym (e ∙ (ap (within_of below false) f ∙ within_of-fitting below false (digits_value 16 digits) (narrow false)))

-- equal outcomes took equal texts
same_taken : {X : Type 0} (x y : X) (t u r s : Text) → ◌≡◌ {A = Outcome X} (Read x t r) (Read y u s) → t ≡ u
same_taken x y t u r s e = cc

same_value : {X : Type 0} (x y : X) (t u r s : Text) → ◌≡◌ {A = Outcome X} (Read x t r) (Read y u s) → x ≡ y
same_value x y t u r s e = cc

-- where no digit follows, no sign is parsed
no_digit_reads : {X : Type 0} (sign text : Text) (x : X) (taken rest : Text) → no_digit_after sign text ≡ Read x taken rest → ⊥
no_digit_reads [] text x taken rest e = absurd (cc)
no_digit_reads (c ∷ sign) text x taken rest e = absurd (cc)

-- what is taken of a sign is the sign, and its bytes
sign_read : (text sign taken rest : Text) → sign_at text ≡ Read sign taken rest → (sign ≡ sign_of text) × (taken ≡ sign_of text)
sign_read text sign taken rest =
    elim (begins is_ascii_digit (after_sign text)) as (λ b. ◌≡◌ {A = Outcome Text} (cond b (Read (sign_of text) (sign_of text) (after_sign text)) (no_digit_after (sign_of text) (after_sign text))) (Read sign taken rest) → (sign ≡ sign_of text) × (taken ≡ sign_of text)) [
      | true ↦ (λ e. (sym (same_value (sign_of text) sign (sign_of text) taken (after_sign text) rest e), sym (same_taken (sign_of text) sign (sign_of text) taken (after_sign text) rest e)))
      | false ↦ (λ e. absurd (no_digit_reads (sign_of text) (after_sign text) sign taken rest e))
    ]

sign_at-taken : (text sign taken rest : Text) → sign_at text ≡ Read sign taken rest → taken ≡ sign
sign_at-taken text sign taken rest e = let p = sign_read text sign taken rest e in p.1 ∙ sym p.0

pub sign_at-encodes : (text sign taken rest : Text) → sign_at text ≡ Read sign taken rest → encode_utf8_all taken ≡ taken
sign_at-encodes text sign taken rest e = subst (λ z. encode_utf8_all z ≡ z) (sym (sign_read text sign taken rest e).1) (encodes-sign text)

-- what is parsed after characters that were taken was parsed there
prefixed_took : {X : Type 0} (t : Text) (o : Outcome X) (x : X) (taken rest : Text) → prefixed t o ≡ Read x taken rest → (more : Text) × (o ≡ Read x more rest) × (taken ≡ t ++ more)
prefixed_took t (Read y more r) x taken rest e = (more, cc, sym (same_taken y x (t ++ more) taken r rest e))
prefixed_took t (Missing cause) x taken rest e = absurd (cc)
prefixed_took t (Bad cause upto) x taken rest e = absurd (cc)

-- where the other case parses nothing, this one parses
read_by : {X : Type 0} (b : Bool) (o : Outcome X) (cause : Fault) (x : X) (taken rest : Text) → ◌≡◌ {A = Outcome X} (cond b o (Missing cause)) (Read x taken rest) → o ≡ Read x taken rest
read_by true o cause x taken rest e = e
read_by false o cause x taken rest e = absurd (cc)

the_is : (c d : ℕ) → the c d ≡ true → d ≡ c
the_is c d e = grind (arith, nat_tests)

-- where the other case parses nothing, the test holds
spells : (b : Bool) (o : Outcome Unit) (cause : Fault) (u : Unit {0}) (taken rest : Text) → ◌≡◌ {A = Outcome Unit} (cond b o (Missing cause)) (Read u taken rest) → (b ≡ true) × (o ≡ Read u taken rest)
spells true o cause u taken rest e = (refl, e)
spells false o cause u taken rest e = absurd (cc)

-- what is taken of a fixed text is that text
word_taken : (whole word text : Text) (u : Unit {0}) (taken rest : Text) → spelled_at whole word text ≡ Read u taken rest → taken ≡ word
word_taken whole [] text u taken rest e = sym (same_taken tt u [] taken text rest e)
word_taken whole (c ∷ word) [] u taken rest e = absurd (cc)
word_taken whole (c ∷ word) (d ∷ text) u taken rest e =
    let s = spells (the c d) (prefixed (d ∷ []) (spelled_at whole word text)) (Unexpected (Some d) (Word whole)) u taken rest e in
    let p = prefixed_took (d ∷ []) (spelled_at whole word text) u taken rest s.1 in
    p.2 ∙ (ap (λ z. z ∷ p.0) (the_is c d s.0) ∙ ap (λ z. c ∷ z) (word_taken whole word text u p.0 rest p.1))

nothing_taken : (text : Text) (u : Unit {0}) (taken rest : Text) → before_hexadecimal text ≡ Read u taken rest → taken ≡ []
nothing_taken text u taken rest e =
    sym (same_taken tt u [] taken text rest (read_by (begins is_ascii_hexdigit text) (Read tt [] text) (Unexpected (first_of text) AHexadecimalDigit) u taken rest e))

mark_taken : (o : Outcome Unit) (word : Text) → ((u : Unit {0}) (t r : Text) → o ≡ Read u t r → t ≡ word) → (u : Unit {0}) (taken rest : Text) → followed o (λ v text. before_hexadecimal text) ≡ Read u taken rest → taken ≡ word
mark_taken (Read v t r) word h u taken rest e =
    let p = prefixed_took t (before_hexadecimal r) u taken rest e in
    p.2 ∙ (ap (λ z. t ++ z) (nothing_taken r u p.0 rest p.1) ∙ (append-nil t ∙ h v t r refl))
mark_taken (Missing cause) word h u taken rest e = absurd (cc)
mark_taken (Bad cause upto) word h u taken rest e = absurd (cc)

mark_encodes : encode_utf8_all (codes "0x") ≡ codes "0x"
mark_encodes = rw (encode_ascii 48 (omega arith), encode_ascii 120 (omega arith)) refl

-- what is taken of `0x` is its bytes
pub mark_at-encodes : (text : Text) (u : Unit {0}) (taken rest : Text) → hexadecimal_mark_at text ≡ Read u taken rest → encode_utf8_all taken ≡ taken
mark_at-encodes text u taken rest e =
    let t : taken ≡ codes "0x" = mark_taken (text_at (codes "0x") text) (codes "0x") (λ v t r q. word_taken (codes "0x") (codes "0x") text v t r q) u taken rest e in
    subst (λ z. encode_utf8_all z ≡ z) (sym t) mark_encodes

-- if what precedes the digits was parsed, the number is what is made of both
outcome_is : {L X : Type 0} (digit : ℕ → Bool) (make : L → Text → Option X) (failed : Bool) (o : Outcome L) (lead : L) (taken rest : Text) (v : Option X) → failed ≡ false → o ≡ Read lead taken rest → make lead (front digit rest) ≡ v → unless_failed failed (numeral_at digit make o) ≡ ranged (taken ++ front digit rest) (after digit rest) v
outcome_is digit make failed o lead taken rest v f e q = rw (f, e) (ap (ranged (taken ++ front digit rest) (after digit rest)) q)

module _ {S : Type 0} (l : Lens S) where
  -- what precedes the digits was parsed, on a stream that had not failed
  pub record Led {L : Type 0} (failed : Bool) (o : Outcome L) (lead : L) (old mid : S) : Type 0 where
    pub not_failed : failed ≡ false
    pub taken : Text
    pub rest : Text
    pub is : o ≡ Read lead taken rest
    pub takes : Takes l.view l.at taken rest old mid

  led : {L : Type 0} (failed : Bool) (o : Outcome L) (lead : L) (old mid : S) → Gives l.view l.at (unless_failed failed o) old lead mid → Led failed o lead old mid
  led true o lead old mid h = absurd h
  led false (Read x t r) lead old mid h = record { not_failed = refl; taken = t; rest = r; is = ap (λ z. Read z t r) (sym h.0); takes = h.1 }
  led false (Missing cause) lead old mid h = absurd h
  led false (Bad cause upto) lead old mid h = absurd h

  -- what precedes the digits was parsed, and the digits were taken
  pub record Numbered {L : Type 0} (digit : ℕ → Bool) (o : Outcome L) (lead : L) (old mid new : S) : Type 0 where
    pub led : Led (l.view old).failed o lead old mid
    pub digits : Takes l.view l.at (front digit (l.view mid).rest) (after digit (l.view mid).rest) mid new

  -- that parser's result and the digits' together
  pub numbered : {L : Type 0} (digit : ℕ → Bool) (o : Outcome L) (lead : L) (old mid new : S) → Gives l.view l.at (unless_failed (l.view old).failed o) old lead mid → Takes l.view l.at (front digit (l.view mid).rest) (after digit (l.view mid).rest) mid new → Numbered digit o lead old mid new
  numbered digit o lead old mid new h d = record { led = led (l.view old).failed o lead old mid h; digits = d }

  refused : {L X A : Type 0} (digit : ℕ → Bool) (make : L → Text → Option X) (failed : Bool) (o : Outcome L) (old new : S) (fault : ParseFault A) → RunsOut l.view l.at old fault new ⊎ Refuses l.view l.at (unless_failed failed o) old fault new → RunsOut l.view l.at old fault new ⊎ Refuses l.view l.at (unless_failed failed (numeral_at digit make o)) old fault new
  refused digit make true o old new fault h = h
  refused digit make false o old new fault (inl s) = inl s
  refused digit make false (Read x t r) old new fault (inr e) = absurd e
  refused digit make false (Missing cause) old new fault (inr e) = inr e
  refused digit make false (Bad cause upto) old new fault (inr e) = inr e

  -- if what precedes the digits is an error, the number is
  pub lead_refused : {L X A : Type 0} (digit : ℕ → Bool) (make : L → Text → Option X) (o : Outcome L) (old new : S) (fault : ParseFault A) → RunsOut l.view l.at old fault new ⊎ Refuses l.view l.at (unless_failed (l.view old).failed o) old fault new
      → RunsOut l.view l.at old fault new ⊎ Refuses l.view l.at (unless_failed (l.view old).failed (numeral_at digit make o)) old fault new
  lead_refused digit make o old new fault h = refused digit make (l.view old).failed o old new fault h

  module _ {L : Type 0} {digit : ℕ → Bool} {o : Outcome L} {lead : L} {old mid new : S} (n : Numbered digit o lead old mid new) where
    -- the text of the number
    abbrev number_text : Text
    number_text = n.led.taken ++ front digit n.led.rest

    left_is : (l.view mid).rest ≡ n.led.rest
    left_is = ap (λ v. v.rest) (seen_after l.view l.at l.view_at l.at_at old mid n.led.taken n.led.rest n.led.takes)

    number_taken : Takes l.view l.at number_text (after digit n.led.rest) old new
    number_taken = takes_more l.view l.at l.view_at l.at_at old mid new n.led.taken n.led.rest (front digit n.led.rest) (after digit n.led.rest) n.led.takes (subst (λ z. Takes l.view l.at (front digit z) (after digit z) mid new) left_is n.digits)

    number_passed : (l.view old).passed ++ number_text ≡ (l.view new).passed
    number_passed = sym (ap (λ v. v.passed) (seen_after l.view l.at l.view_at l.at_at old new number_text (after digit n.led.rest) number_taken))

    -- what was passed since the number began
    pub number_since : {place : Place} → IsPlaceAfter place (l.view old).passed → (passed taken : Text) × (passed ++ taken ≡ (l.view new).passed) × IsPlaceAfter place passed
    number_since p = ((l.view old).passed, number_text, number_passed, p)

    number_outcome : {X : Type 0} (make : L → Text → Option X) (v : Option X) → make lead (front digit (l.view mid).rest) ≡ v → unless_failed (l.view old).failed (numeral_at digit make o) ≡ ranged number_text (after digit n.led.rest) v
    number_outcome make v e =
        outcome_is digit make (l.view old).failed o lead n.led.taken n.led.rest v n.led.not_failed n.led.is (subst (λ z. make lead (front digit z) ≡ v) left_is e)

    -- the number is parsed
    pub number_read : {X : Type 0} (make : L → Text → Option X) (x : X) → make lead (front digit (l.view mid).rest) ≡ Some x → Gives l.view l.at (unless_failed (l.view old).failed (numeral_at digit make o)) old x new
    number_read make x e = rw (number_outcome make (Some x) e) (refl, number_taken)

    number_encodes : ((taken rest : Text) → o ≡ Read lead taken rest → encode_utf8_all taken ≡ taken) → ((text : Text) → encode_utf8_all (front digit text) ≡ front digit text) → encode_utf8_all number_text ≡ number_text
    number_encodes a b = encodes-append n.led.taken (front digit n.led.rest) ∙ rw (a n.led.taken n.led.rest n.led.is, b n.led.rest) refl

    -- the number doesn't fit
    pub number_refused : {X A : Type 0} {place : Place} (make : L → Text → Option X) (last : S) (fault : ParseFault A) → make lead (front digit (l.view mid).rest) ≡ None → ((taken rest : Text) → o ≡ Read lead taken rest → encode_utf8_all taken ≡ taken) → ((text : Text) → encode_utf8_all (front digit text) ≡ front digit text)
        → IsPlaceAfter place (l.view old).passed → ((passed taken : Text) → passed ++ taken ≡ (l.view new).passed → IsPlaceAfter place passed → RunsOutHere l.view l.at new fault last ⊎ FailsAfter l.view l.at (NumberRange (encode_utf8_all taken)) passed new fault last)
        → RunsOut l.view l.at old fault last ⊎ Refuses l.view l.at (unless_failed (l.view old).failed (numeral_at digit make o)) old fault last
    number_refused make last fault e a b p h =
        let k = subst (λ z. RunsOutHere l.view l.at new fault last ⊎ FailsAfter l.view l.at (NumberRange z) (l.view old).passed new fault last) (number_encodes a b) (h (l.view old).passed number_text number_passed p) in
        rw (number_outcome make None e) (refuses_before l.view l.at l.view_at l.at_at (NumberRange number_text) old new last number_text (after digit n.led.rest) fault n.led.not_failed number_taken k)

    -- out of memory after the number
    pub number_runs_out : {A : Type 0} (last : S) (fault : ParseFault A) → RunsOutHere l.view l.at new fault last → RunsOut l.view l.at old fault last
    number_runs_out last fault h = runs_out_after l.view l.at l.view_at l.at_at old new last number_text (after digit n.led.rest) fault n.led.not_failed number_taken h

    -- a number that doesn't fit is not parsed
    pub number_spares : {X A : Type 0} (Y : Type 0) (make : L → Text → Option X) (fault : ParseFault A) → make lead (front digit (l.view mid).rest) ≡ None → NeedsNoMemory {Y = Y} (unless_failed (l.view old).failed (numeral_at digit make o)) (Err fault)
    number_spares Y make fault e = rw (number_outcome make None e) tt

  -- digits after a sign, or after none, from the results of both
  pub signed : (sign : Option ℕ) (old mid new : S) → Gives l.view l.at (unless_failed (l.view old).failed (sign_at (l.view old).rest)) old (sign_text sign) mid → Takes l.view l.at (front is_ascii_digit (l.view mid).rest) (after is_ascii_digit (l.view mid).rest) mid new → Numbered is_ascii_digit (sign_at (l.view old).rest) (sign_text sign) old mid new
  signed sign old mid new h d = numbered is_ascii_digit (sign_at (l.view old).rest) (sign_text sign) old mid new h d

  -- digits after `0x`, from the results of both
  pub marked : (old mid new : S) → Gives l.view l.at (unless_failed (l.view old).failed (hexadecimal_mark_at (l.view old).rest)) old tt mid → Takes l.view l.at (front is_ascii_hexdigit (l.view mid).rest) (after is_ascii_hexdigit (l.view mid).rest) mid new → Numbered is_ascii_hexdigit (hexadecimal_mark_at (l.view old).rest) tt old mid new
  marked old mid new h d = numbered is_ascii_hexdigit (hexadecimal_mark_at (l.view old).rest) tt old mid new h d

  -- the text of a number is parsed
  pub text_read : {sign : Text} {old mid new : S} {place : Place} (n : Numbered is_ascii_digit (sign_at (l.view old).rest) sign old mid new) (bytes : List ℕ) → IsPlaceAfter place (l.view old).passed → ((passed taken : Text) → passed ++ taken ≡ (l.view new).passed → IsPlaceAfter place passed → bytes ≡ encode_utf8_all taken)
      → Gives l.view l.at (unless_failed (l.view old).failed (numeral_at is_ascii_digit signed_text (sign_at (l.view old).rest))) old bytes new
  text_read {sign = sign} {old = old} {mid = mid} n bytes p h =
      let text = (l.view old).rest in
      let t : n.led.taken ≡ sign = sign_at-taken text sign n.led.taken n.led.rest n.led.is in
      let whole : bytes ≡ sign ++ front is_ascii_digit (l.view mid).rest =
      h (l.view old).passed (number_text n) (number_passed n) p ∙ (number_encodes n (sign_at-encodes text sign) encodes-front_digits ∙ (ap (λ z. z ++ front is_ascii_digit n.led.rest) t ∙ ap (λ z. sign ++ front is_ascii_digit z) (sym (left_is n)))) in
      number_read n signed_text bytes (ap Some (sym whole))

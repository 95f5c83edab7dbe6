-- Units of a quoted text, one after another.
use Rattle.std.proofs.Common.{◌≡◌, ℕ, ◌<◌, Bool, true, false, not, ◌&&◌, ◌==◌, Option, Some, None, cond, length, [], ◌∷◌, ◌++◌, codes, refl, sym, ◌∙◌, ap, subst, append_assoc, append-nil, arith}
use Rattle.std.proofs.lemmas.Bool.{eqb-true}
use Rattle.std.specs.Char.{is_ascii_hexdigit}
use Rattle.std.specs.Str.Parse.{digits_value}
use lib.Utf8.{scalar}
use Rattle.irtext_base.specs.Text.{Text, begins, front, after}
use Rattle.irtext_base.specs.Reading.{the}
use Rattle.irtext_base.specs.Stream.{first_of}
use Rattle.irtext_base.specs.Faults.{Word, AHexadecimalDigit, AnEscapedCharacter, Unexpected, BadEscape, BadUnicodeEscape}
use Rattle.irtext_base.specs.Answers.{Outcome, Read, Missing, Bad, prefixed, mapped, followed, demanded}
use Rattle.irtext_base.proofs.Along.{front_after}
use Rattle.irtext_base.proofs.Characters.{is_false}
use Rattle.irtext_tokens.specs.QuotedTexts.{is_plain, escape_of, escaped, named, closed, braced, unicode_at, escape_at, unit_at, after_first, unit_before, units_at}

-- a unit takes the first character, and what it takes is a prefix of the text
abbrev pub UnitBegins : ℕ → Text → Outcome ℕ → Type 0
UnitBegins c text (Read d taken rest) = (more : Text) × (taken ≡ c ∷ more) × (more ++ rest ≡ text)
UnitBegins c text (Missing cause) = ⊥
UnitBegins c text (Bad cause upto) = Unit {0}

named_begun : (digits rest text : Text) → digits ++ (125 ∷ rest) ≡ text → UnitBegins 92 (117 ∷ 123 ∷ text) (named digits rest)
named_begun digits rest text e =
    elim (scalar (digits_value 16 digits)) as (λ b. UnitBegins 92 (117 ∷ 123 ∷ text) (cond b (Read (digits_value 16 digits) (codes "\\u{" ++ (digits ++ codes "}")) rest) (Bad (BadUnicodeEscape digits) []))) [
      | true ↦ (117 ∷ 123 ∷ (digits ++ (125 ∷ [])), refl, ap (λ z. 117 ∷ 123 ∷ z) (append_assoc digits (125 ∷ []) rest ∙ e))
      | false ↦ tt
    ]

closed_begun : (digits rest text : Text) → digits ++ rest ≡ text → UnitBegins 92 (117 ∷ 123 ∷ text) (closed digits rest)
closed_begun digits [] text e = tt
closed_begun digits (c ∷ rest) text e =
    elim (c == 125) as (λ b. (c == 125) ≡ b → UnitBegins 92 (117 ∷ 123 ∷ text) (cond b (named digits rest) (Bad (Unexpected (Some c) (Word (codes "}"))) (codes "\\u{" ++ digits)))) [
      | true ↦ (λ q. named_begun digits rest text (ap (λ z. digits ++ (z ∷ rest)) (sym (eqb-true c 125 q)) ∙ e))
      | false ↦ (λ q. tt)
    ] refl

braced_begun : (digits rest text : Text) → digits ++ rest ≡ text → UnitBegins 92 (117 ∷ 123 ∷ text) (braced digits rest)
braced_begun [] rest text e = tt
braced_begun (d ∷ digits) rest text e = closed_begun (d ∷ digits) rest text e

unicode_begun : (text : Text) → UnitBegins 92 (117 ∷ text) (unicode_at text)
unicode_begun [] = tt
unicode_begun (c ∷ text) =
    elim (c == 123) as (λ b. (c == 123) ≡ b → UnitBegins 92 (117 ∷ c ∷ text) (cond b (braced (front is_ascii_hexdigit text) (after is_ascii_hexdigit text)) (Bad (Unexpected (Some c) (Word (codes "{"))) (codes "\\u")))) [
      | true ↦ (λ q. subst (λ z. UnitBegins 92 (117 ∷ z ∷ text) (braced (front is_ascii_hexdigit text) (after is_ascii_hexdigit text))) (sym (eqb-true c 123 q)) (braced_begun (front is_ascii_hexdigit text) (after is_ascii_hexdigit text) text (front_after is_ascii_hexdigit text)))
      | false ↦ (λ q. tt)
    ] refl

escaped_begun : (o : Option ℕ) (e : ℕ) (text : Text) → UnitBegins 92 (e ∷ text) (escaped o e text)
escaped_begun (Some c) e text = (e ∷ [], refl, refl)
escaped_begun None e text = tt

escape_begun : (text : Text) → UnitBegins 92 text (escape_at text)
escape_begun [] = tt
escape_begun (e ∷ text) =
    elim (e == 117) as (λ b. (e == 117) ≡ b → UnitBegins 92 (e ∷ text) (cond b (unicode_at text) (escaped (escape_of e) e text))) [
      | true ↦ (λ q. subst (λ z. UnitBegins 92 (z ∷ text) (unicode_at text)) (sym (eqb-true e 117 q)) (unicode_begun text))
      | false ↦ (λ q. escaped_begun (escape_of e) e text)
    ] refl

pub unit_begun : (c : ℕ) (text : Text) → UnitBegins c text (unit_at (c ∷ text))
unfolding unit_at
unit_begun c text =
    elim (c == 92) as (λ b. (c == 92) ≡ b → UnitBegins c text (cond b (escape_at text) (Read c (c ∷ []) text))) [
      | true ↦ (λ q. subst (λ z. UnitBegins z text (escape_at text)) (sym (eqb-true c 92 q)) (escape_begun text))
      | false ↦ (λ q. ([], refl, refl))
    ] refl

-- a unit takes a character, and none is missing
abbrev Sound : Outcome ℕ → Type 0
Sound (Read c t r) = 0 < length t
Sound (Missing e) = ⊥
Sound (Bad e u) = Unit {0}

begun_sound : (c : ℕ) (text : Text) (u : Outcome ℕ) → UnitBegins c text u → Sound u
begun_sound c text (Read d t r) h = omega (arith, ap length h.1)
begun_sound c text (Missing e) h = h
begun_sound c text (Bad e u) h = tt

unit_sound : (text : Text) → Sound (unit_at text)
unfolding unit_at
unit_sound [] = tt
unit_sound (c ∷ text) = begun_sound c text (unit_at (c ∷ text)) (unit_begun c text)

pub unit_takes : (text : Text) (c : ℕ) (t r : Text) → unit_at text ≡ Read c t r → 0 < length t
unit_takes text c t r e = rw e at (unit_sound text)

pub never_missing : (text : Text) (u : Outcome ℕ) → unit_at text ≡ u → Sound u
never_missing text u e = subst Sound e (unit_sound text)

-- what is left of a unit is passed over
units_skip : (left rest : Text) → units_at left (left ++ rest) ≡ units_at [] rest
units_skip [] rest = refl
units_skip (d ∷ left) rest = units_skip left rest

-- a unit, and the meaning of the text after it
abbrev pub unit_and : Outcome ℕ → Outcome Text
unit_and u = followed u (λ c rest. mapped (λ cs. c ∷ cs) (units_at [] rest))

by_unit : (c : ℕ) (text : Text) (u : Outcome ℕ) → UnitBegins c text u → unit_before u (λ left. units_at left text) ≡ unit_and u
by_unit c text (Read d taken rest) h =
    ap (λ z. prefixed taken (mapped (λ cs. d ∷ cs) z)) (ap (λ z. units_at (after_first z) text) h.1 ∙ (ap (units_at h.0) (sym h.2) ∙ units_skip h.0 rest))
by_unit c text (Missing e) h = absurd h
by_unit c text (Bad e u) h = refl

-- where no quotation mark comes, a unit does
pub units_more : (text : Text) → begins (the 34) text ≡ false → units_at [] text ≡ unit_and (unit_at text)
unfolding unit_at
units_more [] e = refl
units_more (c ∷ text) e = rw e (by_unit c text (unit_at (c ∷ text)) (unit_begun c text))

-- characters that were parsed and taken, before what follows
abbrev pub whole : Text → Text → Outcome Text → Outcome Text
whole cs taken o = prefixed taken (mapped (λ more. cs ++ more) o)

pub whole_nil : (o : Outcome Text) → demanded o ≡ whole [] [] o
whole_nil (Read x t r) = refl
whole_nil (Missing e) = refl
whole_nil (Bad e u) = refl

whole_demanded : (cs t : Text) (o : Outcome Text) → whole cs t o ≡ whole cs t (demanded o)
whole_demanded cs t (Read x m r) = refl
whole_demanded cs t (Missing e) = ap (λ z. let o : Outcome Text = Bad e z in o) (sym (append-nil t))
whole_demanded cs t (Bad e u) = refl

pub whole_whole : (cs t ds u : Text) (o : Outcome Text) → whole cs t (whole ds u o) ≡ whole (cs ++ ds) (t ++ u) o
whole_whole cs t ds u (Read x m r) = rw (append_assoc cs ds x, append_assoc t u m) refl
whole_whole cs t ds u (Missing e) = refl
whole_whole cs t ds u (Bad e v) = rw (append_assoc t u v) refl

demanded_whole : (cs t : Text) (o : Outcome Text) → demanded (whole cs t o) ≡ whole cs t o
demanded_whole cs t (Read x m r) = refl
demanded_whole cs t (Missing e) = refl
demanded_whole cs t (Bad e v) = refl

plain_tests : (a b : Bool) → (not a && not b) ≡ true → (a ≡ false) × (b ≡ false)
plain_tests true b e = absurd (cc)
plain_tests false true e = absurd (cc)
plain_tests false false e = (refl, refl)

-- a character that represents itself
units_plain : (c : ℕ) (text : Text) → is_plain c ≡ true → units_at [] (c ∷ text) ≡ whole (c ∷ []) (c ∷ []) (units_at [] text)
unfolding unit_at
units_plain c text e = let p = plain_tests (c == 34) (c == 92) e in rw (p.0, p.1) refl

-- a run of them, as far as it goes
units_run : (text : Text) → demanded (units_at [] text) ≡ whole (front is_plain text) (front is_plain text) (units_at [] (after is_plain text))
units_run [] = refl
units_run (c ∷ text) =
    elim (is_plain c) as (λ b. is_plain c ≡ b → demanded (units_at [] (c ∷ text)) ≡ whole (cond b (c ∷ front is_plain text) []) (cond b (c ∷ front is_plain text) []) (units_at [] (cond b (after is_plain text) (c ∷ text)))) [
      | true ↦ (λ e. ap demanded (units_plain c text e) ∙ (demanded_whole (c ∷ []) (c ∷ []) (units_at [] text)
          ∙ (whole_demanded (c ∷ []) (c ∷ []) (units_at [] text) ∙ (ap (whole (c ∷ []) (c ∷ [])) (units_run text)
          ∙ whole_whole (c ∷ []) (c ∷ []) (front is_plain text) (front is_plain text) (units_at [] (after is_plain text))))))
      | false ↦ (λ e. whole_nil (units_at [] (c ∷ text)))
    ] refl

-- a run of them after what was parsed
pub whole_run : (cs t text : Text) → whole cs t (units_at [] text) ≡ whole (cs ++ front is_plain text) (t ++ front is_plain text) (units_at [] (after is_plain text))
whole_run cs t text =
    whole_demanded cs t (units_at [] text) ∙ (ap (whole cs t) (units_run text) ∙ whole_whole cs t (front is_plain text) (front is_plain text) (units_at [] (after is_plain text)))

-- a unit after what was parsed
pub whole_unit : (cs t text : Text) (c : ℕ) (u r : Text) → begins (the 34) text ≡ false → unit_at text ≡ Read c u r → whole cs t (units_at [] text) ≡ whole (cs ++ (c ∷ [])) (t ++ u) (units_at [] r)
whole_unit cs t text c u r q e =
    ap (whole cs t) (units_more text q ∙ ap unit_and e) ∙ whole_whole cs t (c ∷ []) u (units_at [] r)

-- a bad unit after what was parsed
pub whole_bad : (cs t text : Text) → begins (the 34) text ≡ false → (cause : _) (upto : Text) → unit_at text ≡ Bad cause upto → whole cs t (units_at [] text) ≡ Bad cause (t ++ upto)
whole_bad cs t text q cause upto e = ap (whole cs t) (units_more text q ∙ ap unit_and e)

-- a backslash at the end
pub unit_unescaped : (text : Text) → text ≡ 92 ∷ [] → unit_at text ≡ Bad (Unexpected None AnEscapedCharacter) (92 ∷ [])
unfolding unit_at
unit_unescaped text e = rw e refl

not_eqb : (a b : ℕ) → (a ≡ b → ⊥) → (a == b) ≡ false
not_eqb a b h = is_false (a == b) (λ e. h (eqb-true a b e))

-- a character after a backslash that is no escape
pub unit_unknown : (text rest : Text) (b : ℕ) → 92 ∷ b ∷ rest ≡ text → (b ≡ 117 → ⊥) → None ≡ escape_of b → unit_at text ≡ Bad (BadEscape b) []
unfolding unit_at
unit_unknown text rest b e q h =
    let u : escaped (escape_of b) b rest ≡ Bad (BadEscape b) [] = ap (λ z. escaped z b rest) (sym h) in
    let v : escape_at (b ∷ rest) ≡ escaped (escape_of b) b rest = ap (λ z. cond z (unicode_at rest) (escaped (escape_of b) b rest)) (not_eqb b 117 q) in
    rw (sym e) (v ∙ u)

-- an escape that denotes a character
pub unit_escaped : (text rest : Text) (b c : ℕ) → 92 ∷ b ∷ rest ≡ text → (b ≡ 117 → ⊥) → Some c ≡ escape_of b → unit_at text ≡ Read c (92 ∷ b ∷ []) rest
unfolding unit_at
unit_escaped text rest b c e q h =
    let u : escaped (escape_of b) b rest ≡ Read c (92 ∷ b ∷ []) rest = ap (λ z. escaped z b rest) (sym h) in
    let v : escape_at (b ∷ rest) ≡ escaped (escape_of b) b rest = ap (λ z. cond z (unicode_at rest) (escaped (escape_of b) b rest)) (not_eqb b 117 q) in
    rw (sym e) (v ∙ u)

-- a character that denotes itself
pub unit_plain : (text rest : Text) (c : ℕ) → c ∷ rest ≡ text → (c ≡ 92 → ⊥) → unit_at text ≡ Read c (c ∷ []) rest
unfolding unit_at
unit_plain text rest c e q =
    let u : unit_at (c ∷ rest) ≡ Read c (c ∷ []) rest = ap (λ z. cond z (escape_at rest) (Read c (c ∷ []) rest)) (not_eqb c 92 q) in
    rw (sym e) u

-- the end of the text
pub unit_ended : (text : Text) → text ≡ [] → unit_at text ≡ Bad (Unexpected None (Word (codes "\""))) []
unfolding unit_at
unit_ended text e = rw e refl

-- the parts of an escape by number
pub unit_unicode : (text rest : Text) → codes "\\u" ++ rest ≡ text → unit_at text ≡ unicode_at rest
unfolding unit_at
unit_unicode text rest e = rw (sym e) refl

pub unicode_unopened : (text : Text) → begins (the 123) text ≡ false → unicode_at text ≡ Bad (Unexpected (first_of text) (Word (codes "{"))) (codes "\\u")
unicode_unopened [] e = refl
unicode_unopened (c ∷ text) e = rw e refl

pub braced_none : (text : Text) → begins is_ascii_hexdigit text ≡ false → braced (front is_ascii_hexdigit text) (after is_ascii_hexdigit text) ≡ Bad (Unexpected (first_of text) AHexadecimalDigit) (codes "\\u{")
braced_none [] e = refl
braced_none (c ∷ text) e = rw e refl

pub braced_some : (text : Text) → begins is_ascii_hexdigit text ≡ true → braced (front is_ascii_hexdigit text) (after is_ascii_hexdigit text) ≡ closed (front is_ascii_hexdigit text) (after is_ascii_hexdigit text)
braced_some [] e = absurd (cc)
braced_some (c ∷ text) e = rw e refl

pub closed_open : (digits text : Text) → begins (the 125) text ≡ false → closed digits text ≡ Bad (Unexpected (first_of text) (Word (codes "}"))) (codes "\\u{" ++ digits)
closed_open digits [] e = refl
closed_open digits (c ∷ text) e = rw e refl

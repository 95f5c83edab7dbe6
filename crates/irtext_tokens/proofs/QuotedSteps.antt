-- How far a parser of a quoted text has come.
use Rattle.std.proofs.Common.{◌≡◌, ℕ, ◌<◌, Bool, true, false, Some, None, Result, Ok, length, List, [], ◌∷◌, ◌++◌, codes, refl, sym, ◌∙◌, ap, subst, append-nil, length-append, arith, ◌⊎◌, inl, inr}
use Rattle.std.proofs.lemmas.Str.{encodes-append}
use Rattle.std.specs.Char.{is_ascii_hexdigit, encode_utf8}
use Rattle.std.specs.Str.{encode_utf8_all}
use Rattle.irtext_base.specs.Text.{Text, begins, front, after}
use Rattle.irtext_base.specs.Reading.{the}
use Rattle.irtext_base.specs.Stream.{StreamView, first_of, advanced, advanced_by}
use Rattle.irtext_base.specs.Faults.{Fault, Word, Unexpected, AHexadecimalDigit, AnEscapedCharacter, BadEscape, BadUnicodeEscape}
use Rattle.irtext_base.specs.Answers.{Outcome, Read, Missing, Bad, Takes, RunsOut, RunsOutHere, FailsAfter, Commits, Answers, Gives, Refuses, demanded, prefixed, mapped, followed, unless_failed}
use Rattle.irtext_base.specs.declared.parsable.fault.ParseFault.{ParseFault}
use Rattle.irtext_stream.proofs.Bytes.{first_some}
use Rattle.irtext_base.proofs.Compose.{takes_none, takes_fine, seen_after, takes_more, runs_out_in_rest, runs_out_after, commits_after, refuses_before, answers_after}
use Rattle.irtext_tokens.specs.QuotedTexts.{is_plain, escape_of, character_of, closed, braced, unicode_at, unit_at, units_at}
use Rattle.irtext_tokens.proofs.Spelling.{begins_the, takes_next}
use Rattle.irtext_tokens.specs.Digits.{value_in}
use Rattle.irtext_tokens.proofs.QuotedNumbers.{named_some, named_none}
use Rattle.irtext_tokens.proofs.Words.{encodes-front_hexdigits}
use Rattle.irtext_tokens.proofs.QuotedUnits.{unit_takes, never_missing, whole, whole_nil, whole_run, whole_unit, whole_bad, unit_unescaped, unit_unknown, unit_escaped, unit_plain, unit_ended, unit_unicode, unicode_unopened, braced_none, braced_some, closed_open}

-- the bytes of one more character
encodes-one : (cs : Text) (c : ℕ) → encode_utf8_all (cs ++ (c ∷ [])) ≡ encode_utf8_all cs ++ encode_utf8 c
encodes-one cs c = encodes-append cs (c ∷ []) ∙ ap (λ z. encode_utf8_all cs ++ z) (append-nil (encode_utf8 c))

-- the bytes of one more character and a run
pub encodes-unit : (bytes more last run : List ℕ) (cs : Text) (c : ℕ) → bytes ≡ encode_utf8_all cs → more ≡ bytes ++ encode_utf8 c → last ≡ more ++ encode_utf8_all run → last ≡ encode_utf8_all ((cs ++ (c ∷ [])) ++ run)
encodes-unit bytes more last run cs c e f h =
    h ∙ (ap (λ z. z ++ encode_utf8_all run) (f ∙ (ap (λ z. z ++ encode_utf8 c) e ∙ sym (encodes-one cs c))) ∙ sym (encodes-append (cs ++ (c ∷ [])) run))

-- an outcome after a fixed text that was parsed
mapped_prefixed : {X Y : Type 0} (g : X → Y) (t : Text) (o : Outcome X) → mapped g (prefixed t o) ≡ prefixed t (mapped g o)
mapped_prefixed g t (Read x m r) = refl
mapped_prefixed g t (Missing e) = refl
mapped_prefixed g t (Bad e u) = refl

mapped_demanded : {X Y : Type 0} (g : X → Y) (o : Outcome X) → mapped g (demanded o) ≡ demanded (mapped g o)
mapped_demanded g (Read x m r) = refl
mapped_demanded g (Missing e) = refl
mapped_demanded g (Bad e u) = refl

first_none : (text : Text) → None ≡ first_of text → text ≡ []
first_none [] e = refl
first_none (c ∷ text) e = absurd (cc)

module _ {S : Type 0} (view : S → StreamView) (at : S → StreamView → S) where
  -- the characters `cs` were parsed, and `taken` taken for them; what follows gives the whole
  pub record Within (start now : S) (cs taken : Text) : Type 0 where
    pub takes : Takes view at taken (view now).rest start now
    pub so_far : demanded (units_at [] (view start).rest) ≡ whole cs taken (units_at [] (view now).rest)

  -- a unit that was parsed
  read_by : (u : Outcome ℕ) (old new : S) (c : ℕ) → Gives view at u old c new → (t : Text) × (r : Text) × (u ≡ Read c t r) × Takes view at t r old new
  read_by (Read x t r) old new c g = (t, r, ap (λ z. let o : Outcome ℕ = Read z t r in o) (sym g.0), g.1)
  read_by (Missing e) old new c g = absurd g
  read_by (Bad e u) old new c g = absurd g

  module _ (view_at : (s : S) (v : StreamView) → view (at s v) ≡ v) (at_view : (s : S) → at s (view s) ≡ s) (at_at : (s : S) (v w : StreamView) → at (at s v) w ≡ at s w) where
    rest_after : (old mid : S) (t r : Text) → Takes view at t r old mid → (view mid).rest ≡ r
    rest_after old mid t r k = ap (λ v. v.rest) (seen_after view at view_at at_at old mid t r k)

    -- the stream has not failed there
    pub within_fine : (start now : S) (cs taken : Text) → (view start).failed ≡ false → Within start now cs taken → (view now).failed ≡ false
    within_fine start now cs taken f w = takes_fine view at view_at at_at start now taken (view now).rest w.takes f

    -- a run of characters that represent themselves
    within_run : (start now next : S) (cs taken : Text) → Within start now cs taken → Takes view at (front is_plain (view now).rest) (after is_plain (view now).rest) now next → Within start next (cs ++ front is_plain (view now).rest) (taken ++ front is_plain (view now).rest)
    within_run start now next cs taken w k =
        let r = rest_after now next (front is_plain (view now).rest) (after is_plain (view now).rest) k in
        record {
          takes = rw r (takes_more view at view_at at_at start now next taken (view now).rest (front is_plain (view now).rest) (after is_plain (view now).rest) w.takes k);
          so_far = rw r (w.so_far ∙ whole_run cs taken (view now).rest);
        }

    -- the run that begins the text
    pub within_first : (start next : S) → Takes view at (front is_plain (view start).rest) (after is_plain (view start).rest) start next → Within start next (front is_plain (view start).rest) (front is_plain (view start).rest)
    within_first start next k = within_run start start next [] [] (record { takes = takes_none view at view_at at_at at_view start; so_far = whole_nil (units_at [] (view start).rest) }) k

    -- a unit
    pub within_unit : (start now mid : S) (cs taken : Text) (c : ℕ) → Within start now cs taken → begins (the 34) (view now).rest ≡ false → Gives view at (unit_at (view now).rest) now c mid → (t : Text) × Within start mid (cs ++ (c ∷ [])) (taken ++ t)
    within_unit start now mid cs taken c w q g =
        let b = read_by (unit_at (view now).rest) now mid c g in
        let r = rest_after now mid b.0 b.1 b.3 in (
          b.0,
          record {
            takes = rw r (takes_more view at view_at at_at start now mid taken (view now).rest b.0 b.1 w.takes b.3);
            so_far = rw r (w.so_far ∙ whole_unit cs taken (view now).rest c b.0 b.1 q b.2);
          },
        )

    -- a unit, and the run after it
    pub within_more : (start now mid next : S) (cs taken : Text) (c : ℕ) → Within start now cs taken → begins (the 34) (view now).rest ≡ false → Gives view at (unit_at (view now).rest) now c mid →
        Takes view at (front is_plain (view mid).rest) (after is_plain (view mid).rest) mid next → (t : Text) × Within start next ((cs ++ (c ∷ [])) ++ front is_plain (view mid).rest) t
    within_more start now mid next cs taken c w q g k =
        let u = within_unit start now mid cs taken c w q g in
        ((taken ++ u.0) ++ front is_plain (view mid).rest, within_run start mid next (cs ++ (c ∷ [])) (taken ++ u.0) u.1 k)

    -- less of the text is left
    pub falls_by : (now mid next : S) (c : ℕ) → Gives view at (unit_at (view now).rest) now c mid → Takes view at (front is_plain (view mid).rest) (after is_plain (view mid).rest) mid next → length (view next).rest < length (view now).rest
    falls_by now mid next c g k =
        let b = read_by (unit_at (view now).rest) now mid c g in
        let r = rest_after now mid b.0 b.1 b.3 in
        let s = rest_after mid next (front is_plain (view mid).rest) (after is_plain (view mid).rest) k in
        let some = unit_takes (view now).rest c b.0 b.1 b.2 in
        omega (arith, some, ap length r, ap length s, ap length b.3.same, ap length k.same, length-append b.0 b.1, length-append (front is_plain (view mid).rest) (after is_plain (view mid).rest))

    -- the quotation mark after the units
    pub closes : (start now next : S) (cs taken : Text) (bytes : List ℕ) → bytes ≡ encode_utf8_all cs → Within start now cs taken → begins (the 34) (view now).rest ≡ true → next ≡ at now (advanced (view now)) → Gives view at (mapped encode_utf8_all (demanded (units_at [] (view start).rest))) start bytes next
    closes start now next cs taken bytes e w q n =
        let m = begins_the 34 (view now).rest q in
        let k = takes_next view at view_at at_view at_at now next 34 m.0 m.1 n in
        let o : demanded (units_at [] (view start).rest) ≡ Read (cs ++ []) (taken ++ (34 ∷ [])) m.0 = w.so_far ∙ ap (λ z. whole cs taken (units_at [] z)) m.1 in
        rw o (e ∙ ap encode_utf8_all (sym (append-nil cs)), takes_more view at view_at at_at start now next taken (view now).rest (34 ∷ []) m.0 w.takes k)

    -- the two characters before the rest of an escape
    pub two_taken : (old mid new : S) (a b : ℕ) → a ≡ 92 → Some a ≡ first_of (view old).rest → mid ≡ at old (advanced (view old)) → Some b ≡ first_of (view mid).rest → new ≡ at mid (advanced (view mid)) → Takes view at (92 ∷ b ∷ []) (view new).rest old new
    two_taken old mid new a b p e m f n =
        let x = first_some (view old).rest a e in
        let y = first_some (view mid).rest b f in
        let k = takes_next view at view_at at_view at_at old mid 92 x.0 (x.1 ∙ ap (λ z. z ∷ x.0) p) m in
        let l = takes_next view at view_at at_view at_at mid new b y.0 y.1 n in
        rw (rest_after mid new (b ∷ []) y.0 l) (takes_more view at view_at at_at old mid new (92 ∷ []) x.0 (b ∷ []) y.0 k l)

    -- at the end of the text nothing is taken
    none_taken : (now next : S) → None ≡ first_of (view now).rest → next ≡ at now (advanced (view now)) → next ≡ now
    none_taken now next f n =
        let r : (view now).rest ≡ [] = first_none (view now).rest f in
        n ∙ (ap (λ z. at now (advanced_by (view now).passed z (view now).failed)) r ∙ (ap (λ (z : Text). at now (let v : StreamView = record { passed = (view now).passed; rest = z; failed = (view now).failed } in v)) (sym r) ∙ at_view now))

    -- a character that denotes itself is taken
    pub plain_read : (old mid : S) (a : ℕ) → (a ≡ 92 → ⊥) → Some a ≡ first_of (view old).rest → mid ≡ at old (advanced (view old)) → Gives view at (unit_at (view old).rest) old a mid
    plain_read old mid a q e m =
        let x = first_some (view old).rest a e in
        rw (unit_plain (view old).rest x.0 a (sym x.1) q) (refl, takes_next view at view_at at_view at_at old mid a x.0 x.1 m)

    -- an escape that denotes a character is taken
    pub escape_read : (old mid last : S) (a b c : ℕ) → a ≡ 92 → Some a ≡ first_of (view old).rest → mid ≡ at old (advanced (view old)) → Some b ≡ first_of (view mid).rest → last ≡ at mid (advanced (view mid)) → (b ≡ 117 → ⊥) → Some c ≡ escape_of b
        → Gives view at (unit_at (view old).rest) old c last
    escape_read old mid last a b c p e m f n q h =
        let k = two_taken old mid last a b p e m f n in
        rw (unit_escaped (view old).rest (view last).rest b c k.same q h) (refl, k)

    -- a stream after `\u{` of an escape
    pub record Opened (before now : S) : Type 0 where
      pub takes : Takes view at (codes "\\u{") (view now).rest before now
      pub unit : unit_at (view before).rest ≡ braced (front is_ascii_hexdigit (view now).rest) (after is_ascii_hexdigit (view now).rest)

    pub opened : (before mid now : S) → Takes view at (codes "\\u") (view mid).rest before mid → begins (the 123) (view mid).rest ≡ true → now ≡ at mid (advanced (view mid)) → Opened before now
    opened before mid now k q n =
        let m = begins_the 123 (view mid).rest q in
        let l = takes_next view at view_at at_view at_at mid now 123 m.0 m.1 n in
        let r = rest_after mid now (123 ∷ []) m.0 l in
        record {
          takes = rw r (takes_more view at view_at at_at before mid now (codes "\\u") (view mid).rest (123 ∷ []) m.0 k l);
          unit = rw r (unit_unicode (view before).rest (view mid).rest k.same ∙ ap unicode_at m.1);
        }

    -- a stream after the digits of an escape
    pub record Counted (before now : S) (digits : Text) : Type 0 where
      pub takes : Takes view at (codes "\\u{" ++ digits) (view now).rest before now
      pub unit : unit_at (view before).rest ≡ closed digits (view now).rest

    pub counted : (before mid now : S) → Opened before mid → begins is_ascii_hexdigit (view mid).rest ≡ true → Takes view at (front is_ascii_hexdigit (view mid).rest) (after is_ascii_hexdigit (view mid).rest) mid now → Counted before now (front is_ascii_hexdigit (view mid).rest)
    counted before mid now o q k =
        let r = rest_after mid now (front is_ascii_hexdigit (view mid).rest) (after is_ascii_hexdigit (view mid).rest) k in
        record {
          takes = rw r (takes_more view at view_at at_at before mid now (codes "\\u{") (view mid).rest (front is_ascii_hexdigit (view mid).rest) (after is_ascii_hexdigit (view mid).rest) o.takes k);
          unit = rw r (o.unit ∙ braced_some (view mid).rest q);
        }

    -- a stream after `\u`, a brace and digits
    pub digits_counted : (before old opens now : S) → Takes view at (codes "\\u") (view old).rest before old → begins (the 123) (view old).rest ≡ true → opens ≡ at old (advanced (view old)) → begins is_ascii_hexdigit (view opens).rest ≡ true
        → Takes view at (front is_ascii_hexdigit (view opens).rest) (after is_ascii_hexdigit (view opens).rest) opens now → Counted before now (front is_ascii_hexdigit (view opens).rest)
    digits_counted before old opens now k q n d t = counted before opens now (opened before old opens k q n) d t

    -- the brace after the digits, if they are a character's number
    pub braces_closed : (before now next : S) (digits : Text) (c : ℕ) → Counted before now digits → begins (the 125) (view now).rest ≡ true → Some c ≡ character_of (value_in 16 digits) → next ≡ at now (advanced (view now)) → Gives view at (unit_at (view before).rest) before c next
    braces_closed before now next digits c h q e n =
        let m = begins_the 125 (view now).rest q in
        let k = takes_next view at view_at at_view at_at now next 125 m.0 m.1 n in
        let u : unit_at (view before).rest ≡ Read c (codes "\\u{" ++ (digits ++ codes "}")) m.0 = h.unit ∙ (ap (closed digits) m.1 ∙ named_some digits m.0 c e) in
        rw u (refl, takes_more view at view_at at_at before now next (codes "\\u{" ++ digits) (view now).rest (125 ∷ []) m.0 h.takes k)

    module _ {A : Type 0} where
      -- a unit that is bad at the stream's position
      unit_refused : (before mid new : S) (t r : Text) (cause : Fault) (fault : ParseFault A) → Takes view at t r before mid → unit_at (view before).rest ≡ Bad cause t → Commits view at cause [] mid fault new → RunsOut view at before fault new ⊎ Refuses view at (unit_at (view before).rest) before fault new
      unit_refused before mid new t r cause fault k e c =
          rw e (inr (subst (λ z. Commits view at cause z before fault new) (append-nil t) (commits_after view at view_at at_at cause [] before mid new t r fault k c)))

      pub unopened : (before mid new : S) (fault : ParseFault A) → Takes view at (codes "\\u") (view mid).rest before mid → begins (the 123) (view mid).rest ≡ false → Commits view at (Unexpected (first_of (view mid).rest) (Word (codes "{"))) [] mid fault new → RunsOut view at before fault new ⊎ Refuses view at (unit_at (view before).rest) before fault new
      unopened before mid new fault k q c =
          unit_refused before mid new (codes "\\u") (view mid).rest (Unexpected (first_of (view mid).rest) (Word (codes "{"))) fault k (unit_unicode (view before).rest (view mid).rest k.same ∙ unicode_unopened (view mid).rest q) c

      pub uncounted : (before mid new : S) (fault : ParseFault A) → Opened before mid → begins is_ascii_hexdigit (view mid).rest ≡ false → Commits view at (Unexpected (first_of (view mid).rest) AHexadecimalDigit) [] mid fault new → RunsOut view at before fault new ⊎ Refuses view at (unit_at (view before).rest) before fault new
      uncounted before mid new fault o q c =
          unit_refused before mid new (codes "\\u{") (view mid).rest (Unexpected (first_of (view mid).rest) AHexadecimalDigit) fault o.takes (o.unit ∙ braced_none (view mid).rest q) c

      pub unclosed : (before mid new : S) (digits : Text) (fault : ParseFault A) → Counted before mid digits → begins (the 125) (view mid).rest ≡ false → Commits view at (Unexpected (first_of (view mid).rest) (Word (codes "}"))) [] mid fault new → RunsOut view at before fault new ⊎ Refuses view at (unit_at (view before).rest) before fault new
      unclosed before mid new digits fault h q c =
          unit_refused before mid new (codes "\\u{" ++ digits) (view mid).rest (Unexpected (first_of (view mid).rest) (Word (codes "}"))) fault h.takes (h.unit ∙ closed_open digits (view mid).rest q) c

      -- a unit that is bad at its beginning, or out of memory
      pub refused_before : (before mid new : S) (t r : Text) (cause : Fault) (fault : ParseFault A) → Takes view at t r before mid → unit_at (view before).rest ≡ Bad cause [] →
          (view before).failed ≡ false → RunsOutHere view at mid fault new ⊎ FailsAfter view at cause (view before).passed mid fault new → RunsOut view at before fault new ⊎ Refuses view at (unit_at (view before).rest) before fault new
      refused_before before mid new t r cause fault k u f h = rw u (refuses_before view at view_at at_at cause before mid new t r fault f k h)

      -- the end of the text in place of a unit
      pub no_unit : (old mid new : S) (fault : ParseFault A) → None ≡ first_of (view old).rest → mid ≡ at old (advanced (view old)) →
          Commits view at (Unexpected (first_of (view mid).rest) (Word (codes "\""))) [] mid fault new → RunsOut view at old fault new ⊎ Refuses view at (unit_at (view old).rest) old fault new
      no_unit old mid new fault f n c =
          let d : Commits view at (Unexpected (first_of (view old).rest) (Word (codes "\""))) [] old fault new = subst (λ z. Commits view at (Unexpected (first_of (view z).rest) (Word (codes "\""))) [] z fault new) (none_taken old mid f n) c in
          rw (unit_ended (view old).rest (first_none (view old).rest f)) (inr (subst (λ z. Commits view at (Unexpected z (Word (codes "\""))) [] old fault new) (sym f) d))

      -- an escape that ends with its backslash
      pub unescaped : (old mid last new : S) (a : ℕ) (fault : ParseFault A) → a ≡ 92 → Some a ≡ first_of (view old).rest → mid ≡ at old (advanced (view old)) → None ≡ first_of (view mid).rest → last ≡ at mid (advanced (view mid)) →
          Commits view at (Unexpected (first_of (view last).rest) AnEscapedCharacter) [] last fault new → RunsOut view at old fault new ⊎ Refuses view at (unit_at (view old).rest) old fault new
      unescaped old mid last new a fault p e m f n c =
          let x = first_some (view old).rest a e in
          let k = takes_next view at view_at at_view at_at old mid 92 x.0 (x.1 ∙ ap (λ z. z ∷ x.0) p) m in
          let r : (view mid).rest ≡ [] = first_none (view mid).rest f in
          let same : last ≡ mid = none_taken mid last f n in
          let d : Commits view at (Unexpected (first_of (view mid).rest) AnEscapedCharacter) [] mid fault new = subst (λ z. Commits view at (Unexpected (first_of (view z).rest) AnEscapedCharacter) [] z fault new) same c in
          let i : Commits view at (Unexpected None AnEscapedCharacter) [] mid fault new = subst (λ z. Commits view at (Unexpected z AnEscapedCharacter) [] mid fault new) (sym f) d in
          let u : (view old).rest ≡ 92 ∷ [] = x.1 ∙ (ap (λ z. z ∷ x.0) p ∙ ap (λ z. 92 ∷ z) (sym (rest_after old mid (92 ∷ []) x.0 k) ∙ r)) in
          unit_refused old mid new (92 ∷ []) x.0 (Unexpected None AnEscapedCharacter) fault k (unit_unescaped (view old).rest u) i

      -- a character after a backslash that is no escape
      pub unknown_escape : (old mid last new : S) (a b : ℕ) (fault : ParseFault A) → a ≡ 92 → Some a ≡ first_of (view old).rest → mid ≡ at old (advanced (view old)) → Some b ≡ first_of (view mid).rest → last ≡ at mid (advanced (view mid)) → (b ≡ 117 → ⊥) → None ≡ escape_of b →
          (view old).failed ≡ false → FailsAfter view at (BadEscape b) (view old).passed last fault new → RunsOut view at old fault new ⊎ Refuses view at (unit_at (view old).rest) old fault new
      unknown_escape old mid last new a b fault p e m f n q h g l =
          let k = two_taken old mid last a b p e m f n in
          refused_before old last new (92 ∷ b ∷ []) (view last).rest (BadEscape b) fault k (unit_unknown (view old).rest (view last).rest b k.same q h) g (inr l)

      -- digits that name no character
      pub unnamed : (before opens now new : S) (fault : ParseFault A) → let digits = front is_ascii_hexdigit (view opens).rest in Counted before now digits → begins (the 125) (view now).rest ≡ true → character_of (value_in 16 digits) ≡ None →
          (view before).failed ≡ false → RunsOutHere view at now fault new ⊎ FailsAfter view at (BadUnicodeEscape (encode_utf8_all digits)) (view before).passed now fault new → RunsOut view at before fault new ⊎ Refuses view at (unit_at (view before).rest) before fault new
      unnamed before opens now new fault h q e f k =
          let digits = front is_ascii_hexdigit (view opens).rest in
          let m = begins_the 125 (view now).rest q in
          let u : unit_at (view before).rest ≡ Bad (BadUnicodeEscape digits) [] = h.unit ∙ (ap (closed digits) m.1 ∙ named_none digits m.0 e) in
          let b : encode_utf8_all digits ≡ digits = encodes-front_hexdigits (view opens).rest in
          refused_before before now new (codes "\\u{" ++ digits) (view now).rest (BadUnicodeEscape digits) fault h.takes u f (subst (λ z. RunsOutHere view at now fault new ⊎ FailsAfter view at (BadUnicodeEscape z) (view before).passed now fault new) b k)

      -- out of memory after what was parsed
      pub ran_out_within : (start now new : S) (cs taken : Text) (fault : ParseFault A) → Within start now cs taken → RunsOut view at now fault new → RunsOut view at start fault new
      ran_out_within start now new cs taken fault w s = runs_out_in_rest view at view_at at_at start now new taken (view now).rest fault w.takes s

      pub ran_out_here : (start now new : S) (cs taken : Text) (fault : ParseFault A) → (view start).failed ≡ false → Within start now cs taken → RunsOutHere view at now fault new → RunsOut view at start fault new
      ran_out_here start now new cs taken fault f w s = runs_out_after view at view_at at_at start now new taken (view now).rest fault f w.takes s

      bad_by : (u : Outcome ℕ) (text : Text) (old new : S) (f : ParseFault A) → unit_at text ≡ u → Refuses view at u old f new → (cause : Fault) × (upto : Text) × (u ≡ Bad cause upto) × Commits view at cause upto old f new
      bad_by (Read x t r) text old new f n g = absurd g
      bad_by (Missing e) text old new f n g = absurd (never_missing text (Missing e) n)
      bad_by (Bad e u) text old new f n g = (e, u, refl, g)

      -- a unit that is an error
      pub spoiled : (start now new : S) (cs taken : Text) (f : ParseFault A) → Within start now cs taken → begins (the 34) (view now).rest ≡ false → RunsOut view at now f new ⊎ Refuses view at (unit_at (view now).rest) now f new →
          RunsOut view at start f new ⊎ Refuses view at (mapped encode_utf8_all (demanded (units_at [] (view start).rest))) start f new
      spoiled start now new cs taken f w q (inl s) = inl (runs_out_in_rest view at view_at at_at start now new taken (view now).rest f w.takes s)
      spoiled start now new cs taken f w q (inr g) =
          let b = bad_by (unit_at (view now).rest) (view now).rest now new f refl g in
          let o : demanded (units_at [] (view start).rest) ≡ Bad b.0 (taken ++ b.1) = w.so_far ∙ whole_bad cs taken (view now).rest q b.0 b.1 b.2 in
          rw o (inr (commits_after view at view_at at_at b.0 b.1 start now new taken (view now).rest f w.takes b.3))

      -- the mark that begins a quoted text is not there, or the stream has failed
      pub unquoted : (b : Bool) (o : Outcome Unit) (old new : S) (f : ParseFault A) → RunsOut view at old f new ⊎ Refuses view at (unless_failed b o) old f new →
          RunsOut view at old f new ⊎ Refuses view at (unless_failed b (mapped encode_utf8_all (followed o (λ mark text. units_at [] text)))) old f new
      unquoted true o old new f h = h
      unquoted false (Read x t r) old new f (inl s) = inl s
      unquoted false (Read x t r) old new f (inr e) = absurd e
      unquoted false (Missing e) old new f h = h
      unquoted false (Bad e u) old new f h = h

      -- the result of the units after the mark is the result of the whole
      pub quoted_by : {Y : Type 0} (see : Y → List ℕ) (b : Bool) (o : Outcome Unit) (old mid new : S) (y : Unit) (a : Result Y (ParseFault A)) → Answers view at {A = A} (λ u. u) (unless_failed b o) old (Ok y) mid →
          Answers view at see (mapped encode_utf8_all (demanded (units_at [] (view mid).rest))) mid a new → Answers view at see (unless_failed b (mapped encode_utf8_all (followed o (λ mark text. units_at [] text)))) old a new
      quoted_by see true o old mid new y a h k = absurd h
      quoted_by see false (Read x t r) old mid new y a h k =
          let s : (view mid).rest ≡ r = rest_after old mid t r h.1 in
          let q : mapped encode_utf8_all (demanded (units_at [] (view mid).rest)) ≡ demanded (mapped encode_utf8_all (units_at [] r)) = rw s (mapped_demanded encode_utf8_all (units_at [] r)) in
          rw (mapped_prefixed encode_utf8_all t (units_at [] r)) (answers_after view at view_at at_at see (mapped encode_utf8_all (units_at [] r)) old mid new t r a h.1 (subst (λ z. Answers view at see z mid a new) q k))
      quoted_by see false (Missing e) old mid new y a h k = absurd h
      quoted_by see false (Bad e u) old mid new y a h k = absurd h

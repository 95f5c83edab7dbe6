-- The causes that parsers of tokens and of lists return, and their places.
use Rattle.std.proofs.Common.{◌≡◌, ◌∙◌, ℕ, zero, suc, true, false, cond, ℤ, Option, Some, None, List, [], ◌∷◌, ◌++◌, length, refl, sym, ap, subst, append_assoc}
use Rattle.std.proofs.lemmas.Bool.{eqb-true}
use Rattle.std.specs.Prelude.{◌==◌, codes}
use Rattle.std.specs.Char.{is_ascii_digit, is_ascii_hexdigit, is_whitespace}
use Rattle.std.specs.Str.Parse.{digits_value}
use lib.Utf8.{scalar}
use Rattle.irtext_base.specs.Text.{Text, begins, front, after, begins_word, in_word}
use Rattle.irtext_base.specs.Reading.{the}
use Rattle.irtext_base.specs.Faults.{Demand, Word, Unexpected, AnOperation}
use Rattle.irtext_base.specs.Stream.{first_of}
use Rattle.irtext_base.specs.Answers.{Outcome, Read, Missing, Bad, prefixed, mapped}
use Rattle.irtext_base.proofs.Along.{front_after}
use Rattle.irtext_tokens.specs.Demanded.{spaced_at, index_at}
use Rattle.irtext_tokens.specs.Infix.{Reader}
use Rattle.irtext_tokens.specs.ListOutcomes.{or_empty, item_after, items_after, separated_at}
use Rattle.irtext_tokens.specs.QuotedTexts.{escape_of, escaped, named, closed, braced, unicode_at, escape_at, unit_at, after_first, unit_before, units_at, quoted_at}
use Rattle.irtext_tokens.specs.Tokens.{space_at, word_at, word, spelled_at, number_at, numbered, no_digit, is_sign, sign_of, after_sign, value_of, integer_at, integered, no_integer, integer_of, id_at, id_with}
use Rattle.irtext_tokens.proofs.QuotedUnits.{UnitBegins, unit_begun}
use Rattle.irtext_grammar.proofs.Causes.Outcomes.{Allowed, Obeys, AllObey, obeys_read, obeys_missing, obeys_bad, obeys_either, obeys_prefixed, obeys_followed, obeys_mapped, ◌then◌, ◌so◌, seen, obeying_either, obeying_nothing, misses, stops}

sign_after : (text : Text) → sign_of text ++ after_sign text ≡ text
sign_after [] = refl
sign_after (c ∷ text) = elim (is_sign c) as (λ b. cond b (c ∷ []) [] ++ cond b text (c ∷ text) ≡ c ∷ text) [ true ↦ refl | false ↦ refl ]

tail_of : (d c : ℕ) (left text : Text) → ◌≡◌ {A = Text} (d ∷ left) (c ∷ text) → left ≡ text
tail_of d c left text e = cc

-- a sign, digits and what follows them
digits_after : (text : Text) → (sign_of text ++ front is_ascii_digit (after_sign text)) ++ after is_ascii_digit (after_sign text) ≡ text
digits_after text = append_assoc (sign_of text) (front is_ascii_digit (after_sign text)) (after is_ascii_digit (after_sign text))
    ∙ (ap (λ z. sign_of text ++ z) (front_after is_ascii_digit (after_sign text)) ∙ sign_after text)

-- the end of a text is the end of what is left of it
at_the_end : (left rest : Text) → left ++ rest ≡ [] → rest ≡ []
at_the_end [] rest e = e
at_the_end (c ∷ left) rest e = absurd (cc e)

module _ {K : Allowed} where
  -- ---- fixed texts, white space and words
  spelled_obeys : (whole w text : Text) → Obeys K text (spelled_at whole w text)
  spelled_obeys whole [] text = obeys_read text tt [] text refl
  spelled_obeys whole (c ∷ w) [] = misses [] _ refl
  spelled_obeys whole (c ∷ w) (d ∷ text) = obeys_either (d ∷ text) (the c d) (prefixed (d ∷ []) (spelled_at whole w text)) _
      (obeys_prefixed (d ∷ []) text (spelled_at whole w text) (spelled_obeys whole w text)) (misses (d ∷ text) _ refl)

  pub obeying_word : (w : Text) → AllObey K (word w)
  obeying_word w = record { at = λ text. spelled_obeys w w text }

  pub obeying_space : AllObey K space_at
  obeying_space = record { at = λ text. obeys_read text tt (front is_whitespace text) (after is_whitespace text) (front_after is_whitespace text) }

  -- an identifier, or a word of another kind
  pub obeying_name : (demand : Demand) → AllObey K (word_at demand)
  unfolding word_at
  obeying_name demand = record {
    at = λ text. obeys_either text (begins begins_word text) _ _
        (obeys_read text (front in_word text) (front in_word text) (after in_word text) (front_after in_word text)) (misses text _ refl);
  }

  -- ---- numbers
  -- no digit after a sign, or after none
  undigited_obeys : {X : Type 0} (none : Text → Text → Outcome X) → ((rest : Text) → Obeys K rest (none [] rest)) → ((c : ℕ) (sign rest text : Text) → (c ∷ sign) ++ rest ≡ text → Obeys K text (none (c ∷ sign) rest)) → (text : Text) → Obeys K text (none (sign_of text) (after_sign text))
  undigited_obeys none empty signed text = go (sign_of text) (after_sign text) (sign_after text)
    where
      go : (sign rest : Text) → sign ++ rest ≡ text → Obeys K text (none sign rest)
      go [] rest e = subst (λ z. Obeys K z (none [] rest)) e (empty rest)
      go (c ∷ sign) rest e = signed c sign rest text e

  numbered_obeys : (sign digits rest text : Text) (n : Option ℕ) → (sign ++ digits) ++ rest ≡ text → Obeys K text (numbered sign digits rest n)
  numbered_obeys sign digits rest text None e = stops text _ [] text (rest, e) refl
  numbered_obeys sign digits rest text (Some n) e = obeys_either text (begins (the 45) sign) _ _ (stops text _ [] text (rest, e) refl) (obeys_read text n (sign ++ digits) rest e)

  pub obeying_number : AllObey K number_at
  unfolding number_at
  obeying_number = record {
    at = λ text. obeys_either text (begins is_ascii_digit (after_sign text)) _ _
        (numbered_obeys (sign_of text) (front is_ascii_digit (after_sign text)) (after is_ascii_digit (after_sign text)) text (value_of (front is_ascii_digit (after_sign text))) (digits_after text))
        (undigited_obeys no_digit (λ rest. misses rest _ refl) (λ c sign rest text e. stops text _ (c ∷ sign) rest refl e) text);
  }

  integered_obeys : (sign digits rest text : Text) (z : Option ℤ) → (sign ++ digits) ++ rest ≡ text → Obeys K text (integered sign digits rest z)
  integered_obeys sign digits rest text None e = stops text _ [] text (rest, e) refl
  integered_obeys sign digits rest text (Some z) e = obeys_read text z (sign ++ digits) rest e

  pub obeying_integer : AllObey K integer_at
  unfolding integer_at
  obeying_integer = record {
    at = λ text. obeys_either text (begins is_ascii_digit (after_sign text)) _ _
        (integered_obeys (sign_of text) (front is_ascii_digit (after_sign text)) (after is_ascii_digit (after_sign text)) text
        (integer_of (sign_of text) (value_of (front is_ascii_digit (after_sign text)))) (digits_after text))
        (undigited_obeys no_integer (λ rest. misses rest _ refl) (λ c sign rest text e. stops text _ (c ∷ sign) rest refl e) text);
  }

  -- ---- quoted texts
  named_obeys : (digits text : Text) → Obeys K (92 ∷ 117 ∷ 123 ∷ (digits ++ (125 ∷ text))) (named digits text)
  named_obeys digits text =
      let e = ap (λ z. 92 ∷ 117 ∷ 123 ∷ z) (append_assoc digits (125 ∷ []) text) in
      obeys_either _ (scalar (digits_value 16 digits)) _ _ (obeys_read _ _ _ text e) (stops _ _ [] _ (text, e) refl)

  closed_obeys : (digits text : Text) → Obeys K (92 ∷ 117 ∷ 123 ∷ (digits ++ text)) (closed digits text)
  closed_obeys digits [] = stops _ _ (codes "\\u{" ++ digits) [] refl refl
  closed_obeys digits (c ∷ text) =
      elim (c == 125) as (λ b. (c == 125) ≡ b → Obeys K (92 ∷ 117 ∷ 123 ∷ (digits ++ (c ∷ text))) (cond b (named digits text) (Bad (Unexpected (Some c) (Word (codes "}"))) (codes "\\u{" ++ digits)))) [
        | true ↦ (λ q. subst (λ z. Obeys K (92 ∷ 117 ∷ 123 ∷ (digits ++ (z ∷ text))) (named digits text)) (sym (eqb-true c 125 q)) (named_obeys digits text))
        | false ↦ (λ q. stops _ _ (codes "\\u{" ++ digits) (c ∷ text) refl refl)
      ] refl

  braced_obeys : (digits text : Text) → Obeys K (92 ∷ 117 ∷ 123 ∷ (digits ++ text)) (braced digits text)
  braced_obeys [] text = stops _ _ (codes "\\u{") text refl refl
  braced_obeys (d ∷ digits) text = closed_obeys (d ∷ digits) text

  unicode_obeys : (text : Text) → Obeys K (92 ∷ 117 ∷ text) (unicode_at text)
  unicode_obeys [] = stops _ _ (codes "\\u") [] refl refl
  unicode_obeys (c ∷ text) =
      let digits = front is_ascii_hexdigit text in
      let following = after is_ascii_hexdigit text in
      elim (c == 123) as (λ b. (c == 123) ≡ b → Obeys K (92 ∷ 117 ∷ c ∷ text) (cond b (braced digits following) (Bad (Unexpected (Some c) (Word (codes "{"))) (codes "\\u")))) [
        | true ↦ (λ q. subst (λ z. Obeys K (92 ∷ 117 ∷ z ∷ text) (braced digits following)) (sym (eqb-true c 123 q)) (subst (λ z. Obeys K (92 ∷ 117 ∷ 123 ∷ z) (braced digits following)) (front_after is_ascii_hexdigit text) (braced_obeys digits following)))
        | false ↦ (λ q. stops _ _ (codes "\\u") (c ∷ text) refl refl)
      ] refl

  escaped_obeys : (o : Option ℕ) (e : ℕ) (text : Text) → Obeys K (92 ∷ e ∷ text) (escaped o e text)
  escaped_obeys (Some c) e text = obeys_read _ c (92 ∷ e ∷ []) text refl
  escaped_obeys None e text = stops _ _ [] (92 ∷ e ∷ text) (text, refl) refl

  escape_obeys : (text : Text) → Obeys K (92 ∷ text) (escape_at text)
  escape_obeys [] = stops _ _ (codes "\\") [] refl refl
  escape_obeys (e ∷ text) =
      elim (e == 117) as (λ b. (e == 117) ≡ b → Obeys K (92 ∷ e ∷ text) (cond b (unicode_at text) (escaped (escape_of e) e text))) [
        | true ↦ (λ q. subst (λ z. Obeys K (92 ∷ z ∷ text) (unicode_at text)) (sym (eqb-true e 117 q)) (unicode_obeys text))
        | false ↦ (λ q. escaped_obeys (escape_of e) e text)
      ] refl

  unit_obeys : (c : ℕ) (text : Text) → Obeys K (c ∷ text) (unit_at (c ∷ text))
  unfolding unit_at
  unit_obeys c text =
      elim (c == 92) as (λ b. (c == 92) ≡ b → Obeys K (c ∷ text) (cond b (escape_at text) (Read c (c ∷ []) text))) [
        | true ↦ (λ q. subst (λ z. Obeys K (z ∷ text) (escape_at text)) (sym (eqb-true c 92 q)) (escape_obeys text))
        | false ↦ (λ q. obeys_read (c ∷ text) c (c ∷ []) text refl)
      ] refl

  -- a unit that was begun, and what holds of the text after it
  before_obeys : (c : ℕ) (text : Text) (o : Outcome ℕ) (next : Text → Outcome Text) → Obeys K (c ∷ text) o → UnitBegins c text o → ((left rest : Text) → left ++ rest ≡ text → Obeys K rest (next left)) → Obeys K (c ∷ text) (unit_before o next)
  before_obeys c text (Read d taken rest) next h b k =
      let m = obeys_mapped rest (λ cs. d ∷ cs) (next (after_first taken)) (subst (λ z. Obeys K rest (next (after_first z))) (sym b.1) (k b.0 rest b.2)) in
      subst (λ z. Obeys K z (prefixed taken (mapped (λ cs. d ∷ cs) (next (after_first taken))))) h.says (obeys_prefixed taken rest _ m)
  before_obeys c text (Missing cause) next h b k = obeys_missing (c ∷ text) cause h.says
  before_obeys c text (Bad cause upto) next h b k = obeys_bad (c ∷ text) cause upto h.says.0 h.says.1 h.says.2

  -- after what is left of a unit
  units_obey : (left text rest : Text) → left ++ rest ≡ text → Obeys K rest (units_at left text)
  units_obey left [] rest e = stops rest _ [] rest (ap first_of (sym (at_the_end left rest e))) refl
  units_obey [] (c ∷ text) rest e =
      subst (λ z. Obeys K z (units_at [] (c ∷ text))) (sym e) (obeys_either (c ∷ text) (c == 34) (Read [] (c ∷ []) text) (unit_before (unit_at (c ∷ text)) (λ left. units_at left text))
      (obeys_read (c ∷ text) [] (c ∷ []) text refl) (before_obeys c text (unit_at (c ∷ text)) (λ left. units_at left text) (unit_obeys c text) (unit_begun c text) (λ left rest f. units_obey left text rest f)))
  units_obey (d ∷ left) (c ∷ text) rest e = units_obey left text rest (tail_of d c (left ++ rest) text e)

  pub obeying_quoted : AllObey K quoted_at
  unfolding quoted_at
  obeying_quoted = ◌then◌ (obeying_word (codes "\"")) (record { at = λ text. units_obey [] text text refl })

  -- ---- several tokens
  pub obeying_id : AllObey K id_at
  unfolding id_at
  obeying_id = ◌so◌ (obeying_name AnOperation) (λ dialect. ◌then◌ (obeying_word (codes ".")) (seen (id_with dialect) (obeying_name _)))

  pub obeying_spaced : (w : Text) → AllObey K (spaced_at w)
  obeying_spaced w = ◌then◌ obeying_space (◌then◌ (obeying_word w) obeying_space)

  pub obeying_index : AllObey K index_at
  obeying_index = ◌then◌ (obeying_word (codes "!")) obeying_number

-- ---- lists
module _ {K : Allowed} {X : Type 0} (separator : ℕ) (item : Reader X) (h : AllObey K item) where
  obeying_item : (found : List X) → AllObey K (item_after separator item found)
  obeying_item found = ◌so◌ h (λ x. seen (λ _. found ++ (x ∷ [])) obeying_space)

  obeying_items : (n : ℕ) (found : List X) → AllObey K (items_after separator item n found)
  obeying_items zero found = obeying_nothing found
  obeying_items (suc n) found = obeying_either (begins (the separator)) (◌then◌ (obeying_word (separator ∷ [])) (◌then◌ obeying_space (◌so◌ (obeying_item found) (λ more. obeying_items n more)))) (obeying_nothing found)

  or_empty_obeys : (o : Outcome (List X)) (text : Text) → Obeys K text o → Obeys K text (or_empty o text)
  or_empty_obeys (Read xs taken rest) text k = k
  or_empty_obeys (Missing cause) text k = obeys_read text [] [] text refl
  or_empty_obeys (Bad cause upto) text k = k

  pub obeying_separated : AllObey K (separated_at separator item)
  obeying_separated = record { at = λ text. or_empty_obeys _ text (obeys_followed text (item_after separator item [] text) (λ found t. items_after separator item (length t) found t) ((obeying_item []).at text) (λ found t. (obeying_items (length t) found).at t)) }

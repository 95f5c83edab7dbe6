-- Parsers of attributes.
use Rattle.std.proofs.Common.{◌≡◌, ℕ, ◌<◌, Bool, true, false, cond, Option, Some, None, Result, Ok, Err, [], ◌∷◌, ◌++◌, codes, List, refl, sym, ◌∙◌, ap, subst, arith}
use Rattle.std.proofs.lemmas.Bool.Decides.{nat_tests}
use Rattle.std.proofs.lemmas.List.{append_cancel_left}
use Rattle.std.proofs.lemmas.Slice.Eq.{bytes_eq-Decides}
use Rattle.std.proofs.lemmas.Str.{chars_from_encodes}
use Rattle.std.specs.List.{list_all}
use Rattle.std.specs.Str.{IsUtf8, chars, encode_utf8_all}
use Rattle.irtext_base.specs.Text.{Text, begins, front, after, begins_word, in_word, in_dotted}
use Rattle.irtext_base.specs.Reading.{the}
use Rattle.irtext_base.specs.Stream.{first_of}
use Rattle.irtext_base.specs.Faults.{AnIdentifier, Unexpected}
use Rattle.irtext_base.specs.Answers.{Outcome, Read, Missing, Bad, Takes, Gives, mapped}
use Rattle.irtext_base.specs.declared.parsable.fault.ParseFault.{ParseFault}
use Rattle.irtext_base.proofs.Along.{front_after}
use Rattle.irtext_base.proofs.Characters.{front_all, after_all}
use Rattle.irtext_base.proofs.Compose.{gives_mapped, refuses_mapped, seen_after}
use Rattle.irtext_tokens.specs.Tokens.{word_at, text_at, identifier_at}
use Rattle.irtext_tokens.specs.Infix.{◌▷◌}
use Rattle.irtext_tokens.specs.MustRead.{MayRead, MustRead}
use Rattle.irtext_base.specs.Locations.{given_names, ident, own}
use Rattle.irtext_tokens.specs.AttrTexts.{leads, given_name_at, given_names_at, ident_at, attr_at}
use Rattle.irtext_tokens.proofs.Grammar.{literal_from_at, text_at-literal}
use Rattle.irtext_tokens.proofs.Steps.{Lens, begins_with, begun_by, last}
use Rattle.irtext_tokens.proofs.Words.{encodes-front}

pub in_dotted_ascii : (c : ℕ) → in_dotted c ≡ true → c < 128
in_dotted_ascii c e = grind (arith, nat_tests)

-- what was parsed is what the word says
read_front : (b : Bool) (text name taken rest : Text) → cond b (Read (front in_word text) (front in_word text) (after in_word text)) (Missing (Unexpected (first_of text) AnIdentifier)) ≡ Read name taken rest → taken ++ rest ≡ text
read_front true text name taken rest e =
    let t : front in_word text ≡ taken = cc in
    let r : after in_word text ≡ rest = cc in
    rw (← t, ← r) (front_after in_word text)
read_front false text name taken rest e = absurd (cc)

identifier_takes : (text name taken rest : Text) → identifier_at text ≡ Read name taken rest → taken ++ rest ≡ text
unfolding word_at
identifier_takes text name taken rest e = read_front (begins begins_word text) text name taken rest e

mapped_takes : {X Y : Type 0} (g : X → Y) (o : Outcome X) (y : Y) (text taken rest : Text) → ((x : X) → o ≡ Read x taken rest → taken ++ rest ≡ text) → mapped g o ≡ Read y taken rest → taken ++ rest ≡ text
mapped_takes g (Read x t r) y text taken rest h e =
    let p : t ≡ taken = cc in
    let q : r ≡ rest = cc in
    h x (rw (p, q) refl)
mapped_takes g (Missing cause) y text taken rest h e = absurd (cc)
mapped_takes g (Bad cause upto) y text taken rest h e = absurd (cc)

text_takes : (word text taken rest : Text) (u : Unit {0}) → text_at word text ≡ Read u taken rest → taken ++ rest ≡ text
text_takes word text taken rest u e =
    let l = literal_from_at word text taken rest u e in
    let same : ◌≡◌ {A = Outcome Unit} (Read tt word rest) (Read u taken rest) = sym (text_at-literal word text rest l) ∙ e in
    let t : word ≡ taken = cc in
    rw (← t) (sym l)

-- a given name that was parsed is what the text begins with
pub given_name_takes : (text : Text) (x : Option Text) (taken rest : Text) → given_name_at text ≡ Read x taken rest → taken ++ rest ≡ text
given_name_takes [] x taken rest e = mapped_takes Some (identifier_at []) x [] taken rest (λ name. identifier_takes [] name taken rest) e
given_name_takes (c ∷ text) x taken rest e =
    elim (the 63 c) as (λ b. the 63 c ≡ b → cond b (mapped (λ _. None) (text_at (codes "?") (c ∷ text))) (mapped Some (identifier_at (c ∷ text))) ≡ Read x taken rest → taken ++ rest ≡ c ∷ text) [
      | true ↦ (λ b q. mapped_takes (λ _. None) (text_at (codes "?") (c ∷ text)) x (c ∷ text) taken rest (λ u. text_takes (codes "?") (c ∷ text) taken rest u) q)
      | false ↦ (λ b q. mapped_takes Some (identifier_at (c ∷ text)) x (c ∷ text) taken rest (λ name. identifier_takes (c ∷ text) name taken rest) q)
    ] refl e

module _ {S X Y V W A : Type 0} (l : Lens S) (g : X → V) (see : Y → X) (sees : W → V) (f : Text → Outcome X) (outcome : Text → Outcome V) where
  -- what is parsed where `outcome` is what `f` is, seen by a function
  pub read_as : (old new : S) (y : Y) (w : W) → sees w ≡ g (see y) → outcome (l.view old).rest ≡ mapped g (f (l.view old).rest) → MayRead {A = A} l.view l.at see f old (Ok y) new → MayRead {A = A} l.view l.at sees outcome old (Ok w) new
  read_as old new y w e o h =
      record { answers = rw o (gives_mapped l.view l.at l.view_at l.at_at g (l.view old).failed (f (l.view old).rest) old new (see y) (sees w) e h.answers) }

  -- and what is an error there
  pub refused_as : (old new : S) (fault : ParseFault A) → outcome (l.view old).rest ≡ mapped g (f (l.view old).rest) → MayRead l.view l.at see f old (Err fault) new → MayRead l.view l.at sees outcome old (Err fault) new
  refused_as old new fault o h =
      record { answers = rw o (refuses_mapped l.view l.at l.view_at l.at_at g (l.view old).failed (f (l.view old).rest) old new fault h.answers) }

module _ {A : Type 0} (reading : Text → Outcome A) (text : Text) where
  -- where the word of given names leads, they are parsed
  pub names_lead : true ≡ leads (codes "builtin.given_names") text → attr_at reading text ≡ mapped given_names (given_names_at text)
  unfolding attr_at
  names_lead e = rw (← e) refl

  -- where the word of an identifier leads, that is parsed
  pub ident_leads : false ≡ leads (codes "builtin.given_names") text → true ≡ leads (codes "builtin.identifier") text → attr_at reading text ≡ mapped ident (ident_at text)
  unfolding attr_at
  ident_leads e d = rw (← e, ← d) refl

  -- and else the caller's own
  pub own_leads : false ≡ leads (codes "builtin.given_names") text → false ≡ leads (codes "builtin.identifier") text → attr_at reading text ≡ mapped own (reading text)
  unfolding attr_at
  own_leads e d = rw (← e, ← d) refl

-- a dotted word is its bytes
pub dotted_bytes : (word : List ℕ) → IsUtf8 word → list_all in_dotted word ≡ true → chars word ≡ word
dotted_bytes word u d =
    let whole : front in_dotted (word ++ []) ≡ word = front_all in_dotted word [] d refl in
    sym (chars_from_encodes word word u (subst (λ z. encode_utf8_all z ≡ z) whole (encodes-front in_dotted in_dotted_ascii (word ++ []))))

-- what follows the longest prefix of characters that pass does not begin with one that passes
begins_after : (p : ℕ → Bool) (text : Text) → begins p (after p text) ≡ false
begins_after p [] = refl
begins_after p (c ∷ text) =
    elim (p c) as (λ b. p c ≡ b → begins p (cond b (after p text) (c ∷ text)) ≡ false) [ true ↦ (λ e. begins_after p text) | false ↦ (λ e. e) ] refl

module _ (word text : Text) where
  -- a word that leads is what the text begins with, and no dotted word continues it
  led_word : leads word text ≡ true → text ≡ word ++ after in_dotted text
  led_word e = sym (front_after in_dotted text) ∙ ap (λ z. z ++ after in_dotted text) ((bytes_eq-Decides (front in_dotted text) word).0 e)

  unled : (leads word text ≡ true → ⊥) → leads word text ≡ false
  unled h = elim (leads word text) as (λ b. leads word text ≡ b → b ≡ false) [ true ↦ (λ e. absurd (h e)) | false ↦ (λ e. refl) ] refl

  -- a word that the text does not begin with does not lead
  pub leads_not : ((rest : Text) → text ≡ word ++ rest → ⊥) → leads word text ≡ false
  leads_not h = unled (λ e. h (after in_dotted text) (led_word e))

  -- nor does one that a dotted word continues
  pub leads_less : (rest : Text) → text ≡ word ++ rest → begins in_dotted rest ≡ true → leads word text ≡ false
  leads_less rest s e = unled (λ d.
      let same : rest ≡ after in_dotted text = append_cancel_left word rest (after in_dotted text) (sym s ∙ led_word d) in
      let none : begins in_dotted rest ≡ false = ap (begins in_dotted) same ∙ begins_after in_dotted text in
      absurd (cc))

  -- one that goes no further leads
  pub leads_whole : (rest : Text) → text ≡ word ++ rest → list_all in_dotted word ≡ true → begins in_dotted rest ≡ false → (leads word text ≡ true) × (rest ≡ after in_dotted text)
  leads_whole rest s d e = rw s ((bytes_eq-Decides (front in_dotted (word ++ rest)) word).1 (front_all in_dotted word rest d e), sym (after_all in_dotted word rest d e))

module _ {S : Type 0} (l : Lens S) where
  -- a fixed text that was passed was parsed
  pub word_read : {A : Type 0} (word rest : Text) (old mid : S) → (l.view old).failed ≡ false → Takes l.view l.at word rest old mid → MayRead {A = A} l.view l.at (λ u. u) (text_at word) old (Ok tt) mid
  word_read word rest old mid f k =
      let g : Gives l.view l.at (text_at word (l.view old).rest) old tt mid = rw (text_at-literal word (l.view old).rest rest (sym k.same)) (refl, k) in
      record { answers = rw f g }

  -- a required value after a fixed text that was consumed is parsed, and the whole with it
  pub after_word : {V W A : Type 0} {sees : W → V} {next : Text → Outcome V} {word rest : Text} {old mid new : S} {r : Result W (ParseFault A)} → (l.view old).failed ≡ false → Takes l.view l.at word rest old mid → ((l.view mid).failed ≡ false → MustRead l.view l.at sees next mid r new) → MayRead l.view l.at sees (text_at word ▷ next) old r new
  after_word {A = A} {next = next} {word = word} {rest = rest} {old = old} {mid = mid} f k h =
      let fine : (l.view mid).failed ≡ false = ap (λ v. v.failed) (seen_after l.view l.at l.view_at l.at_at old mid word rest k) ∙ f in
      let b = word_read {A = A} word rest old mid f k in
      begun_by l (λ _ t. next t) b (last l (begins_with l (λ _ t. next t) b) (h fine))

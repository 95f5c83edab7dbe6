-- Parsers whose outcomes are of their texts, put together: a term of the shape of the parser's definition.
use Rattle.std.proofs.Common.{◌≡◌, ℕ, zero, suc, ◌≤◌, Bool, Some, List, [], ◌∷◌, ◌++◌, codes, length, length-append, refl, ap, subst, arith}
use Rattle.std.specs.Prelude.{pos}
use Rattle.std.specs.Char.{is_whitespace}
use Rattle.irtext_base.specs.Text.{Text, begins, front, after, begins_word, in_word}
use Rattle.irtext_base.specs.Reading.{the}
use Rattle.irtext_base.specs.Faults.{Fault, Failed, Demand, AnOperation}
use Rattle.irtext_base.specs.Locations.{given_names, ident, own}
use Rattle.irtext_base.specs.Answers.{Outcome, Read, Missing, Bad, mapped}
use Rattle.irtext_base.proofs.Along.{front_after}
use Rattle.irtext_base.proofs.Sincere.{Of, of_read, of_missing, of_either, of_followed, of_mapped, not_failed, first_of_text}
use Rattle.irtext_tokens.specs.AttrTexts.{leads, given_name_at, names_at, given_names_at, ident_at, attr_at}
use Rattle.irtext_tokens.specs.Demanded.{spaced_at, index_at}
use Rattle.irtext_tokens.specs.Infix.{Reader, ◌▷◌, ◌◁◌, ◌▶◌, ◌⇒◌, either}
use Rattle.irtext_tokens.specs.Integers.{unsigned_below, signed_below}
use Rattle.irtext_tokens.specs.ListOutcomes.{or_empty, item_after, items_after, separated_at}
use Rattle.irtext_tokens.specs.QuotedTexts.{quoted_at}
use Rattle.irtext_tokens.specs.Tokens.{space_at, word_at, word, number_at, integer_at, id_at, id_with}
use Rattle.irtext_tokens.proofs.Numbers.{number_is, integer_is}
use Rattle.irtext_tokens.proofs.SincereTokens.{of_text, of_int, of_quoted}

-- a parser whose outcomes are of their texts
pub record Honest {X : Type 0} (f : Reader X) : Type 0 where
  pub of : (text : Text) → Of text (f text)

-- ---- each operator
module _ {X Y : Type 0} where
  pub ◌then◌ : {f : Reader X} {g : Reader Y} → Honest f → Honest g → Honest (f ▷ g)
  ◌then◌ {f} {g} h k = record { of = λ text. of_followed text (f text) (λ _ t. g t) (h.of text) (λ _ t. k.of t) }

  pub ◌kept◌ : {f : Reader X} {g : Reader Y} → Honest f → Honest g → Honest (f ◁ g)
  ◌kept◌ {f} {g} h k = record { of = λ text. of_followed text (f text) (λ x t. mapped (λ _. x) (g t)) (h.of text) (λ x t. of_mapped t (λ _. x) (g t) (k.of t)) }

  pub ◌so◌ : {f : Reader X} {k : X → Reader Y} → Honest f → ((x : X) → Honest (k x)) → Honest (f ▶ k)
  ◌so◌ {f} {k} h g = record { of = λ text. of_followed text (f text) k (h.of text) (λ x t. (g x).of t) }

  pub seen : {f : Reader X} (see : X → Y) → Honest f → Honest (f ⇒ see)
  seen {f} see h = record { of = λ text. of_mapped text see (f text) (h.of text) }

pub honest_either : {X : Type 0} {f g : Reader X} (test : Text → Bool) → Honest f → Honest g → Honest (either test f g)
honest_either {f} {g} test h k = record { of = λ text. of_either text (test text) (f text) (g text) (h.of text) (k.of text) }

-- ---- each token
pub honest_word : (w : Text) → Honest (word w)
honest_word w = record { of = of_text w }

pub honest_space : Honest space_at
honest_space = record { of = λ text. of_read text tt (front is_whitespace text) (after is_whitespace text) (front_after is_whitespace text) }

of_word : (demand : Demand) (text : Text) → Of text (word_at demand text)
unfolding word_at
of_word demand text = of_either text (begins begins_word text) _ _ (of_read text (front in_word text) (front in_word text) (after in_word text) (front_after in_word text)) (of_missing text _ refl)

-- a word of the kind that is required
pub honest_name : (demand : Demand) → Honest (word_at demand)
honest_name demand = record { of = of_word demand }

of_unmapped : {X Y : Type 0} (text : Text) (see : X → Y) (o : Outcome X) → Of text (mapped see o) → Of text o
of_unmapped text see (Read x taken rest) h = record { says = h.says }
of_unmapped text see (Missing cause) h = record { says = h.says }
of_unmapped text see (Bad cause upto) h = record { says = h.says }

pub honest_number : Honest number_at
honest_number = record { of = λ text. of_unmapped text pos (number_at text) (subst (Of text) (number_is text) (of_int (unsigned_below 64) text)) }

pub honest_integer : Honest integer_at
honest_integer = record { of = λ text. subst (Of text) (integer_is text) (of_int (signed_below 32) text) }

pub honest_id : Honest id_at
unfolding id_at
honest_id = ◌so◌ (honest_name AnOperation) (λ dialect. ◌then◌ (honest_word (codes ".")) (seen (id_with dialect) (honest_name _)))

pub honest_quoted : Honest quoted_at
honest_quoted = record { of = of_quoted }

-- ---- lists
module _ {X : Type 0} (separator : ℕ) (item : Reader X) (h : Honest item) where
  honest_item : (found : List X) → Honest (item_after separator item found)
  honest_item found = ◌so◌ h (λ x. seen (λ _. found ++ (x ∷ [])) honest_space)

  honest_items : (n : ℕ) (found : List X) → Honest (items_after separator item n found)
  honest_items zero found = record { of = λ text. of_read text found [] text refl }
  honest_items (suc n) found = honest_either (begins (the separator)) (◌then◌ (honest_word (separator ∷ [])) (◌then◌ honest_space (◌so◌ (honest_item found) (λ more. honest_items n more)))) (record { of = λ text. of_read text found [] text refl })

  of_or_empty : (o : Outcome (List X)) (text : Text) → Of text o → Of text (or_empty o text)
  of_or_empty (Read xs taken rest) text k = k
  of_or_empty (Missing cause) text k = of_read text [] [] text refl
  of_or_empty (Bad cause upto) text k = k

  pub honest_separated : Honest (separated_at separator item)
  honest_separated = record { of = λ text. of_or_empty _ text (of_followed text (item_after separator item [] text) (λ found t. items_after separator item (length t) found t) ((honest_item []).of text) (λ found t. (honest_items (length t) found).of t)) }

-- ---- required tokens that follow one another
pub honest_spaced : (w : Text) → Honest (spaced_at w)
honest_spaced w = ◌then◌ honest_space (◌then◌ (honest_word w) honest_space)

pub honest_index : Honest index_at
honest_index = ◌then◌ (honest_word (codes "!")) honest_number

-- ---- attributes
pub honest_given_name : Honest given_name_at
honest_given_name = honest_either (begins (the 63)) (seen _ (honest_word (codes "?"))) (seen Some (honest_name _))

pub honest_names : Honest names_at
honest_names = honest_separated 44 given_name_at honest_given_name

pub honest_given_names : Honest given_names_at
unfolding given_names_at
honest_given_names = ◌then◌ (honest_word (codes "builtin.given_names")) (◌then◌ honest_space (◌then◌ (honest_word (codes "[")) (◌then◌ honest_space (◌kept◌ honest_names (honest_word (codes "]"))))))

pub honest_ident : Honest ident_at
unfolding ident_at
honest_ident = ◌then◌ (honest_word (codes "builtin.identifier")) (◌then◌ honest_space (honest_name _))

pub honest_attr : {A : Type 0} {reading : Reader A} → Honest reading → Honest (attr_at reading)
unfolding attr_at
honest_attr h = honest_either (leads (codes "builtin.given_names")) (seen given_names honest_given_names) (honest_either (leads (codes "builtin.identifier")) (seen ident honest_ident) (seen own h))

-- ---- what follows of it for any parser
-- what holds of a cause holds of the cause of an outcome that has one
abbrev pub CauseIs : (Fault → Type 0) → {X : Type 0} → Outcome X → Type 0
CauseIs P (Read x taken rest) = Unit {0}
CauseIs P (Missing cause) = P cause
CauseIs P (Bad cause upto) = P cause

-- the cause does not say that the stream had failed
abbrev pub NotFailed : Fault → Type 0
NotFailed cause = cause ≡ Failed → ⊥

spares : {X : Type 0} (text : Text) (o : Outcome X) → Of text o → CauseIs NotFailed o
spares text (Read x taken left) h = tt
spares text (Missing cause) h = not_failed cause (first_of_text cause h.says)
spares text (Bad cause upto) h = not_failed cause h.says.0

-- no cause says that the stream had failed
pub never_failed : {X : Type 0} {f : Reader X} → Honest f → (text : Text) → CauseIs NotFailed (f text)
never_failed {f} h text = spares text (f text) (h.of text)

-- no more is left than the text
pub leaves_no_more : {X : Type 0} {f : Reader X} → Honest f → (text : Text) (x : X) (taken rest : Text) → f text ≡ Read x taken rest → length rest ≤ length text
leaves_no_more {f} h text x taken rest e =
    let o = subst (Of text) e (h.of text) in
    omega (arith, ap length o.says, length-append taken rest)

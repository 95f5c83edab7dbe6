-- How a family's texts begin, for the law `led`: of a word with white space after it this is computed, and of a word alone these lemmas
-- state it.
use Rattle.std.proofs.Common.{◌≡◌, ℕ, true, false, List, [], ◌∷◌, ◌++◌, refl, ap, ◌∙◌, inl, inr, arith}
use Rattle.std.proofs.lemmas.Bool.Decides.{nat_tests}
use Rattle.std.specs.List.{list_all}
use Rattle.irtext_base.specs.Text.{Text, begins, front, in_dotted}
use Rattle.irtext_base.specs.Own.{can_follow, Ends}
use Rattle.irtext_base.proofs.Characters.{front_all}
use Rattle.irtext_base.specs.Families.{is_one_of}

dotted_not_end : (c : ℕ) → can_follow c ≡ true → in_dotted c ≡ false
dotted_not_end c e = grind (arith, nat_tests)

-- a word does not go on where a text ends
pub no_dotted : (rest : Text) → Ends rest → begins in_dotted rest ≡ false
no_dotted [] e = refl
no_dotted (c ∷ rest) (inl e) = absurd (cc)
no_dotted (c ∷ rest) (inr e) = dotted_not_end c e

-- a text that is one of the words alone
pub word_leads : (words : List Text) (word rest : Text) → list_all in_dotted word ≡ true → is_one_of words word ≡ true → Ends rest → is_one_of words (front in_dotted (word ++ rest)) ≡ true
word_leads words word rest e f k = ap (is_one_of words) (front_all in_dotted word rest e (no_dotted rest k)) ∙ f

-- For theorems: closing characters.
use Rattle.std.proofs.Common.{◌≡◌, ℕ, Bool, true, false, cond, ◌∷◌, ◌∙◌, ap, ap₂, arith}
use Rattle.std.proofs.lemmas.Bool.Decides.{nat_tests}
use Rattle.std.specs.Char.{is_whitespace, is_ascii}
use Rattle.std.specs.Prelude.{◌&&◌}
use Rattle.irtext_base.specs.Text.{Text, begins, after_space}
use Rattle.irtext_base.specs.Own.{can_follow}
use Rattle.irtext_syntax.specs.PartLaws.{is_closer, closes}

pub closer_no_space : (c : ℕ) → is_closer c ≡ true → is_whitespace c ≡ false
closer_no_space c e = grind (arith, nat_tests)

pub closer_follows : (c : ℕ) → is_closer c ≡ true → can_follow c ≡ true
closer_follows c e = grind (arith, nat_tests)

pub closer_ascii : (c : ℕ) → is_closer c ≡ true → is_ascii c ≡ true
closer_ascii c e = grind (arith, nat_tests)

pub both : (a b : Bool) → a ≡ true → b ≡ true → (a && b) ≡ true
both a b e f = ap₂ (λ x y. x && y) e f

-- a closing character comes after no white space
pub closer_first : (c : ℕ) (rest : Text) → is_closer c ≡ true → after_space (c ∷ rest) ≡ c ∷ rest
closer_first c rest e = ap (λ b. let t : Text = cond b (after_space rest) (c ∷ rest) in t) (closer_no_space c e)

pub closer_closes : (c : ℕ) (rest : Text) → is_closer c ≡ true → closes (c ∷ rest) ≡ true
closer_closes c rest e = both (can_follow c) _ (closer_follows c e) (ap (begins is_closer) (closer_first c rest e) ∙ e)

use Rattle.std.proofs.Common.{◌≡◌, ◌∙◌, ℕ, false, cond, List, Some, None, sym, ap, codes}
use Rattle.std.specs.Str.{bytes_eq}
use Rattle.std.proofs.lemmas.Bool.{false_from_ne_true}
use Rattle.std.proofs.lemmas.Slice.Eq.{bytes_eq-Decides}
use Rattle.irtext.specs.Program.{form_named}
use Rattle.irtext.specs.declared.root.Form.TheVariants.{Whole, Elided}
use Rattle.irtext.proofs.run.form_named.Goals as goal

-- texts that are not the same are not equal
differs : (word name : List ℕ) → (word ≡ name → ⊥) → bytes_eq word name ≡ false
differs word name h = false_from_ne_true (bytes_eq word name) (λ e. h ((bytes_eq-Decides word name).0 e))

-- another word asks for no form
names_none : (word : List ℕ) → (word ≡ codes "fmt" → ⊥) → (word ≡ codes "dbg" → ⊥) → None ≡ form_named word
names_none word whole elided =
    sym (ap (λ b. cond b (Some Whole) (cond (bytes_eq word (codes "dbg")) (Some Elided) None)) (differs word (codes "fmt") whole)
    ∙ ap (λ b. cond b (Some Elided) None) (differs word (codes "dbg") elided))

pub returns-in_default : goal.returns-in_default
returns-in_default c = names_none c.args.word.now c.in_default.not-fmt c.in_default.not-dbg

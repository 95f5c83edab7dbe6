-- An entry that is parsed takes some character.
use Rattle.std.proofs.Common.{◌≡◌, ℕ, ◌<◌, Bool, true, false, cond, ◌&&◌, not, [], ◌∷◌, ◌++◌, length, length-append, refl, ap, arith}
use Rattle.std.specs.Prelude.{codes}
use Rattle.irtext_base.specs.Text.{Text}
use Rattle.irtext_base.specs.Reading.{the}
use Rattle.irtext_base.specs.Faults as fault
use Rattle.irtext_base.specs.Answers.{Outcome, Read, Missing, Bad, prefixed, mapped, followed}
use Rattle.irtext_base.specs.Locations.{AttrView}
use Rattle.irtext_tokens.specs.Tokens.{text_at, number_at}
use Rattle.irtext_tokens.specs.Demanded.{index_at, spaced_at}
use Rattle.irtext_grammar.specs.Grammar.Tree.{Mark}
use Rattle.irtext_grammar.specs.Names.Acts.{Rule}
use Rattle.irtext_grammar.specs.Heads.{mark_at}
use Rattle.irtext_grammar.specs.Entries.{begins_given, tested, entry_head_at, entry_at}

-- some character is taken of what is parsed
pub record Grows {X : Type 0} (o : Outcome X) : Type 0 where
  pub takes : (x : X) (taken rest : Text) → o ≡ Read x taken rest → taken ≡ [] → ⊥

module _ {X : Type 0} where
  grows_read : (x : X) (c : ℕ) (t rest : Text) → Grows (Read x (c ∷ t) rest)
  grows_read x c t rest = record { takes = λ y taken r e none. let f : c ∷ t ≡ taken = cc e in let g : c ∷ t ≡ [] = cc (f, none) in cc g }

  grows_missing : (cause : fault.Fault) → Grows {X = X} (Missing cause)
  grows_missing cause = record { takes = λ y taken r e none. cc e }

  grows_bad : (cause : fault.Fault) (upto : Text) → Grows {X = X} (Bad cause upto)
  grows_bad cause upto = record { takes = λ y taken r e none. cc e }

  grows_prefixed : (c : ℕ) (t : Text) (o : Outcome X) → Grows (prefixed (c ∷ t) o)
  grows_prefixed c t (Read x taken rest) = grows_read x c (t ++ taken) rest
  grows_prefixed c t (Missing cause) = grows_bad cause (c ∷ t)
  grows_prefixed c t (Bad cause upto) = grows_bad cause (c ∷ (t ++ upto))

  grows_cond : (b : Bool) (o p : Outcome X) → Grows o → Grows p → Grows (cond b o p)
  grows_cond true o p h k = h
  grows_cond false o p h k = k

module _ {X Y : Type 0} where
  grows_followed : (o : Outcome X) (next : X → Text → Outcome Y) → Grows o → Grows (followed o next)
  grows_followed (Read x [] rest) next h = absurd (h.takes x [] rest refl refl)
  grows_followed (Read x (c ∷ t) rest) next h = grows_prefixed c t (next x rest)
  grows_followed (Missing cause) next h = grows_missing cause
  grows_followed (Bad cause upto) next h = grows_bad cause upto

  grows_mapped : (see : X → Y) (o : Outcome X) → Grows o → Grows (mapped see o)
  grows_mapped see (Read x [] rest) h = absurd (h.takes x [] rest refl refl)
  grows_mapped see (Read x (c ∷ t) rest) h = grows_read (see x) c t rest
  grows_mapped see (Missing cause) h = grows_missing cause
  grows_mapped see (Bad cause upto) h = grows_bad cause upto

grows_bang : (text : Text) → Grows (text_at (codes "!") text)
grows_bang [] = grows_missing _
grows_bang (d ∷ text) = grows_cond (the 33 d) _ _ (grows_prefixed d [] (Read tt [] text)) (grows_missing _)

grows_tested : (test : ℕ → Bool) (o : Outcome (Mark ℕ)) → Grows o → Grows (tested test o)
grows_tested test (Read m taken rest) h = grows_cond (begins_given rest && not (test m.index)) _ _ (grows_bad _ _) h
grows_tested test (Missing cause) h = h
grows_tested test (Bad cause upto) h = h

grows_head : (text : Text) → Grows (entry_head_at text)
grows_head text = grows_followed (mark_at text) (λ m t. mapped (λ _. m) (spaced_at (codes "=") t))
    (grows_mapped _ (index_at text) (grows_followed (text_at (codes "!") text) (λ _ t. number_at t) (grows_bang text)))

module _ {A : Type 0} (attr : Text → Outcome (AttrView A)) (test : ℕ → Bool) (rules : ℕ → Rule A) where
  pub grows_entry : (text : Text) → Grows (entry_at attr test rules text)
  grows_entry text = grows_followed (tested test (entry_head_at text)) _ (grows_tested test (entry_head_at text) (grows_head text))

-- less is left where some character is taken
pub less_left : {X : Type 0} (o : Outcome X) (x : X) (taken rest text : Text) → Grows o → o ≡ Read x taken rest → taken ++ rest ≡ text → length rest < length text
less_left o x [] rest text g e s = absurd (g.takes x [] rest e refl)
less_left o x (c ∷ t) rest text g e s = omega (arith, ap length s, length-append t rest)

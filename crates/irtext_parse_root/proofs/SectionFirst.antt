-- A fault of the section after an operation is the first failure of every section that the text parses as.
use Rattle.std.proofs.Common.{◌≡◌, ◌∙◌, ◌-◌, ℕ, List, ◌++◌, length, take, sym, ap, subst, append_assoc, length-append, arith, inl, inr}
use Rattle.std.proofs.Math.Seq.{take-append_seam}
use Rattle.irtext_base.specs.Text.{Text}
use Rattle.irtext_base.specs.Faults.{Fault, fault_of}
use Rattle.irtext_base.specs.Answers.{Outcome}
use Rattle.irtext_base.specs.Stream.{IsAt}
use Rattle.irtext_base.specs.declared.parsable.fault.ParseFault.{ParseFault}
use Rattle.irtext_grammar.specs.Contexts.Held.{IsPosition}
use Rattle.irtext_grammar.specs.Names.Script.{Failure}
use Rattle.irtext_grammar.specs.Promises.Root.{IsCause, IsPlace}
use Rattle.irtext_grammar.specs.Promises.Supported.{RefusedAs}
use Rattle.irtext_names.specs.Promises.{IsFirst}
use Rattle.irtext_grammar.specs.Agrees.{StopsAt, ReadOrStops}
use Rattle.irtext_grammar.specs.Entries.{fault_for}
use Rattle.irtext_names.proofs.Refuses.{own_cause}

-- the characters before the rest
pub front_is : (a b : Text) → take (length (a ++ b) - length b) (a ++ b) ≡ a
front_is a b = let n : length (a ++ b) - length b ≡ length a = omega (arith, length-append a b) in ap (λ z. take z (a ++ b)) n ∙ take-append_seam a b

module _ {A X : Type 0} (all passed rest : Text) (whole : passed ++ rest ≡ all) (fault : ParseFault A) (cause : Fault) (upto : Text) (because : fault_of fault.cause ≡ cause) (at : IsAt fault.pos.line fault.pos.column (passed ++ upto)) where
  is_first : (o : Outcome X) (fs : List (Failure Text ℕ)) → StopsAt rest o fs → RefusedAs o cause upto → IsFirst all fs fault
  is_first o fs s h =
      let k : (fault_for s.first.cause ≡ cause) × (s.upto ≡ upto) = subst (λ z. RefusedAs z cause upto) s.bad h in
      let text : all ≡ (passed ++ upto) ++ s.stop = sym whole ∙ (ap (λ z. passed ++ z) (sym s.splits ∙ ap (λ z. z ++ s.stop) k.1) ∙ sym (append_assoc passed upto s.stop)) in
      let front : take (length all - length s.stop) all ≡ passed ++ upto = ap (λ z. take (length z - length s.stop) z) text ∙ front_is (passed ++ upto) s.stop in
      let place : IsPosition all (length s.stop) fault.pos = subst (λ z. IsAt fault.pos.line fault.pos.column z) (sym front) at in
      subst (λ z. IsFirst all z fault) (sym s.is)
      (subst (IsCause s.first.cause) (k.0 ∙ sym because) (own_cause s.first.cause), subst (λ z. IsPlace all z fault.pos) (sym s.at) place)

  -- whatever is parsed there, the fault is the first of what is wrong with it
  pub first_wrong : (o : Outcome X) (x : X) (left : Text) (fs : List (Failure Text ℕ)) → ReadOrStops rest o x left fs → RefusedAs o cause upto → IsFirst all fs fault
  first_wrong o x left fs (inl (none, (taken, e))) h = absurd (subst (λ z. RefusedAs z cause upto) e h)
  first_wrong o x left fs (inr s) h = is_first o fs s h

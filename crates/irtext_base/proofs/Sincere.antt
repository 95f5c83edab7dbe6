-- Readings that say of a text what is of that text, put together.
use Rattle.std.proofs.Common.{◌≡◌, Bool, true, false, cond, [], ◌++◌, refl, sym, ◌∙◌, ap, append_assoc, subst, true≢false}
use Rattle.irtext_base.specs.Text.{Text}
use Rattle.irtext_base.specs.Faults.{Fault, Failed}
use Rattle.irtext_base.specs.Answers.{Outcome, Read, Missing, Bad, prefixed, followed, mapped}
use Rattle.irtext_base.specs.Own.{is_first_fault, is_later_fault, is_text_fault, IsFront, Sincere}
use Rattle.irtext_base.proofs.Characters.{or_left}

-- what is parsed takes a front of the text, and a fault has a cause of a text, at a place in it
abbrev pub SaysOf : {X : Type 0} → Text → Outcome X → Type 0
SaysOf text (Read x taken left) = taken ++ left ≡ text
SaysOf text (Missing cause) = is_first_fault cause ≡ true
SaysOf text (Bad cause upto) = (is_text_fault cause ≡ true) × IsFront upto text

-- an outcome that is of this text
pub record Of {X : Type 0} (text : Text) (o : Outcome X) : Type 0 where
  pub says : SaysOf text o

-- a cause of a text does not say that the stream had failed
pub not_failed : (cause : Fault) → is_text_fault cause ≡ true → cause ≡ Failed → ⊥
not_failed cause e f = true≢false (sym e ∙ ap is_text_fault f)

-- a cause of a text of which nothing was taken is one of a text
pub first_of_text : (cause : Fault) → is_first_fault cause ≡ true → is_text_fault cause ≡ true
first_of_text cause e = or_left (is_first_fault cause) (is_later_fault cause) e

module _ {X : Type 0} where
  pub of_read : (text : Text) (x : X) (taken left : Text) → taken ++ left ≡ text → Of text (Read x taken left)
  of_read text x taken left e = record { says = e }

  pub of_missing : (text : Text) (cause : Fault) → is_first_fault cause ≡ true → Of {X = X} text (Missing cause)
  of_missing text cause e = record { says = e }

  pub of_bad : (text : Text) (cause : Fault) (upto left : Text) → is_text_fault cause ≡ true → upto ++ left ≡ text → Of {X = X} text (Bad cause upto)
  of_bad text cause upto left e f = record { says = (e, (left, f)) }

  -- an empty prefix is in each text
  pub of_here : (text : Text) (cause : Fault) → is_text_fault cause ≡ true → Of {X = X} text (Bad cause [])
  of_here text cause e = of_bad text cause [] text e refl

  pub of_either : (text : Text) (test : Bool) (o p : Outcome X) → Of text o → Of text p → Of text (cond test o p)
  of_either text true o p h k = h
  of_either text false o p h k = k

  pub of_prefixed : (t text : Text) (o : Outcome X) → Of text o → Of (t ++ text) (prefixed t o)
  of_prefixed t text (Read x taken left) h = of_read (t ++ text) x (t ++ taken) left (append_assoc t taken left ∙ ap (λ z. t ++ z) h.says)
  of_prefixed t text (Missing cause) h = of_bad (t ++ text) cause t text (first_of_text cause h.says) refl
  of_prefixed t text (Bad cause upto) h = of_bad (t ++ text) cause (t ++ upto) h.says.1.0 h.says.0 (append_assoc t upto h.says.1.0 ∙ ap (λ z. t ++ z) h.says.1.1)

pub of_followed : {X Y : Type 0} (text : Text) (o : Outcome X) (next : X → Text → Outcome Y) → Of text o → ((x : X) (t : Text) → Of t (next x t)) → Of text (followed o next)
of_followed text (Read x taken left) next h k = subst (λ z. Of z (prefixed taken (next x left))) h.says (of_prefixed taken left (next x left) (k x left))
of_followed text (Missing cause) next h k = of_missing text cause h.says
of_followed text (Bad cause upto) next h k = of_bad text cause upto h.says.1.0 h.says.0 h.says.1.1

pub of_mapped : {X Y : Type 0} (text : Text) (see : X → Y) (o : Outcome X) → Of text o → Of text (mapped see o)
of_mapped text see (Read x taken left) h = of_read text (see x) taken left h.says
of_mapped text see (Missing cause) h = of_missing text cause h.says
of_mapped text see (Bad cause upto) h = of_bad text cause upto h.says.1.0 h.says.0 h.says.1.1

module _ {X : Type 0} (reading : Text → Outcome X) where
  -- a parser whose outcomes are of their texts
  pub sincere_of : ((text : Text) → Of text (reading text)) → Sincere reading
  sincere_of h = record {
    reads = λ text x taken left e. (subst (Of text) e (h text)).says;
    passes = λ text cause e. (subst (Of text) e (h text)).says;
    commits = λ text cause upto e. (subst (Of text) e (h text)).says;
  }

  by : (text : Text) (o : Outcome X) → Sincere reading → reading text ≡ o → Of text o
  by text (Read x taken left) s e = of_read text x taken left (s.reads text x taken left e)
  by text (Missing cause) s e = of_missing text cause (s.passes text cause e)
  by text (Bad cause upto) s e = record { says = s.commits text cause upto e }

  -- and back
  pub of_sincere : Sincere reading → (text : Text) → Of text (reading text)
  of_sincere s text = by text (reading text) s refl

-- The causes that parsers return, and their places, for parsers that are put together.
use Rattle.std.proofs.Common.{◌≡◌, ◌∙◌, Bool, true, false, cond, [], ◌++◌, refl, ap, subst, append_assoc}
use Rattle.irtext_base.specs.Text.{Text}
use Rattle.irtext_base.specs.Faults.{Fault}
use Rattle.irtext_base.specs.Answers.{Outcome, Read, Missing, Bad, prefixed, followed, mapped}
use Rattle.irtext_tokens.specs.Infix.{Reader, nothing, either, ◌▷◌, ◌◁◌, ◌▶◌, ◌⇒◌}
use Rattle.irtext_grammar.specs.Promises.ErrorCauses.{IsTokenFault, is_name_fault}

-- which causes are allowed at which places of a text, given by what is left there: those of tokens and about names everywhere; and what is
-- allowed for a text is allowed for a longer one that ends so
pub record Allowed : Type 1 where
  pub At : Text → Fault → Text → Type 0
  pub token : (text : Text) (cause : Fault) (upto left : Text) → IsTokenFault cause left → upto ++ left ≡ text → At text cause left
  pub name : (text : Text) (cause : Fault) (upto left : Text) → is_name_fault cause ≡ true → upto ++ left ≡ text → At text cause left
  pub longer : (front text : Text) (cause : Fault) (left : Text) → At text cause left → At (front ++ text) cause left

-- what is parsed takes a front of the text, and an error has an allowed cause at its place
abbrev pub AllowedOf : {X : Type 0} → Allowed → Text → Outcome X → Type 0
AllowedOf K text (Read x taken left) = taken ++ left ≡ text
AllowedOf K text (Missing cause) = K.At text cause text
AllowedOf K text (Bad cause upto) = (left : Text) × (upto ++ left ≡ text) × K.At text cause left

-- the same, as a record
pub record Obeys {X : Type 0} (K : Allowed) (text : Text) (o : Outcome X) : Type 0 where
  pub says : AllowedOf K text o

-- a parser whose outcomes are such
pub record AllObey {X : Type 0} (K : Allowed) (f : Reader X) : Type 0 where
  pub at : (text : Text) → Obeys K text (f text)

-- ---- outcomes
module _ {K : Allowed} {X : Type 0} where
  pub obeys_read : (text : Text) (x : X) (taken left : Text) → taken ++ left ≡ text → Obeys K text (Read x taken left)
  obeys_read text x taken left e = record { says = e }

  pub obeys_missing : (text : Text) (cause : Fault) → K.At text cause text → Obeys {X = X} K text (Missing cause)
  obeys_missing text cause a = record { says = a }

  pub obeys_bad : (text : Text) (cause : Fault) (upto left : Text) → upto ++ left ≡ text → K.At text cause left → Obeys {X = X} K text (Bad cause upto)
  obeys_bad text cause upto left e a = record { says = (left, e, a) }

  pub obeys_either : (text : Text) (test : Bool) (o p : Outcome X) → Obeys K text o → Obeys K text p → Obeys K text (cond test o p)
  obeys_either text true o p h k = h
  obeys_either text false o p h k = k

  pub obeys_prefixed : (t text : Text) (o : Outcome X) → Obeys K text o → Obeys K (t ++ text) (prefixed t o)
  obeys_prefixed t text (Read x taken left) h = obeys_read (t ++ text) x (t ++ taken) left (append_assoc t taken left ∙ ap (λ z. t ++ z) h.says)
  obeys_prefixed t text (Missing cause) h = obeys_bad (t ++ text) cause t text refl (K.longer t text cause text h.says)
  obeys_prefixed t text (Bad cause upto) h = obeys_bad (t ++ text) cause (t ++ upto) h.says.0 (append_assoc t upto h.says.0 ∙ ap (λ z. t ++ z) h.says.1) (K.longer t text cause h.says.0 h.says.2)

module _ {K : Allowed} {X Y : Type 0} where
  pub obeys_followed : (text : Text) (o : Outcome X) (next : X → Text → Outcome Y) → Obeys K text o → ((x : X) (t : Text) → Obeys K t (next x t)) → Obeys K text (followed o next)
  obeys_followed text (Read x taken left) next h k = subst (λ z. Obeys K z (prefixed taken (next x left))) h.says (obeys_prefixed taken left (next x left) (k x left))
  obeys_followed text (Missing cause) next h k = obeys_missing text cause h.says
  obeys_followed text (Bad cause upto) next h k = obeys_bad text cause upto h.says.0 h.says.1 h.says.2

  pub obeys_mapped : (text : Text) (see : X → Y) (o : Outcome X) → Obeys K text o → Obeys K text (mapped see o)
  obeys_mapped text see (Read x taken left) h = obeys_read text (see x) taken left h.says
  obeys_mapped text see (Missing cause) h = obeys_missing text cause h.says
  obeys_mapped text see (Bad cause upto) h = obeys_bad text cause upto h.says.0 h.says.1 h.says.2

-- ---- each operator
module _ {K : Allowed} {X Y : Type 0} where
  pub ◌then◌ : {f : Reader X} {g : Reader Y} → AllObey K f → AllObey K g → AllObey K (f ▷ g)
  ◌then◌ {f} {g} h k = record { at = λ text. obeys_followed text (f text) (λ _ t. g t) (h.at text) (λ _ t. k.at t) }

  pub ◌kept◌ : {f : Reader X} {g : Reader Y} → AllObey K f → AllObey K g → AllObey K (f ◁ g)
  ◌kept◌ {f} {g} h k = record { at = λ text. obeys_followed text (f text) (λ x t. mapped (λ _. x) (g t)) (h.at text) (λ x t. obeys_mapped t (λ _. x) (g t) (k.at t)) }

  pub ◌so◌ : {f : Reader X} {k : X → Reader Y} → AllObey K f → ((x : X) → AllObey K (k x)) → AllObey K (f ▶ k)
  ◌so◌ {f} {k} h g = record { at = λ text. obeys_followed text (f text) k (h.at text) (λ x t. (g x).at t) }

  pub seen : {f : Reader X} (see : X → Y) → AllObey K f → AllObey K (f ⇒ see)
  seen {f} see h = record { at = λ text. obeys_mapped text see (f text) (h.at text) }

module _ {K : Allowed} {X : Type 0} where
  pub obeying_either : {f g : Reader X} (test : Text → Bool) → AllObey K f → AllObey K g → AllObey K (either test f g)
  obeying_either {f} {g} test h k = record { at = λ text. obeys_either text (test text) (f text) (g text) (h.at text) (k.at text) }

  pub obeying_nothing : (x : X) → AllObey K (nothing x)
  obeying_nothing x = record { at = λ text. obeys_read text x [] text refl }

  -- nothing is found at the beginning of the text, with a cause of a token
  pub misses : (text : Text) (cause : Fault) → IsTokenFault cause text → Obeys {X = X} K text (Missing cause)
  misses text cause t = obeys_missing text cause (K.token text cause [] text t refl)

  -- the text is bad at a later place, with a cause of a token
  pub stops : (text : Text) (cause : Fault) (upto left : Text) → IsTokenFault cause left → upto ++ left ≡ text → Obeys {X = X} K text (Bad cause upto)
  stops text cause upto left t e = obeys_bad text cause upto left e (K.token text cause upto left t e)

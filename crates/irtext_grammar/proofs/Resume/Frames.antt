-- What a turn of the innermost open frame says of the whole parse, and how turns are put together.
use Rattle.std.proofs.Common.{◌≡◌, ℕ, ◌-◌, List, [], ◌∷◌, ◌++◌, Option, Some, None, length, arith, refl, ap, sym, ◌∙◌}
use Rattle.irtext_base.specs.Text.{Text}
use Rattle.irtext_base.specs.Faults.{Fault}
use Rattle.irtext_base.specs.Answers.{Outcome, Read, Missing, Bad, demanded}
use Rattle.irtext_base.specs.Locations.{AttrView}
use Rattle.irtext_context.specs.Dialects.{Table}
use Rattle.irtext_grammar.specs.Reached.{Reached, Advanced, Stopped, came, tells, Actions, Reads}
use Rattle.irtext_grammar.specs.Resume.{Open, Pops, rest_of, resume, Goes, StoppedAt}

-- ---- what is reached

module _ {X Y S : Type 0} where
  -- a required value that is missing or bad at a text
  pub tells_bad : (o : Outcome X) (text : Text) (s : S) (next : X → Text → Reached Y S) (cause : Fault) (upto : Text) → demanded o ≡ Bad cause upto → tells o text s next ≡ Stopped s cause (length text - length upto)
  tells_bad (Read x taken rest) text s next cause upto e = absurd (cc)
  tells_bad (Missing c) text s next cause upto e =
      let f : c ≡ cause = cc in
      let g : [] ≡ upto = cc in
      ap (λ z. Stopped s z (length text)) f ∙ (ap (Stopped s cause) (nothing_off (length text)) ∙ ap (λ (z : Text). Stopped s cause (length text - length z)) g)
    where
      nothing_off : (n : ℕ) → n ≡ n - 0
      nothing_off n = omega arith
  tells_bad (Bad c u) text s next cause upto e =
      let f : c ≡ cause = cc in
      let g : u ≡ upto = cc in
      ap (λ z. Stopped s z (length text - length u)) f ∙ ap (λ (z : Text). Stopped s cause (length text - length z)) g

-- one parse after another, and a third after both
pub came_came : {X Y Z S : Type 0} (o : Reached X S) (k : X → S → Text → Reached Y S) (l : Y → S → Text → Reached Z S) → came (came o k) l ≡ came o (λ x s t. came (k x s t) l)
came_came (Advanced x s t) k l = refl
came_came (Stopped s cause place) k l = refl

module _ {T A S : Type 0} (dialects : List (Text × Table)) (types_at : Text → Outcome T) (attr : Text → Outcome (AttrView A)) (does : Actions T A S) where
  -- the rest of an open frame, and of all
  abbrev left_of : Open T A → Reads S
  left_of = rest_of dialects types_at attr does

  abbrev resumed : List (Open T A) → Reached Unit S → Reached Unit S
  resumed = resume dialects types_at attr does

  pub resume_push : (frames : List (Open T A)) (f : Open T A) (o : Reached Unit S) → resumed (frames ++ f ∷ []) o ≡ resumed frames (came o (λ _ s t. left_of f t s))
  resume_push [] f o = refl
  resume_push (g ∷ frames) f o = ap (λ z. came z (λ _ s t. left_of g t s)) (resume_push frames f o)

  pub resume_stuck : (frames : List (Open T A)) (s : S) (cause : Fault) (place : ℕ) → resumed frames (Stopped s cause place) ≡ Stopped s cause place
  resume_stuck [] s cause place = refl
  resume_stuck (g ∷ frames) s cause place = ap (λ z. came z (λ _ s t. left_of g t s)) (resume_stuck frames s cause place)

-- ---- a turn of the innermost is one of the whole
module _ {T A S : Type 0} {dialects : List (Text × Table)} {types_at : Text → Outcome T} {attr : Text → Outcome (AttrView A)} {does : Actions T A S} {f : Open T A} {frames : List (Open T A)} {s s' : S} {t : Text} where
  -- the text is at fault
  pub stuck_here : {cause : Fault} {place : ℕ} → rest_of dialects types_at attr does f t s ≡ Stopped s' cause place → StoppedAt dialects types_at attr does (Some f) frames s t s' cause place
  stuck_here {cause = cause} {place = place} e = record { so = ap (resume dialects types_at attr does frames) e ∙ resume_stuck dialects types_at attr does frames s' cause place }

  module _ {t' : Text} where
    -- the parse goes on with another frame
    pub goes_as : {g : Open T A} → rest_of dialects types_at attr does f t s ≡ rest_of dialects types_at attr does g t' s' → Goes dialects types_at attr does (Some f) frames s t (Some g) frames s' t'
    goes_as e = record { so = ap (resume dialects types_at attr does frames) e }

    -- something begins in it, and it waits
    pub goes_in : {g : Open T A} (h : Open T A) → rest_of dialects types_at attr does f t s ≡ came (rest_of dialects types_at attr does g t' s') (λ _ z u. rest_of dialects types_at attr does h u z)
        → Goes dialects types_at attr does (Some f) frames s t (Some g) (frames ++ h ∷ []) s' t'
    goes_in {g = g} h e = record { so = ap (resume dialects types_at attr does frames) e ∙ sym (resume_push dialects types_at attr does frames h (rest_of dialects types_at attr does g t' s')) }

    -- the frame ends, and the frame that waits goes on
    pub goes_out : (next : Option (Open T A)) (others : List (Open T A)) → Pops frames next others → rest_of dialects types_at attr does f t s ≡ Advanced tt s' t' → Goes dialects types_at attr does (Some f) frames s t next others s' t'
    goes_out None others p e = record { so = ap (λ z. resume dialects types_at attr does z (rest_of dialects types_at attr does f t s)) p ∙ e }
    goes_out (Some g) others p e = record {
      so = ap (λ z. resume dialects types_at attr does z (rest_of dialects types_at attr does f t s)) p
          ∙ (ap (resume dialects types_at attr does (others ++ g ∷ [])) e ∙ resume_push dialects types_at attr does others g (Advanced tt s' t'));
    }

-- ---- turns one after another
module _ {T A S : Type 0} {dialects : List (Text × Table)} {types_at : Text → Outcome T} {attr : Text → Outcome (AttrView A)} {does : Actions T A S} {n : Option (Open T A)} {fr : List (Open T A)} {s : S} {t : Text} where
  module _ {n' : Option (Open T A)} {fr' : List (Open T A)} {s' : S} {t' : Text} (g : Goes dialects types_at attr does n fr s t n' fr' s' t') where
    pub goes_trans : {m : Option (Open T A)} {gr : List (Open T A)} {z : S} {u : Text} → Goes dialects types_at attr does n' fr' s' t' m gr z u → Goes dialects types_at attr does n fr s t m gr z u
    goes_trans h = record { so = g.so ∙ h.so }

    pub stuck_at : {z : S} {cause : Fault} {place : ℕ} → StoppedAt dialects types_at attr does n' fr' s' t' z cause place → StoppedAt dialects types_at attr does n fr s t z cause place
    stuck_at h = record { so = g.so ∙ h.so }

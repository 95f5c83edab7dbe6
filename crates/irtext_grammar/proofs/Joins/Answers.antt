-- The parts of a successful parse in which one parser follows another.
use Rattle.std.proofs.Common.{◌≡◌, ◌++◌, refl, sym, ◌∙◌, ap, append_assoc}
use Rattle.irtext_base.specs.Text.{Text}
use Rattle.irtext_base.specs.Answers.{Outcome, Read, Missing, Bad, prefixed, mapped, followed}

-- a successful parse of one value and, after it, another
pub record Followed {X Y : Type 0} (o : Outcome X) (next : X → Text → Outcome Y) (y : Y) (taken rest : Text) : Type 0 where
  pub value : X
  pub front : Text
  pub middle : Text
  pub more : Text
  pub first : o ≡ Read value front middle
  pub second : next value middle ≡ Read y more rest
  pub whole : front ++ more ≡ taken

module _ {X Y : Type 0} where
  -- the second parse, after the first succeeded
  followed_on : (x : X) (a mid : Text) (next : X → Text → Outcome Y) (y : Y) (taken rest : Text) (p : Outcome Y) → next x mid ≡ p → prefixed a p ≡ Read y taken rest
      → Followed (Read x a mid) next y taken rest
  followed_on x a mid next y taken rest (Read z b r) f e = record {
    value = x;
    front = a;
    middle = mid;
    more = b;
    first = refl;
    second = let g : z ≡ y = cc e in let h : r ≡ rest = cc e in f ∙ (ap (λ w. Read w b r) g ∙ ap (Read y b) h);
    whole = cc e;
  }
  followed_on x a mid next y taken rest (Missing c) f e = absurd (cc e)
  followed_on x a mid next y taken rest (Bad c u) f e = absurd (cc e)

  -- what was parsed is both
  pub followed_read : (o : Outcome X) (next : X → Text → Outcome Y) (y : Y) (taken rest : Text) → followed o next ≡ Read y taken rest → Followed o next y taken rest
  followed_read (Read x a mid) next y taken rest e = followed_on x a mid next y taken rest (next x mid) refl e
  followed_read (Missing c) next y taken rest e = absurd (cc e)
  followed_read (Bad c u) next y taken rest e = absurd (cc e)

  -- both are parsed
  pub followed-read : (o : Outcome X) (next : X → Text → Outcome Y) (x : X) (y : Y) (a mid b rest : Text) → o ≡ Read x a mid → next x mid ≡ Read y b rest
      → followed o next ≡ Read y (a ++ b) rest
  followed-read o next x y a mid b rest e f = ap (λ o. followed o next) e ∙ ap (prefixed a) f

  -- what was parsed is seen
  pub mapped_read : (see : X → Y) (o : Outcome X) (y : Y) (taken rest : Text) → mapped see o ≡ Read y taken rest → (x : X) × (o ≡ Read x taken rest) × (see x ≡ y)
  mapped_read see (Read x a r) y taken rest e = let f : a ≡ taken = cc e in let g : r ≡ rest = cc e in (x, ap (λ a. Read x a r) f ∙ ap (Read x taken) g, cc e)
  mapped_read see (Missing c) y taken rest e = absurd (cc e)
  mapped_read see (Bad c u) y taken rest e = absurd (cc e)

-- the characters that are taken and those that are left are the text
abbrev pub Splits : {X : Type 0} → (Text → Outcome X) → Type 0
Splits {X} at = (text : Text) (x : X) (taken rest : Text) → at text ≡ Read x taken rest → taken ++ rest ≡ text

module _ {X Y : Type 0} where
  -- what is taken and what is left make up the text, for one parser and then another
  pub splits_followed : (at : Text → Outcome X) (next : X → Text → Outcome Y) → Splits at → ((x : X) → Splits (next x)) → Splits (λ text. followed (at text) next)
  splits_followed at next h k text y taken rest e =
      let r = followed_read (at text) next y taken rest e in
      ap (λ t. t ++ rest) (sym r.whole) ∙ (append_assoc r.front r.more rest ∙ (ap (λ t. r.front ++ t) (k r.value r.middle y r.more rest r.second) ∙ h text r.value r.front r.middle r.first))

  -- the same for a function of what was parsed
  pub splits_mapped : (see : X → Y) (at : Text → Outcome X) → Splits at → Splits (λ text. mapped see (at text))
  splits_mapped see at h text y taken rest e = let r = mapped_read see (at text) y taken rest e in h text r.0 taken rest r.1

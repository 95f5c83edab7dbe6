-- The front of an operation, which has no action, is one parse.
use Rattle.std.proofs.Common.{◌≡◌, ℕ, ◌-◌, ◌+◌, Bool, true, false, List, [], ◌∷◌, ◌++◌, None, length, length-append, arith, refl, ap, sym, ◌∙◌}
use Rattle.std.specs.Char.{is_whitespace}
use Rattle.irtext_base.specs.Text.{Text, front, after}
use Rattle.irtext_base.specs.Faults.{Fault}
use Rattle.irtext_base.specs.Answers.{Outcome, Read, Missing, Bad, demanded, prefixed, followed}
use Rattle.irtext_base.specs.Locations.{AttrView}
use Rattle.irtext_base.proofs.Along.{front_after}
use Rattle.irtext_context.specs.Dialects.{Table}
use Rattle.irtext_tokens.specs.AttrTexts.{attr_at}
use Rattle.irtext_tokens.specs.Infix.{Reader, ◌▷◌}
use Rattle.irtext_tokens.specs.Tokens.{space_at}
use Rattle.irtext_grammar.specs.Grammar.Tree as tree
use Rattle.irtext_grammar.specs.Grammar.Tree.{Part, Piece}
use Rattle.irtext_grammar.proofs.Joins.Answers.{Splits, followed_read, followed-read, splits_followed}
use Rattle.irtext_grammar.specs.declared.parsed.Setting.{Setting}
use Rattle.irtext_grammar.specs.Heads.{Step, flat, types, one, all, front_steps, region_steps, piece_at, setting}
use Rattle.irtext_grammar.specs.Reached.{Reached, Advanced, Stopped, tells, Actions, front_by}
use Rattle.irtext_grammar.specs.Resume.{is_flat, front_at}
use Rattle.irtext_grammar.proofs.Exact.Outside.{outside_read, inside_read}
use Rattle.irtext_grammar.proofs.Resume.Frames.{tells_bad}
use Rattle.irtext_grammar.proofs.Knot.Loops.{tells_found}

-- ---- which steps are before the first region
pub in_front : (step : Step) (ss : List Step) → is_flat step ≡ true → (front_steps (step ∷ ss) ≡ step ∷ front_steps ss) × (region_steps (step ∷ ss) ≡ region_steps ss)
in_front (flat d) ss e = (refl, refl)
in_front types ss e = (refl, refl)
in_front (one i) ss e = absurd (cc)
in_front all ss e = absurd (cc)

pub after_front : (step : Step) (ss : List Step) → is_flat step ≡ false → (front_steps (step ∷ ss) ≡ []) × (region_steps (step ∷ ss) ≡ step ∷ ss)
after_front (flat d) ss e = absurd (cc)
after_front types ss e = absurd (cc)
after_front (one i) ss e = (refl, refl)
after_front all ss e = (refl, refl)

-- ---- the front as one parser
-- white space and what follows it are the text
splits_after_space : {X : Type 0} {reader : Reader X} → Splits reader → Splits (space_at ▷ reader)
splits_after_space {reader = reader} h = splits_followed space_at (λ _. reader) splits_space (λ _. h)
  where
    splits_space : Splits space_at
    splits_space text x taken rest e = let f : front is_whitespace text ≡ taken = cc in let g : after is_whitespace text ≡ rest = cc in ap (λ z. z ++ rest) (sym f) ∙ (ap (λ z. front is_whitespace text ++ z) (sym g) ∙ front_after is_whitespace text)

module _ {T A : Type 0} (types_at : Reader T) (reading : Reader A) (h : Splits types_at) (k : Splits reading) where
  -- what a piece takes and leaves is the text, inside of some region
  pub splits_inside : (any_key : Bool) (step : Step) → Splits (piece_at types_at (attr_at reading) (setting true any_key) step)
  splits_inside any_key step text p taken rest e = (inside_read types_at (λ t. []) reading (λ a. []) (λ id. None) h k any_key step text p taken rest e).1

  -- and, where keys are tested, outside of each too
  pub splits_piece : (inside : Bool) (step : Step) → Splits (piece_at types_at (attr_at reading) (setting inside false) step)
  splits_piece true step text p taken rest e = splits_inside false step text p taken rest e
  splits_piece false step text p taken rest e = (outside_read types_at (λ t. []) reading (λ a. []) (λ id. None) h k step text p taken rest e).1

  -- a front that is parsed outside of each region is parsed inside of one too
  pub front_inside : (ss : List Step) (found parts : List (Part ℕ T A)) (text taken rest : Text) → front_at types_at (attr_at reading) (setting false false) ss found text ≡ Read parts taken rest
      → (more : Text) × (front_at types_at (attr_at reading) (setting true false) ss found text ≡ Read parts more rest)
  front_inside [] found parts text taken rest e = (taken, e)
  front_inside (step ∷ ss) found parts text taken rest e =
      let a = followed_read ((space_at ▷ piece_at types_at (attr_at reading) (setting false false) step) text) (λ p. front_at types_at (attr_at reading) (setting false false) ss (found ++ tree.piece p ∷ [])) parts taken rest e in
      let b = followed_read (space_at text) (λ _ t. piece_at types_at (attr_at reading) (setting false false) step t) a.value a.front a.middle a.first in
      let p = (outside_read types_at (λ t. []) reading (λ a. []) (λ id. None) h k step b.middle a.value b.more a.middle b.second).0 in
      let more = front_inside ss (found ++ tree.piece a.value ∷ []) parts a.middle a.more rest a.second in (
        _,
        followed-read ((space_at ▷ piece_at types_at (attr_at reading) (setting true false) step) text) (λ p. front_at types_at (attr_at reading) (setting true false) ss (found ++ tree.piece p ∷ [])) a.value parts (b.front ++ p.0) a.middle more.0 rest
            (followed-read (space_at text) (λ _ t. piece_at types_at (attr_at reading) (setting true false) step t) b.value a.value b.front b.middle p.0 a.middle b.first p.1) more.1,
      )

module _ {X Y S : Type 0} (s : S) (next : X → Text → Reached Y S) where
  tells_prefixed : (taken rest text : Text) (o : Outcome X) → length text ≡ length taken + length rest → tells (prefixed taken o) text s next ≡ tells o rest s next
  tells_prefixed taken rest text (Read x more left) e = refl
  tells_prefixed taken rest text (Missing cause) e = ap (Stopped s cause) (omega (arith, e))
  tells_prefixed taken rest text (Bad cause upto) e = ap (Stopped s cause) (omega (arith, e, length-append taken upto))

-- one value required after another, as one requirement or as two
tells_followed : {W X Y S : Type 0} (o : Outcome W) (k : W → Text → Outcome X) (text : Text) (s : S) (next : X → Text → Reached Y S) → ((w : W) (taken rest : Text) → o ≡ Read w taken rest → taken ++ rest ≡ text)
    → tells (followed o k) text s next ≡ tells o text s (λ w rest. tells (k w rest) rest s next)
tells_followed (Read w taken rest) k text s next h = tells_prefixed s next taken rest text (k w rest) (omega (arith, ap length (h w taken rest refl), length-append taken rest))
tells_followed (Missing cause) k text s next h = refl
tells_followed (Bad cause upto) k text s next h = refl

tells_same : {X Y S : Type 0} (o : Outcome X) (text : Text) (s : S) (next other : X → Text → Reached Y S) → ((x : X) (rest : Text) → next x rest ≡ other x rest) → tells o text s next ≡ tells o text s other
tells_same (Read x taken rest) text s next other h = h x rest
tells_same (Missing cause) text s next other h = refl
tells_same (Bad cause upto) text s next other h = refl

module _ {T A S : Type 0} (dialects : List (Text × Table)) (types_at : Text → Outcome T) (attr : Text → Outcome (AttrView A)) (does : Actions T A S) (at : Setting) (splits : (step : Step) → Splits (piece_at types_at attr at step)) where
  abbrev came_to : S → List (Part ℕ T A) → Text → Reached (List (Part ℕ T A)) S
  came_to s found rest = Advanced found s rest

  pub front_is : (ss : List Step) (found : List (Part ℕ T A)) (text : Text) (s : S) → front_by dialects types_at attr does at ss found text s ≡ tells (front_at types_at attr at ss found text) text s (came_to s)
  front_is [] found text s = refl
  front_is (step ∷ ss) found text s =
      let o : Outcome (Piece ℕ T A) = (space_at ▷ piece_at types_at attr at step) text in
      tells_same o text s (λ p rest. front_by dialects types_at attr does at ss (found ++ tree.piece p ∷ []) rest s) (λ p rest. tells (front_at types_at attr at ss (found ++ tree.piece p ∷ []) rest) rest s (came_to s)) (λ p rest. front_is ss (found ++ tree.piece p ∷ []) rest s)
      ∙ sym (tells_followed o (λ p. front_at types_at attr at ss (found ++ tree.piece p ∷ [])) text s (came_to s) (splits_after_space (splits step) text))

  -- it was parsed
  pub front_reads : (ss : List Step) (found found' : List (Part ℕ T A)) (text taken rest : Text) (s : S) → front_at types_at attr at ss found text ≡ Read found' taken rest → front_by dialects types_at attr does at ss found text s ≡ Advanced found' s rest
  front_reads ss found found' text taken rest s e = front_is ss found text s ∙ tells_found (front_at types_at attr at ss found text) text s (came_to s) found' taken rest e

  -- a piece is missing, or bad
  pub front_misses : (ss : List Step) (found : List (Part ℕ T A)) (text : Text) (s : S) (cause : Fault) (upto : Text) → demanded (front_at types_at attr at ss found text) ≡ Bad cause upto
      → front_by dialects types_at attr does at ss found text s ≡ Stopped s cause (length text - length upto)
  front_misses ss found text s cause upto e = front_is ss found text s ∙ tells_bad (front_at types_at attr at ss found text) text s (came_to s) cause upto e

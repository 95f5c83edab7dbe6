-- Two sets of actions side by side: the actions of each tree are performed on both states, and each parse ends or is stuck where each of
-- the two does.
use Rattle.std.proofs.Common.{◌≡◌, ℕ, Bool, List, Option, refl, ap₂}
use Rattle.irtext_base.specs.Text.{Text}
use Rattle.irtext_base.specs.Format.{Id}
use Rattle.irtext_base.specs.Answers.{Outcome}
use Rattle.irtext_base.specs.Locations.{AttrView}
use Rattle.irtext_context.specs.Dialects.{Table}
use Rattle.irtext_grammar.specs.Grammar.Tree.{Tree}
use Rattle.irtext_grammar.specs.Reached.{Actions, do_tree, operation_at}
use Rattle.irtext_grammar.specs.Resume.{Open, rest_of, whole}
use Rattle.irtext_grammar.specs.Both.{both, AreBeside}
use Rattle.irtext_grammar.proofs.Seen.{Shows, shows_tree, seen_operation_at, seen_rest, seen_whole}

module _ {T A S U : Type 0} (d : Actions T A S) (e : Actions T A U) where
  -- what both do, seen as what the first has done, is what the first does
  pub shows_first : Shows (λ (s : S × U). s.0) (both d e) d
  shows_first = record { uses = λ place id parts s. refl; late = λ place id piece s. refl; enters = λ iso s. refl; leaves = λ iso place s. refl; closes = λ place names id parts s. refl; marks = λ mark s. refl; heads = λ head s. refl }

  -- and seen as what the second has done, what the second does
  pub shows_second : Shows (λ (s : S × U). s.1) (both d e) e
  shows_second = record { uses = λ place id parts s. refl; late = λ place id piece s. refl; enters = λ iso s. refl; leaves = λ iso place s. refl; closes = λ place names id parts s. refl; marks = λ mark s. refl; heads = λ head s. refl }

  -- a tree does what it does in each of the two ways
  pub both_tree : (isolated : Id → Bool) (x : Tree ℕ T A) (s : S) (t : U) → do_tree isolated (both d e) x (s, t) ≡ (do_tree isolated d x s, do_tree isolated e x t)
  both_tree isolated x s t =
      ap₂ (λ y z. (y, z)) (shows_tree isolated (λ z. z.0) (both d e) d shows_first x (s, t)) (shows_tree isolated (λ z. z.1) (both d e) e shows_second x (s, t))

  module _ (alike : d.any_key ≡ e.any_key) (dialects : List (Text × Table)) (types_at : Text → Outcome T) (attr : Text → Outcome (AttrView A)) where
    -- the parse of an operation
    pub operation_beside : (inside : Bool) (text : Text) (s : S) (t : U)
        → AreBeside (operation_at dialects types_at attr d inside text s) (operation_at dialects types_at attr e inside text t) (operation_at dialects types_at attr (both d e) inside text (s, t))
    operation_beside inside text s t = record {
      left = (seen_operation_at dialects types_at attr (λ z. z.0) (both d e) d shows_first refl inside).at text (s, t);
      right = (seen_operation_at dialects types_at attr (λ z. z.1) (both d e) e shows_second alike inside).at text (s, t);
    }

    -- the rest of an open frame
    pub rest_beside : (o : Open T A) (text : Text) (s : S) (t : U)
        → AreBeside (rest_of dialects types_at attr d o text s) (rest_of dialects types_at attr e o text t) (rest_of dialects types_at attr (both d e) o text (s, t))
    rest_beside o text s t = record {
      left = (seen_rest dialects types_at attr (λ z. z.0) (both d e) d shows_first refl o).at text (s, t);
      right = (seen_rest dialects types_at attr (λ z. z.1) (both d e) e shows_second alike o).at text (s, t);
    }

    -- what comes of the whole
    pub whole_beside : (next : Option (Open T A)) (frames : List (Open T A)) (s : S) (t : U) (text : Text)
        → AreBeside (whole dialects types_at attr d next frames s text) (whole dialects types_at attr e next frames t text) (whole dialects types_at attr (both d e) next frames (s, t) text)
    whole_beside next frames s t text = record {
      left = seen_whole dialects types_at attr (λ z. z.0) (both d e) d shows_first refl next frames (s, t) text;
      right = seen_whole dialects types_at attr (λ z. z.1) (both d e) e shows_second alike next frames (s, t) text;
    }

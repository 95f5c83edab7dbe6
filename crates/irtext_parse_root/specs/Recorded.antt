-- Between functions: everything that was done while nested text was parsed, as a list, the last action first. It does not depend on what
-- the actions do to names or objects.
use Rattle.std.specs.Prelude.{ℕ, Bool, false, List, [], ◌∷◌, Option}
use Rattle.irtext_base.specs.Format.{Id}
use Rattle.irtext_grammar.specs.Grammar.Tree.{Name, Mark, Piece, Part, Head}
use Rattle.irtext_grammar.specs.Reached.{Actions}

-- one action: an operation's parts before its first region; a piece after a region; the beginning and the end of a region; the end of an
-- operation; the mark of an operation; the header of a block
pub data Did (T A : Type 0) : Type 0 where
  did_use : ℕ → Id → List (Part ℕ T A) → Did T A
  did_late : ℕ → Id → Piece ℕ T A → Did T A
  did_enter : Bool → Did T A
  did_leave : Bool → ℕ → Did T A
  did_close : ℕ → List (Name ℕ) → Id → List (Part ℕ T A) → Did T A
  did_mark : Option (Mark ℕ) → Did T A
  did_head : Head ℕ T A → Did T A

module _ {T A : Type 0} where
  -- the actions, each recorded in the list
  abbrev pub recorder : Actions T A (List (Did T A))
  recorder = record {
    uses = λ place id parts ds. did_use place id parts ∷ ds;
    late = λ place id piece ds. did_late place id piece ∷ ds;
    enters = λ iso ds. did_enter iso ∷ ds;
    leaves = λ iso place ds. did_leave iso place ∷ ds;
    closes = λ place names id parts ds. did_close place names id parts ∷ ds;
    marks = λ mark ds. did_mark mark ∷ ds;
    heads = λ head ds. did_head head ∷ ds;
    any_key = false;
  }

module _ {T A S : Type 0} (does : Actions T A S) where
  -- one recorded action, done in another way
  abbrev pub one_done : Did T A → S → S
  one_done (did_use place id parts) s = does.uses place id parts s
  one_done (did_late place id piece) s = does.late place id piece s
  one_done (did_enter iso) s = does.enters iso s
  one_done (did_leave iso place) s = does.leaves iso place s
  one_done (did_close place names id parts) s = does.closes place names id parts s
  one_done (did_mark mark) s = does.marks mark s
  one_done (did_head head) s = does.heads head s

  -- all recorded actions; the last one is first in the list
  abbrev pub all_done : List (Did T A) → S → S
  all_done [] s = s
  all_done (d ∷ ds) s = one_done d (all_done ds s)

-- A text that is bad at the first failure, with more text before it, or more failures after it.
use Rattle.std.proofs.Common.{◌≡◌, ◌∙◌, ℕ, List, [], ◌++◌, refl, ap, append_assoc}
use Rattle.irtext_base.specs.Text.{Text}
use Rattle.irtext_base.specs.Faults.{Fault}
use Rattle.irtext_base.specs.Answers.{Outcome, Read, Bad, prefixed, mapped, followed}
use Rattle.irtext_grammar.specs.Names.Script.{Failure}
use Rattle.irtext_grammar.specs.Entries.{fault_for}
use Rattle.irtext_grammar.specs.Agrees.{StopsAt}

-- more failures after
pub stops_before : {X : Type 0} {text : Text} {o : Outcome X} (fs gs all : List (Failure Text ℕ)) → all ≡ fs ++ gs → StopsAt text o fs → StopsAt text o all
stops_before fs gs all e s = record {
  first = s.first;
  others = s.others ++ gs;
  is = e ∙ ap (λ z. z ++ gs) s.is;
  upto = s.upto;
  stop = s.stop;
  splits = s.splits;
  at = s.at;
  bad = s.bad;
}

-- the same is wrong
pub stops_as : {X : Type 0} {text : Text} {o : Outcome X} (fs gs : List (Failure Text ℕ)) → gs ≡ fs → StopsAt text o fs → StopsAt text o gs
stops_as fs gs e s = record { first = s.first; others = s.others; is = e ∙ s.is; upto = s.upto; stop = s.stop; splits = s.splits; at = s.at; bad = s.bad }

-- what is bad at a position is bad in the whole text, after the characters before that position
pub stops_after : {X Y : Type 0} (front mid text : Text) {o : Outcome X} {p : Outcome Y} {fs : List (Failure Text ℕ)} → front ++ mid ≡ text → ((cause : Fault) (upto : Text) → o ≡ Bad cause upto → p ≡ Bad cause (front ++ upto)) → StopsAt mid o fs → StopsAt text p fs
stops_after front mid text e h s = record {
  first = s.first;
  others = s.others;
  is = s.is;
  upto = front ++ s.upto;
  stop = s.stop;
  splits = append_assoc front s.upto s.stop ∙ (ap (λ t. front ++ t) s.splits ∙ e);
  at = s.at;
  bad = h (fault_for s.first.cause) s.upto s.bad;
}

-- the first of two parsers finds a bad text
pub stops_first : {X Y : Type 0} (next : X → Text → Outcome Y) {text : Text} {o : Outcome X} {fs : List (Failure Text ℕ)} → StopsAt text o fs → StopsAt text (followed o next) fs
stops_first next {text} s = stops_after [] text text refl (λ cause upto e. ap (λ o. followed o next) e) s

-- the second of two parsers finds a bad text
pub stops_second : {X Y : Type 0} (next : X → Text → Outcome Y) (o : Outcome X) (x : X) (front mid text : Text) {fs : List (Failure Text ℕ)} → o ≡ Read x front mid → front ++ mid ≡ text → StopsAt mid (next x mid) fs → StopsAt text (followed o next) fs
stops_second next o x front mid text e split s = stops_after front mid text split (λ cause upto b. ap (λ o. followed o next) e ∙ ap (prefixed front) b) s

-- what is bad is bad however it would be seen
pub stops_seen : {X Y : Type 0} (see : X → Y) {text : Text} {o : Outcome X} {fs : List (Failure Text ℕ)} → StopsAt text o fs → StopsAt text (mapped see o) fs
stops_seen see {text} s = stops_after [] text text refl (λ cause upto e. ap (mapped see) e) s

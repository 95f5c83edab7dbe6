-- Faults at places of the text, and what the names that were parsed represent.
use Rattle.std.proofs.Common.{◌≡◌, ◌∙◌, ◌-◌, inl, inr, ℕ, zero, suc, false, List, [], ◌∷◌, ◌++◌, length, map, take, Some, Err, refl, sym, ap, subst, arith, length-append, append_assoc, slice_get}
use Rattle.std.proofs.Math.Seq.{take-append_seam}
use Rattle.irtext_base.specs.Text.{Text}
use Rattle.irtext_base.specs.Stream.{StreamView, IsAt}
use Rattle.irtext_base.specs.Own.{IsFront}
use Rattle.irtext_base.specs.Answers.{Outcome, Read, Missing, Bad, Refuses, demanded, unless_failed}
use Rattle.irtext_base.specs.Faults.{Fault, fault_of}
use Rattle.irtext_base.specs.declared.parsable.fault.ParseFault.{ParseFault}
use Rattle.irtext_stream.specs.Places.{AtOffset}
use Rattle.irtext_stream.specs.declared.position.Place.{Place}
use Rattle.irtext_stream.specs.declared.position.SourcePosition.{SourcePosition}
use Rattle.irtext_tokens.specs.MustRead.{MustRead}
use Rattle.irtext_tokens.proofs.Steps.{Lens}
use Rattle.irtext_grammar.specs.Contexts.Held.{whole, IsPosition}
use Rattle.irtext_grammar.specs.Grammar.Tree.{Name}
use Rattle.irtext_grammar.specs.Names.Script.{Cause}
use Rattle.irtext_grammar.specs.Promises.Root.{IsCause, UnlessMemory}
use Rattle.irtext_names.specs.Rows.{AreNamed}
use Rattle.irtext_grammar.specs.declared.parsed.ReadName.{ReadName}
use Rattle.irtext_grammar.specs.Parsed.{Leaves, Represents, Each}
use Rattle.irtext_names.specs.Definitions.{IsFaultOf}
use Rattle.irtext_names.specs.Items.{IsFailure, IsTextFault}
use Rattle.irtext_parse_nested.specs.Read.{Demands}

-- ---- places
-- what precedes the place where a text stops
take_front : (front stop : Text) → take (length (front ++ stop) - length stop) (front ++ stop) ≡ front
take_front front stop =
    let e : length (front ++ stop) - length stop ≡ length front = omega (arith, length-append front stop) in
    ap (λ n. take n (front ++ stop)) e ∙ take-append_seam front stop

-- a place of the text is where its characters say
pub place_is_there : {text : Text} {place : Place} {left : ℕ} {at : SourcePosition} → Leaves text place left → AtOffset place.offset text (λ passed rest. IsAt at.line at.column passed) → IsPosition text left at
place_is_there {text} {place} {left} {at} l h =
    let e : take (length text - left) text ≡ l.passed = ap (λ n. take (length text - n) text) l.counts ∙ (ap (λ t. take (length t - length l.rest) t) (sym l.same) ∙ take_front l.passed l.rest) in
    subst (IsAt at.line at.column) (sym e) (h l.passed l.rest l.same l.positioned)

-- ---- required parsers
-- each fault of a parser is in its text
pub record StaysWithin {X : Type 0} (f : Text → Outcome X) : Type 0 where
  pub within : (text : Text) (cause : Fault) (upto : Text) → f text ≡ Bad cause upto → IsFront upto text

pub text_fault : {A : Type 0} (v : StreamView) (cause : Fault) (upto stop : Text) (fault : ParseFault A) → upto ++ stop ≡ v.rest → fault_of fault.cause ≡ cause → IsAt fault.pos.line fault.pos.column (v.passed ++ upto)
    → IsTextFault (whole v) cause (length v.rest - length upto) fault
text_fault v cause upto stop fault e because at =
    let n : length v.rest - length upto ≡ length stop = omega (arith, length-append upto stop, ap length e) in
    let t : take (length (v.passed ++ v.rest) - (length v.rest - length upto)) (v.passed ++ v.rest) ≡ v.passed ++ upto =
    ap (λ n. take (length (v.passed ++ v.rest) - n) (v.passed ++ v.rest)) n
    ∙ (ap (λ t. take (length t - length stop) t) (ap (λ t. v.passed ++ t) (sym e) ∙ sym (append_assoc v.passed upto stop)) ∙ take_front (v.passed ++ upto) stop) in
    record { because = because; placed = subst (IsAt fault.pos.line fault.pos.column) (sym t) at }

module _ {X : Type 0} where
  -- the error of a required parser is out of memory, or what the text is bad for
  pub must_demand : {S Y A : Type 0} (l : Lens S) {see : Y → X} (f : Text → Outcome X) {old new : S} {fault : ParseFault A} → StaysWithin f → (l.view old).failed ≡ false → MustRead l.view l.at see f old (Err fault) new
      → UnlessMemory (Demands (whole (l.view old)) (f (l.view old).rest) (l.view old).rest) fault
  must_demand l f {old} {new} {fault} within fine h = elim h.answers [
    | inl ran_out ↦ inl (record { because = ran_out.because; flag = ran_out.committed })
    | inr refused ↦ inr (go (f (l.view old).rest) refl (subst (λ b. Refuses l.view l.at (demanded (unless_failed b (f (l.view old).rest))) old fault new) fine refused))
  ]
    where
      go : (o : Outcome X) → f (l.view old).rest ≡ o → Refuses l.view l.at (demanded o) old fault new → Demands (whole (l.view old)) (f (l.view old).rest) (l.view old).rest fault
      go (Read x taken rest) is r = absurd r
      go (Missing cause) is r = record { cause = cause; upto = []; bad = ap demanded is; fault_is = text_fault (l.view old) cause [] (l.view old).rest fault refl r.because r.place }
      go (Bad cause upto) is r = let front = within.within (l.view old).rest cause upto is in record { cause = cause; upto = upto; bad = ap demanded is; fault_is = text_fault (l.view old) cause upto front.0 fault front.1 r.because r.place }

-- ---- names
pub some_same : {X : Type 0} {x y : X} → Some x ≡ Some y → x ≡ y
some_same e = cc

-- names that represent those of a text have their names
pub named_each : (names : List Text) (text : Text) (ns : List ReadName) (ws : List (Name ℕ)) → Each (Represents names text) ns ws → AreNamed names (map (λ n. n.name) ns) ws
named_each names text [] [] e = tt
named_each names text [] (w ∷ ws) e = absurd e
named_each names text (n ∷ ns) [] e = absurd e
named_each names text (n ∷ ns) (w ∷ ws) e = (e.0.named, named_each names text ns ws e.1)

-- lists whose elements represent each other are equally long
pub each_length : {X Y : Type 0} (R : Y → X → Type 0) (ys : List Y) (xs : List X) → Each R ys xs → length ys ≡ length xs
each_length R [] [] e = refl
each_length R [] (x ∷ xs) e = absurd e
each_length R (y ∷ ys) [] e = absurd e
each_length R (y ∷ ys) (x ∷ xs) e = ap suc (each_length R ys xs e.1)

-- the element at an index represents the one at this index
pub each_there : {X Y : Type 0} (R : Y → X → Type 0) (ys : List Y) (xs : List X) (i : ℕ) (y : Y) → Each R ys xs → slice_get ys i ≡ Some y → (x : X) × (slice_get xs i ≡ Some x) × R y x
each_there R [] [] i y e f = absurd (cc)
each_there R [] (z ∷ xs) i y e f = absurd e
each_there R (z ∷ ys) [] i y e f = absurd e
each_there R (w ∷ ys) (z ∷ xs) zero y e f = (z, refl, subst (λ q. R q z) (some_same f) e.0)
each_there R (w ∷ ys) (z ∷ xs) (suc i) y e f = each_there R ys xs i y e.1 f

-- a fault that speaks of a name is the failure that does
pub name_failure : {A : Type 0} {names : List Text} {text : Text} {read : ReadName} {w : Name ℕ} {fault : ParseFault A} (says : Text → Fault) (cause : Text → Cause Text) → ((t : Text) (c : Fault) → c ≡ says t → IsCause (cause t) c)
    → Represents names text read w → IsFaultOf names text says read fault → IsFailure text (record { cause = cause w.text; at = Some w.place }) fault
name_failure {names = names} {read = read} {w = w} {fault = fault} says cause on s f =
    let same : f.name ≡ w.text = some_same (sym f.named ∙ s.named) in
    record { cause = on w.text (fault_of fault.cause) (f.because ∙ ap says same); place = place_is_there s.place f.place; committed = f.flag }

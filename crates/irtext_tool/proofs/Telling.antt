-- What is said, from what was appended.
use Rattle.std.proofs.Common.{◌≡◌, ◌⊎◌, inl, inr, ℕ, List, [], ◌++◌, Option, IfSome, Some, None, refl, sym, ap, subst, ◌∙◌, append-nil}
use Rattle.std.specs.Prelude.{Bool, true, Result, Ok, Err, IfOk, OnOk, is_ok, String, string_bytes, codes}
use Rattle.std.specs.Borrow.{Bor}
use Rattle.std.specs.Fmt.{option_append}
use Rattle.std.specs.Io.KnownBytes.{Appends}
use Rattle.std.proofs.KnownBytes.{Appends-nil, Appends-trans}
use Rattle.irtext_base.specs.declared.parsable.fault.ParseFault.{ParseFault}
use Rattle.irtext_diagnostics.specs.declared.messages.Diagnostic.{Diagnostic}
use Rattle.irtext_diagnostics.specs.declared.messages.Severity.TheVariants as severity
use Rattle.irtext_excerpt.specs.declared.Excerpt.{Excerpt}
use Rattle.irtext_stream.specs.declared.position.SourcePosition.{SourcePosition}
use Rattle.irtext_tool.specs.Reports.{said_bytes}
use Rattle.irtext_tool.specs.Told.{made_or, IsOr, HasDetail, Writes, WritesMore, IsPlaced, IsAbout, IsAt, TellsRejection, TellsRejected}
use Rattle.irtext_tool.specs.declared.about.Form.{Form}

-- what was appended on a success is what is said
pub writes : {E : Type 0} (before after : Option (List ℕ)) (r : Result (Unit {0}) E) (bytes : List ℕ) (Holds : List ℕ → Type 0)
    → OnOk r (Appends before after bytes) → Holds bytes → OnOk r (Writes before after Holds)
writes before after (Ok done) bytes Holds appends holds = record { bytes = bytes; appends = appends; holds = holds }
writes before after (Err error) bytes Holds appends holds = tt

-- what is said is also said in other words
pub writes_so : {E : Type 0} (before after : Option (List ℕ)) (r : Result (Unit {0}) E) (P Q : List ℕ → Type 0)
    → ((bytes : List ℕ) → P bytes → Q bytes) → OnOk r (Writes before after P) → OnOk r (Writes before after Q)
writes_so before after (Ok done) P Q so said = record { bytes = said.bytes; appends = said.appends; holds = so said.bytes said.holds }
writes_so before after (Err error) P Q so said = tt

module _ {E : Type 0} (before after : Option (List ℕ)) (r : Result (Unit {0}) E) (form : Form) (path cause : List ℕ) (Says : List ℕ → Type 0) where
  -- an error about a file as a whole was written
  pub writes_about : (message : List ℕ) → OnOk r (Appends before after (said_bytes form severity.Error path None message cause None [])) → Says message
      → OnOk r (Writes before after (IsAbout form path cause Says))
  writes_about message appends says = writes before after r (said_bytes form severity.Error path None message cause None []) (IsAbout form path cause Says) appends (record { message = message; says = says; is = refl })

  -- an error at a place was written
  pub writes_at : (text : List ℕ) (at : Option SourcePosition) (place : Option Excerpt) (message : List ℕ) (name : Option (Bor (List ℕ))) (notes : List Diagnostic)
      → OnOk r (Appends before after (said_bytes form severity.Error path place message cause name notes)) → IsPlaced text at place → Says message
      → OnOk r (Writes before after (IsAt form path cause Says text at))
  writes_at text at place message name notes appends placed says =
      writes before after r (said_bytes form severity.Error path place message cause name notes) (IsAt form path cause Says text at) appends
      (record { place = place; placed = placed; name = name; notes = notes; error = record { message = message; says = says; is = refl } })

-- a message that was made, or the short one
pub is_made : {Z E : Type 0} (made : Result (String Z) E) (text short message : List ℕ) → IfOk made (λ s. string_bytes s ≡ text) → message ≡ made_or made short → IsOr text short message
is_made (Ok s) text short message is from = inl (from ∙ is)
is_made (Err error) text short message is from = inr from

-- a made text that ends in digits
pub with_digits : {Z E : Type 0} (made : Result (String Z) E) (front number : List ℕ) (digits : Option (List ℕ)) → digits ≡ Some number
    → IfOk made (λ s. IfSome (option_append (Some front) digits) (λ bytes. string_bytes s ≡ bytes)) → IfOk made (λ s. string_bytes s ≡ front ++ number)
with_digits made front number digits is ok = subst (λ o. IfOk made (λ s. IfSome (option_append (Some front) o) (λ bytes. string_bytes s ≡ bytes))) is ok

-- a sentence with a detail, or alone
pub has_detail : {Z E : Type 0} (made : Result (String Z) E) (sentence : List ℕ) (detail : Option (List ℕ)) (message : List ℕ)
    → IfOk made (λ s. (text : List ℕ) × IfSome detail (λ d. text ≡ d) × (string_bytes s ≡ sentence ++ (codes ": " ++ text)))
    → message ≡ made_or made sentence → HasDetail sentence detail message
has_detail (Ok s) sentence detail message is from = (is.0, is.1, inl (from ∙ is.2))
has_detail (Err error) sentence None message is from = ([], tt, inr from)
has_detail (Err error) sentence (Some d) message is from = (d, refl, inr from)

-- a made text with a detail, whatever is known of that
pub detailed : {Z E : Type 0} (made : Result (String Z) E) (text sentence : List ℕ) (detail : Option (List ℕ))
    → IfSome detail (λ d. text ≡ d) → IfOk made (λ s. string_bytes s ≡ sentence ++ (codes ": " ++ text))
    → IfOk made (λ s. (t : List ℕ) × IfSome detail (λ d. t ≡ d) × (string_bytes s ≡ sentence ++ (codes ": " ++ t)))
detailed (Ok s) text sentence detail is made = (text, is, made)
detailed (Err error) text sentence detail is made = tt

-- nothing more
pub no_more : (before : Option (List ℕ)) → WritesMore before before
no_more before = record { bytes = []; appends = Appends-nil before; holds = tt }

-- more, and more again
pub more_again : (before mid after : Option (List ℕ)) → WritesMore before mid → WritesMore mid after → WritesMore before after
more_again before mid after first second =
    record { bytes = first.bytes ++ second.bytes; appends = Appends-trans before mid after first.bytes second.bytes first.appends second.appends; holds = tt }

pub then_more : {X E : Type 0} (before mid after : Option (List ℕ)) (r : Result X E) → WritesMore before mid → OnOk r (WritesMore mid after) → OnOk r (WritesMore before after)
then_more before mid after (Ok done) first second = more_again before mid after first second
then_more before mid after (Err error) first second = tt

-- whatever is said is more
pub is_more : {X E : Type 0} (before after : Option (List ℕ)) (r : Result X E) (Holds : List ℕ → Type 0) → OnOk r (Writes before after Holds) → OnOk r (WritesMore before after)
is_more before after (Ok done) Holds said = record { bytes = said.bytes; appends = said.appends; holds = tt }
is_more before after (Err error) Holds said = tt

module _ {A : Type 0} (form : Form) (path text : List ℕ) (f : ParseFault A) where
  -- a rejection, and nothing after it
  pub alone : {E : Type 0} (before after : Option (List ℕ)) (r : Result (Unit {0}) E)
      → OnOk r (Writes before after (TellsRejection form path text f)) → OnOk r (Writes before after (TellsRejected form path text f))
  alone before after r said =
      writes_so before after r (TellsRejection form path text f) (TellsRejected form path text f)
      (λ bytes tells. record { first = bytes; more = []; is = sym (append-nil bytes); tells = tells }) said

  -- a rejection, and more after it
  pub followed : {E : Type 0} (before mid after : Option (List ℕ)) (r : Result (Unit {0}) E)
      → Writes before mid (TellsRejection form path text f) → OnOk r (WritesMore mid after) → OnOk r (Writes before after (TellsRejected form path text f))
  followed before mid after (Ok done) first second =
      record {
        bytes = first.bytes ++ second.bytes;
        appends = Appends-trans before mid after first.bytes second.bytes first.appends second.appends;
        holds = record { first = first.bytes; more = second.bytes; is = refl; tells = first.holds };
      }
  followed before mid after (Err error) first second = tt

-- what holds if all was taken, where all was taken
pub taken : {X E : Type 0} (r : Result X E) (P : Type 0) (took : Bool) → took ≡ is_ok r → took ≡ true → OnOk r P → P
taken (Ok x) P took is it holds = holds
taken (Err error) P took is it holds = absurd (cc)

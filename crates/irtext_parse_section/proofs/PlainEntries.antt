-- Parts of entries as they are mostly printed are those that the parsers of their parts parse.
use Rattle.std.proofs.Common.{◌≡◌, ℕ, false, Option, Some, None, Ok, Vec, [], ◌++◌, codes, refl, sym, ◌∙◌, ap, subst}
use Rattle.std.specs.Global.{Global}
use Rattle.std.specs.Str.{chars}
use Rattle.std.specs.Char.{is_ascii_digit, is_whitespace}
use Rattle.irtext_base.specs.Text.{Text, front, after}
use Rattle.irtext_base.specs.Stream.{StreamView, after_taken}
use Rattle.irtext_stream.specs.Stream.{Comes}
use Rattle.irtext_base.specs.Answers.{Outcome, Read, Missing, Bad, Takes, Gives, prefixed, mapped, followed}
use Rattle.irtext_base.specs.Locations.{AttrView}
use Rattle.irtext_tokens.specs.Demanded.{spaced_at, index_at}
use Rattle.irtext_tokens.specs.Tokens.{word_at, text_at, space_at}
use Rattle.irtext_tokens.proofs.Steps.{mapped_followed, mapped_prefixed}
use Rattle.irtext_grammar.specs.Readers.Streams.{itself, replaced}
use Rattle.irtext_grammar.specs.Names.Acts.{Rule}
use Rattle.irtext_grammar.specs.declared.parsed.Key.{Key}
use Rattle.irtext_grammar.specs.Entries.{pairs_at}
use Rattle.irtext_parse_locations.specs.Plain.{TakesDigits, DigitsAfter, SpaceAfter, Gets}
use Rattle.irtext_parse_locations.proofs.Plain.{number_taken, after_label, gets_must, chars_ascii}
use Rattle.irtext_parse_section.specs.Entries.{location_end_at}
use Rattle.irtext_parse_section.specs.Said.{MustPairs}
use Rattle.irtext_parse_locations.specs.declared.said.GivenAttr.{GivenAttr}

-- `!` was consumed, and digits after it
pub index_taken : (old mid new : StreamView) (rest : Text) (n : ℕ) → old.rest ≡ codes "!" ++ rest → mid ≡ after_taken old (codes "!") rest → TakesDigits mid n new → Gets index_at old new n
index_taken old mid new rest n e m d =
    let t = number_taken n d in
    let v : mid.rest ≡ rest = ap (λ v. v.rest) m in
    after_label index_at (codes "!") (front is_ascii_digit mid.rest) (after is_ascii_digit mid.rest) n old mid new rest e m (rw (← v) (ap (prefixed (codes "!")) t.is)) t.takes

-- ` = ` was consumed, and white space after it
pub equals_taken : (old mid new : StreamView) (rest : Text) → old.rest ≡ codes " = " ++ rest → mid ≡ after_taken old (codes " = ") rest → Takes itself replaced (front is_whitespace mid.rest) (after is_whitespace mid.rest) mid new → Gets (spaced_at (codes "=")) old new tt
equals_taken old mid new rest e m t =
    let v : mid.rest ≡ rest = ap (λ v. v.rest) m in
    after_label (spaced_at (codes "=")) (codes " = ") (front is_whitespace mid.rest) (after is_whitespace mid.rest) tt old mid new rest e m (rw v refl) t

-- `], ` was consumed, and white space after it
pub end_taken : (old mid new : StreamView) (rest : Text) → old.rest ≡ codes "], " ++ rest → mid ≡ after_taken old (codes "], ") rest → Takes itself replaced (front is_whitespace mid.rest) (after is_whitespace mid.rest) mid new → Gets location_end_at old new tt
end_taken old mid new rest e m t =
    let v : mid.rest ≡ rest = ap (λ v. v.rest) m in
    after_label location_end_at (codes "], ") (front is_whitespace mid.rest) (after is_whitespace mid.rest) tt old mid new rest e m (rw v refl) t

-- no pairs are between the brackets
pub no_pairs : {A : Type 0} (attr : Text → Outcome (AttrView A)) (rule : Rule A) (rest : Text) → pairs_at attr rule (codes "[]" ++ rest) ≡ Read [] (codes "[]") rest
unfolding pairs_at word_at
no_pairs attr rule rest = refl

-- `!` was consumed, and digits after it
pub index_after : (old new : StreamView) (n : ℕ) → DigitsAfter (chars (codes "!")) old new n → Gets index_at old new n
index_after old new n d =
    let k : Comes (codes "!") old (λ v. d.mid ≡ v) = subst (λ t. Comes t old (λ v. d.mid ≡ v)) (chars_ascii (codes "!") refl) d.comes in
    index_taken old d.mid new k.0 n k.1 k.2 d.digits

-- ` = ` and white space were passed
pub equals_comes : (old new : StreamView) → SpaceAfter (chars (codes " = ")) old new → Gets (spaced_at (codes "=")) old new tt
equals_comes old new s =
    let k : Comes (codes " = ") old (λ v. s.mid ≡ v) = subst (λ t. Comes t old (λ v. s.mid ≡ v)) (chars_ascii (codes " = ") refl) s.comes in
    equals_taken old s.mid new k.0 k.1 k.2 s.space

-- `], ` and white space were passed
pub end_comes : (old new : StreamView) → SpaceAfter (chars (codes "], ")) old new → Gets location_end_at old new tt
end_comes old new s =
    let k : Comes (codes "], ") old (λ v. s.mid ≡ v) = subst (λ t. Comes t old (λ v. s.mid ≡ v)) (chars_ascii (codes "], ") refl) s.comes in
    end_taken old s.mid new k.0 k.1 k.2 s.space

-- a value after what ends a location
pub end_mapped : {X : Type 0} (x : X) (text : Text) → mapped (λ _. x) (location_end_at text) ≡ followed (spaced_at (codes "]") text) (λ _ t. followed (text_at (codes ",") t) (λ _ u. mapped (λ _. x) (space_at u)))
end_mapped {X} x text = go (spaced_at (codes "]") text)
  where
    go : (o : Outcome (Unit {0})) → mapped (λ _. x) (followed o (λ _ t. followed (text_at (codes ",") t) (λ _ u. space_at u))) ≡ followed o (λ _ t. followed (text_at (codes ",") t) (λ _ u. mapped (λ _. x) (space_at u)))
    go (Read y t r) = mapped_prefixed (λ _. x) t (followed (text_at (codes ",") r) (λ _ u. space_at u)) ∙ ap (prefixed t) (mapped_followed (λ _. x) (text_at (codes ",") r) (λ _ u. space_at u))
    go (Missing cause) = refl
    go (Bad cause upto) = refl

-- brackets without pairs were passed
pub no_pairs_come : {A : Type 0} (attr : Text → Outcome (AttrView A)) (rule : Rule A) (old new : StreamView) → old.failed ≡ false → (none : Vec (Key × GivenAttr A) Global) → none.items ≡ [] → Comes (chars (codes "[]")) old (λ v. new ≡ v) → MustPairs (pairs_at attr rule) old (Ok none) new
no_pairs_come {A} attr rule old new fine none e h =
    let k : Comes (codes "[]") old (λ v. new ≡ v) = subst (λ t. Comes t old (λ v. new ≡ v)) (chars_ascii (codes "[]") refl) h in
    let g : Gets (pairs_at attr rule) old new [] = subst (λ t. Gives itself replaced (pairs_at attr rule t) old [] new) (sym k.1) (subst (λ o. Gives itself replaced o old [] new) (sym (no_pairs attr rule k.0)) (refl, record { is = k.2; same = sym k.1 })) in
    record { meant = λ _. []; means = rw e tt; read = record { answers = (gets_must {A = A} (pairs_at attr rule) old new [] fine g).answers } }

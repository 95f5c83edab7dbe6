-- The parsers' tokens are the grammar's readings.
use Rattle.std.proofs.Common.{◌≡◌, ℕ, Bool, true, false, cond, Some, [], ◌∷◌, ◌++◌, refl, ap, arith}
use Rattle.std.proofs.lemmas.Bool.Decides.{nat_tests}
use Rattle.irtext_base.specs.Text.{Text}
use Rattle.irtext_base.specs.Reading.{the, literal, identifier}
use Rattle.irtext_base.specs.Faults.{Demand, AnIdentifier, Unexpected, Word}
use Rattle.irtext_base.specs.Answers.{Outcome, Read, Missing, Bad, prefixed}
use Rattle.irtext_tokens.specs.Tokens.{word_at, identifier_at, spelled_at, text_at}

-- equal outcomes have equal values, texts and rests
same_read : {X : Type 0} (x y : X) (t u r s : Text) → ◌≡◌ {A = Outcome X} (Read x t r) (Read y u s) → (x ≡ y) × (t ≡ u) × (r ≡ s)
same_read x y t u r s e = (cc, cc, cc)

-- what is parsed after characters that were taken was parsed there
prefixed_read : {X : Type 0} (t : Text) (o : Outcome X) (x : X) (taken rest : Text) → prefixed t o ≡ Read x taken rest → (more : Text) × (o ≡ Read x more rest)
prefixed_read t (Read y more r) x taken rest e = let p = same_read y x (t ++ more) taken r rest e in (more, rw (p.0, p.2) refl)
prefixed_read t (Missing cause) x taken rest e = absurd (cc)
prefixed_read t (Bad cause upto) x taken rest e = absurd (cc)

same_the : (c d : ℕ) → the c d ≡ true → d ≡ c
same_the c d e = grind (arith, nat_tests)

the-same : (c : ℕ) → the c c ≡ true
the-same c = grind (arith, nat_tests)

-- where the other case parses nothing, the test holds
read_tests : {X : Type 0} (b : Bool) (o m : Outcome X) (x : X) (taken rest : Text) → (m ≡ Read x taken rest → ⊥) → cond b o m ≡ Read x taken rest → (b ≡ true) × (o ≡ Read x taken rest)
read_tests true o m x taken rest h e = (refl, e)
read_tests false o m x taken rest h e = absurd (h e)

word_at-identifier : (demand : Demand) (name text rest : Text) → identifier name text rest → word_at demand text ≡ Read name name rest
unfolding word_at
word_at-identifier demand name text rest h = rw (h.0, h.1, h.2) refl

-- an identifier of the grammar is parsed
pub identifier_at-identifier : (name text rest : Text) → identifier name text rest → identifier_at text ≡ Read name name rest
identifier_at-identifier name text rest h = word_at-identifier AnIdentifier name text rest h

-- a fixed text that was parsed is what the text begins with
spelled_from_at : (whole word text taken rest : Text) (u : Unit {0}) → spelled_at whole word text ≡ Read u taken rest → literal word text rest
spelled_from_at whole [] text taken rest u e = (same_read tt u [] taken text rest e).2
spelled_from_at whole (c ∷ word) [] taken rest u e = absurd (cc)
spelled_from_at whole (c ∷ word) (d ∷ text) taken rest u e =
    let t = read_tests (the c d) (prefixed (d ∷ []) (spelled_at whole word text)) (Missing (Unexpected (Some d) (Word whole))) u taken rest (λ q. absurd (cc)) e in
    let p = prefixed_read (d ∷ []) (spelled_at whole word text) u taken rest t.1 in
    rw (same_the c d t.0) (ap (λ z. c ∷ z) (spelled_from_at whole word text p.0 rest u p.1))

pub literal_from_at : (word text taken rest : Text) (u : Unit {0}) → text_at word text ≡ Read u taken rest → literal word text rest
literal_from_at word text taken rest u e = spelled_from_at word word text taken rest u e

-- a fixed text that the text begins with is parsed
spelled_at-literal : (whole word rest : Text) → spelled_at whole word (word ++ rest) ≡ Read tt word rest
spelled_at-literal whole [] rest = refl
spelled_at-literal whole (c ∷ word) rest = rw (the-same c, spelled_at-literal whole word rest) refl

pub text_at-literal : (word text rest : Text) → literal word text rest → text_at word text ≡ Read tt word rest
text_at-literal word text rest h = rw h (spelled_at-literal word word rest)

-- Parsers that return what the grammar parses, put together.
use Rattle.std.proofs.Common.{◌≡◌, ◌∙◌, ℕ, Bool, true, false, cond, Option, Some, None, [], ◌++◌, length, refl, sym, ap, ap₂, subst, append_assoc}
use Rattle.std.specs.Prelude.{◌↔◌}
use Rattle.std.specs.Char.{is_whitespace}
use Rattle.irtext_base.specs.Text.{Text, begins, front, after, after_space}
use Rattle.irtext_base.specs.Reading.{Reading, ◌▹◌, ◌▸◌, white, ends, literal}
use Rattle.irtext_base.specs.Answers.{Read, mapped, followed}
use Rattle.irtext_tokens.specs.Infix.{Reader, nothing, either, ◌▷◌, ◌◁◌, ◌▶◌, ◌⇒◌}
use Rattle.irtext_tokens.specs.Tokens.{space_at, word}
use Rattle.irtext_tokens.specs.Demanded.{spaced_at}
use Rattle.irtext_grammar.proofs.Joins.Answers.{followed_read, followed-read, mapped_read}
use Rattle.irtext_grammar.proofs.Joins.Tokens.{text_read, text-literal, splits_text, splits_space}
use Rattle.irtext_grammar.specs.Exact.{Exact}

-- the same parser, and an equivalent reading
pub exact_as : {X : Type 0} {reader : Reader X} {reading other : X → Reading} → Exact reader reading
    → ((x : X) (text rest : Text) → reading x text rest → other x text rest) → ((x : X) (text rest : Text) → other x text rest → reading x text rest) → Exact reader other
exact_as h there back = record {
  read = λ text x taken rest e. let r = h.read text x taken rest e in (there x text rest r.0, r.1);
  found = λ text x rest r. h.found text x rest (back x text rest r);
}

-- ---- white space and fixed texts
-- the rest after white space
pub exact_space : Exact space_at (λ _ text rest. rest ≡ after_space text)
exact_space = record {
  read = λ text x taken rest e. ((let f : after is_whitespace text ≡ rest = cc e in sym f), splits_space text x taken rest e);
  found = λ text x rest r. (front is_whitespace text, ap (Read tt (front is_whitespace text)) (sym r));
}

-- a fixed text
pub exact_word : (w : Text) → Exact (word w) (λ _. literal w)
exact_word w = record {
  read = λ text x taken rest e. (text_read w text taken rest e, splits_text w text x taken rest e);
  found = λ text x rest r. (w, text-literal w text rest r);
}

-- ---- one after another
-- a text in two parts, of which the second is in two parts
pub split_after_front : (text front middle more rest taken : Text) → front ++ middle ≡ text → more ++ rest ≡ middle → front ++ more ≡ taken → taken ++ rest ≡ text
split_after_front text front middle more rest taken e f g = ap (λ t. t ++ rest) (sym g) ∙ (append_assoc front more rest ∙ (ap (λ t. front ++ t) f ∙ e))

module _ {X Y : Type 0} where
  -- one parser, and after it another that depends on its value, if the value of both determines that of the first
  pub exact_so : {f : Reader X} {k : X → Reader Y} {r : X → Reading} {s : X → Y → Reading} → Exact f r → ((x : X) → Exact (k x) (s x)) → (get : Y → X)
      → ((x : X) (y : Y) (text rest : Text) → s x y text rest → x ≡ get y) → Exact (f ▶ k) (λ y. r (get y) ▸ s (get y) y)
  exact_so {f} {k} {r} {s} h j get sure = record { read = there; found = back }
    where
      there : (text : Text) (y : Y) (taken rest : Text) → followed (f text) k ≡ Read y taken rest → (r (get y) ▸ s (get y) y) text rest × (taken ++ rest ≡ text)
      there text y taken rest e =
          let a = followed_read (f text) k y taken rest e in
          let b = h.read text a.value a.front a.middle a.first in
          let c = (j a.value).read a.middle y a.more rest a.second in
          let same = sure a.value y a.middle rest c.0 in
          ((a.middle, subst (λ x. r x text a.middle) same b.0, subst (λ x. s x y a.middle rest) same c.0), split_after_front text a.front a.middle a.more rest taken b.1 c.1 a.whole)

      back : (text : Text) (y : Y) (rest : Text) → (r (get y) ▸ s (get y) y) text rest → (taken : Text) × (followed (f text) k ≡ Read y taken rest)
      back text y rest (mid, p, q) =
          let a = h.found text (get y) mid p in
          let b = (j (get y)).found mid y rest q in
          (a.0 ++ b.0, followed-read (f text) k (get y) y a.0 mid b.0 rest a.1 b.1)

  -- a parsed value seen by a function, if its image determines it
  pub exact_seen : {f : Reader X} {r : X → Reading} → Exact f r → (see : X → Y) (get : Y → X) (Kept : Y → Type 0)
      → ((x : X) → Kept (see x)) → ((x : X) → get (see x) ≡ x) → ((y : Y) → Kept y → see (get y) ≡ y) → Exact (f ⇒ see) (λ y text rest. Kept y × r (get y) text rest)
  exact_seen {f} {r} h see get Kept kept got same = record { read = there; found = back }
    where
      there : (text : Text) (y : Y) (taken rest : Text) → mapped see (f text) ≡ Read y taken rest → (Kept y × r (get y) text rest) × (taken ++ rest ≡ text)
      there text y taken rest e =
          let m = mapped_read see (f text) y taken rest e in
          let b = h.read text m.0 taken rest m.1 in
          ((subst Kept m.2 (kept m.0), subst (λ x. r x text rest) (sym (got m.0) ∙ ap get m.2) b.0), b.1)

      back : (text : Text) (y : Y) (rest : Text) → Kept y × r (get y) text rest → (taken : Text) × (mapped see (f text) ≡ Read y taken rest)
      back text y rest (k, q) = let a = h.found text (get y) rest q in (a.0, ap (mapped see) a.1 ∙ ap (λ y. Read y a.0 rest) (same y k))

-- what was parsed from a text, put together with the text's place
pub exact_placed : {X N : Type 0} {f : Reader X} {r : X → Reading} → Exact f r → (make : ℕ → X → N) (place : N → ℕ) (value : N → X)
    → ((p : ℕ) (x : X) → place (make p x) ≡ p) → ((p : ℕ) (x : X) → value (make p x) ≡ x) → ((n : N) → make (place n) (value n) ≡ n)
    → Exact (λ text. mapped (make (length text)) (f text)) (λ n text rest. (place n ≡ length text) × r (value n) text rest)
exact_placed {X} {N} {f} {r} h make place value placed valued made = record { read = there; found = back }
  where
    there : (text : Text) (n : N) (taken rest : Text) → mapped (make (length text)) (f text) ≡ Read n taken rest → ((place n ≡ length text) × r (value n) text rest) × (taken ++ rest ≡ text)
    there text n taken rest e =
        let m = mapped_read (make (length text)) (f text) n taken rest e in
        let b = h.read text m.0 taken rest m.1 in
        ((sym (ap place m.2) ∙ placed (length text) m.0, subst (λ x. r x text rest) (sym (valued (length text) m.0) ∙ ap value m.2) b.0), b.1)

    back : (text : Text) (n : N) (rest : Text) → (place n ≡ length text) × r (value n) text rest → (taken : Text) × (mapped (make (length text)) (f text) ≡ Read n taken rest)
    back text n rest (p, q) =
        let a = h.found text (value n) rest q in
        (a.0, ap (mapped (make (length text))) a.1 ∙ ap (λ n. Read n a.0 rest) (ap (λ p. make p (value n)) (sym p) ∙ made n))

module _ {X : Type 0} where
  -- one parser without a value, and the other after it
  pub exact_then : {f : Reader Unit} {g : Reader X} {r : Reading} {s : X → Reading} → Exact f (λ _. r) → Exact g s → Exact (f ▷ g) (λ x. r ▸ s x)
  exact_then h j = exact_so h (λ _. j) (λ _. tt) (λ u x text rest q. refl)

  -- white space before
  pub exact_spaced : {g : Reader X} {s : X → Reading} → Exact g s → Exact (space_at ▷ g) (λ x. white (s x))
  exact_spaced {s = s} j = exact_as (exact_then exact_space j) (λ x text rest (mid, e, q). subst (λ t. s x t rest) e q) (λ x text rest q. (after_space text, refl, q))

module _ {X : Type 0} where
  -- a fixed text before, with white space around it
  pub exact_after : {g : Reader X} {s : X → Reading} (w : Text) → Exact g s → Exact (spaced_at w ▷ g) (λ x. white (literal w ▹ s x))
  exact_after {s = s} w j = exact_as (exact_then (exact_spaced (exact_then (exact_word w) exact_space)) j)
      (λ x text rest (mid, (m, a, e), q). (m, a, subst (λ t. s x t rest) e q)) (λ x text rest (m, a, q). (after_space m, (m, a, refl), q))

  -- one parser without a value after
  pub exact_before : {f : Reader X} {g : Reader Unit} {r : X → Reading} {s : Reading} → Exact f r → Exact g (λ _. s) → Exact (f ◁ g) (λ x. r x ▸ s)
  exact_before h j = exact_as (exact_so h (λ x. exact_seen j (λ _. x) (λ _. tt) (λ y. x ≡ y) (λ _. refl) (λ _. refl) (λ y k. k)) (λ x. x) (λ x y text rest q. q.0))
      (λ x text rest (mid, a, (k, b)). (mid, a, b)) (λ x text rest (mid, a, b). (mid, a, (refl, b)))

-- a key, a fixed text and what is under the key
pub exact_keyed : {K X : Type 0} {f : Reader K} {r : K → Reading} {g : Reader X} {s : X → Reading} (w : Text) → Exact f r → Exact g s → Exact {X = K × X} (f ▶ λ key. spaced_at w ▷ g ⇒ λ x. (key, x)) (λ e. r e.0 ▹ literal w ▹ s e.1)
exact_keyed w h j = exact_as
    (exact_so h (λ key. exact_after w (exact_seen j (λ x. (key, x)) (λ e. e.1) (λ e. key ≡ e.0) (λ x. refl) (λ x. refl) (λ e k. ap (λ k. (k, e.1)) k))) (λ e. e.0) (λ key e text rest q. q.2.0))
    (λ e text rest (m, a, (n, b, (k, c))). (m, a, (n, b, c))) (λ e text rest (m, a, (n, b, c)). (m, a, (n, b, (refl, c))))

-- ---- one or the other
module _ {X : Type 0} {f : Reader X} {r : X → Reading} where
  -- a value if its first character follows, and otherwise none
  pub exact_if : (test : ℕ → Bool) → Exact f r → ((x : X) (text rest : Text) → r x text rest → begins test text ≡ true) → (reading : Option X → Reading)
      → ((text rest : Text) → reading None text rest ↔ ends test text rest) → ((x : X) (text rest : Text) → reading (Some x) text rest ↔ r x text rest)
      → Exact (either (begins test) (f ⇒ Some) (nothing None)) reading
  exact_if test h begun reading none some = record { read = there; found = back }
    where
      there : (text : Text) (o : Option X) (taken rest : Text) → either (begins test) (f ⇒ Some) (nothing None) text ≡ Read o taken rest → reading o text rest × (taken ++ rest ≡ text)
      there text o taken rest e = go (begins test text) refl e
        where
          go : (b : Bool) → begins test text ≡ b → cond b (mapped Some (f text)) (Read None [] text) ≡ Read o taken rest → reading o text rest × (taken ++ rest ≡ text)
          go true b e =
              let m = mapped_read Some (f text) o taken rest e in
              let k = h.read text m.0 taken rest m.1 in
              (subst (λ o. reading o text rest) m.2 ((some m.0 text rest).1 k.0), k.1)
          go false b e =
              let is : None ≡ o = cc e in
              let nothing : [] ≡ taken = cc e in
              let all : text ≡ rest = cc e in
              (subst (λ o. reading o text rest) is ((none text rest).1 (b, sym all)), ap₂ ◌++◌ (sym nothing) (sym all))

      back : (text : Text) (o : Option X) (rest : Text) → reading o text rest → (taken : Text) × (either (begins test) (f ⇒ Some) (nothing None) text ≡ Read o taken rest)
      back text None rest q = let k = (none text rest).0 q in ([], rw k.0 (ap (Read None []) (sym k.1)))
      back text (Some x) rest q =
          let k = (some x text rest).0 q in
          let a = h.found text x rest k in
          (a.0, rw (begun x text rest k) (ap (mapped Some) a.1))

-- What was appended piece by piece, as the text of a location.
use Rattle.std.proofs.Common.{◌≡◌, ◌++◌, ◌∙◌, ℕ, Bool, true, false, cond, List, [], ◌∷◌, refl, sym, ap, Option, Some, None}
use Rattle.std.proofs.lemmas.List.{append_assoc, append-nil}
use Rattle.std.proofs.lemmas.Str.{encodes-append}
use Rattle.std.specs.Char.{is_ascii}
use Rattle.std.specs.List.{list_all}
use Rattle.std.specs.Str.{encode_utf8_all}
use Rattle.irtext_base.specs.Text.{Text}
use Rattle.irtext_print.specs.Errors.Located.{between, framed}
use Rattle.irtext_grammar.specs.Spelling.Spell.{joined, joined_from, comma}
use Rattle.irtext_grammar.proofs.Lists.Ascii.{ascii-from, encodes-ascii}

-- a fixed word
pub word : (w : Text) → list_all is_ascii w ≡ true → w ≡ encode_utf8_all w
word w e = sym (encodes-ascii w (ascii-from w e))

-- one text more
pub more : (old mid new : List ℕ) (t u : Text) → mid ≡ old ++ encode_utf8_all t → new ≡ mid ++ encode_utf8_all u → new ≡ old ++ encode_utf8_all (t ++ u)
more old mid new t u p q = q ∙ ap (λ z. z ++ encode_utf8_all u) p ∙ append_assoc old (encode_utf8_all t) (encode_utf8_all u) ∙ ap (λ z. old ++ z) (sym (encodes-append t u))

-- one word more
pub worded : (old mid new : List ℕ) (w u : Text) → list_all is_ascii w ≡ true → mid ≡ old ++ w → new ≡ mid ++ encode_utf8_all u → new ≡ old ++ encode_utf8_all (w ++ u)
worded old mid new w u e p q = more old mid new w u (p ∙ ap (λ z. old ++ z) (word w e)) q

-- what follows a word
pub unworded : (old new : List ℕ) (w u : Text) → list_all is_ascii w ≡ true → new ≡ old ++ encode_utf8_all (w ++ u) → new ≡ (old ++ w) ++ encode_utf8_all u
unworded old new w u e q = q ∙ sym (worded old (old ++ w) ((old ++ w) ++ encode_utf8_all u) w u e refl refl)

-- a word at the end
pub ending : (old mid new : List ℕ) (t w : Text) → list_all is_ascii w ≡ true → mid ≡ old ++ encode_utf8_all t → new ≡ mid ++ w → new ≡ old ++ encode_utf8_all (t ++ w)
ending old mid new t w e p q = more old mid new t w p (q ∙ ap (λ z. mid ++ z) (word w e))

-- a text between two words
pub enclosed : (a t c : Text) (f0 f1 f2 f3 : List ℕ) → list_all is_ascii a ≡ true → list_all is_ascii c ≡ true
    → f1 ≡ f0 ++ a → f2 ≡ f1 ++ encode_utf8_all t → f3 ≡ f2 ++ c → f3 ≡ f0 ++ encode_utf8_all (a ++ (t ++ c))
enclosed a t c f0 f1 f2 f3 i k p q r = worded f0 f1 f3 a (t ++ c) i p (ending f1 f2 f3 t c k q r)

-- two texts with a word before them, one between and one after
pub two_framed : (a t b u c : Text) (f0 f1 f2 f3 f4 f5 : List ℕ) → list_all is_ascii a ≡ true → list_all is_ascii b ≡ true → list_all is_ascii c ≡ true
    → f1 ≡ f0 ++ a → f2 ≡ f1 ++ encode_utf8_all t → f3 ≡ f2 ++ b → f4 ≡ f3 ++ encode_utf8_all u → f5 ≡ f4 ++ c
    → f5 ≡ f0 ++ encode_utf8_all (a ++ (t ++ (b ++ (u ++ c))))
two_framed a t b u c f0 f1 f2 f3 f4 f5 i j k p q r s v = worded f0 f1 f5 a (t ++ (b ++ (u ++ c))) i p (more f1 f2 f5 t (b ++ (u ++ c)) q (enclosed b u c f2 f3 f4 f5 j k r s v))

-- two texts with a word between
pub between_two : (t b u : Text) (f0 f1 f2 f3 : List ℕ) → list_all is_ascii b ≡ true → f1 ≡ f0 ++ encode_utf8_all t → f2 ≡ f1 ++ b → f3 ≡ f2 ++ encode_utf8_all u
    → f3 ≡ f0 ++ encode_utf8_all (t ++ (b ++ u))
between_two t b u f0 f1 f2 f3 j p q r = more f0 f1 f3 t (b ++ u) p (worded f1 f2 f3 b u j q r)

-- what is left of items with `, ` between
abbrev pub left_text : Bool → List Text → Text
left_text true ts = joined comma ts
left_text false ts = joined_from comma ts

-- the first item, or one after `, `
pub item_written : (first : Bool) (t : Text) (ts : List Text) (now between next all : List ℕ) → between ≡ now ++ cond first [] comma → next ≡ between ++ encode_utf8_all t
    → now ++ encode_utf8_all (left_text first (t ∷ ts)) ≡ all → next ++ encode_utf8_all (left_text false ts) ≡ all
item_written true t ts now between next all p q h =
    more now next (next ++ encode_utf8_all (joined_from comma ts)) t (joined_from comma ts) (q ∙ ap (λ z. z ++ encode_utf8_all t) (p ∙ append-nil now)) refl ∙ h
item_written false t ts now between next all p q h =
    worded now between (next ++ encode_utf8_all (joined_from comma ts)) comma (t ++ joined_from comma ts) refl p (more between next (next ++ encode_utf8_all (joined_from comma ts)) t (joined_from comma ts) q refl) ∙ h

-- a text between two words, if there is one
pub framed_bytes : (a c : Text) → list_all is_ascii a ≡ true → list_all is_ascii c ≡ true → (known : Option Text) → framed a c known ≡ encode_utf8_all (between a c known)
framed_bytes a c i k None = refl
framed_bytes a c i k (Some l) = sym (append_assoc a (encode_utf8_all l) c) ∙ enclosed a l c [] a (a ++ encode_utf8_all l) ((a ++ encode_utf8_all l) ++ c) i k refl refl refl

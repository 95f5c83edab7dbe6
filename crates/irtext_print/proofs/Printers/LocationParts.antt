-- What is left of a location's text, step by step.
use Rattle.std.proofs.Common.{◌≡◌, ◌++◌, ◌∙◌, ◌<◌, ◌≤◌, ◌+◌, length, ℕ, Bool, true, false, cond, List, [], ◌∷◌, true≢false, refl, sym, ap, subst, codes, Option, Some, None, Result, Ok, Err, IfOk, OnOk, arith, string_bytes, Vec, String, Global}
use Rattle.std.proofs.lemmas.List.{append_assoc, append-nil}
use Rattle.std.specs.Option.{IsSome, option_to_list}
use Rattle.std.specs.Str.{encode_utf8_all}
use Rattle.std.specs.Prelude.{◌↔◌, vec_len}
use Rattle.irtext_base.specs.Text.{Text}
use Rattle.irtext_base.specs.declared.location.Location.{Location}
use Rattle.irtext_grammar.specs.Spelling.Locations.{location_text}
use Rattle.irtext_grammar.specs.Spelling.Spell.{joined_from, comma}
use Rattle.irtext_print.specs.Printers.LocationParts.{Continues, list_texts, list_weight, part_text, part_weight, row_text, waiting_text, waiting_weight}
use Rattle.irtext_print.specs.declared.location.parts.Part.{Part}
use Rattle.irtext_print.proofs.Printers.Locations.{more, word}

module _ {A : Type 0} (written : A → Text) (paths : List (List ℕ)) where
  -- one more part that waits
  pub waiting_pushed : (ps : List (Part A)) (p : Part A) → waiting_text written paths (ps ++ p ∷ []) ≡ part_text written paths p ++ waiting_text written paths ps
  waiting_pushed [] p = sym (append-nil (part_text written paths p))
  waiting_pushed (q ∷ ps) p = ap (λ z. z ++ part_text written paths q) (waiting_pushed ps p) ∙ append_assoc (part_text written paths p) (waiting_text written paths ps) (part_text written paths q)

  pub weight_pushed : (ps : List (Part A)) (p : Part A) → waiting_weight (ps ++ p ∷ []) ≡ part_weight p + waiting_weight ps
  weight_pushed [] p = refl
  weight_pushed (q ∷ ps) p = omega (arith, weight_pushed ps p)

  -- a word before what goes on
  pub further : (old mid new : String Global) (w text whole : Text) (small size : ℕ) (before after : List (Part A)) (next : Option (Part A)) → string_bytes mid ≡ string_bytes old ++ encode_utf8_all w
      → whole ≡ w ++ text → small ≤ size → Continues written paths text small before mid after new next → Continues written paths whole size before old after new next
  further old mid new w text whole small size before after next p e l h =
      let rest = waiting_text written paths before in
      record {
        text_left = h.text_left ∙ more (string_bytes old) (string_bytes mid) (string_bytes mid ++ encode_utf8_all (text ++ rest)) w (text ++ rest) p refl
            ∙ ap (λ z. string_bytes old ++ encode_utf8_all z) (sym (append_assoc w text rest) ∙ ap (λ z. z ++ rest) (sym e));
        less = omega (arith, h.less, l);
      }

  -- a last word, and then the part that waited last
  pub ended : (old new : String Global) (w whole : Text) (size : ℕ) (before : Vec (Part A) Global) (after : List (Part A)) (next : Option (Part A)) → string_bytes new ≡ string_bytes old ++ encode_utf8_all w → whole ≡ w → 1 ≤ size
      → before.items ≡ after ++ option_to_list next → IsSome next ↔ (0 < vec_len before) → Continues written paths whole size before.items old after new next
  ended old new w whole size before after next p e l i h = further old new new w [] whole 1 size before.items after next p (e ∙ sym (append-nil w)) l (popped before after next i h)
    where
      no_parts : (ps : List (Part A)) → ¬ (0 < length ps) → ps ≡ []
      no_parts [] n = refl
      no_parts (p ∷ ps) n = absurd (n (omega arith))

      popped : (before : Vec (Part A) Global) (after : List (Part A)) (next : Option (Part A)) → before.items ≡ after ++ option_to_list next → IsSome next ↔ (0 < vec_len before)
          → Continues written paths [] 1 before.items new after new next
      popped before after None e h =
          let empty : before.items ≡ [] = no_parts before.items (λ more. true≢false (sym (h.1 (subst (λ n. 0 < n) (sym before.ok.0) more)))) in
          subst (λ z. Continues written paths [] 1 z new after new None) (sym empty) (record { text_left = refl; less = omega arith })
      popped before after (Some p) e h =
          subst (λ z. Continues written paths [] 1 z new after new (Some p)) (sym e) (record {
            text_left = ap (λ z. string_bytes new ++ encode_utf8_all z) (sym (waiting_pushed after p));
            less = omega (arith, weight_pushed after p);
          })

  -- a word, and then another part in place of this one
  pub turned : (old new : String Global) (w whole : Text) (size : ℕ) (before : List (Part A)) (next : Part A) → string_bytes new ≡ string_bytes old ++ encode_utf8_all w
      → whole ≡ w ++ part_text written paths next → part_weight next < size → Continues written paths whole size before old before new (Some next)
  turned old new w whole size before next p e l =
      further old new new w (part_text written paths next) whole (1 + part_weight next) size before before (Some next) p e (omega (arith, l)) (record { text_left = refl; less = omega arith })

  -- a word, and then a location after which a part waits
  pub entered : {E : Type 0} (r : Result (Option (Part A)) E) (old new : String Global) (w whole : Text) (size : ℕ) (before after : List (Part A)) (next following : Part A) → string_bytes new ≡ string_bytes old ++ encode_utf8_all w
      → whole ≡ w ++ (part_text written paths next ++ part_text written paths following) → part_weight next + part_weight following < size
      → IfOk r (λ n. n ≡ Some next) → OnOk r (after ≡ before ++ following ∷ []) → IfOk r (Continues written paths whole size before old after new)
  entered (Err e) old new w whole size before after next following p q l n i = tt
  entered (Ok found) old new w whole size before after next following p q l n i =
      let a = part_text written paths next in
      let b = part_text written paths following in
      subst (λ z. Continues written paths whole size before old after new z) (sym n)
      (subst (λ z. Continues written paths whole size before old z new (Some next)) (sym i)
      (further old new new w (a ++ b) whole (1 + (part_weight next + part_weight following)) size before (before ++ following ∷ []) (Some next) p q (omega (arith, l)) (record {
        text_left = ap (λ z. string_bytes new ++ encode_utf8_all z) (ap (λ z. a ++ z) (waiting_pushed before following) ∙ sym (append_assoc a b (waiting_text written paths before)));
        less = omega (arith, weight_pushed before following);
      })))

  -- the end of a row, and one location more of it
  pub row_ends : (first : Bool) (left : List (Location A)) → length left ≡ 0 → row_text written paths first left ≡ codes "]"
  row_ends true [] e = refl
  row_ends false [] e = refl
  row_ends first (l ∷ ls) e = absurd (omega (arith, e))

  pub row_goes_on : (first : Bool) (l : Location A) (ls : List (Location A)) → row_text written paths first (l ∷ ls) ≡ cond first [] comma ++ (location_text written paths l ++ row_text written paths false ls)
  row_goes_on true l ls = append_assoc (location_text written paths l) (joined_from comma (list_texts written paths ls)) (codes "]")
  row_goes_on false l ls = regroup comma (location_text written paths l) (joined_from comma (list_texts written paths ls)) (codes "]")
    where
      regroup : (a b c d : Text) → (a ++ (b ++ c)) ++ d ≡ a ++ (b ++ (c ++ d))
      regroup a b c d = simp append_assoc

-- a comma, but not before the first
pub comma_written : (first : Bool) (old new : List ℕ) → new ≡ old ++ cond first [] comma → new ≡ old ++ encode_utf8_all (cond first [] comma)
comma_written true old new e = e
comma_written false old new e = e ∙ ap (λ z. old ++ z) (word comma refl)

-- what is left of a row is no less than its end
pub row_weighs : {A : Type 0} (left : List (Location A)) → 1 ≤ list_weight left
row_weighs left = omega arith

-- a word in two texts
pub in_front : (a t b u : Text) → a ++ (t ++ (b ++ u)) ≡ (a ++ (t ++ b)) ++ u
in_front a t b u = simp append_assoc

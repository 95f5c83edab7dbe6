-- Long lines: the parts of a text that fit into so many columns.
use Rattle.std.proofs.Common.{◌≡◌, ◌∙◌, ℕ, ◌+◌, ◌-◌, ◌<◌, ◌≤◌, true, false, cond, nat_lt, [], ◌∷◌, ◌++◌, length, take, drop, get_or, refl, sym, ap, subst, arith, append-nil}
use Rattle.std.proofs.lemmas.Bool.Decides.{nat_tests}
use Rattle.std.proofs.lemmas.List.{append_assoc, take_more, drop_more, drop_all}
use Rattle.irtext_stream.specs.Text.{Text}
use Rattle.irtext_excerpt.specs.Excerpt.{columns, shown, shown_as, beginning, ending}
use Rattle.irtext_excerpt.proofs.Excerpts.{width-fewer}

-- a text that fits is its own end
pub ending-fits : (xs : Text) → columns (shown xs) ≤ 60 → ending xs ≡ xs
ending-fits [] h = refl
ending-fits (c ∷ xs) h = let e : nat_lt 60 (columns (shown (c ∷ xs))) ≡ false = grind (arith, nat_tests) in ap (λ b. cond b (ending xs) (c ∷ xs)) e

-- the end of one that does not is that of the text without its first character
ending-more : (xs : Text) (c : ℕ) (ys : Text) → xs ≡ c ∷ ys → 60 < columns (shown xs) → ending xs ≡ ending ys
ending-more xs c ys e h =
    let long : 60 < columns (shown (c ∷ ys)) = subst (λ t. 60 < columns (shown t)) e h in
    let f : nat_lt 60 (columns (shown (c ∷ ys))) ≡ true = grind (arith, nat_tests) in
    ap ending e ∙ ap (λ b. cond b (ending ys) (c ∷ ys)) f

-- a character that fits
beginning-more : (room c : ℕ) (xs ys : Text) → xs ≡ c ∷ ys → columns (shown_as c) ≤ room → beginning room xs ≡ c ∷ beginning (room - columns (shown_as c)) ys
beginning-more room c xs ys e h =
    let f : nat_lt room (columns (shown_as c)) ≡ false = grind (arith, nat_tests) in
    ap (beginning room) e ∙ ap (λ b. cond b [] (c ∷ beginning (room - columns (shown_as c)) ys)) f

-- one that does not
beginning-none : (room c : ℕ) (xs ys : Text) → xs ≡ c ∷ ys → room < columns (shown_as c) → beginning room xs ≡ []
beginning-none room c xs ys e h =
    let f : nat_lt room (columns (shown_as c)) ≡ true = grind (arith, nat_tests) in
    ap (beginning room) e ∙ ap (λ b. cond b [] (c ∷ beginning (room - columns (shown_as c)) ys)) f

-- ---- the loops over a text, at its next character
module _ (cs : Text) (n c w : ℕ) (more : n < length cs) (is : c ≡ get_or cs n c) (takes : w ≡ columns (shown_as c)) where
  next : drop n cs ≡ c ∷ drop (n + 1) cs
  next = drop_more cs n c more ∙ ap (λ z. z ∷ drop (n + 1) cs) (sym is)

  longer : take (n + 1) cs ≡ take n cs ++ c ∷ []
  longer = take_more cs n c more ∙ ap (λ z. take n cs ++ z ∷ []) (sym is)

  pub fitting_step : (room : ℕ) → w ≤ room → beginning 60 cs ≡ take n cs ++ beginning room (drop n cs) → beginning 60 cs ≡ take (n + 1) cs ++ beginning (room - w) (drop (n + 1) cs)
  fitting_step room h e =
      let rest = beginning (room - columns (shown_as c)) (drop (n + 1) cs) in
      e ∙ ap (λ z. take n cs ++ z) (beginning-more room c (drop n cs) (drop (n + 1) cs) next (subst (λ k. k ≤ room) takes h)) ∙ sym (append_assoc (take n cs) (c ∷ []) rest)
      ∙ ap (λ z. z ++ rest) (sym longer) ∙ ap (λ k. take (n + 1) cs ++ beginning (room - k) (drop (n + 1) cs)) (sym takes)

  pub fitting_stop : (room : ℕ) → room < w → beginning 60 cs ≡ take n cs ++ beginning room (drop n cs) → take n cs ≡ beginning 60 cs
  fitting_stop room h e =
      sym (e ∙ ap (λ z. take n cs ++ z) (beginning-none room c (drop n cs) (drop (n + 1) cs) next (subst (λ k. room < k) takes h)) ∙ append-nil (take n cs))

  pub excess_step : (width : ℕ) → 60 < width → width ≡ columns (shown (drop n cs)) → ending cs ≡ ending (drop n cs)
      → (width - w ≡ columns (shown (drop (n + 1) cs))) × (ending cs ≡ ending (drop (n + 1) cs))
  excess_step width h e f =
      let wide : columns (shown (drop n cs)) ≡ w + columns (shown (drop (n + 1) cs)) = ap (λ t. columns (shown t)) next ∙ width-fewer c (drop (n + 1) cs) ∙ ap (λ k. k + columns (shown (drop (n + 1) cs))) (sym takes) in
      (omega (arith, e, wide), f ∙ ending-more (drop n cs) c (drop (n + 1) cs) next (subst (λ k. 60 < k) e h))

-- ---- the same at the end of the text
pub fitting_end : (cs : Text) (n room : ℕ) → n ≡ length cs → beginning 60 cs ≡ take n cs ++ beginning room (drop n cs) → take n cs ≡ beginning 60 cs
fitting_end cs n room h e = sym (e ∙ ap (λ t. take n cs ++ beginning room t) (drop_all n cs (omega (arith, h))) ∙ append-nil (take n cs))

pub excess_end : (cs : Text) (n : ℕ) → n ≡ length cs → ending cs ≡ ending (drop n cs) → drop n cs ≡ ending cs
excess_end cs n h e = let none = drop_all n cs (omega (arith, h)) in none ∙ sym (e ∙ ap ending none)
